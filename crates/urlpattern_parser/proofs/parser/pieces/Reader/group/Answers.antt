use Rattle.std.proofs.Common.{◌≡◌, ◌≢◌, false, ◌∙◌, sym}
use Rattle.urlpattern_syntax.specs.declared.tokenizer.TokenType.TheVariants.{Close}
use Rattle.urlpattern_syntax.specs.Parsing.{BeginsWithClose}
use Rattle.urlpattern_parser.specs.Readers.{Consumes, placeholder_view}
use Rattle.urlpattern_syntax.specs.Pieces.{is_placeholder}
use Rattle.urlpattern_syntax.specs.Text.{text_of}
use Rattle.urlpattern_syntax.specs.Tokens.{token_view}
use Rattle.urlpattern_parser.proofs.BracedLemmas.{takes_filled_group, takes_front, takes_inner, takes_open_filled, takes_open_texts, takes_text_group}
use Rattle.urlpattern_parser.proofs.parser.pieces.Reader.group.Goals as goal

pub returns-in-Some-clause-next : goal.returns-in-Some-clause-next
returns-in-Some-clause-next c =
    let front = takes_front c.args.self.now c.take.new.self c.texts.new.self (token_view c.args.self.now.token) (text_of c.in_ok-before.before) c.in_ok-_opening.ensures.takes c.in_ok-before.ensures.texts in
    let closes : Consumes c.texts.new.self c.close.new.self (λ tokens rest. BeginsWithClose tokens c.in-Some.modifier rest) = rw c.in-Some.is at c.in_ok-modifier.ensures.closes in
    takes_text_group c.args.self.now c.texts.new.self c.close.new.self (text_of c.in_ok-before.before) c.in-Some.modifier c.requires.opening front closes

pub returns-in-None-clause-next : goal.returns-in-None-clause-next
returns-in-None-clause-next c =
    let front = takes_front c.args.self.now c.take.new.self c.texts.new.self (token_view c.args.self.now.token) (text_of c.in_ok-before.before) c.in_ok-_opening.ensures.takes c.in_ok-before.ensures.texts in
    let lacks : Consumes c.texts.new.self c.close.new.self (λ tokens rest. tokens ≡ rest) = rw c.in-None.is at c.in_ok-modifier.ensures.lacks in
    let other : c.close.new.self.token.kind ≢ Close = rw c.in-None.is at c.in_ok-modifier.ensures.other in
    let none : is_placeholder c.texts.new.self.token.kind ≡ false = sym c.is_placeholder.ensures ∙ c.if-not-is_placeholder.true in
    takes_open_texts c.args.self.now c.texts.new.self c.close.new.self (text_of c.in_ok-before.before) c.requires.opening none other front lacks

pub returns-in-Some-2-clause-next : goal.returns-in-Some-2-clause-next
returns-in-Some-2-clause-next c =
    let before = text_of c.in_ok-before.before in
    let what = placeholder_view c.in_ok-placeholder.placeholder in
    let after = text_of c.in_ok-after.after in
    let inner = takes_inner c.args.self.now c.texts.new.self c.placeholder.new.self c.texts-2.new.self (token_view c.args.self.now.token) before what after
    (takes_front c.args.self.now c.take.new.self c.texts.new.self (token_view c.args.self.now.token) before c.in_ok-_opening.ensures.takes c.in_ok-before.ensures.texts)
    c.in_ok-placeholder.ensures.placeholder c.in_ok-after.ensures.texts in
    let closes : Consumes c.texts-2.new.self c.close-2.new.self (λ tokens rest. BeginsWithClose tokens c.in-Some-2.modifier rest) = rw c.in-Some-2.is at c.in_ok-modifier-2.ensures.closes in
    takes_filled_group c.args.self.now c.texts-2.new.self c.close-2.new.self before what after c.in-Some-2.modifier c.requires.opening inner closes

pub returns-in-None-2-clause-next : goal.returns-in-None-2-clause-next
returns-in-None-2-clause-next c =
    let before = text_of c.in_ok-before.before in
    let what = placeholder_view c.in_ok-placeholder.placeholder in
    let after = text_of c.in_ok-after.after in
    let lacks : Consumes c.texts-2.new.self c.close-2.new.self (λ tokens rest. tokens ≡ rest) = rw c.in-None-2.is at c.in_ok-modifier-2.ensures.lacks in
    let other : c.close-2.new.self.token.kind ≢ Close = rw c.in-None-2.is at c.in_ok-modifier-2.ensures.other in
    takes_open_filled c.args.self.now c.texts-2.new.self c.close-2.new.self before what after c.requires.opening other
    (takes_inner c.args.self.now c.texts.new.self c.placeholder.new.self c.texts-2.new.self (token_view c.args.self.now.token) before what after
    (takes_front c.args.self.now c.take.new.self c.texts.new.self (token_view c.args.self.now.token) before c.in_ok-_opening.ensures.takes c.in_ok-before.ensures.texts)
    c.in_ok-placeholder.ensures.placeholder c.in_ok-after.ensures.texts)
    lacks
