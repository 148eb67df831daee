use Rattle.std.proofs.Common.{◌≡◌, ◌≢◌, ◌∷◌, Some, None, ap, ◌∙◌, sym, subst, rules}
use Rattle.std.specs.Str.{chars}
use Rattle.urlpattern_syntax.specs.declared.tokenizer.Token.{Token}
use Rattle.urlpattern_syntax.specs.declared.tokenizer.TokenType.TheVariants.{Asterisk, Name, Regexp}
use Rattle.urlpattern_syntax.proofs.TokenWords.{BeginsWithToken}
use Rattle.urlpattern_syntax.specs.Parsing.{BeginsWithPlaceholder}
use Rattle.urlpattern_syntax.specs.Pieces.{Placeholder, PlaceholderKindView as matched}
use Rattle.urlpattern_syntax.specs.Tokens.{token_view}
use Rattle.urlpattern_syntax.proofs.PieceLemmas.{asterisk_left, named, named_regexp, unnamed_regexp, wildcard}
use Rattle.urlpattern_parser.proofs.ReaderLemmas.{takes_then, takes_weaker}
use Rattle.urlpattern_parser.proofs.parser.pieces.Reader.placeholder.Goals as goal

pub returns-then-ne-clause-placeholder : goal.returns-then-ne-clause-placeholder
returns-then-ne-clause-placeholder c =
    let token = c.args.self.now.token in
    let first = c.in_ok-first.first in
    let same : first ≡ token = c.in_ok-first.ensures.token in
    let is_name : first.kind ≡ Name = c.in-Name.is in
    let other : c.take.new.self.token.kind ≢ Regexp = search rules in
    let placeholder : Placeholder = record { name = Some (chars first.value.now); matched = matched.Segment } in
    takes_weaker c.args.self.now c.take.new.self (λ tokens rest. tokens ≡ token_view token ∷ rest) (λ tokens rest. BeginsWithPlaceholder tokens placeholder rest) c.in_ok-first.ensures.takes
    (λ x y gx gy p. named x y (token_view first) (p ∙ ap (λ t. token_view t ∷ y) (sym same)) is_name (λ h. other (subst (BeginsWithToken Regexp) gy.first h)))

pub returns-in_ok-regexp-in-Name-clause-placeholder : goal.returns-in_ok-regexp-in-Name-clause-placeholder
returns-in_ok-regexp-in-Name-clause-placeholder c =
    let token = c.args.self.now.token in
    let second = c.take.new.self.token in
    let first = c.in_ok-first.first in
    let regexp = c.in_ok-regexp-in-Name.regexp in
    let same : first ≡ token = c.in_ok-first.ensures.token in
    let also : regexp ≡ second = c.in_ok-regexp-in-Name.ensures.token in
    let is_name : first.kind ≡ Name = c.in-Name.is in
    let is_regexp : second.kind ≡ Regexp = search rules in
    let placeholder : Placeholder = record { name = Some (chars first.value.now); matched = matched.Custom (chars regexp.value.now) } in
    takes_then c.args.self.now c.take.new.self c.take-in-Name.new.self (λ tokens rest. tokens ≡ token_view token ∷ rest) (λ tokens rest. tokens ≡ token_view second ∷ rest) (λ tokens rest. BeginsWithPlaceholder tokens placeholder rest)
    c.in_ok-first.ensures.takes c.in_ok-regexp-in-Name.ensures.takes
    (λ x y z gx gy gz p q. named_regexp x y z (token_view first) (token_view regexp) (p ∙ ap (λ t. token_view t ∷ y) (sym same)) is_name
    (q ∙ ap (λ t. token_view t ∷ z) (sym also)) (ap (λ (t : Token). t.kind) also ∙ is_regexp))

pub returns-in-Regexp-clause-placeholder : goal.returns-in-Regexp-clause-placeholder
returns-in-Regexp-clause-placeholder c =
    let token = c.args.self.now.token in
    let first = c.in_ok-first.first in
    let same : first ≡ token = c.in_ok-first.ensures.token in
    let placeholder : Placeholder = record { name = None; matched = matched.Custom (chars first.value.now) } in
    takes_weaker c.args.self.now c.take.new.self (λ tokens rest. tokens ≡ token_view token ∷ rest) (λ tokens rest. BeginsWithPlaceholder tokens placeholder rest) c.in_ok-first.ensures.takes
    (λ x y gx gy p. unnamed_regexp x y (token_view first) (p ∙ ap (λ t. token_view t ∷ y) (sym same)) c.in-Regexp.is)

pub returns-in_default : goal.returns-in_default
returns-in_default c =
    let token = c.args.self.now.token in
    let first = c.in_ok-first.first in
    let same : first ≡ token = c.in_ok-first.ensures.token in
    let kind : first.kind ≡ token.kind = ap (λ (t : Token). t.kind) same in
    let is_asterisk : token.kind ≡ Asterisk = asterisk_left token.kind c.requires.placeholder (λ e. c.in_default.not-Name (kind ∙ e)) (λ e. c.in_default.not-Regexp (kind ∙ e)) in
    let placeholder : Placeholder = record { name = None; matched = matched.Anything } in
    record {
      placeholder = takes_weaker c.args.self.now c.take.new.self (λ tokens rest. tokens ≡ token_view token ∷ rest) (λ tokens rest. BeginsWithPlaceholder tokens placeholder rest) c.in_ok-first.ensures.takes
          (λ x y gx gy p. wildcard x y (token_view token) p is_asterisk);
      named = tt;
      less = c.in_ok-first.ensures.less;
      fault = tt;
    }
