use Rattle.urlpattern_parser.proofs.LexemeLemmas.{ReportsFaultUnder-first}
use Rattle.std.proofs.Common.{◌≡◌, length, ap, inl, inr, rules, tests, arith}
use Rattle.std.specs.Str.{chars}
use Rattle.urlpattern_syntax.specs.declared.tokenizer.TokenizePolicy.TheVariants as policies
use Rattle.urlpattern_syntax.specs.Text.{byte_len}
use Rattle.urlpattern_parser.proofs.ReaderLemmas.{left_within, place_next}
use Rattle.urlpattern_syntax.proofs.TextLemmas.{byte_len-nil, chars-empty, chars-some}
use Rattle.urlpattern_syntax.proofs.TokenLemmas.{IsLexed-shorter, end_view}
use Rattle.urlpattern_parser.proofs.tokenizer.cursors.Cursor.next.Goals as goal

pub returns-then-is_empty-clause-token : goal.returns-then-is_empty-clause-token
returns-then-is_empty-clause-token c =
    let input = c.args.self.now.input.now in
    let rest = c.args.self.now.rest.now in
    let none : length rest ≡ 0 = search (rules, tests) in
    let empty = chars-empty rest none in
    let e = ap byte_len empty in
    let nil = byte_len-nil in
    let at = c.place_of-place.ensures in
    inl (empty, end_view (chars input) (chars rest) c.place_of-place.result (omega (arith, e, nil, at)) empty, empty)

pub next_lexeme-requires-clause-characters : goal.next_lexeme-requires-clause-characters
next_lexeme-requires-clause-characters c = chars-some c.args.self.now.rest.now (search rules) (λ e. search (rules, tests))

pub returns-in-Ok-clause-place : goal.returns-in-Ok-clause-place
returns-in-Ok-clause-place c =
    place_next (chars c.args.self.now.input.now) (chars c.args.self.now.rest.now) (chars c.in-Ok.lexeme.value.now) (chars c.in-Ok.lexeme.rest.now) (chars c.skip_ignored-self.result.now) c.in-Ok.lexeme.kind c.place_of-place.result
    c.requires c.in-Ok.ensures c.place_of-place.ensures c.skip_ignored-self.ensures.skips c.skip_ignored-self.ensures.all

pub returns-in-Ok-clause-token : goal.returns-in-Ok-clause-token
returns-in-Ok-clause-token c =
    inr (chars c.in-Ok.lexeme.rest.now, record { lexed = c.in-Ok.ensures; place = c.place_of-place.ensures }, c.skip_ignored-self.ensures.skips)

pub returns-in-Ok-clause-len : goal.returns-in-Ok-clause-len
returns-in-Ok-clause-len c =
    let rest = c.args.self.now.rest.now in
    let shorter = IsLexed-shorter (chars rest) (chars c.in-Ok.lexeme.value.now) (chars c.in-Ok.lexeme.rest.now) c.in-Ok.lexeme.kind c.in-Ok.ensures in
    left_within rest c.in-Ok.lexeme.rest.now c.skip_ignored-self.result.now c.in-Ok.lexeme.kind (search rules) (search rules) shorter c.skip_ignored-self.ensures.len

pub returns-in-Err-clause-fault : goal.returns-in-Err-clause-fault
returns-in-Err-clause-fault c =
    ReportsFaultUnder-first policies.Strict (chars c.args.self.now.input.now) (chars c.args.self.now.rest.now) c.requires.front _ _ c.requires.cut c.in-Err.ensures c.place_of-place.ensures
