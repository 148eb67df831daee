use Rattle.std.proofs.Common.{◌∙◌, subst}
use Rattle.std.specs.Str.{chars}
use Rattle.std.proofs.lemmas.Result.{err_from_is_err_and}
use Rattle.urlpattern_syntax.specs.Cursors.{IsPlace, IsTokenAfter}
use Rattle.urlpattern_syntax.specs.Tokens.{ReportsFault, token_view}
use Rattle.urlpattern_parser.proofs.CharacterLemmas.{row_less, takes_row}
use Rattle.urlpattern_parser.proofs.parser.pieces.Reader.characters.Goals as goal

pub returns-clause-more : goal.returns-clause-more
returns-clause-more c =
    let middle = c.characters-more.new.self.rest.now in
    let rest = chars c.next.new.self.rest.now in
    let whole = c.characters-more.ensures.whole in
    takes_row c.args.self.now (record { alloc = c.args.self.now.alloc; cursor = c.next.new.self; token = c.in_ok-next.next }) middle (chars c.characters-more.result.now)
    (c.in_ok-next.ensures.whole ∙ whole) c.characters-more.ensures.before
    (subst (λ text. IsPlace (chars text) rest) whole c.in_ok-next.ensures.place)
    (subst (λ text. IsTokenAfter (chars text) (chars middle) (token_view c.in_ok-next.next) rest) whole c.in_ok-next.ensures.token)
    c.characters-more.ensures.len c.in_ok-next.ensures.len c.requires.stands
    (let k = c.requires.character in λ e. cc (k, e))

pub returns-clause-less : goal.returns-clause-less
returns-clause-less c =
    row_less c.args.self.now (record { alloc = c.args.self.now.alloc; cursor = c.next.new.self; token = c.in_ok-next.next }) c.characters-more.new.self.rest.now
    c.characters-more.ensures.len c.in_ok-next.ensures.len
    (let k = c.requires.character in λ e. cc (k, e))

pub returns-in_err-next-clause-fault : goal.returns-in_err-next-clause-fault
returns-in_err-next-clause-fault c =
    let p = err_from_is_err_and c.from_residual.result c.from_residual.ensures.1 in
    rw (p.1, p.2) (subst (λ text. ReportsFault (chars text) c.in_err-next.field-0.0) c.characters-more.ensures.whole c.in_err-next.ensures.fault)
