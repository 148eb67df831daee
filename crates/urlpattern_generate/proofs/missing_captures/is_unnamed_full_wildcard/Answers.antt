use Rattle.std.proofs.Common.{◌≡◌, ◌∙◌, ap, rules}
use Rattle.std.specs.Char.{is_ascii_digit}
use Rattle.std.specs.Str.{chars}
use Rattle.urlpattern_generate.proofs.RequestedLemmas.{full_nameless, other_nameless}
use Rattle.urlpattern_generate.proofs.missing_captures.is_unnamed_full_wildcard.Goals as goal
use Rattle.urlpattern_syntax.specs.declared.parser.PartType.TheVariants.{FullWildcard}
use Rattle.urlpattern_syntax.specs.Text.{begins_with, text_of}

pub returns-then-eq : goal.returns-then-eq
returns-then-eq c =
    let full : c.args.part.now.kind ≡ FullWildcard = search rules in
    full_nameless c.args.part.now.kind (text_of c.args.part.now.name) _ full (c.begins_with_digit.ensures ∙ ap (λ bytes. begins_with is_ascii_digit (chars bytes)) c.deref.ensures)

pub returns-else-eq : goal.returns-else-eq
returns-else-eq c =
    let other : ¬ (c.args.part.now.kind ≡ FullWildcard) = search rules in
    c.if-eq.false ∙ other_nameless c.args.part.now.kind (text_of c.args.part.now.name) other
