use Rattle.std.proofs.Common.{List, true, ap, subst, sym, ◌∙◌}
use Rattle.std.proofs.lemmas.Str.{chars-nil}
use Rattle.std.specs.Prelude.{chars}
use Rattle.urlpattern_index.proofs.KnownLemmas.{none_fits, one_fits}
use Rattle.urlpattern_index.specs.Paths.{FitsParts}
use Rattle.urlpattern_syntax.specs.declared.parser.Part.{Part}
use Rattle.urlpattern_syntax.specs.Parts.{parts_view}
use Rattle.urlpattern_index.proofs.known.fixed_text.Goals as goal

pub returns-in-empty : goal.returns-in-empty
returns-in-empty g c = λ text matched.
    let delimiter = c.args.kept.now.options.delimiter_code_point in
    let fits = c.matches_parts.ensures c.if-not-matches_parts.false text matched in
    none_fits delimiter c.as_slice.result.now text c.in-empty.len_below
    (subst (λ (parts : List Part). FitsParts true delimiter (parts_view parts) text) (sym c.as_slice.ensures.value) fits)
    ∙ sym chars-nil

pub returns-in-len1 : goal.returns-in-len1
returns-in-len1 g c = λ text matched.
    let delimiter = c.args.kept.now.options.delimiter_code_point in
    let fits = c.matches_parts.ensures c.if-not-matches_parts.false text matched in
    one_fits delimiter c.as_slice.result.now c.part-item.result text c.in-len1.len_at_least c.in-len1.len_below c.part-item.is
    (sym c.is_plain.ensures ∙ c.if-is_plain.true)
    (subst (λ (parts : List Part). FitsParts true delimiter (parts_view parts) text) (sym c.as_slice.ensures.value) fits)
    ∙ sym (ap chars c.deref.ensures)
