use Rattle.std.proofs.Common.{map, ap, ◌∙◌, sym}
use Rattle.std.specs.Str.{chars}
use Rattle.std.proofs.lemmas.List.{nil_from_length}
use Rattle.urlpattern_syntax.proofs.TextLemmas.{chars_nothing}
use Rattle.urlpattern_syntax.specs.Parts.{part_view}
use Rattle.urlpattern_matcher.proofs.StrippedMatchers.{begins-nothing, begins-other, front-none, front-some}
use Rattle.urlpattern_matcher.proofs.component.matchers.strip_fixed_prefix.Goals as goal
use Rattle.urlpattern_matcher.proofs.component.matchers.strip_fixed_prefix.Goals.{in_default-via-in-Some+else-is_plain, in_default-via-in_default}

pub returns-in-Some : goal.returns-in-Some
returns-in-Some c =
    front-some _ _ (part_view c.in-Some.first.now) _ (ap (λ xs. map part_view xs) c.in-Some.ensures.cases.0) (sym c.is_plain.ensures ∙ c.if-is_plain.true) (ap chars c.deref.ensures)

pub returns-in_default : goal.returns-in_default
returns-in_default c =
    front-none _ _
    (elim c.in_default.branch [
      | in_default-via-in-Some+else-is_plain w ↦
          begins-other _ (map part_view w.in-Some.rest.now) (part_view w.in-Some.first.now) (ap (λ xs. map part_view xs) w.in-Some.ensures.cases.0) (sym w.is_plain.ensures ∙ w.if-is_plain.false)
      | in_default-via-in_default w ↦ begins-nothing _ (ap (λ xs. map part_view xs) (nil_from_length c.args.part_list.now w.in_default.ensures.cases))
    ]) chars_nothing
