use Rattle.std.proofs.Common.{◌≡◌, sym, ap, ◌∙◌, true, false}
use Rattle.std.specs.Prelude.{◌||◌}
use Rattle.std.specs.BTreeSet.{contains_by}
use Rattle.std.specs.Cmp.Lexicographic.{slice_cmp}
use Rattle.std.specs.List.{list_any}
use Rattle.std.specs.Ordering.{nat_cmp}
use Rattle.std.proofs.lemmas.Bool.{or_left}
use Rattle.urlpattern_parser.specs.GivenNames.{has_bytes}
use Rattle.urlpattern_parser.proofs.parser.given_names.GivenNames.contains_name.Goals as goal

pub returns-then-contains : goal.returns-then-contains
returns-then-contains c =
    let name = c.args.name.now in
    let few : list_any (has_bytes name) c.args.self.now.few.items ≡ true = ap (list_any (has_bytes name)) (sym c.deref.ensures.0) ∙ sym c.contains.ensures.value ∙ c.if-contains.true in
    c.if-contains.true ∙ sym (or_left _ _ few)

pub returns-else-contains : goal.returns-else-contains
returns-else-contains c =
    let name = c.args.name.now in
    let few : list_any (has_bytes name) c.args.self.now.few.items ≡ false = ap (list_any (has_bytes name)) (sym c.deref.ensures.0) ∙ sym c.contains.ensures.value ∙ c.if-contains.false in
    c.contains-else-contains.ensures ∙ ap (λ b. b || contains_by (λ text. slice_cmp nat_cmp name text.now) c.args.self.now.others) (sym few)
