use Rattle.std.proofs.Common.{◌≤◌, map, take}
use Rattle.urlpattern_index.specs.Keys.{form_view, hashes_view}
use Rattle.urlpattern_index.specs.Listed.{FindsBy, IsLeast}
use Rattle.urlpattern_index.proofs.index.Index.first_by_forms.Given as goal

abbrev pub invariant-loop-form : goal.invariant-loop-form
invariant-loop-form l =
    IsLeast (λ number. (l.from ≤ number) × FindsBy (map (λ form. form_view form) (take l.form-index l.forms)) l.self.keys (hashes_view l.hashes) number) l.least
