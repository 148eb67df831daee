use Rattle.std.proofs.Common.{◌≡◌, ◌∙◌, ap}
use Rattle.urlpattern_index.proofs.NumberLemmas.{least_by, numbers-nondecreasing}
use Rattle.urlpattern_index.specs.Keys.{form_view, hashes_view}
use Rattle.urlpattern_index.specs.Listed.{Listing, numbers_of}
use Rattle.urlpattern_index.proofs.index.Index.first_by.Goals as goal

pub first_from-requires : goal.first_from-requires
first_from-requires c =
    let key = c.in_ok-key.key in
    let listed : c.get.result.now ≡ numbers_of key 0 c.self.inside.keys.items = c.get.ensures ∙ c.self.invariant key in
    rw listed (numbers-nondecreasing key 0 c.self.inside.keys.items)

pub returns : goal.returns
returns c =
    let key = c.in_ok-key.key in
    let listed : c.get.result.now ≡ numbers_of key 0 c.self.inside.keys.items = c.get.ensures ∙ c.self.invariant key in
    least_by (form_view c.args.form.now) (hashes_view c.args.hashes.now) c.in_ok-key.ensures.some.0 c.args.from key c.in_ok-key.ensures.some.1
    c.self.inside.keys.items c.args.self.now.keys (ap (λ (listing : Listing). listing.keys) c.self.view_is) c.get.result.now c.first_from.result listed c.first_from.ensures
