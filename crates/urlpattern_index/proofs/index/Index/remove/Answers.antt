use Rattle.std.proofs.Common.{◌<◌, ◌∙◌, ap, arith, length, sym, zero-add}
use Rattle.urlpattern_index.proofs.NumberLemmas.{numbers-remove}
use Rattle.urlpattern_index.specs.Listed.{Listing, numbers_of, without}
use Rattle.urlpattern_index.proofs.index.Index.remove.Goals as goal

pub invariant_of-self : goal.invariant_of-self
invariant_of-self c = λ key.
    let number = c.args.number in
    let keys = c.self.inside.keys.items in
    let within : number < length keys = omega (arith, c.requires, ap (λ (listing : Listing). length listing.keys) c.self.view_is) in
    c.remove.ensures key
    ∙ ap (without number) (c.self.invariant key)
    ∙ sym (ap (numbers_of key 0) c.remove-2.ensures.items ∙ numbers-remove key 0 keys number within ∙ ap (λ n. without n (numbers_of key 0 keys)) (zero-add number))
