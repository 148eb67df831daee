use Rattle.std.proofs.Common.{◌≡◌, ◌∙◌, ◌⊎◌, ℕ, sym, subst}
use Rattle.std.specs.Str.{chars}
use Rattle.urlpattern_steps.specs.FailedStates.{AreFailed, HasBit, IsStateOf, Whole}
use Rattle.urlpattern_steps.proofs.FailedLemmas.{dead_more, whole_written}
use Rattle.urlpattern_steps.proofs.failed_states.FailedStates.insert.Goals as goal

pub invariant_of-self : goal.invariant_of-self
invariant_of-self c =
    let whole : Whole = record { ignore_case = c.self.inside.ignore_case; steps = c.self.inside.steps.now; text = chars c.self.inside.text.now } in
    let place : IsStateOf c.requires.0 whole c.args.steps.now (chars c.args.text.now) = subst (λ w. IsStateOf c.requires.0 w c.args.steps.now (chars c.args.text.now)) (sym c.self.view_is) c.requires.1 in
    let more : (other : ℕ) → HasBit c.set_bit.new.bits other → HasBit c.self.inside.bits.items other ⊎ (other ≡ c.in-Some.bit) =
    subst (λ l. (other : ℕ) → HasBit c.set_bit.new.bits other → HasBit l other ⊎ (other ≡ c.in-Some.bit)) c.deref_mut.ensures.value c.set_bit.ensures in
    subst (AreFailed whole) (sym (whole_written c.self.inside.bits.len c.self.inside.bits.items c.set_bit.new.bits (c.set_bit.auto.bits ∙ c.deref_mut.ensures.len)))
    (dead_more c.requires.0 whole c.self.inside.bits.items c.set_bit.new.bits c.in-Some.bit c.args.steps.now (chars c.args.text.now) place c.requires.2 c.in-Some.ensures more c.self.invariant)
