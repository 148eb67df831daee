-- The steps from a place on, which become a group.
use Rattle.std.proofs.Common.{◌≡◌, ℕ, zero, suc, ◌<◌, ◌≤◌, List, [], ◌∷◌, ◌++◌, ◌-◌, length, take, drop, Bool, sym, ap, ◌∙◌, inl, inr, arith}
use Rattle.std.proofs.lemmas.List.{length-drop, set_split}
use Rattle.std.proofs.Math.Seq.{take-length}
use Rattle.std.specs.Prelude.{insert, set}
use Rattle.urlpattern_steps.specs.declared.step_tokens.GroupQuantifier.{GroupQuantifier}
use Rattle.urlpattern_steps.specs.declared.step.Group.{Group}
use Rattle.urlpattern_steps.specs.declared.step.LiteralString.{LiteralString}
use Rattle.urlpattern_steps.specs.declared.step.Step.{Step}
use Rattle.urlpattern_steps.specs.declared.step.Step.TheVariants.{Literal, OptionalGroup, RepeatedLiteral}
use Rattle.urlpattern_steps.specs.ReadSteps.{AreCopySteps, IsStepGroup, IsSomeGroup, SpellLiteral}
use Rattle.urlpattern_steps.specs.Walk.{capture_count}

-- The steps from a place to the end.
pub take_rest : (steps : List Step) (first : ℕ) → take (length steps - first) (drop first steps) ≡ drop first steps
take_rest steps first = ap (λ n. take n (drop first steps)) (sym (length-drop first steps)) ∙ take-length (drop first steps)

-- The step of an optional group is inserted where the group begins.
pub inserted : (done now : List Step) (first : ℕ) (group : Group) → now ≡ done
    → group ≡ record { steps = length (take (length now - first) (drop first now)); captures = capture_count (take (length now - first) (drop first now)) }
    → insert done first (OptionalGroup group) ≡ take first done ++ (OptionalGroup (record { steps = length (drop first done); captures = capture_count (drop first done) }) ∷ drop first done)
inserted done now first group same is =
    let whole : take (length now - first) (drop first now) ≡ drop first done = take_rest now first ∙ ap (drop first) same in
    let spelled : group ≡ record { steps = length (drop first done); captures = capture_count (drop first done) } =
    is ∙ ap (λ (own : List Step). record { steps = length own; captures = capture_count own }) whole in
    ap (λ (g : Group). take first done ++ (OptionalGroup g ∷ drop first done)) spelled

-- The steps after the first of the remaining ones.
pub drop-one : (n : ℕ) (steps : List Step) (step : Step) (rest : List Step) → drop n steps ≡ step ∷ rest → drop (suc n) steps ≡ rest
drop-one zero steps step rest e = ap (drop 1) e
drop-one (suc n) [] step rest e = cc
drop-one (suc n) (other ∷ steps) step rest e = drop-one n steps step rest e

-- The step of a repeated literal replaces the first step of the literal.
pub copies_set : (done now : List Step) (first : ℕ) (allows_zero : Bool) (text : LiteralString) → first ≤ length done → now ≡ done
    → SpellLiteral (take (length now - first) (drop first now)) text
    → (group : List Step) × AreCopySteps allows_zero (drop first done) group × (set done first (RepeatedLiteral (record { text = text; allows_zero = allows_zero })) ≡ take first done ++ group)
copies_set done now first allows_zero text le same (others, own, plain, count) =
    let whole : drop first done ≡ Literal text.first ∷ others = ap (drop first) (sym same) ∙ sym (take_rest now first) ∙ own in
    let copies : Step = RepeatedLiteral (record { text = text; allows_zero = allows_zero }) in
    let lt : first < length done = omega (arith, ap length whole, length-drop first done) in
    let behind : drop (suc first) done ≡ others = drop-one first done (Literal text.first) others whole in (
      copies ∷ others,
      (text.first, others, whole, plain, ap (λ n. RepeatedLiteral (record { text = record { first = text.first; others = n }; allows_zero = allows_zero }) ∷ others) count),
      set_split done first copies lt ∙ ap (λ l. take first done ++ (copies ∷ l)) behind,
    )

-- A quantified group with steps in its body is `IsSomeGroup`.
pub some_group : (done : List Step) (first : ℕ) (times : GroupQuantifier) (group : List Step) → first ≤ length done → ¬ (length done ≡ first) → IsStepGroup times (drop first done) group → IsSomeGroup times (drop first done) group
some_group done first times group le more (inl (none, same)) = let no : length (drop first done) ≡ 0 = ap length none in absurd (more (omega (arith, no, length-drop first done, le)))
some_group done first times group le more (inr some) = some
