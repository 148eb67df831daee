-- Optional groups, and steps that match no text with another first character.
use Rattle.std.proofs.Common.{Bool, ◌≡◌, ℕ, zero, suc, List, [], ◌∷◌, ◌++◌, drop, replicate, Some, None, option_map, true, false, cond, refl, ap, ◌∙◌}
use Rattle.std.specs.Option.{option_or}
use Rattle.urlpattern_steps.specs.declared.step.Group.{Group}
use Rattle.urlpattern_steps.specs.declared.step.Step.{Step}
use Rattle.urlpattern_steps.specs.declared.step.Step.TheVariants.{OptionalGroup, RepeatedLiteral}
use Rattle.urlpattern_steps.specs.declared.step.RepeatedLiteral.{RepeatedLiteral as Copied}
use Rattle.urlpattern_steps.specs.Walk.{Continuation, after_text, any_rounds, captured_prefix, repeated, some_rounds, literal_string_text, walk, walk_after, BeginOnlyWith}
use Rattle.urlpattern_steps.proofs.Rounds.{advances-after, any-unrolled}
use Rattle.urlpattern_steps.proofs.RunLemmas.{GivesAt}
use Rattle.urlpattern_meaning.specs.Matching.{is_same_character}

-- ---- optional groups

pub walk_after-drop : (ignore_case : Bool) (n : ℕ) (steps : List Step) (text : List ℕ) → walk_after ignore_case n steps text ≡ walk ignore_case (drop n steps) text
walk_after-drop ignore_case zero steps text = refl
walk_after-drop ignore_case (suc n) [] [] = refl
walk_after-drop ignore_case (suc n) [] (c ∷ text) = refl
walk_after-drop ignore_case (suc n) (step ∷ steps) text = walk_after-drop ignore_case n steps text

pub maybe_missing : (ignore_case : Bool) (group : Group) (steps : List Step) (text : List ℕ) → walk ignore_case steps text ≡ None
    → walk ignore_case (OptionalGroup group ∷ steps) text ≡ option_map (λ others. replicate group.captures None ++ others) (walk ignore_case (drop group.steps steps) text)
maybe_missing ignore_case group steps text e =
    ap (λ o. option_or o (option_map (λ others. replicate group.captures None ++ others) (walk_after ignore_case group.steps steps text))) e
    ∙ ap (option_map (λ others. replicate group.captures None ++ others)) (walk_after-drop ignore_case group.steps steps text)

-- ---- the first character

pub stop-gives : (ignore_case : Bool) (end : ℕ) (steps : List Step) → BeginOnlyWith end steps → GivesAt ignore_case end (captured_prefix (walk ignore_case steps))
stop-gives ignore_case end steps stops front c rest e = ap (option_map (λ others. Some front ∷ others)) (stops ignore_case c rest e)

pub stop-maybe : (end : ℕ) (group : Group) (steps : List Step) → BeginOnlyWith end steps → BeginOnlyWith end (drop group.steps steps) → BeginOnlyWith end (OptionalGroup group ∷ steps)
stop-maybe end group steps first other ignore_case c rest e =
    maybe_missing ignore_case group steps (c ∷ rest) (first ignore_case c rest e) ∙ ap (option_map (λ others. replicate group.captures None ++ others)) (other ignore_case c rest e)

-- Copies do not begin with another character.
some_stop : (ignore_case : Bool) (end first : ℕ) (literal : List ℕ) (gives : Continuation) (front : List ℕ) (c : ℕ) (rest : List ℕ) → first ≡ end → (is_same_character ignore_case c end) ≡ false
    → some_rounds (after_text ignore_case (first ∷ literal)) gives front (c ∷ rest) ≡ None
some_stop ignore_case end first literal gives front c rest same other =
    ap (λ b. cond b (after_text ignore_case literal (any_rounds (after_text ignore_case (first ∷ literal)) gives) (front ++ c ∷ []) rest) None) (ap (λ d. is_same_character ignore_case c d) same ∙ other)

pub stop-copies : (end : ℕ) (copies : Copied) (steps : List Step) → copies.text.first ≡ end → copies.allows_zero ≡ false → BeginOnlyWith end (RepeatedLiteral copies ∷ steps)
stop-copies end copies steps first some ignore_case c rest e =
    ap (λ b. repeated b (after_text ignore_case (literal_string_text copies.text steps)) (λ front rest. walk_after ignore_case copies.text.others steps rest) [] (c ∷ rest)) some
    ∙ some_stop ignore_case end copies.text.first _ (λ front rest. walk_after ignore_case copies.text.others steps rest) [] c rest first e

pub stop-any_copies : (end : ℕ) (copies : Copied) (steps : List Step) → copies.text.first ≡ end → copies.allows_zero ≡ true → BeginOnlyWith end (drop copies.text.others steps)
    → BeginOnlyWith end (RepeatedLiteral copies ∷ steps)
stop-any_copies end copies steps first any stops ignore_case c rest e =
    let gives : Continuation = λ front rest. walk_after ignore_case copies.text.others steps rest in
    ap (λ b. repeated b (after_text ignore_case (literal_string_text copies.text steps)) gives [] (c ∷ rest)) any
    ∙ any-unrolled (after_text ignore_case (literal_string_text copies.text steps)) (advances-after ignore_case copies.text.first _) gives [] (c ∷ rest)
    ∙ ap (λ o. option_or o (gives [] (c ∷ rest))) (some_stop ignore_case end copies.text.first _ gives [] c rest first e)
    ∙ walk_after-drop ignore_case copies.text.others steps (c ∷ rest)
    ∙ stops ignore_case c rest e
