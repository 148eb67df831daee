-- Whether an expression has groups of its own follows from what the grammar reads.
use Rattle.std.proofs.Common.{◌≡◌, ℕ, ◌<◌, ◌≤◌, Bool, true, false, ◌&&◌, ◌||◌, nat_le, List, ◌∷◌, length, ◌∙◌, ap, Option, Some, None, inl, inr, refl, sym, arith}
use Rattle.std.proofs.lemmas.Bool.Decides.{nat_tests}
use Rattle.std.specs.Prelude.{IfSome, IsSomeAnd, nat_lt}
use Rattle.std.specs.Str.{chars}
use Rattle.regex_hir.specs.Meaning.{meaning}
use Rattle.regex_hir.specs.Re.{Re}
use Rattle.regex_hir.specs.Text.{is_some_and}
use Rattle.regex_hir.specs.declared.hir.Hir.{Hir}
use Rattle.regex_syntax.specs.Brackets.{Nested}
use Rattle.regex_syntax.specs.Captures.{SameCaptures}
use Rattle.regex_syntax.specs.Grammar.{Names, group_count, read}
use Rattle.regex_syntax.specs.Verdict.{Reads, Refuses, default_config}
use Rattle.regex_syntax.specs.declared.error.ErrorKind.{ErrorKind}
use Rattle.regex_syntax.specs.declared.error.ErrorKind.TheVariants.{OutOfMemory}
use Rattle.urlpat_explain.specs.Noted.{has_groups, have_groups, part_has_groups}
use Rattle.urlpattern_syntax.specs.Parts.{PartView}

-- Whether what was read nests no deeper than the limit, and has a group that captures.
found_groups : Option (Nested Re × Names) → Bool
found_groups found = is_some_and found (λ (pattern, names). nat_le pattern.depth 250 && nat_lt 1 (length names))

read_groups : (found : Option (Nested Re × Names)) (names : Names) (Is : Nested Re → Names → Type 0) → ((pattern : Nested Re) (listed : Names) → Is pattern listed → (pattern.depth ≤ 250) × (names ≡ listed))
    → IsSomeAnd found (λ (pattern, listed). Is pattern listed) → found_groups found ≡ nat_lt 1 (length names)
unfolding found_groups
read_groups None names Is small h = absurd h
read_groups (Some (pattern, listed)) names Is small h =
    let (le, same) = small pattern listed h in
    let shallow : nat_le pattern.depth 250 ≡ true = grind (arith, nat_tests) in
    ap (λ b. b && nat_lt 1 (length listed)) shallow ∙ ap (λ (them : Names). nat_lt 1 (length them)) (sym same)

deep_groups : (found : Option (Nested Re × Names)) → IfSome found (λ (pattern, _). 250 < pattern.depth) → found_groups found ≡ false
unfolding found_groups
deep_groups None h = refl
deep_groups (Some (pattern, names)) h =
    let lt : 250 < pattern.depth = h in
    let deep : nat_le pattern.depth 250 ≡ false = grind (arith, nat_tests) in
    ap (λ b. b && nat_lt 1 (length names)) deep

-- An expression that `parse` reads has groups if there are more than the first.
pub groups_read : (text : List ℕ) (hir : Hir) (names : Names) → Reads default_config text hir names → has_groups (chars text) ≡ nat_lt 1 (length names)
unfolding has_groups Reads found_groups
groups_read text hir names reads =
    read_groups (read default_config (chars text)) names
    (λ pattern found. (pattern.depth ≤ 250) × SameCaptures (meaning hir) pattern.value × (names ≡ found) × (group_count (meaning hir) ≤ length names))
    (λ pattern found is. (is.0, is.2)) reads

-- An expression that `parse` refuses has no groups that are read, unless memory ran out.
pub groups_refused : (text : List ℕ) (kind : ErrorKind) → ¬ (kind ≡ OutOfMemory) → Refuses default_config text kind → has_groups (chars text) ≡ false
unfolding has_groups Refuses found_groups
groups_refused text kind other (inl memory) = absurd (other memory)
groups_refused text kind other (inr (inl none)) = ap found_groups none
groups_refused text kind other (inr (inr (nests, deep))) = deep_groups (read default_config (chars text)) deep

-- The parts that are left decide after a part without groups.
pub groups_go_on : (part : PartView) (parts left : List PartView) → left ≡ part ∷ parts → part_has_groups part.kind part.value ≡ false → have_groups left ≡ have_groups parts
groups_go_on part parts left cut none = ap have_groups cut ∙ ap (λ b. b || have_groups parts) none

-- A part with groups decides.
pub groups_found : (part : PartView) (parts left : List PartView) → left ≡ part ∷ parts → part_has_groups part.kind part.value ≡ true → have_groups left ≡ true
groups_found part parts left cut found = ap have_groups cut ∙ ap (λ b. b || have_groups parts) found
