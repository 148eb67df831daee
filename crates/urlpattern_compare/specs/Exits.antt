-- Exits: the edges by which several automata leave sets of states, and characters that lead by them
-- to equal sets.
use Rattle.std.specs.Prelude.{◌≡◌, ◌≢◌, ◌≤◌, ◌+◌, ℕ, nat_lt, All, Bool, true, false, Contains, List, [], ◌∷◌, ◌++◌, codes, replicate, slice_set, if◌then◌else◌}
use Rattle.std.specs.{Char.IsScalar, Char.to_ascii_uppercase}
use Rattle.urlpattern_compare.specs.Automata.{passes}
use Rattle.urlpattern_compare.specs.Conditions.{joint_moved}
use Rattle.urlpattern_compare.specs.declared.condition.Condition.{Condition}
use Rattle.urlpattern_compare.specs.declared.exits.Exits.{Exits}
use Rattle.urlpattern_compare.specs.declared.parts_automaton.Edge.{Edge}
use Rattle.urlpattern_compare.specs.declared.parts_automaton.Test.{Test}
use Rattle.urlpattern_compare.specs.declared.parts_automaton.Test.TheVariants.{Only, AnyBut, Within}
use Rattle.urlpattern_meaning.specs.Matching.{folded_character}
use Rattle.urlpattern_syntax.specs.Text.{is_among, line_feed}

-- The set `flags` with the states added to which the edges lead by the character `c`.
abbrev pub with_ends : (flags : List Bool) → (c : ℕ) → List Edge → List Bool
with_ends flags c [] = flags
with_ends flags c (edge ∷ edges) =
    with_ends (if passes edge.test c then slice_set flags edge.to true else flags) c edges

-- The set of the states to which the exits lead by the character, in lower case if the automaton
-- ignores case.
abbrev pub moved_by : Exits → (c : ℕ) → List Bool
moved_by exits c =
    with_ends (replicate exits.states false) (folded_character exits.ignore_case c)
    exits.edges.items

-- The sets of the states to which the exits of several automata lead by the character.
abbrev pub joint_moved_by : List Exits → (c : ℕ) → List Bool
joint_moved_by [] c = []
joint_moved_by (own ∷ others) c = moved_by own c ++ joint_moved_by others c

-- Each character leads by the exits to the sets of states to which it leads from the sets `flags`.
abbrev pub AreExits : List Condition → (flags : List Bool) → List Exits → Type 0
AreExits conditions flags exits =
    (c : ℕ) → joint_moved_by exits c ≡ joint_moved conditions flags c

-- ---- classes of characters

-- The character leads to the same sets of states as one of `classes` that is no line feed.
abbrev pub HasAlike : List Exits → (classes : List ℕ) → (c : ℕ) → Type 0
HasAlike exits classes c =
    (same : ℕ) × Contains classes same
    × (same ≢ line_feed)
    × (joint_moved_by exits same ≡ joint_moved_by exits c)

-- The classes have a character like each that is no line feed.
abbrev pub AreClasses : List Exits → (classes : List ℕ) → Type 0
AreClasses exits classes = (c : ℕ) → IsScalar c → c ≢ line_feed → HasAlike exits classes c

-- ---- steps

-- Each of `old` is among `new`.
abbrev pub AreKeptIn : {X : Type 0} → (old new : List X) → Type 0
AreKeptIn {X} old new = (x : X) → Contains old x → Contains new x

-- The character is among the marks and, if case is ignored, in upper case too.
abbrev pub HasCases : (ignore_case : Bool) → (marks : List ℕ) → (c : ℕ) → Type 0
HasCases true marks c = Contains marks c × Contains marks (to_ascii_uppercase c)
HasCases false marks c = Contains marks c

-- The capital letters.
abbrev pub capitals : List ℕ
capitals = codes "ABCDEFGHIJKLMNOPQRSTUVWXYZ"

-- The characters that the test names are among the marks, in both cases if case is ignored. A range
-- then names the capital letters, so that lower case changes no character that is not named; in a
-- search, no automaton that ignores case has ranges.
abbrev pub HasNames : (ignore_case : Bool) → (marks : List ℕ) → Test → Type 0
HasNames ignore_case marks (Only c) = HasCases ignore_case marks c
HasNames ignore_case marks (AnyBut c) = HasCases ignore_case marks c
HasNames true marks (Within first last) = All (Contains marks) capitals
HasNames false marks (Within first last) = Unit {0}

-- The characters that the tests of the exits name are among the marks.
abbrev pub HasNamesOf : (marks : List ℕ) → Exits → Type 0
HasNamesOf marks exits =
    All (λ edge. HasNames exits.ignore_case marks edge.test) exits.edges.items

-- The code after `last`, or 0 if no character has one.
abbrev pub code_after : (last : ℕ) → ℕ
code_after last = if nat_lt last 0x10_FFFF then last + 1 else 0

-- The codes at which the characters begin that pass a test of ranges, or that do not pass it, are
-- among `breaks`.
abbrev pub HasBreaks : (breaks : List ℕ) → Test → Type 0
HasBreaks breaks (Within first last) =
    Contains breaks 0 × Contains breaks first × Contains breaks (code_after last)
HasBreaks breaks test = Unit {0}

-- The codes of the tests of the exits are among `breaks`.
abbrev pub HasBreaksOf : (breaks : List ℕ) → Exits → Type 0
HasBreaksOf breaks exits = All (λ edge. HasBreaks breaks edge.test) exits.edges.items

-- Where a character from `code` on is not among `named`, one of `classes` is at most that
-- character, at least `code` and not among `named`.
abbrev pub HasFree : (named classes : List ℕ) → (code : ℕ) → Type 0
HasFree named classes code = (c : ℕ) → IsScalar c → is_among named c ≡ false → code ≤ c →
    (free : ℕ) × Contains classes free
    × (is_among named free ≡ false) × (code ≤ free) × (free ≤ c)
