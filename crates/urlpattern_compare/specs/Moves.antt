-- Moves: characters with the sets of states to which they lead, each sets once.
use Rattle.std.specs.Prelude.{◌≡◌, ◌≢◌, ◌≤◌, ◌&&◌, ℕ, nat_le, All, Bool, true, Contains, List}
use Rattle.urlpattern_compare.specs.Exits.{joint_moved_by}
use Rattle.urlpattern_compare.specs.declared.exits.Exits.{Exits}
use Rattle.urlpattern_compare.specs.declared.moves.Move.{Move}
use Rattle.urlpattern_compare.specs.declared.parts_automaton.Test.{Test}
use Rattle.urlpattern_compare.specs.declared.parts_automaton.Test.TheVariants.{Within}
use Rattle.urlpattern_syntax.specs.Text.{line_feed}

-- Each move is by a character other than a line feed, which leads to the sets of the move.
abbrev pub AreMoves : List Exits → List Move → Type 0
AreMoves exits moves =
    All (λ it. (it.c ≢ line_feed) × (it.flags.items ≡ joint_moved_by exits it.c)) moves

-- A move leads to the sets `flags`.
abbrev pub HasMove : List Move → (flags : List Bool) → Type 0
HasMove moves flags = (it : Move) × Contains moves it × (it.flags.items ≡ flags)

-- Characters from `least` to `greatest` lead by the exits `near` as by `exits`.
abbrev pub AreNear : (exits : List Exits) → (least greatest : ℕ) → (near : List Exits) → Type 0
AreNear exits least greatest near =
    (c : ℕ) → least ≤ c → c ≤ greatest → joint_moved_by near c ≡ joint_moved_by exits c

-- Whether a character from `least` to `greatest` may pass the test: false of a range that has none
-- of them.
abbrev pub may_pass : Test → (least greatest : ℕ) → Bool
may_pass (Within first last) least greatest = nat_le first greatest && nat_le least last
may_pass test least greatest = true
