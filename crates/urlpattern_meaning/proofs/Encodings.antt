-- A weaker encoding has at least the readings and rejections of a stronger one.
use Rattle.std.proofs.Common.{ℕ, Result, Ok, Err, List, [], ◌∷◌, inl, inr}
use Rattle.urlpattern_syntax.specs.Errors.{ErrorView}
use Rattle.urlpattern_syntax.specs.Options.{OptionsView}
use Rattle.urlpattern_syntax.specs.Parts.{PartView}
use Rattle.urlpattern_syntax.specs.Reading.{AreMet, AreParts, Capture, Demand, Encode, Encoding, Expect, Fails, FirstFails, Fixed, IsMet, Item, NewName, Reads, Rejects, demands, items_of}
use Rattle.urlpattern_syntax.specs.Pieces.{Ending as endings}

-- The weak encoding may return all that the strong one may.
abbrev pub Weakens : Encoding → Encoding → Type 0
Weakens strong weak = (text : List ℕ) (answer : Result (List ℕ) ErrorView) → strong text answer → weak text answer

met : (strong weak : Encoding) → Weakens strong weak → (demand : Demand) → IsMet strong demand → IsMet weak demand
met strong weak h (Encode text) m = (m.0, h text (Ok m.0) m.1)
met strong weak h (NewName earlier name) m = m
met strong weak h (Expect kind token) m = m

are_met : (strong weak : Encoding) → Weakens strong weak → (list : List Demand) → AreMet strong list → AreMet weak list
are_met strong weak h [] m = tt
are_met strong weak h (demand ∷ rest) m = (met strong weak h demand m.0, are_met strong weak h rest m.1)

fails : (strong weak : Encoding) → Weakens strong weak → (demand : Demand) (error : ErrorView) → Fails strong demand error → Fails weak demand error
fails strong weak h (Encode text) error f = h text (Err error) f
fails strong weak h (NewName earlier name) error f = f
fails strong weak h (Expect kind token) error f = f

first_fails : (strong weak : Encoding) → Weakens strong weak → (list : List Demand) (error : ErrorView) → FirstFails strong list error → FirstFails weak list error
first_fails strong weak h [] error f = f
first_fails strong weak h (demand ∷ rest) error f = elim f [
  | inl now ↦ inl (fails strong weak h demand error now)
  | inr later ↦ inr (met strong weak h demand later.0, first_fails strong weak h rest error later.1)
]

are_parts : (strong weak : Encoding) → Weakens strong weak → (options : OptionsView) (items : List Item) (parts : List PartView) → AreParts options strong items parts → AreParts options weak items parts
are_parts strong weak h options [] parts p = p
are_parts strong weak h options (Fixed [] modifier ∷ items) parts p = are_parts strong weak h options items parts p
are_parts strong weak h options (Fixed (c ∷ text) modifier ∷ items) parts p =
    (p.0, p.1, p.2, h (c ∷ text) (Ok p.0) p.3, are_parts strong weak h options items p.1 p.4)
are_parts strong weak h options (Capture prefix name match suffix modifier ∷ items) parts p =
    (p.0, p.1, p.2, p.3, h prefix (Ok p.0) p.4, h suffix (Ok p.1) p.5, are_parts strong weak h options items p.2 p.6)

pub reads_weaker : (strong weak : Encoding) → Weakens strong weak → (text : List ℕ) (options : OptionsView) (parts : List PartView) → Reads text options strong parts → Reads text options weak parts
reads_weaker strong weak h text options parts r = record {
  tokens = r.tokens;
  pieces = r.pieces;
  found = r.found;
  are_tokens = r.are_tokens;
  are_pieces = r.are_pieces;
  are_met = are_met strong weak h (demands (items_of r.pieces) (endings.Stops r.found)) r.are_met;
  are_parts = are_parts strong weak h options (items_of r.pieces) parts r.are_parts;
}

pub refuses_weaker : (strong weak : Encoding) → Weakens strong weak → (text : List ℕ) (options : OptionsView) (error : ErrorView) → Rejects text options strong error → Rejects text options weak error
refuses_weaker strong weak h text options error r = elim r [
  | inl fault ↦ inl fault
  | inr demand ↦ inr (record {
    tokens = demand.tokens;
    pieces = demand.pieces;
    ending = demand.ending;
    are_tokens = demand.are_tokens;
    are_pieces = demand.are_pieces;
    fails = first_fails strong weak h (demands (items_of demand.pieces) demand.ending) error demand.fails;
  })
]
