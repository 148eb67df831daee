use Rattle.std.proofs.Common.{◌≡◌, ◌≢◌, ℕ, Bool, true, false, List, All, length, sym, subst, rules}
use Rattle.std.specs.Prelude.{MatchBool}
use Rattle.std.specs.Io.{IsEmptyOrEndsWith}
use Rattle.std.specs.Io.BufRead.{FillKeeps}
use Rattle.std.specs.Io.KnownBytes.{Consumes}
use Rattle.std.proofs.BufReadLemmas.{Consumes_shown, zero_unless_positive}
use Rattle.urlpat_matching.proofs.lines.append_some.Goals as goal

-- An empty part that ends a line is at the end of the input.
ends : (ended : Bool) (part : List ℕ) (AtEnd : Type 0) → MatchBool ended (IsEmptyOrEndsWith part 10) (All (λ byte. byte ≢ 10) part) → (length part ≡ 0 → AtEnd)
    → MatchBool ended (IsEmptyOrEndsWith part 10 × (length part ≡ 0 → AtEnd)) (All (λ byte. byte ≢ 10) part)
ends true part AtEnd h at_end = (h, at_end)
ends false part AtEnd h at_end = h

pub returns : goal.returns
returns g c =
    let part = c.first_part-part.result.now in
    let rested = c.fill_buf.follows.lender-at-none in
    let filled = subst (FillKeeps _ (g.In.Read.remaining rested) (g.In.BufRead.consumable_len rested)) c.in-Ok.is c.fill_buf.follows.holds-at-none in
    let moved = Consumes_shown _ _ _ _ c.in-Ok.filled.now (length part) c.first_part-part.ensures.within c.in-Ok.ensures.front c.in-Ok.ensures.end filled.0 filled.1 c.consume.ensures.bytes in
    record {
      part = part;
      consumed = subst (Consumes _ _) (sym c.first_part-part.ensures.front) moved.0;
      is_appended = search rules;
      stops = c.first_part-part.ensures.stops;
      ends = ends _ _ _ c.is_ended-ended.ensures (λ none. moved.1 (zero_unless_positive _ _ c.first_part-part.ensures.some none));
    }
