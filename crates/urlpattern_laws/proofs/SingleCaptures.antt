-- A wildcard that is matched without an engine captures what the loop of its characters does.
use Rattle.std.proofs.Common.{◌≡◌, ◌↔◌, ℕ, zero, suc, List, [], ◌∷◌, ◌++◌, length, Bool, true, false, not, ◌&&◌, ◌==◌, Option, Some, None, refl, sym, ap, ◌∙◌, subst, append-nil}
use Rattle.std.proofs.lemmas.Bool.{and_from, and_parts}
use Rattle.std.specs.List.{list_all}
use Rattle.std.specs.Prelude.{◌≢◌, IsTrue}
use Rattle.urlpattern_expressions.specs.PartWays.{captured_whole, is_in_segment_as}
use Rattle.urlpattern_laws.proofs.Catching.{Caps}
use Rattle.urlpattern_laws.proofs.StrippedWays.{first_is}
use Rattle.urlpattern_meaning.proofs.FirstWay.{not_found}
use Rattle.urlpattern_meaning.proofs.WayLists.{Has, every-map, every-weaker, has-map}
use Rattle.urlpattern_meaning.proofs.WaysComplete.{IsComplete, one_complete, taken-complete, way_of}
use Rattle.urlpattern_meaning.proofs.WaysJoined.{first_of}
use Rattle.urlpattern_meaning.proofs.WaysSound.{AreSound, IsSound, nil_of_zero, one_sound, taken-count, taken-sound}
use Rattle.urlpattern_meaning.specs.Dialect.{AllowsGroups, IsQuantified, LazyOneOrMore, Quantifier, ZeroOrMore}
use Rattle.urlpattern_meaning.specs.Matching.{MayBeEmpty, PassesFilter, folded, folded_character, is_same_character}
use Rattle.urlpattern_meaning.specs.PartMeaning.{Captures}
use Rattle.urlpattern_meaning.specs.Ways.{WaysByText, capturing, looped, one_that, quantified_ways}
use Rattle.urlpattern_syntax.specs.Text.{IsRepeated, lacks, line_feed}

-- ---- loops of characters

module _ (passes : ℕ → Bool) where
  -- A single character that passes, without captures.
  abbrev IsOne : Caps
  IsOne text captures = ((c : ℕ) × (text ≡ c ∷ []) × (passes c ≡ true)) × (captures ≡ [])

  one_is_sound : AreSound (one_that passes) IsOne
  one_is_sound = one_sound passes IsOne (λ c e. ((c, refl, e), refl))

  one_is_complete : IsComplete (one_that passes) IsOne
  one_is_complete taken captures rest ((c, is, e), none) = rw (is, none) (one_complete passes c rest e)

  one_count : (text : List ℕ) (captures : Captures) → IsOne text captures → length captures ≡ 0
  one_count text captures is = ap length is.1

  abbrev AreMany : (n : ℕ) → List ℕ → Type 0
  AreMany n text = IsRepeated (λ substring. IsOne substring []) n text

  many_pass : (n : ℕ) (text : List ℕ) → AreMany n text → list_all passes text ≡ true
  many_pass zero text none = ap (list_all passes) none
  many_pass (suc n) text (first, rest, cut, ((c, is, e), none), more) =
      ap (list_all passes) (cut ∙ ap (λ (t : List ℕ). t ++ rest) is) ∙ and_from (passes c) (list_all passes rest) e (many_pass n rest more)

  all_many : (text : List ℕ) → list_all passes text ≡ true → AreMany (length text) text
  all_many [] all = refl
  all_many (c ∷ text) all =
      let both = and_parts (passes c) (list_all passes text) all in
      (c ∷ [], text, refl, ((c, refl, both.0), refl), all_many text both.1)

  many_filled : (n : ℕ) (text : List ℕ) → AreMany (suc n) text → text ≢ []
  many_filled n text (first, rest, cut, ((c, is, e), none), more) = λ empty.
      let filled : c ∷ rest ≡ [] = sym (cut ∙ ap (λ (t : List ℕ). t ++ rest) is) ∙ empty in
      absurd cc

  -- ---- a capture of a loop

  module _ (quantifier : Quantifier) (allowed : AllowsGroups quantifier 0) where
    abbrev loop : WaysByText
    loop = quantified_ways quantifier 0 (one_that passes)

    -- The text is of the loop, and is captured whole.
    abbrev pub IsLoop : Caps
    IsLoop text captures = IsQuantified quantifier 0 IsOne text [] × (captures ≡ Some text ∷ [])

    loop_sound : AreSound (captured_whole loop) IsLoop
    loop_sound text =
        every-map (IsSound text IsLoop) capturing (loop text)
        (every-weaker (IsSound text (IsQuantified quantifier 0 IsOne)) _ (loop text)
        (λ way is.
        let none : way.captures ≡ [] = nil_of_zero way.captures (taken-count quantifier 0 IsOne allowed one_count way.taken way.captures is.1) in (
          is.0,
          (subst (λ (c : Captures). IsQuantified quantifier 0 IsOne way.taken c) none is.1, ap (λ (c : Captures). Some way.taken ∷ c) none),
        ))
        (taken-sound quantifier 0 (one_that passes) IsOne allowed one_count one_is_sound text))

    loop_there : (text : List ℕ) → IsQuantified quantifier 0 IsOne text [] → Has (way_of text (Some text ∷ []) []) (captured_whole loop text)
    loop_there text is =
        has-map capturing (way_of text [] []) (loop text)
        (subst (λ (t : List ℕ). Has (way_of text [] []) (loop t)) (append-nil text) (taken-complete quantifier 0 (one_that passes) IsOne allowed one_is_complete text [] [] is))

    pub loop_first : (text : List ℕ) (captures : Captures) → IsLoop text captures ↔ (first_of (captured_whole loop text) ≡ Some captures)
    loop_first text captures = (λ is. by is (first_of (captured_whole loop text)) refl, λ e. first_is text IsLoop (captured_whole loop text) captures (loop_sound text) e)
      where
        by : IsLoop text captures → (first : Option Captures) → first_of (captured_whole loop text) ≡ first → first_of (captured_whole loop text) ≡ Some captures
        by is None e = absurd (not_found (captured_whole loop text) text (Some text ∷ []) (loop_there text is.0) e)
        by is (Some others) e = e ∙ ap Some ((first_is text IsLoop (captured_whole loop text) others (loop_sound text) e).1 ∙ sym is.1)

-- ---- wildcards

filter_is : (ignore_case : Bool) (delimiter : ℕ) (text : List ℕ)
    → lacks (folded_character ignore_case delimiter) (folded ignore_case text) ≡ list_all (is_in_segment_as (is_same_character ignore_case) (Some delimiter)) text
filter_is false delimiter text = refl
filter_is true delimiter [] = refl
filter_is true delimiter (c ∷ text) = ap (λ (b : Bool). not (is_same_character true c delimiter) && b) (filter_is true delimiter text)

-- In a line, the filter of a single capture is that of a segment.
passes_segment : (ignore_case : Bool) (delimiter : Option ℕ) (text : List ℕ) → IsTrue (lacks line_feed text)
    → PassesFilter ignore_case delimiter text ↔ (list_all (is_in_segment_as (is_same_character ignore_case) delimiter) text ≡ true)
passes_segment ignore_case None text no_feed = (λ any. no_feed, λ all. tt)
passes_segment ignore_case (Some delimiter) text no_feed = (λ passes. sym (filter_is ignore_case delimiter text) ∙ passes, λ all. filter_is ignore_case delimiter text ∙ all)

-- The text is captured whole, if a single capture accepts it.
abbrev pub IsAccepted : (ignore_case : Bool) → (filter : Option ℕ) → (allow_empty : Bool) → Caps
IsAccepted ignore_case filter allow_empty text captures = MayBeEmpty allow_empty text × PassesFilter ignore_case filter text × (captures ≡ Some text ∷ [])

pub segment_first : (ignore_case : Bool) (delimiter : Option ℕ) (text : List ℕ) (captures : Captures) → IsTrue (lacks line_feed text)
    → IsAccepted ignore_case delimiter false text captures ↔ (first_of (captured_whole (looped false (one_that (is_in_segment_as (is_same_character ignore_case) delimiter))) text) ≡ Some captures)
segment_first ignore_case delimiter text captures no_feed =
    let passes : ℕ → Bool = is_in_segment_as (is_same_character ignore_case) delimiter in
    let filter = passes_segment ignore_case delimiter text no_feed in
    let first = loop_first passes LazyOneOrMore refl text captures in (
      λ (filled, passed, is). first.0 (many text filled (filter.0 passed), is),
      λ e. let is = first.1 e in (many_filled passes is.0.0 text is.0.1, filter.1 (many_pass passes (suc is.0.0) text is.0.1), is.1),
    )
  where
    many : (text : List ℕ) → text ≢ [] → list_all (is_in_segment_as (is_same_character ignore_case) delimiter) text ≡ true
        → IsQuantified LazyOneOrMore 0 (IsOne (is_in_segment_as (is_same_character ignore_case) delimiter)) text []
    many [] filled all = absurd (filled refl)
    many (c ∷ text) filled all = (length text, all_many (is_in_segment_as (is_same_character ignore_case) delimiter) (c ∷ text) all, refl)

pub full_first : (ignore_case : Bool) (text : List ℕ) (captures : Captures) → IsTrue (lacks line_feed text)
    → IsAccepted ignore_case None true text captures ↔ (first_of (captured_whole (quantified_ways ZeroOrMore 0 (one_that (λ c. not (c == line_feed)))) text) ≡ Some captures)
full_first ignore_case text captures no_feed =
    let first = loop_first (λ c. not (c == line_feed)) ZeroOrMore refl text captures in (
      λ (filled, passed, is). first.0 ((length text, all_many (λ c. not (c == line_feed)) text no_feed, refl), is),
      λ e. (tt, tt, (first.1 e).1),
    )
