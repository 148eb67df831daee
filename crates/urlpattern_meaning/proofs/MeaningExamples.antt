-- Worked examples of the meaning of parts.
use Rattle.std.proofs.Common.{◌≡◌, ℕ, zero, suc, ◌≤◌, List, [], ◌∷◌, ◌++◌, refl, sym, arith, Some, None}
use Rattle.std.proofs.lemmas.List.{append-nil, append_cancel_left, append_cancel_right}
use Rattle.std.specs.Prelude.{codes}
use Rattle.urlpattern_syntax.specs.declared.parser.PartModifier.TheVariants as modifiers
use Rattle.urlpattern_syntax.specs.declared.parser.PartType.TheVariants.{SegmentWildcard, FullWildcard}
use Rattle.urlpattern_syntax.specs.Options.{OptionsView, default_options, pathname_options}
use Rattle.urlpattern_meaning.specs.PartMeaning.{AreCopies, Captures, AreCaptures, PartMeans, PartsMean}
use Rattle.urlpattern_syntax.specs.Parts.{PartView, fixed_text}
use Rattle.urlpattern_syntax.proofs.RegexpTextExamples.{group}

-- A part by itself.
pub part_alone : {options : OptionsView} {part : PartView} {text : List ℕ} {captures : Captures} → PartsMean options (part ∷ []) text captures → PartMeans options part text captures
part_alone {options} {part} {text} {captures} (first, rest, own, others, e, f, means, ended) =
    rw (e, f, ended.0, ended.1, append-nil first, append-nil own) means

pub alone_means : {options : OptionsView} {part : PartView} {text : List ℕ} {captures : Captures} → PartMeans options part text captures → PartsMean options (part ∷ []) text captures
alone_means {options} {part} {text} {captures} means =
    (text, [], captures, [], sym (append-nil text), sym (append-nil captures), means, (refl, refl))

-- The pattern `{a/:x/b}+`: one capture from the first copy's segment to the last one's.
abbrev pub joined_part : PartView
joined_part = group SegmentWildcard (codes "a/") (codes "x") (codes "/b") modifiers.OneOrMore

pub joined_means : PartsMean pathname_options (joined_part ∷ []) (codes "a/1/ba/2/b") (Some (codes "1/ba/2") ∷ [])
joined_means = alone_means (record {
  count = 2;
  allowed = omega arith;
  are_copies = (codes "a/1/b", codes "a/2/b", refl, (codes "1", refl, (λ e. cc e, refl)), (codes "a/2/b", [], refl, (codes "2", refl, (λ e. cc e, refl)), refl));
  are_captures = (Some (codes "1/ba/2"), (codes "1/ba/2", refl, refl), refl);
})

-- The captures of copies of the part, where there is at least one.
joined_capture : (n : ℕ) (captures : Captures) → 1 ≤ n → AreCaptures SegmentWildcard joined_part n (codes "a/1/ba/2/b") captures → captures ≡ Some (codes "1/ba/2") ∷ []
joined_capture zero captures some captured = absurd (omega (arith, some))
joined_capture (suc n) captures some (capture, (inner, e, f), g) =
    let cut : codes "1/ba/2/b" ≡ inner ++ codes "/b" = append_cancel_left (codes "a/") (codes "1/ba/2/b") (inner ++ codes "/b") e in
    let same : codes "1/ba/2" ≡ inner = append_cancel_right (codes "1/ba/2") inner (codes "/b") cut in
    rw (g, f, ← same)

pub joined_only : (captures : Captures) → PartsMean pathname_options (joined_part ∷ []) (codes "a/1/ba/2/b") captures → captures ≡ Some (codes "1/ba/2") ∷ []
joined_only captures means = joined_capture (part_alone means).count captures (part_alone means).allowed (part_alone means).are_captures

-- The pattern `{*}?` on the empty text: no copy, or an empty one.
abbrev pub optional_part : PartView
optional_part = group FullWildcard [] (codes "0") [] modifiers.Optional

pub optional_none : PartsMean default_options (optional_part ∷ []) [] (None ∷ [])
optional_none = alone_means (record { count = 0; allowed = omega arith; are_copies = refl; are_captures = (None, refl, refl) })

pub optional_empty : PartsMean default_options (optional_part ∷ []) [] (Some [] ∷ [])
optional_empty = alone_means (record {
  count = 1;
  allowed = omega arith;
  are_copies = ([], [], refl, ([], refl, refl), refl);
  are_captures = (Some [], ([], refl, refl), refl);
})

-- The pattern `:x*`: the capture of no copies is empty.
abbrev pub starred_part : PartView
starred_part = group SegmentWildcard [] (codes "x") [] modifiers.ZeroOrMore

pub starred_empty : PartsMean default_options (starred_part ∷ []) [] (Some [] ∷ [])
starred_empty = alone_means (record { count = 0; allowed = tt; are_copies = refl; are_captures = (Some [], refl, refl) })

-- The pattern `:x*` on a text of two characters: one copy.
pub starred_text : PartsMean default_options (starred_part ∷ []) (codes "ab") (Some (codes "ab") ∷ [])
starred_text = alone_means (record {
  count = 1;
  allowed = tt;
  are_copies = (codes "ab", [], refl, (codes "ab", refl, (λ e. cc e, refl)), refl);
  are_captures = (Some (codes "ab"), (codes "ab", refl, refl), refl);
})

-- The pattern `{a}?`: two copies are too many.
pub optional_twice : (captures : Captures) → ¬ PartsMean default_options (fixed_text (codes "a") modifiers.Optional ∷ []) (codes "aa") captures
optional_twice captures means = by_count (part_alone means).count (part_alone means).allowed (part_alone means).are_copies
  where
    by_count : (n : ℕ) → n ≤ 1 → AreCopies default_options (fixed_text (codes "a") modifiers.Optional) n (codes "aa") → ⊥
    by_count zero le e = cc e
    by_count (suc zero) le (first, rest, e, f, g) = cc (e, f, g)
    by_count (suc (suc n)) le h = absurd (omega (arith, le))
