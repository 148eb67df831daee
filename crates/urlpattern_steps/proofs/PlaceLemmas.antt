-- The suffixes of a text that a step and the others match, from the end of the text on.
use Rattle.std.proofs.Common.{◌≡◌, ℕ, ◌<◌, ◌⊎◌, inl, inr, List, [], ◌∷◌, ◌++◌, length, get_or, take, Option, Some, None, option_map, Bool, true, false, cond, refl, sym, ap, ◌∙◌, subst, append-nil, append_assoc, length-append, arith}
use Rattle.std.proofs.Math.ListN.{get_or-append}
use Rattle.std.proofs.Math.Seq.{get_or-append_seam}
use Rattle.std.proofs.lemmas.Bool.{false≢true}
use Rattle.std.proofs.lemmas.List.{append_cancel_left}
use Rattle.std.proofs.lemmas.Str.{chars-append, chars_past_char, IsUtf8-append}
use Rattle.std.specs.Char.{IsScalar, encode_utf8}
use Rattle.std.specs.Prelude.{is_some}
use Rattle.std.specs.Str.{chars, IsUtf8}
use Rattle.urlpattern_meaning.specs.PartMeaning.{Captures}
use Rattle.urlpattern_syntax.proofs.StringTexts.{chars-encode}
use Rattle.urlpattern_steps.specs.declared.step.Step.{Step}
use Rattle.urlpattern_steps.specs.declared.step.LiteralString.{LiteralString}
use Rattle.urlpattern_steps.specs.Walk.{BeginsAs, Continuation, after_text, literals, walk, end_if_continued}
use Rattle.urlpattern_steps.specs.Table.{IsEntryAfter, IsRow, IsSingle, result_after_literal, run_end, following, step_continuation, result_within_run, own_count, literal_string_of, result_at_start}
use Rattle.urlpattern_steps.specs.AddedCaptures.{IsPrefixLengthFor}
use Rattle.urlpattern_steps.proofs.CopyLemmas.{after-found, after-other}
use Rattle.urlpattern_steps.proofs.SameLemmas.{begins_or_not, no_same}
use Rattle.urlpattern_steps.proofs.FollowLemmas.{chars_end}
use Rattle.urlpattern_steps.proofs.MatchedPrefixes.{after_own, begins, begins_is, begun_cut, goes, goes_is, later_cut, next_of, onward, onward_of, own_text, some_given, some_wholly, walk_wholly, whole_cut, wholly, wholly_is}
use Rattle.urlpattern_meaning.specs.Matching.{IsSame, is_same_character}

-- ---- lists with an entry for each shorter suffix

-- Each shorter suffix of the rest has an entry, by its number of characters.
pub record IsFilled {A : Type 0} (Entry : (before left : List ℕ) → A → Type 0) (default : A) (front rest : List ℕ) (entries : List A) : Type 0 where
  pub count : length entries ≡ length rest
  pub each : (passed left : List ℕ) → rest ≡ passed ++ left → ¬ (passed ≡ []) → Entry (front ++ passed) left (get_or entries (length left) default)

module _ {A : Type 0} (Entry : (before left : List ℕ) → A → Type 0) (default : A) where
  filled_none : (front : List ℕ) → IsFilled Entry default front [] []
  filled_none front = record {
    count = refl;
    each = λ passed left e some. absurd (some (first_nil passed left e));
  }
    where
      first_nil : (passed left : List ℕ) → [] ≡ passed ++ left → passed ≡ []
      first_nil [] left e = refl
      first_nil (d ∷ passed) left e = let f : [] ≡ d ∷ (passed ++ left) = e in cc

  -- With one more entry, each suffix has one.
  pub filled_all : (front rest : List ℕ) (entries : List A) (x : A) → IsFilled Entry default front rest entries → Entry front rest x
      → (passed left : List ℕ) → rest ≡ passed ++ left → Entry (front ++ passed) left (get_or (entries ++ x ∷ []) (length left) default)
  filled_all front rest entries x is one [] left e =
      let n : length left ≡ length entries = sym (ap length e) ∙ sym is.count in
      let last : get_or (entries ++ x ∷ []) (length left) default ≡ x = ap (λ k. get_or (entries ++ x ∷ []) k default) n ∙ get_or-append_seam entries x [] default in
      subst (λ l. Entry l left (get_or (entries ++ x ∷ []) (length left) default)) (sym (append-nil front))
      (subst (λ y. Entry front left y) (sym last) (subst (λ l. Entry front l x) e one))
  filled_all front rest entries x is one (d ∷ passed) left e =
      let lt : length left < length entries = omega (arith, is.count, ap length e, length-append passed left) in
      subst (λ y. Entry (front ++ d ∷ passed) left y) (sym (get_or-append entries (x ∷ []) default (length left) lt))
      (is.each (d ∷ passed) left e (λ none. let f : (d ∷ passed) ≡ [] = none in cc))

  -- The list with one more entry, at the previous character.
  pub filled_more : (shorter rest : List ℕ) (d : ℕ) (entries : List A) (x : A) → IsFilled Entry default (shorter ++ d ∷ []) rest entries → Entry (shorter ++ d ∷ []) rest x
      → IsFilled Entry default shorter (d ∷ rest) (entries ++ x ∷ [])
  filled_more shorter rest d entries x is one = record {
    count = omega (arith, length-append entries (x ∷ []), is.count);
    each = each;
  }
    where
      each : (passed left : List ℕ) → d ∷ rest ≡ passed ++ left → ¬ (passed ≡ []) → Entry (shorter ++ passed) left (get_or (entries ++ x ∷ []) (length left) default)
      each [] left e some = absurd (some refl)
      each (c ∷ passed) left e some =
          let whole : d ∷ rest ≡ c ∷ (passed ++ left) = e in
          let first : d ≡ c = cc in
          let others : rest ≡ passed ++ left = cc in
          subst (λ l. Entry l left (get_or (entries ++ x ∷ []) (length left) default)) (append_assoc shorter (d ∷ []) passed ∙ ap (λ y. shorter ++ y ∷ passed) first)
          (filled_all (shorter ++ d ∷ []) rest entries x is one passed left others)

-- ---- the ends at a place

some_cut : (gives : Continuation) (text : List ℕ) (n : Option ℕ) (found : Option Captures) → IsPrefixLengthFor gives text n found → is_some n ≡ is_some found
some_cut gives text None found cut = ap is_some (sym cut)
some_cut gives text (Some n) None cut = absurd (cut.7 refl)
some_cut gives text (Some n) (Some x) cut = refl

-- The entry for the rest after some characters.
next_cut : (ignore_case : Bool) (gives begun : Continuation) (text front rest : List ℕ) (entries : List (Option ℕ)) (own : Option LiteralString) (literal : List ℕ) (next : Option ℕ)
    → IsFilled (λ before left n. IsPrefixLengthFor gives text n (begun before left)) None front rest entries
    → IsEntryAfter ignore_case entries (option_map (λ (literal_string : LiteralString). literal_string.first ∷ literal) own) rest next
    → IsPrefixLengthFor gives text next (after_own ignore_case (option_map (λ (literal_string : LiteralString). literal_string.first ∷ literal) own) begun front rest)
next_cut ignore_case gives begun text front rest entries None literal next is entry = subst (λ n. IsPrefixLengthFor gives text n None) (sym entry) refl
next_cut ignore_case gives begun text front rest entries (Some own) literal next is (there, other) = by (begins_or_not ignore_case characters rest)
  where
    characters : List ℕ
    characters = own.first ∷ literal

    by : ((left : List ℕ) × BeginsAs ignore_case characters rest left) ⊎ ((left : List ℕ) → ¬ BeginsAs ignore_case characters rest left)
        → IsPrefixLengthFor gives text next (after_text ignore_case characters begun front rest)
    by (inl (left, e)) =
        subst (λ o. IsPrefixLengthFor gives text next o) (sym (after-found ignore_case characters rest left begun front e))
        (subst (λ n. IsPrefixLengthFor gives text n (begun (front ++ e.0) left)) (sym (there left e))
        (is.each e.0 left e.1 (λ none. no_same ignore_case own.first literal (subst (λ t. IsSame ignore_case t characters) none e.2))))
    by (inr none) =
        subst (λ o. IsPrefixLengthFor gives text next o) (sym (after-other ignore_case characters rest begun front none))
        (subst (λ n. IsPrefixLengthFor gives text n None) (sym (other none)) refl)

-- The end here.
here_cut : (gives : Continuation) (text front rest : List ℕ) (b : Bool) → IsUtf8 front → IsUtf8 rest → text ≡ front ++ rest
    → b ≡ is_some (gives (chars front) (chars rest)) → IsPrefixLengthFor gives text (cond b (Some (length front)) None) (gives (chars front) (chars rest))
here_cut gives text front rest true u v e is = (front, rest, u, v, e, refl, refl, λ none. false≢true (sym (is ∙ ap is_some none)))
here_cut gives text front rest false u v e is = nothing (gives (chars front) (chars rest)) is
  where
    nothing : (o : Option Captures) → false ≡ is_some o → o ≡ None
    nothing None e = refl
    nothing (Some x) e = absurd (false≢true e)

onward_cut : (ignore_case : Bool) (gives later : Continuation) (text front rest : List ℕ) (end : ℕ) (n : Option ℕ) → ((d : ℕ) (left : List ℕ) → rest ≡ d ∷ left → IsPrefixLengthFor gives text n (later (front ++ d ∷ []) left))
    → IsPrefixLengthFor gives text (end_if_continued ignore_case end n rest) (onward ignore_case end later front rest)
onward_cut ignore_case gives later text front [] end n is = refl
onward_cut ignore_case gives later text front (d ∷ rest) end n is = by (is_same_character ignore_case d end) (is d rest refl)
  where
    by : (b : Bool) → IsPrefixLengthFor gives text n (later (front ++ d ∷ []) rest) → IsPrefixLengthFor gives text (cond b None n) (cond b None (later (front ++ d ∷ []) rest))
    by true cut = refl
    by false cut = cut

module _ (ignore_case : Bool) (step : Step) (others : List Step) (text : List ℕ) where
  abbrev pub Begun : List ℕ → List ℕ → Option ℕ → Type 0
  Begun before left n = IsPrefixLengthFor (step_continuation ignore_case step others) text n (begins ignore_case step others before left)

  abbrev pub DecidesMatch : List ℕ → List ℕ → Bool → Type 0
  DecidesMatch before left b = b ≡ is_some (walk ignore_case (step ∷ others) left)

  -- The entries for the shorter suffixes.
  pub record IsSoFar (front rest : List ℕ) (begun : List (Option ℕ)) (row : List Bool) (later : Option ℕ) : Type 0 where
    pub is_begun : IsFilled Begun None front rest begun
    pub is_row : IsFilled DecidesMatch false front rest row
    pub is_later : (d : ℕ) (left : List ℕ) → rest ≡ d ∷ left → IsPrefixLengthFor (step_continuation ignore_case step others) text later (goes ignore_case step others (front ++ d ∷ []) left)

  pub so_far_none : (front : List ℕ) → IsSoFar front [] [] [] None
  so_far_none front = record {
    is_begun = filled_none Begun None front;
    is_row = filled_none DecidesMatch false front;
    is_later = λ d left e. let f : [] ≡ d ∷ left = e in cc;
  }

  -- The ends for this suffix.
  pub record IsPlaced (front rest : List ℕ) (begun later whole : Option ℕ) : Type 0 where
    pub begun_here : IsPrefixLengthFor (step_continuation ignore_case step others) text begun (begins ignore_case step others front rest)
    pub later_here : IsPrefixLengthFor (step_continuation ignore_case step others) text later (goes ignore_case step others front rest)
    pub whole_here : IsPrefixLengthFor (step_continuation ignore_case step others) text whole (wholly ignore_case step others front rest)

  placed_by : (front rest : List ℕ) (next here forward : Option ℕ) → IsSingle step
      → IsPrefixLengthFor (step_continuation ignore_case step others) text next (next_of ignore_case step others front rest)
      → IsPrefixLengthFor (step_continuation ignore_case step others) text here (step_continuation ignore_case step others front rest)
      → IsPrefixLengthFor (step_continuation ignore_case step others) text forward (onward_of ignore_case step others front rest)
      → IsPlaced front rest (result_after_literal step next here forward) (result_within_run step next here forward) (result_at_start step next here forward)
  placed_by front rest next here forward single one two three =
      let n = next_of ignore_case step others front rest in
      let g = step_continuation ignore_case step others front rest in
      let o = onward_of ignore_case step others front rest in
      record {
        begun_here = subst (λ f. IsPrefixLengthFor (step_continuation ignore_case step others) text (result_after_literal step next here forward) f) (sym (begins_is ignore_case step others front rest))
            (begun_cut (step_continuation ignore_case step others) text next here forward n g o one two three step);
        later_here = subst (λ f. IsPrefixLengthFor (step_continuation ignore_case step others) text (result_within_run step next here forward) f) (sym (goes_is ignore_case step others front rest))
            (later_cut (step_continuation ignore_case step others) text next here forward n g o one two three step);
        whole_here = subst (λ f. IsPrefixLengthFor (step_continuation ignore_case step others) text (result_at_start step next here forward) f) (sym (wholly_is ignore_case step others single front rest))
            (whole_cut (step_continuation ignore_case step others) text next here forward n g o one two three step);
      }

  pub placed : (front rest : List ℕ) (begun : List (Option ℕ)) (row after : List Bool) (later next here forward : Option ℕ) → IsSingle step
      → IsUtf8 front → IsUtf8 rest → text ≡ front ++ rest
      → IsSoFar (chars front) (chars rest) begun row later
      → IsEntryAfter ignore_case begun (own_text step (literals (take (own_count (literal_string_of step)) others))) (chars rest) next
      → get_or after (length (chars rest)) false ≡ is_some (walk ignore_case (following step others) (chars rest))
      → here ≡ cond (get_or after (length row) false) (Some (length front)) None
      → forward ≡ end_if_continued ignore_case (run_end step) later (chars rest)
      → IsPlaced (chars front) (chars rest) (result_after_literal step next here forward) (result_within_run step next here forward) (result_at_start step next here forward)
  placed front rest begun row after later next here forward single u v e so_far entry has stops goes_on =
      let bit : get_or after (length row) false ≡ is_some (step_continuation ignore_case step others (chars front) (chars rest)) =
      ap (λ n. get_or after n false) so_far.is_row.count ∙ has ∙ sym (some_given ignore_case step others (chars front) (chars rest)) in
      placed_by (chars front) (chars rest) next here forward single
      (next_cut ignore_case (step_continuation ignore_case step others) (begins ignore_case step others) text (chars front) (chars rest) begun (literal_string_of step) (literals (take (own_count (literal_string_of step)) others)) next so_far.is_begun entry)
      (subst (λ n. IsPrefixLengthFor (step_continuation ignore_case step others) text n (step_continuation ignore_case step others (chars front) (chars rest))) (sym stops)
      (here_cut (step_continuation ignore_case step others) text front rest (get_or after (length row) false) u v e bit))
      (subst (λ n. IsPrefixLengthFor (step_continuation ignore_case step others) text n (onward_of ignore_case step others (chars front) (chars rest))) (sym goes_on)
      (onward_cut ignore_case (step_continuation ignore_case step others) (goes ignore_case step others) text (chars front) (chars rest) (run_end step) later so_far.is_later))

  -- The ends for this suffix, by the results of the calls.
  pub placed_at : (front rest : List ℕ) (begun : List (Option ℕ)) (row after : List Bool) (literal : List Step) (literal_string : Option LiteralString) (later next here forward first run whole : Option ℕ)
      → IsSingle step → IsUtf8 front → IsUtf8 rest → text ≡ front ++ rest
      → IsSoFar (chars front) (chars rest) begun row later
      → IsRow ignore_case (chars text) (following step others) after
      → literal_string ≡ literal_string_of step → literal ≡ take (own_count (literal_string_of step)) others
      → IsEntryAfter ignore_case begun (option_map (λ (own : LiteralString). own.first ∷ literals literal) literal_string) (chars rest) next
      → here ≡ cond (get_or after (length row) false) (Some (length front)) None
      → forward ≡ end_if_continued ignore_case (run_end step) later (chars rest)
      → first ≡ result_after_literal step next here forward → run ≡ result_within_run step next here forward → whole ≡ result_at_start step next here forward
      → IsPlaced (chars front) (chars rest) first run whole
  placed_at front rest begun row after literal literal_string later next here forward first run whole single u v e so_far is_after own literals_are entry stops goes_on f g h =
      let entry_of : IsEntryAfter ignore_case begun (own_text step (literals (take (own_count (literal_string_of step)) others))) (chars rest) next =
      subst (λ s. IsEntryAfter ignore_case begun (option_map (λ (own : LiteralString). own.first ∷ literals (take (own_count (literal_string_of step)) others)) s) (chars rest) next) own
      (subst (λ l. IsEntryAfter ignore_case begun (option_map (λ (own : LiteralString). own.first ∷ literals l) literal_string) (chars rest) next) literals_are entry) in
      let is = placed front rest begun row after later next here forward single u v e so_far entry_of (is_after.bits (chars rest) (chars_end text front rest u e)) stops goes_on in
      subst (λ n. IsPlaced (chars front) (chars rest) n run whole) (sym f)
      (subst (λ n. IsPlaced (chars front) (chars rest) (result_after_literal step next here forward) n whole) (sym g)
      (subst (λ n. IsPlaced (chars front) (chars rest) (result_after_literal step next here forward) (result_within_run step next here forward) n) (sym h) is))

  -- The ends for this suffix, with the entries as they are kept and the remaining text.
  pub placed_now : (front rest left : List ℕ) (begun kept : List (Option ℕ)) (row after : List Bool) (literal : List Step) (literal_string : Option LiteralString) (count stop : ℕ) (later next here forward first run whole : Option ℕ)
      → IsSingle step → IsUtf8 front → IsUtf8 left → text ≡ front ++ rest → text ≡ front ++ left
      → IsSoFar (chars front) (chars left) kept row later → begun ≡ kept
      → IsRow ignore_case (chars text) (following step others) after
      → literal_string ≡ literal_string_of step → literal ≡ take (own_count (literal_string_of step)) others
      → IsEntryAfter ignore_case begun (option_map (λ (own : LiteralString). own.first ∷ literals literal) literal_string) (chars rest) next
      → count ≡ length row → here ≡ cond (get_or after count false) (Some (length front)) None
      → stop ≡ run_end step → forward ≡ end_if_continued ignore_case stop later (chars rest)
      → first ≡ result_after_literal step next here forward → run ≡ result_within_run step next here forward → whole ≡ result_at_start step next here forward
      → IsSoFar (chars front) (chars rest) begun row later × IsPlaced (chars front) (chars rest) first run whole
  placed_now front rest left begun kept row after literal literal_string count stop later next here forward first run whole single u v e f so_far same is_after own literals_are entry len stops ends goes_on one two three =
      let behind : rest ≡ left = append_cancel_left front rest left (sym e ∙ f) in
      let is : IsSoFar (chars front) (chars rest) begun row later =
      subst (λ b. IsSoFar (chars front) (chars rest) b row later) (sym same) (subst (λ r. IsSoFar (chars front) (chars r) kept row later) (sym behind) so_far) in (
        is,
        placed_at front rest begun row after literal literal_string later next here forward first run whole single u (subst IsUtf8 (sym behind) v) e is is_after own literals_are entry
            (stops ∙ ap (λ n. cond (get_or after n false) (Some (length front)) None) len) (goes_on ∙ ap (λ n. end_if_continued ignore_case n later (chars rest)) ends) one two three,
      )

  taken_here : (front rest : List ℕ) (begun later whole : Option ℕ) → IsPlaced front rest begun later whole → DecidesMatch front rest (is_some whole)
  taken_here front rest begun later whole is =
      some_cut (step_continuation ignore_case step others) text whole (wholly ignore_case step others front rest) is.whole_here ∙ some_wholly ignore_case step others front rest

  -- The entries at the previous character.
  so_far_more : (shorter rest : List ℕ) (d : ℕ) (begun : List (Option ℕ)) (row : List Bool) (later first run whole : Option ℕ)
      → IsSoFar (shorter ++ d ∷ []) rest begun row later → IsPlaced (shorter ++ d ∷ []) rest first run whole
      → IsSoFar shorter (d ∷ rest) (begun ++ first ∷ []) (row ++ is_some whole ∷ []) run
  so_far_more shorter rest d begun row later first run whole is here = record {
    is_begun = filled_more Begun None shorter rest d begun first is.is_begun here.begun_here;
    is_row = filled_more DecidesMatch false shorter rest d row (is_some whole) is.is_row (taken_here (shorter ++ d ∷ []) rest first run whole here);
    is_later = λ c left e.
        let first : d ≡ c = cc in
        let others_same : rest ≡ left = cc in
        subst (λ l. IsPrefixLengthFor (step_continuation ignore_case step others) text run (goes ignore_case step others (shorter ++ c ∷ []) l)) others_same
        (subst (λ x. IsPrefixLengthFor (step_continuation ignore_case step others) text run (goes ignore_case step others (shorter ++ x ∷ []) rest)) first here.later_here);
  }

  pub so_far_next : (front shorter rest : List ℕ) (d : ℕ) (begun : List (Option ℕ)) (row : List Bool) (later first run whole : Option ℕ)
      → IsUtf8 shorter → IsUtf8 rest → IsScalar d → IsUtf8 (encode_utf8 d) → front ≡ shorter ++ encode_utf8 d
      → IsSoFar (chars front) (chars rest) begun row later → IsPlaced (chars front) (chars rest) first run whole
      → IsSoFar (chars shorter) (chars (encode_utf8 d ++ rest)) (begun ++ first ∷ []) (row ++ is_some whole ∷ []) run
  so_far_next front shorter rest d begun row later first run whole u v scalar w e is here =
      let spelled : chars front ≡ chars shorter ++ d ∷ [] = ap chars e ∙ chars-append shorter (encode_utf8 d) u ∙ ap (λ l. chars shorter ++ l) (chars-encode d scalar) in
      let longer : chars (encode_utf8 d ++ rest) ≡ d ∷ chars rest = chars_past_char (encode_utf8 d ++ rest) rest d (IsUtf8-append (encode_utf8 d) rest w v) refl in
      subst (λ l. IsSoFar (chars shorter) l (begun ++ first ∷ []) (row ++ is_some whole ∷ []) run) (sym longer)
      (so_far_more (chars shorter) (chars rest) d begun row later first run whole
      (subst (λ l. IsSoFar l (chars rest) begun row later) spelled is)
      (subst (λ l. IsPlaced l (chars rest) first run whole) spelled here))

  -- The row of the whole text.
  pub row_whole : (rest : List ℕ) (begun : List (Option ℕ)) (row : List Bool) (later first run whole : Option ℕ)
      → IsSoFar [] rest begun row later → IsPlaced [] rest first run whole → IsRow ignore_case rest (step ∷ others) (row ++ is_some whole ∷ [])
  row_whole rest begun row later first run whole is here = record {
    long = omega (arith, length-append row (is_some whole ∷ []), is.is_row.count);
    bits = λ end ends. filled_all DecidesMatch false [] rest row (is_some whole) is.is_row (taken_here [] rest first run whole here) ends.0 end ends.1;
  }

  pub end_whole : (rest : List ℕ) (first run whole : Option ℕ) → IsPlaced [] rest first run whole → IsPrefixLengthFor (step_continuation ignore_case step others) text whole (walk ignore_case (step ∷ others) rest)
  end_whole rest first run whole here = subst (λ f. IsPrefixLengthFor (step_continuation ignore_case step others) text whole f) (sym (walk_wholly ignore_case step others rest)) here.whole_here
