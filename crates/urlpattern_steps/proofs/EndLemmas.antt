-- The ends of separated runs, from the end of the text on.
use Rattle.std.proofs.Common.{◌≡◌, ℕ, ◌<◌, ◌⊎◌, inl, inr, List, [], ◌∷◌, ◌++◌, length, get_or, take, drop, Option, Some, None, option_map, Bool, true, false, cond, refl, sym, ap, ap₂, ◌∙◌, subst, append_assoc, length-append, arith}
use Rattle.std.proofs.Math.ListN.{get_or-append}
use Rattle.std.proofs.Math.Seq.{get_or-append_seam, take-append_seam}
use Rattle.urlpattern_syntax.proofs.StringTexts.{chars-encode}
use Rattle.std.proofs.lemmas.List.{append_cancel_left}
use Rattle.std.proofs.lemmas.Str.{chars-append, chars_past_char, IsUtf8-append}
use Rattle.std.specs.Char.{IsScalar, encode_utf8}
use Rattle.std.specs.Option.{option_or}
use Rattle.std.specs.Str.{chars, IsUtf8}
use Rattle.urlpattern_meaning.specs.PartMeaning.{Captures}
use Rattle.urlpattern_steps.specs.declared.step.Segments.{Segments as Segmented}
use Rattle.urlpattern_steps.specs.declared.step.Step.{Step}
use Rattle.urlpattern_steps.specs.declared.step.Step.TheVariants.{Segments}
use Rattle.urlpattern_steps.specs.Walk.{BeginsAs, Continuation, after_separator, after_text, any_rounds, captured_prefix, literal_text, literals, segmented, single_run, walk, walk_after, end_if_continued}
use Rattle.urlpattern_steps.specs.AddedCaptures.{IsEndHere, IsEndOfSegments, IsPrefixLengthFor}
use Rattle.urlpattern_steps.proofs.CopyLemmas.{after-found, after-other}
use Rattle.urlpattern_steps.proofs.Rounds.{any-unrolled}
use Rattle.urlpattern_steps.proofs.SegmentLemmas.{advances-separator, keeps-segmented}
use Rattle.urlpattern_steps.proofs.StepLemmas.{walk_after-drop}
use Rattle.urlpattern_steps.proofs.Tried.{Next}
use Rattle.urlpattern_meaning.specs.Matching.{IsSame, is_same_character}
use Rattle.urlpattern_steps.proofs.SameLemmas.{begins_or_not, no_same}

-- The prefix of the first result comes first.
pub cut-or : (gives : Continuation) (text : List ℕ) (n m : Option ℕ) (a b : Option Captures) → IsPrefixLengthFor gives text n a → IsPrefixLengthFor gives text m b → IsPrefixLengthFor gives text (option_or n m) (option_or a b)
cut-or gives text None m a b one two = subst (λ o. IsPrefixLengthFor gives text m (option_or o b)) (sym one) two
cut-or gives text (Some n) m None b (front, rest, u, v, e, f, g, some) two = absurd (some refl)
cut-or gives text (Some n) m (Some x) b one two = one

module _ (ignore_case : Bool) (c : ℕ) (literal : List ℕ) (is_greedy : Bool) (end : ℕ) (gives : Continuation) where
  abbrev pub separator : List ℕ
  separator = c ∷ literal

  -- The result if a run may end here.
  abbrev pub stops : Continuation
  stops front text = any_rounds (after_separator ignore_case separator (single_run ignore_case is_greedy end)) gives front text

  -- The result if a run begins here.
  abbrev pub begins : Continuation
  begins front text = segmented ignore_case separator (single_run ignore_case is_greedy end) gives front text

  -- The result if a run may end here or later.
  abbrev pub either : Continuation
  either front text = cond is_greedy (begins front text) (option_or (stops front text) (begins front text))

  -- The result if a run continues with the first character.
  abbrev pub onward : Continuation
  onward front [] = None
  onward front (d ∷ text) = cond (is_same_character ignore_case d end) None (either (front ++ d ∷ []) text)

  pub stops_unrolled : (front text : List ℕ) → stops front text ≡ option_or (after_text ignore_case separator begins front text) (gives front text)
  stops_unrolled front text = any-unrolled (after_separator ignore_case separator (single_run ignore_case is_greedy end)) (advances-separator ignore_case c literal is_greedy end) gives front text

  -- The table has the ends of separated runs that begin after the current prefix, and `later` is
  -- the end of a run that continues.
  pub record IsTable (text front rest : List ℕ) (table : List (Option ℕ)) (later : Option ℕ) : Type 0 where
    pub count : length table ≡ length rest
    pub entries : (passed left : List ℕ) → rest ≡ passed ++ left → ¬ (passed ≡ []) → IsPrefixLengthFor gives text (get_or table (length left) None) (begins (front ++ passed) left)
    pub goes : (d : ℕ) (left : List ℕ) → rest ≡ d ∷ left → IsPrefixLengthFor gives text later (either (front ++ d ∷ []) left)

  pub table_begun : (text front : List ℕ) → IsTable text front [] [] None
  table_begun text front = record {
    count = refl;
    entries = λ passed left e some. absurd (some (first_nil passed left e));
    goes = λ d left e. cc;
  }
    where
      first_nil : (passed left : List ℕ) → [] ≡ passed ++ left → passed ≡ []
      first_nil [] left e = refl
      first_nil (d ∷ passed) left e = let f : [] ≡ d ∷ (passed ++ left) = e in cc

  -- The end of separated runs that begin after the separator.
  pub next_cut : (text front rest : List ℕ) (table : List (Option ℕ)) (later next : Option ℕ) → IsTable text front rest table later
      → ((left : List ℕ) → BeginsAs ignore_case separator rest left → length table ≡ length rest → next ≡ get_or table (length left) None)
      → (((left : List ℕ) → ¬ BeginsAs ignore_case separator rest left) → next ≡ None)
      → IsPrefixLengthFor gives text next (after_text ignore_case separator begins front rest)
  next_cut text front rest table later next is there other = by (begins_or_not ignore_case separator rest)
    where
      by : ((left : List ℕ) × BeginsAs ignore_case separator rest left) ⊎ ((left : List ℕ) → ¬ BeginsAs ignore_case separator rest left)
          → IsPrefixLengthFor gives text next (after_text ignore_case separator begins front rest)
      by (inl (left, begun)) =
          subst (λ o. IsPrefixLengthFor gives text next o) (sym (after-found ignore_case separator rest left begins front begun))
          (subst (λ n. IsPrefixLengthFor gives text n (begins (front ++ begun.0) left)) (sym (there left begun is.count))
          (is.entries begun.0 left begun.1 (λ none. no_same ignore_case c literal (subst (λ t. IsSame ignore_case t separator) none begun.2))))
      by (inr none) =
          subst (λ o. IsPrefixLengthFor gives text next o) (sym (after-other ignore_case separator rest begins front none))
          (subst (λ n. IsPrefixLengthFor gives text n None) (sym (other none)) refl)

  -- The end of separated runs, one of which may end here.
  pub stop_cut : (text front rest : List ℕ) (next here : Option ℕ) → IsPrefixLengthFor gives text next (after_text ignore_case separator begins front rest)
      → IsPrefixLengthFor gives text here (gives front rest) → IsPrefixLengthFor gives text (option_or next here) (stops front rest)
  stop_cut text front rest next here one two =
      subst (λ o. IsPrefixLengthFor gives text (option_or next here) o) (sym (stops_unrolled front rest)) (cut-or gives text next here (after_text ignore_case separator begins front rest) (gives front rest) one two)

  pub onward_cut : (text front rest : List ℕ) (table : List (Option ℕ)) (later : Option ℕ) → IsTable text front rest table later → IsPrefixLengthFor gives text (end_if_continued ignore_case end later rest) (onward front rest)
  onward_cut text front [] table later is = refl
  onward_cut text front (d ∷ rest) table later is = by (is_same_character ignore_case d end) (is.goes d rest refl)
    where
      by : (b : Bool) → IsPrefixLengthFor gives text later (either (front ++ d ∷ []) rest) → IsPrefixLengthFor gives text (cond b None later) (cond b None (either (front ++ d ∷ []) rest))
      by true cut = refl
      by false cut = cut

-- The results of a run, by its kind.
pub begins_parts : (ignore_case : Bool) (c : ℕ) (literal : List ℕ) (is_greedy : Bool) (end : ℕ) (gives : Continuation) (front text : List ℕ)
    → begins ignore_case c literal is_greedy end gives front text
    ≡ cond is_greedy (option_or (onward ignore_case c literal is_greedy end gives front text) (stops ignore_case c literal is_greedy end gives front text)) (onward ignore_case c literal is_greedy end gives front text)
begins_parts ignore_case c literal true end gives front [] = refl
begins_parts ignore_case c literal true end gives front (d ∷ text) = by (is_same_character ignore_case d end)
  where
    by : (b : Bool) → cond b (stops ignore_case c literal true end gives front (d ∷ text)) (option_or (begins ignore_case c literal true end gives (front ++ d ∷ []) text) (stops ignore_case c literal true end gives front (d ∷ text)))
        ≡ option_or (cond b None (begins ignore_case c literal true end gives (front ++ d ∷ []) text)) (stops ignore_case c literal true end gives front (d ∷ text))
    by true = refl
    by false = refl
begins_parts ignore_case c literal false end gives front [] = refl
begins_parts ignore_case c literal false end gives front (d ∷ text) = refl

pub either_parts : (ignore_case : Bool) (c : ℕ) (literal : List ℕ) (is_greedy : Bool) (end : ℕ) (gives : Continuation) (front text : List ℕ)
    → either ignore_case c literal is_greedy end gives front text
    ≡ cond is_greedy (option_or (onward ignore_case c literal is_greedy end gives front text) (stops ignore_case c literal is_greedy end gives front text))
    (option_or (stops ignore_case c literal is_greedy end gives front text) (onward ignore_case c literal is_greedy end gives front text))
either_parts ignore_case c literal true end gives front text = begins_parts ignore_case c literal true end gives front text
either_parts ignore_case c literal false end gives front text = ap (option_or (stops ignore_case c literal false end gives front text)) (begins_parts ignore_case c literal false end gives front text)

cut_either : (is_greedy : Bool) (gives : Continuation) (text : List ℕ) (n m : Option ℕ) (a b : Option Captures) → IsPrefixLengthFor gives text n a → IsPrefixLengthFor gives text m b
    → IsPrefixLengthFor gives text (cond is_greedy (option_or n m) (option_or m n)) (cond is_greedy (option_or a b) (option_or b a))
cut_either true gives text n m a b one two = cut-or gives text n m a b one two
cut_either false gives text n m a b one two = cut-or gives text m n b a two one

cut_beginning : (is_greedy : Bool) (gives : Continuation) (text : List ℕ) (n m : Option ℕ) (a b : Option Captures) → IsPrefixLengthFor gives text n a → IsPrefixLengthFor gives text m b
    → IsPrefixLengthFor gives text (cond is_greedy (option_or n m) n) (cond is_greedy (option_or a b) a)
cut_beginning true gives text n m a b one two = cut-or gives text n m a b one two
cut_beginning false gives text n m a b one two = one

module _ (ignore_case : Bool) (c : ℕ) (literal : List ℕ) (is_greedy : Bool) (end : ℕ) (gives : Continuation) (text : List ℕ) where
  -- The end of separated runs that begin here.
  pub beginning_cut : (front rest : List ℕ) (forward stopping beginning : Option ℕ)
      → IsPrefixLengthFor gives text forward (onward ignore_case c literal is_greedy end gives front rest) → IsPrefixLengthFor gives text stopping (stops ignore_case c literal is_greedy end gives front rest)
      → beginning ≡ cond is_greedy (option_or forward stopping) forward → IsPrefixLengthFor gives text beginning (begins ignore_case c literal is_greedy end gives front rest)
  beginning_cut front rest forward stopping beginning one two e =
      subst (λ n. IsPrefixLengthFor gives text n (begins ignore_case c literal is_greedy end gives front rest)) (sym e)
      (subst (λ o. IsPrefixLengthFor gives text (cond is_greedy (option_or forward stopping) forward) o) (sym (begins_parts ignore_case c literal is_greedy end gives front rest))
      (cut_beginning is_greedy gives text forward stopping (onward ignore_case c literal is_greedy end gives front rest) (stops ignore_case c literal is_greedy end gives front rest) one two))

  pub either_cut : (front rest : List ℕ) (forward stopping both : Option ℕ)
      → IsPrefixLengthFor gives text forward (onward ignore_case c literal is_greedy end gives front rest) → IsPrefixLengthFor gives text stopping (stops ignore_case c literal is_greedy end gives front rest)
      → both ≡ cond is_greedy (option_or forward stopping) (option_or stopping forward) → IsPrefixLengthFor gives text both (either ignore_case c literal is_greedy end gives front rest)
  either_cut front rest forward stopping both one two e =
      subst (λ n. IsPrefixLengthFor gives text n (either ignore_case c literal is_greedy end gives front rest)) (sym e)
      (subst (λ o. IsPrefixLengthFor gives text (cond is_greedy (option_or forward stopping) (option_or stopping forward)) o) (sym (either_parts ignore_case c literal is_greedy end gives front rest))
      (cut_either is_greedy gives text forward stopping (onward ignore_case c literal is_greedy end gives front rest) (stops ignore_case c literal is_greedy end gives front rest) one two))

  -- The table with one more entry, at the previous character.
  pub table_more : (shorter rest : List ℕ) (d : ℕ) (table : List (Option ℕ)) (later beginning both : Option ℕ)
      → IsTable ignore_case c literal is_greedy end gives text (shorter ++ d ∷ []) rest table later
      → IsPrefixLengthFor gives text beginning (begins ignore_case c literal is_greedy end gives (shorter ++ d ∷ []) rest)
      → IsPrefixLengthFor gives text both (either ignore_case c literal is_greedy end gives (shorter ++ d ∷ []) rest)
      → IsTable ignore_case c literal is_greedy end gives text shorter (d ∷ rest) (table ++ beginning ∷ []) both
  table_more shorter rest d table later beginning both is begun ended = record {
    count = omega (arith, length-append table (beginning ∷ []), is.count);
    entries = entries;
    goes = λ e left same.
        let first : d ≡ e = cc in
        let others : rest ≡ left = cc in
        subst (λ l. IsPrefixLengthFor gives text both (either ignore_case c literal is_greedy end gives (shorter ++ e ∷ []) l)) others
        (subst (λ x. IsPrefixLengthFor gives text both (either ignore_case c literal is_greedy end gives (shorter ++ x ∷ []) rest)) first ended);
  }
    where
      later_entries : (e : ℕ) (passed left : List ℕ) → d ≡ e → rest ≡ passed ++ left
          → IsPrefixLengthFor gives text (get_or (table ++ beginning ∷ []) (length left) None) (begins ignore_case c literal is_greedy end gives (shorter ++ e ∷ passed) left)
      later_entries e [] left first same =
          let n : length left ≡ length table = sym (ap length same) ∙ sym is.count in
          subst (λ x. IsPrefixLengthFor gives text (get_or (table ++ beginning ∷ []) (length left) None) (begins ignore_case c literal is_greedy end gives (shorter ++ x ∷ []) left)) first
          (subst (λ l. IsPrefixLengthFor gives text (get_or (table ++ beginning ∷ []) (length left) None) (begins ignore_case c literal is_greedy end gives (shorter ++ d ∷ []) l)) same
          (subst (λ v. IsPrefixLengthFor gives text v (begins ignore_case c literal is_greedy end gives (shorter ++ d ∷ []) rest)) (sym (ap (λ k. get_or (table ++ beginning ∷ []) k None) n ∙ get_or-append_seam table beginning [] None)) begun))
      later_entries e (f ∷ passed) left first same =
          let lt : length left < length table = omega (arith, is.count, ap length same, length-append passed left) in
          let fronts : (shorter ++ d ∷ []) ++ (f ∷ passed) ≡ shorter ++ e ∷ (f ∷ passed) = append_assoc shorter (d ∷ []) (f ∷ passed) ∙ ap (λ x. shorter ++ x ∷ (f ∷ passed)) first in
          subst (λ l. IsPrefixLengthFor gives text (get_or (table ++ beginning ∷ []) (length left) None) (begins ignore_case c literal is_greedy end gives l left)) fronts
          (subst (λ v. IsPrefixLengthFor gives text v (begins ignore_case c literal is_greedy end gives ((shorter ++ d ∷ []) ++ (f ∷ passed)) left)) (sym (get_or-append table (beginning ∷ []) None (length left) lt))
          (is.entries (f ∷ passed) left same (λ none. cc)))

      entries : (passed left : List ℕ) → d ∷ rest ≡ passed ++ left → ¬ (passed ≡ [])
          → IsPrefixLengthFor gives text (get_or (table ++ beginning ∷ []) (length left) None) (begins ignore_case c literal is_greedy end gives (shorter ++ passed) left)
      entries [] left same some = absurd (some refl)
      entries (e ∷ passed) left same some =
          let whole : d ∷ rest ≡ e ∷ (passed ++ left) = same in
          let first : d ≡ e = cc in
          let others : rest ≡ passed ++ left = cc in
          later_entries e passed left first others

-- ---- the end here

-- The end of separated runs, one of which may end here, by the end here.
pub here_cut : (next : Next) (text front rest : List ℕ) (following end : Option ℕ) (n : ℕ) → IsUtf8 front → IsUtf8 rest → text ≡ front ++ rest → length front ≡ n
    → IsEndHere following n (next (chars rest)) end
    → (here : Option ℕ) × (end ≡ option_or following here) × IsPrefixLengthFor (captured_prefix next) text here (captured_prefix next (chars front) (chars rest))
here_cut next text front rest (Some m) end n u v e same is = by (next (chars rest)) refl
  where
    by : (o : Option Captures) → next (chars rest) ≡ o → (here : Option ℕ) × (end ≡ Some m) × IsPrefixLengthFor (captured_prefix next) text here (captured_prefix next (chars front) (chars rest))
    by None none = (None, is, ap (option_map (λ others. Some (chars front) ∷ others)) none)
    by (Some x) some = (Some n, is, (front, rest, u, v, e, same, refl, λ none. let f = sym (ap (option_map (λ others. Some (chars front) ∷ others)) some) ∙ none in cc))
here_cut next text front rest None None n u v e same is = (None, refl, ap (option_map (λ others. Some (chars front) ∷ others)) is)
here_cut next text front rest None (Some m) n u v e same (is, some) =
    (Some m, refl, (front, rest, u, v, e, same ∙ sym is, refl, λ none. some (mapped_none (next (chars rest)) none)))
  where
    mapped_none : (o : Option Captures) → option_map (λ others. Some (chars front) ∷ others) o ≡ None → o ≡ None
    mapped_none None e = refl
    mapped_none (Some x) e = cc

-- The ends at a place: of separated runs that begin here, and of separated runs, one of which may
-- end here.
pub place_cuts : (ignore_case : Bool) (c : ℕ) (literal : List ℕ) (is_greedy : Bool) (end : ℕ) (next : Next) (text front rest : List ℕ) (table : List (Option ℕ)) (later following stopping forward beginning both : Option ℕ) (n : ℕ)
    → IsUtf8 front → IsUtf8 rest → text ≡ front ++ rest → length front ≡ n
    → IsTable ignore_case c literal is_greedy end (captured_prefix next) text (chars front) (chars rest) table later
    → ((left : List ℕ) → BeginsAs ignore_case (c ∷ literal) (chars rest) left → length table ≡ length (chars rest) → following ≡ get_or table (length left) None)
    → (((left : List ℕ) → ¬ BeginsAs ignore_case (c ∷ literal) (chars rest) left) → following ≡ None)
    → IsEndHere following n (next (chars rest)) stopping
    → forward ≡ end_if_continued ignore_case end later (chars rest)
    → beginning ≡ cond is_greedy (option_or forward stopping) forward
    → both ≡ cond is_greedy (option_or forward stopping) (option_or stopping forward)
    → IsPrefixLengthFor (captured_prefix next) text beginning (begins ignore_case c literal is_greedy end (captured_prefix next) (chars front) (chars rest))
    × IsPrefixLengthFor (captured_prefix next) text both (either ignore_case c literal is_greedy end (captured_prefix next) (chars front) (chars rest))
place_cuts ignore_case c literal is_greedy end next text front rest table later following stopping forward beginning both n u v e same is there other stop onwards one two =
    let here = here_cut next text front rest following stopping n u v e same stop in
    let after : IsPrefixLengthFor (captured_prefix next) text following (after_text ignore_case (c ∷ literal) (begins ignore_case c literal is_greedy end (captured_prefix next)) (chars front) (chars rest)) =
    next_cut ignore_case c literal is_greedy end (captured_prefix next) text (chars front) (chars rest) table later following is there other in
    let stopped : IsPrefixLengthFor (captured_prefix next) text stopping (stops ignore_case c literal is_greedy end (captured_prefix next) (chars front) (chars rest)) =
    subst (λ o. IsPrefixLengthFor (captured_prefix next) text o (stops ignore_case c literal is_greedy end (captured_prefix next) (chars front) (chars rest))) (sym here.1)
    (stop_cut ignore_case c literal is_greedy end (captured_prefix next) text (chars front) (chars rest) following here.0 after here.2) in
    let went : IsPrefixLengthFor (captured_prefix next) text forward (onward ignore_case c literal is_greedy end (captured_prefix next) (chars front) (chars rest)) =
    subst (λ o. IsPrefixLengthFor (captured_prefix next) text o (onward ignore_case c literal is_greedy end (captured_prefix next) (chars front) (chars rest))) (sym onwards)
    (onward_cut ignore_case c literal is_greedy end (captured_prefix next) text (chars front) (chars rest) table later is) in (
      beginning_cut ignore_case c literal is_greedy end (captured_prefix next) text (chars front) (chars rest) forward stopping beginning went stopped one,
      either_cut ignore_case c literal is_greedy end (captured_prefix next) text (chars front) (chars rest) forward stopping both went stopped two,
    )

-- The ends at a place, with the table as it is kept and the remaining text.
pub place_ends : (ignore_case : Bool) (c : ℕ) (literal : List ℕ) (is_greedy : Bool) (end : ℕ) (next : Next) (text front rest left : List ℕ) (table kept : List (Option ℕ)) (later following stopping forward beginning both : Option ℕ)
    → IsUtf8 front → IsUtf8 left → text ≡ front ++ rest → text ≡ front ++ left
    → IsTable ignore_case c literal is_greedy end (captured_prefix next) text (chars front) (chars left) kept later → table ≡ kept
    → ((behind : List ℕ) → BeginsAs ignore_case (c ∷ literal) (chars rest) behind → length table ≡ length (chars rest) → following ≡ get_or table (length behind) None)
    → (((behind : List ℕ) → ¬ BeginsAs ignore_case (c ∷ literal) (chars rest) behind) → following ≡ None)
    → IsEndHere following (length front) (next (chars rest)) stopping
    → forward ≡ end_if_continued ignore_case end later (chars rest)
    → beginning ≡ cond is_greedy (option_or forward stopping) forward
    → both ≡ cond is_greedy (option_or forward stopping) (option_or stopping forward)
    → IsTable ignore_case c literal is_greedy end (captured_prefix next) text (chars front) (chars rest) table later
    × IsPrefixLengthFor (captured_prefix next) text beginning (begins ignore_case c literal is_greedy end (captured_prefix next) (chars front) (chars rest))
    × IsPrefixLengthFor (captured_prefix next) text both (either ignore_case c literal is_greedy end (captured_prefix next) (chars front) (chars rest))
place_ends ignore_case c literal is_greedy end next text front rest left table kept later following stopping forward beginning both u v e f is same there other stop onwards one two =
    let behind : rest ≡ left = append_cancel_left front rest left (sym e ∙ f) in
    let placed : IsTable ignore_case c literal is_greedy end (captured_prefix next) text (chars front) (chars rest) table later =
    subst (λ t. IsTable ignore_case c literal is_greedy end (captured_prefix next) text (chars front) (chars rest) t later) (sym same)
    (subst (λ r. IsTable ignore_case c literal is_greedy end (captured_prefix next) text (chars front) (chars r) kept later) (sym behind) is) in
    let cuts = place_cuts ignore_case c literal is_greedy end next text front rest table later following stopping forward beginning both (length front) u (subst IsUtf8 (sym behind) v) e refl placed there other stop onwards one two in
    (placed, cuts.0, cuts.1)

-- ---- one place

-- The step of separated runs, by its parts.
pub segments_step : (ignore_case : Bool) (segments : Segmented) (steps literal others : List Step) (text : List ℕ) → literal ≡ take segments.separator.others steps → others ≡ drop segments.separator.others steps
    → walk ignore_case (Segments segments ∷ steps) text ≡ segmented ignore_case (segments.separator.first ∷ literals literal) (single_run ignore_case segments.is_greedy segments.end) (captured_prefix (walk ignore_case others)) [] text
segments_step ignore_case segments steps literal others text e f =
    ap (λ l. segmented ignore_case (segments.separator.first ∷ literals l) (single_run ignore_case segments.is_greedy segments.end) (captured_prefix (walk_after ignore_case segments.separator.others steps)) [] text) (sym e)
    ∙ (keeps-segmented ignore_case segments.separator.first (literals literal) segments.is_greedy segments.end).same (captured_prefix (walk_after ignore_case segments.separator.others steps)) (captured_prefix (walk ignore_case others)) [] text
    (λ before rest le.
    ap (option_map (λ more. Some before ∷ more)) (walk_after-drop ignore_case segments.separator.others steps rest ∙ ap (λ l. walk ignore_case l rest) (sym f)))

-- ---- the whole text

-- Equal concatenations with prefixes of equal length have equal parts.
pub same_fronts : (front rest front' rest' : List ℕ) → front ++ rest ≡ front' ++ rest' → length front ≡ length front' → (front ≡ front') × (rest ≡ rest')
same_fronts front rest front' rest' e n =
    let fronts : front ≡ front' = sym (take-append_seam front rest) ∙ ap₂ take n e ∙ take-append_seam front' rest' in
    (fronts, append_cancel_left front rest rest' (e ∙ ap (λ f. f ++ rest') (sym fronts)))

-- The step of separated runs, by their end.
module _ (ignore_case : Bool) (segments : Segmented) (steps literal others : List Step) (text : List ℕ) (own : literal ≡ take segments.separator.others steps) (passed : others ≡ drop segments.separator.others steps) where
  pub segments_some : (end : Option ℕ) (n : ℕ) (front rest : List ℕ) → IsEndOfSegments ignore_case segments literal others text end → end ≡ Some n → text ≡ front ++ rest → length front ≡ n
      → walk ignore_case (Segments segments ∷ steps) (chars text) ≡ captured_prefix (walk ignore_case others) (chars front) (chars rest)
  segments_some end n front rest is some e count =
      let found = segmented ignore_case (literal_text segments.separator.first literal) (single_run ignore_case segments.is_greedy segments.end) (captured_prefix (walk ignore_case others)) [] (chars text) in
      let cut : IsPrefixLengthFor (captured_prefix (walk ignore_case others)) text (Some n) found = subst (λ o. IsPrefixLengthFor (captured_prefix (walk ignore_case others)) text o found) some is in
      let parts = same_fronts front rest cut.0 cut.1 (sym e ∙ cut.4) (count ∙ sym cut.5) in
      segments_step ignore_case segments steps literal others (chars text) own passed
      ∙ cut.6 ∙ ap (λ f. captured_prefix (walk ignore_case others) (chars f) (chars cut.1)) (sym parts.0) ∙ ap (λ r. captured_prefix (walk ignore_case others) (chars front) (chars r)) (sym parts.1)

  pub segments_none : (end : Option ℕ) → IsEndOfSegments ignore_case segments literal others text end → end ≡ None → walk ignore_case (Segments segments ∷ steps) (chars text) ≡ None
  segments_none end is none =
      let found = segmented ignore_case (literal_text segments.separator.first literal) (single_run ignore_case segments.is_greedy segments.end) (captured_prefix (walk ignore_case others)) [] (chars text) in
      let nothing : found ≡ None = subst (λ o. IsPrefixLengthFor (captured_prefix (walk ignore_case others)) text o found) none is in
      segments_step ignore_case segments steps literal others (chars text) own passed ∙ nothing

-- The table at the previous character.
pub table_next : (ignore_case : Bool) (c : ℕ) (literal : List ℕ) (is_greedy : Bool) (end : ℕ) (gives : Continuation) (text front shorter rest : List ℕ) (d : ℕ) (table more : List (Option ℕ)) (later beginning both : Option ℕ)
    → IsUtf8 shorter → IsUtf8 rest → IsScalar d → IsUtf8 (encode_utf8 d) → front ≡ shorter ++ encode_utf8 d → more ≡ table ++ beginning ∷ []
    → IsTable ignore_case c literal is_greedy end gives text (chars front) (chars rest) table later
    → IsPrefixLengthFor gives text beginning (begins ignore_case c literal is_greedy end gives (chars front) (chars rest))
    → IsPrefixLengthFor gives text both (either ignore_case c literal is_greedy end gives (chars front) (chars rest))
    → IsTable ignore_case c literal is_greedy end gives text (chars shorter) (chars (encode_utf8 d ++ rest)) more both
table_next ignore_case c literal is_greedy end gives text front shorter rest d table more later beginning both u v scalar w e f is one two =
    let spelled : chars front ≡ chars shorter ++ d ∷ [] = ap chars e ∙ chars-append shorter (encode_utf8 d) u ∙ ap (λ l. chars shorter ++ l) (chars-encode d scalar) in
    let longer : chars (encode_utf8 d ++ rest) ≡ d ∷ chars rest = chars_past_char (encode_utf8 d ++ rest) rest d (IsUtf8-append (encode_utf8 d) rest w v) refl in
    subst (λ l. IsTable ignore_case c literal is_greedy end gives text (chars shorter) l more both) (sym longer)
    (subst (λ t. IsTable ignore_case c literal is_greedy end gives text (chars shorter) (d ∷ chars rest) t both) (sym f)
    (table_more ignore_case c literal is_greedy end gives text (chars shorter) (chars rest) d table later beginning both
    (subst (λ l. IsTable ignore_case c literal is_greedy end gives text l (chars rest) table later) spelled is)
    (subst (λ l. IsPrefixLengthFor gives text beginning (begins ignore_case c literal is_greedy end gives l (chars rest))) spelled one)
    (subst (λ l. IsPrefixLengthFor gives text both (either ignore_case c literal is_greedy end gives l (chars rest))) spelled two)))
