-- Copies of a literal, found from the start and tried from the end.
use Rattle.std.proofs.Common.{◌≡◌, ℕ, zero, suc, ◌<◌, List, [], ◌∷◌, ◌++◌, length, take, drop, Option, Some, None, Bool, true, false, cond, refl, sym, ap, ap₂, ◌∙◌, append-nil, append_assoc, length-append, arith, subst}
use Rattle.std.proofs.lemmas.List.{append_cancel_left}
use Rattle.std.proofs.lemmas.Str.{chars-append}
use Rattle.std.proofs.Math.Seq.{take-append_seam}
use Rattle.std.specs.Option.{option_or}
use Rattle.std.specs.Str.{chars, IsUtf8}
use Rattle.urlpattern_meaning.specs.PartMeaning.{Captures}
use Rattle.urlpattern_steps.specs.declared.step.RepeatedLiteral.{RepeatedLiteral as Copied}
use Rattle.urlpattern_steps.specs.declared.step.Step.{Step}
use Rattle.urlpattern_steps.specs.declared.step.Step.TheVariants.{Literal, LazyRun, DotStar, OptionalGroup, GreedyRun, RepeatedLiteral, Segments}
use Rattle.urlpattern_steps.specs.Walk.{AreCopiesOf, BeginsAs, Continuation, after_text, any_rounds, in_turn, literal_text, literals, repeated, rounds, some_rounds, walk, walk_after, walk_copies}
use Rattle.urlpattern_steps.proofs.Rounds.{advances-after, any-unrolled, keeps-any, keeps-some}
use Rattle.urlpattern_steps.proofs.StepLemmas.{walk_after-drop}
use Rattle.urlpattern_steps.proofs.Tried.{Next}
use Rattle.urlpattern_meaning.specs.Matching.{IsSame, is_same_character}
use Rattle.urlpattern_meaning.proofs.Middles.{same-length}
use Rattle.urlpattern_steps.proofs.SameLemmas.{begins_more, begins_none, no_same, none_same, same_less}

-- ---- a literal at the start

pub after-found : (ignore_case : Bool) (characters text rest : List ℕ) (gives : Continuation) (front : List ℕ) (begins : BeginsAs ignore_case characters text rest)
    → after_text ignore_case characters gives front text ≡ gives (front ++ begins.0) rest
after-found ignore_case [] text rest gives front (own, cut, same) =
    let none : own ≡ [] = none_same ignore_case own same in
    ap (gives front) (cut ∙ ap (λ t. t ++ rest) none) ∙ ap (λ f. gives f rest) (sym (ap (λ t. front ++ t) none ∙ append-nil front))
after-found ignore_case (c ∷ characters) [] rest gives front begins = absurd (begins_none ignore_case c characters rest begins)
after-found ignore_case (c ∷ characters) (d ∷ text) rest gives front ([], cut, same) = absurd (no_same ignore_case c characters same)
after-found ignore_case (c ∷ characters) (d ∷ text) rest gives front (e ∷ own, cut, same) =
    let whole : d ∷ text ≡ e ∷ (own ++ rest) = cut in
    let first : d ≡ e = cc in
    let others : text ≡ own ++ rest = cc in
    let both = same_less ignore_case e c own characters same in
    ap (λ b. cond b (after_text ignore_case characters gives (front ++ d ∷ []) text) None) (subst (λ x. is_same_character ignore_case x c ≡ true) (sym first) both.0)
    ∙ after-found ignore_case characters text rest gives (front ++ d ∷ []) (own, others, both.1)
    ∙ ap (λ f. gives f rest) (append_assoc front (d ∷ []) own ∙ ap (λ x. front ++ x ∷ own) first)

pub after-other : (ignore_case : Bool) (characters text : List ℕ) (gives : Continuation) (front : List ℕ) → ((rest : List ℕ) → ¬ BeginsAs ignore_case characters text rest)
    → after_text ignore_case characters gives front text ≡ None
after-other ignore_case [] text gives front other = absurd (other text ([], refl, refl))
after-other ignore_case (c ∷ characters) [] gives front other = refl
after-other ignore_case (c ∷ characters) (d ∷ text) gives front other =
    by (is_same_character ignore_case d c) refl
    (λ e. after-other ignore_case characters text gives (front ++ d ∷ []) (λ rest begins. other rest (begins_more ignore_case c characters d text rest e begins)))
  where
    by : (b : Bool) → is_same_character ignore_case d c ≡ b → (is_same_character ignore_case d c ≡ true → after_text ignore_case characters gives (front ++ d ∷ []) text ≡ None)
        → cond b (after_text ignore_case characters gives (front ++ d ∷ []) text) None ≡ None
    by true e later = later e
    by false e later = refl

-- A step that is not literal has no character.
pub literals_skip : (step : Step) (others : List Step) → ((c : ℕ) → ¬ (step ≡ Literal c)) → literals (step ∷ others) ≡ literals others
literals_skip (Literal c) others other = absurd (other c refl)
literals_skip (LazyRun end) others other = refl
literals_skip DotStar others other = refl
literals_skip (OptionalGroup group) others other = refl
literals_skip (GreedyRun run) others other = refl
literals_skip (RepeatedLiteral copies) others other = refl
literals_skip (Segments segments) others other = refl

-- The result after a literal does not depend on the prefix, if that of the continuation does not.
after-fronts : (ignore_case : Bool) (characters : List ℕ) (f g : Continuation) → ((before other rest : List ℕ) → f before rest ≡ g other rest) → (front another text : List ℕ)
    → after_text ignore_case characters f front text ≡ after_text ignore_case characters g another text
after-fronts ignore_case [] f g same front another text = same front another text
after-fronts ignore_case (c ∷ characters) f g same front another [] = refl
after-fronts ignore_case (c ∷ characters) f g same front another (d ∷ text) = ap (λ o. cond (is_same_character ignore_case d c) o None) (after-fronts ignore_case characters f g same (front ++ d ∷ []) (another ++ d ∷ []) text)

rounds-fronts : (ignore_case : Bool) (characters : List ℕ) (next : Next) (n : ℕ) (front another text : List ℕ)
    → rounds (after_text ignore_case characters) n (λ front rest. next rest) front text ≡ rounds (after_text ignore_case characters) n (λ front rest. next rest) another text
rounds-fronts ignore_case characters next zero front another text = refl
rounds-fronts ignore_case characters next (suc n) front another text =
    ap (λ o. option_or o (next text))
    (after-fronts ignore_case characters (rounds (after_text ignore_case characters) n (λ front rest. next rest)) (rounds (after_text ignore_case characters) n (λ front rest. next rest))
    (λ before other rest. rounds-fronts ignore_case characters next n before other rest) front another text)

-- ---- copies

-- The result after fewer and fewer copies, if `found` is the result after all of them.
abbrev pub led : Next → List (List ℕ) → (rest : List ℕ) → Option Captures → Option Captures
led next [] rest found = found
led next (last ∷ copies) rest found = led next copies (last ++ rest) (option_or found (next (last ++ rest)))

pub led-found : (next : Next) (copies : List (List ℕ)) (rest : List ℕ) (found : Captures) → led next copies rest (Some found) ≡ Some found
led-found next [] rest found = refl
led-found next (last ∷ copies) rest found = led-found next copies (last ++ rest) found

module _ (ignore_case : Bool) (c : ℕ) (literal : List ℕ) (next : Next) where
  abbrev copy : List ℕ
  copy = c ∷ literal

  abbrev end_if_continued : Continuation
  end_if_continued front rest = next rest

  -- The result after as many copies as have one.
  abbrev after_all : (front text : List ℕ) → Option Captures
  after_all front text = any_rounds (after_text ignore_case copy) end_if_continued front text

  one_more : (last rest : List ℕ) → IsSame ignore_case last copy → after_all [] (last ++ rest) ≡ option_or (after_all [] rest) (next (last ++ rest))
  one_more last rest same =
      any-unrolled (after_text ignore_case copy) (advances-after ignore_case c literal) end_if_continued [] (last ++ rest)
      ∙ ap (λ o. option_or o (next (last ++ rest)))
      (after-found ignore_case copy (last ++ rest) rest (any_rounds (after_text ignore_case copy) end_if_continued) [] (last, refl, same)
      ∙ rounds-fronts ignore_case copy next (length rest) last [] rest)

  all_led : (copies : List (List ℕ)) (rest : List ℕ) → AreCopiesOf ignore_case copy copies → after_all [] (in_turn copies ++ rest) ≡ led next copies rest (after_all [] rest)
  all_led [] rest are = refl
  all_led (last ∷ copies) rest (same, are) =
      ap (after_all []) (append_assoc (in_turn copies) last rest) ∙ all_led copies (last ++ rest) are ∙ ap (led next copies (last ++ rest)) (one_more last rest same)

  pub copies_led : (copies : List (List ℕ)) (rest : List ℕ) → AreCopiesOf ignore_case copy copies → ((end : List ℕ) → ¬ BeginsAs ignore_case copy rest end)
      → any_rounds (after_text ignore_case copy) end_if_continued [] (in_turn copies ++ rest) ≡ led next copies rest (next rest)
  copies_led copies rest are other =
      all_led copies rest are
      ∙ ap (led next copies rest)
      (any-unrolled (after_text ignore_case copy) (advances-after ignore_case c literal) end_if_continued [] rest
      ∙ ap (λ o. option_or o (next rest)) (after-other ignore_case copy rest (any_rounds (after_text ignore_case copy) end_if_continued) [] other))

  -- Equal concatenations with suffixes of equal length have equal parts.
  same_ends : (front end front' end' : List ℕ) → front ++ end ≡ front' ++ end' → length end ≡ length end' → (front ≡ front') × (end ≡ end')
  same_ends front end front' end' e same =
      let l : length front ≡ length front' = omega (arith, ap length e, length-append front end, length-append front' end') in
      let fronts : front ≡ front' = sym (take-append_seam front end) ∙ ap₂ take l e ∙ take-append_seam front' end' in
      (fronts, append_cancel_left front end end' (e ∙ ap (λ f. f ++ end') (sym fronts)))

  -- The last copy is moved to the rest.
  pub copy_shrinks : (copies : List (List ℕ)) (front shorter end rest : List ℕ) → IsUtf8 shorter → IsUtf8 end → front ≡ shorter ++ end → chars front ≡ in_turn copies → AreCopiesOf ignore_case copy copies
      → length (chars end) ≡ length copy → next (chars rest) ≡ None
      → (fewer : List (List ℕ)) × (chars shorter ≡ in_turn fewer) × AreCopiesOf ignore_case copy fewer
      × (led next copies (chars rest) (next (chars rest)) ≡ led next fewer (chars (end ++ rest)) (next (chars (end ++ rest))))
  copy_shrinks [] front shorter end rest u v e f are same none =
      let nothing = ap length (sym (ap chars e ∙ chars-append shorter end u) ∙ f) in
      absurd (omega (arith, nothing, length-append (chars shorter) (chars end), same))
  copy_shrinks (last ∷ copies) front shorter end rest u v e f (is, are) same none =
      let both = same_ends (chars shorter) (chars end) (in_turn copies) last (sym (ap chars e ∙ chars-append shorter end u) ∙ f) (same ∙ sym (same-length ignore_case last copy is)) in
      let longer : last ++ chars rest ≡ chars (end ++ rest) = ap (λ t. t ++ chars rest) (sym both.1) ∙ sym (chars-append end rest v) in (
        copies,
        both.0,
        are,
        ap (λ o. led next copies (last ++ chars rest) (option_or o (next (last ++ chars rest)))) none ∙ ap (λ t. led next copies t (next t)) longer,
      )

  -- No copy is left of a prefix that is shorter than a copy.
  pub no_copy_left : (copies : List (List ℕ)) (front rest : List ℕ) (found : Option Captures) → front ≡ in_turn copies → AreCopiesOf ignore_case copy copies → length front < length copy
      → led next copies rest found ≡ found
  no_copy_left [] front rest found e are lt = refl
  no_copy_left (last ∷ copies) front rest found e (is, are) lt =
      absurd (omega (arith, ap length e, length-append (in_turn copies) last, same-length ignore_case last copy is, lt))

  -- A repeat of one or more copies matches the first copy.
  pub copies_after : (text rest : List ℕ) → BeginsAs ignore_case copy text rest
      → some_rounds (after_text ignore_case copy) end_if_continued [] text ≡ any_rounds (after_text ignore_case copy) end_if_continued [] rest
  copies_after text rest begins =
      after-found ignore_case copy text rest (any_rounds (after_text ignore_case copy) end_if_continued) [] begins ∙ rounds-fronts ignore_case copy next (length rest) begins.0 [] rest

-- ---- the step

-- The step of a repeated literal, by its parts.
pub copies_step : (ignore_case : Bool) (copies : Copied) (steps literal others : List Step) (text : List ℕ) → literal ≡ take copies.text.others steps → others ≡ drop copies.text.others steps
    → walk ignore_case (RepeatedLiteral copies ∷ steps) text ≡ repeated copies.allows_zero (after_text ignore_case (copies.text.first ∷ literals literal)) (λ front rest. walk ignore_case others rest) [] text
copies_step ignore_case copies steps literal others text e f =
    ap (λ l. repeated copies.allows_zero (after_text ignore_case (copies.text.first ∷ literals l)) (λ front rest. walk_after ignore_case copies.text.others steps rest) [] text) (sym e)
    ∙ by copies.allows_zero
  where
    same : (before rest : List ℕ) → walk_after ignore_case copies.text.others steps rest ≡ walk ignore_case others rest
    same before rest = walk_after-drop ignore_case copies.text.others steps rest ∙ ap (λ l. walk ignore_case l rest) (sym f)

    by : (b : Bool) → repeated b (after_text ignore_case (copies.text.first ∷ literals literal)) (λ front rest. walk_after ignore_case copies.text.others steps rest) [] text
        ≡ repeated b (after_text ignore_case (copies.text.first ∷ literals literal)) (λ front rest. walk ignore_case others rest) [] text
    by true = (keeps-any (after_text ignore_case (copies.text.first ∷ literals literal)) (advances-after ignore_case copies.text.first (literals literal))).same
        (λ front rest. walk_after ignore_case copies.text.others steps rest) (λ front rest. walk ignore_case others rest) [] text (λ before rest le. same before rest)
    by false = (keeps-some (after_text ignore_case (copies.text.first ∷ literals literal)) (advances-after ignore_case copies.text.first (literals literal))).same
        (λ front rest. walk_after ignore_case copies.text.others steps rest) (λ front rest. walk ignore_case others rest) [] text (λ before rest le. same before rest)

-- The step of a repeated literal, by whether zero copies match.
module _ (ignore_case : Bool) (copies : Copied) (steps literal others : List Step) (text : List ℕ) (own : literal ≡ take copies.text.others steps) (passed : others ≡ drop copies.text.others steps) where
  known : (b : Bool) → copies.allows_zero ≡ b → walk ignore_case (RepeatedLiteral copies ∷ steps) text ≡ repeated b (after_text ignore_case (literal_text copies.text.first literal)) (λ front rest. walk ignore_case others rest) [] text
  known b is = copies_step ignore_case copies steps literal others text own passed ∙ ap (λ o. repeated o (after_text ignore_case (literal_text copies.text.first literal)) (λ front rest. walk ignore_case others rest) [] text) is

  pub copies_any : copies.allows_zero ≡ true → walk ignore_case (RepeatedLiteral copies ∷ steps) text ≡ walk_copies ignore_case copies.text.first literal others text
  copies_any is = known true is

  -- The text begins with a copy.
  pub copies_some : copies.allows_zero ≡ false → (rest : List ℕ) → BeginsAs ignore_case (literal_text copies.text.first literal) text rest → walk ignore_case (RepeatedLiteral copies ∷ steps) text ≡ walk_copies ignore_case copies.text.first literal others rest
  copies_some is rest cut =
      known false is ∙ copies_after ignore_case copies.text.first (literals literal) (walk ignore_case others) text rest cut

  -- The text does not begin with a copy.
  pub copies_none : copies.allows_zero ≡ false → ((rest : List ℕ) → ¬ BeginsAs ignore_case (literal_text copies.text.first literal) text rest) → walk ignore_case (RepeatedLiteral copies ∷ steps) text ≡ None
  copies_none is other =
      known false is
      ∙ after-other ignore_case (literal_text copies.text.first literal) text (any_rounds (after_text ignore_case (literal_text copies.text.first literal)) (λ front rest. walk ignore_case others rest)) [] other
