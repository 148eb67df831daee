-- What each step adds to the captures.
use Rattle.std.proofs.Common.{◌≡◌, ℕ, zero, suc, List, [], ◌∷◌, ◌++◌, map, drop, replicate, Option, Some, None, option_map, Bool, true, false, cond, refl, sym, ap, ap₂, ◌∙◌, subst, append-nil, append_assoc}
use Rattle.std.proofs.lemmas.List.{map-append, append_cancel_left, append_cancel_right}
use Rattle.std.proofs.lemmas.Str.{chars-append, chars_past_char, encodes-append, encodes-chars, IsUtf8-append, IsUtf8-encode}
use Rattle.std.specs.Borrow.{Bor}
use Rattle.std.specs.Char.{IsScalar, encode_utf8}
use Rattle.std.specs.Option.{option_or}
use Rattle.std.specs.Prelude.{encode_utf8_all}
use Rattle.std.specs.Str.{chars, IsUtf8}
use Rattle.urlpattern_meaning.specs.PartMeaning.{Captures}
use Rattle.urlpattern_syntax.proofs.StringTexts.{chars-encode}
use Rattle.urlpattern_steps.specs.declared.step.Group.{Group}
use Rattle.urlpattern_steps.specs.declared.step.Step.{Step}
use Rattle.urlpattern_steps.specs.declared.step.Step.TheVariants.{DotStar, Literal, OptionalGroup, LazyRun}
use Rattle.urlpattern_steps.specs.FailedStates.{EndsWith, HasEnded}
use Rattle.urlpattern_steps.specs.Walk.{BeginsAs, Continuation, captured_prefix, longest, shortest, up_to_first, walk}
use Rattle.urlpattern_steps.specs.AddedCaptures.{AreAdded, Extends, Kept}
use Rattle.urlpattern_steps.proofs.SameLemmas.{one_begins}
use Rattle.urlpattern_steps.proofs.RunLemmas.{longest_found, longest_no_more, shortest_ended}
use Rattle.urlpattern_steps.proofs.StepLemmas.{maybe_missing}
use Rattle.urlpattern_syntax.specs.Text.{line_feed, option_text}
use Rattle.urlpattern_meaning.specs.Matching.{is_same_character}

-- The old captures, followed by those found.
abbrev pub plus : Kept → Option Captures → Option Captures
plus old found = option_map (λ others. map option_text old ++ others) found

-- ---- added captures

none_added : (old new : Kept) (found : Option Captures) → AreAdded old new false found → found ≡ None
none_added old new None e = refl
none_added old new (Some x) e = cc

pub adds_none : (old new : Kept) (does_match : Bool) (found : Option Captures) → does_match ≡ false → AreAdded old new does_match found → found ≡ None
adds_none old new does_match found missed adds = none_added old new found (subst (λ b. AreAdded old new b found) missed adds)

pub adds_some : (old new : Kept) (found : Option Captures) → AreAdded old new true found → (x : Captures) × (found ≡ Some x)
adds_some old new None e = cc
adds_some old new (Some x) e = (x, refl)

-- Captures that a part adds are those of the whole, if the whole has them.
pub taken_adds : (old now new : Kept) (does_match : Bool) (part whole : Option Captures) → now ≡ old → does_match ≡ true → AreAdded now new does_match part
    → ((found : Captures) → part ≡ Some found → whole ≡ Some found) → AreAdded old new true whole
taken_adds old now new does_match part whole same taken adds leads =
    let added : AreAdded old new true part = subst (λ l. AreAdded l new true part) same (subst (λ b. AreAdded now new b part) taken adds) in
    let found = adds_some old new part added in
    added ∙ ap (plus old) (found.1 ∙ sym (leads found.0 found.1))

pub extends_more : (old now more : Kept) → Extends old now → Extends old (now ++ more)
extends_more old now more extends = (extends.0 ++ more, ap (λ l. l ++ more) extends.1 ∙ append_assoc old extends.0 more)

pub plus_captured : (now : Kept) (front : Bor (List ℕ)) (found : Option Captures)
    → plus now (option_map (λ others. Some (chars front.now) ∷ others) found) ≡ plus (now ++ Some front ∷ []) found
plus_captured now front None = refl
plus_captured now front (Some others) =
    ap Some (sym (append_assoc (map option_text now) (Some (chars front.now) ∷ []) others) ∙ ap (λ l. l ++ others) (sym (map-append option_text now (Some front ∷ []))))

map_missing : (n : ℕ) → map option_text (replicate n None) ≡ replicate n None
map_missing zero = refl
map_missing (suc n) = ap (λ l. None ∷ l) (map_missing n)

plus_missing : (now : Kept) (n : ℕ) (found : Option Captures) → plus now (option_map (λ others. replicate n None ++ others) found) ≡ plus (now ++ replicate n None) found
plus_missing now n None = refl
plus_missing now n (Some others) =
    ap Some (sym (append_assoc (map option_text now) (replicate n None) others)
    ∙ ap (λ l. l ++ others) (ap (λ l. map option_text now ++ l) (sym (map_missing n)) ∙ sym (map-append option_text now (replicate n None))))

-- An optional group is skipped, after it was tried.
pub plus_maybe : (ignore_case : Bool) (now new more : Kept) (group : Group) (others : List Step) (rest : List ℕ) → walk ignore_case others rest ≡ None → new ≡ now → more ≡ new ++ replicate group.captures None
    → plus now (walk ignore_case (OptionalGroup group ∷ others) rest) ≡ plus more (walk ignore_case (drop group.steps others) rest)
plus_maybe ignore_case now new more group others rest none same missing =
    ap (plus now) (maybe_missing ignore_case group others rest none)
    ∙ plus_missing now group.captures (walk ignore_case (drop group.steps others) rest)
    ∙ ap (λ l. plus l (walk ignore_case (drop group.steps others) rest)) (ap (λ l. l ++ replicate group.captures None) (sym same) ∙ sym missing)

-- A literal at the start of the text.
pub literal_passed : (ignore_case : Bool) (c other : ℕ) (others : List Step) (rest remaining : List ℕ) → rest ≡ other ∷ remaining → is_same_character ignore_case other c ≡ true → walk ignore_case (Literal c ∷ others) rest ≡ walk ignore_case others remaining
literal_passed ignore_case c other others rest remaining e one = ap (walk ignore_case (Literal c ∷ others)) e ∙ ap (λ b. cond b (walk ignore_case others remaining) None) one

-- A literal that the text does not begin with.
pub literal_other : (ignore_case : Bool) (c : ℕ) (others : List Step) (text : List ℕ) → ((rest : List ℕ) → ¬ BeginsAs ignore_case (c ∷ []) text rest) → walk ignore_case (Literal c ∷ others) text ≡ None
literal_other ignore_case c others [] other = refl
literal_other ignore_case c others (d ∷ text) other = by (is_same_character ignore_case d c) refl
  where
    by : (b : Bool) → is_same_character ignore_case d c ≡ b → cond b (walk ignore_case others text) None ≡ None
    by true e = absurd (other text (one_begins ignore_case c d (d ∷ text) text refl e))
    by false e = refl

-- The end of the steps.
end_adds : (ignore_case : Bool) (now : Kept) (rest : List ℕ) (is_empty : Bool) → (is_empty ≡ true → rest ≡ []) → (is_empty ≡ false → ¬ (rest ≡ [])) → AreAdded now now is_empty (walk ignore_case [] rest)
end_adds ignore_case now [] true full some = ap Some (sym (append-nil (map option_text now)))
end_adds ignore_case now (c ∷ rest) true full some = let e : (c ∷ rest) ≡ [] = full refl in cc
end_adds ignore_case now [] false full some = absurd (some refl refl)
end_adds ignore_case now (c ∷ rest) false full some = refl

-- No step is left.
pub end_taken : (ignore_case : Bool) (now : Kept) (left : List Step) (rest : List ℕ) (is_empty does_match : Bool) → left ≡ [] → (is_empty ≡ true → rest ≡ []) → (is_empty ≡ false → ¬ (rest ≡ [])) → is_empty ≡ does_match
    → AreAdded now now does_match (walk ignore_case left rest)
end_taken ignore_case now left rest is_empty does_match none full some same =
    subst (λ b. AreAdded now now b (walk ignore_case [] rest)) same (end_adds ignore_case now rest is_empty full some) ∙ sym (ap (λ l. plus now (walk ignore_case l rest)) none)

-- ---- lazy runs

-- After one more character the run may end first.
shortest_passed : (ignore_case : Bool) (end : ℕ) (gives : Continuation) (front : List ℕ) (c : ℕ) (rest : List ℕ) → (is_same_character ignore_case c end) ≡ false
    → shortest ignore_case end gives front (c ∷ rest) ≡ option_or (gives (front ++ c ∷ []) rest) (shortest ignore_case end gives (front ++ c ∷ []) rest)
shortest_passed ignore_case end gives front c rest e = ap (λ b. cond b None (option_or (gives (front ++ c ∷ []) rest) (shortest ignore_case end gives (front ++ c ∷ []) rest))) e

-- The prefix before the rest, with one more character.
front_grows : (text front before rest remaining : List ℕ) (c : ℕ) → text ≡ front ++ rest → rest ≡ c ∷ remaining → text ≡ before ++ remaining → before ≡ front ++ c ∷ []
front_grows text front before rest remaining c e f g =
    append_cancel_right before (front ++ c ∷ []) remaining (sym g ∙ e ∙ ap (λ r. front ++ r) f ∙ sym (append_assoc front (c ∷ []) remaining))

-- The prefix with one more character.
pub run_passed : (front text rest : List ℕ) (c : ℕ) (remaining : List ℕ) → text ≡ front ++ rest → rest ≡ c ∷ remaining → text ≡ (front ++ c ∷ []) ++ remaining
run_passed front text rest c remaining e f = e ∙ ap (λ r. front ++ r) f ∙ sym (append_assoc front (c ∷ []) remaining)

-- A prefix with one more character is tried before longer ones.
pub shortest_grown : (ignore_case : Bool) (end : ℕ) (gives : Continuation) (text front before rest remaining : List ℕ) (c : ℕ) → text ≡ front ++ rest → rest ≡ c ∷ remaining → is_same_character ignore_case c end ≡ false → text ≡ before ++ remaining
    → shortest ignore_case end gives front rest ≡ option_or (gives before remaining) (shortest ignore_case end gives (front ++ c ∷ []) remaining)
shortest_grown ignore_case end gives text front before rest remaining c e f other g =
    ap (shortest ignore_case end gives front) f
    ∙ shortest_passed ignore_case end gives front c remaining other
    ∙ ap (λ b. option_or (gives b remaining) (shortest ignore_case end gives (front ++ c ∷ []) remaining)) (sym (front_grows text front before rest remaining c e f g))

-- After the run has ended, no longer prefix matches.
pub run_ended : (ignore_case : Bool) (end : ℕ) (steps others : List Step) (front rest : List ℕ) → steps ≡ LazyRun end ∷ others → HasEnded ignore_case end steps rest → shortest ignore_case end (captured_prefix (walk ignore_case others)) front rest ≡ None
run_ended ignore_case end steps others front rest first ended = shortest_ended ignore_case end (walk ignore_case others) front rest (subst (λ s. HasEnded ignore_case end s rest) first ended)

-- ---- greedy runs

pub bytes_join : (text front rest : List ℕ) → IsUtf8 text → IsUtf8 front → IsUtf8 rest → chars text ≡ chars front ++ chars rest → text ≡ front ++ rest
bytes_join text front rest u v w e =
    sym (encodes-chars text u) ∙ ap encode_utf8_all e ∙ encodes-append (chars front) (chars rest) ∙ ap₂ (λ a b. a ++ b) (encodes-chars front v) (encodes-chars rest w)

-- The last character of a prefix is moved to the rest.
pub last_passed : (front shorter rest : List ℕ) (c : ℕ) → IsUtf8 shorter → IsUtf8 rest → IsScalar c → IsUtf8 (encode_utf8 c) → front ≡ shorter ++ encode_utf8 c
    → (chars front ≡ chars shorter ++ c ∷ []) × (chars (encode_utf8 c ++ rest) ≡ c ∷ chars rest)
last_passed front shorter rest c u v scalar w e = (
  ap chars e ∙ chars-append shorter (encode_utf8 c) u ∙ ap (λ l. chars shorter ++ l) (chars-encode c scalar),
  chars_past_char (encode_utf8 c ++ rest) rest c (IsUtf8-append (encode_utf8 c) rest w v) refl,
)

-- The characters of a suffix.
pub chars_end : (text front rest : List ℕ) → IsUtf8 front → text ≡ front ++ rest → EndsWith (chars text) (chars rest)
chars_end text front rest u e = (chars front, ap chars e ∙ chars-append front rest u)

-- The last character of a prefix is moved to the rest, by bytes.
pub front_shortened : (text front shorter rest : List ℕ) (c : ℕ) → IsScalar c → IsUtf8 rest → text ≡ front ++ rest → front ≡ shorter ++ encode_utf8 c
    → IsUtf8 (encode_utf8 c ++ rest) × (text ≡ shorter ++ (encode_utf8 c ++ rest))
front_shortened text front shorter rest c scalar u e f =
    (IsUtf8-append (encode_utf8 c) rest (IsUtf8-encode c scalar) u, e ∙ ap (λ l. l ++ rest) f ∙ append_assoc shorter (encode_utf8 c) rest)

-- No prefix of this length or longer has a match.
pub longest_missed : (ignore_case : Bool) (others : List Step) (text front rest left : List ℕ) (old new : Kept) (does_match : Bool) → text ≡ front ++ rest → text ≡ front ++ left
    → longest ignore_case line_feed (captured_prefix (walk ignore_case others)) (chars front) (chars left) ≡ captured_prefix (walk ignore_case others) (chars front) (chars left)
    → does_match ≡ false → AreAdded old new does_match (captured_prefix (walk ignore_case others) (chars front) (chars rest))
    → longest ignore_case line_feed (captured_prefix (walk ignore_case others)) (chars front) (chars rest) ≡ None
longest_missed ignore_case others text front rest left old new does_match e f no_longer missed adds =
    let gives : Continuation = captured_prefix (walk ignore_case others) in
    let behind : rest ≡ left = append_cancel_left front rest left (sym e ∙ f) in
    subst (λ r. longest ignore_case line_feed gives (chars front) (chars r) ≡ gives (chars front) (chars r)) (sym behind) no_longer
    ∙ adds_none old new does_match (gives (chars front) (chars rest)) missed adds

module _ (ignore_case : Bool) (steps others : List Step) (first : steps ≡ DotStar ∷ others) where
  -- No prefix that begins with this one has a match.
  pub longest_dead : (front rest : List ℕ) → longest ignore_case line_feed (captured_prefix (walk ignore_case others)) front rest ≡ None → walk ignore_case steps rest ≡ None
  longest_dead front rest none = ap (λ s. walk ignore_case s rest) first ∙ longest_no_more ignore_case line_feed (walk ignore_case others) front [] rest none

  -- The longest prefix with a match.
  pub longest_taken : (text front rest left : List ℕ) (found : Captures) → IsUtf8 front → text ≡ front ++ rest → text ≡ front ++ left → up_to_first ignore_case line_feed (chars front) ≡ chars front
      → longest ignore_case line_feed (captured_prefix (walk ignore_case others)) (chars front) (chars left) ≡ captured_prefix (walk ignore_case others) (chars front) (chars left)
      → captured_prefix (walk ignore_case others) (chars front) (chars rest) ≡ Some found → walk ignore_case steps (chars text) ≡ Some found
  longest_taken text front rest left found u e f lacks no_longer some =
      let gives : Continuation = captured_prefix (walk ignore_case others) in
      let behind : rest ≡ left = append_cancel_left front rest left (sym e ∙ f) in
      ap (λ s. walk ignore_case s (chars text)) first
      ∙ ap (walk ignore_case (DotStar ∷ others)) (ap chars e ∙ chars-append front rest u)
      ∙ longest_found ignore_case line_feed gives [] (chars front) (chars rest) found lacks
      (subst (λ r. longest ignore_case line_feed gives (chars front) (chars r) ≡ gives (chars front) (chars r)) (sym behind) no_longer ∙ some)
