-- Lemmas on the plain spelling of a text.
use Rattle.std.proofs.Common.{◌≡◌, ℕ, ◌+◌, ◌*◌, Bool, true, false, ◌==◌, ◌&&◌, ◌||◌, List, [], ◌∷◌, ◌++◌, Option, Some, None, arith, is_none, is_some, encode_utf8, refl, sym, ap, ◌∙◌}
use Rattle.std.proofs.lemmas.Bool.{and_parts, cases_Bool, eqb-true, true≢false}
use Rattle.std.proofs.lemmas.Bool.Decides.{nat_tests}
use Rattle.std.proofs.lemmas.Str.{chars-append}
use Rattle.std.specs.Char.{IsScalar, digit_value, is_ascii_lowercase, is_digit, to_ascii_uppercase}
use Rattle.std.specs.Prelude.{unwrap_or, IfNone, if◌then◌else◌}
use Rattle.std.specs.Str.{chars, IsUtf8}
use mathlib.Core.Logic.{inl, inr}
use Rattle.url.specs.Ascii.{percent_sign, slash}
use Rattle.urlpattern_policy.specs.Spellings.{are_joined, character_of, encodes_unreserved, has_small_digit, is_plain, is_slash, is_unreserved, plain, plainer, plainer_octet}
use Rattle.urlpattern_syntax.proofs.StringTexts.{chars-encode}
use Rattle.urlpattern_syntax.specs.Text.{begins_with}

-- ---- the last character of a text

pub chars-last : (text before : List ℕ) (c : ℕ) → IsUtf8 before → IsScalar c → text ≡ before ++ encode_utf8 c → chars text ≡ chars before ++ c ∷ []
chars-last text before c is_text scalar e = ap chars e ∙ chars-append before (encode_utf8 c) is_text ∙ ap (λ x. chars before ++ x) (chars-encode c scalar)

pub if_none : {A P : Type 0} → (found : Option A) → P → IfNone found P
if_none None p = p
if_none (Some x) p = tt

-- ---- unfolded definitions

pub plain-nil : (joins : Bool) → plain joins [] ≡ []
unfolding plain
plain-nil joins = refl

pub plain-cons : (joins : Bool) (c : ℕ) (text : List ℕ) → plain joins (c ∷ text) ≡ unwrap_or (plainer joins (c ∷ plain joins text)) (c ∷ plain joins text)
unfolding plain
plain-cons joins c text = refl

pub is_plain-nil : (joins : Bool) → is_plain joins [] ≡ true
unfolding is_plain
is_plain-nil joins = refl

pub is_plain-cons : (joins : Bool) (c : ℕ) (text : List ℕ) → is_plain joins (c ∷ text) ≡ (is_none (plainer joins (c ∷ text)) && is_plain joins text)
unfolding is_plain
is_plain-cons joins c text = refl

-- The rest of a plain text is plain.
pub is_plain-rest : (joins : Bool) (c : ℕ) (text : List ℕ) → is_plain joins (c ∷ text) ≡ true → is_plain joins text ≡ true
is_plain-rest joins c text is = (and_parts _ _ (sym (is_plain-cons joins c text) ∙ is)).1

none_from : {A : Type 0} → (found : Option A) → is_none found ≡ true → found ≡ None
none_from None is = refl
none_from (Some x) is = cc

not_some : {A : Type 0} → (found : Option A) → is_some found ≡ false → found ≡ None
not_some None is = refl
not_some (Some x) is = cc

not_none : {A : Type 0} → (found : Option A) → is_some found ≡ true → is_none found ≡ false
not_none None is = cc
not_none (Some x) is = refl

pub some_same : {A : Type 0} → (x y : A) → Some x ≡ Some y → x ≡ y
some_same x y e = cc

-- A plain text has no plainer spelling of its beginning.
pub is_plain-first : (joins : Bool) (c : ℕ) (text : List ℕ) → is_plain joins (c ∷ text) ≡ true → plainer joins (c ∷ text) ≡ None
is_plain-first joins c text is = none_from _ (and_parts _ _ (sym (is_plain-cons joins c text) ∙ is)).0

pub is_plain-more : (joins : Bool) (c : ℕ) (text : List ℕ) → plainer joins (c ∷ text) ≡ None → is_plain joins (c ∷ text) ≡ is_plain joins text
is_plain-more joins c text none = is_plain-cons joins c text ∙ ap (λ it. is_none it && is_plain joins text) none

pub is_plain-not : (joins : Bool) (c : ℕ) (text spelled : List ℕ) → plainer joins (c ∷ text) ≡ Some spelled → is_plain joins (c ∷ text) ≡ false
is_plain-not joins c text spelled some = is_plain-cons joins c text ∙ ap (λ it. is_none it && is_plain joins text) some

-- ---- where a text begins with a plainer spelling

pub plainer-joined : (joins : Bool) (first second : ℕ) (rest : List ℕ) → are_joined joins first second ≡ true → plainer joins (first ∷ second ∷ rest) ≡ Some (second ∷ rest)
plainer-joined joins first second rest are = rw are refl

pub plainer-apart : (joins : Bool) (first second : ℕ) (rest : List ℕ) → are_joined joins first second ≡ false → plainer joins (first ∷ second ∷ rest) ≡ plainer_octet (first ∷ second ∷ rest)
plainer-apart joins first second rest are = rw are refl

pub octet-decoded : (first high low : ℕ) (rest : List ℕ) → (first == percent_sign && encodes_unreserved high low) ≡ true → plainer_octet (first ∷ high ∷ low ∷ rest) ≡ Some (character_of high low ∷ rest)
octet-decoded first high low rest so = rw so refl

pub octet-capital : (first high low : ℕ) (rest : List ℕ) → (first == percent_sign && encodes_unreserved high low) ≡ false → (first == percent_sign && has_small_digit high low) ≡ true → plainer_octet (first ∷ high ∷ low ∷ rest) ≡ Some (first ∷ to_ascii_uppercase high ∷ to_ascii_uppercase low ∷ rest)
octet-capital first high low rest not_so small = rw not_so (rw small refl)

pub octet-kept : (first high low : ℕ) (rest : List ℕ) → (first == percent_sign && encodes_unreserved high low) ≡ false → (first == percent_sign && has_small_digit high low) ≡ false → plainer_octet (first ∷ high ∷ low ∷ rest) ≡ None
octet-kept first high low rest not_so not_small = rw not_so (rw not_small refl)

-- A character that is neither `%` nor a slash begins no plainer spelling.
not_joined : (joins : Bool) (c second : ℕ) → (c == slash) ≡ false → are_joined joins c second ≡ false
not_joined true c second other = rw other refl
not_joined false c second other = refl

octet-other : (c : ℕ) (rest : List ℕ) → (c == percent_sign) ≡ false → plainer_octet (c ∷ rest) ≡ None
octet-other c [] other = refl
octet-other c (high ∷ []) other = refl
octet-other c (high ∷ low ∷ rest) other = octet-kept c high low rest (rw other refl) (rw other refl)

pub plainer-other : (joins : Bool) (c : ℕ) (rest : List ℕ) → (c == percent_sign) ≡ false → (c == slash) ≡ false → plainer joins (c ∷ rest) ≡ None
plainer-other joins c [] percent slash' = refl
plainer-other joins c (second ∷ rest) percent slash' = plainer-apart joins c second rest (not_joined joins c second slash') ∙ octet-other c (second ∷ rest) percent

-- A character that passes a test which the mark fails is another one than the mark.
apart_by : (test : ℕ → Bool) (c mark : ℕ) → c ≡ mark → test c ≡ true → test mark ≡ false → ⊥
apart_by test c mark same passes fails = let e : test c ≡ test mark = ap test same in cc

other_by : (test : ℕ → Bool) (c mark : ℕ) → test c ≡ true → test mark ≡ false → (c == mark) ≡ false
other_by test c mark passes fails = elim (cases_Bool (c == mark)) [ inl same ↦ absurd (apart_by test c mark (eqb-true c mark same) passes fails) | inr other ↦ other ]

pub plainer-unreserved : (joins : Bool) (c : ℕ) (rest : List ℕ) → is_unreserved c ≡ true → plainer joins (c ∷ rest) ≡ None
plainer-unreserved joins c rest is = plainer-other joins c rest (other_by is_unreserved c percent_sign is refl) (other_by is_unreserved c slash is refl)

pub plainer-digit : (joins : Bool) (c : ℕ) (rest : List ℕ) → is_digit c 16 ≡ true → plainer joins (c ∷ rest) ≡ None
plainer-digit joins c rest is = plainer-other joins c rest (other_by (λ d. is_digit d 16) c percent_sign is refl) (other_by (λ d. is_digit d 16) c slash is refl)

-- What it means that three characters encode an unreserved one.
pub record Encodes (first high low : ℕ) : Type 0 where
  pub percent : (first == percent_sign) ≡ true
  pub high_digit : is_digit high 16 ≡ true
  pub low_digit : is_digit low 16 ≡ true
  pub unreserved : is_unreserved (character_of high low) ≡ true

pub encodes_from : (first high low : ℕ) → (first == percent_sign && encodes_unreserved high low) ≡ true → Encodes first high low
encodes_from first high low so =
    let all = and_parts (first == percent_sign) (encodes_unreserved high low) so in
    let inner = and_parts (is_digit high 16 && is_digit low 16) (is_unreserved (character_of high low)) all.1 in
    let digits = and_parts (is_digit high 16) (is_digit low 16) inner.0 in
    record {
      percent = all.0;
      high_digit = digits.0;
      low_digit = digits.1;
      unreserved = inner.1;
    }

-- What it means that three characters are an octet with a small letter.
pub record IsSmall (first high low : ℕ) : Type 0 where
  pub percent : (first == percent_sign) ≡ true
  pub high_digit : is_digit high 16 ≡ true
  pub low_digit : is_digit low 16 ≡ true

pub small_from : (first high low : ℕ) → (first == percent_sign && has_small_digit high low) ≡ true → IsSmall first high low
small_from first high low small =
    let all = and_parts (first == percent_sign) (has_small_digit high low) small in
    let inner = and_parts (is_digit high 16 && is_digit low 16) (is_ascii_lowercase high || is_ascii_lowercase low) all.1 in
    let digits = and_parts (is_digit high 16) (is_digit low 16) inner.0 in
    record {
      percent = all.0;
      high_digit = digits.0;
      low_digit = digits.1;
    }

-- ---- capital digits

-- A digit in upper case is the digit, and no small letter.
pub record Capital (d : ℕ) : Type 0 where
  pub digit : is_digit (to_ascii_uppercase d) 16 ≡ true
  pub value : digit_value (to_ascii_uppercase d) ≡ digit_value d
  pub not_small : is_ascii_lowercase (to_ascii_uppercase d) ≡ false

pub capital : (d : ℕ) → is_digit d 16 ≡ true → Capital d
capital d is = record {
  digit = grind (arith, nat_tests);
  value = grind (arith, nat_tests);
  not_small = grind (arith, nat_tests);
}

encodes_alike : (digit : ℕ → Bool) (value : ℕ → ℕ) (high low high' low' : ℕ) → digit high' ≡ digit high → digit low' ≡ digit low → value high' ≡ value high → value low' ≡ value low → ((digit high' && digit low') && is_unreserved (value high' * 16 + value low')) ≡ ((digit high && digit low) && is_unreserved (value high * 16 + value low))
encodes_alike digit value high low high' low' d e v w = rw d (rw e (rw v (rw w refl)))

encodes-capital : (high low : ℕ) → is_digit high 16 ≡ true → is_digit low 16 ≡ true → encodes_unreserved (to_ascii_uppercase high) (to_ascii_uppercase low) ≡ encodes_unreserved high low
encodes-capital high low is_high is_low =
    let first = capital high is_high in
    let second = capital low is_low in
    encodes_alike (λ d. is_digit d 16) digit_value high low (to_ascii_uppercase high) (to_ascii_uppercase low) (first.digit ∙ sym is_high) (second.digit ∙ sym is_low) first.value second.value

none_small : (p a b s t : Bool) → s ≡ false → t ≡ false → (p && ((a && b) && (s || t))) ≡ false
none_small false a b s t not_s not_t = refl
none_small true false b s t not_s not_t = refl
none_small true true false s t not_s not_t = refl
none_small true true true s t not_s not_t = rw not_s not_t

percent_apart : (joins : Bool) (c second : ℕ) → (c == percent_sign) ≡ true → are_joined joins c second ≡ false
percent_apart joins c second is = not_joined joins c second (ap (λ d. d == slash) (eqb-true c percent_sign is))

-- An octet that is not unreserved has no plainer spelling once its digits are capital letters.
pub plainer-capital : (joins : Bool) (c high low : ℕ) (rest : List ℕ) → IsSmall c high low → (c == percent_sign && encodes_unreserved high low) ≡ false → plainer joins (c ∷ to_ascii_uppercase high ∷ to_ascii_uppercase low ∷ rest) ≡ None
plainer-capital joins c high low rest it not_so =
    let first = capital high it.high_digit in
    let second = capital low it.low_digit in
    plainer-apart joins c (to_ascii_uppercase high) (to_ascii_uppercase low ∷ rest) (percent_apart joins c (to_ascii_uppercase high) it.percent)
    ∙ octet-kept c (to_ascii_uppercase high) (to_ascii_uppercase low) rest
    (ap (λ it. c == percent_sign && it) (encodes-capital high low it.high_digit it.low_digit) ∙ not_so)
    (none_small (c == percent_sign) (is_digit (to_ascii_uppercase high) 16) (is_digit (to_ascii_uppercase low) 16) _ _ first.not_small second.not_small)

-- What `plain` puts before a plain spelling, by the plainer spelling of its beginning.
pub plain-kept : (joins : Bool) (c : ℕ) (text : List ℕ) → plainer joins (c ∷ plain joins text) ≡ None → plain joins (c ∷ text) ≡ c ∷ plain joins text
plain-kept joins c text none = plain-cons joins c text ∙ ap (λ it. unwrap_or it (c ∷ plain joins text)) none

pub plain-spelled : (joins : Bool) (c : ℕ) (text spelled : List ℕ) → plainer joins (c ∷ plain joins text) ≡ Some spelled → plain joins (c ∷ text) ≡ spelled
plain-spelled joins c text spelled some = plain-cons joins c text ∙ ap (λ it. unwrap_or it (c ∷ plain joins text)) some

-- ---- the beginning of a plain spelling

begins_octet : (c second : ℕ) (rest : List ℕ) → begins_with is_slash (unwrap_or (plainer_octet (c ∷ second ∷ rest)) (c ∷ second ∷ rest)) ≡ (c == slash)
begins_octet c second [] = refl
begins_octet c second (third ∷ rest) =
    elim (cases_Bool (c == percent_sign && encodes_unreserved second third)) [
      | inl so ↦
          let it = encodes_from c second third so in
          ap (λ it. begins_with is_slash (unwrap_or it (c ∷ second ∷ third ∷ rest))) (octet-decoded c second third rest so)
          ∙ other_by is_unreserved (character_of second third) slash it.unreserved refl
          ∙ sym (ap (λ d. d == slash) (eqb-true c percent_sign it.percent))
      | inr not_so ↦
          elim (cases_Bool (c == percent_sign && has_small_digit second third)) [
            | inl small ↦ ap (λ it. begins_with is_slash (unwrap_or it (c ∷ second ∷ third ∷ rest))) (octet-capital c second third rest not_so small)
            | inr not_small ↦ ap (λ it. begins_with is_slash (unwrap_or it (c ∷ second ∷ third ∷ rest))) (octet-kept c second third rest not_so not_small)
          ]
    ]

begins_before : (joins : Bool) (c : ℕ) (rest : List ℕ) → begins_with is_slash (unwrap_or (plainer joins (c ∷ rest)) (c ∷ rest)) ≡ (c == slash)
begins_before joins c [] = refl
begins_before joins c (second ∷ rest) =
    elim (cases_Bool (are_joined joins c second)) [
      | inl are ↦
          let both = and_parts (c == slash) (second == slash) (and_parts joins (c == slash && second == slash) are).1 in
          ap (λ it. begins_with is_slash (unwrap_or it (c ∷ second ∷ rest))) (plainer-joined joins c second rest are) ∙ both.1 ∙ sym both.0
      | inr apart ↦
          ap (λ it. begins_with is_slash (unwrap_or it (c ∷ second ∷ rest))) (plainer-apart joins c second rest apart) ∙ begins_octet c second rest
    ]

-- A plain spelling begins with a slash exactly if the text does.
pub begins-plain : (joins : Bool) (text : List ℕ) → begins_with is_slash (plain joins text) ≡ begins_with is_slash text
begins-plain joins [] = ap (begins_with is_slash) (plain-nil joins)
begins-plain joins (c ∷ text) = ap (begins_with is_slash) (plain-cons joins c text) ∙ begins_before joins c (plain joins text)

-- ---- steps of the code

both_false : (x y : Bool) → (x || y) ≡ false → (x ≡ false) × (y ≡ false)
both_false true y e = absurd (true≢false e)
both_false false y e = (refl, e)

pub no_plainer : (joins : Bool) (c : ℕ) (rest : List ℕ) → (c == percent_sign || c == slash) ≡ false → is_some (plainer joins (c ∷ rest)) ≡ false
no_plainer joins c rest none =
    let both = both_false (c == percent_sign) (c == slash) none in
    ap is_some (plainer-other joins c rest both.0 both.1)

is_some_octet : (joins : Bool) (first second third : ℕ) (rest text : List ℕ) → are_joined joins first second ≡ false → text ≡ second ∷ third ∷ rest → is_some (plainer joins (first ∷ text)) ≡ is_some (plainer_octet (first ∷ second ∷ third ∷ rest))
is_some_octet joins first second third rest text apart is =
    ap (λ it. is_some (plainer joins (first ∷ it))) is ∙ ap is_some (plainer-apart joins first second (third ∷ rest) apart)

-- The text begins with an octet that encodes an unreserved character, if there is one that it
-- encodes.
pub has_decoded : (joins : Bool) (first second third : ℕ) (rest text : List ℕ) (found : Option ℕ) → are_joined joins first second ≡ false → text ≡ second ∷ third ∷ rest → found ≡ (if first == percent_sign && encodes_unreserved second third then Some (character_of second third) else None) → is_some found ≡ true → is_some (plainer joins (first ∷ text)) ≡ true
has_decoded joins first second third rest text found apart is e some =
    elim (cases_Bool (first == percent_sign && encodes_unreserved second third)) [
      | inl so ↦ is_some_octet joins first second third rest text apart is ∙ ap is_some (octet-decoded first second third rest so)
      | inr not_so ↦ absurd (let none : found ≡ None = e ∙ rw not_so refl in let other : is_some found ≡ false = ap is_some none in cc)
    ]

-- The text begins with an octet that is respelled only if that has a small letter, if it encodes
-- no unreserved character.
pub has_capital : (joins : Bool) (first second third : ℕ) (rest text : List ℕ) (found : Option ℕ) → are_joined joins first second ≡ false → text ≡ second ∷ third ∷ rest → found ≡ (if first == percent_sign && encodes_unreserved second third then Some (character_of second third) else None) → is_some found ≡ false → is_some (plainer joins (first ∷ text)) ≡ (first == percent_sign && has_small_digit second third)
has_capital joins first second third rest text found apart is e none =
    elim (cases_Bool (first == percent_sign && encodes_unreserved second third)) [
      | inl so ↦ absurd (let some : found ≡ Some (character_of second third) = e ∙ rw so refl in let other : is_some found ≡ true = ap is_some some in cc)
      | inr not_so ↦
          elim (cases_Bool (first == percent_sign && has_small_digit second third)) [
            | inl small ↦ is_some_octet joins first second third rest text apart is ∙ ap is_some (octet-capital first second third rest not_so small) ∙ sym small
            | inr not_small ↦ is_some_octet joins first second third rest text apart is ∙ ap is_some (octet-kept first second third rest not_so not_small) ∙ sym not_small
          ]
    ]

pub is_plain-step : (joins : Bool) (c : ℕ) (text : List ℕ) → is_some (plainer joins (c ∷ text)) ≡ false → is_plain joins (c ∷ text) ≡ is_plain joins text
is_plain-step joins c text not_so = is_plain-more joins c text (not_some _ not_so)

pub is_plain-stop : (joins : Bool) (c : ℕ) (text : List ℕ) → is_some (plainer joins (c ∷ text)) ≡ true → is_plain joins (c ∷ text) ≡ false
is_plain-stop joins c text so = is_plain-cons joins c text ∙ ap (λ it. it && is_plain joins text) (not_none _ so)

-- What is put before a plain spelling of two characters or more.
pub put_decoded : (joins : Bool) (first second third c : ℕ) (rest items now : List ℕ) → are_joined joins first second ≡ false → Some c ≡ (if first == percent_sign && encodes_unreserved second third then Some (character_of second third) else None) → items ≡ second ∷ third ∷ rest → now ≡ c ∷ rest → now ≡ unwrap_or (plainer joins (first ∷ items)) (first ∷ items)
put_decoded joins first second third c rest items now apart e is put =
    elim (cases_Bool (first == percent_sign && encodes_unreserved second third)) [
      | inl so ↦
          let same : Some c ≡ Some (character_of second third) = e ∙ rw so refl in
          put ∙ ap (λ d. d ∷ rest) (some_same c (character_of second third) same)
          ∙ sym (ap (λ it. unwrap_or (plainer joins (first ∷ it)) (first ∷ it)) is
          ∙ ap (λ it. unwrap_or it (first ∷ second ∷ third ∷ rest)) (plainer-apart joins first second (third ∷ rest) apart ∙ octet-decoded first second third rest so))
      | inr not_so ↦ absurd (let other : Some c ≡ None = e ∙ rw not_so refl in cc)
    ]

-- The characters do not encode an unreserved one, if there is none that they encode.
not_encoded : (first second third : ℕ) → None ≡ (if first == percent_sign && encodes_unreserved second third then Some (character_of second third) else None) → (first == percent_sign && encodes_unreserved second third) ≡ false
not_encoded first second third e =
    elim (cases_Bool (first == percent_sign && encodes_unreserved second third)) [
      | inl so ↦ absurd (let other : None ≡ Some (character_of second third) = e ∙ rw so refl in cc)
      | inr not_so ↦ not_so
    ]

pub put_capital : (joins : Bool) (first second third high low : ℕ) (rest items one two now : List ℕ) → are_joined joins first second ≡ false → None ≡ (if first == percent_sign && encodes_unreserved second third then Some (character_of second third) else None) → (first == percent_sign && has_small_digit second third) ≡ true → items ≡ second ∷ third ∷ rest → high ≡ to_ascii_uppercase second → low ≡ to_ascii_uppercase third → one ≡ low ∷ rest → two ≡ high ∷ one → now ≡ first ∷ two → now ≡ unwrap_or (plainer joins (first ∷ items)) (first ∷ items)
put_capital joins first second third high low rest items one two now apart e small is is_high is_low put_one put_two put =
    put ∙ ap (λ it. first ∷ it) (put_two ∙ ap (λ it. high ∷ it) put_one)
    ∙ ap (λ d. first ∷ d ∷ low ∷ rest) is_high
    ∙ ap (λ d. first ∷ to_ascii_uppercase second ∷ d ∷ rest) is_low
    ∙ sym (ap (λ it. unwrap_or (plainer joins (first ∷ it)) (first ∷ it)) is
    ∙ ap (λ it. unwrap_or it (first ∷ second ∷ third ∷ rest)) (plainer-apart joins first second (third ∷ rest) apart ∙ octet-capital first second third rest (not_encoded first second third e) small))

pub put_kept : (joins : Bool) (first second third : ℕ) (rest items now : List ℕ) → are_joined joins first second ≡ false → None ≡ (if first == percent_sign && encodes_unreserved second third then Some (character_of second third) else None) → (first == percent_sign && has_small_digit second third) ≡ false → items ≡ second ∷ third ∷ rest → now ≡ first ∷ second ∷ third ∷ rest → now ≡ unwrap_or (plainer joins (first ∷ items)) (first ∷ items)
put_kept joins first second third rest items now apart e not_small is put =
    put
    ∙ sym (ap (λ it. unwrap_or (plainer joins (first ∷ it)) (first ∷ it)) is
    ∙ ap (λ it. unwrap_or it (first ∷ second ∷ third ∷ rest)) (plainer-apart joins first second (third ∷ rest) apart ∙ octet-kept first second third rest (not_encoded first second third e) not_small))
