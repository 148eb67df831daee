-- A plain spelling is plain, a plain text is its own plain spelling, and two texts of which one has
-- a plainer spelling of one place have one plain spelling.
use Rattle.std.proofs.Common.{◌≡◌, ℕ, Bool, true, false, not, ◌==◌, ◌&&◌, List, [], ◌∷◌, ◌++◌, Some, None, reverse, refl, sym, ap, ◌∙◌}
use Rattle.std.proofs.lemmas.Bool.{and_from, and_parts, cases_Bool, eqb-true}
use Rattle.std.proofs.lemmas.List.{reverse-append, reverse-reverse}
use Rattle.std.specs.Char.{is_digit, to_ascii_uppercase}
use Rattle.std.specs.Prelude.{unwrap_or}
use mathlib.Core.Logic.{inl, inr}
use Rattle.url.specs.Ascii.{dot, percent_sign, slash}
use Rattle.urlpattern_components.proofs.EightLemmas.{at-each, same_values}
use Rattle.urlpattern_components.specs.Eight.{Texts, at}
use Rattle.urlpattern_components.specs.declared.eight.ComponentName.{ComponentName}
use Rattle.urlpattern_components.specs.declared.eight.ComponentName.TheVariants.{Protocol, Username, Password, Hostname, Port, Pathname, Search, Hash}
use Rattle.urlpattern_policy.proofs.SpellingLemmas.{begins-plain, capital, encodes_from, is_plain-first, is_plain-more, is_plain-nil, is_plain-rest, octet-capital, octet-decoded, octet-kept, plain-cons, plain-kept, plain-nil, plain-spelled, plainer-apart, plainer-capital, plainer-digit, plainer-joined, plainer-unreserved, small_from, some_same}
use Rattle.urlpattern_policy.specs.Spellings.{ArePlain, LastDotIsAlike, PlainIsPlain, PlainerIsAlike, are_joined, character_of, encodes_unreserved, ends_in_dot, has_small_digit, is_dot, is_plain, is_plain_of, is_slash, plain, plain_of, plain_texts, plainer, plainer_octet, without_first_dots, without_last_dots}
use Rattle.urlpattern_syntax.specs.Text.{begins_with}

-- ---- a plain spelling is plain

octet_before : (joins : Bool) (c second : ℕ) (rest : List ℕ) → are_joined joins c second ≡ false → is_plain joins (second ∷ rest) ≡ true → is_plain joins (unwrap_or (plainer_octet (c ∷ second ∷ rest)) (c ∷ second ∷ rest)) ≡ true
octet_before joins c second [] apart is = is_plain-more joins c (second ∷ []) (plainer-apart joins c second [] apart) ∙ is
octet_before joins c second (third ∷ rest) apart is =
    let others = is_plain-rest joins third rest (is_plain-rest joins second (third ∷ rest) is) in
    elim (cases_Bool (c == percent_sign && encodes_unreserved second third)) [
      | inl so ↦
          let it = encodes_from c second third so in
          ap (λ it. is_plain joins (unwrap_or it (c ∷ second ∷ third ∷ rest))) (octet-decoded c second third rest so)
          ∙ is_plain-more joins (character_of second third) rest (plainer-unreserved joins (character_of second third) rest it.unreserved)
          ∙ others
      | inr not_so ↦
          elim (cases_Bool (c == percent_sign && has_small_digit second third)) [
            | inl small ↦
                let it = small_from c second third small in
                let high = to_ascii_uppercase second in
                let low = to_ascii_uppercase third in
                ap (λ it. is_plain joins (unwrap_or it (c ∷ second ∷ third ∷ rest))) (octet-capital c second third rest not_so small)
                ∙ is_plain-more joins c (high ∷ low ∷ rest) (plainer-capital joins c second third rest it not_so)
                ∙ is_plain-more joins high (low ∷ rest) (plainer-digit joins high (low ∷ rest) (capital second it.high_digit).digit)
                ∙ is_plain-more joins low rest (plainer-digit joins low rest (capital third it.low_digit).digit)
                ∙ others
            | inr not_small ↦
                let none = octet-kept c second third rest not_so not_small in
                ap (λ it. is_plain joins (unwrap_or it (c ∷ second ∷ third ∷ rest))) none
                ∙ is_plain-more joins c (second ∷ third ∷ rest) (plainer-apart joins c second (third ∷ rest) apart ∙ none)
                ∙ is
          ]
    ]

plain_before : (joins : Bool) (c : ℕ) (rest : List ℕ) → is_plain joins rest ≡ true → is_plain joins (unwrap_or (plainer joins (c ∷ rest)) (c ∷ rest)) ≡ true
plain_before joins c [] is = is_plain-more joins c [] refl ∙ is
plain_before joins c (second ∷ rest) is =
    elim (cases_Bool (are_joined joins c second)) [
      | inl are ↦ ap (λ it. is_plain joins (unwrap_or it (c ∷ second ∷ rest))) (plainer-joined joins c second rest are) ∙ is
      | inr apart ↦ ap (λ it. is_plain joins (unwrap_or it (c ∷ second ∷ rest))) (plainer-apart joins c second rest apart) ∙ octet_before joins c second rest apart is
    ]

pub plain-is_plain : (joins : Bool) (text : List ℕ) → is_plain joins (plain joins text) ≡ true
plain-is_plain joins [] = ap (is_plain joins) (plain-nil joins) ∙ is_plain-nil joins
plain-is_plain joins (c ∷ text) = ap (is_plain joins) (plain-cons joins c text) ∙ plain_before joins c (plain joins text) (plain-is_plain joins text)

-- A plain text is its own plain spelling.
pub is_plain-plain : (joins : Bool) (text : List ℕ) → is_plain joins text ≡ true → plain joins text ≡ text
is_plain-plain joins [] is = plain-nil joins
is_plain-plain joins (c ∷ text) is =
    plain-cons joins c text
    ∙ ap (λ it. unwrap_or (plainer joins (c ∷ it)) (c ∷ it)) (is_plain-plain joins text (is_plain-rest joins c text is))
    ∙ ap (λ it. unwrap_or it (c ∷ text)) (is_plain-first joins c text is)

-- ---- the dots at the end

pub without_first_dots-dot : (text : List ℕ) → without_first_dots (dot ∷ text) ≡ without_first_dots text
unfolding without_first_dots
without_first_dots-dot text = refl

pub without_first_dots-other : (c : ℕ) (text : List ℕ) → is_dot c ≡ false → without_first_dots (c ∷ text) ≡ c ∷ text
unfolding without_first_dots
without_first_dots-other c text other = rw other refl

pub without_first_dots-nil : without_first_dots [] ≡ []
unfolding without_first_dots
without_first_dots-nil = refl

pub without_first_dots-is : (c : ℕ) (text : List ℕ) → is_dot c ≡ true → without_first_dots (c ∷ text) ≡ without_first_dots text
unfolding without_first_dots
without_first_dots-is c text is = rw is refl

begins-without : (text : List ℕ) → begins_with is_dot (without_first_dots text) ≡ false
begins-without [] = ap (begins_with is_dot) without_first_dots-nil
begins-without (c ∷ text) =
    elim (cases_Bool (is_dot c)) [
      | inl is ↦ ap (begins_with is_dot) (without_first_dots-is c text is) ∙ begins-without text
      | inr other ↦ ap (begins_with is_dot) (without_first_dots-other c text other) ∙ other
    ]

pub ends-without : (text : List ℕ) → not (ends_in_dot (without_last_dots text)) ≡ true
ends-without text = ap (λ it. not (begins_with is_dot it)) (reverse-reverse (without_first_dots (reverse text))) ∙ ap not (begins-without (reverse text))

without_first_dots-kept : (text : List ℕ) → not (begins_with is_dot text) ≡ true → without_first_dots text ≡ text
without_first_dots-kept [] not_so = without_first_dots-nil
without_first_dots-kept (c ∷ text) not_so =
    elim (cases_Bool (is_dot c)) [
      | inl is ↦ absurd (let e : not true ≡ true = ap not (sym is) ∙ not_so in cc)
      | inr other ↦ without_first_dots-other c text other
    ]

pub without_last_dots-kept : (text : List ℕ) → not (ends_in_dot text) ≡ true → without_last_dots text ≡ text
without_last_dots-kept text not_so = ap reverse (without_first_dots-kept (reverse text) not_so) ∙ reverse-reverse text

pub last_dot_is_alike : LastDotIsAlike
last_dot_is_alike host = ap (λ it. reverse (without_first_dots it)) (reverse-append host (dot ∷ [])) ∙ ap reverse (without_first_dots-dot (reverse host))

ends_in_dot-last : (before : List ℕ) (c : ℕ) → ends_in_dot (before ++ c ∷ []) ≡ is_dot c
ends_in_dot-last before c = ap (begins_with is_dot) (reverse-append before (c ∷ []))

pub ends_by_last : (text before : List ℕ) (c : ℕ) → text ≡ before ++ c ∷ [] → ends_in_dot text ≡ is_dot c
ends_by_last text before c cut = ap ends_in_dot cut ∙ ends_in_dot-last before c

pub dots_kept : (text before : List ℕ) (c : ℕ) → text ≡ before ++ c ∷ [] → is_dot c ≡ false → without_last_dots text ≡ text
dots_kept text before c cut other = without_last_dots-kept text (ap not (ends_by_last text before c cut ∙ other))

pub dots_dropped : (text before : List ℕ) (c : ℕ) → text ≡ before ++ c ∷ [] → is_dot c ≡ true → without_last_dots text ≡ without_last_dots before
dots_dropped text before c cut is = ap without_last_dots (cut ∙ ap (λ d. before ++ d ∷ []) (eqb-true c dot is)) ∙ last_dot_is_alike before

pub dots_of_nothing : without_last_dots [] ≡ []
dots_of_nothing = ap reverse without_first_dots-nil

-- ---- eight texts

plain_of-is_plain : (name : ComponentName) (text : List ℕ) → is_plain_of name (plain_of name text) ≡ true
plain_of-is_plain Protocol text = plain-is_plain false text
plain_of-is_plain Username text = plain-is_plain false text
plain_of-is_plain Password text = plain-is_plain false text
plain_of-is_plain Hostname text = ends-without text
plain_of-is_plain Port text = plain-is_plain false text
plain_of-is_plain Pathname text =
    ap (λ joins. is_plain joins (plain (begins_with is_slash text) text)) (begins-plain (begins_with is_slash text) text)
    ∙ plain-is_plain (begins_with is_slash text) text
plain_of-is_plain Search text = plain-is_plain false text
plain_of-is_plain Hash text = plain-is_plain false text

plain_of-kept : (name : ComponentName) (text : List ℕ) → is_plain_of name text ≡ true → plain_of name text ≡ text
plain_of-kept Protocol text is = is_plain-plain false text is
plain_of-kept Username text is = is_plain-plain false text is
plain_of-kept Password text is = is_plain-plain false text is
plain_of-kept Hostname text is = without_last_dots-kept text is
plain_of-kept Port text is = is_plain-plain false text is
plain_of-kept Pathname text is = is_plain-plain (begins_with is_slash text) text is
plain_of-kept Search text is = is_plain-plain false text is
plain_of-kept Hash text is = is_plain-plain false text is

pub plain_texts-are_plain : (texts : Texts) → ArePlain (plain_texts texts)
plain_texts-are_plain texts name =
    ap (is_plain_of name) (at-each (λ name. plain_of name (at texts name)) name) ∙ plain_of-is_plain name (at texts name)

pub plain_texts-kept : (texts : Texts) → ArePlain texts → plain_texts texts ≡ texts
plain_texts-kept texts are =
    same_values (plain_texts texts) texts (λ name. at-each (λ name. plain_of name (at texts name)) name ∙ plain_of-kept name (at texts name) (are name))

pub plain_is_plain : (texts : Texts) → PlainIsPlain texts
plain_is_plain texts = record {
  plain = plain_texts-are_plain texts;
  kept = plain_texts-kept texts;
  again = plain_texts-kept (plain_texts texts) (plain_texts-are_plain texts);
}

-- ---- two spellings of one place

joined_again : (joins : Bool) (c : ℕ) (text : List ℕ) → joins ≡ true → (c == slash) ≡ true → begins_with is_slash text ≡ true → plainer joins (c ∷ text) ≡ Some text
joined_again joins c [] so is begins = absurd cc
joined_again joins c (d ∷ text) so is begins = plainer-joined joins c d text (and_from joins (c == slash && d == slash) so (and_from (c == slash) (d == slash) is begins))

first_joined : (joins : Bool) (c second : ℕ) (rest spelled : List ℕ) → are_joined joins c second ≡ true → plainer joins (c ∷ second ∷ rest) ≡ Some spelled → plain joins (c ∷ second ∷ rest) ≡ plain joins spelled
first_joined joins c second rest spelled are e =
    let all = and_parts joins (c == slash && second == slash) are in
    let both = and_parts (c == slash) (second == slash) all.1 in
    let same = some_same (second ∷ rest) spelled (sym (plainer-joined joins c second rest are) ∙ e) in
    plain-spelled joins c (second ∷ rest) (plain joins (second ∷ rest))
    (joined_again joins c (plain joins (second ∷ rest)) all.0 both.0 (begins-plain joins (second ∷ rest) ∙ both.1))
    ∙ ap (plain joins) same

digits_kept : (joins : Bool) (high low : ℕ) (rest : List ℕ) → is_digit high 16 ≡ true → is_digit low 16 ≡ true → plain joins (high ∷ low ∷ rest) ≡ high ∷ low ∷ plain joins rest
digits_kept joins high low rest is_high is_low =
    plain-kept joins high (low ∷ rest) (plainer-digit joins high (plain joins (low ∷ rest)) is_high)
    ∙ ap (λ it. high ∷ it) (plain-kept joins low rest (plainer-digit joins low (plain joins rest) is_low))

first_decoded : (joins : Bool) (c second third : ℕ) (rest : List ℕ) → are_joined joins c second ≡ false → (c == percent_sign && encodes_unreserved second third) ≡ true → plain joins (c ∷ second ∷ third ∷ rest) ≡ plain joins (character_of second third ∷ rest)
first_decoded joins c second third rest apart so =
    let it = encodes_from c second third so in
    let digits = digits_kept joins second third rest it.high_digit it.low_digit in
    let some = ap (λ it. plainer joins (c ∷ it)) digits ∙ plainer-apart joins c second (third ∷ plain joins rest) apart ∙ octet-decoded c second third (plain joins rest) so in
    plain-spelled joins c (second ∷ third ∷ rest) (character_of second third ∷ plain joins rest) some
    ∙ sym (plain-kept joins (character_of second third) rest (plainer-unreserved joins (character_of second third) (plain joins rest) it.unreserved))

first_capital : (joins : Bool) (c second third : ℕ) (rest : List ℕ) → are_joined joins c second ≡ false → (c == percent_sign && encodes_unreserved second third) ≡ false → (c == percent_sign && has_small_digit second third) ≡ true → plain joins (c ∷ second ∷ third ∷ rest) ≡ plain joins (c ∷ to_ascii_uppercase second ∷ to_ascii_uppercase third ∷ rest)
first_capital joins c second third rest apart not_so small =
    let it = small_from c second third small in
    let high = to_ascii_uppercase second in
    let low = to_ascii_uppercase third in
    let digits = digits_kept joins second third rest it.high_digit it.low_digit in
    let capitals = digits_kept joins high low rest (capital second it.high_digit).digit (capital third it.low_digit).digit in
    let some = ap (λ it. plainer joins (c ∷ it)) digits ∙ plainer-apart joins c second (third ∷ plain joins rest) apart ∙ octet-capital c second third (plain joins rest) not_so small in
    let none = ap (λ it. plainer joins (c ∷ it)) capitals ∙ plainer-capital joins c second third (plain joins rest) it not_so in
    plain-spelled joins c (second ∷ third ∷ rest) (c ∷ high ∷ low ∷ plain joins rest) some
    ∙ sym (plain-kept joins c (high ∷ low ∷ rest) none ∙ ap (λ it. c ∷ it) capitals)

first_apart : (joins : Bool) (c second : ℕ) (rest spelled : List ℕ) → are_joined joins c second ≡ false → plainer_octet (c ∷ second ∷ rest) ≡ Some spelled → plain joins (c ∷ second ∷ rest) ≡ plain joins spelled
first_apart joins c second [] spelled apart e = absurd cc
first_apart joins c second (third ∷ rest) spelled apart e =
    elim (cases_Bool (c == percent_sign && encodes_unreserved second third)) [
      | inl so ↦
          let same = some_same (character_of second third ∷ rest) spelled (sym (octet-decoded c second third rest so) ∙ e) in
          first_decoded joins c second third rest apart so ∙ ap (plain joins) same
      | inr not_so ↦
          elim (cases_Bool (c == percent_sign && has_small_digit second third)) [
            | inl small ↦
                let same = some_same (c ∷ to_ascii_uppercase second ∷ to_ascii_uppercase third ∷ rest) spelled (sym (octet-capital c second third rest not_so small) ∙ e) in
                first_capital joins c second third rest apart not_so small ∙ ap (plain joins) same
            | inr not_small ↦ absurd (let none : None ≡ Some spelled = sym (octet-kept c second third rest not_so not_small) ∙ e in cc)
          ]
    ]

first_alike : (joins : Bool) (after spelled : List ℕ) → plainer joins after ≡ Some spelled → plain joins after ≡ plain joins spelled
first_alike joins [] spelled e = absurd cc
first_alike joins (c ∷ []) spelled e = absurd cc
first_alike joins (c ∷ second ∷ rest) spelled e =
    elim (cases_Bool (are_joined joins c second)) [
      | inl are ↦ first_joined joins c second rest spelled are e
      | inr apart ↦ first_apart joins c second rest spelled apart (sym (plainer-apart joins c second rest apart) ∙ e)
    ]

pub plainer_is_alike : PlainerIsAlike
plainer_is_alike joins [] after spelled e = first_alike joins after spelled e
plainer_is_alike joins (c ∷ before) after spelled e =
    plain-cons joins c (before ++ after)
    ∙ ap (λ it. unwrap_or (plainer joins (c ∷ it)) (c ∷ it)) (plainer_is_alike joins before after spelled e)
    ∙ sym (plain-cons joins c (before ++ spelled))
