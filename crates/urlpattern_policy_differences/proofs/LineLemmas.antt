-- The plain spelling of texts that are lines.
use Rattle.std.proofs.Common.{◌≡◌, ◌∙◌, ◌<◌, ◌==◌, ◌&&◌, ◌||◌, ℕ, All, Bool, true, false, List, [], ◌∷◌, None, Option, Some, ap, arith, not, refl, reverse, subst, sym}
use Rattle.std.proofs.lemmas.Bool.{and_from, and_parts, cases_Bool}
use Rattle.std.proofs.lemmas.Bool.Decides.{nat_tests}
use Rattle.std.proofs.lemmas.List.{reverse-append}
use Rattle.std.proofs.lemmas.List.Elements.{All-append, All-cons, All-head, All-nil, All-tail}
use Rattle.std.specs.Char.{is_digit, to_ascii_uppercase}
use Rattle.std.specs.Prelude.{IfSome, IsTrue, unwrap_or, if◌then◌else◌}
use Rattle.std.specs.Str.{all_scalars}
use lib.Utf8.{low_scalar, scalar}
use mathlib.Core.Logic.{inl, inr}
use Rattle.url.specs.Ascii.{percent_sign}
use Rattle.urlpattern_compare.specs.TextSearch.{IsLine}
use Rattle.urlpattern_components.proofs.EightLemmas.{at-each}
use Rattle.urlpattern_components.specs.Eight.{Texts, at}
use Rattle.urlpattern_components.specs.declared.eight.ComponentName.{ComponentName}
use Rattle.urlpattern_components.specs.declared.eight.ComponentName.TheVariants.{Hash, Hostname, Password, Pathname, Port, Protocol, Search, Username}
use Rattle.urlpattern_policy.proofs.SpellingLaws.{without_first_dots-is, without_first_dots-nil, without_first_dots-other}
use Rattle.urlpattern_policy.proofs.SpellingLemmas.{capital, encodes_from, octet-capital, octet-decoded, octet-kept, plain-cons, plain-nil, plainer-apart, plainer-joined, small_from}
use Rattle.urlpattern_policy.specs.Decisions.{has_credentials, matched_texts}
use Rattle.urlpattern_policy.specs.Spellings.{are_joined, character_of, encodes_unreserved, has_small_digit, is_dot, is_slash, is_unreserved, plain, plain_of, plain_texts, plainer, plainer_octet, without_first_dots}
use Rattle.urlpattern_policy.specs.declared.policy.PolicyOptions.{PolicyOptions}
use Rattle.urlpattern_syntax.specs.RegexpText.{is_empty}
use Rattle.urlpattern_syntax.specs.Text.{begins_with, lacks, line_feed}

-- ---- characters of a line

-- A character of a line.
abbrev IsFine : ℕ → Type 0
IsFine c = (scalar c ≡ true) × (not (c == line_feed) ≡ true)

line_fine : (text : List ℕ) → IsTrue (all_scalars text) → IsTrue (lacks line_feed text) → All IsFine text
line_fine [] scalars plain = All-nil IsFine
line_fine (c ∷ text) scalars plain =
    let here = and_parts (scalar c) (all_scalars text) scalars in
    let also = and_parts (not (c == line_feed)) (lacks line_feed text) plain in
    All-cons IsFine c text (here.0, also.0) (line_fine text here.1 also.1)

fine_scalars : (text : List ℕ) → All IsFine text → IsTrue (all_scalars text)
fine_scalars [] all = refl
fine_scalars (c ∷ text) all = and_from (scalar c) (all_scalars text) (All-head IsFine c text all).0 (fine_scalars text (All-tail IsFine c text all))

fine_plain : (text : List ℕ) → All IsFine text → IsTrue (lacks line_feed text)
fine_plain [] all = refl
fine_plain (c ∷ text) all = and_from (not (c == line_feed)) (lacks line_feed text) (All-head IsFine c text all).1 (fine_plain text (All-tail IsFine c text all))

unreserved_low : (c : ℕ) → is_unreserved c ≡ true → c < 55296
unreserved_low c is = grind (arith, nat_tests)

unreserved_line : (c : ℕ) → is_unreserved c ≡ true → not (c == line_feed) ≡ true
unreserved_line c is = grind (arith, nat_tests)

unreserved_fine : (c : ℕ) → is_unreserved c ≡ true → IsFine c
unreserved_fine c is = (low_scalar c (unreserved_low c is), unreserved_line c is)

-- ---- a plainer spelling

encoded : (first high low : ℕ) → (first == percent_sign && encodes_unreserved high low) ≡ true → is_unreserved (character_of high low) ≡ true
encoded first high low is = (encodes_from first high low is).unreserved

digit_low : (c : ℕ) → is_digit c 16 ≡ true → c < 55296
digit_low c is = grind (arith, nat_tests)

digit_line : (c : ℕ) → is_digit c 16 ≡ true → not (c == line_feed) ≡ true
digit_line c is = grind (arith, nat_tests)

capital_fine : (c : ℕ) → is_digit c 16 ≡ true → IsFine (to_ascii_uppercase c)
capital_fine c is =
    let digit = (capital c is).digit in
    (low_scalar (to_ascii_uppercase c) (digit_low (to_ascii_uppercase c) digit), digit_line (to_ascii_uppercase c) digit)

abbrev IsFineIfAny : Option (List ℕ) → Type 0
IsFineIfAny found = IfSome found (λ plainer. All IsFine plainer × (is_empty plainer ≡ false))

-- A plainer spelling of a line is a line, and not empty.
octet_fine : (text : List ℕ) → All IsFine text → IsFineIfAny (plainer_octet text)
octet_fine [] all = tt
octet_fine (first ∷ []) all = tt
octet_fine (first ∷ high ∷ []) all = tt
octet_fine (first ∷ high ∷ low ∷ rest) all = by (first == percent_sign && encodes_unreserved high low) refl (first == percent_sign && has_small_digit high low) refl
  where
    rest_fine : All IsFine rest
    rest_fine = All-tail IsFine low rest (All-tail IsFine high (low ∷ rest) (All-tail IsFine first (high ∷ low ∷ rest) all))

    by : (is : Bool) → (first == percent_sign && encodes_unreserved high low) ≡ is → (small : Bool) → (first == percent_sign && has_small_digit high low) ≡ small
        → IsFineIfAny (plainer_octet (first ∷ high ∷ low ∷ rest))
    by true so small e =
        subst IsFineIfAny (sym (octet-decoded first high low rest so)) (All-cons IsFine (character_of high low) rest (unreserved_fine (character_of high low) (encoded first high low so)) rest_fine, refl)
    by false not_so true e =
        let it = small_from first high low e in
        subst IsFineIfAny (sym (octet-capital first high low rest not_so e)) (
          All-cons IsFine first (to_ascii_uppercase high ∷ to_ascii_uppercase low ∷ rest) (All-head IsFine first (high ∷ low ∷ rest) all)
              (All-cons IsFine (to_ascii_uppercase high) (to_ascii_uppercase low ∷ rest) (capital_fine high it.high_digit)
              (All-cons IsFine (to_ascii_uppercase low) rest (capital_fine low it.low_digit) rest_fine)),
          refl,
        )
    by false not_so false e = subst IsFineIfAny (sym (octet-kept first high low rest not_so e)) tt

plainer_fine : (joins : Bool) (text : List ℕ) → All IsFine text → IsFineIfAny (plainer joins text)
plainer_fine joins [] all = tt
plainer_fine joins (first ∷ []) all = tt
plainer_fine joins (first ∷ second ∷ rest) all = by (are_joined joins first second) refl
  where
    by : (is : Bool) → are_joined joins first second ≡ is → IsFineIfAny (plainer joins (first ∷ second ∷ rest))
    by true e = subst IsFineIfAny (sym (plainer-joined joins first second rest e)) (All-tail IsFine first (second ∷ rest) all, refl)
    by false e = subst IsFineIfAny (sym (plainer-apart joins first second rest e)) (octet_fine (first ∷ second ∷ rest) all)

one_of : (found : Option (List ℕ)) (text : List ℕ) → IsFineIfAny found → All IsFine text × (is_empty text ≡ false)
    → All IsFine (unwrap_or found text) × (is_empty (unwrap_or found text) ≡ false)
one_of None text some own = own
one_of (Some plainer) text some own = some

plain_fine : (joins : Bool) (text : List ℕ) → All IsFine text → All IsFine (plain joins text)
plain_fine joins [] all = subst (All IsFine) (sym (plain-nil joins)) (All-nil IsFine)
plain_fine joins (c ∷ text) all =
    let own = All-cons IsFine c (plain joins text) (All-head IsFine c text all) (plain_fine joins text (All-tail IsFine c text all)) in
    subst (All IsFine) (sym (plain-cons joins c text)) (one_of (plainer joins (c ∷ plain joins text)) (c ∷ plain joins text) (plainer_fine joins (c ∷ plain joins text) own) (own, refl)).0

-- The plain spelling of a line is empty only if the line is.
pub plain_empty : (joins : Bool) (text : List ℕ) → IsLine text → is_empty (plain joins text) ≡ is_empty text
plain_empty joins [] line = ap is_empty (plain-nil joins)
plain_empty joins (c ∷ text) line =
    let all = line_fine (c ∷ text) line.scalars line.plain in
    let own = All-cons IsFine c (plain joins text) (All-head IsFine c text all) (plain_fine joins text (All-tail IsFine c text all)) in
    ap is_empty (plain-cons joins c text) ∙ (one_of (plainer joins (c ∷ plain joins text)) (c ∷ plain joins text) (plainer_fine joins (c ∷ plain joins text) own) (own, refl)).1

-- ---- a hostname

all_reversed : (text : List ℕ) → All IsFine text → All IsFine (reverse text)
all_reversed [] all = All-nil IsFine
all_reversed (c ∷ text) all =
    subst (All IsFine) (sym (reverse-append (c ∷ []) text))
    (All-append IsFine (reverse text) (c ∷ []) (all_reversed text (All-tail IsFine c text all)) (All-cons IsFine c [] (All-head IsFine c text all) (All-nil IsFine)))

first_dots_fine : (text : List ℕ) → All IsFine text → All IsFine (without_first_dots text)
first_dots_fine [] all = subst (All IsFine) (sym without_first_dots-nil) (All-nil IsFine)
first_dots_fine (c ∷ text) all = elim (cases_Bool (is_dot c)) [
  | inl is ↦ subst (All IsFine) (sym (without_first_dots-is c text is)) (first_dots_fine text (All-tail IsFine c text all))
  | inr other ↦ subst (All IsFine) (sym (without_first_dots-other c text other)) all
]

-- ---- eight texts

plain_of_fine : (name : ComponentName) (text : List ℕ) → All IsFine text → All IsFine (plain_of name text)
plain_of_fine Protocol text all = plain_fine false text all
plain_of_fine Username text all = plain_fine false text all
plain_of_fine Password text all = plain_fine false text all
plain_of_fine Hostname text all = all_reversed (without_first_dots (reverse text)) (first_dots_fine (reverse text) (all_reversed text all))
plain_of_fine Port text all = plain_fine false text all
plain_of_fine Pathname text all = plain_fine (begins_with is_slash text) text all
plain_of_fine Search text all = plain_fine false text all
plain_of_fine Hash text all = plain_fine false text all

-- The texts that are matched are lines.
pub matched_lines : (options : PolicyOptions) (texts : Texts) → ((name : ComponentName) → IsLine (at texts name)) → (name : ComponentName) → IsLine (at (matched_texts options texts) name)
matched_lines options texts lines name = by options.plain_spelling
  where
    by : (is : Bool) → IsLine (at (if is then plain_texts texts else texts) name)
    by false = lines name
    by true =
        let line = lines name in
        let fine = plain_of_fine name (at texts name) (line_fine (at texts name) line.scalars line.plain) in
        subst IsLine (sym (at-each (λ one. plain_of one (at texts one)) name)) (record { scalars = fine_scalars (plain_of name (at texts name)) fine; plain = fine_plain (plain_of name (at texts name)) fine })

-- The texts that are matched have credentials if those of the URL do.
pub matched_credentials : (options : PolicyOptions) (texts : Texts) → ((name : ComponentName) → IsLine (at texts name)) → has_credentials (matched_texts options texts) ≡ has_credentials texts
matched_credentials options texts lines = by options.plain_spelling
  where
    by : (is : Bool) → has_credentials (if is then plain_texts texts else texts) ≡ has_credentials texts
    by false = refl
    by true =
        ap (λ (empty : Bool). not empty || not (is_empty (plain false texts.password))) (plain_empty false texts.username (lines Username))
        ∙ ap (λ (empty : Bool). not (is_empty texts.username) || not empty) (plain_empty false texts.password (lines Password))
