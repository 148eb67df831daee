-- Lemmas on the texts of printed patterns.
use Rattle.std.proofs.Common.{◌≡◌, ℕ, Bool, true, false, not, ◌&&◌, ◌==◌, List, [], ◌∷◌, ◌++◌, length, take, Option, Some, None, String, refl, sym, ap, subst, ◌∙◌, append_assoc, bytes_eq, map, arith}
use denote.Ref.{Bor}
use Rattle.std.proofs.lemmas.Slice.Eq.{bytes_eq-Decides}
use Rattle.std.proofs.Math.Dec.{eqb}
use Rattle.std.proofs.lemmas.Bool.{eq-eqb, eqb-true, false≢true}
use Rattle.std.proofs.lemmas.Bool.Decides.{Decides-eqb, same_from_decides}
use Rattle.std.proofs.lemmas.Str.{chars-append, chars-nil, chars_past_char, IsCharBoundary-at_seam, IsUtf8-encode, IsUtf8-past_char, IsUtf8-string_bytes, IsUtf8-take}
use Rattle.std.proofs.Math.Seq.{take-append_seam}
use Rattle.std.specs.Char.{IsScalar, encode_utf8}
use Rattle.std.specs.Option.{option_eq}
use Rattle.std.specs.Prelude.{codes, if◌then◌else◌, option_copied, option_map, slice_get, string_bytes}
use Rattle.std.specs.Str.{chars, IsUtf8}
use Rattle.std.specs.declared.alloc.Global.{Global}
use Rattle.urlpattern_printing.proofs.RegexpTexts.{not-fixed}
use Rattle.urlpattern_printing.specs.Neighbours.{neighbour}
use Rattle.urlpattern_meaning.specs.Printing.{escaped_pattern, first_part, in_braces, is_asterisk, is_name_alone, last_of, needs_braces, printed_fixed, printed_group, printed_match, printed_after, printed_name, printed_part, printed_suffix}
use Rattle.urlpattern_syntax.proofs.StringTexts.{chars-encode}
use Rattle.urlpattern_syntax.proofs.TextLemmas.{bytes_same, chars-some}
use Rattle.urlpattern_syntax.specs.declared.parser.Part.{Part}
use Rattle.urlpattern_syntax.specs.declared.parser.PartType.TheVariants.{FixedText}
use Rattle.urlpattern_syntax.specs.Options.{OptionsView}
use Rattle.urlpattern_syntax.specs.Parts.{PartView, part_view}
use Rattle.urlpattern_syntax.specs.RegexpText.{escaped, is_empty, is_unmodified, modifier_text}
use Rattle.urlpattern_syntax.specs.Text.{begins_with, is_name_part, text_of}

-- ---- the last character

pub last_of-append : (text : List ℕ) (c : ℕ) → last_of (text ++ c ∷ []) ≡ c ∷ []
last_of-append [] c = refl
last_of-append (d ∷ []) c = refl
last_of-append (d ∷ e ∷ text) c = last_of-append (e ∷ text) c

pub filled-append : (text : List ℕ) (c : ℕ) → is_empty (text ++ c ∷ []) ≡ false
filled-append [] c = refl
filled-append (d ∷ text) c = refl

-- The characters of a text whose bytes end with those of `c`.
pub chars_before_char : (whole front : List ℕ) (c : ℕ) → IsUtf8 whole → IsScalar c → whole ≡ front ++ encode_utf8 c → chars whole ≡ chars front ++ c ∷ []
chars_before_char whole front c u s e =
    let cut : take (length front) whole ≡ front = ap (λ xs. take (length front) xs) e ∙ take-append_seam front (encode_utf8 c) in
    let P : List ℕ → Type 0 = λ xs. IsUtf8 xs in
    let v = subst P cut (IsUtf8-take whole (length front) u (IsCharBoundary-at_seam whole front (encode_utf8 c) e (IsUtf8-encode c s))) in
    ap chars e ∙ chars-append front (encode_utf8 c) v ∙ ap (λ xs. chars front ++ xs) (chars-encode c s)

-- A text that ends with this character ends with the prefix code point exactly where both are
-- equal.
pub ends_with : {answer : Bool} (text front : List ℕ) (c : ℕ) (prefix : List ℕ) → text ≡ front ++ c ∷ [] → answer ≡ bytes_eq (c ∷ []) prefix → answer ≡ not (is_empty text) && bytes_eq (last_of text) prefix
ends_with text front c prefix e h =
    rw (e, filled-append front c, last_of-append front c) h

nothing_alone : (text : List ℕ) → (text ≡ [] → ⊥) → bytes_eq [] text ≡ false
nothing_alone [] some = absurd (some refl)
nothing_alone (c ∷ text) some = refl

alone : (rest : List ℕ) → IsUtf8 rest → bytes_eq [] (chars rest) ≡ (length rest == 0)
alone [] u = ap (λ text. bytes_eq [] text) chars-nil
alone (b ∷ rest) u =
    let some : length (b ∷ rest) ≡ 0 → ⊥ = λ e. omega (arith, e) in
    nothing_alone (chars (b ∷ rest)) (chars-some (b ∷ rest) u some) ∙ sym (grind arith)

-- The first character of the text is all of it exactly where no bytes are left.
pub is_alone : (c : ℕ) (bytes rest : List ℕ) → IsUtf8 bytes → bytes ≡ encode_utf8 c ++ rest → bytes_eq (c ∷ []) (chars bytes) ≡ (length rest == 0)
is_alone c bytes rest u e =
    let same : eqb c c ≡ true = eq-eqb c c refl in
    ap (λ text. bytes_eq (c ∷ []) text) (chars_past_char bytes rest c u e) ∙ ap (λ b. b && bytes_eq [] (chars rest)) same ∙ alone rest (IsUtf8-past_char bytes rest c u e)

-- The text does not begin with this character.
pub begins_else : (c : ℕ) (text : List ℕ) → false ≡ option_eq eqb (slice_get text 0) (Some c) → bytes_eq (c ∷ []) text ≡ false
begins_else c [] e = refl
begins_else c (d ∷ text) e =
    let one = same_from_decides (eqb c d) (eqb d c) (Decides-eqb c d) ((λ h. sym (eqb-true d c h)), (λ same. eq-eqb d c (sym same))) in
    ap (λ b. b && bytes_eq [] text) (one ∙ sym e)

-- The character that was found is `c`.
pub found_as : (found : Option ℕ) (c : ℕ) → true ≡ option_eq eqb found (Some c) → found ≡ Some c
found_as None c e = absurd (cc e)
found_as (Some d) c e = ap (λ x. Some x) (eqb-true d c (sym e))

-- ---- equal texts

pub bytes_eq-text : (one other : String Global) → bytes_eq (text_of one) (text_of other) ≡ bytes_eq (string_bytes one) (string_bytes other)
bytes_eq-text one other =
    let u = IsUtf8-string_bytes one in
    let v = IsUtf8-string_bytes other in
    let chars_decide = bytes_eq-Decides (text_of one) (text_of other) in
    let bytes_decide = bytes_eq-Decides (string_bytes one) (string_bytes other) in
    same_from_decides (bytes_eq (text_of one) (text_of other)) (bytes_eq (string_bytes one) (string_bytes other))
    ((λ e. bytes_same (string_bytes one) (string_bytes other) u v (chars_decide.0 e)), (λ e. chars_decide.1 (ap chars e)))
    bytes_decide

-- ---- neighbours

-- The first of the parts after a part.
pub first_neighbour : (first : Option (Bor Part)) (parts : List Part) → option_copied first ≡ slice_get parts 0 → neighbour first ≡ first_part (map part_view parts)
first_neighbour None [] e = refl
first_neighbour None (part ∷ parts) e = absurd (cc e)
first_neighbour (Some first) [] e = absurd (cc e)
first_neighbour (Some first) (part ∷ parts) e = ap (λ found. option_map part_view found) e

-- The text after a part's own text, where the list is cut after that part.
pub printed-cut : (options : OptionsView) (previous : Option PartView) (part : Part) (after rest : List Part) (next : Option (Bor Part)) (front : List ℕ) {whole : List ℕ}
    → option_copied next ≡ slice_get after 0 → rest ≡ part ∷ after → front ++ printed_after options previous (map part_view rest) ≡ whole
    → front ++ (printed_part options previous (part_view part) (neighbour next) ++ printed_after options (Some (part_view part)) (map part_view after)) ≡ whole
printed-cut options previous part after rest next front is_next cut is_whole =
    ap (λ found. front ++ (printed_part options previous (part_view part) found ++ printed_after options (Some (part_view part)) (map part_view after))) (first_neighbour next after is_next)
    ∙ ap (λ list. front ++ printed_after options previous (map part_view list)) (sym cut)
    ∙ is_whole

pub printed-more : (options : OptionsView) (previous : Option PartView) (part : Part) (after rest : List Part) (next : Option (Bor Part)) (front : List ℕ) {whole : List ℕ}
    → option_copied next ≡ slice_get after 0 → rest ≡ part ∷ after → front ++ printed_after options previous (map part_view rest) ≡ whole
    → (front ++ printed_part options previous (part_view part) (neighbour next)) ++ printed_after options (Some (part_view part)) (map part_view after) ≡ whole
printed-more options previous part after rest next front is_next cut is_whole =
    append_assoc front (printed_part options previous (part_view part) (neighbour next)) (printed_after options (Some (part_view part)) (map part_view after))
    ∙ printed-cut options previous part after rest next front is_next cut is_whole

-- ---- the texts of parts, by the texts of their pieces

-- A piece that was escaped by its bytes.
pub escaped-by : {text bytes own : List ℕ} → text ≡ escaped_pattern (chars bytes) → bytes ≡ own → text ≡ escaped_pattern (chars own)
escaped-by e same = e ∙ ap (λ bytes. escaped_pattern (chars bytes)) same

pub fixed-as : (part : PartView) (braces : Bool) (value modifier : List ℕ) → braces ≡ not (is_unmodified part.modifier) → value ≡ escaped_pattern part.value → modifier ≡ modifier_text part.modifier
    → in_braces braces value ++ modifier ≡ printed_fixed part
fixed-as part braces value modifier b v m =
    ap (λ x. in_braces x value ++ modifier) b ∙ ap (λ x. in_braces (not (is_unmodified part.modifier)) x ++ modifier) v
    ∙ ap (λ x. in_braces (not (is_unmodified part.modifier)) (escaped_pattern part.value) ++ x) m

abbrev group_of : OptionsView → PartView → (asterisk braces : Bool) → (prefix modifier : List ℕ) → List ℕ
group_of options part asterisk braces prefix modifier =
    in_braces braces (prefix ++ printed_name part ++ printed_match options part.kind part asterisk ++ printed_suffix part) ++ modifier

pub group-as : (options : OptionsView) (before : Option PartView) (part : PartView) (asterisk braces : Bool) (prefix modifier : List ℕ)
    → asterisk ≡ is_asterisk before part braces → prefix ≡ escaped_pattern part.prefix → modifier ≡ modifier_text part.modifier
    → in_braces braces (prefix ++ printed_name part ++ printed_match options part.kind part asterisk ++ printed_suffix part) ++ modifier ≡ printed_group options before part braces
group-as options before part asterisk braces prefix modifier a p m =
    ap (λ x. group_of options part x braces prefix modifier) a
    ∙ ap (λ x. group_of options part (is_asterisk before part braces) braces x modifier) p
    ∙ ap (λ x. group_of options part (is_asterisk before part braces) braces (escaped_pattern part.prefix) x) m

-- ---- a part between its neighbours, by its kind

pub printed_part-fixed : (options : OptionsView) (before : Option PartView) (part : PartView) (next : Option PartView) → part.kind ≡ FixedText → printed_part options before part next ≡ printed_fixed part
unfolding printed_part
printed_part-fixed options before part next e = rw e

pub printed_part-group : (options : OptionsView) (before : Option PartView) (part : PartView) (next : Option PartView) → (part.kind ≡ FixedText → ⊥)
    → printed_part options before part next ≡ printed_group options before part (needs_braces options before part next)
unfolding printed_part
printed_part-group options before part next other = rw (not-fixed part.kind other)

-- ---- parts without a prefix or a suffix

-- Nothing is written for an empty text.
pub escaped-nothing : (text : List ℕ) → is_empty text ≡ true → escaped_pattern text ≡ []
unfolding escaped
escaped-nothing [] none = refl
escaped-nothing (c ∷ text) none = absurd (false≢true none)

suffix-nothing : (alone : Bool) (suffix : List ℕ) → is_empty suffix ≡ true
    → (if alone && begins_with is_name_part suffix then codes "\\" else []) ++ escaped_pattern suffix ≡ []
unfolding escaped
suffix-nothing true [] none = refl
suffix-nothing false [] none = refl
suffix-nothing alone (c ∷ suffix) none = absurd (false≢true none)

-- Nothing is written for the suffix of a part without one.
pub no_suffix : (part : PartView) → is_empty part.suffix ≡ true → printed_suffix part ≡ []
no_suffix part none = suffix-nothing (is_name_alone part) part.suffix none
