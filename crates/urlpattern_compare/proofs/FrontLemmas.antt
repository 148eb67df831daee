-- Texts that parts match begin with the parts' front.
use Rattle.std.proofs.Common.{◌≡◌, ◌∙◌, ◌⊎◌, ℕ, zero, suc, Bool, true, false, List, None, [], ◌∷◌, ◌++◌, ap, ap₂, append-nil, append_assoc, arith, inl, inr, refl, sym}
use Rattle.std.proofs.lemmas.Str.{chars-nil, encodes-append, encodes-chars}
use Rattle.std.specs.List.{slice_get}
use Rattle.std.specs.Prelude.{encode_utf8_all, if◌then◌else◌}
use Rattle.std.specs.Str.{IsUtf8, chars}
use Rattle.urlpattern_compare.specs.Fronts.{copy_front, front_of, part_front}
use Rattle.urlpattern_compare.specs.Making.{may_miss}
use Rattle.urlpattern_expressions.specs.MatchedPartTexts.{IsMatchedCopy, PartMatches, PartsMatch}
use Rattle.urlpattern_meaning.specs.PartMeaning.{Allows}
use Rattle.urlpattern_syntax.specs.declared.parser.{Part.Part, PartModifier.PartModifier, PartType.PartType}
use Rattle.urlpattern_syntax.specs.{Options.OptionsView, Parts.PartView, Parts.parts_view, Text.IsRepeated}

-- The text begins with `front`.
abbrev pub Begins : (front text : List ℕ) → Type 0
Begins front text = (rest : List ℕ) × (text ≡ front ++ rest)

begins_further : (front text rest : List ℕ) → Begins front text → Begins front (text ++ rest)
begins_further front text rest (more, e) = (more ++ rest, ap (λ t. t ++ rest) e ∙ append_assoc front more rest)

copy_begins : (options : OptionsView) (kind : PartType) (part : PartView) (text : List ℕ) → IsMatchedCopy options kind part text → Begins (copy_front kind part) text
copy_begins options PartType.FixedText part text is = ([], is ∙ sym (append-nil part.value))
copy_begins options PartType.Regexp part text (piece, e, is) = (piece ++ part.suffix, e ∙ append_assoc part.prefix piece part.suffix)
copy_begins options PartType.SegmentWildcard part text (piece, e, is) = (piece ++ part.suffix, e ∙ append_assoc part.prefix piece part.suffix)
copy_begins options PartType.FullWildcard part text (piece, e, is) = (piece ++ part.suffix, e ∙ append_assoc part.prefix piece part.suffix)

never_none : (modifier : PartModifier) → may_miss modifier ≡ false → ¬ Allows modifier 0
never_none PartModifier.None e allowed = absurd (omega (arith, allowed))
never_none PartModifier.OneOrMore e allowed = absurd (omega (arith, allowed))
never_none PartModifier.Optional e allowed = absurd cc
never_none PartModifier.ZeroOrMore e allowed = absurd cc

copies_begin : (options : OptionsView) (part : PartView) (count : ℕ) (text : List ℕ) → may_miss part.modifier ≡ false → Allows part.modifier count → IsRepeated (IsMatchedCopy options part.kind part) count text →
    Begins (copy_front part.kind part) text
copies_begin options part zero text misses allowed copies = absurd (never_none part.modifier misses allowed)
copies_begin options part (suc n) text misses allowed (first, rest, e, is, more) =
    let (left, begins) = begins_further (copy_front part.kind part) first rest (copy_begins options part.kind part first is) in
    (left, e ∙ begins)

part_begins : (options : OptionsView) (part : PartView) (text : List ℕ) (missing : Bool) → may_miss part.modifier ≡ missing → PartMatches options part text →
    Begins (if missing then [] else copy_front part.kind part) text
part_begins options part text true e is = (text, refl)
part_begins options part text false e (count, allowed, copies) = copies_begin options part count text e allowed copies

-- Where there is no front.
pub missing_front : (part : PartView) → may_miss part.modifier ≡ true → chars [] ≡ part_front part
missing_front part e = chars-nil ∙ sym (ap (λ (missing : Bool). if missing then [] else copy_front part.kind part) e)

pub none_first : (parts : List Part) → None ≡ slice_get parts 0 → chars [] ≡ front_of (parts_view parts)
none_first [] e = chars-nil
none_first (part ∷ parts) e = absurd cc

-- Each text that the parts match begins with their front.
parts_begin : (options : OptionsView) (parts : List PartView) (text : List ℕ) → PartsMatch options parts text → Begins (front_of parts) text
parts_begin options [] text is = (text, refl)
parts_begin options (part ∷ parts) text (first, rest, e, is, more) =
    let (left, begins) = begins_further (part_front part) first rest (part_begins options part first (may_miss part.modifier) refl is) in
    (left, e ∙ begins)

-- Of two texts with which one text begins, the one begins with the other.
pub either_begins : (one other rest more : List ℕ) → one ++ rest ≡ other ++ more → Begins other one ⊎ Begins one other
either_begins [] other rest more e = inr (other, refl)
either_begins (c ∷ one) [] rest more e = inl (c ∷ one, refl)
either_begins (c ∷ one) (d ∷ other) rest more e =
    let head : c ≡ d = cc in
    let tail : one ++ rest ≡ other ++ more = cc in
    elim (either_begins one other rest more tail) [
      | inl (left, f) ↦ inl (left, ap₂ (λ (x : ℕ) (l : List ℕ). x ∷ l) head f)
      | inr (left, f) ↦ inr (left, ap₂ (λ (x : ℕ) (l : List ℕ). x ∷ l) (sym head) f)
    ]

-- The bytes of a text that begins with another.
pub bytes_begin : (text front rest : List ℕ) → IsUtf8 text → IsUtf8 front → chars text ≡ chars front ++ rest → text ≡ front ++ encode_utf8_all rest
bytes_begin text front rest utf8 front_utf8 e =
    sym (encodes-chars text utf8) ∙ ap encode_utf8_all e ∙ encodes-append (chars front) rest ∙ ap (λ t. t ++ encode_utf8_all rest) (encodes-chars front front_utf8)

-- No text is matched by both, if neither front begins with the other.
pub none_both : (options other_options : OptionsView) (parts others : List PartView) (text : List ℕ) → ((rest more : List ℕ) → ¬ (front_of parts ++ rest ≡ front_of others ++ more)) →
    PartsMatch options parts text → ¬ PartsMatch other_options others text
none_both options other_options parts others text part is other =
    let (rest, e) = parts_begin options parts text is in
    let (more, f) = parts_begin other_options others text other in
    part rest more (sym e ∙ f)
