-- Lemmas on reading item by item.
use Rattle.std.proofs.Common.{◌≡◌, ℕ, ◌+◌, List, [], ◌∷◌, ◌++◌, length, Option, None, Some, refl, ap, ◌∙◌}
use Rattle.std.proofs.lemmas.List.{nil_from_length}
use Rattle.std.proofs.lemmas.Str.{IsUtf8-past_char, chars-nil, chars_past_char}
use Rattle.std.specs.Char.{encode_utf8}
use Rattle.std.specs.Str.{IsUtf8, chars}
use Rattle.urlpattern_plain.specs.PatternJson.{only}

-- The texts read so far, and those of the items left.
abbrev pub with_prefix : List (List ℕ) → Option (List (List ℕ)) → Option (List (List ℕ))
with_prefix front None = None
with_prefix front (Some rest) = Some (front ++ rest)

-- ---- characters

pub only_two : (text rest more : List ℕ) (first second : ℕ) → IsUtf8 text → text ≡ encode_utf8 first ++ rest → rest ≡ encode_utf8 second ++ more → None ≡ only (chars text)
only_two text rest more first second utf8 at_first at_second =
    let one : chars text ≡ first ∷ chars rest = chars_past_char text rest first utf8 at_first in
    let two : chars rest ≡ second ∷ chars more = chars_past_char rest more second (IsUtf8-past_char text rest first utf8 at_first) at_second in
    rw (one, two) refl

pub only_one : (text rest : List ℕ) (first : ℕ) → IsUtf8 text → text ≡ encode_utf8 first ++ rest → length rest ≡ 0 → Some first ≡ only (chars text)
only_one text rest first utf8 at_first ended =
    let one : chars text ≡ first ∷ chars rest = chars_past_char text rest first utf8 at_first in
    let none : chars rest ≡ [] = ap chars (nil_from_length rest ended) ∙ chars-nil in
    rw (one, none) refl
