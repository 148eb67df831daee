-- What contracts see of a `KeptText`.
use Rattle.std.specs.Prelude.{◌≡◌, ℕ, true, List, String, string_bytes}
use Rattle.std.specs.Coded.{Coded, Coded-set, coded_bool, coded_list, coded_ℕ}
use Rattle.std.specs.Global.{Global}
use Rattle.std.proofs.lemmas.Str.{IsUtf8-string_bytes, scalars-chars}
use Rattle.urlpattern_syntax.specs.Text.{text_of}
use base.Stored.{coded_via}
use lib.Utf8.{scalars}
use mathlib.Core.HLevel.{is_prop→PathP}

-- The characters of a text, each of which is one of Unicode.
pub record Characters : Type 0 where
  pub characters : List ℕ
  pub are_scalars : scalars characters ≡ true

-- The characters of `text`.
abbrev pub characters_of : String Global → Characters
characters_of text = record {
  characters = text_of text;
  are_scalars = scalars-chars (string_bytes text) (IsUtf8-string_bytes text);
}

-- Texts with the same characters are equal.
pub same_characters : (one other : Characters) → one.characters ≡ other.characters → one ≡ other
same_characters one other same = λ i. record {
  characters = same i;
  are_scalars = is_prop→PathP (λ j. scalars (same j) ≡ true)
      (λ j. Coded-set coded_bool (scalars (same j)) true) one.are_scalars other.are_scalars i;
}

-- A text is coded by its characters.
abbrev pub characters_code : Coded Characters
characters_code = coded_via (coded_list coded_ℕ) (λ text. text.characters) same_characters
