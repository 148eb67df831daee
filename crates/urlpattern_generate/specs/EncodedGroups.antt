-- Values of groups that are percent-encoded before a text is written with them, and whether what
-- is written still decodes to them.
use Rattle.std.specs.Prelude.{◌≡◌, ◌≢◌, ◌++◌, ◌∷◌, All, ℕ, List, None, Option, Some, map, Ok}
use Rattle.std.specs.{Borrow.Bor, Str.chars}
use Rattle.std.specs.declared.alloc.Global.{Global}
use Rattle.std.specs.declared.borrow.CowStr.{CowStr}
use Rattle.urlpattern_components.specs.declared.eight.ComponentName.{ComponentName}
use Rattle.urlpattern_generate.specs.WriteSettings.{GivenView, WriteSettings}
use Rattle.urlpattern_generate.specs.WrittenTexts.{cow_text}
use Rattle.urlpattern_values.specs.EncodedValues.{DecodesTo, decoded_bytes, encoded}

-- ---- encoded values

-- The value, with its text percent-encoded.
abbrev pub encoded_group : GivenView → GivenView
encoded_group given = record {
  component = given.component;
  name = given.name;
  text = encoded given.text;
}

-- The values, each with its text percent-encoded.
abbrev pub encoded_groups : List GivenView → List GivenView
encoded_groups groups = map encoded_group groups

-- The text of the value, percent-encoded and then decoded, is the text.
abbrev pub IsDecodedBack : GivenView → Type 0
IsDecodedBack given = DecodesTo (encoded given.text) given.text

-- The view of a value whose text is borrowed or owned.
abbrev pub cow_group : ComponentName × Bor (List ℕ) × CowStr Global → GivenView
cow_group given = record {
  component = given.0;
  name = chars given.1.now;
  text = cow_text given.2;
}

-- ---- values that are changed

-- The canonical form of the text decodes to the bytes to which the text decodes.
abbrev pub KeepsText : WriteSettings → (text : List ℕ) → Type 0
KeepsText settings text =
    (form : List ℕ) × (settings.canonical text ≡ Ok form)
    × (decoded_bytes form ≡ decoded_bytes text)

-- The canonical form of the text decodes to other bytes than the text does, as in a hostname, where
-- percent-encoding has no place.
abbrev pub ChangesText : WriteSettings → (text : List ℕ) → Type 0
ChangesText settings text =
    (form : List ℕ) × (settings.canonical text ≡ Ok form)
    × (decoded_bytes form ≢ decoded_bytes text)

-- If the group of this name has a value, the canonical form of the value decodes as the value does.
abbrev pub KeepsValue : WriteSettings → (name : List ℕ) → Type 0
KeepsValue settings name =
    (text : List ℕ) → settings.given name ≡ Some text → KeepsText settings text

-- The group of this name has a value whose canonical form decodes otherwise than the value does.
abbrev pub ChangesValue : WriteSettings → (name : List ℕ) → Type 0
ChangesValue settings name =
    (text : List ℕ) × (settings.given name ≡ Some text) × ChangesText settings text

-- The name is the first of `names` whose group has a value that is changed. None: no value of the
-- groups `names` is changed.
abbrev pub IsChanged : WriteSettings → (names : List (List ℕ)) → Option (List ℕ) → Type 0
IsChanged settings names None = All (KeepsValue settings) names
IsChanged settings names (Some name) =
    (before after : List (List ℕ)) × (names ≡ before ++ name ∷ after)
    × All (KeepsValue settings) before
    × ChangesValue settings name
