-- What the search for the copies in a capture finds.
use Rattle.std.specs.Prelude.{◌≡◌, ◌<◌, ℕ, Bool, List, ◌∷◌, ◌++◌, length, IsTrue}
use Rattle.std.specs.Str.{chars}
use Rattle.urlpattern_generate.specs.Links.{AreTextsWith}
use Rattle.urlpattern_generate.specs.declared.group_copies.CopyTexts.{CopyTexts}
use Rattle.urlpattern_meaning.specs.Matching.{MayBeEmpty}
use Rattle.urlpattern_syntax.specs.Text.{lacks}

-- The text lacks the character `mark`, and is not empty unless `may_be_empty`.
abbrev pub IsTextWithout : (mark : ℕ) → (may_be_empty : Bool) → List ℕ → Type 0
IsTextWithout mark may_be_empty text = MayBeEmpty may_be_empty text × IsTrue (lacks mark text)

-- The text is among `texts`, those that a single copy of a wildcard may capture.
abbrev pub Allowed : CopyTexts → List ℕ → Type 0
Allowed texts text = IsTextWithout texts.mark texts.may_be_empty text

-- The text consists of one or more texts for which `Is` holds, joined by `between`.
abbrev pub AreSomeWith : (Is : List ℕ → Type 0) → (between text : List ℕ) → Type 0
AreSomeWith Is between text = (n : ℕ) × AreTextsWith Is between n text

-- `text` is split at the first occurrence of the character `mark`: `front` is before it, `behind`
-- after it. All three are bytes.
pub record IsCutAtFirst (mark : ℕ) (text front behind : List ℕ) : Type 0 where
  pub cut : chars text ≡ chars front ++ mark ∷ chars behind
  pub is_first : IsTrue (lacks mark (chars front))
  pub is_shorter : length behind < length text
