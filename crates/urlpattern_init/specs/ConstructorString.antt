-- The outcomes of parsing a constructor string.
use Rattle.std.specs.Prelude.{◌≡◌, ℕ, ◌*◌, ◌≤◌, ◌⊎◌, Bool, true, false, List, Option, None, length}
use Rattle.url.specs.declared.Url.{Url}
use Rattle.urlpattern_init.specs.SpecialProtocol.{RejectsProtocol}
use Rattle.urlpattern_constructor.specs.Split.{HasProtocol, IsSplit, LacksProtocol, SplitTexts}
use Rattle.urlpattern_constructor.specs.Splitting.{Starts, split_texts, starts_of_split, text_of_source, tokens_of, values_of_split}
use Rattle.urlpattern_constructor.specs.declared.{components.Split.Split, tokens.Source.Source}
use Rattle.urlpattern_init.specs.declared.init.UrlPatternInit.{UrlPatternInit}
use Rattle.urlpattern_components.specs.Eight.{Values}
use Rattle.urlpattern_syntax.specs.Errors.{ErrorView}
use Rattle.urlpattern_syntax.specs.Tokens.{AreLenientTokens, TokenView}

-- `text` is split into `texts` by its lenient tokens. `IsSpecial` relates the text of a protocol to
-- whether it is special.
abbrev pub SplitsIntoTexts : (IsSpecial : List ℕ → Bool → Type 0) → (text : List ℕ) → SplitTexts
    → Type 0
SplitsIntoTexts IsSpecial text texts =
    (tokens : List TokenView) × AreLenientTokens text tokens × IsSplit IsSpecial text tokens texts

-- `text` is split into `components`, and has them at `starts`.
abbrev pub SplitsAt : (IsSpecial : List ℕ → Bool → Type 0) → (text : List ℕ) → Values → Starts
    → Type 0
SplitsAt IsSpecial text components starts =
    (texts : SplitTexts) × SplitsIntoTexts IsSpecial text texts
    × (values_of_split texts ≡ components)
    × (starts_of_split texts ≡ starts)

-- `text` is split into `components`.
abbrev pub SplitsInto : (IsSpecial : List ℕ → Bool → Type 0) → (text : List ℕ) → Values → Type 0
SplitsInto IsSpecial text components =
    (starts : Starts) × SplitsAt IsSpecial text components starts

-- The text of `source` is split into the components of `split` by the tokens of `source`.
-- `IsSpecial` relates the text of a protocol to whether it is special.
abbrev pub IsSplitOf : (IsSpecial : List ℕ → Bool → Type 0) → Source → Split → Type 0
IsSplitOf IsSpecial source split =
    IsSplit IsSpecial (text_of_source source) (tokens_of source) (split_texts split)

-- `text` is split into `texts` if its protocol, where it has one, counts as special exactly if
-- `special` is true.
abbrev pub SplitsAs : (text : List ℕ) → (special : Bool) → SplitTexts → Type 0
SplitsAs text special texts = SplitsIntoTexts (λ protocol answer. answer ≡ special) text texts

-- `turns`, the number of looks at a token, is at most twice the number of lenient tokens of `text`.
abbrev pub AreFewTurns : (text : List ℕ) → (turns : ℕ) → Type 0
AreFewTurns text turns =
    (tokens : List TokenView) × AreLenientTokens text tokens × (turns ≤ 2 * length tokens)

-- The constructor string `text` is rejected with `error`: with the error of its protocol's pattern,
-- or with `BaseUrlRequired` if it has no protocol and `base_url` is None.
abbrev pub RejectsString : (text : List ℕ) → (base_url : Option Url) → ErrorView → Type 0
RejectsString text base_url error =
    HasProtocol text (λ protocol. RejectsProtocol protocol.text error)
    ⊎ (LacksProtocol text × (base_url ≡ None) × (error ≡ ErrorView.BaseUrlRequired))

-- The init has a protocol or a base URL.
abbrev pub HasProtocolOrBase : UrlPatternInit → Type 0
HasProtocolOrBase init = ¬ ((init.protocol ≡ None) × (init.base_url ≡ None))

-- ---- uniqueness of splits

-- Two splits of a text are equal, unless `IsSpecial` relates its protocol both to true and to
-- false.
abbrev pub SplitsAreOneUnlessAmbiguous : (IsSpecial : List ℕ → Bool → Type 0) → Type 0
SplitsAreOneUnlessAmbiguous IsSpecial = (text : List ℕ) (texts others : SplitTexts) →
    SplitsIntoTexts IsSpecial text texts → SplitsIntoTexts IsSpecial text others →
    (texts ≡ others)
    ⊎ HasProtocol text (λ protocol. IsSpecial protocol.text true × IsSpecial protocol.text false)
