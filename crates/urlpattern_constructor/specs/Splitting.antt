-- Splitting a constructor string: its tokens, the tokens that may follow each section, and the
-- turns, that is, how often a token is examined.
use Rattle.std.specs.Prelude.{◌≡◌, ◌++◌, ℕ, ◌+◌, ◌-◌, ◌*◌, ◌<◌, ◌≤◌, ◌||◌, Bool, true, false, List, length, None, Option, Result, String, option_and_then, option_map, IfOk, IfSome, IsSomeAnd, IsTrue}
use Rattle.std.specs.declared.alloc.Global.{Global}
use Rattle.urlpattern_constructor.specs.Split.{NoAuthority, SplitTextView, SplitTexts, ends_at, is_ending, is_seen, is_slash_sign}
use Rattle.urlpattern_constructor.specs.declared.sections.{Position.Position, Section.Section}
use Rattle.urlpattern_constructor.specs.declared.tokens.Source.{Source}
use Rattle.urlpattern_constructor.specs.declared.components.Split.{Split}
use Rattle.urlpattern_constructor.specs.declared.tokens.SplitText.{SplitText}
use Rattle.urlpattern_syntax.specs.{Errors.OnlyOutOfMemory, Parsing.views}
use Rattle.urlpattern_syntax.specs.Tokens.{AreLenientTokens, TokenView}
use Rattle.urlpattern_syntax.specs.declared.error.Error.{Error}
use Rattle.urlpattern_components.specs.declared.eight.{ComponentName.ComponentName, Eight.Eight}
use Rattle.urlpattern_components.specs.Eight.{Values, at, each}
use Rattle.urlpattern_syntax.specs.Text.{byte_len, chars, text_of}

-- The constructor string of a source, as characters.
abbrev pub text_of_source : Source → List ℕ
text_of_source source = chars source.input.now

-- The tokens of a source, as clauses see them.
abbrev pub tokens_of : Source → List TokenView
tokens_of source = views source.tokens.now

-- The view of a `SplitText`.
abbrev pub split_text_view : SplitText → SplitTextView
split_text_view found = record { text = chars found.text.now; start = found.start }

-- The components of a split, as clauses see them.
abbrev pub split_texts : Split → SplitTexts
split_texts split = each (λ name. option_map split_text_view (at split.values name))

-- The texts of components, without where they begin.
abbrev pub values_of_split : SplitTexts → Values
values_of_split texts = each (λ name. option_map (λ found. found.text) (at texts name))

-- The byte at which a constructor string has the text of each component. None for a component that
-- is not present, or whose text is implied.
abbrev pub Starts : Type 0
Starts = Eight (Option ℕ)

-- Where the texts of components begin.
abbrev pub starts_of_split : SplitTexts → Starts
starts_of_split texts = each (λ name. option_and_then (λ found. found.start) (at texts name))

-- `text` has `part` at the byte `start`.
abbrev pub HasPartAt : (text part : List ℕ) → (start : ℕ) → Type 0
HasPartAt text part start =
    (before after : List ℕ) × (text ≡ before ++ part ++ after) × (start ≡ byte_len before)

-- `text` has each of the components at its byte of `starts`, if there is one.
abbrev pub HasComponentsAt : (text : List ℕ) → Values → Starts → Type 0
HasComponentsAt text components starts =
    (name : ComponentName)
    → IfSome (at starts name) (λ start.
    IsSomeAnd (at components name) (λ part. HasPartAt text part start))

-- The result is an owned copy of the component, None for None, or memory ran out.
pub record IsOwned (component : Option (List ℕ)) (result : Result (Option (String Global)) Error) :
    Type 0 where
  pub ok : IfOk result (λ owned. option_map text_of owned ≡ component)
  pub memory : OnlyOutOfMemory result

-- The tokens of the source are the lenient tokens of its text.
abbrev pub IsSource : Source → Type 0
IsSource source = AreLenientTokens (text_of_source source) (tokens_of source)

-- Whether the section may end before the token at `position`: one of its signs, where a colon
-- counts as outside of square brackets, or End.
abbrev pub may_end_before : Section → List TokenView → ℕ → Bool
may_end_before section tokens position =
    is_ending section true tokens position || ends_at tokens position

-- ---- turns

-- The number of turns so far and one turn more for each token from `index` on are at most twice the
-- number of tokens.
abbrev pub HasTurns : Source → (index turns : ℕ) → Type 0
HasTurns source index turns =
    turns + (length source.tokens.now - index) ≤ 2 * length source.tokens.now

-- A section may be read from the position on, which is that of a token: the depth is at most the
-- number of tokens, and the turns allow one more for each token from there on, within twice the
-- number of tokens.
pub record CanRead (source : Source) (position : Position) : Type 0 where
  pub within : position.index < length source.tokens.now
  pub shallow : position.depth ≤ length source.tokens.now
  pub turns : HasTurns source position.index position.turns

-- A section was read up to the position, which is that of a token that was examined: the turns
-- allow one more for each token after it, within twice the number of tokens.
pub record HasRead (source : Source) (position : Position) : Type 0 where
  pub within : position.index < length source.tokens.now
  pub turns : position.turns + (length source.tokens.now - position.index)
      ≤ 2 * length source.tokens.now + 1

-- If a slash is seen from `index` on, where `depth` groups are open, then `turns` allow one more
-- for each token from `index` on, within twice the number of tokens. A slash that ends a hostname
-- or a port is examined again, as it also begins the pathname.
abbrev pub HasTurnForSlash : Source → (index depth turns : ℕ) → Type 0
HasTurnForSlash source index depth turns =
    (other : ℕ) → index ≤ other → IsTrue (is_seen (tokens_of source) index depth other)
    → IsTrue (is_slash_sign (tokens_of source) other)
    → HasTurns source index turns

-- Whether the section is the hostname, in which square brackets are counted.
abbrev pub is_hostname : Section → Bool
is_hostname Section.Hostname = true
is_hostname section = false

-- The pathname and all components before it are None.
abbrev pub NoPathname : SplitTexts → Type 0
NoPathname components = NoAuthority components × (components.pathname ≡ None)

-- The search and all components before it are None.
abbrev pub NoSearch : SplitTexts → Type 0
NoSearch components = NoPathname components × (components.search ≡ None)
