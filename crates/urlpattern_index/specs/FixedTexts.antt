-- The fixed texts of the inputs that a pattern matches, and the texts of an input.
use Rattle.std.specs.Prelude.{◌≡◌, ℕ, List, Option, None, Some, chars, option_map}
use Rattle.urlpattern_index.specs.Paths.{FitsPath, PathView}
use Rattle.urlpattern_index.specs.declared.fixed.{Address.Address, Fixed.Fixed, KnownPath.KnownPath}
use Rattle.urlpattern_syntax.specs.Parts.{parts_view}

-- What is known of each input that a pattern matches: the protocol and the hostname, None if they
-- are not fixed, and what is known of the pathname.
pub record FixedTexts : Type 0 where
  pub protocol : Option (List ℕ)
  pub hostname : Option (List ℕ)
  pub pathname : PathView

-- The texts of an input by which patterns are looked up.
pub record AddressTexts : Type 0 where
  pub protocol : List ℕ
  pub hostname : List ℕ
  pub pathname : List ℕ

-- `given` is the fixed text; for None it may be any text.
abbrev pub IsText : Option (List ℕ) → List ℕ → Type 0
IsText (Some text) given = given ≡ text
IsText None given = Unit {0}

-- The address has the fixed texts: its protocol and hostname are the fixed ones, where there are
-- some, and its pathname fits what is known of it.
pub record HasTexts (fixed : FixedTexts) (address : AddressTexts) : Type 0 where
  pub protocol : IsText fixed.protocol address.protocol
  pub hostname : IsText fixed.hostname address.hostname
  pub pathname : FitsPath fixed.pathname address.pathname

-- A `KnownPath`, with the views of its parts.
abbrev pub path_view : KnownPath → PathView
path_view path = record {
  parts = parts_view path.parts.now;
  delimiter = path.delimiter;
  is_exact = path.is_exact;
}

-- A `Fixed`, with its texts as lists of characters.
abbrev pub fixed_texts : Fixed → FixedTexts
fixed_texts fixed = record {
  protocol = option_map (λ text. chars text.now) fixed.protocol;
  hostname = option_map (λ text. chars text.now) fixed.hostname;
  pathname = path_view fixed.pathname;
}

-- An `Address`, with its texts as lists of characters.
abbrev pub address_texts : Address → AddressTexts
address_texts address = record {
  protocol = chars address.protocol.now;
  hostname = chars address.hostname.now;
  pathname = chars address.pathname.now;
}
