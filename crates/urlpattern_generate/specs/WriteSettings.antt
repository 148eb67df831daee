-- How the text of a component is written: the values of its groups, the options of its parts, and
-- canonical values.
use Rattle.std.specs.Prelude.{◌&&◌, ◌==◌, ℕ, Bool, false, List, [], ◌∷◌, bytes_eq, codes, map, slice_index, Option, Some, None, if◌then◌else◌}
use Rattle.std.specs.{Borrow.Bor, Str.chars}
use Rattle.url.specs.Ascii.{slash}
use Rattle.url.specs.Parser.{Parsed}
use Rattle.urlpattern_canonical.specs.Canonical.{canonical_hash, canonical_hostname, canonical_ipv6_hostname, canonical_opaque_pathname, canonical_password, canonical_pathname, canonical_port, canonical_protocol, canonical_search, canonical_username}
use Rattle.urlpattern_components.specs.declared.eight.ComponentName.{ComponentName}
use Rattle.urlpattern_components.specs.declared.eight.ComponentName.TheVariants.{Protocol, Username, Password, Hostname, Port, Pathname, Search, Hash}
use Rattle.urlpattern_components.specs.Eight.{name_text}
use Rattle.urlpattern_syntax.specs.declared.parser.PartType.{PartType}
use Rattle.urlpattern_syntax.specs.Options.{OptionsView}
use Rattle.urlpattern_syntax.specs.Parts.{PartView}
use Rattle.urlpattern_syntax.specs.Text.{begins_with}

-- ---- the values of groups

-- A value, `text`, for the group `name` of a component.
pub record GivenView : Type 0 where
  pub component : ComponentName
  pub name : List ℕ
  pub text : List ℕ

-- A value for a group, as it is passed in (`GivenGroup`), with name and text as characters.
abbrev pub given_view : (ComponentName × Bor (List ℕ) × Bor (List ℕ)) → GivenView
given_view given = record {
  component = given.0;
  name = chars given.1.now;
  text = chars given.2.now;
}

-- The values for groups, as they are passed in, with names and texts as characters.
abbrev pub given_groups : List (ComponentName × Bor (List ℕ) × Bor (List ℕ)) → List GivenView
given_groups groups = map given_view groups

-- Whether the value `given` is for the group `name` of the component.
abbrev pub is_given_for : ComponentName → (name : List ℕ) → GivenView → Bool
is_given_for component name given =
    bytes_eq (name_text given.component) (name_text component) && bytes_eq given.name name

-- The first of the values that is for the group `name` of the component. None: the group has no
-- value.
abbrev pub text_given : List GivenView → ComponentName → (name : List ℕ) → Option (List ℕ)
text_given [] component name = None
text_given (given ∷ others) component name =
    if is_given_for component name given then Some given.text else text_given others component name

-- ---- a component

-- How the text of a component is written: with the options of its parts, the canonical form of a
-- value, and the value of a group by its name, if it has one.
pub record WriteSettings : Type 0 where
  pub options : OptionsView
  pub canonical : List ℕ → Parsed (List ℕ)
  pub given : (name : List ℕ) → Option (List ℕ)

-- The canonical form of a value in the component. `hierarchical` is whether a pathname is a path of
-- segments rather than opaque, and `is_ipv6` whether a hostname is an IPv6 address.
abbrev pub canonical_for : ComponentName → (hierarchical is_ipv6 : Bool) → List ℕ → Parsed (List ℕ)
canonical_for Protocol hierarchical is_ipv6 text = canonical_protocol text
canonical_for Username hierarchical is_ipv6 text = canonical_username text
canonical_for Password hierarchical is_ipv6 text = canonical_password text
canonical_for Hostname hierarchical is_ipv6 text =
    if is_ipv6 then canonical_ipv6_hostname text else canonical_hostname text
canonical_for Port hierarchical is_ipv6 text = canonical_port None text
canonical_for Pathname hierarchical is_ipv6 text =
    if hierarchical then canonical_pathname text else canonical_opaque_pathname text
canonical_for Search hierarchical is_ipv6 text = canonical_search text
canonical_for Hash hierarchical is_ipv6 text = canonical_hash text

-- Whether the delimiter is a slash, as in a path of segments.
abbrev pub is_slash_delimiter : (delimiter : Option ℕ) → Bool
is_slash_delimiter None = false
is_slash_delimiter (Some c) = c == slash

-- The text that a part of this kind begins with: a fixed text, or the prefix of a group.
abbrev pub leading_text : PartType → PartView → List ℕ
leading_text PartType.FixedText part = part.value
leading_text kind part = part.prefix

-- Whether the first of the parts begins with `[`, as an IPv6 address does.
abbrev pub begins_ipv6 : List PartView → Bool
begins_ipv6 [] = false
begins_ipv6 (part ∷ parts) =
    begins_with (λ c. c == slice_index (codes "[") 0) (leading_text part.kind part)

-- Whether the component is a hostname, and its pattern begins as an IPv6 address does.
abbrev pub is_ipv6_host : ComponentName → List PartView → Bool
is_ipv6_host Hostname parts = begins_ipv6 parts
is_ipv6_host component parts = false

-- How the text of a component with these options and parts is written with the values `groups`.
abbrev pub settings_for : ComponentName → OptionsView → List PartView → List GivenView
    → WriteSettings
settings_for component options parts groups = record {
  options = options;
  canonical = canonical_for component (is_slash_delimiter options.delimiter) (begins_ipv6 parts);
  given = text_given groups component;
}
