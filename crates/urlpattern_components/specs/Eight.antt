-- The eight components of a URL, and a value for each of them.
use Rattle.std.specs.Prelude.{◌≡◌, ◌≢◌, All, ℕ, List, [], ◌∷◌, ◌++◌, codes, map, MatchOption, Option, Result, Ok, Err}
pub use Rattle.urlpattern_components.specs.declared.eight.ComponentName.{ComponentName}
pub use Rattle.urlpattern_components.specs.declared.eight.Eight.{Eight}
use Rattle.urlpattern_components.specs.declared.eight.ComponentName.TheVariants.{Protocol, Username, Password, Hostname, Port, Pathname, Search, Hash}

-- The components in the order of the standard.
abbrev pub components : List ComponentName
components = Protocol ∷ Username ∷ Password ∷ Hostname ∷ Port ∷ Pathname ∷ Search ∷ Hash ∷ []

-- The name of a component in lower case.
abbrev pub name_text : ComponentName → List ℕ
name_text Protocol = codes "protocol"
name_text Username = codes "username"
name_text Password = codes "password"
name_text Hostname = codes "hostname"
name_text Port = codes "port"
name_text Pathname = codes "pathname"
name_text Search = codes "search"
name_text Hash = codes "hash"

-- `found` is the component with the name `text`, or None where no component has this name.
abbrev pub NamesComponent : (text : List ℕ) → Option ComponentName → Type 0
NamesComponent text found =
    MatchOption found ((component : ComponentName) → text ≢ name_text component) (λ component.
    text ≡ name_text component)

-- The value that an `Eight` has for a component.
abbrev pub at : {A : Type 0} → Eight A → ComponentName → A
at values Protocol = values.protocol
at values Username = values.username
at values Password = values.password
at values Hostname = values.hostname
at values Port = values.port
at values Pathname = values.pathname
at values Search = values.search
at values Hash = values.hash

-- The values of the components `names`, in this order, each after the name of its component.
abbrev pub named_values : {A : Type 0} → Eight A → List ComponentName → List (ComponentName × A)
named_values values names = map (λ name. (name, at values name)) names

-- The `Eight` in which the value of each component is what `value` returns for its name.
abbrev pub each : {A : Type 0} → (ComponentName → A) → Eight A
each value = record {
  protocol = value Protocol;
  username = value Username;
  password = value Password;
  hostname = value Hostname;
  port = value Port;
  pathname = value Pathname;
  search = value Search;
  hash = value Hash;
}

-- A text for each component.
abbrev pub Texts : Type 0
Texts = Eight (List ℕ)

-- A text for each component, or None for a component that is not present.
abbrev pub Values : Type 0
Values = Eight (Option (List ℕ))

-- Calls for the components, one after the other, may stop with `error`, where `Answers` relates
-- each component to the possible results of its call: one component may have the error, and each
-- component before that one a value.
abbrev pub IsFirstError : {A E : Type 0} → (Answers : ComponentName → Result A E → Type 0) → E
    → Type 0
IsFirstError {A} Answers error =
    (before after : List ComponentName) × (name : ComponentName)
    × (components ≡ before ++ name ∷ after)
    × All (λ earlier. (value : A) × Answers earlier (Ok value)) before
    × Answers name (Err error)
