-- The names of a request's attributes.
use Rattle.std.specs.Bool.{beq}
use Rattle.std.specs.List.{AllZip, list_all, list_any}
use Rattle.std.specs.Prelude.{◌≡◌, ◌↔◌, ◌⊎◌, ◌&&◌, ◌==◌, ℕ, All, Bool, true, false, Contains, IsTrue, List, None, Option, Some, map, nat_le, option_map, slice_get, string_bytes, unwrap_or, String, Vec, if◌then◌else◌}
use Rattle.std.specs.Str.{bytes_eq}
use Rattle.std.specs.declared.alloc.Global.{Global}
use Rattle.urlpattern_route_analysis.specs.Cases.{LiteralView}
use Rattle.urlpattern_route_analysis.specs.Formulas.{AtomView, of_name, of_url}
use Rattle.urlpattern_route_analysis.specs.declared.names.Attribute.{Attribute}

-- The attribute may have the name: one of a list, or any.
abbrev pub IsNameOf : Attribute → (name : List ℕ) → Type 0
IsNameOf attribute name =
    IsTrue attribute.is_open ⊎ Contains (map (λ own. own.now) attribute.names.now) name

-- The names are one for each attribute, in order.
abbrev pub AreNamesOf : List Attribute → (names : List (List ℕ)) → Type 0
AreNamesOf attributes names = AllZip IsNameOf attributes names

-- The attribute has the name if the literal says so, and does not if it says that.
abbrev pub IsNamed : (names : List (List ℕ)) → LiteralView → Type 0
IsNamed names it =
    (attribute : ℕ) (name : List ℕ) → it.atom ≡ of_name attribute name
    → (it.holds ≡ true) ↔ (slice_get names attribute ≡ Some name)

-- The attributes have names as the literals say.
abbrev pub AreNamed : List LiteralView → (names : List (List ℕ)) → Type 0
AreNamed literals names = All (IsNamed names) literals

-- Whether the attribute has the name.
abbrev pub is_named : (names : List (List ℕ)) → (attribute : ℕ) → (name : List ℕ) → Bool
is_named names attribute name =
    unwrap_or (option_map (λ own. bytes_eq own name) (slice_get names attribute)) false

-- Whether each atom holds of a request with these names, by whether each pattern matches its URL.
abbrev pub is_so : (matches : ℕ → Bool) → (names : List (List ℕ)) → AtomView → Bool
is_so matches names (of_url pattern) = matches pattern
is_so matches names (of_name attribute name) = is_named names attribute name

-- ---- steps

-- Whether some literal says that an attribute past so many has a name.
abbrev pub lacks : (count : ℕ) → (holds : Bool) → AtomView → Bool
lacks count holds (of_name attribute name) = holds && nat_le count attribute
lacks count holds (of_url pattern) = false

abbrev pub some_lack : List LiteralView → (count : ℕ) → Bool
some_lack literals count = list_any (λ it. lacks count it.holds it.atom) literals

-- Whether the attribute may have the name, as the literals say.
abbrev pub allows_one : (index : ℕ) → (name : List ℕ) → (holds : Bool) → AtomView → Bool
allows_one index name holds (of_name own told) =
    if own == index then beq (bytes_eq told name) holds else true
allows_one index name holds (of_url pattern) = true

abbrev pub allows : List LiteralView → (index : ℕ) → (name : List ℕ) → Bool
allows literals index name = list_all (λ it. allows_one index name it.holds it.atom) literals

-- If the literals allow any name for the attribute, this is one. Names may be any text.
abbrev pub IsOther : List LiteralView → (index : ℕ) → (name : List ℕ) → Type 0
IsOther literals index name =
    (some : List ℕ) → IsTrue (allows literals index some) → IsTrue (allows literals index name)

-- A name that the attribute may have, as the literals say. None: there is none.
abbrev pub GivesName : List LiteralView → (index : ℕ) → Attribute → Option (String Global)
    → Type 0
GivesName literals index attribute (Some name) =
    IsNameOf attribute (string_bytes name) × IsTrue (allows literals index (string_bytes name))
GivesName literals index attribute None =
    (name : List ℕ) → IsNameOf attribute name → ¬ IsTrue (allows literals index name)

-- A name for each attribute, as the literals say. None: there are none.
abbrev pub GivesNames : List LiteralView → List Attribute → Option (Vec (String Global) Global)
    → Type 0
GivesNames literals attributes (Some names) =
    AreNamesOf attributes (map string_bytes names.items)
    × AreNamed literals (map string_bytes names.items)
GivesNames literals attributes None =
    (names : List (List ℕ)) → AreNamesOf attributes names → ¬ AreNamed literals names
