-- Worked examples of regular expressions of parts.
use Rattle.std.proofs.Common.{◌≡◌, ℕ, List, [], ◌∷◌, map, refl}
use Rattle.std.specs.Prelude.{codes, slice_index, Some}
use Rattle.urlpattern_syntax.specs.declared.parser.PartModifier.{PartModifier}
use Rattle.urlpattern_syntax.specs.declared.parser.PartModifier.TheVariants as modifiers
use Rattle.urlpattern_syntax.specs.declared.parser.PartType.{PartType}
use Rattle.urlpattern_syntax.specs.declared.parser.PartType.TheVariants.{Regexp, SegmentWildcard, FullWildcard}
use Rattle.urlpattern_syntax.specs.declared.parser.RegexSyntax.TheVariants.{EcmaScript}
use Rattle.urlpattern_syntax.specs.Options.{OptionsView, default_options, hostname_options, pathname_options}
use Rattle.urlpattern_syntax.specs.Parts.{PartView, fixed_text}
use Rattle.urlpattern_syntax.specs.RegexpText.{escaped, escaped_regexp, segment_wildcard, part_regexp, regexp_text, group_names}

-- The options of a pathname in ECMAScript's syntax.
abbrev pub ecma_pathname_options : OptionsView
ecma_pathname_options = record pathname_options { syntax = EcmaScript }

-- ---- texts and segments

-- A dot is escaped, and a slash is not in Rust's syntax.
pub escaped_dot : escaped_regexp default_options (codes "a.b/c") ≡ codes "a\\.b/c"
unfolding escaped
escaped_dot = refl

-- A slash is escaped in ECMAScript's syntax.
pub escaped_slash : escaped_regexp ecma_pathname_options (codes "a.b/c") ≡ codes "a\\.b\\/c"
unfolding escaped
escaped_slash = refl

-- A segment without a delimiter is any text that is not empty.
pub default_segment : segment_wildcard default_options ≡ codes ".+?"
default_segment = refl

-- A dot is escaped in the class.
pub hostname_segment : segment_wildcard hostname_options ≡ codes "[^\\.]+?"
unfolding escaped
hostname_segment = refl

-- A slash is not escaped in Rust's syntax.
pub pathname_segment : segment_wildcard pathname_options ≡ codes "[^/]+?"
unfolding escaped
pathname_segment = refl

-- A slash is escaped in ECMAScript's syntax.
pub ecma_pathname_segment : segment_wildcard ecma_pathname_options ≡ codes "[^\\/]+?"
unfolding escaped
ecma_pathname_segment = refl

-- A delimiter that ends a class is escaped in it.
pub bracket_segment : segment_wildcard (record default_options { delimiter = Some (slice_index (codes "]") 0) }) ≡ codes "[^\\]]+?"
unfolding escaped
bracket_segment = refl

-- ---- lists of parts

-- A part with a group but without a value.
abbrev pub group : PartType → (prefix name suffix : List ℕ) → PartModifier → PartView
group kind prefix name suffix modifier =
    record { kind = kind; value = []; modifier = modifier; name = name; prefix = prefix; suffix = suffix }

-- The pattern `/users/:id`: a fixed text, and a segment with the slash as its prefix.
abbrev pub users_parts : List PartView
users_parts = fixed_text (codes "/users") modifiers.None ∷ group SegmentWildcard (codes "/") (codes "id") [] modifiers.None ∷ []

-- Parts, with their regular expression and names under options.
record Written : Type 0 where
  options : OptionsView
  parts : List PartView
  regexp : List ℕ
  names : List (List ℕ)

abbrev written : OptionsView → List PartView → (regexp : List ℕ) → (names : List (List ℕ)) → Written
written options parts regexp names = record { options = options; parts = parts; regexp = regexp; names = names }

abbrev examples : List Written
examples =
    written pathname_options users_parts (codes "^/users(?:/([^/]+?))$") (codes "id" ∷ [])
    -- The pattern `/users/:id` in ECMAScript's syntax, where each slash is escaped.
    ∷ written ecma_pathname_options users_parts (codes "^\\/users(?:\\/([^\\/]+?))$") (codes "id" ∷ [])
    -- The empty pattern: no parts, and a regular expression of the empty text alone.
    ∷ written default_options [] (codes "^$") []
    -- The pattern `{a}?b`: fixed texts have no capturing group.
    ∷ written default_options (fixed_text (codes "a") modifiers.Optional ∷ fixed_text (codes "b") modifiers.None ∷ [])
    (codes "^(?:a)?b$") []
    -- The pattern `/:x*`: any number of segments, of which the first slash is not captured.
    ∷ written pathname_options (group SegmentWildcard (codes "/") (codes "x") [] modifiers.ZeroOrMore ∷ [])
    (codes "^(?:/((?:[^/]+?)(?:/(?:[^/]+?))*))?$") (codes "x" ∷ [])
    -- The pattern `{a/:x/b}+`: between two copies are the suffix of the first and the prefix of the
    -- second.
    ∷ written pathname_options (group SegmentWildcard (codes "a/") (codes "x") (codes "/b") modifiers.OneOrMore ∷ [])
    (codes "^(?:a/((?:[^/]+?)(?:/ba/(?:[^/]+?))*)/b)$") (codes "x" ∷ [])
    -- The pattern `:x**`: the first asterisk is a modifier, the second a full wildcard.
    ∷ written default_options (group SegmentWildcard [] (codes "x") [] modifiers.ZeroOrMore ∷ group FullWildcard [] (codes "0") [] modifiers.None ∷ [])
    (codes "^((?:.+?)*)(.*)$") (codes "x" ∷ codes "0" ∷ [])
    -- The pattern `{:x\foo}`: a suffix alone encloses the group in parentheses.
    ∷ written default_options (group SegmentWildcard [] (codes "x") (codes "foo") modifiers.None ∷ [])
    (codes "^(?:(.+?)foo)$") (codes "x" ∷ [])
    -- The pattern `{a*b}+`: a full wildcard that is repeated.
    ∷ written default_options (group FullWildcard (codes "a") (codes "0") (codes "b") modifiers.OneOrMore ∷ [])
    (codes "^(?:a((?:.*)(?:ba(?:.*))*)b)$") (codes "0" ∷ [])
    -- The pattern `:a.:b` of a hostname: the dot between the segments is escaped.
    ∷ written hostname_options (group SegmentWildcard [] (codes "a") [] modifiers.None ∷ fixed_text (codes ".") modifiers.None ∷ group SegmentWildcard [] (codes "b") [] modifiers.None ∷ [])
    (codes "^([^\\.]+?)\\.([^\\.]+?)$") (codes "a" ∷ codes "b" ∷ [])
    -- The pattern `a\{:b(c)`: the body of a custom regular expression is unchanged, a fixed text is
    -- escaped.
    ∷ written default_options (fixed_text (codes "a{") modifiers.None ∷ record { kind = Regexp; value = codes "c"; modifier = modifiers.None; name = codes "b"; prefix = []; suffix = [] } ∷ [])
    (codes "^a\\{(c)$") (codes "b" ∷ [])
    ∷ []

regexps_are_right : map (λ (w : Written). regexp_text w.options w.parts) examples ≡ map (λ (w : Written). w.regexp) examples
unfolding escaped part_regexp
regexps_are_right = refl

names_are_right : map (λ (w : Written). group_names w.parts) examples ≡ map (λ (w : Written). w.names) examples
names_are_right = refl
