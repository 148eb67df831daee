-- Worked examples of printed patterns.
use Rattle.std.proofs.Common.{◌≡◌, ℕ, List, [], ◌∷◌, refl}
use Rattle.std.specs.Prelude.{codes}
use Rattle.urlpattern_syntax.specs.declared.parser.PartModifier.TheVariants as modifiers
use Rattle.urlpattern_syntax.specs.declared.parser.PartType.TheVariants.{Regexp, SegmentWildcard, FullWildcard}
use Rattle.urlpattern_syntax.specs.Options.{default_options, pathname_options}
use Rattle.urlpattern_syntax.specs.Parts.{PartView, fixed_text}
use Rattle.urlpattern_meaning.specs.Printing.{escaped_pattern, joined, printed, printed_part}
use Rattle.urlpattern_syntax.specs.RegexpText.{escaped}
use Rattle.urlpattern_syntax.proofs.RegexpTextExamples.{group}
use Rattle.urlpattern_syntax.proofs.TokenExamples.{literals}

-- `unfolding printing` lets `refl` compute a printed pattern.
unfoldable pub printing : Unit {0}
unfolding literals escaped printed_part
printing = tt

abbrev pub segment : (prefix name suffix : List ℕ) → PartView
segment prefix name suffix = group SegmentWildcard prefix name suffix modifiers.None

abbrev pub wildcard : (name : List ℕ) → PartView
wildcard name = group FullWildcard [] name [] modifiers.None

abbrev pub plain : List ℕ → PartView
plain text = fixed_text text modifiers.None

-- The backslash of a pattern is escaped too.
pub escaped_mark : escaped_pattern (codes "a{b\\") ≡ codes "a\\{b\\\\"
unfolding printing
escaped_mark = refl

-- A bracket after a name would be the name's.
pub wild : printed default_options (segment [] (codes "x") [] ∷ wildcard (codes "0") ∷ []) ≡ codes "{:x}(.*)"
unfolding printing
wild = refl

-- A slash before a name would be its prefix.
pub slash : printed pathname_options (plain (codes "/") ∷ segment [] (codes "x") [] ∷ []) ≡ codes "/{:x}"
unfolding printing
slash = refl

-- A letter after a name would be part of it, between braces too.
pub suffixed : printed default_options (segment [] (codes "x") (codes "foo") ∷ []) ≡ codes "{:x\\foo}"
unfolding printing
suffixed = refl

pub followed : printed default_options (segment [] (codes "x") [] ∷ plain (codes "foo") ∷ []) ≡ codes "{:x}foo"
unfolding printing
followed = refl

-- Braces round the name though a brace is before it.
pub braced_slash : printed pathname_options (fixed_text (codes "/") modifiers.Optional ∷ segment [] (codes "x") [] ∷ []) ≡ codes "{/}?{:x}"
unfolding printing
braced_slash = refl

-- No braces round the prefix code point and a name, where a modifier is after them.
pub prefixed : printed pathname_options (plain (codes "/a") ∷ group SegmentWildcard (codes "/") (codes "x") [] modifiers.Optional ∷ plain (codes "b") ∷ []) ≡ codes "/a/:x?b"
unfolding printing
prefixed = refl

-- A longer prefix.
pub long_prefix : printed pathname_options (segment (codes "a/") (codes "x") [] ∷ []) ≡ codes "{a/:x}"
unfolding printing
long_prefix = refl

-- A suffix that is escaped.
pub escaped_suffix : printed default_options (segment [] (codes "x") (codes ":") ∷ []) ≡ codes "{:x\\:}"
unfolding printing
escaped_suffix = refl

-- Two names.
pub names : printed default_options (segment [] (codes "x") [] ∷ segment [] (codes "y") [] ∷ []) ≡ codes ":x:y"
unfolding printing
names = refl

-- A segment without a name.
pub number : printed pathname_options (segment [] (codes "0") [] ∷ []) ≡ codes "([^/]+?)"
unfolding printing
number = refl

-- An asterisk after an asterisk would be its modifier.
pub wildcards : printed default_options (wildcard (codes "0") ∷ wildcard (codes "1") ∷ []) ≡ codes "*(.*)"
unfolding printing
wildcards = refl

-- A custom regular expression is printed unchanged.
pub custom : printed default_options (record (group Regexp [] (codes "0") [] modifiers.None) { value = codes "a+" } ∷ []) ≡ codes "(a+)"
unfolding printing
custom = refl

-- ---- joined lists

-- The parts of `a{}?b` are one when they are printed and read again.
pub apart_joined : joined (plain (codes "a") ∷ plain (codes "b") ∷ []) ≡ plain (codes "ab") ∷ []
apart_joined = refl

pub apart_printed : printed default_options (plain (codes "a") ∷ plain (codes "b") ∷ []) ≡ codes "ab"
unfolding printing
apart_printed = refl

-- A modifier keeps texts apart.
pub modified_joined : joined (plain (codes "a") ∷ fixed_text (codes "b") modifiers.Optional ∷ plain (codes "c") ∷ []) ≡ plain (codes "a") ∷ fixed_text (codes "b") modifiers.Optional ∷ plain (codes "c") ∷ []
modified_joined = refl
