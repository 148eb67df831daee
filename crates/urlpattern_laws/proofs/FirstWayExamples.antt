-- Worked examples of the first way of parts, with custom expressions and where case is ignored.
use Rattle.std.proofs.Common.{◌≡◌, ℕ, List, [], ◌∷◌, true, Some, None, codes, refl}
use Rattle.std.specs.Str.{chars}
use lib.Utf8.{encode}
use Rattle.regex_hir.specs.Meaning.{repeat}
use Rattle.regex_hir.specs.Text.{char_at, has_bytes_at}
use Rattle.regex_syntax.specs.Grammar.{read, branches, items, item, atom, char_meaning, join_parts, with_repetitions, repetitions, bounds, names_below}
use Rattle.regex_syntax.specs.Reading.{first, skip}
use Rattle.regex_syntax.specs.Sets.{verbatim}
use Rattle.urlpattern_expressions.specs.PartWays.{parts_first_way, parts_first_way_by}
use Rattle.urlpattern_meaning.proofs.MatchingLaws.{part_of}
use Rattle.urlpattern_syntax.specs.Options.{default_options, pathname_options}
use Rattle.urlpattern_syntax.specs.Parts.{PartView}
use Rattle.urlpattern_syntax.specs.declared.parser.PartModifier.{PartModifier}
use Rattle.urlpattern_syntax.specs.declared.parser.PartModifier.TheVariants as modifiers
use Rattle.urlpattern_syntax.specs.declared.parser.PartType.TheVariants.{FixedText, Regexp, SegmentWildcard}

abbrev custom : PartModifier → List ℕ → PartView
custom modifier value = part_of Regexp modifier value (codes "0") [] []

-- The first branch is preferred, though the second matches more.
pub short_branch : parts_first_way default_options (custom modifiers.None (codes "a|ab") ∷ custom modifiers.None (codes "b|") ∷ []) (codes "ab") ≡ Some (Some (codes "a") ∷ Some (codes "b") ∷ [])
unfolding parts_first_way_by read branches items item atom char_meaning join_parts with_repetitions repetitions first skip verbatim names_below char_at has_bytes_at chars encode
short_branch = refl

pub long_branch : parts_first_way default_options (custom modifiers.None (codes "ab|a") ∷ custom modifiers.None (codes "b|") ∷ []) (codes "ab") ≡ Some (Some (codes "ab") ∷ Some [] ∷ [])
unfolding parts_first_way_by read branches items item atom char_meaning join_parts with_repetitions repetitions first skip verbatim names_below char_at has_bytes_at chars encode
long_branch = refl

-- A lazy loop matches as little as possible.
pub lazy_loop : parts_first_way default_options (custom modifiers.None (codes "a+?") ∷ custom modifiers.None (codes "a*") ∷ []) (codes "aa") ≡ Some (Some (codes "a") ∷ Some (codes "a") ∷ [])
unfolding parts_first_way_by read branches items item atom char_meaning join_parts with_repetitions repetitions bounds repeat first skip verbatim names_below char_at has_bytes_at chars encode
lazy_loop = refl

pub greedy_loop : parts_first_way default_options (custom modifiers.None (codes "a+") ∷ custom modifiers.None (codes "a*") ∷ []) (codes "aa") ≡ Some (Some (codes "aa") ∷ Some [] ∷ [])
unfolding parts_first_way_by read branches items item atom char_meaning join_parts with_repetitions repetitions bounds repeat first skip verbatim names_below char_at has_bytes_at chars encode
greedy_loop = refl

-- A branch is given up if nothing matches the rest.
pub later_branch : parts_first_way default_options (custom modifiers.None (codes "a|ab") ∷ []) (codes "ab") ≡ Some (Some (codes "ab") ∷ [])
unfolding parts_first_way_by read branches items item atom char_meaning join_parts with_repetitions repetitions first skip verbatim names_below char_at has_bytes_at chars encode
later_branch = refl

-- Copies between slashes are a single capture.
pub copies : parts_first_way pathname_options (part_of Regexp modifiers.OneOrMore (codes "a|b") (codes "x") (codes "/") [] ∷ []) (codes "/a/b") ≡ Some (Some (codes "a/b") ∷ [])
unfolding parts_first_way_by read branches items item atom char_meaning join_parts with_repetitions repetitions first skip verbatim names_below char_at has_bytes_at chars encode
copies = refl

pub no_way : parts_first_way default_options (custom modifiers.None (codes "a|b") ∷ []) (codes "c") ≡ None
unfolding parts_first_way_by read branches items item atom char_meaning join_parts with_repetitions repetitions first skip verbatim names_below char_at has_bytes_at chars encode
no_way = refl

-- ---- where case is ignored

-- A fixed text `a` and a name.
abbrev letter_and_name : List PartView
letter_and_name = part_of FixedText modifiers.None (codes "a") [] [] [] ∷ part_of SegmentWildcard modifiers.None [] (codes "x") [] [] ∷ []

pub second_letter_captured : parts_first_way_by true default_options letter_and_name (codes "aA") ≡ Some (Some (codes "A") ∷ [])
unfolding parts_first_way_by
second_letter_captured = refl

pub either_case : parts_first_way_by true default_options letter_and_name (codes "Ab") ≡ Some (Some (codes "b") ∷ [])
unfolding parts_first_way_by
either_case = refl

pub case_kept : parts_first_way default_options letter_and_name (codes "Ab") ≡ None
unfolding parts_first_way_by
case_kept = refl

-- Letters outside of ASCII are compared as they are.
pub outside_of_ascii : parts_first_way_by true default_options (part_of FixedText modifiers.None (0xC9 ∷ []) [] [] [] ∷ []) (0xE9 ∷ []) ≡ None
unfolding parts_first_way_by
outside_of_ascii = refl
