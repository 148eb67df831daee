-- Worked examples of groups in custom expressions.
use Rattle.std.proofs.Common.{◌≡◌, codes, false, refl, true}
use Rattle.std.specs.Str.{chars}
use lib.Utf8.{encode}
use Rattle.regex_hir.specs.Meaning.{repeat}
use Rattle.regex_hir.specs.Text.{char_at, has_bytes_at}
use Rattle.regex_syntax.specs.Brackets.{bracket, bracket_start, set_items, operations, operator, posix, item_or, set_item, member, single, range, unite, after_hyphen}
use Rattle.regex_syntax.specs.Grammar.{read, branches, items, item, atom, char_meaning, piece_meaning, join_parts, with_repetitions, repetitions, bounds, is_letter, is_name, is_number, names_below, named_group, opening, capture, set_flags}
use Rattle.regex_syntax.specs.Reading.{first, skip, take_up_to, take_run}
use Rattle.regex_syntax.specs.Sets.{verbatim, one_of, negate_if, case_fold, is_member}
use Rattle.regex_syntax.specs.Escapes.{escape, one_letter}
use Rattle.urlpat_explain.specs.Noted.{has_groups}

group_with_name : has_groups (codes "(?P<x>x)?y") ≡ true
unfolding has_groups read branches items item atom char_meaning join_parts with_repetitions repetitions bounds repeat first skip verbatim opening named_group take_run take_up_to is_name is_letter is_number capture names_below char_at has_bytes_at chars encode
group_with_name = refl

group_without_capture : has_groups (codes "(?:x)?y") ≡ false
unfolding has_groups read branches items item atom char_meaning join_parts with_repetitions repetitions bounds repeat first skip verbatim opening set_flags names_below char_at has_bytes_at chars encode
group_without_capture = refl

escaped_parenthesis : has_groups (codes "\\(\\?<x>") ≡ false
unfolding has_groups read branches items item atom char_meaning piece_meaning join_parts with_repetitions repetitions bounds repeat first skip verbatim escape one_letter names_below char_at has_bytes_at chars encode
escaped_parenthesis = refl

parenthesis_in_class : has_groups (codes "[(?<x>]y") ≡ false
unfolding has_groups read branches items item atom char_meaning piece_meaning join_parts with_repetitions repetitions bounds repeat first skip verbatim bracket bracket_start set_items operations operator posix item_or set_item member single range unite after_hyphen take_run take_up_to is_member negate_if case_fold one_of names_below char_at has_bytes_at chars encode
parenthesis_in_class = refl
