-- Expressions that stand alone, and expressions that do not.
use Rattle.std.proofs.Common.{◌≡◌, true, false, codes, refl, inl}
use Rattle.std.specs.Str.{chars}
use lib.Utf8.{encode}
use Rattle.regex_hir.specs.Meaning.{repeat}
use Rattle.regex_hir.specs.Text.{char_at, has_bytes_at}
use Rattle.regex_syntax.specs.Brackets.{bracket, bracket_start, set_items, operations, operator, posix, item_or, set_item, member, single, range, unite, after_hyphen}
use Rattle.regex_syntax.specs.Grammar.{read, branches, items, item, atom, char_meaning, piece_meaning, join_parts, with_repetitions, repetitions, bounds, counted_bounds, upper_bound, names_below, opening, capture, set_flags}
use Rattle.regex_syntax.specs.Reading.{first, skip, take_up_to, take_run, decimal}
use Rattle.regex_syntax.specs.Sets.{verbatim, one_of, negate_if, case_fold, is_member}
use Rattle.regex_syntax.specs.Escapes.{escape, one_letter, boundary}
use Rattle.urlpattern_expressions.specs.Expressions.{ExpressionMatches, captures_nothing, captures_nothing_by, is_self_contained, is_self_contained_by}

choices : is_self_contained (codes "en|fr") ≡ true
unfolding is_self_contained_by read branches items item atom char_meaning join_parts with_repetitions repetitions first skip verbatim names_below char_at has_bytes_at chars encode
choices = refl

digits : is_self_contained (codes "\\d+") ≡ true
unfolding is_self_contained_by read branches items item atom piece_meaning join_parts with_repetitions repetitions bounds repeat first skip escape one_letter negate_if one_of names_below
digits = refl

counted : is_self_contained (codes "\\d{4}") ≡ true
unfolding is_self_contained_by read branches items item atom piece_meaning join_parts with_repetitions repetitions bounds repeat counted_bounds upper_bound decimal take_run take_up_to first skip escape one_letter negate_if one_of names_below
counted = refl

classes : is_self_contained (codes "[a-z0-9-]+") ≡ true
unfolding is_self_contained_by read branches items item atom join_parts with_repetitions repetitions bounds repeat first skip bracket bracket_start set_items operations operator posix item_or set_item member single range unite after_hyphen take_run take_up_to is_member negate_if case_fold one_of names_below
classes = refl

optional : is_self_contained (codes "png|jpe?g|webp") ≡ true
unfolding is_self_contained_by read branches items item atom char_meaning join_parts with_repetitions repetitions bounds repeat first skip verbatim names_below char_at has_bytes_at chars encode
optional = refl

-- An assertion looks at the text around the expression.
word_boundary : is_self_contained (codes "a\\b") ≡ false
unfolding is_self_contained_by read branches items item atom char_meaning piece_meaning join_parts with_repetitions repetitions first skip escape boundary verbatim names_below char_at has_bytes_at chars encode
word_boundary = refl

-- A comment would hide the closing parenthesis.
comment : is_self_contained (codes "(?x)a#b") ≡ false
unfolding is_self_contained_by
comment = refl

-- The parentheses of an expression by itself must match.
unpaired : is_self_contained (codes "a)(b") ≡ false
unfolding is_self_contained_by read branches items item atom char_meaning join_parts with_repetitions repetitions first skip verbatim
unpaired = refl

-- ---- captures

no_capture : captures_nothing (codes "(?:a|b)+") ≡ true
unfolding captures_nothing_by branches items item atom char_meaning join_parts with_repetitions repetitions bounds repeat first skip verbatim opening set_flags
no_capture = refl

captures : captures_nothing (codes "(a)") ≡ false
unfolding captures_nothing_by branches items item atom char_meaning join_parts with_repetitions repetitions first skip verbatim opening capture
captures = refl

-- The group is not in the pattern, but the next one has number 2.
never_taken : captures_nothing (codes "(a){0}b") ≡ false
unfolding captures_nothing_by branches items item atom char_meaning join_parts with_repetitions repetitions bounds counted_bounds upper_bound decimal take_run take_up_to repeat first skip verbatim opening capture
never_taken = refl

-- ---- texts

takes_choice : ExpressionMatches (codes "en|fr") (codes "en")
unfolding read branches items item atom char_meaning join_parts with_repetitions repetitions first skip verbatim names_below has_bytes_at encode
takes_choice = inl (1, (refl, refl), (2, (refl, refl), refl))
