use Rattle.std.proofs.Common.{◌≡◌, ◌-◌, map}
use Rattle.regex.specs.Strings.{captures_haystack, captures_span}
use Rattle.urlpattern_matcher.specs.Regexes.{group_texts}
use Rattle.urlpattern_syntax.specs.Text.{option_text}
use Rattle.urlpattern_matcher.proofs.regexp.rust.groups.Given as goal

abbrev pub invariant-loop-index : goal.invariant-loop-index
invariant-loop-index l =
    map option_text l.groups.items ≡ group_texts (captures_haystack l.captures) (l.index - 1) (captures_span l.captures)
