use Rattle.std.proofs.Common.{◌≡◌, drop}
use Rattle.std.specs.Str.{chars}
use Rattle.urlpattern_generate.specs.WriteSettings.{given_groups, text_given}
use Rattle.urlpattern_generate.proofs.given_groups.given_text.Given as goal

-- None of the groups so far is the one.
abbrev pub invariant-loop-given : goal.invariant-loop-given
invariant-loop-given l = text_given (given_groups (drop l.given-index l.groups)) l.component (chars l.name) ≡ text_given (given_groups l.groups) l.component (chars l.name)
