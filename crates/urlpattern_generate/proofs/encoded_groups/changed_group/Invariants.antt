use Rattle.std.proofs.Common.{All, take}
use Rattle.urlpattern_generate.specs.EncodedGroups.{KeepsValue}
use Rattle.urlpattern_generate.specs.WrittenTexts.{settings_of_writer}
use Rattle.urlpattern_syntax.specs.Text.{text_of}
use Rattle.urlpattern_generate.proofs.encoded_groups.changed_group.Given as goal

-- No value of the groups so far is changed.
abbrev pub invariant-loop-name : goal.invariant-loop-name
invariant-loop-name l = All (λ name. KeepsValue (settings_of_writer l.writer) (text_of name)) (take l.name-index l.names)
