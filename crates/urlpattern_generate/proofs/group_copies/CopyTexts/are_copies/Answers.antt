use Rattle.std.proofs.Common.{ap, ◌∙◌, ◌++◌}
use Rattle.std.specs.Str.{chars}
use Rattle.urlpattern_generate.proofs.GroupLemmas.{copies_tested}
use Rattle.urlpattern_generate.proofs.group_copies.CopyTexts.are_copies.Goals as goal
use Rattle.urlpattern_generate.specs.CopySearch.{Allowed}
use Rattle.urlpattern_syntax.proofs.StringTexts.{text-append}
use Rattle.urlpattern_syntax.specs.{Parts.part_view, Text.text_of}

pub returns-in_ok-push_str-in-ZeroOrMore : goal.returns-in_ok-push_str-in-ZeroOrMore
returns-in_ok-push_str-in-ZeroOrMore c =
    copies_tested (Allowed c.args.self) (part_view c.args.part.now) (chars c.deref-in-ZeroOrMore-2.result.now) (chars c.args.text.now) c.are_some.result c.in-ZeroOrMore.is
    (ap chars c.deref-in-ZeroOrMore-2.ensures
    ∙ text-append c.in_ok-between-in-ZeroOrMore.between c.deref-in-ZeroOrMore.result.now c.in_ok-push_str-in-ZeroOrMore.ensures.bytes
    ∙ ap (λ b. text_of c.in_ok-between-in-ZeroOrMore.between ++ chars b) c.deref-in-ZeroOrMore.ensures
    ∙ ap (λ b. chars b ++ text_of c.args.part.now.prefix) (c.in_ok-between-in-ZeroOrMore.ensures.ok ∙ c.deref.ensures))
    c.are_some.ensures
