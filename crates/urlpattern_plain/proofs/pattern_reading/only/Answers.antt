use Rattle.std.proofs.Common.{sym, ◌∙◌}
use Rattle.urlpattern_plain.proofs.ItemLemmas.{only_one, only_two}
use Rattle.urlpattern_plain.proofs.pattern_reading.only.Goals as goal

pub returns-in-Some : goal.returns-in-Some
returns-in-Some c =
    only_two c.args.text.now c.next.new.self.rest.now c.next-2.new.self.rest.now c.in_ok-first.first c.in-Some.field-0 c.utf8.text
    (sym c.chars-characters.ensures.rest ∙ c.in_ok-first.ensures.steps.0) c.in-Some.ensures.steps.0

pub returns-in-None : goal.returns-in-None
returns-in-None c =
    only_one c.args.text.now c.next.new.self.rest.now c.in_ok-first.first c.utf8.text
    (sym c.chars-characters.ensures.rest ∙ c.in_ok-first.ensures.steps.0) c.in-None.ensures.steps.0.0
