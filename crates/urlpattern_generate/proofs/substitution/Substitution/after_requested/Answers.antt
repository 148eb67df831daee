use Rattle.std.proofs.Common.{◌≡◌, ◌<◌, arith, length, rules}
use Rattle.urlpattern_generate.proofs.FoundCaptures.{asked_here, other_here}
use Rattle.urlpattern_generate.specs.WrittenTexts.{settings_of_writer}
use Rattle.urlpattern_syntax.specs.Parts.{part_view}
use Rattle.urlpattern_syntax.specs.declared.parser.PartType.TheVariants.{FixedText}
use Rattle.urlpattern_generate.proofs.substitution.Substitution.after_requested.Goals as goal

pub returns-then-branch-clause-next : goal.returns-then-branch-clause-next
returns-then-branch-clause-next c =
    let group : ¬ (c.args.part.now.kind ≡ FixedText) = search rules in
    let within : c.args.index < length c.args.found.now = omega arith in
    asked_here (settings_of_writer c.args.self.now) (part_view c.args.part.now) c.args.found.now c.args.index _ c.in_ok-is_requested.field-0 group within c.in_ok-is_requested.ensures c.if-branch.true

pub returns-else-branch-clause-next : goal.returns-else-branch-clause-next
returns-else-branch-clause-next c =
    let group : ¬ (c.args.part.now.kind ≡ FixedText) = search rules in
    let within : c.args.index < length c.args.found.now = omega arith in
    other_here (settings_of_writer c.args.self.now) (part_view c.args.part.now) c.args.found.now c.args.index _ c.in_ok-is_requested.field-0 group within c.in_ok-is_requested.ensures c.if-branch.false
