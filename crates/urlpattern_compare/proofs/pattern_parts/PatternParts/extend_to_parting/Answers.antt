use Rattle.std.proofs.Common.{◌∙◌, Some, ap}
use Rattle.urlpattern_compare.proofs.PatternPartLemmas.{parted}
use Rattle.urlpattern_components.specs.Eight.{at}
use Rattle.urlpattern_compare.proofs.pattern_parts.PatternParts.extend_to_parting.Goals as goal

pub returns-in-Ok : goal.returns-in-Ok
returns-in-Ok c =
    let name = c.args.component in
    let texts = c.in-Ok.texts in
    record {
      parted = parted (at c.args.self.now.components name) (at c.args.asked.now.components name) (at texts name) c.args.text.now
          ((rw c.deref.ensures at c.in-Ok.ensures.same) ∙ ap Some c.in_ok-text.ensures) c.requires;
      examples = c.in-Ok.ensures.examples;
    }
