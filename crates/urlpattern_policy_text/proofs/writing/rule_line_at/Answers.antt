use Rattle.std.proofs.Common.{◌∙◌, ap, sym}
use Rattle.std.proofs.lemmas.Result.{IfOk-weaker}
use Rattle.std.specs.Map.Iter.{deref_pair}
use Rattle.std.specs.Prelude.{option_map}
use Rattle.urlpattern_policy_text.proofs.WritingLemmas.{none_within}
use Rattle.urlpattern_policy_text.proofs.writing.rule_line_at.Goals as goal

pub returns-in-Some : goal.returns-in-Some
returns-in-Some g c =
    IfOk-weaker c.rule_line.result _ _ (λ line is. ((c.in-Some.pattern.now, c.in-Some.effect.now), sym c.get.ensures ∙ ap (option_map deref_pair) c.in-Some.is, is)) c.rule_line.ensures

pub returns-in-None : goal.returns-in-None
returns-in-None g c = absurd (none_within c.args.rules.now c.args.index c.requires (sym c.get.ensures ∙ ap (option_map deref_pair) c.in-None.is))
