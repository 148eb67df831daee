use Rattle.urlpattern_matches.specs.GroupTexts.{borrowed_texts}
use Rattle.urlpattern_policy.proofs.DecisionLemmas.{kept_plain, kept_unspelled, not_both, on_false_from, on_true_from}
use Rattle.urlpattern_policy.specs.Decisions.{IsRespelled}
use Rattle.urlpattern_policy.proofs.policy.UrlPolicy.keeps_spelling_of.Goals as goal

pub returns-then-self-clause-kept : goal.returns-then-self-clause-kept
returns-then-self-clause-kept g c =
    on_true_from _ _ (λ is. kept_plain c.args.self.now.options (borrowed_texts c.args.texts.now) c.if-self.true (c.are_plain.ensures.0 is))

pub returns-then-self-clause-respelled : goal.returns-then-self-clause-respelled
returns-then-self-clause-respelled g c =
    on_false_from c.are_plain.result (IsRespelled c.args.self.now.options (borrowed_texts c.args.texts.now)) (λ other. (c.if-self.true, λ plain. not_both _ (c.are_plain.ensures.1 plain) other))

pub returns-clause-kept : goal.returns-clause-kept
returns-clause-kept g c = kept_unspelled c.args.self.now.options (borrowed_texts c.args.texts.now) c.if-self.false
