use Rattle.std.proofs.Common.{ap, subst, sym, ◌∙◌}
use Rattle.std.proofs.lemmas.Result.{err_from_is_err_and}
use Rattle.std.specs.Str.{chars}
use Rattle.urlpattern.specs.PatternKeys.{address_of}
use Rattle.urlpattern.specs.Routes.{CallsEngineOfRequest, IsCandidate}
use Rattle.urlpattern_components.specs.Eight.{Texts}
use Rattle.urlpattern_index.specs.Keys.{hashes_of}
use Rattle.urlpattern.proofs.router.UrlPatternRouter.at_path_slowly.Goals as goal

pub at_candidate-requires-clause-hashes : goal.at_candidate-requires-clause-hashes
at_candidate-requires-clause-hashes g c = c.requires.hashes ∙ sym (ap (λ (texts : Texts). hashes_of (address_of texts)) c.pathname_texts.ensures)

pub at_candidate-requires-clause-first : goal.at_candidate-requires-clause-first
at_candidate-requires-clause-first g c =
    subst (λ (texts : Texts). IsCandidate g.R.RegExp.answer c.args.self.now.routes texts c.args.first) (sym c.pathname_texts.ensures) c.requires.first

pub returns-in_err-at_candidate-clause-refused : goal.returns-in_err-at_candidate-clause-refused
returns-in_err-at_candidate-clause-refused g c =
    let p = err_from_is_err_and c.from_residual.result c.from_residual.ensures.1 in
    rw (p.1, p.2) (
      c.requires.path,
      subst (λ (texts : Texts). CallsEngineOfRequest g.R.RegExp.answer c.args.self.now (chars c.args.method.now) texts) c.pathname_texts.ensures c.in_err-at_candidate.ensures.asked,
    )
