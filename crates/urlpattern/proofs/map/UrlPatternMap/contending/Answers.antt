use Rattle.std.proofs.Common.{◌∙◌, ◌≡◌, List, ap, subst, sym}
use Rattle.std.proofs.lemmas.Map.Made.{keys_of-zip}
use Rattle.std.specs.Map.{keys_of}
use Rattle.std.specs.Prelude.{IfErr, IfOk}
use Rattle.urlpattern.specs.Contending.{AreContentionsBy}
use Rattle.urlpattern.specs.Reached.{LacksParts}
use Rattle.urlpattern_pattern.specs.UrlPatterns.{UrlPattern}
use Rattle.urlpattern.proofs.map.UrlPatternMap.contending.Goals as goal

pub returns-clause-found : goal.returns-clause-found
returns-clause-found g c =
    let patterns = c.self.inside.patterns in
    let are_patterns : patterns ≡ keys_of c.args.self.now = sym (keys_of-zip patterns c.self.inside.values.items c.self.invariant) ∙ ap keys_of c.self.view_is in
    subst (λ (them : List (UrlPattern g.row.R.Denot)). IfOk c.contending.result (λ found. AreContentionsBy g.R.RegExp c.args.limits them found.items)) are_patterns c.contending.ensures.found

pub returns-clause-missing : goal.returns-clause-missing
returns-clause-missing g c =
    let patterns = c.self.inside.patterns in
    let are_patterns : patterns ≡ keys_of c.args.self.now = sym (keys_of-zip patterns c.self.inside.values.items c.self.invariant) ∙ ap keys_of c.self.view_is in
    subst (λ (them : List (UrlPattern g.row.R.Denot)). IfErr c.contending.result (LacksParts them)) are_patterns c.contending.ensures.missing
