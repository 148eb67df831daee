use Rattle.std.proofs.Common.{sym, ◌∙◌}
use Rattle.urlpattern_constructor.specs.Split.{takes_modifier}
use Rattle.urlpattern_constructor.specs.Splitting.{tokens_of}
use Rattle.urlpattern_constructor.proofs.TokenPlaces.{at_found, at_past, follows_modified_before}
use Rattle.urlpattern_constructor.proofs.tokens.Source.follows_modified.Goals as goal

pub returns-in-Some : goal.returns-in-Some
returns-in-Some c =
    c.takes_modifier.ensures
    ∙ sym (at_found (λ token. takes_modifier token.kind) _ _ c.in-Some.token c.in-Some.ensures.lookup)
    ∙ sym (follows_modified_before (tokens_of c.args.self.now) c.args.index c.if-index-eq0.false)

pub returns-in-None : goal.returns-in-None
returns-in-None c =
    sym (at_past (λ token. takes_modifier token.kind) _ _ c.in-None.ensures.lookup)
    ∙ sym (follows_modified_before (tokens_of c.args.self.now) c.args.index c.if-index-eq0.false)
