use Rattle.std.proofs.Common.{ap, sym, ◌∙◌}
use Rattle.std.proofs.lemmas.Slice.Eq.{bytes_eq-Decides}
use Rattle.std.specs.Str.{chars}
use Rattle.urlpattern_matcher.proofs.MatcherTexts.{same_chars}
use Rattle.urlpattern.proofs.router.route.Route.has_name.Goals as goal

pub returns-in-Some : goal.returns-in-Some
returns-in-Some g c =
    let equal = bytes_eq-Decides c.as_str.result.now c.args.name.now in
    let same = same_chars c.as_str.result.now c.args.name.now c.as_str.utf8 c.utf8.name in (
      λ is. rw c.in-Some.is (ap chars (sym c.as_str.ensures.value) ∙ same.0 (equal.0 (sym c.eq.ensures ∙ is))),
      λ has. c.eq.ensures ∙ equal.1 (same.1 (ap chars c.as_str.ensures.value ∙ (rw c.in-Some.is at has))),
    )
