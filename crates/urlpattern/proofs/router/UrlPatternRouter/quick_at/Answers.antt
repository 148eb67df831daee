use Rattle.std.proofs.Common.{None, Some, refl, sym, ◌∙◌}
use Rattle.std.proofs.lemmas.Bool.{false≢true}
use Rattle.std.specs.Str.{chars}
use Rattle.urlpattern.proofs.QuickLemmas.{refused-at, returned-by, template-at}
use Rattle.urlpattern.proofs.RouteLemmas.{unmatched-at}
use Rattle.urlpattern.specs.QuickRoutes.{Any}
use Rattle.urlpattern.specs.Routes.{Takes}
use Rattle.urlpattern_components.specs.declared.eight.ComponentName.TheVariants.{Pathname}
use Rattle.urlpattern_matches.specs.GroupTexts.{captures_of}
use Rattle.urlpattern_matches.specs.MatchInput.{pathname_alone}
use Rattle.urlpattern_meaning.specs.Matching.{Returns}
use Rattle.urlpattern_paths.specs.PathsAlone.{IsReadBy}
use Rattle.urlpattern_pattern.specs.Patterns.{pattern_view}
use Rattle.urlpattern.proofs.router.UrlPatternRouter.quick_at.Goals as goal

pub returns-then-not-takes-clause-passed : goal.returns-then-not-takes-clause-passed
returns-then-not-takes-clause-passed g c = (
  refused-at g.R.RegExp.answer c.args.self.now.routes (Takes (chars c.args.method.now)) (pathname_alone (chars c.args.path.now)) c.in-Some.pattern.now c.in-Some.route.now c.args.index c.in-Some.ensures
      (λ takes. false≢true (sym c.if-not-takes.true ∙ c.takes.ensures.1 takes)),
  λ never. absurd (false≢true never),
)

pub returns-in-Matched-clause-served : goal.returns-in-Matched-clause-served
returns-in-Matched-clause-served g c =
    let pattern = pattern_view c.in-Some.pattern.now in
    let template = c.in-Some-template.template.now in
    let read : IsReadBy g.R.RegExp.answer pattern template =
    template-at g.R.RegExp.answer c.args.self.now.routes c.args.index template c.in-Some.pattern.now c.in-Some.route.now c.in-Some-template.ensures c.in-Some.ensures in (
      refl,
      record {
        entry = (c.in-Some.pattern.now, c.in-Some.route.now);
        there = sym c.in-Some.ensures;
        is = c.takes.ensures.0 c.if-not-takes.false;
        has_value = refl;
        has_pattern = refl;
        read = (
          read.others,
          returned-by g.R.RegExp.answer pattern template (chars c.args.path.now) (Some (captures_of c.in-Matched.groups)) read c.requires.path.line c.in-Matched.ensures,
        );
      },
    )

pub returns-in-Unmatched-clause-passed : goal.returns-in-Unmatched-clause-passed
returns-in-Unmatched-clause-passed g c =
    let texts = pathname_alone (chars c.args.path.now) in
    let pattern = pattern_view c.in-Some.pattern.now in
    let template = c.in-Some-template.template.now in
    let read : IsReadBy g.R.RegExp.answer pattern template =
    template-at g.R.RegExp.answer c.args.self.now.routes c.args.index template c.in-Some.pattern.now c.in-Some.route.now c.in-Some-template.ensures c.in-Some.ensures in
    let none : Returns g.R.RegExp.answer (pattern Pathname).matcher (chars c.args.path.now) None =
    returned-by g.R.RegExp.answer pattern template (chars c.args.path.now) None read c.requires.path.line c.in-Unmatched.ensures in (
      unmatched-at g.R.RegExp.answer c.args.self.now.routes (Takes (chars c.args.method.now)) texts c.in-Some.pattern.now c.in-Some.route.now c.args.index c.in-Some.ensures (Pathname, none),
      λ _. unmatched-at g.R.RegExp.answer c.args.self.now.routes Any texts c.in-Some.pattern.now c.in-Some.route.now c.args.index c.in-Some.ensures (Pathname, none),
    )
