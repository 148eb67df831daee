use Rattle.std.proofs.Common.{subst, sym}
use Rattle.std.specs.Str.{chars}
use Rattle.urlpattern.proofs.QuickLemmas.{quick-served}
use Rattle.urlpattern_components.specs.Eight.{Texts}
use Rattle.urlpattern_matches.specs.BorrowedMatches.{groups_view, pattern_captures_view}
use Rattle.urlpattern_matches.specs.GroupTexts.{captures_of}
use Rattle.urlpattern_paths.specs.PathsAlone.{IsRead}
use Rattle.urlpattern_pattern.specs.Match.{AreGroupsInOrder, IsMatchOf}
use Rattle.urlpattern_pattern.specs.Patterns.{pattern_view}
use Rattle.urlpattern.proofs.router.UrlPatternRouter.at_plain_path.Goals as goal

pub match_with_path-found-requires : goal.match_with_path-found-requires
match_with_path-found-requires g c = record {
  read = subst (λ (texts : Texts). IsRead g.R.RegExp.answer (pattern_view c.in-Served.pattern.now) texts.pathname (captures_of c.in-Served.groups)) (sym c.pathname_texts-texts.ensures) c.in-Served.ensures.1.read;
}

pub returns-in-Served-clause-routed : goal.returns-in-Served-clause-routed
returns-in-Served-clause-routed g c =
    let answer = g.R.RegExp.answer in
    let pattern = pattern_view c.in-Served.pattern.now in
    let found = c.match_with_path-found.result in (
      c.requires.path,
      quick-served answer c.args.self.now (chars c.args.method.now) (chars c.args.path.now) c.in-Served.index c.in-Served.value c.in-Served.pattern c.in-Served.groups found c.in-Served.ensures
          (subst (λ (texts : Texts). IsMatchOf answer pattern texts (pattern_captures_view found)) c.pathname_texts-texts.ensures c.match_with_path-found.ensures.matched)
          (subst (λ (texts : Texts). AreGroupsInOrder answer pattern texts (groups_view found)) c.pathname_texts-texts.ensures c.match_with_path-found.ensures.groups),
    )
