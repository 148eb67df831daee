use Rattle.std.proofs.Common.{sym, subst}
use Rattle.urlpattern_compile.specs.Compiled.{IsPatternOfInit}
use Rattle.urlpattern_compile.specs.PatternViews.{eight_view}
use Rattle.urlpattern_pattern.proofs.ByTextLemmas.{init_by_text}
use Rattle.urlpattern_pattern.proofs.KeptLemmas.{keeps_parts, parted_pattern, parts_are_own}
use Rattle.urlpattern_pattern.specs.Patterns.{pattern_view}
use Rattle.urlpattern_pattern.proofs.pattern.UrlPattern.parse_with_protocol.Goals as goal

pub with_parts-requires : goal.with_parts-requires
with_parts-requires g c =
    parts_are_own g.R.RegExp c.in-Ok.made c.separate_parts-components.result.0 c.separate_parts-components.result.1 c.separate_parts-components.ensures c.args.init c.args.options c.in-Ok.ensures.compiled

pub returns-clause-compiled : goal.returns-clause-compiled
returns-clause-compiled g c =
    subst (λ components. IsPatternOfInit g.R.RegExp c.args.init c.args.options (eight_view components)) (sym c.with_parts.ensures.components)
    (parted_pattern g.R.RegExp c.in-Ok.made c.separate_parts-components.result.0 c.separate_parts-components.result.1 c.separate_parts-components.ensures c.args.init c.args.options c.in-Ok.ensures.compiled)

pub returns-clause-kept : goal.returns-clause-kept
returns-clause-kept g c =
    keeps_parts g.R.RegExp c.in-Ok.made c.separate_parts-components.result.0 c.separate_parts-components.result.1 c.separate_parts-components.ensures c.args.init c.args.options c.in-Ok.ensures.compiled
    c.with_parts.result c.with_parts.ensures.components c.with_parts.ensures.parts

pub returns-clause-by_text : goal.returns-clause-by_text
returns-clause-by_text g c = λ firsts. init_by_text g.R.RegExp c.args.init c.args.options (pattern_view c.with_parts.result)
    (subst (λ components. IsPatternOfInit g.R.RegExp c.args.init c.args.options (eight_view components)) (sym c.with_parts.ensures.components)
    (parted_pattern g.R.RegExp c.in-Ok.made c.separate_parts-components.result.0 c.separate_parts-components.result.1 c.separate_parts-components.ensures c.args.init c.args.options c.in-Ok.ensures.compiled)) firsts
