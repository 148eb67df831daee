use Rattle.std.proofs.Common.{◌≡◌, ◌∙◌, refl, sym}
use Rattle.std.specs.Prelude.{Result}
use Rattle.urlpattern_matcher.specs.Components.{component_view}
use Rattle.urlpattern_matcher.specs.Matchers.{inner_view}
use Rattle.urlpattern_matcher.specs.declared.matcher.InnerMatcher.{InnerMatcher}
use Rattle.urlpattern_index.proofs.KnownLemmas.{matched_fits, none_custom, not_true}
use Rattle.urlpattern_meaning.specs.Matching.{HoldsEngine}
use Rattle.urlpattern_syntax.specs.declared.error.Error.{Error}
use Rattle.urlpattern_syntax.specs.ComponentParts.{kept_options, kept_parts}
use Rattle.urlpattern_index.proofs.known.matches_parts.Goals as goal

no_engine : {E : Type 0} (inner : InnerMatcher E) → ((regexp : Result E Error) → inner ≡ InnerMatcher.RegExp regexp → ⊥)
    → HoldsEngine (inner_view inner) → ⊥
no_engine (InnerMatcher.Literal literal) none holds = holds
no_engine (InnerMatcher.SingleCapture filter allow_empty) none holds = holds
no_engine (InnerMatcher.RegExp regexp) none holds = none regexp refl

pub returns-then-agrees_with_parts : goal.returns-then-agrees_with_parts
returns-then-agrees_with_parts g c = λ plain text matched.
    let parts = kept_parts c.args.kept.now in
    matched_fits g.R.RegExp (kept_options c.args.kept.now) parts (component_view c.args.component.now).matcher text c.requires.has_matcher c.if-kept.false matched
    (λ holds. (c.agrees_with_parts.ensures c.if-agrees_with_parts.true, none_custom parts (sym c.requires.regexp_flag ∙ not_true c.args.component.now.has_regexp_group plain)))

pub returns-in_default : goal.returns-in_default
returns-in_default g c = λ is text matched.
    matched_fits g.R.RegExp (kept_options c.args.kept.now) (kept_parts c.args.kept.now) (component_view c.args.component.now).matcher text c.requires.has_matcher c.if-kept.false matched
    (λ holds. absurd (no_engine c.args.component.now.matcher.inner c.in_default.not-RegExp holds))
