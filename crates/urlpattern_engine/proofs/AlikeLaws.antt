-- Two values of one expression return the same.
use Rattle.std.proofs.Common.{◌≡◌, ℕ, Bool, false, List, ap, inl, inr, subst, sym, ◌∙◌}
use Rattle.std.specs.Prelude.{IsTrue}
use Rattle.std.specs.Str.{all_scalars}
use Rattle.urlpattern_matcher.proofs.FirstMatchers.{flags_agree}
use Rattle.urlpattern_matcher.specs.Components.{engine_flags}
use Rattle.urlpattern_matcher.specs.Regexes.{regex_engine}
use Rattle.urlpattern_engine.proofs.EngineLaws.{expression_as_read, expression_first, form_of, values_by_flags}
use Rattle.urlpattern_engine.proofs.GrammarResults.{AreAlike, read_by_default, regex_as_read}
use Rattle.urlpattern_engine.specs.PatternRegexps.{IsExpressionOf, expression_result, pattern_result, pattern_engine}
use Rattle.urlpattern_engine.specs.GrammarReadings.{ExpressionsReturnAlike}
use Rattle.urlpattern_engine.specs.declared.strategy.Strategy.{Strategy}
use Rattle.urlpattern_meaning.proofs.OneMeaning.{is_tree_of}
use Rattle.urlpattern_meaning.proofs.PartTrees.{tree_of}
use Rattle.urlpattern_syntax.specs.RegexpText.{regexp_text}

module _ (ignore_case : Bool) (regexp : List ℕ) (one other : Strategy) (made : IsExpressionOf ignore_case regexp one) (also : IsExpressionOf ignore_case regexp other)
    (text : List ℕ) (alike : AreAlike ignore_case regexp text) (fine : IsTrue (all_scalars text)) where
  expressions_alike : expression_result ignore_case one text ≡ expression_result ignore_case other text
  expressions_alike = elim (form_of ignore_case regexp one made) [
    | inl own ↦
        expression_first ignore_case regexp one made text alike fine own.tree own.is_tree
        ∙ sym (expression_first ignore_case regexp other also text alike fine own.tree own.is_tree)
    | inr custom ↦
        expression_as_read ignore_case regexp one made text alike fine custom.is_read
        ∙ sym (expression_as_read ignore_case regexp other also text alike fine custom.is_read)
  ]

pub own_expressions : ExpressionsReturnAlike pattern_engine
unfolding pattern_result
own_expressions options parts value other text (inl kept) made also fine =
    let agree = flags_agree options ∙ kept in
    let one : value.ignore_case ≡ false = made.by_flags ∙ agree in
    let two : other.ignore_case ≡ false = also.by_flags ∙ agree in
    let same : other.ignore_case ≡ value.ignore_case = two ∙ sym one in
    expressions_alike value.ignore_case (regexp_text options parts) value.strategy other.strategy made.of_text
    (subst (λ (b : Bool). IsExpressionOf b (regexp_text options parts) other.strategy) same also.of_text) text (inl one) fine
    ∙ ap (λ (b : Bool). expression_result b other.strategy text) (sym same)
own_expressions options parts value other text (inr generated) made also fine =
    let is = is_tree_of options parts generated in
    values_by_flags options (engine_flags options) parts (tree_of options parts) value generated is made text
    ∙ sym (values_by_flags options (engine_flags options) parts (tree_of options parts) other generated is also text)

pub expressions_of_regex : ExpressionsReturnAlike regex_engine
expressions_of_regex options parts value other text settled made also fine =
    let regexp = regexp_text options parts in
    regex_as_read false regexp value (read_by_default regexp value made) text fine
    ∙ sym (regex_as_read false regexp other (read_by_default regexp other also) text fine)
