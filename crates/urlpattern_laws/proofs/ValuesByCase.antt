-- A value of `PatternRegexp` returns the first way of the parts of its expression, with case
-- ignored or kept.
use Rattle.std.proofs.Common.{◌≡◌, ℕ, ◌<◌, Bool, true, false, List, inl, inr, ap, ◌∙◌, subst, sym, ltb-true, true≢false}
use Rattle.std.specs.Char.{is_ascii}
use Rattle.std.specs.Prelude.{IfSome, IsTrue, Option, None, Some}
use Rattle.urlpattern_engine.proofs.AtomsRead.{grammar_same}
use Rattle.urlpattern_engine.proofs.GrammarResults.{AreAlike}
use Rattle.urlpattern_engine.specs.PatternRegexps.{pattern_engine}
use Rattle.urlpattern_expressions.specs.Expressions.{config_for}
use Rattle.urlpattern_expressions.specs.MatchedPartTexts.{AllCaptureNothingBy, AllStandAloneBy}
use Rattle.urlpattern_expressions.specs.PartWays.{parts_first_way_by, parts_ways_as}
use Rattle.urlpattern_laws.proofs.AsciiExpressions.{regexp_ascii}
use Rattle.urlpattern_laws.proofs.AsciiParts.{first_in_lower_case}
use Rattle.urlpattern_laws.proofs.ValuesTaken.{first_if_kept, pattern_values_grammar}
use Rattle.urlpattern_laws.specs.LawsOfWays.{IsKeptOrAscii, ValuesReturnFirstByFlags}
use Rattle.urlpattern_meaning.proofs.WaysJoined.{first_of}
use Rattle.urlpattern_syntax.specs.Options.{OptionsView}
use Rattle.urlpattern_syntax.specs.Parts.{PartView}
use Rattle.urlpattern_syntax.specs.RegexpText.{regexp_text}

delimiter_below : (delimiter : Option ℕ) → IfSome delimiter (λ c. IsTrue (is_ascii c)) → IfSome delimiter (λ c. c < 128)
delimiter_below None h = tt
delimiter_below (Some c) h = ltb-true c 128 h

expression_alike : (ignore_case : Bool) (options : OptionsView) (parts : List PartView) (text : List ℕ) → IsKeptOrAscii ignore_case options parts text → AreAlike ignore_case (regexp_text options parts) text
expression_alike ignore_case options parts text (inl kept) = inl kept
expression_alike ignore_case options parts text (inr ((delimited, spelled), ascii)) =
    inr (regexp_ascii options (delimiter_below options.delimiter delimited) parts spelled, ascii)

first_by_case : (ignore_case : Bool) (options : OptionsView) (parts : List PartView) (text : List ℕ) → IsKeptOrAscii ignore_case options parts text
    → first_of (parts_ways_as (config_for ignore_case) (grammar_same ignore_case) options parts text) ≡ parts_first_way_by ignore_case options parts text
first_by_case false options parts text (inl kept) = first_if_kept options parts text
first_by_case true options parts text (inl kept) = absurd (true≢false kept)
first_by_case ignore_case options parts text (inr ((delimited, spelled), ascii)) =
    first_in_lower_case ignore_case options (delimiter_below options.delimiter delimited) parts spelled text ascii

pub values_by_case : ValuesReturnFirstByFlags pattern_engine
values_by_case options flags parts value agree alone silent made text fine plain =
    by options.ignore_case (made.by_flags ∙ agree) alone silent plain
  where
    by : (ignore_case : Bool) → value.ignore_case ≡ ignore_case → AllStandAloneBy ignore_case parts → AllCaptureNothingBy ignore_case parts → IsKeptOrAscii ignore_case options parts text
        → pattern_engine.answer value text ≡ parts_first_way_by ignore_case options parts text
    by ignore_case e alone silent plain =
        let own = subst (λ (b : Bool). IsKeptOrAscii b options parts text) (sym e) plain in
        pattern_values_grammar options flags parts value (subst (λ (b : Bool). AllStandAloneBy b parts) (sym e) alone) (subst (λ (b : Bool). AllCaptureNothingBy b parts) (sym e) silent) made text fine
        (expression_alike value.ignore_case options parts text own)
        ∙ first_by_case value.ignore_case options parts text own
        ∙ ap (λ b. parts_first_way_by b options parts text) e
