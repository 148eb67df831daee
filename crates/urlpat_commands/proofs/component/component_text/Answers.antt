use Rattle.std.proofs.Common.{◌≡◌, ◌≢◌, ℕ, List, rules, map, inl, inr, ap, subst, ◌∙◌}
use Rattle.std.proofs.lemmas.Result.{err_from_is_err_and}
use Rattle.std.specs.Prelude.{All, string_bytes, encode_utf8_all}
use Rattle.urlpat_matching.proofs.MatchLemmas.{bytes_of_text, bytes_of_texts}
use Rattle.urlpat_commands.specs.ComponentAnswers.{IsTextBy, component_lines, kept}
use Rattle.urlpattern.specs.Dialect.{HasMeaningOf}
use Rattle.urlpattern.specs.Errors.{ErrorView}
use Rattle.urlpattern.specs.Laws.{listed}
use Rattle.urlpattern.specs.Options.{OptionsView, options_view}
use Rattle.urlpattern.specs.Parts.{PartView, part_view}
use Rattle.urlpattern.specs.Printing.{Keeps, printed}
use Rattle.urlpattern.specs.RegexpText.{group_names, regexp_text}
use Rattle.urlpattern.specs.Reading.{Rejects}
use Rattle.urlpattern.specs.RoundTrip.{IsPrintable, ReadsBack}
use Rattle.urlpattern_syntax.specs.declared.parser.PartType.TheVariants.{Regexp}
use Rattle.urlpattern_meaning.proofs.Encodings.{reads_weaker, refuses_weaker}
use Rattle.urlpat_commands.proofs.component.component_text.Goals as goal

-- The options are other ones that are equal.
rejects_by : (text : List ℕ) (options other : OptionsView) (error : ErrorView) → options ≡ other → Rejects text options kept error → Rejects text other kept error
rejects_by text options other error same rejects = subst (λ (o : OptionsView). Rejects text o kept error) same rejects

text_by : (options other : OptionsView) (pattern text : List ℕ) → options ≡ other → IsTextBy options pattern text → IsTextBy other pattern text
text_by options other pattern text same is = subst (λ (o : OptionsView). IsTextBy o pattern text) same is

pub returns-in_err-parts-clause-refused : goal.returns-in_err-parts-clause-refused
returns-in_err-parts-clause-refused c =
    let p = err_from_is_err_and c.from_residual-in_err-parts.result c.from_residual-in_err-parts.ensures.1 in
    rw (p.1, p.2) (elim c.in_err-parts.ensures.refuses [
      | inl memory ↦ inl memory
      | inr refused ↦ inr (rejects_by _ _ _ _ c.in_ok-options.ensures.options
          (refuses_weaker _ kept (λ text answer h. (h.0, search rules, h.2)) _ _ _ refused))
    ])

pub returns-clause-text : goal.returns-clause-text
returns-clause-text c =
    let options = options_view c.in_ok-options.options in
    let parts = map part_view c.in_ok-parts.parts.items in
    let same = ap (map part_view) c.deref.ensures.value in
    let again = ap (map part_view) c.deref-2.ensures.value in
    let names = ap (map (λ name. string_bytes name)) c.deref-3.ensures.value ∙ bytes_of_texts c.in_ok-regexp.names.items _ (c.in_ok-regexp.ensures.names ∙ ap group_names same) in
    let regexp = c.deref-4.ensures ∙ bytes_of_text c.in_ok-regexp.regexp _ (c.in_ok-regexp.ensures.text ∙ ap (regexp_text options) same) in
    let shown = c.deref-5.ensures ∙ bytes_of_text c.in_ok-printed.printed _ (c.in_ok-printed.ensures.text ∙ ap (printed options) again) in
    text_by _ _ _ _ c.in_ok-options.ensures.options (record {
      parts = parts;
      reads = reads_weaker _ kept (λ text answer h. (h.0, search rules, h.2)) _ _ _ c.in_ok-parts.ensures.reads;
      means = subst (λ (list : List PartView). All (λ part. part.kind ≢ Regexp) list → HasMeaningOf (regexp_text options list) options list) same
          (λ plain. subst (λ (text : List ℕ). HasMeaningOf text options (map part_view c.deref.result.now)) c.in_ok-regexp.ensures.text
          (c.in_ok-regexp.ensures.meaning plain));
      reads_back = λ answers. subst (λ (list : List PartView). IsPrintable options list → Keeps (listed answers) list → ReadsBack (printed options list) options (listed answers) list) again
          (λ printable keeps. subst (λ (text : List ℕ). ReadsBack text options (listed answers) (map part_view c.deref-2.result.now)) c.in_ok-printed.ensures.text
          (c.in_ok-printed.ensures.reads_back answers printable keeps));
      is_text = c.in_ok-component_report.ensures
          ∙ ap (λ n. component_lines n c.deref-4.result.now c.deref-5.result.now) names
          ∙ ap (λ r. component_lines (map encode_utf8_all (group_names parts)) r c.deref-5.result.now) regexp
          ∙ ap (λ s. component_lines (map encode_utf8_all (group_names parts)) (encode_utf8_all (regexp_text options parts)) s) shown;
    })
