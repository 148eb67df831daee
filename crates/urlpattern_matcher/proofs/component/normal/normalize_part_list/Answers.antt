use Rattle.std.proofs.Common.{◌∙◌, ℕ, List, ap, subst}
use Rattle.std.specs.Str.{chars}
use Rattle.urlpattern_printing.proofs.OutcomeLemmas.{if_err-map, if_ok-map}
use Rattle.urlpattern_meaning.proofs.ReadsBack.{answered_only, answered_refused}
use Rattle.urlpattern_meaning.specs.Printing.{encoded_texts, joined}
use Rattle.urlpattern_meaning.specs.RoundTrip.{FailsText}
use Rattle.urlpattern_syntax.proofs.ReadingLemmas.{MemoryOr-weaker}
use Rattle.urlpattern_syntax.specs.Errors.{ErrorView}
use Rattle.urlpattern_syntax.specs.Options.{options_view}
use Rattle.urlpattern_syntax.specs.Parts.{parts_view}
use Rattle.urlpattern_syntax.specs.Reading.{Reads, Rejects, encoding_by}
use Rattle.urlpattern_matcher.proofs.component.normal.normalize_part_list.Goals as goal

pub returns-clause-same : goal.returns-clause-same
returns-clause-same g c =
    let text = ap chars c.deref.ensures ∙ c.in_ok-text.ensures.text in
    if_ok-map _ _ c.parse_pattern_string.result
    (λ normal reads printable kept. answered_only _ _ _ printable kept (parts_view normal.items)
    (subst (λ of. Reads of (options_view c.args.options.now) (encoding_by g.F.Fn c.args.encoding_callback) (parts_view normal.items)) text reads))
    c.parse_pattern_string.ensures.reads

pub returns-clause-fails : goal.returns-clause-fails
returns-clause-fails g c =
    let encoding = encoding_by g.F.Fn c.args.encoding_callback in
    let Refused : List ℕ → ErrorView → Type 0 = λ text error. Rejects text (options_view c.args.options.now) encoding error in
    let text = ap chars c.deref.ensures ∙ c.in_ok-text.ensures.text in
    if_err-map _ _ c.parse_pattern_string.result
    (λ error refused printable. MemoryOr-weaker (Refused (chars c.deref.result.now)) (FailsText encoding (encoded_texts (joined (parts_view c.args.part_list.now)))) error
    (λ view refuses. answered_refused _ _ _ printable view (subst (λ of. Refused of view) text refuses)) refused)
    c.parse_pattern_string.ensures.refuses
