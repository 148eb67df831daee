use Rattle.std.proofs.Common.{◌≡◌, ◌++◌, ◌∷◌, [], Ok, false, map, sym, ap, ◌∙◌, subst, inr, refl}
use Rattle.std.specs.Str.{chars}
use Rattle.std.proofs.lemmas.List.{append-nil, map-append}
use Rattle.std.proofs.lemmas.Result.{err_from_is_err_and}
use Rattle.urlpattern_parser.specs.declared.parser.part_list.PartList.{PartList}
use Rattle.urlpattern_syntax.specs.Errors.{error_view}
use Rattle.urlpattern_parser.specs.Readers.{part_list_view}
use Rattle.urlpattern_parser.specs.PartLists.{AddsAll, list_names, parser_encoding, parser_options, pending_item}
use Rattle.urlpattern_syntax.specs.Parts.{fixed_text, part_view}
use Rattle.urlpattern_syntax.specs.Reading.{Fixed}
use Rattle.urlpattern_syntax.specs.RegexpText.{is_empty}
use Rattle.urlpattern_syntax.specs.Text.{text_of}
use Rattle.urlpattern_syntax.proofs.ReadingLemmas.{adds_item, fails_item, fixed_fails, fixed_met, fixed_parts}
use Rattle.urlpattern_syntax.proofs.StringTexts.{is_empty-str, nothing_from_is_empty}
use Rattle.urlpattern_parser.proofs.parser.part_list.PartList.add_fixed.Goals as goal
use Rattle.urlpattern_parser.proofs.parser.part_list.PartList.add_fixed.Goals.{then-not-is_empty+in_ok-value+in_ok-push, else-not-is_empty}

pub returns-in_err-value-clause-err : goal.returns-in_err-value-clause-err
returns-in_err-value-clause-err g c =
    let text = chars c.args.text.now in
    let error = error_view c.in_err-value.field-0.0 in
    let added : AddsAll g.F.Fn c.args.parser.now c.args.self.now (pending_item c.args.self.now) c.add_pending.new.self = c.in_ok-add_pending.ensures.ok in
    let some : is_empty text ≡ false = is_empty-str c.args.text.now c.utf8.text ∙ sym c.is_empty.ensures ∙ c.if-not-is_empty.true in
    let p = err_from_is_err_and c.from_residual-in_err-value.result c.from_residual-in_err-value.ensures.1 in
    rw (p.1, p.2) (inr (fails_item _ _ _ _ _ added (Fixed text c.args.modifier) error
    (fixed_fails (parser_encoding g.F.Fn c.args.parser.now) (list_names c.add_pending.new.self) text c.args.modifier error some c.in_err-value.ensures.err)))

pub returns-clause-ok : goal.returns-clause-ok
returns-clause-ok g c =
    let text = chars c.args.text.now in
    let modifier = c.args.modifier in
    let encoding = parser_encoding g.F.Fn c.args.parser.now in
    let added : AddsAll g.F.Fn c.args.parser.now c.args.self.now (pending_item c.args.self.now) c.add_pending.new.self = c.in_ok-add_pending.ensures.ok in
    let emptiness = is_empty-str c.args.text.now c.utf8.text ∙ sym c.is_empty.ensures in
    elim c.if-not-is_empty.branch [
      | then-not-is_empty+in_ok-value+in_ok-push w ↦
          let value = text_of w.in_ok-value.value in
          let parts = c.add_pending.new.self.parts.items in
          let answered : encoding text (Ok value) = w.in_ok-value.ensures.ok in
          adds_item _ _ _ _ _ added (part_list_view c.if-not-is_empty.self) (Fixed text modifier) (fixed_text value modifier ∷ [])
          (fixed_parts (parser_options c.args.parser.now) encoding text value modifier (emptiness ∙ w.if-not-is_empty.true) answered)
          (fixed_met encoding (list_names c.add_pending.new.self) text value modifier answered)
          (ap (λ (list : PartList). map part_view list.parts.items) w.self-is ∙ ap (map part_view) w.in_ok-push.ensures ∙ map-append part_view parts (w.fixed.result ∷ [])
          ∙ ap (λ part. map part_view parts ++ part ∷ []) w.fixed.ensures)
          (ap (λ (list : PartList). text_of list.pending_fixed_value) w.self-is)
      | else-not-is_empty w ↦
          let none : text ≡ [] = nothing_from_is_empty text (emptiness ∙ w.if-not-is_empty.false) in
          subst (λ x. AddsAll g.F.Fn c.args.parser.now c.args.self.now (pending_item c.args.self.now ++ Fixed x modifier ∷ []) c.if-not-is_empty.self) (sym none)
          (adds_item _ _ _ _ _ added (part_list_view c.if-not-is_empty.self) (Fixed [] modifier) [] refl tt
          (ap (λ (list : PartList). map part_view list.parts.items) w.self-is ∙ sym (append-nil (part_list_view c.add_pending.new.self).parts))
          (ap (λ (list : PartList). text_of list.pending_fixed_value) w.self-is))
    ]
