use Rattle.std.proofs.Common.{◌≡◌, ◌++◌, ◌∷◌, [], Ok, Err, false, map, sym, ap, ◌∙◌, subst, inr, rules}
use Rattle.std.specs.Str.{chars}
use Rattle.std.proofs.lemmas.List.{map-append}
use Rattle.std.proofs.lemmas.Result.{err_from_is_err_and}
use Rattle.urlpattern_syntax.specs.declared.parser.PartModifier.TheVariants as modifiers
use Rattle.urlpattern_syntax.specs.Errors.{error_view}
use Rattle.urlpattern_parser.specs.Readers.{part_list_view}
use Rattle.urlpattern_parser.specs.PartLists.{parser_encoding, parser_options}
use Rattle.urlpattern_syntax.specs.Parts.{fixed_text, part_view}
use Rattle.urlpattern_syntax.specs.RegexpText.{is_empty}
use Rattle.urlpattern_syntax.specs.Text.{text_of}
use Rattle.urlpattern_syntax.proofs.ReadingLemmas.{nothing_pending, pending_fails, pending_met, pending_parts}
use Rattle.urlpattern_syntax.proofs.StringTexts.{is_empty-text, nothing_from_is_empty, text-nil}
use Rattle.urlpattern_parser.proofs.parser.part_list.PartList.add_pending.Goals as goal

pub returns-then-is_empty-clause-ok : goal.returns-then-is_empty-clause-ok
returns-then-is_empty-clause-ok g c = nothing_pending (parser_options c.args.parser.now) (parser_encoding g.F.Fn c.args.parser.now) (part_list_view c.args.self.now)
    (nothing_from_is_empty _ (is_empty-text c.args.self.now.pending_fixed_value ∙ sym c.is_empty.ensures ∙ c.if-is_empty.true))

pub returns-in_err-value-clause-err : goal.returns-in_err-value-clause-err
returns-in_err-value-clause-err g c =
    let pending = c.args.self.now.pending_fixed_value in
    let some : is_empty (text_of pending) ≡ false = is_empty-text pending ∙ sym c.is_empty.ensures ∙ c.if-is_empty.false in
    let p = err_from_is_err_and c.from_residual.result c.from_residual.ensures.1 in
    let encoding = parser_encoding g.F.Fn c.args.parser.now in
    let error = error_view c.in_err-value.field-0.0 in
    let answered : encoding (text_of pending) (Err error) = subst (λ bytes. encoding (chars bytes) (Err error)) c.deref.ensures c.in_err-value.ensures.err in
    rw (p.1, p.2) (inr (pending_fails encoding _ (text_of pending) error some answered))

pub returns-clause-ok : goal.returns-clause-ok
returns-clause-ok g c =
    let pending = c.args.self.now.pending_fixed_value in
    let encoding = parser_encoding g.F.Fn c.args.parser.now in
    let some : is_empty (text_of pending) ≡ false = is_empty-text pending ∙ sym c.is_empty.ensures ∙ c.if-is_empty.false in
    let answered : encoding (text_of pending) (Ok (text_of c.in_ok-value.value)) =
    subst (λ bytes. encoding (chars bytes) (Ok (text_of c.in_ok-value.value))) c.deref.ensures c.in_ok-value.ensures.ok in
    let parts = c.args.self.now.parts.items in
    let items : c.push.new.parts.items ≡ parts ++ c.fixed.result ∷ [] = search rules in
    record {
      added = fixed_text (text_of c.in_ok-value.value) modifiers.None ∷ [];
      parts = ap (map part_view) items ∙ map-append part_view parts (c.fixed.result ∷ []) ∙ ap (λ part. map part_view parts ++ part ∷ []) c.fixed.ensures;
      are_parts = pending_parts (parser_options c.args.parser.now) encoding (text_of pending) (text_of c.in_ok-value.value) some answered;
      are_met = pending_met encoding _ (text_of pending) (text_of c.in_ok-value.value) answered;
      pending = text-nil c.clear.new.self c.clear.ensures.bytes;
    }
