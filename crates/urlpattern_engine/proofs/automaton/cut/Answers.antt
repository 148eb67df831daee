use Rattle.std.proofs.Common.{List, ℕ, Some, sym, ap, ◌∙◌, true≢false, arith}
use Rattle.std.specs.Str.{chars}
use Rattle.urlpattern_engine.proofs.AutomatonLemmas.{text_is_cut, text_is_not_cut}
use Rattle.urlpattern_engine.proofs.automaton.cut.Goals.{else-start-end-via-then-start-end+then-is_char_boundary+else-is_char_boundary-2, else-start-end-via-then-start-end+else-is_char_boundary, else-start-end-via-else-start-end}
use Rattle.urlpattern_engine.proofs.automaton.cut.Goals as goal

pub returns-then-is_char_boundary-2 : goal.returns-then-is_char_boundary-2
returns-then-is_char_boundary-2 c =
    ap (λ (b : List ℕ). Some (chars b)) c.range.ensures.value
    ∙ sym (text_is_cut c.args.text.now c.args.start c.args.end c.if-start-end.true (c.is_char_boundary.ensures.test.0 c.if-is_char_boundary.true)
    (c.is_char_boundary-then-is_char_boundary.ensures.test.0 c.if-is_char_boundary-2.true))

pub returns-else-start-end : goal.returns-else-start-end
returns-else-start-end c =
    sym (text_is_not_cut c.args.text.now c.args.start c.args.end (λ h. elim c.else-start-end.branch [
      | else-start-end-via-then-start-end+then-is_char_boundary+else-is_char_boundary-2 w ↦
          true≢false (sym (w.is_char_boundary-then-is_char_boundary.ensures.test.1 h.2) ∙ w.if-is_char_boundary-2.false)
      | else-start-end-via-then-start-end+else-is_char_boundary w ↦
          true≢false (sym (w.is_char_boundary.ensures.test.1 h.1) ∙ w.if-is_char_boundary.false)
      | else-start-end-via-else-start-end w ↦ let less = w.if-start-end.false in omega (arith, less, h.0)
    ]))
