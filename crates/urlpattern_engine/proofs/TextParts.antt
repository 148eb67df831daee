-- A tree that is parsed for text matches whole characters.
use Rattle.std.proofs.Common.{true, [], map, refl, sym, ap, ◌∙◌, subst}
use Rattle.std.proofs.lemmas.List.Elements.{All-nil}
use Rattle.regex_hir.specs.Re.{Re}
use Rattle.regex_hir.specs.Meaning.{meaning, node_meaning, cat_all, alt_all}
use Rattle.regex_hir.specs.declared.hir.Hir.{Hir, Empty, Literal, Bytes, Chars, Look, Repetition', Capture', Concat', Alternation', Row_of-Hir, end_of-Hir, more_of-Hir, items-the_row-Hir, items_shown-the_row-Hir-0, map-Hir, fold_out-Hir}
use Rattle.regex_hir.specs.declared.hir.Hir.TheVariants.{outs-Concat', outs-Alternation'}
use Rattle.regex_hir.proofs.MeaningLemmas.{meaning-Empty, meaning-Literal, meaning-Bytes, meaning-Chars, meaning-Look, meaning-Repetition, meaning-Capture}
use Rattle.regex_syntax.specs.WellFormed.{IsWellFormed, AreWellFormed}
use Rattle.regex.specs.Writes.{HasTextParts}
use Rattle.regex.proofs.WritesLemmas.{HasTextParts-alt_all, HasTextParts-repeat}

mutual
  pub text_parts : (h : Hir) → IsWellFormed true h → HasTextParts (meaning h)
  text_parts Empty formed = rw meaning-Empty tt
  text_parts (Literal bs) formed = rw meaning-Literal (formed refl)
  text_parts (Bytes class) formed = rw meaning-Bytes formed
  text_parts (Chars class) formed = rw meaning-Chars tt
  text_parts (Look l) formed = rw meaning-Look tt
  text_parts (Repetition' least most greedy place sub) formed =
      subst HasTextParts (sym (meaning-Repetition least most greedy (record { ptr = place.ptr; alloc = place.alloc; value = sub })))
      (HasTextParts-repeat least most greedy _ (text_parts sub formed.1))
  text_parts (Capture' index place sub) formed =
      subst HasTextParts (sym (meaning-Capture index (record { ptr = place.ptr; alloc = place.alloc; value = sub }))) (text_parts sub formed)
  text_parts (Concat' shape subs) formed =
      subst HasTextParts (sym (fold_out-Hir Re node_meaning _ ∙ ap (λ x. node_meaning (map-Hir Hir Re meaning x)) (outs-Concat' shape subs)
      ∙ ap (λ l. cat_all (map meaning l)) (items_shown-the_row-Hir-0 shape subs))) (row_parts _ subs formed).0
  text_parts (Alternation' shape subs) formed =
      subst HasTextParts (sym (fold_out-Hir Re node_meaning _ ∙ ap (λ x. node_meaning (map-Hir Hir Re meaning x)) (outs-Alternation' shape subs)
      ∙ ap (λ l. alt_all (map meaning l)) (items_shown-the_row-Hir-0 shape subs))) (row_parts _ subs formed).1

  row_parts : (n : _) (row : Row_of-Hir n) → AreWellFormed true row →
      HasTextParts (cat_all (map meaning (items-the_row-Hir n row))) × HasTextParts (alt_all (map meaning (items-the_row-Hir n row)))
  row_parts n end_of-Hir formed = (tt, HasTextParts-alt_all [] (All-nil HasTextParts))
  row_parts n (more_of-Hir sub rest) formed =
      let others = row_parts _ rest formed.1 in ((text_parts sub formed.0, others.0), (text_parts sub formed.0, others.1))
