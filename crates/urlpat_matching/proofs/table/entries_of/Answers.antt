use Rattle.std.proofs.Common.{◌+◌, ◌≡◌, [], ◌++◌, ◌∷◌, All, List, length, length-append, map, ℕ, append_assoc, append-nil, sym, ap, subst, refl, take, ◌∙◌, arith}
use Rattle.std.proofs.lemmas.List.{take_at}
use Rattle.std.proofs.lemmas.List.Elements.{All-append}
use Rattle.std.specs.Str.{IsUtf8}
use Rattle.bstr.specs.Text.{lines_of, without_terminator}
use Rattle.urlpat_matching.proofs.EntryLemmas.{All-one, entries-more, line-there, mark-shorter}
use Rattle.urlpat_matching.specs.Tables.{entries_from, line_entries, table_lines}
use Rattle.urlpat_matching.proofs.table.entries_of.Goals as goal

pub loop-line-init : goal.loop-line-init
loop-line-init c =
    ([], ap (λ (text : List ℕ). map without_terminator (lines_of text)) (sym c.without_mark.ensures) ∙ sym c.lines-line-items.ensures.value ∙ sym c.into_iter-line-iterator.ensures.into_iter_gives, refl, search c.new-entries.ensures.items, λ k d less. absurd (omega (arith, less)))

pub overflow_add-number : goal.overflow_add-number
overflow_add-number c =
    let (before, are, counted, entries, text) = c.loop-line.invariant in
    let lines = c.in-Some.line.now ∷ c.next.new.self in
    let whole : table_lines c.args.table.now ≡ before ++ lines = are ∙ ap (λ rest. before ++ rest) c.in-Some.ensures.steps in
    let same : table_lines c.args.table.now ≡ c.lines-line-items.result = ap (λ (text : List ℕ). map without_terminator (lines_of text)) (sym c.without_mark.ensures) ∙ sym c.lines-line-items.ensures.value in
    omega (arith, counted, ap length whole, length-append before lines, c.lines-line-items.ensures.len, ap length same, ap length c.without_mark.ensures, mark-shorter c.args.table.now)

pub returns-in_default-clause-refused : goal.returns-in_default-clause-refused
returns-in_default-clause-refused c =
    let (before, are, counted, entries, text) = c.loop-line.invariant in
    let lines = c.in-Some.line.now ∷ c.next.new.self in
    let whole : table_lines c.args.table.now ≡ before ++ lines = are ∙ ap (λ rest. before ++ rest) c.in-Some.ensures.steps in (
      length before,
      c.in-Some.line.now,
      ap (λ n. n + 1) counted,
      line-there before c.in-Some.line.now c.next.new.self _ whole,
      c.in_default.ensures.cases.0,
      subst (λ list. All IsUtf8 (take (length before) list)) (sym whole) (subst (All IsUtf8) (sym (take_at before lines (length before) refl)) text),
    )

pub loop-line-preserved : goal.loop-line-preserved
loop-line-preserved c =
    let (before, are, counted, entries, text) = c.loop-line.invariant in
    let line = c.in-Some.line.now in
    let same : c.in-Ok.text.now ≡ line = c.in-Ok.ensures.cases.0 in (
      before ++ line ∷ [],
      are ∙ ap (λ rest. before ++ rest) c.in-Some.ensures.steps ∙ sym (append_assoc before (line ∷ []) c.next.new.self),
      omega (arith, counted, length-append before (line ∷ [])),
      c.in_ok-push_entry.ensures ∙ ap (λ l. l ++ line_entries (c.loop-line.number + 1) c.in-Ok.text.now) entries ∙ ap (λ t. entries_from 1 before ++ line_entries (c.loop-line.number + 1) t) same
          ∙ sym (entries-more 1 (c.loop-line.number + 1) before line (omega (arith, counted))),
      All-append IsUtf8 before (line ∷ []) text (All-one IsUtf8 line c.in-Ok.ensures.cases.1),
    )

pub returns-clause-entries : goal.returns-clause-entries
returns-clause-entries c =
    let (before, are, counted, entries, text) = c.loop-line.invariant in
    entries ∙ ap (entries_from 1) (sym (are ∙ ap (λ rest. before ++ rest) c.in-None.ensures.steps.0 ∙ append-nil before))

pub returns-clause-text : goal.returns-clause-text
returns-clause-text c =
    let (before, are, counted, entries, text) = c.loop-line.invariant in
    subst (λ lines. All IsUtf8 lines) (sym (are ∙ ap (λ rest. before ++ rest) c.in-None.ensures.steps.0 ∙ append-nil before)) text
