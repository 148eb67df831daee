use Rattle.std.proofs.Common.{List, ap, append_assoc, codes, decimal, refl, sym, ℕ, ◌++◌, ◌∙◌}
use Rattle.std.proofs.lemmas.Result.{IfOk-weaker}
use Rattle.std.specs.List.{flat_map}
use Rattle.urlpat_tables.proofs.RowLemmas.{row-of}
use Rattle.urlpat_tables.specs.TableRoutes.{bare_lines, cell_text, row_text}
use Rattle.urlpat_matching.specs.Tables.{entry_view}
use Rattle.urlpat_tables.proofs.row.push_row.Goals as goal

pub returns : goal.returns
returns c =
    let (lines, grown, are) = c.in_ok-push_match.ensures in
    let entry = entry_view c.args.entry.now in
    let groups = c.as_bytes-2.ensures.value ∙ grown ∙ ap (λ (text : List ℕ). text ++ lines) c.in_ok-groups.ensures.bytes in
    IfOk-weaker c.push_cells.result _ _ (λ done cells. (
      row_text entry lines,
      row-of entry lines c.args.row.now.items c.extend_from_slice.new.self.items c.push_cells.new.row.items
          (c.in_ok-extend_from_slice.ensures.items ∙ ap (λ (head : List ℕ). c.args.row.now.items ++ head) (c.as_bytes.ensures.value ∙ c.in_ok-head.ensures.ok ∙ sym (append_assoc (decimal entry.number) (codes "\t") entry.name)))
          (cells ∙ ap (λ (text : List ℕ). c.extend_from_slice.new.self.items ++ flat_map cell_text (bare_lines text)) groups),
      (lines, are, refl),
    )) c.push_cells.ensures
