use Rattle.std.proofs.Common.{[], ◌++◌, ◌∷◌, ◌∙◌, append_assoc, append-nil, sym, ap}
use Rattle.std.specs.List.{flat_map}
use Rattle.urlpat_tables.proofs.RowLemmas.{cells-more}
use Rattle.urlpat_tables.specs.TableRoutes.{cell_text}
use Rattle.urlpat_tables.proofs.row.push_cells.Goals as goal

pub loop-line-init : goal.loop-line-init
loop-line-init c = ([], sym c.lines-line-items.ensures.value ∙ sym c.into_iter-line-iterator.ensures.into_iter_gives, sym (append-nil _))

pub loop-line-preserved : goal.loop-line-preserved
loop-line-preserved c =
    let (before, are, written) = c.loop-line.invariant in
    let line = c.in-Some.line.now in (
      before ++ line ∷ [],
      are ∙ ap (λ rest. before ++ rest) c.in-Some.ensures.steps ∙ sym (append_assoc before (line ∷ []) c.next.new.self),
      cells-more c.args.row.now.items c.loop-line.row.items c.push.new.self.items c.extend_from_slice.new.self.items before line written
          c.in_ok-push.ensures.items c.in_ok-extend_from_slice.ensures.items,
    )

pub returns : goal.returns
returns c =
    let (before, are, written) = c.loop-line.invariant in
    written ∙ ap (λ lines. c.args.row.now.items ++ flat_map cell_text lines) (sym (are ∙ ap (λ rest. before ++ rest) c.in-None.ensures.steps.0 ∙ append-nil before))
