use Rattle.std.proofs.Common.{◌≡◌, sym, ◌∷◌, [], ◌++◌, ◌+◌, ◌-◌, ◌*◌, ap, ap₂, ◌∙◌, map, option_and_then, slice_index, arith}
use Rattle.std.proofs.lemmas.List.{map-append}
use Rattle.std.proofs.lemmas.List.FromFn.{map-range_with_len_more}
use Rattle.regex.specs.Writes.{both}
use Rattle.urlpattern_engine.specs.Automatons.{cell_texts, place_of, text_cut}
use Rattle.urlpattern_syntax.specs.Text.{option_text}
use Rattle.urlpattern_engine.proofs.automaton.groups.Goals as goal

pub loop-index-preserved : goal.loop-index-preserved
loop-index-preserved c =
    let bytes = c.args.text.now in
    let cells = c.args.cells.now in
    let index = c.loop-index.index in
    let behind : (index - 1) + 1 ≡ index + 1 - 1 = omega arith in
    ap (map option_text) c.in_ok-push.ensures.items
    ∙ map-append option_text c.loop-index.groups.items (c.group.result ∷ [])
    ∙ ap₂ ◌++◌ c.loop-index.invariant (ap (λ text. text ∷ []) c.group.ensures)
    ∙ sym (map-range_with_len_more
    (λ n. option_and_then (text_cut bytes) (both (place_of (slice_index cells (2 * n - 2))) (place_of (slice_index cells (2 * n - 1)))))
    1 (index - 1) index (omega arith))
    ∙ ap (cell_texts bytes cells) behind
