use Rattle.std.proofs.Common.{◌≡◌, ◌∙◌, sym, false}
use Rattle.urlpattern_printing.specs.Neighbours.{neighbour}
use Rattle.urlpattern_meaning.specs.Printing.{has_custom_name, is_wildcard_after}
use Rattle.urlpattern_syntax.proofs.StringTexts.{is_empty-text}
use Rattle.urlpattern_syntax.specs.Parts.{part_view}
use Rattle.urlpattern_printing.proofs.printed.is_asterisk.Goals as goal
use Rattle.urlpattern_printing.proofs.printed.is_asterisk.Goals.{then-is_wildcard_after, else-is_wildcard_after}

pub returns-else-grouped : goal.returns-else-grouped
returns-else-grouped c =
    let part = c.args.part.now in
    let number : has_custom_name (part_view part) ≡ false = sym c.has_custom_name.ensures ∙ c.if-not-has_custom_name.true in
    let prefix = is_empty-text part.prefix ∙ sym c.is_empty.ensures in
    elim c.if-is_wildcard_after.branch [
      | then-is_wildcard_after w ↦ absurd (cc)
      | else-is_wildcard_after w ↦
          let not_admitted : is_wildcard_after (neighbour c.args.previous) ≡ false = sym c.is_wildcard_after.ensures ∙ w.if-is_wildcard_after.false in
          let bare : c.args.grouped ≡ false = cc in
          rw (number, not_admitted, bare, prefix)
    ]
