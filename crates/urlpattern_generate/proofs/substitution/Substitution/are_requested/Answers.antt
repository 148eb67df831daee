use Rattle.std.proofs.Common.{◌≤◌, arith, length, map, subst, sym}
use Rattle.std.proofs.lemmas.List.{length-map}
use Rattle.urlpattern_generate.proofs.FoundCaptures.{left_at_end}
use Rattle.urlpattern_generate.specs.WrittenTexts.{settings_of_writer}
use Rattle.urlpattern_syntax.specs.Text.{option_text}
use Rattle.urlpattern_generate.proofs.substitution.Substitution.are_requested.Goals as goal

pub returns : goal.returns
returns c =
    let many = length-map c.args.found.now option_text in
    let past : length c.deref-part-items.result.now ≤ c.loop-part.part-index = omega arith in
    left_at_end (settings_of_writer c.args.self.now) c.deref-part-items.result.now (map option_text c.args.found.now) c.loop-part.part-index c.loop-part.next (length c.args.found.now) _
    past (subst (λ n. c.loop-part.next ≤ n) (sym many) c.loop-part.invariant.within) (sym many) c.loop-part.invariant.asked
