use Rattle.std.proofs.Common.{◌++◌, length, sym, ap, ◌∙◌, drop}
use Rattle.std.proofs.lemmas.Str.{IsCharBoundary-at_seam}
use Rattle.std.proofs.Math.Seq.{drop-append_seam}
use Rattle.urlpattern_steps.proofs.text_cuts.after_prefix.Goals as goal

pub range_from-requires : goal.range_from-requires
range_from-requires c _ = IsCharBoundary-at_seam c.args.text.now c.args.front.now c.requires.0 c.requires.2 c.requires.1

pub returns : goal.returns
returns c =
    c.requires.2 ∙ ap (λ t. c.args.front.now ++ t)
    (sym (drop-append_seam c.args.front.now c.requires.0) ∙ ap (drop (length c.args.front.now)) (sym c.requires.2) ∙ sym c.range_from.ensures.value)
