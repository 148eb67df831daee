use Rattle.std.proofs.Common.{subst}
use Rattle.std.proofs.lemmas.Str.{IsCharBoundary-at_seam}
use Rattle.std.specs.Str.{IsCharBoundary}
use Rattle.urlpattern_steps.proofs.text_cuts.split_at_boundary.Goals as goal

pub range-requires-clause-end_boundary : goal.range-requires-clause-end_boundary
range-requires-clause-end_boundary c =
    subst (IsCharBoundary c.args.text.now) c.requires.5 (IsCharBoundary-at_seam c.args.text.now c.requires.0 c.requires.1 c.requires.4 c.requires.3)

pub range_from-requires : goal.range_from-requires
range_from-requires c _ =
    subst (IsCharBoundary c.args.text.now) c.requires.5 (IsCharBoundary-at_seam c.args.text.now c.requires.0 c.requires.1 c.requires.4 c.requires.3)
