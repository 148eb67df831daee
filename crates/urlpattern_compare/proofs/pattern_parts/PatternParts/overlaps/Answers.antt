use Rattle.urlpattern_compare.proofs.pattern_parts.PatternParts.overlaps.Goals as goal

pub returns-in-Ok : goal.returns-in-Ok
returns-in-Ok c = c.overlap_of.ensures c.args.self.now c.args.other.now (λ name. (c.in-Ok.ensures.ok name).1)
