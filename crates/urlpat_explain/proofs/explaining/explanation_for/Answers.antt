use Rattle.urlpat_explain.proofs.explaining.explanation_for.Goals as goal

pub explanation_of-found-requires : goal.explanation_of-found-requires
explanation_of-found-requires g c = record {
  is_compiled = c.in_ok-pattern.ensures.compiled;
  keeps_parts = c.in_ok-pattern.ensures.kept;
  is_init = c.in_ok-init.ensures;
}
