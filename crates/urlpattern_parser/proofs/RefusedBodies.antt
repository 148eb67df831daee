-- Lemmas on bodies that may not go on.
use Rattle.std.proofs.Common.{◌≡◌, ℕ, List, [], ◌++◌, sym, ap, ◌∙◌, subst}
use Rattle.std.proofs.lemmas.List.{append-nil}
use Rattle.std.specs.Prelude.{codes}
use Rattle.urlpattern_parser.specs.Bodies.{IsAfterRegexpStart}
use Rattle.urlpattern_syntax.specs.Text.{BeginsWith, is_among}
use Rattle.urlpattern_syntax.specs.Tokens.{IsRegexpStart}
use Rattle.urlpattern_syntax.proofs.BodyLemmas.{HasRead, front_read}

module _ (text rest : List ℕ) (depth : ℕ) (h : HasRead text rest depth) (unmarked : ¬ BeginsWith (is_among (codes "?)")) text) where
  pub after_front : IsAfterRegexpStart text rest
  after_front = (h.read, front_read text rest depth h unmarked, h.cut)

  -- the text ends before the body does
  pub all_read : rest ≡ [] → IsRegexpStart text
  all_read e = subst IsRegexpStart (sym (h.cut ∙ ap (λ x. h.read ++ x) e ∙ append-nil h.read)) (front_read text rest depth h unmarked)
