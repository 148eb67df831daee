-- The capture of several copies of a group, by their texts.
use Rattle.std.proofs.Common.{◌≡◌, ℕ, zero, suc, List, ◌++◌, append_assoc, ap, refl, sym, ◌∙◌}
use Rattle.urlpattern_generate.specs.Links.{AreTextsWith}
use Rattle.urlpattern_meaning.proofs.Copies.{IsCore, core_one, one_core}

-- The text between the first copy and further ones.
first_between : (first suffix prefix piece behind : List ℕ) → first ++ ((suffix ++ prefix ++ piece) ++ behind) ≡ first ++ ((suffix ++ prefix) ++ (piece ++ behind))
first_between first suffix prefix piece behind = simp append_assoc

pub texts_core : (Is : List ℕ → Type 0) (prefix suffix : List ℕ) (n : ℕ) (text : List ℕ) → AreTextsWith Is (suffix ++ prefix) n text → IsCore Is prefix suffix n text
texts_core Is prefix suffix zero text is = core_one Is prefix suffix text is
texts_core Is prefix suffix (suc n) text (first, rest, cut, is, more) =
    let core = texts_core Is prefix suffix n rest more in (
      first,
      (suffix ++ prefix ++ core.0) ++ core.1,
      cut ∙ ap (λ t. first ++ ((suffix ++ prefix) ++ t)) core.2 ∙ sym (first_between first suffix prefix core.0 core.1),
      is,
      (suffix ++ prefix ++ core.0, core.1, refl, (core.0, refl, core.3), core.4),
    )

pub core_texts : (Is : List ℕ → Type 0) (prefix suffix : List ℕ) (n : ℕ) (text : List ℕ) → IsCore Is prefix suffix n text → AreTextsWith Is (suffix ++ prefix) n text
core_texts Is prefix suffix zero text core = one_core Is prefix suffix text core
core_texts Is prefix suffix (suc n) text (first, rest, cut, is, (substring, behind, next_cut, (piece, e, next), more)) = (
  first,
  piece ++ behind,
  cut ∙ ap (λ t. first ++ t) (next_cut ∙ ap (λ t. t ++ behind) e) ∙ first_between first suffix prefix piece behind,
  is,
  core_texts Is prefix suffix n (piece ++ behind) (piece, behind, refl, next, more),
)
