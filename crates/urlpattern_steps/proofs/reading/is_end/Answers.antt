use Rattle.std.proofs.Common.{◌≡◌, [], ◌∷◌, ℕ, List, ◌==◌, true, sym, ap, ◌∙◌, eqb-true, length, rules}
use Rattle.std.proofs.lemmas.Bool.{eq-eqb}
use Rattle.std.proofs.lemmas.Str.{encodes-chars}
use Rattle.std.specs.Prelude.{encode_utf8_all}
use Rattle.std.specs.Str.{chars, IsUtf8}
use Rattle.urlpattern_syntax.proofs.TextLemmas.{chars-empty}
use Rattle.urlpattern_steps.proofs.reading.is_end.Goals as goal

nothing_left : (bytes : List ℕ) → IsUtf8 bytes → chars bytes ≡ [] → (length bytes == 0) ≡ true
nothing_left bytes utf8 none = eq-eqb (length bytes) 0 (ap length (sym (encodes-chars bytes utf8) ∙ ap encode_utf8_all none))

pub returns-in-Some : goal.returns-in-Some
returns-in-Some c = (
  λ empty. c.in-Some.ensures.cut ∙ ap (λ t. 36 ∷ t) (chars-empty c.in-Some.rest.now (eqb-true (length c.in-Some.rest.now) 0 (sym c.is_empty.ensures ∙ empty))),
  λ end.
      let cut = c.in-Some.ensures.cut in
      let none : chars c.in-Some.rest.now ≡ [] = cc in
      c.is_empty.ensures ∙ nothing_left c.in-Some.rest.now (search rules) none,
)
