use Rattle.std.proofs.Common.{◌≡◌, ℕ, Bool, true, false, List, [], ◌∷◌, refl, ◌∙◌, rules}
use Rattle.std.proofs.lemmas.Iterator.{YieldsList-from_chars}
use Rattle.std.proofs.lemmas.Iterator.Search.{any_from_yields_List}
use Rattle.std.specs.List.{list_any}
use Rattle.std.specs.Prelude.{not, ◌&&◌, ◌||◌, ◌==◌}
use Rattle.std.specs.Str.{chars}
use Rattle.urlpattern_syntax.specs.Text.{lacks}
use Rattle.urlpattern_engine.proofs.pattern_regexp.ignores_case.Goals as goal

or_not : (first found lacked : Bool) → found ≡ not lacked → (first || found) ≡ not (not first && lacked)
or_not true found lacked e = refl
or_not false found lacked e = e

found_not_lacked : (c : ℕ) (text : List ℕ) → list_any (λ other. other == c) text ≡ not (lacks c text)
found_not_lacked c [] = refl
found_not_lacked c (first ∷ text) = or_not (first == c) (list_any (λ other. other == c) text) (lacks c text) (found_not_lacked c text)

pub returns : goal.returns
returns c =
    any_from_yields_List (λ other. other == 0x69) _ _ _ c.any.ensures.ran (YieldsList-from_chars c.args.flags.now c.utf8.flags cc) (λ x b q k. search rules)
    ∙ found_not_lacked 0x69 (chars c.args.flags.now)
