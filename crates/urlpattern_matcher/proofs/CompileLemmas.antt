-- Components that are compiled.
use Rattle.std.proofs.Common.{◌≡◌, ℕ, Bool, false, true≢false, List, [], ◌∷◌, codes, Option, Some, None, Result, unwrap_or, sym, ap, ◌∙◌, subst}
use Rattle.std.proofs.lemmas.Bool.{or_parts}
use Rattle.std.proofs.lemmas.List.Elements.{All-nil, All-cons}
use Rattle.std.specs.Borrow.{Bor}
use Rattle.std.specs.Str.{chars}
use Rattle.urlpattern_matcher.specs.Components.{IsWholeEngineOf, has_regexp, is_custom, pattern_text}
use Rattle.urlpattern_matcher.specs.declared.regexp.RegExp.{Ghosts as Engine}
use Rattle.urlpattern_meaning.specs.PartMeaning.{AreGenerated}
use Rattle.urlpattern_meaning.proofs.PartTrees.{IsNotCustom}
use Rattle.urlpattern_syntax.specs.Errors.{ErrorView}
use Rattle.urlpattern_syntax.specs.Parts.{PartView}

-- The engine's value is that of an equal text with equal flags.
pub engine-along : {E : Type 0} (engine : Engine E) (made : Result E ErrorView) {has reported : Bool} {flags options_flags regexp text : List ℕ}
    → has ≡ reported → flags ≡ options_flags → regexp ≡ text → IsWholeEngineOf engine has flags regexp made → IsWholeEngineOf engine reported options_flags text made
engine-along engine made {has} {reported} {flags} {options_flags} {regexp} {text} e f r is =
    subst (λ b. IsWholeEngineOf engine b options_flags text made) e
    (subst (λ g. IsWholeEngineOf engine has g text made) f (subst (λ t. IsWholeEngineOf engine has flags t made) r is))

-- The text for a missing pattern is an asterisk.
pub text-or_asterisk : (pattern : Option (Bor (List ℕ))) (found asterisk : Bor (List ℕ)) → found ≡ unwrap_or pattern asterisk → asterisk.now ≡ codes "*"
    → chars found.now ≡ pattern_text pattern
unfolding chars
text-or_asterisk None found asterisk e is = ap (λ (b : Bor (List ℕ)). chars b.now) e ∙ ap chars is
text-or_asterisk (Some pattern) found asterisk e is = ap (λ (b : Bor (List ℕ)). chars b.now) e

-- Parts are generated if none of them is custom.
pub none_custom : (parts : List PartView) → has_regexp parts ≡ false → AreGenerated parts
none_custom [] e = All-nil IsNotCustom
none_custom (part ∷ parts) e =
    let both = or_parts (is_custom part.kind) (has_regexp parts) e in
    All-cons IsNotCustom part parts (λ is. true≢false (sym (ap is_custom is) ∙ both.0)) (none_custom parts both.1)
