-- Errors that say that a pattern has no parts.
use Rattle.std.proofs.Common.{◌≡◌, ◌∙◌, ◌||◌, ◌<◌, ℕ, Bool, Box, Global, List, [], ◌∷◌, Result, Ok, Err, Vec, ap, get_or, length, map, refl, rules, subst, sym}
use Rattle.std.proofs.lemmas.List.Folds.{list_any_at}
use Rattle.std.specs.List.{list_any}
use Rattle.std.specs.Prelude.{IfErr, IsErrAnd, IsTrue, is_none}
use Rattle.urlpattern_conditions.specs.declared.condition.Condition.{All, Any, Condition, Not, Url, the_lemmas}
use Rattle.urlpattern_pattern.specs.UrlPatterns.{UrlPattern}
use Rattle.urlpattern_pattern.specs.declared.pattern.compare.CompareError.{CompareError}
use Rattle.urlpattern_pattern.specs.declared.pattern.compare.CompareError.TheVariants as errors
use Rattle.urlpattern_route_analysis.specs.Making.{IsLacking, lacks_parts}

-- ---- errors

-- An error is passed on.
pub passed_on : {T : Type 0} (result : Result T CompareError) (error : CompareError) (own lacks : Bool) → IsErrAnd result (λ e. e ≡ error) → IsLacking own error → (IsTrue own → IsTrue lacks) → IfErr result (IsLacking lacks)
passed_on (Ok x) error own lacks is told gives = tt
passed_on (Err e) error own lacks is told gives = λ same. gives (told (sym is ∙ same))

-- Memory ran out.
pub no_memory : {T : Type 0} (result : Result T CompareError) (lacks : Bool) → IsErrAnd result (λ e. e ≡ errors.OutOfMemory) → IfErr result (IsLacking lacks)
no_memory (Ok x) lacks is = tt
no_memory (Err e) lacks is = λ same. absurd (let wrong : errors.OutOfMemory ≡ errors.NoParts = sym is ∙ same in cc)

-- ---- conditions

lacks-Url : {E : Type 0} (pattern : Box (UrlPattern E) Global) → lacks_parts (Url pattern) ≡ is_none pattern.value.parts
lacks-Url pattern = search (rules, the_lemmas)

lacks-All : {E : Type 0} (given : Vec (Condition E) Global) → lacks_parts (All given) ≡ list_any (λ it. it) (map lacks_parts given.items)
lacks-All given = search (rules, the_lemmas)

lacks-Any : {E : Type 0} (given : Vec (Condition E) Global) → lacks_parts (Any given) ≡ list_any (λ it. it) (map lacks_parts given.items)
lacks-Any given = search (rules, the_lemmas)

lacks-Not : {E : Type 0} (one : Box (Condition E) Global) → lacks_parts (Not one) ≡ lacks_parts one.value
lacks-Not one = search (rules, the_lemmas)

any_mapped : {X : Type 0} (test : X → Bool) (xs : List X) → list_any (λ it. it) (map test xs) ≡ list_any test xs
any_mapped test [] = refl
any_mapped test (x ∷ xs) = ap (λ (more : Bool). test x || more) (any_mapped test xs)

module _ {E : Type 0} (own : Condition E) where
  abbrev Lacks : Condition E → Bool
  Lacks one = lacks_parts one

  pub url_lacks : (boxed : Box (UrlPattern E) Global) (pattern : UrlPattern E) → own ≡ Url boxed → pattern ≡ boxed.value → IsTrue (is_none pattern.parts) → IsTrue (lacks_parts own)
  url_lacks boxed pattern is same lacks = ap Lacks is ∙ lacks-Url boxed ∙ ap (λ (p : UrlPattern E). is_none p.parts) (sym same) ∙ lacks

  pub all_lack : (given : Vec (Condition E) Global) → own ≡ All given → IsTrue (list_any lacks_parts given.items) → IsTrue (lacks_parts own)
  all_lack given is lacks = ap Lacks is ∙ lacks-All given ∙ any_mapped lacks_parts given.items ∙ lacks

  pub any_lack : (given : Vec (Condition E) Global) → own ≡ Any given → IsTrue (list_any lacks_parts given.items) → IsTrue (lacks_parts own)
  any_lack given is lacks = ap Lacks is ∙ lacks-Any given ∙ any_mapped lacks_parts given.items ∙ lacks

  pub not_lacks : (boxed : Box (Condition E) Global) (one : Condition E) → own ≡ Not boxed → one ≡ boxed.value → IsTrue (lacks_parts one) → IsTrue (lacks_parts own)
  not_lacks boxed one is same lacks = ap Lacks is ∙ lacks-Not boxed ∙ ap Lacks (sym same) ∙ lacks

-- Something in a list.
pub one_lacks : {X : Type 0} (test : X → Bool) (given items : List X) (i : ℕ) (own : X) → i < length items → own ≡ get_or items i own → items ≡ given → IsTrue (test own) → IsTrue (list_any test given)
one_lacks {X} test given items i own lt is same lacks =
    subst (λ (l : List X). IsTrue (list_any test l)) same (list_any_at test items i own lt (ap test (sym is) ∙ lacks))
