use Rattle.std.proofs.Common.{refl, arith, inr}
use Rattle.std.proofs.lemmas.Result.{IfOk-weaker}
use Rattle.std.specs.Prelude.{IfNone, IfSome, MatchOption, None, Option, Some}
use Rattle.urlpattern.specs.Inheritance.{texts_of_url}
use Rattle.urlpattern.specs.Patterns.{pattern_view}
use Rattle.urlpattern.specs.UrlPatternMatchInput.TheVariants as inputs
use Rattle.example.proofs.permission.refusal.Goals as goal

if_none : {X : Type 0} (found : Option X) (P Q : Type 0) (R : X → Type 0) → (P → Q) → MatchOption found P R → IfNone found Q
if_none None P Q R f is = f is
if_none (Some x) P Q R f is = tt

if_some : {X : Type 0} (found : Option X) (P : Type 0) (R S : X → Type 0) → ((x : X) → R x → S x) → MatchOption found P R → IfSome found S
if_some None P R S f is = tt
if_some (Some x) P R S f is = f x is

pub returns-clause-permitted : goal.returns-clause-permitted
returns-clause-permitted g c =
    IfOk-weaker c.mismatch.result _ _ (λ found. if_none found _ _ _ (λ matched. (texts_of_url c.args.url.now, refl, matched))) c.mismatch.ensures.first

pub returns-clause-refused : goal.returns-clause-refused
returns-clause-refused g c =
    let pattern = pattern_view c.args.permitted.now in
    let input = inputs.Url c.args.url.now in
    IfOk-weaker c.mismatch.result _ _
    (λ found. if_some found _ _ _
    (λ component is has.
    let long = c.tests_agree_with_matches.ensures.not_both g.R.RegExp.answer pattern input has (inr (texts_of_url c.args.url.now, refl, (component, is.1))) in omega (arith, long)))
    c.mismatch.ensures.first

pub returns-clause-first : goal.returns-clause-first
returns-clause-first g c = IfOk-weaker c.mismatch.result _ _ (λ found. if_some found _ _ _ (λ component is. is)) c.mismatch.ensures.first
