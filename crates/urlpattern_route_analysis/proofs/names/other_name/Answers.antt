use Rattle.std.proofs.Common.{◌≡◌, ◌∙◌, ◌+◌, ◌++◌, ℕ, Global, List, String, ap, arith, length, string_bytes, subst, sym, take_all}
use Rattle.std.proofs.lemmas.List.{length-append, length-map}
use Rattle.std.proofs.lemmas.Result.{MatchResult-weaker}
use Rattle.urlpattern_route_analysis.proofs.CaseSteps.{literal_at}
use Rattle.urlpattern_route_analysis.proofs.NamingLemmas.{IsLongerSoFar, longer_next, longer_other, own_other}
use Rattle.urlpattern_route_analysis.specs.Cases.{literal_view, literal_views}
use Rattle.urlpattern_route_analysis.specs.Formulas.{atom_view, of_name}
use Rattle.urlpattern_route_analysis.specs.Naming.{IsOther}
use Rattle.urlpattern_route_analysis.proofs.names.other_name.Goals as goal
use Rattle.urlpattern_route_analysis.proofs.names.other_name.Goals.{in-Name+else-literal+in_ok-push_str-in-Name, in-Name+else-own-index, in-Url}

pub returns-then-literal : goal.returns-then-literal
returns-then-literal c =
    let literals = literal_views c.args.literals.now in
    let it = c.literal-item.result in
    let own = ap atom_view c.in-Name.is ∙ ap (λ (k : ℕ). of_name k (string_bytes c.in-Name.name)) c.if-own-index.true in
    let other =
    own_other literals c.args.index (string_bytes c.in-Name.name) c.loop-literal.literal-index (literal_view it) (literal_at c.args.literals.now c.loop-literal.literal-index it c.loop-literal-test.true c.literal-item.is) own
    c.if-literal.true in
    MatchResult-weaker c.clone.result c.clone.ensures.cases (λ made same. subst (IsOther literals c.args.index) (sym same) other) (λ error given. tt)

pub loop-literal-preserved : goal.loop-literal-preserved
loop-literal-preserved c =
    let views = literal_views c.args.literals.now in
    let it = c.literal-item.result in
    let there = literal_at c.args.literals.now c.loop-literal.literal-index it c.loop-literal-test.true c.literal-item.is in
    let next = longer_next views c.args.index (string_bytes c.loop-literal.other) (string_bytes c.match-literal.other) c.loop-literal.literal-index (literal_view it) there in
    elim c.match-literal.branch [
      | in-Name+else-literal+in_ok-push_str-in-Name w ↦
          let bytes : string_bytes c.match-literal.other ≡ string_bytes c.loop-literal.other ++ string_bytes w.in-Name.name =
          ap (λ (t : String Global). string_bytes t) w.other-is ∙ w.in_ok-push_str-in-Name.ensures.bytes ∙ ap (λ (t : List ℕ). string_bytes c.loop-literal.other ++ t) w.deref.ensures in
          let long : length (string_bytes c.match-literal.other) ≡ length (string_bytes c.loop-literal.other) + length (string_bytes w.in-Name.name) =
          ap (λ (t : List ℕ). length t) bytes ∙ length-append (string_bytes c.loop-literal.other) (string_bytes w.in-Name.name) in
          next (omega (arith, long)) c.loop-literal.invariant
          (λ name is.
          let both : of_name w.in-Name.own (string_bytes w.in-Name.name) ≡ of_name c.args.index name = sym (ap atom_view w.in-Name.is) ∙ is in
          let same : string_bytes w.in-Name.name ≡ name = cc in
          let as_long : length (string_bytes w.in-Name.name) ≡ length name = ap (λ (t : List ℕ). length t) same in (w.if-literal.false, omega (arith, long, as_long)))
      | in-Name+else-own-index w ↦
          let as_long : length (string_bytes c.match-literal.other) ≡ length (string_bytes c.loop-literal.other) = ap (λ (t : String Global). length (string_bytes t)) w.other-is in
          next (omega (arith, as_long)) c.loop-literal.invariant
          (λ name is.
          let both : of_name w.in-Name.own (string_bytes w.in-Name.name) ≡ of_name c.args.index name = sym (ap atom_view w.in-Name.is) ∙ is in
          let same : w.in-Name.own ≡ c.args.index = cc in absurd (w.if-own-index.false same))
      | in-Url w ↦
          let as_long : length (string_bytes c.match-literal.other) ≡ length (string_bytes c.loop-literal.other) = ap (λ (t : String Global). length (string_bytes t)) w.other-is in
          next (omega (arith, as_long)) c.loop-literal.invariant
          (λ name is.
          let both = sym (ap atom_view w.in-Url.is) ∙ is in
          let never : ⊥ = cc in absurd never)
    ]

pub returns : goal.returns
returns c =
    let views = literal_views c.args.literals.now in
    let other = string_bytes c.loop-literal.other in
    subst (IsOther views c.args.index) (sym c.in_ok-push_str.ensures.bytes)
    (longer_other views c.args.index other _
    (subst (IsLongerSoFar c.args.index other) (take_all c.loop-literal.literal-index views (omega (arith, length-map c.args.literals.now literal_view))) c.loop-literal.invariant))
