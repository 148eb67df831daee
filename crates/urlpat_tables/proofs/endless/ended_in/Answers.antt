use Rattle.std.proofs.Common.{List, ap, get_or, map, subst, ℕ, ◌∙◌}
use Rattle.std.proofs.lemmas.Bool.{MatchBool-at_false, MatchBool-at_true}
use Rattle.std.proofs.lemmas.List.{take_all}
use Rattle.std.proofs.lemmas.List.Elements.{All-more}
use Rattle.std.specs.Prelude.{All, Contains, Vec}
use Rattle.std.specs.declared.alloc.Global.{Global}
use Rattle.urlpat_tables.proofs.EndlessLemmas.{leads-among, leads-outside}
use Rattle.urlpat_tables.specs.RewriteRules.{LeadsAmong}
use Rattle.urlpat_tables.proofs.endless.ended_in.Goals as goal

pub bounds-leads-index : goal.bounds-leads-index
bounds-leads-index c = c.requires c.loop-place.place 0 c.loop-place-test.true

pub returns-then-not-leads_among-clause-ended : goal.returns-then-not-leads_among-clause-ended
returns-then-not-leads_among-clause-ended c =
    let rest = c.args.rest.now in
    let same = c.deref.ensures.value ∙ ap (λ (it : Vec ℕ Global). it.items) c.index-leads-index.is in
    leads-outside (λ (it : Vec ℕ Global). it.items) c.args.leads.now rest c.loop-place.place c.index-leads-index.result c.loop-place-test.true (c.requires c.loop-place.place 0 c.loop-place-test.true)
    (subst (λ (others : List ℕ). (next : ℕ) → Contains others next → ¬ Contains rest next) same (MatchBool-at_false _ _ c.if-not-leads_among.true c.leads_among.ensures))

pub loop-place-preserved : goal.loop-place-preserved
loop-place-preserved c =
    let rest = c.args.rest.now in
    let same = c.deref.ensures.value ∙ ap (λ (it : Vec ℕ Global). it.items) c.index-leads-index.is in
    All-more (LeadsAmong (map (λ it. it.items) c.args.leads.now) rest) rest c.loop-place.place 0 c.loop-place-test.true c.loop-place.invariant
    (leads-among (λ (it : Vec ℕ Global). it.items) c.args.leads.now rest (get_or rest c.loop-place.place 0) c.index-leads-index.result (c.requires c.loop-place.place 0 c.loop-place-test.true)
    (subst (λ (others : List ℕ). (next : ℕ) × Contains others next × Contains rest next) same (MatchBool-at_true _ _ c.if-not-leads_among.false c.leads_among.ensures)))

pub returns-clause-none : goal.returns-clause-none
returns-clause-none c =
    subst (All (LeadsAmong (map (λ it. it.items) c.args.leads.now) c.args.rest.now)) (take_all c.loop-place.place c.args.rest.now c.loop-place-test.false) c.loop-place.invariant
