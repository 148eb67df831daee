use Rattle.std.proofs.Common.{List, ap, arith, length, map, subst, sym, ℕ, ◌≡◌, ◌<◌, ◌∙◌}
use Rattle.std.proofs.lemmas.List.{length-map}
use Rattle.std.specs.Prelude.{All}
use Rattle.urlpat_tables.proofs.EndlessLemmas.{AreTakenAway, nothing-left, ranked-if, taken-more, taken-none}
use Rattle.urlpat_tables.proofs.ListLemmas.{got}
use Rattle.urlpat_tables.specs.RewriteRules.{LeadsAmong, LeadsOutside}
use Rattle.urlpat_tables.proofs.endless.endless_among.Goals as goal

pub loop-round-init : goal.loop-round-init
loop-round-init c =
    let leads = map (λ it. it.items) c.args.leads.now in
    let long : length leads ≡ length c.args.leads.now = length-map c.args.leads.now _ in
    taken-none leads c.in_ok-rest.rest.items (c.in_ok-rest.ensures.length ∙ sym long) (λ index within. c.in_ok-rest.ensures.all index (omega (arith, within, long)))
    (λ k d less. omega (arith, long, c.in_ok-rest.ensures.within k d less))

pub ended_in-requires : goal.ended_in-requires
ended_in-requires c =
    let long : length (map (λ it. it.items) c.args.leads.now) ≡ length c.args.leads.now = length-map c.args.leads.now _ in
    subst (All (λ rule. rule < length c.args.leads.now)) (sym c.deref.ensures.value)
    (λ k d less. omega (arith, long, c.loop-round.invariant.0 k d less))

pub remove-requires : goal.remove-requires
remove-requires c =
    let ended = subst (λ (rest : List ℕ). LeadsOutside (map (λ it. it.items) c.args.leads.now) rest c.in-Some.place) c.deref.ensures.value c.in-Some.ensures.ended in
    omega (arith, c.loop-round.rest.ok.0, (got c.loop-round.rest.items c.in-Some.place ended.0 ended.2).0)

pub loop-round-preserved : goal.loop-round-preserved
loop-round-preserved c =
    let leads = map (λ it. it.items) c.args.leads.now in
    taken-more leads c.loop-round.rest.items c.remove.new.self.items c.loop-round.round c.in-Some.place c.loop-round.invariant
    (subst (λ (rest : List ℕ). LeadsOutside leads rest c.in-Some.place) c.deref.ensures.value c.in-Some.ensures.ended) c.remove.ensures.items

pub returns-in-None-clause-ranked : goal.returns-in-None-clause-ranked
returns-in-None-clause-ranked c = ranked-if (map (λ it. it.items) c.args.leads.now) c.loop-round.rest.items c.loop-round.round c.loop-round.invariant

pub returns-in-None-clause-endless : goal.returns-in-None-clause-endless
returns-in-None-clause-endless c =
    let leads = map (λ it. it.items) c.args.leads.now in
    subst (λ (rest : List ℕ). All (LeadsAmong leads rest) rest) c.deref.ensures.value c.in-None.ensures.none

pub returns-clause-ranked : goal.returns-clause-ranked
returns-clause-ranked c = ranked-if (map (λ it. it.items) c.args.leads.now) c.loop-round.rest.items c.loop-round.round c.loop-round.invariant

pub returns-clause-endless : goal.returns-clause-endless
returns-clause-endless c =
    let leads = map (λ it. it.items) c.args.leads.now in
    let rest = c.loop-round.rest.items in
    let long : length leads ≡ length c.args.leads.now = length-map c.args.leads.now _ in
    let last : c.loop-round.round ≡ length leads = omega (arith, long) in
    let none = nothing-left leads rest (subst (AreTakenAway leads rest) last c.loop-round.invariant) in
    λ k d less. absurd (omega (arith, less, ap length none))
