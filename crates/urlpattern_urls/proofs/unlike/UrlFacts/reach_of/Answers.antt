use Rattle.std.proofs.Common.{◌≡◌, ◌∙◌, List, [], ◌∷◌, ap, arith, length, map, subst, sym}
use Rattle.urlpattern_compare.specs.CoveringTogether.{IsLeastCover}
use Rattle.urlpattern_compare.specs.Reaching.{IsReach}
use Rattle.urlpattern_compare.specs.declared.common_texts.PatternAutomata.{PatternAutomata}
use Rattle.urlpattern_compare.specs.declared.reaching.Reach.{Reach}
use Rattle.urlpattern_urls.proofs.CommonUrlLemmas.{made_before, ones, own_found, url_found}
use Rattle.urlpattern_urls.proofs.ReachLemmas.{url_cover}
use Rattle.urlpattern_urls.specs.UrlReaching.{IsUrlCover, later}
use Rattle.urlpattern_urls.proofs.unlike.UrlFacts.reach_of.Goals as goal

pub reach_of-requires-clause-earlier : goal.reach_of-requires-clause-earlier
reach_of-requires-clause-earlier c =
    let before = map (λ it. it.now) c.deref.result.now in
    let are = ap (map (λ it. it.now)) c.deref.ensures.value ∙ c.in_ok-before.ensures in
    made_before c.args.self.now.patterns.items (map (λ it. it.now) c.args.earlier.now) before c.requires.facts c.requires.earlier are

pub returns-in-Ok : goal.returns-in-Ok
returns-in-Ok c =
    let asked : PatternAutomata = c.args.asked.now in
    let before = map (λ it. it.now) c.deref.result.now in
    let are = ap (map (λ it. it.now)) c.deref.ensures.value ∙ c.in_ok-before.ensures in
    let common = subst (λ (found : Reach). IsReach c.args.limits before asked found) c.in-First.is c.in_ok-found.ensures in
    url_found c.args.self.now.patterns.items (asked ∷ []) (map (λ it. it.now) c.args.earlier.now) before c.in-First.texts c.in_ok-url-in-First.field-0 c.in-Ok.url c.requires.facts are common
    c.in_ok-url-in-First.ensures c.in-Ok.is

pub returns-in-Never : goal.returns-in-Never
returns-in-Never c =
    let asked : PatternAutomata = c.args.asked.now in
    let facts = c.args.self.now.patterns.items in
    let earlier = map (λ it. it.now) c.args.earlier.now in
    let before = map (λ it. it.now) c.deref.result.now in
    let are = ap (map (λ it. it.now)) c.deref.ensures.value ∙ c.in_ok-before.ensures in
    let never = subst (λ (found : Reach). IsReach c.args.limits before asked found) c.in-Never.is c.in_ok-found.ensures in
    let least = subst (λ (l : List PatternAutomata). IsLeastCover c.args.limits l asked c.in-Never.by.items) are never in
    let counted : c.len-count.result ≡ length facts = omega (arith, c.len-count.ensures, c.args.self.now.patterns.ok) in
    let own = c.in_ok-after-in-Never.ensures ∙ ap (later c.len-count.result) c.deref-in-Never.ensures.value ∙ ap (λ n. later n c.in-Never.by.items) counted in
    subst (λ by. IsUrlCover facts c.args.limits earlier asked by) (sym own) (url_cover facts earlier c.args.limits asked c.in-Never.by.items (ones facts c.requires.facts) least)

pub own_doubt-requires : goal.own_doubt-requires
own_doubt-requires c =
    let asked : PatternAutomata = c.args.asked.now in
    let before = map (λ it. it.now) c.deref.result.now in
    let are = ap (map (λ it. it.now)) c.deref.ensures.value ∙ c.in_ok-before.ensures in
    let doubtful = subst (λ (found : Reach). IsReach c.args.limits before asked found) c.in-Unknown.is c.in_ok-found.ensures in
    own_found c.args.self.now.patterns.items (asked ∷ []) (map (λ it. it.now) c.args.earlier.now) before c.args.limits c.in-Unknown.doubt c.len-count.result c.requires.facts are (omega (arith, c.len-count.ensures, c.args.self.now.patterns.ok)) doubtful.0
