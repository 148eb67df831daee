use Rattle.std.proofs.Common.{◌∙◌, ap, arith, map, subst}
use Rattle.urlpattern_compare.specs.CommonTexts.{IsCommonAnswer}
use Rattle.urlpattern_compare.specs.declared.common_texts.Common.{Common}
use Rattle.urlpattern_urls.proofs.CommonUrlLemmas.{made_before, nothing_found, own_found, url_found}
use Rattle.urlpattern_urls.proofs.unlike.UrlFacts.find_common.Goals as goal

pub find_common-requires-clause-none_of : goal.find_common-requires-clause-none_of
find_common-requires-clause-none_of c =
    let before = map (λ it. it.now) c.deref.result.now in
    let are = ap (map (λ it. it.now)) c.deref.ensures.value ∙ c.in_ok-avoided.ensures in
    made_before c.args.self.now.patterns.items (map (λ it. it.now) c.args.none_of.now) before c.requires.facts c.requires.none_of are

pub returns-in-Ok : goal.returns-in-Ok
returns-in-Ok c =
    let all_of = map (λ it. it.now) c.args.all_of.now in
    let before = map (λ it. it.now) c.deref.result.now in
    let are = ap (map (λ it. it.now)) c.deref.ensures.value ∙ c.in_ok-avoided.ensures in
    let common = subst (λ (found : Common). IsCommonAnswer all_of before c.args.limits found) c.in-Texts.is c.in_ok-found.ensures.answer in
    url_found c.args.self.now.patterns.items all_of (map (λ it. it.now) c.args.none_of.now) before c.in-Texts.texts c.in_ok-url-in-Texts.field-0 c.in-Ok.url c.requires.facts are common
    c.in_ok-url-in-Texts.ensures c.in-Ok.is

pub returns-in-Nothing : goal.returns-in-Nothing
returns-in-Nothing c =
    let all_of = map (λ it. it.now) c.args.all_of.now in
    let before = map (λ it. it.now) c.deref.result.now in
    let are = ap (map (λ it. it.now)) c.deref.ensures.value ∙ c.in_ok-avoided.ensures in
    let never = subst (λ (found : Common). IsCommonAnswer all_of before c.args.limits found) c.in-Nothing.is c.in_ok-found.ensures.answer in
    nothing_found c.args.self.now.patterns.items all_of (map (λ it. it.now) c.args.none_of.now) before c.requires.facts are never

pub own_doubt-requires : goal.own_doubt-requires
own_doubt-requires c =
    let all_of = map (λ it. it.now) c.args.all_of.now in
    let before = map (λ it. it.now) c.deref.result.now in
    let are = ap (map (λ it. it.now)) c.deref.ensures.value ∙ c.in_ok-avoided.ensures in
    let doubtful = subst (λ (found : Common). IsCommonAnswer all_of before c.args.limits found) c.in-Unknown.is c.in_ok-found.ensures.answer in
    own_found c.args.self.now.patterns.items all_of (map (λ it. it.now) c.args.none_of.now) before c.args.limits c.in-Unknown.doubt c.len.result c.requires.facts are (omega (arith, c.len.ensures, c.args.self.now.patterns.ok)) doubtful
