use Rattle.std.proofs.Common.{◌≡◌, ◌<◌, ◌≤◌, ◌∙◌, arith, ap, get_or, length, refl, subst, sym, take, take_all}
use Rattle.std.proofs.lemmas.Bool.{false≢true}
use Rattle.std.proofs.lemmas.List.Elements.{All-more}
use Rattle.std.specs.Prelude.{All}
use Rattle.urlpattern_components.specs.declared.eight.ComponentName.TheVariants.{Protocol}
use Rattle.urlpattern_components.specs.Eight.{components}
use Rattle.urlpattern_generate.proofs.UrlLemmas.{HasText, first_at_fault, texts_had}
use Rattle.urlpattern_generate.specs.UrlsOfTexts.{IsAtFault, runs_on, texts_seen}
use Rattle.urlpattern_generate.proofs.linked_url.other_text.Goals as goal

pub returns-then-not-has_text-clause-other : goal.returns-then-not-has_text-clause-other
returns-then-not-has_text-clause-other c =
    let url = c.args.url.now in
    let texts = c.args.texts.now in
    let names = c.all-name-items.result in
    let i = c.loop-name.name-index in
    let eight : length names ≡ 8 = ap length c.all-name-items.ensures in
    let within : i < length components = omega arith in
    let other : ¬ HasText url texts (get_or names i Protocol) = λ has. false≢true (sym c.if-not-has_text.true ∙ c.has_text.ensures.1 has) in
    subst (λ list. IsAtFault url (texts_seen texts) (get_or list i Protocol)) (sym c.all-name-items.ensures)
    (first_at_fault url texts i (runs_on (texts_seen texts)) refl (c.is_path_at_fault.ensures.other c.if-is_path_at_fault.false) within
    (subst (λ list. All (HasText url texts) (take i list)) c.all-name-items.ensures c.loop-name.invariant)
    (subst (λ list. ¬ HasText url texts (get_or list i Protocol)) c.all-name-items.ensures other))

pub loop-name-preserved : goal.loop-name-preserved
loop-name-preserved c =
    let names = c.all-name-items.result in
    let eight : length names ≡ 8 = ap length c.all-name-items.ensures in
    let within : c.loop-name.name-index < length names = omega arith in
    All-more (HasText c.args.url.now c.args.texts.now) names c.loop-name.name-index Protocol within c.loop-name.invariant (c.has_text.ensures.0 c.if-not-has_text.false)

pub returns-clause-same : goal.returns-clause-same
returns-clause-same c =
    let names = c.all-name-items.result in
    let eight : length names ≡ 8 = ap length c.all-name-items.ensures in
    let all : length names ≤ c.loop-name.name-index = omega arith in
    texts_had c.args.url.now c.args.texts.now
    (subst (All (HasText c.args.url.now c.args.texts.now)) (take_all c.loop-name.name-index names all ∙ c.all-name-items.ensures) c.loop-name.invariant)
