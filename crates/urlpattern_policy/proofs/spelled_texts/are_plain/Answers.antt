use Rattle.std.proofs.Common.{◌≡◌, ◌<◌, ◌≤◌, ◌∙◌, IsTrue, arith, ap, get_or, length, refl, subst, sym, take_all}
use Rattle.std.proofs.lemmas.Bool.{false≢true}
use Rattle.std.proofs.lemmas.List.Elements.{All-more}
use Rattle.std.specs.Prelude.{All}
use Rattle.std.specs.Str.{chars}
use Rattle.urlpattern_components.proofs.EightLemmas.{at-each, of_each}
use Rattle.urlpattern_components.specs.declared.eight.ComponentName.{ComponentName}
use Rattle.urlpattern_components.specs.declared.eight.ComponentName.TheVariants.{Protocol}
use Rattle.urlpattern_components.specs.Eight.{at}
use Rattle.urlpattern_matches.specs.GroupTexts.{borrowed_texts}
use Rattle.urlpattern_policy.specs.Spellings.{ArePlain, is_plain_of}
use Rattle.urlpattern_policy.proofs.spelled_texts.are_plain.Goals as goal

pub returns-then-not-is_plain_of : goal.returns-then-not-is_plain_of
returns-then-not-is_plain_of c =
    let texts = c.args.texts.now in
    let name = get_or c.all-name-items.result c.loop-name.name-index Protocol in
    let same = at-each (λ other. chars (at texts other).now) name ∙ ap (λ text. chars text.now) (sym c.get.ensures) in
    (λ is. absurd (false≢true is), λ plain. absurd (false≢true (sym c.if-not-is_plain_of.true ∙ c.is_plain_of.ensures ∙ sym (ap (is_plain_of name) same) ∙ plain name)))

pub loop-name-preserved : goal.loop-name-preserved
loop-name-preserved c =
    let texts = c.args.texts.now in
    let names = c.all-name-items.result in
    let eight : length names ≡ 8 = ap length c.all-name-items.ensures in
    let within : c.loop-name.name-index < length names = omega arith in
    let name = get_or names c.loop-name.name-index Protocol in
    let same = at-each (λ other. chars (at texts other).now) name ∙ ap (λ text. chars text.now) (sym c.get.ensures) in
    All-more (λ name. IsTrue (is_plain_of name (at (borrowed_texts texts) name))) names c.loop-name.name-index Protocol within c.loop-name.invariant
    (ap (is_plain_of name) same ∙ sym c.is_plain_of.ensures ∙ c.if-not-is_plain_of.false)

pub returns : goal.returns
returns c =
    let names = c.all-name-items.result in
    let eight : length names ≡ 8 = ap length c.all-name-items.ensures in
    let all : length names ≤ c.loop-name.name-index = omega arith in
    let P : ComponentName → Type 0 = λ name. IsTrue (is_plain_of name (at (borrowed_texts c.args.texts.now) name)) in
    let plain : ArePlain (borrowed_texts c.args.texts.now) =
    of_each P (subst (All P) (take_all c.loop-name.name-index names all ∙ c.all-name-items.ensures) c.loop-name.invariant) in
    (λ is. plain, λ is. refl)
