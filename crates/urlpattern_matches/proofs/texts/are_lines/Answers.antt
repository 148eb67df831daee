use Rattle.std.proofs.Common.{◌≡◌, ◌<◌, ◌≤◌, ◌∙◌, arith, ap, get_or, length, refl, subst, sym, take_all}
use Rattle.std.proofs.lemmas.Bool.{false≢true}
use Rattle.std.proofs.lemmas.List.Elements.{All-more}
use Rattle.std.specs.Prelude.{All}
use Rattle.std.specs.Str.{chars}
use Rattle.urlpattern_components.proofs.EightLemmas.{at-each, of_each}
use Rattle.urlpattern_components.specs.declared.eight.ComponentName.{ComponentName}
use Rattle.urlpattern_components.specs.declared.eight.ComponentName.TheVariants.{Protocol}
use Rattle.urlpattern_components.specs.Eight.{at}
use Rattle.urlpattern_init.specs.UrlTexts.{EachIsLine, IsLine}
use Rattle.urlpattern_matches.specs.GroupTexts.{borrowed_texts}
use Rattle.urlpattern_matches.proofs.texts.are_lines.Goals as goal

pub returns-then-not-is_line : goal.returns-then-not-is_line
returns-then-not-is_line c =
    let texts = c.args.texts.now in
    let name = get_or c.all-name-items.result c.loop-name.name-index Protocol in
    let same = at-each (λ other. chars (at texts other).now) name ∙ ap (λ text. chars text.now) (sym c.get.ensures) in
    (λ is. absurd (false≢true is), λ lines. absurd (false≢true (sym c.if-not-is_line.true ∙ c.is_line.ensures.1 (subst IsLine same (lines name)))))

pub loop-name-preserved : goal.loop-name-preserved
loop-name-preserved c =
    let texts = c.args.texts.now in
    let names = c.all-name-items.result in
    let eight : length names ≡ 8 = ap length c.all-name-items.ensures in
    let within : c.loop-name.name-index < length names = omega arith in
    let name = get_or names c.loop-name.name-index Protocol in
    let same = at-each (λ other. chars (at texts other).now) name ∙ ap (λ text. chars text.now) (sym c.get.ensures) in
    All-more (λ name. IsLine (at (borrowed_texts texts) name)) names c.loop-name.name-index Protocol within c.loop-name.invariant
    (subst IsLine (sym same) (c.is_line.ensures.0 c.if-not-is_line.false))

pub returns : goal.returns
returns c =
    let names = c.all-name-items.result in
    let eight : length names ≡ 8 = ap length c.all-name-items.ensures in
    let all : length names ≤ c.loop-name.name-index = omega arith in
    let P : ComponentName → Type 0 = λ name. IsLine (at (borrowed_texts c.args.texts.now) name) in
    let lines : EachIsLine (borrowed_texts c.args.texts.now) =
    of_each P (subst (All P) (take_all c.loop-name.name-index names all ∙ c.all-name-items.ensures) c.loop-name.invariant) in
    (λ is. lines, λ is. refl)
