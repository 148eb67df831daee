use Rattle.std.proofs.Common.{[], ◌∷◌}
use Rattle.urlpattern.proofs.ContentionLemmas.{alone_doubt, alone_may, doubt_may, texts_may, unless}
use Rattle.urlpattern.specs.declared.contention.ContentionDoubt.TheVariants.{First}
use Rattle.urlpattern.proofs.contention.contended_for.Goals as goal

pub returns-in-Unknown-second_alone : goal.returns-in-Unknown-second_alone
returns-in-Unknown-second_alone c =
    let limits = c.args.limits in
    let first = c.args.first.now in
    let second = c.args.second.now in
    let doubt = c.in-Unknown-second_alone.doubt in
    let is = alone_doubt limits second first c.in_ok-second_alone.second_alone doubt c.in-Unknown-second_alone.is c.in_ok-second_alone.ensures in (
      texts_may limits (first ∷ second ∷ []) [] c.args.texts c.requires.texts,
      alone_may limits first second c.in_ok-first_alone.first_alone c.in_ok-first_alone.ensures (λ nothing. let e = c.in-Texts.is in cc),
      doubt_may limits (second ∷ []) (first ∷ []) doubt is,
      is,
    )

pub returns-in-Unknown : goal.returns-in-Unknown
returns-in-Unknown c =
    let limits = c.args.limits in
    let first = c.args.first.now in
    let second = c.args.second.now in
    let doubt = c.in-Unknown.doubt in
    let is = alone_doubt limits first second c.in_ok-first_alone.first_alone doubt c.in-Unknown.is c.in_ok-first_alone.ensures in
    unless limits first second c.in_ok-second_alone.second_alone (First doubt) c.unless_nothing.result c.unless_nothing.ensures c.in_ok-second_alone.ensures
    (texts_may limits (first ∷ second ∷ []) [] c.args.texts c.requires.texts) (doubt_may limits (first ∷ []) (second ∷ []) doubt is) is
