use Rattle.std.proofs.Common.{◌≡◌, ◌∙◌, [], ◌∷◌, ◌++◌, ap, sym, append_assoc}
use Rattle.std.proofs.lemmas.List.{map-id}
use Rattle.std.proofs.lemmas.Iterator.Consumers.{YieldsList-end}
use Rattle.std.proofs.lemmas.Iterator.{YieldsList-from_chars}
use Rattle.std.specs.Str.{chars}
use Rattle.urlpattern_compare.proofs.examples.add_text.Goals as goal

pub loop-c-preserved : goal.loop-c-preserved
loop-c-preserved c =
    c.in_ok-push.ensures.items ∙ ap (λ l. l ++ c.in-Some.c ∷ []) c.loop-c.invariant ∙ append_assoc c.args.text.now.items c.loop-c.yielded (c.in-Some.c ∷ [])

pub returns : goal.returns
returns c =
    let all = YieldsList-end (YieldsList-from_chars c.args.more.now c.utf8.more cc) c.loop-c.yielded _ c.loop-c.yielded_by _ _ c.in-None.is c.next.ensures.steps in
    let same : c.loop-c.yielded ≡ chars c.args.more.now = sym (map-id c.loop-c.yielded) ∙ all.0 in
    c.loop-c.invariant ∙ ap (λ y. c.args.text.now.items ++ y) same
