use Rattle.std.proofs.Common.{◌≡◌, ◌∙◌, ◌++◌, List, [], ◌∷◌, ap, append_assoc, arith, map, subst, sym}
use Rattle.std.proofs.lemmas.List.{append-nil, nil_from_length}
use Rattle.std.specs.Prelude.{string_bytes}
use Rattle.urlpattern_compare.specs.declared.reaching.Reach.{Reach}
use Rattle.urlpattern_ffi_tables.proofs.ReachLemmas.{Zipped, zipped_more}
use Rattle.urlpattern_ffi_tables.specs.WrittenReaches.{array_text}
use Rattle.urlpattern_ffi_tables.proofs.reaches.text_of_each.Goals as goal

pub loop-reach-preserved : goal.loop-reach-preserved
loop-reach-preserved c =
    let invariant = c.loop-reach.invariant in
    let yielded = c.loop-reach.yielded in
    let left = ap (λ items. yielded ++ items) c.in-Some.ensures.steps.0 in record {
      zipped = zipped_more yielded c.loop-reach.texts.items c.push.new.self.items c.in-Some.reach c.in_ok-text.text invariant.zipped c.in_ok-text.ensures c.in_ok-push.ensures.items;
      left = append_assoc yielded (c.in-Some.reach ∷ []) c.next.new.self.rest.items ∙ sym left ∙ invariant.left;
    }

pub returns : goal.returns
returns c =
    let invariant = c.loop-reach.invariant in
    let yielded = c.loop-reach.yielded in
    let texts = c.loop-reach.texts.items in
    let rest = c.loop-reach.reach-iterator.rest in
    let none : rest.items ≡ [] = nil_from_length rest.items (omega (arith, c.in-None.ensures.steps.0, rest.ok)) in
    let all : yielded ≡ c.args.found.items = sym (append-nil yielded) ∙ ap (λ items. yielded ++ items) (sym none) ∙ invariant.left in
    (map string_bytes texts, subst (λ (found : List Reach). Zipped found texts) all invariant.zipped, c.in_ok-text-2.ensures ∙ ap (λ all. array_text (map string_bytes all)) c.deref.ensures.value)
