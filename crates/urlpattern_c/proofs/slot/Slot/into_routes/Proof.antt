-- `into_routes` gives up a pointer that is not null.
use Rattle.std.proofs.Common.{◌≡◌, List, [], ◌∷◌, ◌++◌, refl, sym, ap, subst}
use Rattle.std.specs.Prelude.{IsSome, Option, Some}
use mir.Val.{Val, vptr}
use mir.Raw.{raw as bare}
use base.Logic.{SProp, ent, emp, never, id⊢, fst∗}
use prog.Wp.{WpFn}
use types.Logic.{sem}
use types.Kit.{‵, raw, ◌⊛◌, ◌$◌, ◌∵◌, !, qed, by, move, keep, split, fsplit, fjoin, suffices, use0, rewrite}
use types.Run.{stop, fld, of_opd, no_more, and_then, returns, enter}
use types.ByLocal.{alloc_all, pass_all, free_all, look_at, get, get_in, sets}
use types.Part.{agg, sub, whole}
use contract.Monad.{fact, fact_i}
use contract.Running.{tables}
use denote.RattleType.{RattleType, owns}
use denote.Memory.{lone}
use denote.Signature.{types_at, plain}
use denote.RawPtr.{Ptr, block_ptr, null_ptr, ptr_val, in_a_block}
use denote.Steps.{nothing, heard}
use denote.Triple.Entry.{alive}
use denote.Triple.Walked.{Stays, stay_dropped, walk_of, Goes-dropped}
use Rattle.std.proofs.alloc.Calls.{Al, Goes-blank, handle_tells}
use Rattle.std.proofs.raw_atomic.Walks.{proved_at, leaves}
use Rattle.std.specs.Box.Ownership.{box_owns}
use Rattle.std.specs.contracts.alloc.Global as global
use Rattle.std.proofs.alloc.Global.TheLaws as global_laws
use Rattle.std.specs.contracts.impls.GlobalAllocator.TheImpl.{ghosts}
use Rattle.urlpattern_c.specs.Memory.{Kept, heap, kept_routes_box, leads_to}
use Rattle.urlpattern_ffi_routes.specs.contracts.routes_box.RoutesBox as kept
use Rattle.urlpattern_c.proofs.Values.{both, single, Slot, loose_good, loose_in, slot_out, filled_routes}
use Rattle.urlpattern_c.specs.contracts.slot.Slot.into_routes.{ended, clauses}
use Rattle.urlpattern_c.specs.contracts.slot.Slot.into_routes.Key.{name as #self}
use Rattle.urlpattern_c.proofs.slot.Slot.into_routes.Statement.{statement}
use Rattle.urlpattern_c.proofs.slot.Slot.into_routes.Code as code

pub into_routes_spec : {M : Type 1} → statement M
into_routes_spec 𝓤 𝓛 𝓜 𝓡 wired =
    let H = 𝓛.H in let 𝓣 = tables 𝓤 H 𝓜 𝓡 𝓡.env in let c = clauses 𝓛 𝓜.mem 𝓡.returns in let fn = code.function in
    let R : RattleType = kept.the_row in let Z : RattleType = global.the_row in let LZ = global_laws.the_row_laws in
    let al : Al = record { row = Z; laws = LZ; g = ghosts; d = mir.Syntax.impl [] mir.Syntax.tnil mir.Syntax.dnil; drops = mir.Syntax.impl [] mir.Syntax.tnil mir.Syntax.dnil } in
    let hs : Stays ended.signature.params ended.kept = (stay_dropped (plain (λ _. Slot)) ended.kept.0, (stay_dropped (plain (λ _. Z)) ended.kept.1.0, tt)) in
    proved_at 𝓛 ended hs c 𝓜 𝓡 (Goes-blank 𝓛 0 (plain (λ _. Slot)) ended.kept.0 (λ κs x f. tt), (Goes-dropped 𝓛 0 (plain (λ _. Z)) ended.kept.1.0 (λ κs x f. refl), tt)) #self fn (code.unfolded 𝓤 H 𝓜 𝓡 wired) (λ z are.
    let d = z.0.3.0 in let a = z.0.3.1.0 in let Post : Val → SProp 𝓤 = (walk_of 𝓛 ended hs c).post z in let Run : List Val → SProp 𝓤 = λ us. WpFn 𝓤 H 𝓣.C 𝓣.Λ fn us Post in
    qed 𝓛 ((raw (alive 𝓛 ended.signature z.0.0 z.0.1) ⊛ ‵ (owns (types_at ended.signature.params z.0.0) z.0.3 z.0.4)) ∷ raw (fact 𝓤 (IsSome (kept_routes_box d.held))) ∷ []) ∵
    move ! (1 ∷ []) $ heard ! (IsSome (kept_routes_box d.held)) (λ some. let k = filled_routes d.held some in
    split ! $ move ! (1 ∷ []) $ fsplit ! $ slot_out ! d z.0.4.0 (λ at.
    rewrite ! 0 (λ (held : Option Kept). ‵ (leads_to d.at held)) k.1 refl $
    in_a_block ! d.at (λ p. box_owns (ghosts.dealloc_token heap) R p k.0) (fst∗ 𝓤 (never 𝓤) (sem 𝓛 (ghosts.dealloc_token heap (bare (lone R.mir)) null_ptr))) (λ b o e.
    move ! (1 ∷ []) $ fsplit ! $ handle_tells al ! a z.0.4.1.0 (λ h ea fits.
    -- [the handle; nothing; what the slot owned; the tokens].
    let v : Val = single (vptr b o) in let us : z.0.4.0 ≡ v ∷ [] = subst (λ (p : Ptr). z.0.4.0 ≡ single (ptr_val p) ∷ []) e at in
    suffices ! (Run (v ∷ h ∷ [])) (subst (λ (ws : List Val). ent 𝓤 (Run (v ∷ h ∷ [])) (Run ws)) (sym (λ i. us i ++ (ea i ++ []))) (id⊢ 𝓤 (Run (v ∷ h ∷ [])))) $
    enter ! 𝓣.C 𝓣.Λ fn (v ∷ h ∷ []) Post $ alloc_all ! (λ l. pass_all ! refl ((tt, (tt, tt)), (fits, tt)) $
    sets ! (of_opd ! (get_in ! (fld ! refl (stop !)) (sub ! 0 refl (whole !)))) refl (tt, tt) $
    sets ! (of_opd ! (get ! refl)) refl (tt, tt) $
    sets ! (agg ! (and_then ! (get ! refl) (and_then ! (get ! refl) (no_more !)))) refl (loose_good R Z LZ ghosts b o h fits) $
    move ! (2 ∷ 0 ∷ []) $ loose_in R Z LZ ghosts ! b o h a k.0 $
    use0 𝓛 (raw (fact 𝓤 (kept_routes_box d.held ≡ Some k.0))) (fact_i 𝓤 (kept_routes_box d.held ≡ Some k.0) (emp 𝓤) (ap kept_routes_box k.1)) $ nothing ! $ nothing ! $ fjoin ! $ nothing ! $ fjoin ! $
    -- [nothing of the parameters; the fact; the box's; nothing; the tokens; ..].
    returns ! (look_at ! 0 refl) $ free_all ! refl $ keep ! (4 ∷ 0 ∷ 2 ∷ 1 ∷ []) $
    by ! (leaves 𝓛 ended hs c z (both (vptr b o) h) (record { at = block_ptr b o; alloc = a; value = k.0 }) (_, (_, tt)) (tt, (tt, tt)))))))))
