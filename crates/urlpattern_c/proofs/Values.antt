-- The machine values of a `BoxParts` and of a `Slot`. Assumes `Logic`.
use Rattle.std.proofs.Common.{◌≡◌, ℕ, List, [], ◌∷◌, ◌++◌, refl, subst}
use mathlib.Core.Bool.{true, ◌&&◌}
use mathlib.Core.Logic.{inl, inr}
use lib.Dec.{T, lit<}
use seplogic.Ra.Ura.{Ura}
use mir.Syntax.{impl, tnil, dnil}
use mir.Raw.{raw as bare}
use mir.Val.{Val, vptr, vstruct, vcons, vnil, of_list, has_ty, WT}
use base.Logic.{never, fst∗}
use types.Logic.{Logic, sem}
use types.Kit.{Item, Goal, Seq, Step, step, ‵, ◌$◌, move, drop, fsplit, fjoin, fpick, fpack, feq_i, feq_l}
use denote.RattleType.{RattleType, Valss}
use denote.Builtin.{RawPtr}
use denote.Memory.{lone}
use denote.RawPtr.{Ptr, block_ptr, null_ptr, ptr_val, in_a_block}
use denote.Steps.{nothing}
use denote.Param.{layout}
use denote.Param.Laws.{Laws}
use denote.Struct.Struct.{within}
use denote.Struct.Owning.{shape}
use Rattle.std.specs.declared.alloc.Allocator.{Ghosts}
use Rattle.std.proofs.alloc.Calls.{Al, handle_tells}
use Rattle.std.proofs.cell.Inside.{Good}
use Rattle.std.specs.Box.Ownership.{box_owns}
use Rattle.std.proofs.ResultValues.{and_tt}
use Rattle.std.specs.Prelude.{IsSome, Option, None, Some}
use Rattle.urlpattern_c.specs.Memory.{Kept, kept_patterns_box, kept_policy_box, kept_router_box, kept_routes_box, leads_to}
use Rattle.urlpattern_ffi.specs.declared.pattern_box.PatternBox.{PatternBox}
use Rattle.urlpattern_ffi_routes.specs.declared.routes_box.RoutesBox.{RoutesBox}
use Rattle.urlpattern_ffi_tables.specs.declared.policy_box.PolicyBox.{PolicyBox}
use Rattle.urlpattern_ffi_tables.specs.declared.router_box.RouterBox.{RouterBox}
use Rattle.urlpattern_c.specs.contracts.box_parts.BoxParts as parts
use Rattle.urlpattern_c.specs.contracts.slot.Slot as slot

abbrev pub both : Val → Val → Val
both v w = vstruct (vcons v (vcons w vnil))

module _ (R Z : RattleType) (L : Laws Z) (g : Ghosts Z.Denot) where
  abbrev pub BoxParts : RattleType
  BoxParts = parts.the_row R Z g

  abbrev al : Al
  al = record { row = Z; laws = L; g = g; d = impl [] tnil dnil; drops = impl [] tnil dnil }

  pub loose_good : (b o : ℕ) (h : Val) → Good (layout Z) h → T (has_ty (layout Z) h && true) × WT (both (vptr b o) h)
  loose_good b o h fits = (and_tt (has_ty (layout Z) h) fits.0, (tt, (fits.1, tt)))

  module _ {M : Type 1} {𝓤 : Ura M} {𝓛 : Logic 𝓤} {K : Type 0} {Γ : List (Item 𝓤)} {G : Goal 𝓤 𝓛.H} where
    pub loose_out : K → (d : BoxParts.Denot) (vs : List Val)
        → ((b o : ℕ) (h : Val) → d.at ≡ block_ptr b o → vs ≡ both (vptr b o) h ∷ [] → Good (layout Z) h → Seq K 𝓛 (‵ (box_owns (g.dealloc_token d.alloc) R (block_ptr b o) d.value) ∷ ‵ (Z.own_val d.alloc (h ∷ [])) ∷ Γ) G)
        → Seq K 𝓛 (‵ (BoxParts.own_val d vs) ∷ Γ) G
    loose_out t d vs k =
        fsplit t $ fpick t (λ vss. fsplit t $ feq_l t (λ ev. fsplit t $ feq_l t (λ ep. fsplit t $ handle_tells al t d.alloc vss.1.0 (λ h ea fits. move t (1 ∷ []) $ drop t $ move t (1 ∷ []) $
        in_a_block t d.at (λ p. box_owns (g.dealloc_token d.alloc) R p d.value) (fst∗ 𝓤 (never 𝓤) (sem 𝓛 (g.dealloc_token d.alloc (bare (lone R.mir)) null_ptr))) (λ b o e. k b o h e
        (subst (λ (p : Ptr). vs ≡ vstruct (of_list (ptr_val p ∷ h ∷ [])) ∷ []) e
        (subst (λ (ws : List Val). vs ≡ vstruct (of_list (ptr_val d.at ∷ (ws ++ []))) ∷ []) ea (subst (λ (ps : List Val). vs ≡ vstruct (of_list (ps ++ (vss.1.0 ++ []))) ∷ []) ep ev))) fits)))))

    pub loose_in : K → (b o : ℕ) (h : Val) (a : Z.Denot) (x : R.Denot)
        → Step K 𝓛 (‵ (BoxParts.own_val (record { at = block_ptr b o; alloc = a; value = x }) (both (vptr b o) h ∷ [])) ∷ Γ) G (‵ (box_owns (g.dealloc_token a) R (block_ptr b o) x) ∷ ‵ (Z.own_val a (h ∷ [])) ∷ Γ) G
    loose_in t b o h a x = step (λ s. let v : Val = both (vptr b o) h in
        nothing t $ move t (2 ∷ 0 ∷ []) $ fjoin t $ feq_i t (List Val) (vptr b o ∷ []) (vptr b o ∷ []) refl $ fjoin t $ feq_i t (List Val) (v ∷ []) (v ∷ []) refl $ fjoin t $
        fpack t (Valss (RawPtr ∷ Z ∷ [])) (within (shape (parts.the_type R Z g)) (block_ptr b o, (a, tt)) (v ∷ [])) (vptr b o ∷ [], (h ∷ [], tt)) $ fjoin t $ s)

abbrev pub single : Val → Val
single v = vstruct (vcons v vnil)

abbrev pub Slot : RattleType
Slot = slot.the_row

pub slot_good : (p : Ptr) → Good (layout Slot) (single (ptr_val p))
slot_good (block_ptr b o) = (tt, (tt, tt))
slot_good null_ptr = (tt, (record { fits = lit< tt }, tt))

-- What a slot has that has patterns.
pub filled_patterns : (held : Option Kept) → IsSome (kept_patterns_box held) → (kept : PatternBox) × (held ≡ Some (inl kept))
filled_patterns None none = absurd cc
filled_patterns (Some (inl kept)) some = (kept, refl)
filled_patterns (Some (inr other)) none = absurd cc

-- What a slot has that has a router.
pub filled_router : (held : Option Kept) → IsSome (kept_router_box held) → (kept : RouterBox) × (held ≡ Some (inr (inl kept)))
filled_router None none = absurd cc
filled_router (Some (inl patterns)) none = absurd cc
filled_router (Some (inr (inl kept))) some = (kept, refl)
filled_router (Some (inr (inr other))) none = absurd cc

-- What a slot has that has a policy.
pub filled_policy : (held : Option Kept) → IsSome (kept_policy_box held) → (kept : PolicyBox) × (held ≡ Some (inr (inr (inl kept))))
filled_policy None none = absurd cc
filled_policy (Some (inl patterns)) none = absurd cc
filled_policy (Some (inr (inl router))) none = absurd cc
filled_policy (Some (inr (inr (inl kept)))) some = (kept, refl)
filled_policy (Some (inr (inr (inr routes)))) none = absurd cc

-- What a slot has that has static routes.
pub filled_routes : (held : Option Kept) → IsSome (kept_routes_box held) → (kept : RoutesBox) × (held ≡ Some (inr (inr (inr kept))))
filled_routes None none = absurd cc
filled_routes (Some (inl patterns)) none = absurd cc
filled_routes (Some (inr (inl router))) none = absurd cc
filled_routes (Some (inr (inr (inl policy)))) none = absurd cc
filled_routes (Some (inr (inr (inr kept)))) some = (kept, refl)

module _ {M : Type 1} {𝓤 : Ura M} {𝓛 : Logic 𝓤} {K : Type 0} {Γ : List (Item 𝓤)} {G : Goal 𝓤 𝓛.H} where
  pub slot_out : K → (d : Slot.Denot) (vs : List Val) → (vs ≡ single (ptr_val d.at) ∷ [] → Seq K 𝓛 (‵ (leads_to d.at d.held) ∷ Γ) G) → Seq K 𝓛 (‵ (Slot.own_val d vs) ∷ Γ) G
  slot_out t d vs k = fsplit t $ fpick t (λ vss. fsplit t $ feq_l t (λ ev. fsplit t $ feq_l t (λ ep. drop t $ k (subst (λ (ps : List Val). vs ≡ vstruct (of_list (ps ++ [])) ∷ []) ep ev))))

  pub slot_in : K → (p : Ptr) (x : Option Kept) → Step K 𝓛 (‵ (Slot.own_val (record { at = p; held = x }) (single (ptr_val p) ∷ [])) ∷ Γ) G (‵ (leads_to p x) ∷ Γ) G
  slot_in t p x = step (λ s. let v : Val = single (ptr_val p) in
      nothing t $ feq_i t (List Val) (ptr_val p ∷ []) (ptr_val p ∷ []) refl $ fjoin t $ feq_i t (List Val) (v ∷ []) (v ∷ []) refl $ fjoin t $
      fpack t (Valss (RawPtr ∷ [])) (within (shape slot.the_type) (p, tt) (v ∷ [])) (ptr_val p ∷ [], tt) $ fjoin t $ s)
