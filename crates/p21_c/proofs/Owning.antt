-- A handle and a box's components at their machine values. Assumes `Logic`.
use Rattle.std.proofs.Common.{◌≡◌, ℕ, List, [], ◌∷◌, ◌++◌, refl, subst, lit<}
use seplogic.Ra.Ura.{Ura}
use base.Fraction.{full_share}
use mir.Syntax.{impl, tnil, dnil, ty_ptr}
use mir.Raw.{raw as bare}
use mir.Val.{Val, WT, has_ty, vptr, vstruct, vcons, vnil, of_list}
use base.Logic.{ent, via, guard, guard_i, never, fst∗, snd∗}
use contract.Monad.{fact_use}
use types.Logic.{Logic, sem}
use types.Kit.{Item, Goal, Seq, Step, step, ‵, given, ◌$◌, move, drop, fsplit, fjoin, fpick, fpack, learn, use1, feq_i, feq_l}
use denote.RattleType.{RattleType, Valss}
use denote.Memory.{lone}
use denote.RawPtr.{Ptr, RawPtr, block_ptr, null_ptr, ptr_val, in_a_block, lies_at, Testable}
use denote.Signature.{Slot, plain}
use denote.Steps.{nothing}
use denote.Struct.Struct.{within}
use denote.Struct.Owning.{shape}
use Rattle.std.proofs.alloc.Calls.{handle_tells}
use Rattle.std.proofs.cell.Inside.{Good}
use mathlib.Core.Bool.{Bool, true, false, ◌&&◌}
use lib.Dec.{T}
use denote.Param.{layout}
use Rattle.std.proofs.BoxSteps.Form.{Bx}
use Rattle.std.specs.Box.Ownership.{box_owns}
use Rattle.std.specs.Global.{Global}
use Rattle.std.specs.Prelude.{Option, None, Some}
use Rattle.std.specs.contracts.alloc.Global as Heap
use Rattle.std.specs.contracts.impls.GlobalAllocator.TheImpl.{ghosts, dict}
use Rattle.std.proofs.alloc.Global.TheLaws as heap
use Rattle.std.proofs.GlobalToken.{dealloc_token-Testable}
use Rattle.p21_c.specs.Owned.{handle_owns}
use Rattle.p21_c.specs.contracts.contents.Content as Content
use Rattle.p21_c.proofs.contents.Content.TheLaws as content
use Rattle.p21_c.specs.contracts.components.Handle as Handle
use Rattle.p21_c.specs.contracts.components.BoxComponents as BoxComponents

abbrev pub E : Bx
E = record {
  row = Content.the_row;
  laws = content.the_row_laws;
  al =
      record { row = Heap.the_row; laws = heap.the_row_laws; g = ghosts; d = dict; drops = impl [] tnil dnil };
}

abbrev pub PartsRow : RattleType
PartsRow = BoxComponents.the_row Content.the_row Heap.the_row ghosts

abbrev pub FromParts : Slot 0
FromParts = plain (λ _. PartsRow)

abbrev pub FromHandle : Slot 0
FromHandle = plain (λ _. Handle.the_row)

abbrev pub Boxed : Global → Ptr → Content.the_row.Denot → base.Fml.Fml
Boxed a p x = box_owns (ghosts.dealloc_token a) Content.the_row p x

both_tt : (x y : Bool) → T x → T y → T (x && (y && true))
both_tt true true s t = tt
both_tt true false s t = absurd t
both_tt false y s t = absurd s

abbrev pub word : Val → Val → Val
word v h = vstruct (vcons v (vcons h vnil))

tested : {M : Type 1} {𝓤 : Ura M} (𝓛 : Logic 𝓤) (a : Global) (p : Ptr) (x : Content.the_row.Denot)
    → ent 𝓤 (sem 𝓛 (Boxed a p x)) (guard 𝓤 (Testable p) (sem 𝓛 (Boxed a p x)))
tested {𝓤 = 𝓤} 𝓛 a p x =
    fact_use 𝓤 (Testable p) (via 𝓤 _ (snd∗ 𝓤 (sem 𝓛 (lies_at Content.the_row full_share p x))
    (sem 𝓛 (ghosts.dealloc_token a (bare (lone Content.the_row.mir)) p)))
    (dealloc_token-Testable 𝓛 a (bare (lone Content.the_row.mir)) p)) (guard_i 𝓤 (Testable p) (sem 𝓛 (Boxed a p x)))

module _ {M : Type 1} {𝓤 : Ura M} {𝓛 : Logic 𝓤} {K : Type 0} {Γ : List (Item 𝓤)} {G : Goal 𝓤 𝓛.H} where
  -- nothing, or what a box owns
  pub owned_cases : K → (a : Global) (p : Ptr) (value : Option Content.the_row.Denot) → (p ≡ null_ptr → value ≡ None → Seq K 𝓛 Γ G)
      → ((b o : ℕ) (x : Content.the_row.Denot) → p ≡ block_ptr b o → value ≡ Some x → Testable (block_ptr b o)
      → Seq K 𝓛 (‵ (Boxed a (block_ptr b o) x) ∷ Γ) G) → Seq K 𝓛 (‵ (handle_owns a p value) ∷ Γ) G
  owned_cases t a p None none one = feq_l t (λ e. none e refl)
  owned_cases t a p (Some x) none one =
      in_a_block t p (λ q. Boxed a q x) (fst∗ 𝓤 (never 𝓤) (sem 𝓛 (ghosts.dealloc_token a (bare (lone Content.the_row.mir)) null_ptr)))
      (λ b o e.
      use1 𝓛 (given (Testable (block_ptr b o)) (‵ (Boxed a (block_ptr b o) x))) (tested 𝓛 a (block_ptr b o) x) $ learn t
      (λ test. one b o x e refl test))

  -- a handle by value: [what it owns; the allocator]
  pub handle_out : K → (d : Handle.the_row.Denot) (vs : List Val)
      → ((h : Val) → Good (layout Heap.the_row) h → vs ≡ word (ptr_val d.at) h ∷ []
      → Seq K 𝓛 (‵ (handle_owns d.alloc d.at d.value) ∷ ‵ (Heap.the_row.own_val d.alloc (h ∷ [])) ∷ Γ) G)
      → Seq K 𝓛 (‵ (Handle.the_row.own_val d vs) ∷ Γ) G
  handle_out t d vs k =
      fsplit t $ fpick t (λ vss. fsplit t $ feq_l t (λ ev. fsplit t $ feq_l t
      (λ ep. fsplit t $ handle_tells (E.al) t d.alloc vss.1.0 (λ h ea fits. move t (1 ∷ []) $ drop t $ move t (1 ∷ []) $
      k h fits (subst (λ (ws : List Val). vs ≡ vstruct (of_list (ptr_val d.at ∷ (ws ++ []))) ∷ []) ea
      (subst (λ (ps : List Val). vs ≡ vstruct (of_list (ps ++ (vss.1.0 ++ []))) ∷ []) ep ev))))))

  -- and made of these
  pub handle_in : K → (p : Ptr) (h : Val) (a : Heap.the_row.Denot) (value : Option Content.the_row.Denot)
      → Step K 𝓛 (‵ (Handle.the_row.own_val (record { at = p; alloc = a; value = value }) (word (ptr_val p) h ∷ [])) ∷ Γ) G
      (‵ (handle_owns a p value) ∷ ‵ (Heap.the_row.own_val a (h ∷ [])) ∷ Γ) G
  handle_in t p h a value = step (λ s. let v : Val = word (ptr_val p) h in
      nothing t $ move t (2 ∷ 0 ∷ []) $ fjoin t $ feq_i t (List Val) (ptr_val p ∷ []) (ptr_val p ∷ []) refl $ fjoin t $ feq_i t (List Val)
      (v ∷ []) (v ∷ []) refl $ fjoin t $
      fpack t (Valss (RawPtr ∷ Heap.the_row ∷ [])) (within (shape Handle.the_type) (p, (Heap.the_field.into a, tt)) (v ∷ []))
      (ptr_val p ∷ [], (h ∷ [], tt)) $ fjoin t $ s)

  pub parts_in : K → (b o : ℕ) (h : Val) (a : Heap.the_row.Denot) (x : Content.the_row.Denot)
      → Step K 𝓛 (‵ (PartsRow.own_val (record { ptr = block_ptr b o; alloc = a; value = x }) (word (vptr b o) h ∷ [])) ∷ Γ) G
      (‵ (Boxed a (block_ptr b o) x) ∷ ‵ (Heap.the_row.own_val a (h ∷ [])) ∷ Γ) G
  parts_in t b o h a x = step (λ s. let v : Val = word (vptr b o) h in
      nothing t $ move t (2 ∷ 0 ∷ []) $ fjoin t $ feq_i t (List Val) (vptr b o ∷ []) (vptr b o ∷ []) refl $ fjoin t $ feq_i t (List Val)
      (v ∷ []) (v ∷ []) refl $ fjoin t $
      fpack t (Valss (RawPtr ∷ Heap.the_row ∷ [])) (within (shape (BoxComponents.the_type Content.the_row Heap.the_row ghosts))
      (block_ptr b o, (a, tt)) (v ∷ [])) (vptr b o ∷ [], (h ∷ [], tt)) $ fjoin t $ s)

pub ptr_good : (p : Ptr) → T (has_ty ty_ptr (ptr_val p)) × WT (ptr_val p)
ptr_good (block_ptr b o) = (tt, tt)
ptr_good null_ptr = (tt, record { fits = lit< tt })

pub word_good : (p : Ptr) (h : Val) → Good (layout Heap.the_row) h → Good (layout Handle.the_row) (word (ptr_val p) h)
word_good p h fits = (both_tt _ _ (ptr_good p).0 fits.0, ((ptr_good p).1, (fits.1, tt)))
