-- `start_of` answers the pointer of the reference.
use Rattle.std.proofs.Common.{List, [], ◌∷◌, length, refl}
use base.Logic.{SProp, ent, sep}
use contract.Running.{tables}
use mir.Syntax.{named}
use mir.Val.{Val, vptr}
use types.Logic.{sem}
use types.Kit.{‵, raw, ◌⊛◌, ◌$◌, ◌∵◌, !, qed, by, move, keep, split, join, fjoin, feq_i, suffices, done}
use types.Part.{whole, sub}
use types.Run.{stop, fld, hop, from, addr, returns, enter}
use types.ByLocal.{alloc_all, pass_all, free_all, look_at, look_in_at, sets}
use denote.Builtin.{u8, SliceRefOf}
use denote.Exit.{yes}
use denote.RattleType.{owns}
use denote.RawPtr.{RawPtr, block_ptr}
use denote.Signature.{Slot, plain, types_at}
use denote.Slice.{slice_val, shr_slice_vals, shr_slice_Tells}
use denote.Steps.{nothing}
use denote.Triple.Entry.{alive}
use denote.Triple.Walked.{says, Stays, stay_dropped, walk_of, ends_at, Goes-dropped}
use Rattle.std.proofs.raw_atomic.Walks.{proved}
use Rattle.p21_c.specs.contracts.spans.start_of as F
use Rattle.p21_c.specs.contracts.spans.start_of.Key.{name as #self}
use Rattle.p21_c.proofs.spans.start_of.Statement.{statement}
use Rattle.p21_c.proofs.spans.start_of.Code as code

abbrev From : Slot 1
From = SliceRefOf (0 ∷ []) tt (plain (λ _. u8)) (λ _. tt)

abbrev stayed : Stays (F.ended).signature.params (F.ended).kept
stayed = (stay_dropped From yes, tt)

pub start_of_spec : {M : Type 1} → statement M
start_of_spec 𝓤 𝓛 𝓜 𝓡 wired =
    let c = F.clauses 𝓛 𝓜.mem 𝓡.returns in let 𝓣 = tables 𝓤 𝓛.H 𝓜 𝓡 𝓡.env in
    proved 𝓛 F.ended stayed c 𝓜 𝓡 (Goes-dropped 𝓛 1 From yes (λ κs x f. refl), tt) #self code.function (code.unfolded 𝓤 𝓛.H 𝓜 𝓡 wired)
    (λ κs. (shr_slice_vals, tt)) (λ κs. (shr_slice_Tells (named 0) κs.0 u8, tt)) (λ κs qs bounds a n are.
    let b = a.0.ref_ptr.0 in let o = a.0.ref_ptr.1 in
    let y : (walk_of 𝓛 F.ended stayed c).Ghost = ((κs, qs, bounds, a, (shr_slice_vals a.0, tt)), tt) in let Post : Val
    → SProp 𝓤 = (walk_of 𝓛 F.ended stayed c).post y in
    let exits : ent 𝓤 (sep 𝓤 (alive 𝓛 (F.ended).signature κs qs) (sem 𝓛 (RawPtr.own_val (block_ptr b o) (vptr b o ∷ []))))
    (Post (vptr b o)) =
    qed 𝓛 (raw (alive 𝓛 (F.ended).signature κs qs) ∷ ‵ (RawPtr.own_val (block_ptr b o) (vptr b o ∷ [])) ∷ []) ∵ suffices ! _
    (ends_at 𝓛 F.ended stayed c y (vptr b o) (block_ptr b o) (tt, tt) (tt, tt)) $ says ! refl $
    nothing ! $ nothing ! $ fjoin ! $ move ! (0 ∷ 2 ∷ []) $ join ! $ move ! (1 ∷ 0 ∷ []) $ join ! $ done ! in
    qed 𝓛 ((raw (alive 𝓛 (F.ended).signature κs qs) ⊛ ‵ (owns (types_at (F.ended).signature.params κs) a (shr_slice_vals a.0, tt))) ∷ raw
    ((c κs a).requires n) ∷ []) ∵ split ! $ keep ! (0 ∷ []) $
    enter ! 𝓣.C 𝓣.Λ code.function (slice_val (b, o) (length a.0.now) ∷ []) Post $ alloc_all !
    (λ l. pass_all ! refl ((tt, (tt, (record { fits = are.0.0.1.0 }, tt))), tt) $
    sets ! (addr ! (from ! (fld ! refl (hop ! (look_in_at ! 1 (sub ! 0 refl (whole !))) (stop !))))) refl (tt, tt) $
    returns ! (look_at ! 0 refl) $ free_all ! refl $ feq_i ! (List Val) (vptr b o ∷ []) (vptr b o ∷ []) refl $ keep ! (1 ∷ 0 ∷ []) $ by !
    exits))
