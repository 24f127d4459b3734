-- `content` reads the pointer through a `&`, and tests it. A share of the token that the handle has is given up for what is lent.
use Rattle.std.proofs.Common.{List, [], ◌∷◌, refl, sym, lit<}
use base.Logic.{SProp, id⊢}
use base.Fml.{Lft, ftrue, fat, flft, fshr_bor}
use contract.Running.{tables}
use mir.Syntax.{named}
use mir.Val.{Val, vptr, vcons, vnil}
use types.Kit.{‵, ◌⊛◌, later, at_ret, ◌$◌, ◌∵◌, !, qed, move, keep, drop, use0, use1, use2, await, join, split, fsplit, fjoin, feq_i, rewrite, suffices, done}
use types.Match.{live}
use types.Part.{whole, sub, agg, look_in}
use types.Run.{load, addr, stop, fld, lit, bin, no_more, and_then, of_opd, first, branches, skips, blocks, exec, returns, returns_within, enter}
use types.ByLocal.{alloc_all, pass_all, free_all, look_at, get, through, sets, sets_last, env}
use types.Tokens.{shr_bor-open, obor_close, shr_bor_dup}
use denote.Builtin.{RefOf}
use denote.Exit.{yes}
use denote.RattleType.{RattleType}
use denote.RawPtr.{Ptr, block_ptr, tests_null}
use denote.Ref.{ShrRef, shr_vals, shr_Tells}
use denote.Signature.{Slot, plain, type_at}
use denote.Steps.{nothing}
use denote.Triple.Walked.{says, Stays, stay_dropped, walk_of, ends_at, Goes-dropped}
use Rattle.std.proofs.option.Made.{Some-of, none_of}
use Rattle.std.proofs.raw_atomic.Walks.{proved}
use Rattle.std.specs.Prelude.{Some, None}
use Rattle.p21_c.specs.contracts.contents.Content as Content
use Rattle.p21_c.specs.contracts.lent.Lent as Lent
use Rattle.p21_c.specs.Owned.{lent_owns}
use Rattle.p21_c.proofs.Lending.{word, word_ty, seen, held, held_halves, knows, cell_out, cell_in, seen_cases}
use Rattle.p21_c.specs.contracts.lent.Lent.content as F
use Rattle.p21_c.specs.contracts.lent.Lent.content.Key.{name as #self}
use Rattle.p21_c.proofs.lent.Lent.content.Statement.{statement}
use Rattle.p21_c.proofs.lent.Lent.content.Code as code

abbrev From : Slot 1
From = RefOf (0 ∷ []) tt (plain (λ _. Lent.the_row)) (λ _. tt)

abbrev stayed : Stays (F.ended).signature.params (F.ended).kept
stayed = (stay_dropped From yes, tt)

pub content_spec : {M : Type 1} → statement M
content_spec 𝓤 𝓛 𝓜 𝓡 wired =
    let c = F.clauses 𝓛 𝓜.mem 𝓡.returns in let 𝓣 = tables 𝓤 𝓛.H 𝓜 𝓡 𝓡.env in
    proved 𝓛 F.ended stayed c 𝓜 𝓡 (Goes-dropped 𝓛 1 From yes (λ κs x f. refl), tt) #self code.function (code.unfolded 𝓤 𝓛.H 𝓜 𝓡 wired)
    (λ κs. (shr_vals, tt)) (λ κs. (shr_Tells (named 0) κs.0 Lent.the_row, tt)) (λ κs qs bounds a n are.
    let κ : Lft = κs.0 in let q = qs.0 in let b = a.0.ref_ptr.0 in let o = a.0.ref_ptr.1 in let d = a.0.now in let X : RattleType =
    type_at {n = 1} (RefOf (0 ∷ []) tt (plain (λ _. Content.the_row)) (λ _. tt)) κs in
    let y : (walk_of 𝓛 F.ended stayed c).Ghost = ((κs, qs, bounds, a, (shr_vals a.0, tt)), tt) in let Post : Val
    → SProp 𝓤 = (walk_of 𝓛 F.ended stayed c).post y in
    qed 𝓛 (((‵ (flft κ q) ⊛ ‵ ftrue) ⊛ ‵ ((ShrRef (named 0) κ Lent.the_row).own_val a.0 (vptr b o ∷ [])) ⊛ ‵ ftrue) ∷ ‵ ftrue ∷ []) ∵
    split ! $ split ! $ move ! (2 ∷ []) $ split ! $ keep ! (0 ∷ 2 ∷ []) $ fsplit ! $ drop ! $ use1 𝓛 (‵ (fshr_bor κ (held 𝓛 d b o)))
    (id⊢ 𝓤 _) $ shr_bor_dup ! $ move ! (0 ∷ 2 ∷ []) $
    enter ! 𝓣.C 𝓣.Λ code.function (vptr b o ∷ []) Post $ alloc_all !
    (λ l. pass_all ! refl ((tt, tt), tt) $ let Ev = env code.function.locals l in
    use2 𝓛 (later (‵ (seen κ d.at d.value) ⊛ ‵ (flft κ q))) (knows 𝓛 d b o κ q) $ await ! tt $ split ! $
    -- [what is seen; the token; the reference; the locals]
    seen_cases ! κ d.at d.value
    (λ at_is value_is. let v₀ : Val = live 0 vnil in
    move ! (1 ∷ 0 ∷ []) $ shr_bor-open ! tt (held_halves 𝓛 d b o)
    (λ q'. move ! (1 ∷ []) $ use1 𝓛 (‵ (fat q' word_ty b o (word d.at)) ⊛ ‵ (lent_owns d.at d.value)) (cell_out 𝓛 d b o q') $ split ! $
    rewrite ! 0 (λ (r : Ptr). ‵ (fat q' word_ty b o (word r))) at_is refl $
    sets ! (of_opd ! (load ! (through ! refl (fld ! refl (stop !))) (look_in ! 0 (sub ! 0 refl (whole !))))) refl
    (tt, record { fits = lit< tt }) $
    rewrite ! 0 (λ (r : Ptr). ‵ (fat q' word_ty b o (word r))) (sym at_is) refl $ use2 𝓛 (‵ (held 𝓛 d b o q')) (cell_in 𝓛 d b o q') $ move !
    (1 ∷ 0 ∷ []) $ obor_close ! tt $ drop ! $
    sets ! (bin ! (get ! refl) (lit ! tt) tt) refl (tt, tt) $ first ! $ branches ! (get ! refl)
    (λ _. sets ! (agg ! (and_then ! (lit ! tt) (no_more !))) refl (tt, (record { fits = lit< tt }, tt)) $ returns_within ! Post refl
    (look_at ! 0 refl) $ free_all ! refl $
    use0 𝓛 (‵ ((type_at (F.signature).result κs).own_val None (v₀ ∷ []))) (none_of 𝓛 X) $
    suffices ! _ (ends_at 𝓛 F.ended stayed c y v₀ None (tt, tt) (tt, tt)) $ says ! value_is $
    nothing ! $ nothing ! $ fjoin ! $ join ! $ nothing ! $ move ! (2 ∷ 0 ∷ []) $ join ! $ join ! $ done !)
    (λ wrong. absurd wrong)))
    (λ b' o' x at_is value_is test. let v₁ : Val = live 1 (vcons (vptr b' o') vnil) in
    -- [what is lent; the token; the reference; the locals]
    move ! (2 ∷ 1 ∷ []) $ shr_bor-open ! tt (held_halves 𝓛 d b o)
    (λ q'. move ! (1 ∷ []) $ use1 𝓛 (‵ (fat q' word_ty b o (word d.at)) ⊛ ‵ (lent_owns d.at d.value)) (cell_out 𝓛 d b o q') $ split ! $
    rewrite ! 0 (λ (r : Ptr). ‵ (fat q' word_ty b o (word r))) at_is refl $
    sets ! (of_opd ! (load ! (through ! refl (fld ! refl (stop !))) (look_in ! 0 (sub ! 0 refl (whole !))))) refl (tt, tt) $
    rewrite ! 0 (λ (r : Ptr). ‵ (fat q' word_ty b o (word r))) (sym at_is) refl $ use2 𝓛 (‵ (held 𝓛 d b o q')) (cell_in 𝓛 d b o q') $ move !
    (1 ∷ 0 ∷ []) $ obor_close ! tt $ drop ! $
    sets ! (bin ! (get ! refl) (lit ! tt) (tests_null (block_ptr b' o') test)) refl (tt, tt) $ first ! $ branches ! (get ! refl)
    (λ wrong. absurd wrong)
    (λ _. skips ! $ exec ! 𝓣.C 𝓣.Λ Ev code.Mir.t-4 (at_ret Ev Post) $ first ! $ blocks ! $ sets ! (of_opd ! (get ! refl)) refl (tt, tt) $
    sets_last ! (addr ! (through ! refl (stop !))) refl (tt, tt) $ exec ! 𝓣.C 𝓣.Λ Ev code.Mir.t-5 (at_ret Ev Post) $ sets !
    (of_opd ! (get ! refl)) refl (tt, tt) $
    sets ! (agg ! (and_then ! (lit ! tt) (and_then ! (get ! refl) (no_more !)))) refl (tt, (record { fits = lit< tt }, (tt, tt))) $ returns
    ! (look_at ! 0 refl) $ free_all ! refl $
    -- [the token; what is lent]
    move ! (1 ∷ []) $ feq_i ! (List Val) (vptr b' o' ∷ []) (vptr b' o' ∷ []) refl $ fjoin ! $
    use1 𝓛 (‵ ((type_at (F.signature).result κs).own_val (Some (record { ref_ptr = (b', o'); now = x })) (v₁ ∷ [])))
    (Some-of 𝓛 X (record { ref_ptr = (b', o'); now = x }) (vptr b' o')) $
    suffices ! _ (ends_at 𝓛 F.ended stayed c y v₁ (Some (record { ref_ptr = (b', o'); now = x })) (tt, tt) (tt, tt)) $ says ! value_is $
    nothing ! $ nothing ! $ fjoin ! $ join ! $ nothing ! $ move ! (2 ∷ 0 ∷ []) $ join ! $ join ! $ done !)))))
