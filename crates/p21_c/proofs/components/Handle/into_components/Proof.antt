-- `into_components` looks whether there is a pointer, and moves it with what it owns.
use Rattle.std.proofs.Common.{List, [], ◌∷◌, ◌++◌, refl, sym, ap, ◌∙◌, subst, lit<}
use mir.Val.{Val, vptr, vcons, vnil}
use base.Logic.{SProp, ent, emp}
use base.Fml.{ftrue, fsep}
use prog.Wp.{WpFn}
use types.Kit.{Item, ‵, raw, ◌⊛◌, at_ret, ◌$◌, ◌∵◌, !, qed, by, move, drop, use0, use1, join, split, fsplit, fjoin, suffices, done}
use types.Match.{live}
use types.Part.{whole, sub, agg}
use types.Run.{stop, fld, lit, bin, no_more, and_then, of_opd, first, branches, exec, returns, enter}
use types.ByLocal.{alloc_all, pass_all, free_all, look_at, get, get_in, sets, sets_last, env}
use contract.Running.{tables}
use denote.Exit.{yes}
use denote.Param.{layout}
use denote.RawPtr.{Ptr, block_ptr, null_ptr, ptr_val, tests_null}
use denote.RattleType.{RattleType}
use denote.Signature.{type_at}
use denote.Steps.{nothing}
use denote.Triple.Walked.{says, Stays, stay_dropped, walk_of, ends_at, Goes-dropped}
use Rattle.std.proofs.ResultValues.{and_tt}
use Rattle.std.proofs.alloc.Shapes.{after}
use Rattle.std.proofs.cell.Inside.{Good}
use Rattle.std.proofs.option.Made.{Some-of, none_of}
use Rattle.std.proofs.raw_atomic.Walks.{proved_at}
use Rattle.std.specs.Prelude.{Some, None}
use Rattle.std.specs.contracts.alloc.Global as Heap
use Rattle.p21_c.specs.contracts.components.Handle as Handle
use Rattle.p21_c.proofs.Owning.{FromHandle as From, Boxed, PartsRow, handle_out, owned_cases, parts_in, ptr_good, word, word_good}
use Rattle.p21_c.specs.contracts.components.Handle.into_components as F
use Rattle.p21_c.specs.contracts.components.Handle.into_components.Key.{name as #self}
use Rattle.p21_c.proofs.components.Handle.into_components.Statement.{statement}
use Rattle.p21_c.proofs.components.Handle.into_components.Code as code

abbrev stayed : Stays (F.ended).signature.params (F.ended).kept
stayed = (stay_dropped From yes, tt)

pub into_components_spec : {M : Type 1} → statement M
into_components_spec 𝓤 𝓛 𝓜 𝓡 wired =
    let c = F.clauses 𝓛 𝓜.mem 𝓡.returns in let 𝓣 = tables 𝓤 𝓛.H 𝓜 𝓡 𝓡.env in
    proved_at 𝓛 F.ended stayed c 𝓜 𝓡 (Goes-dropped 𝓛 0 From yes (λ κs x f. refl), tt) #self code.function (code.unfolded 𝓤 𝓛.H 𝓜 𝓡 wired)
    (λ z are.
    let v = z.0.3.0 in let a = v.alloc in let Post : Val
    → SProp 𝓤 = (walk_of 𝓛 F.ended stayed c).post z in let Out : RattleType = type_at (F.signature).result tt in
    let Runs : List (Item 𝓤) → List Val → Type 1 = λ Γ us. ent 𝓤 (types.Kit.⋆ 𝓛 Γ) (WpFn 𝓤 𝓛.H 𝓣.C 𝓣.Λ code.function (us ++ []) Post) in
    qed 𝓛 ((‵ ftrue ⊛ ‵ (fsep (Handle.the_row.own_val v z.0.4.0) ftrue)) ∷ raw (emp 𝓤) ∷ []) ∵ split ! $ drop ! $ fsplit ! $ handle_out ! v
    z.0.4.0 (λ h fits ws.
    owned_cases ! a v.at v.value
    (λ at_is value_is. move ! (1 ∷ 2 ∷ []) $ drop ! $ drop ! $
    let w : Val = word (ptr_val null_ptr) h in let Γ : List (Item 𝓤) = ‵ (Heap.the_row.own_val a (h ∷ [])) ∷ [] in let v₀ : Val =
    live 0 vnil in
    by ! (subst (Runs Γ) (sym (ws ∙ ap (λ (p : Ptr). word (ptr_val p) h ∷ []) at_is))
    (qed 𝓛 Γ ∵ enter ! 𝓣.C 𝓣.Λ code.function (w ∷ []) _ $ alloc_all !
    (λ l. pass_all ! refl (word_good null_ptr h fits, tt) $ let Ev = env code.function.locals l in
    sets ! (of_opd ! (get_in ! (fld ! refl (stop !)) (sub ! 0 refl (whole !)))) refl (ptr_good null_ptr) $ sets !
    (of_opd ! (get_in ! (fld ! refl (stop !)) (sub ! 1 refl (whole !)))) refl fits $
    sets ! (bin ! (get ! refl) (lit ! tt) tt) refl (tt, tt) $ first ! $ branches ! (get ! refl)
    (λ _. sets_last ! (agg ! (and_then ! (lit ! tt) (no_more !))) refl (tt, (record { fits = lit< tt }, tt)) $ exec ! 𝓣.C 𝓣.Λ Ev
    (after 4 (code.function).body) (at_ret Ev Post) $
    sets ! (of_opd ! (get ! refl)) refl (tt, (record { fits = lit< tt }, tt)) $ returns ! (look_at ! 0 refl) $ free_all ! refl $ drop ! $
    use0 𝓛 (‵ (Out.own_val None (v₀ ∷ []))) (none_of 𝓛 PartsRow) $
    suffices ! _ (ends_at 𝓛 F.ended stayed c z v₀ None (tt, tt) (tt, tt)) $ says ! value_is $
    nothing ! $ nothing ! $ fjoin ! $ join ! $ nothing ! $ join ! $ done !)
    (λ wrong. absurd wrong)))))
    (λ b o x at_is value_is test. move ! (2 ∷ 3 ∷ []) $ drop ! $ drop ! $
    let w : Val = word (vptr b o) h in let Γ : List (Item 𝓤) = ‵ (Boxed a (block_ptr b o) x) ∷ ‵ (Heap.the_row.own_val a (h ∷ [])) ∷ [] in
    let typed = word_good (block_ptr b o) h fits in let v₁ : Val = live 1 (vcons w vnil) in let d : PartsRow.Denot =
    record { ptr = block_ptr b o; alloc = a; value = x } in
    let good : Good (layout Out) v₁ = (and_tt _ typed.0, (record { fits = lit< tt }, (typed.1, tt))) in
    by ! (subst (Runs Γ) (sym (ws ∙ ap (λ (p : Ptr). word (ptr_val p) h ∷ []) at_is))
    (qed 𝓛 Γ ∵ enter ! 𝓣.C 𝓣.Λ code.function (w ∷ []) _ $ alloc_all !
    (λ l. pass_all ! refl (typed, tt) $ let Ev = env code.function.locals l in
    sets ! (of_opd ! (get_in ! (fld ! refl (stop !)) (sub ! 0 refl (whole !)))) refl (tt, tt) $ sets !
    (of_opd ! (get_in ! (fld ! refl (stop !)) (sub ! 1 refl (whole !)))) refl fits $
    sets ! (bin ! (get ! refl) (lit ! tt) (tests_null (block_ptr b o) test)) refl (tt, tt) $ first ! $ branches ! (get ! refl)
    (λ wrong. absurd wrong) (λ _. sets ! (of_opd ! (get ! refl)) refl (tt, tt) $
    sets ! (agg ! (and_then ! (get ! refl) (and_then ! (get ! refl) (no_more !)))) refl typed $ sets_last !
    (agg ! (and_then ! (lit ! tt) (and_then ! (get ! refl) (no_more !)))) refl good $
    exec ! 𝓣.C 𝓣.Λ Ev (after 4 (code.function).body) (at_ret Ev Post) $ sets ! (of_opd ! (get ! refl)) refl good $ returns !
    (look_at ! 0 refl) $ free_all ! refl $
    parts_in ! b o h a x $ use1 𝓛 (‵ (Out.own_val (Some d) (v₁ ∷ []))) (Some-of 𝓛 PartsRow d w) $
    suffices ! _ (ends_at 𝓛 F.ended stayed c z v₁ (Some d) (tt, tt) (tt, tt)) $ says ! value_is $
    nothing ! $ nothing ! $ fjoin ! $ join ! $ nothing ! $ join ! $ done !)))))))
