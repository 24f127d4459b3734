-- What a `&` to a lent handle shows: its pointer, and what is lent behind it, for as long as the `&` lives. Assumes `Logic`.
use Rattle.std.proofs.Common.{◌≡◌, ℕ, List, [], ◌∷◌, ◌++◌, refl}
use seplogic.Ra.Ura.{Ura}
use base.Share
use base.Share.{halves}
use base.Logic.{ent, sep, never, never_e}
use base.Before.{before}
use base.Fml.{Lft, Share, Fml, fat, feq, fex, flft, fshr_bor}
use contract.BorrowLft.{meet_⊑_left}
use mir.Syntax.{Ty, tcons, tnil, ty_ptr, ty_struct}
use mir.Val.{Val, vstruct, vcons, vnil}
use ghost.Rules.{Halves}
use types.Logic.{Logic, sem}
use types.Kit.{Item, Goal, Seq, ‵, later, ◌⊛◌, ◌$◌, ◌∵◌, !, qed, by, move, keep, drop, use0, use1, use2, await, split, fsplit, fjoin, fpick, fpack, feq_i, feq_l, updating, now, done}
use types.Na.{before-Incl, before_lent}
use types.Tokens.{bor_new, bor_fracture, shr_bor-open, obor_close}
use denote.Copied.{Copied, plain_Copied, Struct-Copied, told_out, told_in}
use denote.Laws.{Is, Tells}
use denote.Memory.{cell_at, hidden_shr, part_at}
use denote.Opens.{hide}
use denote.RattleType.{RattleType, Valss}
use denote.RawPtr.{Ptr, RawPtr, block_ptr, null_ptr, in_a_block, ptr_val, coded_ptr, ptr_own, rawptr_pure, rawptr_Tells_one, Testable}
use denote.Sharing.{said}
use denote.SharingLaws.{contraction, said_shr_laws}
use denote.Struct.Lending.{lent_at, lent_at_shr_laws}
use denote.Struct.Owning.{shape}
use denote.Struct.OwningLaws.{part_out, part_in}
use denote.Steps.{nothing}
use denote.Struct.Struct.{Struct, Struct-Tells, within}
use Rattle.std.specs.Prelude.{Option, None, Some}
use Rattle.p21_c.specs.Owned.{lent_for, lent_owns}
use Rattle.p21_c.specs.contracts.contents.Content as Content
use Rattle.p21_c.specs.contracts.lent.Lent as Lent
use Rattle.p21_c.specs.declared.contents.Content.{Content as Inside}
use Rattle.p21_c.specs.declared.lent.Lent.{Lent as Value}
use Rattle.p21_c.proofs.contents.Content.TheLaws as content

-- the pointer alone
abbrev pub Word : RattleType
Word = Struct (shape Lent.the_type)

abbrev pub word : Ptr → Val
word p = vstruct (vcons (ptr_val p) vnil)

abbrev pub word_ty : Ty
word_ty = ty_struct (Lent.the_type).name (tcons ty_ptr tnil)

abbrev pub words : Ptr × Unit {0} → List Val
words x = word x.0 ∷ []

pub words_tell : Tells Word (Is Word) words
words_tell = Struct-Tells (shape Lent.the_type) ((λ p. ptr_val p ∷ []), tt) (rawptr_Tells_one, tt)

-- what is known of what is lent
abbrev pub seen : Lft → Ptr → Option Inside → Fml
seen κ p None = feq Ptr p null_ptr
seen κ p (Some x) = fex (Testable p) (λ _. lent_at Content.the_row p x κ)

module _ {M : Type 1} {𝓤 : Ura M} (𝓛 : Logic 𝓤) where
  open 𝓛 use {H, A}

  abbrev ◌⊢◌ : base.Logic.SProp 𝓤 → base.Logic.SProp 𝓤 → Type 1
  P ⊢ Q = ent 𝓤 P Q

  abbrev ◌∗◌ : base.Logic.SProp 𝓤 → base.Logic.SProp 𝓤 → base.Logic.SProp 𝓤
  P ∗ Q = sep 𝓤 P Q

  abbrev ⟦◌⟧ : Fml → base.Logic.SProp 𝓤
  ⟦ P ⟧ = sem 𝓛 P

  infix 26 ◌⊢◌
  infixr 35 ◌∗◌
  -- half of the token goes with each
  twice : (p : Ptr) (value : Option Inside) → ⟦ lent_owns p value ⟧ ⊢ ⟦ lent_owns p value ⟧ ∗ ⟦ lent_owns p value ⟧
  twice p None = contraction 𝓛 (said (feq Ptr p null_ptr)) (said_shr_laws (feq Ptr p null_ptr) tt) []
  twice p (Some x) = qed 𝓛 (‵ (lent_owns p (Some x)) ∷ []) ∵ fpick ! (λ test. fpick ! (λ t. fsplit ! $
      use1 𝓛 (‵ (flft t.0 (Share.left t.1)) ⊛ ‵ (flft t.0 (Share.right t.1))) (𝓛.lfts.lft_split t.0 t.1) $ split ! $ move ! (2 ∷ []) $
      use1 𝓛 (‵ (lent_at Content.the_row p x t.0) ⊛ ‵ (lent_at Content.the_row p x t.0))
      ((lent_at_shr_laws Content.the_row content.the_row_laws.shr_laws p x).contraction M 𝓤 𝓛 t.0) $ split ! $
      move ! (2 ∷ 0 ∷ []) $ fjoin ! $ fpack ! (Lft × Share) (lent_for p x) (t.0, Share.left t.1) $ fpack ! (Testable p)
      (λ _. fex (Lft × Share) (lent_for p x)) test $
      move ! (2 ∷ 1 ∷ []) $ fjoin ! $ fpack ! (Lft × Share) (lent_for p x) (t.0, Share.right t.1) $ fpack ! (Testable p)
      (λ _. fex (Lft × Share) (lent_for p x)) test $ done !))

  -- a share of the token is given up, so that what is lent is lent for κ
  reaches : (κ : Lft) (p : Ptr) (x : Inside) (t : Lft × Share) → ⟦ lent_for p x t ⟧ ⊢ H.⇛ ⟦ lent_at Content.the_row p x κ ⟧
  reaches κ p x t = qed 𝓛 (‵ (lent_for p x t) ∷ []) ∵ updating ! $ fsplit ! $ bor_new ! tt κ $ bor_fracture ! tt (λ q. flft t.0 q) t.1 $
      move ! (1 ∷ []) $ drop ! $
      use0 𝓛 (‵ (before (t.0 ++ κ) t.0)) (before-Incl 𝓛 (t.0 ++ κ) t.0 (meet_⊑_left t.0 κ)) $ move ! (1 ∷ 0 ∷ []) $ use2 𝓛
      (‵ (before κ t.0)) (before_lent 𝓛 κ t.0 t.0) $
      now ! $ by ! ((lent_at_shr_laws Content.the_row content.the_row_laws.shr_laws p x).mono M 𝓤 𝓛 κ t.0)

  shows : (κ : Lft) (p : Ptr) (value : Option Inside) → ⟦ lent_owns p value ⟧ ⊢ H.⇛ ⟦ seen κ p value ⟧
  shows κ p None = 𝓛.laws.⇛_intro _
  shows κ p (Some x) = qed 𝓛 (‵ (lent_owns p (Some x)) ∷ []) ∵ updating ! $ fpick ! (λ test. fpick ! (λ t.
      use1 𝓛 (later (‵ (lent_at Content.the_row p x κ))) (reaches κ p x t) $ await ! tt $ fpack ! (Testable p)
      (λ _. lent_at Content.the_row p x κ) test $ now ! $ done !))

  word_copied : Copied 𝓛 Word
  word_copied = Struct-Copied 𝓛 (shape Lent.the_type) (refl, tt)
      (plain_Copied 𝓛 Ptr coded_ptr (ty_ptr ∷ []) ptr_own rawptr_pure ptr_val rawptr_Tells_one, tt)

  module _ (d : Value) (b o : ℕ) where
    abbrev pub held : Share → Fml
    held q = part_at Lent.the_row q d b o

    abbrev pointer : Share → Fml
    pointer q = part_at Word q (d.at, tt) b o

    pub held_halves : Halves 𝓤 H A held
    held_halves = record {
      cut = λ q. qed 𝓛 (‵ (held q) ∷ []) ∵ use1 𝓛 (‵ (pointer q) ⊛ ‵ (lent_owns d.at d.value)) (part_out 𝓛 Lent.the_type q d b o) $ split !
          $
          use1 𝓛 (‵ (pointer (Share.left q)) ⊛ ‵ (pointer (Share.right q)))
          ((word_copied.cuts (d.at, tt) b o).cut q (Share.left q) (Share.right q) (halves q)) $ split ! $ move ! (2 ∷ []) $
          use1 𝓛 (‵ (lent_owns d.at d.value) ⊛ ‵ (lent_owns d.at d.value)) (twice d.at d.value) $ split ! $
          move ! (2 ∷ 0 ∷ []) $ use2 𝓛 (‵ (held (Share.left q))) (part_in 𝓛 Lent.the_type (Share.left q) d b o) $
          move ! (2 ∷ 1 ∷ []) $ use2 𝓛 (‵ (held (Share.right q))) (part_in 𝓛 Lent.the_type (Share.right q) d b o) $ move ! (1 ∷ 0 ∷ []) $
          done !;
      join = λ q. qed 𝓛 (‵ (held (Share.left q)) ∷ ‵ (held (Share.right q)) ∷ []) ∵
          use1 𝓛 (‵ (pointer (Share.left q)) ⊛ ‵ (lent_owns d.at d.value)) (part_out 𝓛 Lent.the_type (Share.left q) d b o) $ split ! $ move
          ! (2 ∷ []) $
          use1 𝓛 (‵ (pointer (Share.right q)) ⊛ ‵ (lent_owns d.at d.value)) (part_out 𝓛 Lent.the_type (Share.right q) d b o) $ split ! $
          move ! (1 ∷ []) $ drop ! $ move ! (1 ∷ 0 ∷ []) $
          use2 𝓛 (‵ (pointer q)) ((word_copied.cuts (d.at, tt) b o).join q (Share.left q) (Share.right q) (halves q)) $ by !
          (part_in 𝓛 Lent.the_type q d b o);
    }

    -- what is known of what is lent, for the lifetime of the `&`
    pub knows : (κ : Lft) (q : Share) → ⟦ fshr_bor κ held ⟧ ∗ A.lft κ q ⊢ H.⇛ (⟦ seen κ d.at d.value ⟧ ∗ A.lft κ q)
    knows κ q = qed 𝓛 (‵ (fshr_bor κ held) ∷ ‵ (flft κ q) ∷ []) ∵ updating ! $ shr_bor-open ! tt held_halves (λ q'. move ! (1 ∷ []) $
        use1 𝓛 (‵ (pointer q') ⊛ ‵ (lent_owns d.at d.value)) (part_out 𝓛 Lent.the_type q' d b o) $ split ! $ move ! (1 ∷ []) $
        use1 𝓛 (‵ (lent_owns d.at d.value) ⊛ ‵ (lent_owns d.at d.value)) (twice d.at d.value) $ split ! $ move ! (2 ∷ 0 ∷ []) $
        use2 𝓛 (‵ (held q')) (part_in 𝓛 Lent.the_type q' d b o) $ move ! (2 ∷ 0 ∷ []) $ obor_close ! tt $ drop ! $ move ! (1 ∷ []) $
        use1 𝓛 (later (‵ (seen κ d.at d.value))) (shows κ d.at d.value) $ await ! tt $ now ! $ done !)

    -- the pointer's cell, and what is lent beside it
    pub cell_out : (q : Share) → ⟦ held q ⟧ ⊢ ⟦ fat q word_ty b o (word d.at) ⟧ ∗ ⟦ lent_owns d.at d.value ⟧
    cell_out q = qed 𝓛 (‵ (held q) ∷ []) ∵ use1 𝓛 (‵ (pointer q) ⊛ ‵ (lent_owns d.at d.value)) (part_out 𝓛 Lent.the_type q d b o) $ split !
        $
        use1 𝓛 (‵ (cell_at q Word.mir (word d.at ∷ []) b o) ⊛ ‵ (Word.own_val (d.at, tt) (word d.at ∷ [])))
        (told_out 𝓛 Word words words_tell q (d.at, tt) b o) $ split ! $ move ! (1 ∷ []) $ drop ! $
        use1 𝓛 (‵ (fat q word_ty b o (word d.at))) (𝓛.laws.raw_at q word_ty b o (word d.at)) $ done !

    pub cell_in : (q : Share) → ⟦ fat q word_ty b o (word d.at) ⟧ ∗ ⟦ lent_owns d.at d.value ⟧ ⊢ ⟦ held q ⟧
    cell_in q = qed 𝓛 (‵ (fat q word_ty b o (word d.at)) ∷ ‵ (lent_owns d.at d.value) ∷ []) ∵ use1 𝓛
        (‵ (cell_at q Word.mir (word d.at ∷ []) b o)) (𝓛.laws.at_raw q word_ty b o (word d.at)) $
        nothing ! $ feq_i ! (List Val) (ptr_val d.at ∷ []) (ptr_val d.at ∷ []) refl $ fjoin ! $ feq_i ! (List Val) (word d.at ∷ [])
        (word d.at ∷ []) refl $ fjoin ! $
        fpack ! (Valss (RawPtr ∷ [])) (within (shape Lent.the_type) (d.at, tt) (word d.at ∷ [])) (ptr_val d.at ∷ [], tt) $ move !
        (1 ∷ 0 ∷ []) $
        use2 𝓛 (‵ (pointer q)) (told_in 𝓛 Word words words_tell q (d.at, tt) b o (word d.at ∷ [])) $ by ! (part_in 𝓛 Lent.the_type q d b o)

none_at_null : {M : Type 1} {𝓤 : Ura M} (𝓛 : Logic 𝓤) (κ : Lft) (x : Inside) → ent 𝓤 (sem 𝓛 (seen κ null_ptr (Some x))) (never 𝓤)
none_at_null {𝓤 = 𝓤} 𝓛 κ x = qed 𝓛 (‵ (seen κ null_ptr (Some x)) ∷ []) ∵ fpick !
    (λ test. fsplit ! $ keep ! (0 ∷ []) $ by ! (never_e 𝓤 (never 𝓤)))

module _ {M : Type 1} {𝓤 : Ura M} {𝓛 : Logic 𝓤} {K : Type 0} {Γ : List (Item 𝓤)} {G : Goal 𝓤 𝓛.H} where
  -- nothing, or a content that is lent
  pub seen_cases : K → (κ : Lft) (p : Ptr) (value : Option Inside) → (p ≡ null_ptr → value ≡ None → Seq K 𝓛 Γ G)
      → ((b o : ℕ) (x : Inside) → p ≡ block_ptr b o → value ≡ Some x → Testable (block_ptr b o)
      → Seq K 𝓛 (‵ (hidden_shr Content.the_row κ x b o) ∷ Γ) G) → Seq K 𝓛 (‵ (seen κ p value) ∷ Γ) G
  seen_cases t κ p None none one = feq_l t (λ e. none e refl)
  seen_cases t κ p (Some x) none one = in_a_block t p (λ q. seen κ q (Some x)) (none_at_null 𝓛 κ x)
      (λ b o e. fpick t (λ test. fsplit t $ drop t $ hide t $ one b o x e refl test))
