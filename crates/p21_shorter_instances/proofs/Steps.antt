-- Steps of places in turn, and rows of entities.
use Rattle.std.proofs.Common.{◌≡◌, ℕ, ◌<◌, List, [], ◌∷◌, ◌++◌, length, get_or, set, refl, ap, sym, subst, ◌∙◌, arith, inl, inr, length-append}
use Rattle.std.proofs.lemmas.Bool.{cases_eq, cases_lt}
use Rattle.std.proofs.lemmas.List.{get_or_append_left, get_or-set_other, get_or-set_same, length-set, map-set, map_push}
use Rattle.std.proofs.lemmas.Option.{get_or_from_slice_get, slice_get-get_or, slice_get-map, slice_get_within}
use Rattle.std.proofs.Math.Seq.{get_or-append_seam}
use Rattle.std.specs.Option.{option_map}
use Rattle.std.specs.Prelude.{Option, Some, None, Result, Ok, Err, IfOk, slice_get, Contains, Bool, true, false, IsTrue, ◌↔◌}
use denote.Ref.{Bor}
use Rattle.p21_shorter_instances.proofs.OwnPlaces.{place-among}
use Rattle.p21_express_graph.proofs.OrderTables.{IsA-within, are-entities, order-tells}
use Rattle.p21_express_graph.proofs.Renaming.{comes-is}
use Rattle.p21_express_graph.specs.DirectRenaming.{ComesTo, at_itself}
use Rattle.p21_schema.specs.Base.{HasBase, IsBase}
use Rattle.p21_schema.specs.declared.base.Base.{Base}
use Rattle.p21_schema.specs.declared.base.Base.TheVariants.{Plain}
use Rattle.p21_schema.specs.OwnSets.{LeavesOpen}
use Rattle.p21_express_graph.specs.Resolved.{HoldsTogether, IsEntity, IsPlace, IsTypeUse}
use Rattle.p21_express_graph.specs.Meaning.{type_use}
use Rattle.p21_express_graph.specs.declared.type_use.TypeUse as code
use Rattle.p21_spec_schema.specs.Order.{order}
use Rattle.p21_spec_schema.specs.PlaceType.{TypeAt, two_redeclarations}
use Rattle.p21_spec_schema.specs.Schema.{Place, Schema}
use Rattle.p21_shorter_instances.specs.Prepared.{Prepared}
use Rattle.p21_shorter_instances.specs.Steps.{AreStepsAt, IsPlanOf, IsRow, IsStepAt, MayStandAlone, row_view, rows_view}
use Rattle.p21_shorter_instances.specs.declared.row.Row.{Row}
use Rattle.p21_shorter_instances.specs.declared.step.Step.{Step}

-- one step more
pub steps_more : (s : Schema) (entities : List ℕ) (before : List Place) (steps : List Step) (place : Place) (step : Step)
    → AreStepsAt s entities before steps
    → IsStepAt s entities place step → AreStepsAt s entities (before ++ place ∷ []) (steps ++ step ∷ [])
steps_more s entities [] [] place step are is = (is, tt)
steps_more s entities [] (other ∷ steps) place step are is = absurd are
steps_more s entities (first ∷ before) [] place step are is = absurd are
steps_more s entities (first ∷ before) (other ∷ steps) place step are is = (are.0, steps_more s entities before steps place step are.1 is)

module _ (s : Schema) (holds : HoldsTogether s) (e : ℕ) where
  -- an entity of the own set is one of the schema
  pub owner_is : (owner : ℕ) → Contains (order s e) owner → IsEntity s e → IsEntity s owner
  owner_is owner among is = IsA-within s (are-entities s holds) e owner ((order-tells s holds e owner).0 among) is

  -- where redeclarations leave none open, they decide at each place
  pub decided_at : (place : Place) → Contains (order s e) place.entity → IsPlace s place → (LeavesOpen s e → ⊥)
      → TypeAt s (order s e) place two_redeclarations → ⊥
  decided_at place among is decided two = decided (
    place,
    (place-among s holds e place is ((order-tells s holds e place.entity).0 among), two),
  )

-- ---- what a type comes down to

pub ok_to : {A E : Type 0} {P Q : A → Type 0} (result : Result A E) → ((x : A) → P x → Q x) → IfOk result P → IfOk result Q
ok_to (Ok x) follows h = follows x h
ok_to (Err fault) follows h = tt

-- the type itself, where it is a plain one that was found
pub reduced_type-plain : (s : Schema) → HoldsTogether s → (of : code.TypeUse) (last : Bor code.TypeUse) (base : Base) → base ≡ Plain last
    → HasBase s (type_use of) base
    → IsTypeUse s (type_use of) → (same : code.TypeUse) → type_use same ≡ type_use last.now
    → IsTypeUse s (type_use same) × ComesTo s (type_use of) (type_use same)
reduced_type-plain s holds of last base is (found_, comes, base_is) known same says =
    let plain : found_ ≡ type_use same = (subst (IsBase s found_) is base_is).0 ∙ sym says in
    (subst (IsTypeUse s) plain (comes-is s holds (type_use of) found_ comes known), subst (ComesTo s (type_use of)) plain comes)

-- the type itself
pub reduced_type-same : (s : Schema) (of same : code.TypeUse) → IsTypeUse s (type_use of) → type_use same ≡ type_use of
    → IsTypeUse s (type_use same) × ComesTo s (type_use of) (type_use same)
reduced_type-same s of same known says = (
  subst (IsTypeUse s) (sym says) known,
  subst (ComesTo s (type_use of)) (sym says)
      (at_itself (type_use of)),
)

-- ---- rows

found : {X : Type 0} (rows : List (Option X)) (e : ℕ) (row : X) → slice_get rows e ≡ Some (Some row)
    → (e < length rows) × (get_or rows e None ≡ Some row)
found rows e row at = (slice_get_within rows e (Some row) at, get_or_from_slice_get rows e (Some row) None at)

found_back : {X : Type 0} (rows : List (Option X)) (e : ℕ) (row : X) → e < length rows → get_or rows e None ≡ Some row
    → slice_get rows e ≡ Some (Some row)
found_back rows e row below at = slice_get-get_or rows e None below ∙ ap Some at

none_more : (s : Schema) (rows : List (Option Prepared)) → IsPlanOf s rows → IsPlanOf s (rows ++ None ∷ [])
none_more s rows are e row at =
    let (below, is) = found (rows ++ None ∷ []) e row at in
    elim (cases_lt e (length rows)) [
      | inl h ↦ are e row (found_back rows e row h (sym (get_or_append_left rows (None ∷ []) None e h) ∙ is))
      | inr h ↦
          let last : e ≡ length rows = omega (arith, h, below, length-append rows (None ∷ [])) in
          let none : None ≡ Some row = sym (ap (λ (k : ℕ). get_or (rows ++ None ∷ []) k None) last ∙ get_or-append_seam rows None [] None)
          ∙ is in cc
    ]

one_put : (s : Schema) (rows : List (Option Prepared)) (k : ℕ) (new : Prepared) → IsPlanOf s rows → IsRow s k new
    → IsPlanOf s (set rows k (Some new))
one_put s rows k new are has e row at =
    let (below, is) = found (set rows k (Some new)) e row at in
    let room : e < length rows = omega (arith, below, length-set rows k (Some new)) in
    elim (cases_eq e k) [
      | inl same ↦
          let both : Some new ≡ Some row =
          sym (ap (λ (i : ℕ). get_or (set rows k (Some new)) i None) same
          ∙ get_or-set_same rows k (Some new) None (subst (λ (i : ℕ). i < length rows) same room)) ∙ is in
          let one : new ≡ row = cc in
          subst (λ (i : ℕ). IsRow s i row) (sym same) (subst (λ (x : Prepared). IsRow s k x) one has)
      | inr other ↦ are e row (found_back rows e row room (sym (get_or-set_other rows k e (Some new) None other) ∙ is))
    ]

-- a row with nothing
pub row_more : (s : Schema) (rows : List (Option Row)) → IsPlanOf s (rows_view rows) → IsPlanOf s (rows_view (rows ++ None ∷ []))
row_more s rows are = subst (IsPlanOf s) (sym (map_push (option_map row_view) rows None)) (none_more s (rows_view rows) are)

-- this row in its place
pub row_put : (s : Schema) (rows : List (Option Row)) (k : ℕ) (new : Row) → IsPlanOf s (rows_view rows) → IsRow s k (row_view new)
    → IsPlanOf s (rows_view (set rows k (Some new)))
row_put s rows k new are has = subst (IsPlanOf s) (sym (map-set (option_map row_view) rows k (Some new)))
    (one_put s (rows_view rows) k (row_view new) are has)

pub row_at : (s : Schema) (rows : List (Option Row)) (e : ℕ) (found_ : Option Row) (row : Row) → IsPlanOf s (rows_view rows)
    → (e < length rows) × ((d : Option Row) → found_ ≡ get_or rows e d) → found_ ≡ Some row → IsRow s e (row_view row)
row_at s rows e found_ row are (below, at) is =
    are e (row_view row) (slice_get-map (option_map row_view) rows e
    ∙ ap (option_map (option_map row_view)) (found_back rows e row below (sym (at None) ∙ is)))
