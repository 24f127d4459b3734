-- A place that one entity alone redeclares.
use Rattle.std.specs.Prelude.{◌≡◌, ℕ, List, [], ◌∷◌, length, Contains}
use Rattle.std.proofs.Common.{arith, sym, subst, inl, inr, get_or}
use Rattle.p21_spec_basics.proofs.Members.{Contains-none, Contains-cases, Contains-first, Contains-found}
use Rattle.p21_spec_schema.specs.PlaceType.{Decides, IsDerivedIn, IsRedeclared}
use Rattle.p21_spec_schema.specs.Schema.{Schema, Place, Redeclared}
use Rattle.p21_spec_schema.specs.Supertype.{IsA, itself}
use Rattle.p21_express_graph.specs.declared.number.EntityId.{EntityId}
use Rattle.p21_express_graph.specs.Lookups.{DerivesPlace}
use Rattle.p21_express_graph.specs.Orders.{numbers}
use Rattle.p21_schema.specs.Decisions.{IsRedeclaredAs, IsRedeclarer}
use Rattle.p21_schema.specs.Redeclarers.{RedeclaresPlace}

-- those that are found are one
pub one-redeclarer : (found : List EntityId) (d : EntityId) → length found ≡ 1 → (e : ℕ) → Contains (numbers found) e
    → e ≡ (get_or found 0 d).0
one-redeclarer [] d one e among = absurd (omega (arith, one))
one-redeclarer (f ∷ []) d one e among = elim (Contains-cases f.0 [] e among)
    [ inl same ↦ sym same | inr none ↦ absurd (Contains-none e none) ]
one-redeclarer (f ∷ g ∷ found) d one e among = absurd (omega (arith, one))

pub one-among : (found : List EntityId) (d : EntityId) → length found ≡ 1 → Contains (numbers found) (get_or found 0 d).0
one-among [] d one = absurd (omega (arith, one))
one-among (f ∷ found) d one = Contains-first f.0 (numbers found)

-- where one entity alone redeclares a place
module _ (s : Schema) (place : Place) (only : ℕ) (alone : (e : ℕ) → RedeclaresPlace s e place → e ≡ only) (entities : List ℕ) where
  -- and it isn't of a set, or doesn't redeclare it so, none of the set does
  pub outside-derives : (Contains entities only → ⊥) → IsDerivedIn s entities place → ⊥
  outside-derives out (e, x, among, at, derives) = let P : ℕ
      → Type 0 = λ f. Contains entities f in out (subst P (alone e (inr (x, at, derives))) among)

  pub outside-redeclares : (Contains entities only → ⊥) → IsRedeclared s entities place → ⊥
  outside-redeclares out (e, r, (among, redeclares, is)) = let P : ℕ
      → Type 0 = λ f. Contains entities f in out (subst P (alone e (inl (r, (redeclares, is)))) among)

  pub only-derives : (DerivesPlace s only place → ⊥) → IsDerivedIn s entities place → ⊥
  only-derives stored (e, x, among, at, derives) = let P : ℕ
      → Type 0 = λ f. DerivesPlace s f place in stored (subst P (alone e (inr (x, at, derives))) (x, at, derives))

  pub only-redeclares : (IsRedeclarer s place only → ⊥) → IsRedeclared s entities place → ⊥
  only-redeclares none (e, r, (among, redeclares, is)) = let P : ℕ
      → Type 0 = λ f. IsRedeclarer s place f in none (subst P (alone e (inl (r, (redeclares, is)))) (r, (redeclares, is)))

  -- it decides in a set that it is of
  pub only-decides : Contains entities only → (at : ℕ) (r : Redeclared) → IsRedeclaredAs s only at r → r.place ≡ place
      → Decides s entities place r
  only-decides among at r (x, x_at, r_at) is =
      let P : ℕ → Type 0 = λ f. IsA s only f in (
        only,
        (among, (x, x_at, Contains-found x.redeclared at r r_at), is),
        λ f other (f_among, redeclares, f_is). subst P
            (sym (alone f (inl (other, (redeclares, f_is))))) (itself only),
      )
