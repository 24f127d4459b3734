-- The type at a place is one.
use Rattle.std.specs.Prelude.{◌≡◌, ℕ, ◌<◌, ◌⊎◌, Bool, List, Some, refl}
use Rattle.std.proofs.Common.{arith, subst, ap, sym, ◌∙◌, inl, inr}
use Rattle.p21_spec_schema.specs.Schema.{Schema, TypeUse, Place, Redeclared}
use Rattle.p21_spec_schema.specs.Supertype.{IsA, itself, above}
use Rattle.p21_spec_schema.specs.PlaceType.{PlaceType, derived_place, stored_place, two_redeclarations, Redeclares, Decides, TypeAt}
use Rattle.p21_spec_schema.specs.Declared.{HasNoCircle, HasSupertype}
use Rattle.p21_spec_schema.specs.WellFormed.{RedeclaresOnce}

-- a supertype of a supertype is one
pub IsA-transitive : (s : Schema) (e f g : ℕ) → IsA s e f → IsA s f g → IsA s e g
IsA-transitive s e f g (itself _) up = up
IsA-transitive s e f g (above _ next _ among more) up = above e next g among (IsA-transitive s next f g more up)

-- a proper supertype has a lower rank
IsA-falls : (s : Schema) (ends : HasNoCircle (HasSupertype s)) (e f : ℕ) → IsA s e f → (e ≡ f) ⊎ (ends.0 f < ends.0 e)
IsA-falls s ends e f (itself _) = inl refl
IsA-falls s ends e f (above _ next _ up more) = let first : ends.0 next < ends.0 e = ends.1 e next up in inr (elim (IsA-falls s ends next f more) [
  | inl h ↦ let P : ℕ → Type 0 = λ x. ends.0 x < ends.0 e in subst P h first
  | inr h ↦ omega (arith, h, first)
])

-- no two entities are supertypes of each other
pub IsA-antisymmetric : (s : Schema) → HasNoCircle (HasSupertype s) → (e f : ℕ) → IsA s e f → IsA s f e → e ≡ f
IsA-antisymmetric s ends e f down up = elim (IsA-falls s ends e f down) [
  | inl h ↦ h
  | inr h ↦ elim (IsA-falls s ends f e up) [ inl same ↦ sym same | inr back ↦ absurd (omega (arith, h, back)) ]
]

-- one redeclaration decides
pub Decides-one : (s : Schema) → HasNoCircle (HasSupertype s) → RedeclaresOnce s → (entities : List ℕ) (place : Place) (r q : Redeclared) → Decides s entities place r → Decides s entities place q → r ≡ q
Decides-one s ends once entities place r q (e, found, below) (f, found_, below_) =
    let same : f ≡ e = IsA-antisymmetric s ends f e (below_ e r found) (below f q found_) in
    let P : ℕ → Type 0 = λ x. Redeclares s x q in
    once e r q found.1 (subst P same found_.1) (found.2 ∙ sym found_.2)

-- the type at a place is one
pub TypeAt-one : (s : Schema) → HasNoCircle (HasSupertype s) → RedeclaresOnce s → (entities : List ℕ) (place : Place) (a b : PlaceType) → TypeAt s entities place a → TypeAt s entities place b → a ≡ b
TypeAt-one s ends once entities place derived_place derived_place at_a at_b = refl
TypeAt-one s ends once entities place derived_place (stored_place optional type) at_a at_b = absurd (at_b.0 at_a)
TypeAt-one s ends once entities place derived_place two_redeclarations at_a at_b = absurd (at_b.0 at_a)
TypeAt-one s ends once entities place (stored_place optional type) derived_place at_a at_b = absurd (at_a.0 at_b)
TypeAt-one s ends once entities place (stored_place optional type) (stored_place optional_ type_) at_a at_b = elim at_a.1 [
  | inl (r, decides, optional_is, type_is) ↦ elim at_b.1 [
    | inl (q, decides_, optional_is_, type_is_) ↦
        let same : r ≡ q = Decides-one s ends once entities place r q decides decides_ in
        stored-same optional optional_ type type_ (sym optional_is ∙ ap (λ x. x.optional) same ∙ optional_is_) (sym type_is ∙ ap (λ x. x.type) same ∙ type_is_)
    | inr (none, declared) ↦ absurd (none (decides.0, r, decides.1))
  ]
  | inr (none, (a, at, optional_is, type_is)) ↦ elim at_b.1 [
    | inl (q, decides_, optional_is_, type_is_) ↦ absurd (none (decides_.0, q, decides_.1))
    | inr (none_, (b, at_, optional_is_, type_is_)) ↦
        let same : a ≡ b = (let h : Some a ≡ Some b = sym at ∙ at_ in cc) in
        stored-same optional optional_ type type_ (sym optional_is ∙ ap (λ x. x.optional) same ∙ optional_is_) (sym type_is ∙ ap (λ x. x.type) same ∙ type_is_)
  ]
]
  where
    stored-same : (o p : Bool) (t u : TypeUse) → o ≡ p → t ≡ u → stored_place o t ≡ stored_place p u
    stored-same o p t u first second = ap (λ x. stored_place x t) first ∙ ap (λ x. stored_place p x) second
TypeAt-one s ends once entities place (stored_place optional type) two_redeclarations at_a at_b = elim at_a.1 [
  | inl (r, decides, optional_is, type_is) ↦ absurd (at_b.2 r decides)
  | inr (none, declared) ↦ absurd (none at_b.1)
]
TypeAt-one s ends once entities place two_redeclarations derived_place at_a at_b = absurd (at_a.0 at_b)
TypeAt-one s ends once entities place two_redeclarations (stored_place optional type) at_a at_b = elim at_b.1 [
  | inl (r, decides, optional_is, type_is) ↦ absurd (at_a.2 r decides)
  | inr (none, declared) ↦ absurd (none at_a.1)
]
TypeAt-one s ends once entities place two_redeclarations two_redeclarations at_a at_b = refl
