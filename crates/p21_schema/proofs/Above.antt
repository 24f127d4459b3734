-- Leaves by the proper supertypes.
use Rattle.std.specs.Prelude.{◌↔◌, ℕ, List, Contains}
use Rattle.std.proofs.Common.{sym, inl, inr}
use Rattle.std.proofs.lemmas.Bool.{cases_eq}
use Rattle.p21_spec_schema.specs.Schema.{Schema}
use Rattle.p21_spec_schema.specs.Supertype.{IsLeaf}
use Rattle.p21_schema.specs.Above.{AreAbove}

-- proper supertypes in rising order
pub above-risen : (s : Schema) (es above rising_numbers : List ℕ) → AreAbove s es above
    → ((y : ℕ) → Contains rising_numbers y ↔ Contains above y) → AreAbove s es rising_numbers
above-risen s es above rising_numbers are same f = (λ has. (are f).0 ((same f).0 has), λ is. (same f).1 ((are f).1 is))

-- a member is a leaf where it is none of them
module _ (s : Schema) (es above : List ℕ) (are : AreAbove s es above) (e : ℕ) where
  pub leaf-of : Contains es e → (Contains above e → ⊥) → IsLeaf s es e
  leaf-of among none = (
    among,
    λ f f_among is. elim (cases_eq e f)
        [ inl same ↦ sym same | inr differ ↦ absurd (none ((are e).1 (f, f_among, (is, differ)))) ],
  )

  pub no-leaf : Contains above e → ¬ IsLeaf s es e
  no-leaf has leaf = let (f, among, (is, differ)) = (are e).0 has in differ (sym (leaf.1 f among is))
