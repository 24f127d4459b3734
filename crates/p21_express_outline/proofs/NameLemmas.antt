-- Numbers by names.
use Rattle.std.specs.Prelude.{◌≡◌, ℕ, zero, suc, ◌+◌, false, List, [], ◌∷◌, ◌++◌, length, Some, refl}
use Rattle.std.specs.List.{IsDistinct}
use Rattle.std.specs.Str.{bytes_eq}
use Rattle.std.proofs.Common.{arith, ap, sym, ◌∙◌, subst}
use Rattle.std.proofs.lemmas.Option.{slice_get_within}
use Rattle.p21_spec_basics.proofs.Members.{Each-at, at-front, at-behind}
use Rattle.p21_spec_schema.specs.Schema.{Schema, EntityNamed, TypeNamed}
use Rattle.p21_express_outline.specs.Outline.{Named, named, IsNamed}
use Rattle.p21_express_outline.proofs.Zips.{at-mapped, mapped-at}
use Rattle.p21_spec_basics.proofs.Comparing.{bytes_eq-apart}

-- the names of a schema
pub record HasNames (s : Schema) (n : Named) : Type 0 where
  pub entities_are : (named s).entities ≡ n.entities
  pub types_are : (named s).types ≡ n.types

pub entity-at : (s : Schema) (n : Named) → HasNames s n → (e : ℕ) (name : List ℕ) → EntityNamed s e name → IsNamed n.entities e name
entity-at s n has e name (x, at, same) = let P : List (List ℕ)
    → Type 0 = λ names. IsNamed names e name in subst P has.entities_are (mapped-at (λ y. y.name) s.entities e x at ∙ ap Some same)

pub type-at : (s : Schema) (n : Named) → HasNames s n → (t : ℕ) (name : List ℕ) → TypeNamed s t name → IsNamed n.types t name
type-at s n has t name (x, at, same) = let P : List (List ℕ)
    → Type 0 = λ names. IsNamed names t name in subst P has.types_are (mapped-at (λ y. y.name) s.types t x at ∙ ap Some same)

pub entity-of : (s : Schema) (n : Named) → HasNames s n → (e : ℕ) (name : List ℕ) → IsNamed n.entities e name → EntityNamed s e name
entity-of s n has e name is = let P : List (List ℕ)
    → Type 0 = λ names. IsNamed names e name in at-mapped (λ y. y.name) s.entities e name (subst P (sym has.entities_are) is)

pub type-of : (s : Schema) (n : Named) → HasNames s n → (t : ℕ) (name : List ℕ) → IsNamed n.types t name → TypeNamed s t name
type-of s n has t name is = let P : List (List ℕ) → Type 0 = λ names. IsNamed names t name in
    at-mapped (λ y. y.name) s.types t name (subst P (sym has.types_are) is)

-- ---- different names

-- a name stands at one number
pub distinct-at : (names : List (List ℕ)) → IsDistinct bytes_eq names → (i j : ℕ) (name : List ℕ) → IsNamed names i name
    → IsNamed names j name → i ≡ j
unfolding IsDistinct
distinct-at [] distinct i j name is is_ = cc
distinct-at (x ∷ xs) distinct zero zero name is is_ = refl
distinct-at (x ∷ xs) distinct zero (suc j) name is is_ = let first : x ≡ name = cc in
    absurd (bytes_eq-apart x name (Each-at (λ y. bytes_eq x y ≡ false) xs j name distinct.0 is_) first)
distinct-at (x ∷ xs) distinct (suc i) zero name is is_ = let first : x ≡ name = cc in
    absurd (bytes_eq-apart x name (Each-at (λ y. bytes_eq x y ≡ false) xs i name distinct.0 is) first)
distinct-at (x ∷ xs) distinct (suc i) (suc j) name is is_ = ap suc (distinct-at xs distinct.1 i j name is is_)

-- the names of a schema are told apart
abbrev pub AreApart : Named → Type 0
AreApart n = IsDistinct bytes_eq (n.entities ++ n.types)

pub one-entity : (n : Named) → AreApart n → (e f : ℕ) (name : List ℕ) → IsNamed n.entities e name → IsNamed n.entities f name → e ≡ f
one-entity n distinct e f name is is_ = distinct-at (n.entities ++ n.types) distinct e f name (at-front n.entities n.types e name is)
    (at-front n.entities n.types f name is_)

pub one-type : (n : Named) → AreApart n → (t u : ℕ) (name : List ℕ) → IsNamed n.types t name → IsNamed n.types u name → t ≡ u
one-type n distinct t u name is is_ =
    let same = distinct-at (n.entities ++ n.types) distinct (length n.entities + t) (length n.entities + u) name
    (at-behind n.entities n.types t name is) (at-behind n.entities n.types u name is_) in omega (arith, same)

pub no-both : (n : Named) → AreApart n → (e t : ℕ) (name : List ℕ) → IsNamed n.entities e name → IsNamed n.types t name → ⊥
no-both n distinct e t name is is_ =
    let same = distinct-at (n.entities ++ n.types) distinct e (length n.entities + t) name (at-front n.entities n.types e name is)
    (at-behind n.entities n.types t name is_) in
    let below = slice_get_within n.entities e name is in omega (arith, same, below)
