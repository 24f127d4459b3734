-- What kept declarations redeclare, in a schema whose order and places are known.
use Rattle.std.specs.Prelude.{◌≡◌, ℕ, Bool, List, [], ◌∷◌, ◌++◌, map, Some, slice_get, Contains}
use Rattle.std.specs.List.{AllZip, IsDistinct}
use Rattle.p21_spec_schema.specs.Schema.{Schema, Place, Redeclared, Entity}
use Rattle.p21_spec_schema.specs.Supertype.{IsA}
use Rattle.p21_spec_schema.specs.Redeclaration.{IsProperSupertype, RedeclaresPlace, HasNoPlace}
use Rattle.p21_spec_schema.specs.DeclaredEntity.{same_place}
use Rattle.p21_express_syntax.specs.Digest.{TypeDigest, EntityDigest}
use Rattle.p21_express_outline.specs.Outline.{Named, DigestTypeIs, digest_own_names, digest_redeclared_names, digest_redeclared_explicit}

abbrev pub DigestRedeclaredIs : Schema → Named → ℕ → (List ℕ × List ℕ) × Bool × TypeDigest → Redeclared → Type 0
DigestRedeclaredIs s n e kept r = RedeclaresPlace s e kept.0.0 kept.0.1 r.place × (r.optional ≡ kept.1) × DigestTypeIs n kept.2 r.type

-- the entity or a supertype of it derives a new attribute of this name
abbrev pub DigestDerivesName : Schema → List EntityDigest → ℕ → List ℕ → Type 0
DigestDerivesName s entities e name = (f : ℕ) × (x : EntityDigest) × IsA s e f × (slice_get entities f ≡ Some x)
    × Contains (digest_own_names x.derived) name

-- the places of the redeclarations of a DERIVE clause; one stands for none where its supertype derives its name
pub data DigestDerivedAre (s : Schema) (entities : List EntityDigest) (e : ℕ) : List (List ℕ × List ℕ) → List Place → Type 0 where
  no_more : DigestDerivedAre s entities e [] []
  a_place : (supertype name : List ℕ) (place : Place) (names : List (List ℕ × List ℕ)) (found : List Place)
      → RedeclaresPlace s e supertype name place → DigestDerivedAre s entities e names found
      → DigestDerivedAre s entities e ((supertype, name) ∷ names) (place ∷ found)
  no_place : (supertype name : List ℕ) (sup : ℕ) (names : List (List ℕ × List ℕ)) (found : List Place) → IsProperSupertype s e sup supertype
      → HasNoPlace s sup name → DigestDerivesName s entities sup name
      → DigestDerivedAre s entities e names found → DigestDerivedAre s entities e ((supertype, name) ∷ names) found

-- what an entity redeclares
pub record RedeclarationsAre (s : Schema) (n : Named) (entities : List EntityDigest) (e : ℕ) (x : EntityDigest) (found : Entity) : Type
    0 where
  pub redeclared_are : AllZip (DigestRedeclaredIs s n e) (digest_redeclared_explicit x.explicit) found.redeclared
  pub derived_are : DigestDerivedAre s entities e (digest_redeclared_names x.derived) found.derived
  pub places_distinct : IsDistinct same_place (map (λ r. r.place) found.redeclared ++ found.derived)
