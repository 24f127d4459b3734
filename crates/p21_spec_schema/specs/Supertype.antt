-- Supertypes and subtypes: the closure of a set of entities, and its leaves (ISO 10303-11, Subtypes and supertypes;
-- ISO 10303-21, Mapping of EXPRESS entity data types).
use Rattle.std.specs.Prelude.{◌≡◌, ℕ, List, [], ◌∷◌, Some, None, slice_get, Contains}
use Rattle.p21_spec_schema.specs.Schema.{Schema}

-- the direct supertypes, as listed
abbrev pub supertypes_of : Schema → ℕ → List ℕ
supertypes_of s e = elim (slice_get s.entities e) [ Some x ↦ x.supertypes | None ↦ [] ]

-- sub is sup, or sup is a direct or indirect supertype of it
pub data IsA (s : Schema) : ℕ → ℕ → Type 0 where
  itself : (e : ℕ) → IsA s e e
  above : (sub next sup : ℕ) → Contains (supertypes_of s sub) next → IsA s next sup → IsA s sub sup

-- the entities, and all their direct and indirect supertypes
abbrev pub InClosure : Schema → List ℕ → ℕ → Type 0
InClosure s entities f = (e : ℕ) × Contains entities e × IsA s e f

-- a member that is no supertype of another member
abbrev pub IsLeaf : Schema → List ℕ → ℕ → Type 0
IsLeaf s entities e = Contains entities e × ((f : ℕ) → Contains entities f → IsA s f e → f ≡ e)

-- the leaves of a set among some of its entities, in their order
pub data LeavesAmong (s : Schema) (entities : List ℕ) : List ℕ → List ℕ → Type 0 where
  no_more : LeavesAmong s entities [] []
  leaf_next : (e : ℕ) (es leaves : List ℕ) → IsLeaf s entities e → LeavesAmong s entities es leaves → LeavesAmong s entities (e ∷ es) (e ∷ leaves)
  other_next : (e : ℕ) (es leaves : List ℕ) → ¬ IsLeaf s entities e → LeavesAmong s entities es leaves → LeavesAmong s entities (e ∷ es) leaves

-- all leaves of a list of entities, in its order
abbrev pub AreLeaves : Schema → List ℕ → List ℕ → Type 0
AreLeaves s entities leaves = LeavesAmong s entities entities leaves
