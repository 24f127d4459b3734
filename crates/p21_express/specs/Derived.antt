-- The places that the redeclarations of a DERIVE clause stand for, as they are looked for.
use Rattle.std.specs.Prelude.{◌≡◌, ℕ, List, [], ◌∷◌, ◌++◌, map, Option, Some, None, Result, Ok, Err, Vec, slice_get, Contains}
use Rattle.p21_express_outline.specs.Finding.{RefusalShows}
use Rattle.p21_express_outline.specs.declared.fault.SchemaFault.{SchemaFault}
use Rattle.p21_express_outline.specs.Outline.{digest_own_names}
use Rattle.p21_express_outline.specs.Redeclarations.{DigestDerivedAre}
use Rattle.p21_express_syntax.specs.Digest.{EntityDigest}
use Rattle.p21_express_graph.specs.Meaning.{place as place_of}
use Rattle.p21_express_graph.specs.declared.number.Place.{Place}
use Rattle.p21_spec_schema.specs.Schema as pure
use Rattle.p21_spec_schema.specs.Schema.{Schema}

-- the entity of this number derives a new attribute of this name itself
abbrev pub DerivesItself : List EntityDigest → ℕ → List ℕ → Type 0
DerivesItself entities e name = (x : EntityDigest) × (slice_get entities e ≡ Some x) × Contains (digest_own_names x.derived) name

-- no places are those of these redeclarations
abbrev pub HaveNoDerivedPlaces : Schema → List EntityDigest → ℕ → List (List ℕ × List ℕ) → Type 0
HaveNoDerivedPlaces s entities e names = (places : List pure.Place) → DigestDerivedAre s entities e names places → ⊥

-- the place of one redeclaration, or that it stands for none, or there is no such
abbrev pub FindsDerivedPlace : Schema → List EntityDigest → ℕ → List ℕ × List ℕ → Result (Option Place) SchemaFault → Type 0
FindsDerivedPlace s entities e name (Ok (Some place)) = DigestDerivedAre s entities e (name ∷ []) (place_of place ∷ [])
FindsDerivedPlace s entities e name (Ok None) = DigestDerivedAre s entities e (name ∷ []) []
FindsDerivedPlace s entities e name (Err fault) = RefusalShows fault (HaveNoDerivedPlaces s entities e (name ∷ []))

-- the places of all, or there are none
abbrev pub FindsDerivedPlaces : {Z : Type 0} → Schema → List EntityDigest → ℕ → List (List ℕ × List ℕ) → Result (Vec Place Z) SchemaFault
    → Type 0
FindsDerivedPlaces s entities e names (Ok found) = DigestDerivedAre s entities e names (map place_of found.items)
FindsDerivedPlaces s entities e names (Err fault) = RefusalShows fault (HaveNoDerivedPlaces s entities e names)

-- the same, behind those that are there
abbrev pub AddsDerivedPlaces : {Z : Type 0} → Schema → List EntityDigest → ℕ → List (List ℕ × List ℕ) → Result (Unit {0}) SchemaFault
    → Vec Place Z → Vec Place Z → Type 0
AddsDerivedPlaces s entities e names (Ok u) old new = (places : List pure.Place)
    × (map place_of new.items ≡ map place_of old.items ++ places) × DigestDerivedAre s entities e names places
AddsDerivedPlaces s entities e names (Err fault) old new = RefusalShows fault (HaveNoDerivedPlaces s entities e names)
