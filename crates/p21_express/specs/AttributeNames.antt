-- The names of the attributes that entities declare themselves.
use Rattle.std.specs.Prelude.{◌≡◌, ℕ, List, Option, Some, None, map, slice_get}
use Rattle.p21_spec_schema.specs.Schema.{Schema, attributes_of}
use Rattle.p21_express.specs.Found.{HasDistinctAttributes}
use Rattle.p21_express.specs.NamedOwners.{AreOwnersOf}
use Rattle.p21_express.specs.declared.attribute_names.AttributeNames.{AttributeNames}

abbrev pub own_names : Schema → ℕ → List (List ℕ)
own_names s e = map (λ a. a.name) (attributes_of s e)

-- names that are kept for an entity are those of its attributes
abbrev pub IsKept : Schema → ℕ → Option (List (List ℕ)) → Type 0
IsKept s e None = Unit {0}
IsKept s e (Some names) = names ≡ own_names s e

-- names are told apart, and kept for entities; names that are redeclared have their owners
pub record AreNamesOf (s : Schema) (names : AttributeNames) : Type 0 where
  pub distinct : HasDistinctAttributes s
  pub owners_are : AreOwnersOf s names.owners
  pub each : (e : ℕ) (kept : Option (List (List ℕ))) → slice_get names.of_each.items e ≡ Some kept → IsKept s e kept
