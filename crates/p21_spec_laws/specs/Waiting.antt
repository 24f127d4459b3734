-- The needs of the instances that were taken: those that wait for the end of the file, and those that are served.
use Rattle.std.specs.Prelude.{◌⊎◌, ℕ, List, map, Contains}
use Rattle.std.specs.List.{flat_map, AllByRecursion as Each}
use Rattle.p21_spec_laws.specs.CompleteFile.{Entry, entity_sets_in}
use Rattle.p21_spec_file.specs.Reference.{IsServed, Need}
use Rattle.p21_spec_schema.specs.Schema.{Schema}

-- a need, with the name of the instance that has it
abbrev pub Reference : Type 0
Reference = ℕ × Need

abbrev pub references_of : Entry → List Reference
references_of entry = map (λ (need : Need). (entry.name, need)) entry.needs

-- the needs of all of them, in their order
abbrev pub references_in : List Entry → List Reference
references_in entries = flat_map references_of entries

-- these wait: each of them is a need of one of the instances, and each need of theirs waits or is served among them
pub record IsWaiting (s : Schema) (entries : List Entry) (waiting : List Reference) : Type 0 where
  pub are_needs : Each (Contains (references_in entries)) waiting
  pub others_served : Each (λ (r : Reference). Contains waiting r ⊎ IsServed s (entity_sets_in entries) r.1) (references_in entries)
