-- References that wait for the instances that they name.
use Rattle.std.specs.Prelude.{◌≡◌, ◌⊎◌, ℕ, List, ◌++◌, Contains, map}
use Rattle.std.specs.List.{flat_map, AllByRecursion as Each}
use Rattle.p21_grammar_tree.specs.View.{part_view}
use Rattle.p21_grammar_tree.specs.declared.record.Part.{Part}
use Rattle.p21_spec_exchange.specs.Record.{Record}
use Rattle.p21_spec_file.specs.Reference.{record_references, references}
use Rattle.p21_stream_syntax.specs.declared.references.Reference.{Reference}

-- a reference: the name of the instance that has it, and the one that it names
abbrev pub Claim : Type 0
Claim = ℕ × ℕ

-- those that wait, in their order
abbrev pub claims_in : List Reference → List Claim
claims_in waiting = map (λ (r : Reference). (r.holder, r.target)) waiting

-- the references of one instance to these names
abbrev pub claims_of : ℕ → List ℕ → List Claim
claims_of holder targets = map (λ (n : ℕ). (holder, n)) targets

-- those of some instances, in their order
abbrev pub claims_among : List (ℕ × Record) → List Claim
claims_among instances = flat_map (λ (i : ℕ × Record). claims_of i.0 (record_references i.1)) instances

-- the instance names in the parameters of simple records
abbrev pub parts_references : List Part → List ℕ
parts_references parts = flat_map (λ (part : Part). references (part_view part).params) parts

-- of some references those to names that have not come are added, and perhaps others of them
pub record Adds (names : List ℕ) (added old new : List Claim) : Type 0 where
  pub more : List Claim
  pub new_is : new ≡ old ++ more
  pub are_added : Each (Contains added) more
  pub others_given : Each (λ (c : Claim). Contains more c ⊎ Contains names c.1) added

-- those that are left are some of them, and all to names that have not come
pub record Drops (names : List ℕ) (old new : List Claim) : Type 0 where
  pub are_old : Each (Contains old) new
  pub others_given : Each (λ (c : Claim). Contains new c ⊎ Contains names c.1) old
