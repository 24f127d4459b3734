-- What the check of a record answers.
use Rattle.std.specs.Prelude.{◌≡◌, ◌≢◌, ◌↔◌, List, map, Result, Ok, Err, Vec}
use Rattle.std.specs.Global.{Global}
use Rattle.std.specs.List.{AllByRecursion as Each}
use Rattle.p21_spec_laws.specs.Needs.{MeansWithNeeds}
use Rattle.p21_spec_exchange.specs.Record.{Record}
use Rattle.p21_spec_file.specs.BrokenRule.{Breaks}
use Rattle.p21_spec_file.specs.Meaning.{RecordMeans}
use Rattle.p21_spec_file.specs.Meaning as meaning
use Rattle.p21_spec_file.specs.Reference.{IsServed, EntitySets, record_references}
use Rattle.p21_spec_file.specs.Reference as reference
pub use Rattle.p21_mapping.specs.Outcome.{needs_view}
use Rattle.p21_mapping_values.specs.KnownTypes.{HaveKnownTypes}
use Rattle.p21_grammar_tree.specs.declared.fault.CheckFault.{CheckFault}
use Rattle.p21_grammar_tree.specs.declared.fault.CheckFault.TheVariants.{NoMemory}
use Rattle.p21_mapping_values.specs.declared.need.Need.{Need}
use Rattle.p21_mapping_values.specs.declared.typed.Typed.{Typed}
use Rattle.p21_grammar_tree.specs.Fault.{fault_number}
use Rattle.p21_mapping_values.specs.TypedView.{typed_view}
use Rattle.p21_spec_schema.specs.Schema.{Schema}

-- the record has no meaning, whatever the sets of the instances
abbrev pub MeansNothing : Schema → Record → Type 0
MeansNothing s record_ = (kinds : EntitySets) (m : meaning.Typed) → ¬ RecordMeans s kinds record_ m

-- The record means this with these needs: it has a meaning exactly among instances that serve each of them, and that is
-- this one. Some instances serve them all; they are the names in its parameters, in their order. Each keyword of a value names a type
pub record IsChecked (s : Schema) (record_ : Record) (m : meaning.Typed) (needs : List reference.Need) : Type 0 where
  pub means : MeansWithNeeds s record_ m needs
  pub decided : (kinds : EntitySets) → RecordMeans s kinds record_ m ↔ Each (IsServed s kinds) needs
  pub sole : (kinds : EntitySets) (other : meaning.Typed) → RecordMeans s kinds record_ other → other ≡ m
  pub can_be_served : (kinds : EntitySets) × Each (IsServed s kinds) needs
  pub targets_are : map (λ (need : reference.Need). need.target) needs ≡ record_references record_
  pub known : Each (HaveKnownTypes s) m.values

-- a refused record means nothing, and breaks the rule of the number
pub record IsRefused (s : Schema) (record_ : Record) (fault : CheckFault) : Type 0 where
  pub means_nothing : MeansNothing s record_
  pub breaks : Breaks s record_ (fault_number fault)

-- a record is checked; want of memory says nothing of it
abbrev pub ChecksRecord : Schema → Record → Result (Typed × Vec Need Global) CheckFault → Type 0
ChecksRecord s record_ (Ok (typed, needs)) = IsChecked s record_ (typed_view typed) (needs_view needs.items)
ChecksRecord s record_ (Err fault) = fault ≢ NoMemory → IsRefused s record_ fault
