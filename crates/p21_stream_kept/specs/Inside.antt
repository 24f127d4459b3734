-- What the fields hold, as pure data.
use Rattle.std.specs.Prelude.{◌≡◌, ◌<◌, ◌≤◌, ◌+◌, ◌^◌, List, length, map}
use Rattle.p21_spec_laws.specs.Keeping.{Kept}
use Rattle.p21_spec_laws.specs.Stored.{KeptLines, StoredEntry, with_lines}
use Rattle.p21_spec_laws.specs.Waiting as waiting
use Rattle.p21_mapping_values.specs.TypedView.{need_view}
use Rattle.p21_stream_kept.specs.declared.kept.Kept.TheInside.{Inside}
use Rattle.p21_stream_kept.specs.declared.kept.Reference.{Reference}
use Rattle.p21_stream_kept.specs.declared.stored.Stored.{Stored}
use Rattle.p21_stream_kept.specs.declared.waiting.Waiting.{Waiting}
use Rattle.p21_stream_store.specs.StoredInstance.{StoredInstance}
use Rattle.p21_stream_kept.specs.KeptInstances.{are_equal, instances_of, lines_kept}
pub use Rattle.p21_stream_output.specs.Ending.{AreNamed, stored_of, stored_with}
pub use Rattle.p21_stream_output.specs.Filing.{HaveMemberships, AreOfSections}

abbrev pub reference_of : Reference → waiting.Reference
reference_of r = (r.holder, need_view r.need)

abbrev pub references_of : List Reference → List waiting.Reference
references_of all = map reference_of all

abbrev pub stored_in : Stored → List StoredEntry
stored_in a = stored_of a.memberships (instances_of a.instances)

-- each instance has the number of a membership
abbrev pub AreStored : Stored → Type 0
AreStored a = HaveMemberships a.memberships (instances_of a.instances)

-- those that were looked at are among the references
abbrev pub HasLooked : Waiting → Type 0
HasLooked a = a.looked ≤ length a.references.items

abbrev pub kept_of : Inside → Kept
kept_of a = record {
  lines = lines_kept a.stored.instances;
  equal = are_equal a.stored.instances;
  header = a.header.items;
  headings = a.sections;
  stored = stored_in a.stored;
  waiting = references_of a.waiting.references.items;
  references = a.references;
  bytes = a.bytes;
  framing = a.framing;
}

-- where lines are kept, the text of each instance begins with its name
pub record AreNamedWhereKept (lines : KeptLines) (instances : List StoredInstance) : Type 0 where
  pub where_kept : lines ≡ with_lines → AreNamed instances

-- each instance has the number of a membership, each membership is of a data section, each text that is kept begins with the name
-- of its instance, 64 bits count the bytes of all lines, those that were looked at are among the references, and no more references
-- have come than may before those that wait are looked at again
pub record IsWhole (a : Inside) : Type 0 where
  pub memberships : AreStored a.stored
  pub sections : AreOfSections (length a.sections) a.stored.memberships
  pub named : AreNamedWhereKept (lines_kept a.stored.instances) (instances_of a.stored.instances)
  pub counted : a.bytes + a.framing < 2 ^ 64
  pub looked : HasLooked a.waiting
  pub patient : a.references ≤ a.waiting.due
