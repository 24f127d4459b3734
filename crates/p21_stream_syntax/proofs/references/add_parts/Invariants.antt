use Rattle.std.proofs.Common.{take}
use Rattle.p21_stream_store.specs.StoredInstance.{instance_names}
use Rattle.p21_stream_syntax.specs.Waiting.{Adds, claims_in, claims_of, parts_references}
use Rattle.p21_stream_syntax.proofs.references.add_parts.Given as goal

-- the references of the records so far
abbrev pub invariant-loop-part : goal.invariant-loop-part
invariant-loop-part l = Adds (instance_names l.names) (claims_of l.holder (parts_references (take l.part-index l.parts)))
    (claims_in l.fn.waiting.items) (claims_in l.waiting.items)
