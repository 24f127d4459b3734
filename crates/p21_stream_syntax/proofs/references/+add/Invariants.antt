use Rattle.std.proofs.Common.{take}
use Rattle.p21_grammar_tree.specs.View.{views}
use Rattle.p21_spec_file.specs.Reference.{references}
use Rattle.p21_stream_store.specs.StoredInstance.{instance_names}
use Rattle.p21_stream_syntax.specs.Waiting.{Adds, claims_in, claims_of}
use Rattle.p21_stream_syntax.proofs.references.+add.Given as goal

-- the references of the parameters so far
abbrev pub invariant-add_listed-loop-i : goal.invariant-add_listed-loop-i
invariant-add_listed-loop-i l = Adds (instance_names l.names) (claims_of l.holder (references (views (take l.i l.params))))
    (claims_in l.fn.waiting.items) (claims_in l.waiting.items)
