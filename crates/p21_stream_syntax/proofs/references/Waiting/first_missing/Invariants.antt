use Rattle.std.proofs.Common.{take}
use Rattle.std.specs.List.{AllByRecursion as Each}
use Rattle.p21_stream_store.specs.StoredInstance.{instance_names}
use Rattle.p21_stream_syntax.proofs.Adding.{HasCome}
use Rattle.p21_stream_syntax.specs.Waiting.{claims_in}
use Rattle.p21_stream_syntax.proofs.references.Waiting.first_missing.Given as goal

-- those so far have come
abbrev pub invariant-loop-index : goal.invariant-loop-index
invariant-loop-index l = Each (HasCome (instance_names l.names)) (claims_in (take l.index l.self.references.items))
