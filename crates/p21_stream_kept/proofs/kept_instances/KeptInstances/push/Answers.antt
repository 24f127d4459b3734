use Rattle.std.proofs.Common.{subst, sym}
use Rattle.std.specs.Prelude.{◌↔◌, IsTrue, OnOk}
use Rattle.p21_spec_laws.specs.Stored.{IsAmongEarlier}
use Rattle.p21_stream_kept.specs.KeptInstances.{are_equal, lines_kept}
use Rattle.p21_stream_kept.specs.declared.kept_instances.KeptInstances.{KeptInstances}
use Rattle.p21_stream_kept.proofs.kept_instances.KeptInstances.push.Goals as goal

pub returns-in-Beside-clause-equal : goal.returns-in-Beside-clause-equal
returns-in-Beside-clause-equal c =
    subst (λ (k : KeptInstances). OnOk c.push-in-Beside.result
    (IsTrue c.push-in-Beside.new.self.equal ↔ (IsTrue (are_equal k) × IsAmongEarlier (lines_kept k) (c.args.name, c.args.line.now))))
    (sym c.in-Beside.is) c.push-in-Beside.ensures.equal
