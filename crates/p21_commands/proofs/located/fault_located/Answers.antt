use Rattle.std.proofs.Common.{subst, sym}
use Rattle.p21_commands.specs.Tells.{IsToldBy}
use Rattle.p21_commands.specs.declared.fault.CommandFault.{CommandFault}
use Rattle.p21_commands.proofs.located.fault_located.Goals as goal
use Rattle.p21_commands.proofs.located.fault_located.Goals.{in-Refused, in-NoMemory, in-Read, in-Write}

pub returns : goal.returns
returns c =
    let told : IsToldBy c.fault_of.result c.match-fault_of.result = elim c.match-fault_of.branch [
      | in-Refused w ↦
          subst (IsToldBy c.fault_of.result) (sym w.result-is)
          (subst (λ (fault : CommandFault). IsToldBy fault w.own_line.result) (sym w.in-Refused.is) w.own_line.ensures)
      | in-NoMemory w ↦ subst (λ (fault : CommandFault). IsToldBy fault c.match-fault_of.result) (sym w.in-NoMemory.is) w.result-is
      | in-Read w ↦ subst (λ (fault : CommandFault). IsToldBy fault c.match-fault_of.result) (sym w.in-Read.is) w.result-is
      | in-Write w ↦ subst (λ (fault : CommandFault). IsToldBy fault c.match-fault_of.result) (sym w.in-Write.is) w.result-is
    ] in
    (c.fault_of.result, c.fault_of.ensures, told)
