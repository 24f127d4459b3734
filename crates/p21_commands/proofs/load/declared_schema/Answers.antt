use Rattle.std.proofs.Common.{rules}
use Rattle.std.specs.Prelude.{◌≢◌}
use Rattle.p21_express_outline.specs.declared.fault.SchemaFault.TheVariants as fault
use Rattle.p21_commands.proofs.load.declared_schema.Goals as goal

pub returns-in_ok-refusal_text-in-Err : goal.returns-in_ok-refusal_text-in-Err
returns-in_ok-refusal_text-in-Err c =
    let other : c.in-Err.fault ≢ fault.NoMemory = search rules in
    record {
      fault = c.in-Err.fault;
      declares_none = c.in-Err.ensures other;
      not_memory = other;
      line_is =
          c.in_ok-refusal_text-in-Err.ensures;
    }
