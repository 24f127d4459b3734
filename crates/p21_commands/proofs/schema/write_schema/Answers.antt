use Rattle.p21_commands.proofs.SchemaTexts.{text-right}
use Rattle.p21_commands.specs.SchemaText.{schema_text}
use Rattle.p21_commands.proofs.schema.write_schema.Goals as goal

pub returns-in-Ok-clause-ok : goal.returns-in-Ok-clause-ok
returns-in-Ok-clause-ok g c = record {
  line = schema_text c.in_ok-schema.schema;
  is_line = record {
    schema = c.in_ok-schema.schema;
    declares = c.in_ok-schema.ensures.declares;
    is_text =
        text-right c.in_ok-schema.schema;
  };
  appended = c.in-Ok.ensures.ok;
}

pub returns-clause-err : goal.returns-clause-err
returns-clause-err g c = record {
  line = schema_text c.in_ok-schema.schema;
  is_line = record {
    schema = c.in_ok-schema.schema;
    declares = c.in_ok-schema.ensures.declares;
    is_text =
        text-right c.in_ok-schema.schema;
  };
  part = c.in-Err.ensures.err;
}
