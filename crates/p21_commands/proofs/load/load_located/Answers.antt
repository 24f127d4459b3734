use Rattle.std.proofs.Common.{List, ℕ, subst}
use Rattle.p21_spec_schema.specs.Declared.{Declares}
use Rattle.p21_commands.proofs.load.load_located.Goals as goal

pub returns-in-Ok-declared_schema-clause-ok : goal.returns-in-Ok-declared_schema-clause-ok
returns-in-Ok-declared_schema-clause-ok g c = record {
  text = c.in-Ok.text.items;
  gives = c.in-Ok.ensures.text;
  declares = subst (λ (text : List ℕ). Declares text c.in-Ok-declared_schema.declared) c.as_slice.ensures.value
      c.in-Ok-declared_schema.ensures;
}
