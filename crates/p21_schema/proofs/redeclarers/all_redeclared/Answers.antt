use Rattle.std.specs.Prelude.{List, map}
use Rattle.std.proofs.Common.{ap, subst}
use Rattle.p21_spec_schema.specs.Schema.{Entity}
use Rattle.p21_express_graph.specs.SchemaContents.{entity, schema_of}
use Rattle.p21_schema.specs.Redeclarers.{ArePlacesOfEach, AreRedeclarersOf}
use Rattle.p21_schema.proofs.Owners.{are-redeclarers}
use Rattle.p21_schema.proofs.redeclarers.all_redeclared.Goals as goal

pub returns : goal.returns
returns c =
    let P : List Entity → Type 0 = λ es. ArePlacesOfEach es c.in_ok-of_each.of_each.items in
    let Q : List Entity → Type 0 = λ es. AreRedeclarersOf es c.in_ok-redeclarers.redeclarers in
    record {
      each_are = subst P (ap (map entity) c.deref.ensures.value) c.in_ok-of_each.ensures;
      redeclarers_are = are-redeclarers (schema_of c.args.parts.now) c.in_ok-redeclarers.redeclarers
          (subst Q (ap (map entity) c.deref-2.ensures.value) c.in_ok-redeclarers.ensures);
    }
