use Rattle.std.specs.Prelude.{◌<◌, ◌^◌, ℕ, List, Contains}
use Rattle.std.proofs.Common.{rules, subst, sym}
use Rattle.p21_express_graph.specs.SchemaContents.{schema_of}
use Rattle.p21_express_graph.proofs.Naming.{named, entity-fits}
use Rattle.p21_express_graph.proofs.ranking.entity_named.Goals as goal

pub overflow_cast-result : goal.overflow_cast-result
overflow_cast-result c =
    let (x, is, _) = named (λ x. x.name) (schema_of c.args.parts.now).entities c.in-Some.at c.args.name.now (rw (← c.requires.named.entities_are) c.in-Some.ensures) in
    let below : c.in-Some.at < 2 ^ 32 = entity-fits (schema_of c.args.parts.now) c.requires.holds c.in-Some.at x is in search (rules, below)

pub returns : goal.returns
returns c = named (λ x. x.name) (schema_of c.args.parts.now).entities c.in-Some.at c.args.name.now (rw (← c.requires.named.entities_are) c.in-Some.ensures)

pub unreachable-requires : goal.unreachable-requires
unreachable-requires c = let P : List (List ℕ) → Type 0 = λ names. Contains names c.args.name.now in c.in-None.ensures (subst P (sym c.requires.named.entities_are) c.requires.among)
