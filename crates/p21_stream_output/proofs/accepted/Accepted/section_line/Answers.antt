use Rattle.std.proofs.Common.{List, ap, sym, subst, ◌∙◌}
use Rattle.std.specs.Prelude.{Contains, ℕ}
use Rattle.p21_stream_output.proofs.Searching.{line-found, lines-named}
use Rattle.p21_stream_output.specs.Output.{HasLines, Output}
use Rattle.p21_stream_output.specs.Stored.{HavePositions, output_of}
use Rattle.p21_stream_output.specs.declared.accepted.Section.{Section}
use Rattle.p21_stream_store.specs.StoredInstance.{instance_names}
use Rattle.p21_stream_output.proofs.accepted.Accepted.section_line.Goals as goal

pub section_line-requires-clause-named : goal.section_line-requires-clause-named
section_line-requires-clause-named c = lines-named
    (output_of c.self.inside.header.items c.self.inside.sections.items c.self.inside.instances c.self.inside.statement) c.self.invariant.2

pub returns-clause-some : goal.returns-clause-some
returns-clause-some c =
    let Of : List Section → Output = λ xs. output_of c.self.inside.header.items xs c.self.inside.instances c.self.inside.statement in
    let Lines : List Section → Type 0 = λ xs. HasLines (Of xs) in
    line-found c.args.self.now c.self.inside.header.items c.deref.result.now c.self.inside.instances c.self.inside.statement c.args.name
    c.name.inside.0 c.section_line.result (ap Of c.deref.ensures.value ∙ c.self.view_is) c.name.view_is
    (subst (HavePositions c.self.inside.instances) (sym c.deref.ensures.value) c.self.invariant.0)
    (subst Lines (sym c.deref.ensures.value) c.self.invariant.2) c.section_line.ensures.some

pub returns-clause-none : goal.returns-clause-none
returns-clause-none c none among =
    let Among : Output → Type 0 = λ o. Contains (instance_names o.kept) c.args.name in
    let Has : ℕ → Type 0 = λ n. Contains (instance_names c.self.inside.instances) n in
    c.section_line.ensures.none none (subst Has (sym c.name.view_is) (subst Among (sym c.self.view_is) among))
