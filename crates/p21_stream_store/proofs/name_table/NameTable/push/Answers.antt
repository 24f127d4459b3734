use Rattle.std.proofs.Common.{◌≡◌, ◌+◌, ◌∷◌, ◌++◌, [], ℕ, List, ap, subst, sym, ◌∙◌, arith}
use Rattle.std.specs.List.{Contains}
use Rattle.p21_stream_store.proofs.PositionLemmas.{as_before, more_are, more_size, names_are, not_found_yet}
use Rattle.p21_stream_store.specs.Positions.{NamesOf, position_in}
use Rattle.p21_stream_store.proofs.name_table.NameTable.push.Goals as goal

pub add_position-requires : goal.add_position-requires
add_position-requires c = not_found_yet c.self.inside.names.0 _ _ c.self.inside.names.1.1
    (subst (λ (l : List ℕ). Contains l c.args.name → ⊥) (sym c.self.view_is) c.requires)

pub returns-in_default-clause-err : goal.returns-in_default-clause-err
returns-in_default-clause-err c =
    let new = position_in c.add_position.new.run c.add_position.new.marks c.add_position.new.others in
    let one : (there : NamesOf new c.self.inside.count) → there.0 ≡ c.args.self.now =
    λ there. names_are new c.self.inside.count there c.self.inside.names.0 c.self.inside.names.1.0
    (as_before c.self.inside.names.0 _ new c.self.inside.names.1.1 c.in_default.ensures.err) ∙ c.self.view_is in
    search (one)

pub invariant_of-self-inside-2 : goal.invariant_of-self-inside-2
invariant_of-self-inside-2 c =
    let new = position_in c.add_position.new.run c.add_position.new.marks c.add_position.new.others in
    let size = more_size c.self.inside.names.0 c.self.inside.count c.args.name c.self.inside.names.1.0 in
    let are = more_are c.self.inside.names.0 c.self.inside.count c.args.name c.self.inside.names.1.0 c.args.self.now _ new c.self.view_is
    c.ranges.name.fits c.self.inside.names.1.1 c.requires c.in-Ok.ensures.ok in
    (omega (arith, c.if-self-ge-MOST.false), ((c.self.inside.names.0 ++ c.args.name ∷ [], (size, are)), tt))

pub returns-clause-ok : goal.returns-clause-ok
returns-clause-ok c =
    let new = position_in c.add_position.new.run c.add_position.new.marks c.add_position.new.others in
    let size = more_size c.self.inside.names.0 c.self.inside.count c.args.name c.self.inside.names.1.0 in
    let are = more_are c.self.inside.names.0 c.self.inside.count c.args.name c.self.inside.names.1.0 c.args.self.now _ new c.self.view_is
    c.ranges.name.fits c.self.inside.names.1.1 c.requires c.in-Ok.ensures.ok in
    let one : (there : NamesOf new (c.self.inside.count + 1)) → there.0 ≡ c.args.self.now ++ c.args.name ∷ [] =
    λ there. names_are new (c.self.inside.count + 1) there (c.self.inside.names.0 ++ c.args.name ∷ []) size are
    ∙ ap (λ (l : List ℕ). l ++ c.args.name ∷ []) c.self.view_is in
    search (one)
