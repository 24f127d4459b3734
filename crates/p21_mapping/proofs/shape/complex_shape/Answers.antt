use Rattle.std.specs.Prelude.{List, length}
use Rattle.std.specs.List.{AllZip}
use Rattle.std.proofs.Common.{ap, sym, ◌∙◌, subst}
use Rattle.std.proofs.lemmas.Bool.{MatchBool-at_true, MatchBool-at_false}
use Rattle.std.proofs.lemmas.Result.{err_from_is_err_and}
use Rattle.std.proofs.lemmas.Slice.Zip.{AllZip-long}
use Rattle.p21_spec_exchange.specs.Record.{Part, complex}
use Rattle.p21_express_graph.specs.Orders.{numbers}
use Rattle.p21_express_graph.specs.declared.number.EntityId.{EntityId}
use Rattle.p21_spec_file.specs.Meaning.{NamesEntity}
use Rattle.p21_grammar_tree.specs.View.{part_views}
use Rattle.p21_express_graph.specs.Rising.{HaveSame}
use Rattle.p21_mapping.specs.Shape.{AreMembers, IsClosed, HasSomeAbstractLeaf, HasNoAbstractLeaf, PassesSet, RefusesSet, HasCount, HasOtherCount, HasShape}
use Rattle.p21_mapping.proofs.Shapes.{named-entities, same-entities, members-refuse, leaf-breaks, complex-set, set-refuses, complex-miscount, complex-shape, views-length, numbers-length}
use Rattle.p21_mapping.proofs.shape.complex_shape.Goals as goal

pub check_members-requires : goal.check_members-requires
check_members-requires c = rw c.deref.ensures.value
    (named-entities c.args.schema.now (part_views c.args.parts.now) (numbers c.in_ok-listed.listed.items) c.in_ok-listed.ensures)

pub returns-in_err-check_members : goal.returns-in_err-check_members
returns-in_err-check_members c =
    let p = err_from_is_err_and c.from_residual-in_err-check_members.result c.from_residual-in_err-check_members.ensures.1 in
    rw (p.1, p.2) (members-refuse c.args.schema.now c.requires.entities_distinct (part_views c.args.parts.now)
    (numbers c.in_ok-listed.listed.items) c.in_ok-listed.ensures _ (rw c.deref.ensures.value at c.in_err-check_members.ensures))

pub rising-requires : goal.rising-requires
rising-requires c = rw c.deref-2.ensures.value (named-entities c.args.schema.now (part_views c.args.parts.now)
    (numbers c.in_ok-listed.listed.items) c.in_ok-listed.ensures)

pub has_abstract_leaf-requires : goal.has_abstract_leaf-requires
has_abstract_leaf-requires c = rw c.deref-3.ensures.value
    (same-entities c.args.schema.now (numbers c.in_ok-listed.listed.items) (numbers c.in_ok-entities.entities.items)
    (let P : List EntityId → Type 0 = λ xs. HaveSame (numbers xs) (numbers c.in_ok-entities.entities.items) in
    subst P c.deref-2.ensures.value c.in_ok-entities.ensures.same)
    (named-entities c.args.schema.now (part_views c.args.parts.now) (numbers c.in_ok-listed.listed.items) c.in_ok-listed.ensures))

pub returns-then-found : goal.returns-then-found
returns-then-found c = λ _. leaf-breaks c.args.schema.now (complex (part_views c.args.parts.now)) (numbers c.in_ok-entities.entities.items)
    (complex-set c.args.schema.now c.requires.entities_distinct (part_views c.args.parts.now) (numbers c.in_ok-listed.listed.items)
    (numbers c.in_ok-entities.entities.items) c.in_ok-listed.ensures
    (let P : List EntityId → Type 0 = λ xs. IsClosed c.args.schema.now (numbers xs) in
    subst P c.deref.ensures.value c.in_ok-check_members.ensures.1)
    (let P : List EntityId → Type 0 = λ xs. HaveSame (numbers xs) (numbers c.in_ok-entities.entities.items) in
    subst P c.deref-2.ensures.value c.in_ok-entities.ensures.same))
    (let P : List EntityId → Type 0 = λ xs. HasSomeAbstractLeaf c.args.schema.now (numbers xs) in
    subst P c.deref-3.ensures.value (MatchBool-at_true _ _ c.if-found.true c.in_ok-found.ensures))

pub check_set-requires : goal.check_set-requires
check_set-requires c = rw c.deref-4.ensures.value (same-entities c.args.schema.now (numbers c.in_ok-listed.listed.items)
    (numbers c.in_ok-entities.entities.items) (let P : List EntityId
    → Type 0 = λ xs. HaveSame (numbers xs) (numbers c.in_ok-entities.entities.items) in
    subst P c.deref-2.ensures.value c.in_ok-entities.ensures.same)
    (named-entities c.args.schema.now (part_views c.args.parts.now) (numbers c.in_ok-listed.listed.items) c.in_ok-listed.ensures))

pub returns-in-Err : goal.returns-in-Err
returns-in-Err c = set-refuses c.args.schema.now (complex (part_views c.args.parts.now)) (numbers c.in_ok-entities.entities.items)
    (complex-set c.args.schema.now c.requires.entities_distinct (part_views c.args.parts.now) (numbers c.in_ok-listed.listed.items)
    (numbers c.in_ok-entities.entities.items) c.in_ok-listed.ensures
    (let P : List EntityId → Type 0 = λ xs. IsClosed c.args.schema.now (numbers xs) in
    subst P c.deref.ensures.value c.in_ok-check_members.ensures.1)
    (let P : List EntityId → Type 0 = λ xs. HaveSame (numbers xs) (numbers c.in_ok-entities.entities.items) in
    subst P c.deref-2.ensures.value c.in_ok-entities.ensures.same)) c.in-Err.fault
    (let P : List EntityId → Type 0 = λ xs. RefusesSet c.args.schema.now (numbers xs) c.in-Err.fault in
    subst P c.deref-4.ensures.value c.in-Err.ensures)

pub have_counts-requires-clause-entities : goal.have_counts-requires-clause-entities
have_counts-requires-clause-entities c = rw c.deref-5.ensures.value
    (named-entities c.args.schema.now (part_views c.args.parts.now) (numbers c.in_ok-listed.listed.items) c.in_ok-listed.ensures)

pub have_counts-requires-clause-each : goal.have_counts-requires-clause-each
have_counts-requires-clause-each c =
    sym (views-length c.args.parts.now) ∙ sym (AllZip-long (λ (part : Part) e. NamesEntity c.args.schema.now part.key e)
    (part_views c.args.parts.now) (numbers c.in_ok-listed.listed.items) c.in_ok-listed.ensures)
    ∙ numbers-length c.in_ok-listed.listed.items ∙ ap length (sym c.deref-5.ensures.value)

pub returns-then-not-have_counts : goal.returns-then-not-have_counts
returns-then-not-have_counts c = λ _. complex-miscount c.args.schema.now (part_views c.args.parts.now) (numbers c.in_ok-listed.listed.items)
    c.in_ok-listed.ensures (let P : List EntityId → Type 0 =
    λ xs. HasOtherCount c.args.schema.now (part_views c.args.parts.now) (numbers xs) in
    subst P c.deref-5.ensures.value c.if-not-have_counts.ensures)

pub returns : goal.returns
returns c =
    let s = c.args.schema.now in
    let parts = part_views c.args.parts.now in
    let es = numbers c.in_ok-listed.listed.items in
    let entities = numbers c.in_ok-entities.entities.items in
    let members : AreMembers s es = subst (λ xs. AreMembers s (numbers xs)) c.deref.ensures.value c.in_ok-check_members.ensures in
    let same : HaveSame es entities = subst (λ xs. HaveSame (numbers xs) entities) c.deref-2.ensures.value c.in_ok-entities.ensures.same in
    let no_leaf = MatchBool-at_false _ _ c.if-found.false c.in_ok-found.ensures in
    let concrete : HasNoAbstractLeaf s entities = subst (λ xs. HasNoAbstractLeaf s (numbers xs)) c.deref-3.ensures.value no_leaf in
    let passes : PassesSet s entities = subst (λ xs. PassesSet s (numbers xs)) c.deref-4.ensures.value c.in-Ok.ensures in
    let counts : AllZip (HasCount s) parts es = subst (λ xs. AllZip (HasCount s) parts (numbers xs)) c.deref-5.ensures.value
    c.if-not-have_counts.ensures in
    let distinct = c.requires.entities_distinct in
    let named = c.in_ok-listed.ensures in
    let rising = c.in_ok-entities.ensures.rising in
    let shape : HasShape s (complex parts) es entities =
    complex-shape s distinct parts es entities named members.0 members.1 same rising concrete passes counts in
    (subst (λ xs. HasShape s (complex parts) es (numbers xs)) (sym c.from_vec.ensures) shape, tt)
