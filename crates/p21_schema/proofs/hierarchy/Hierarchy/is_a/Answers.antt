use Rattle.std.specs.Prelude.{◌≡◌, ℕ, List, Contains, true, false, length, refl}
use Rattle.std.specs.List.Sorted.{IsStrictlyIncreasing}
use Rattle.std.proofs.Common.{arith, sym, ◌∙◌, subst, inl, inr}
use Rattle.std.proofs.lemmas.Option.{slice_get_read}
use Rattle.p21_spec_schema.specs.Supertype.{IsA, itself}
use Rattle.p21_express_graph.specs.Orders.{number_lists}
use Rattle.p21_express_graph.specs.SchemaContents.{schema_of}
use Rattle.p21_express_graph.specs.SettledOrder.{nexts_of}
use Rattle.p21_express_graph.proofs.Closures.{above-tells, entity-has_above, index-known, index-within, others-rising}
use Rattle.p21_schema.proofs.hierarchy.Hierarchy.is_a.Goals as goal

pub returns-then-sub-sup : goal.returns-then-sub-sup
returns-then-sub-sup c =
    let P : ℕ → Type 0 = λ f. IsA c.args.self.now c.args.sub.0 f in
    (λ _. subst P c.if-sub-sup.true (itself c.args.sub.0), λ _. let same : true ≡ true = refl in same)

pub index-above-requires : goal.index-above-requires
index-above-requires c =
    let below = entity-has_above (schema_of c.self.inside.parts) c.args.self.now c.self.inside.tables.orders
    c.self.inside.tables.above.items c.self.inside.tables.indexes.items c.args.sub.0 c.self.view_is c.self.invariant.2.orders_are
    c.self.invariant.2.above_are c.self.invariant.2.indexes_are c.requires in
    omega (arith, below, c.self.inside.tables.above.ok.0)

pub index-requires : goal.index-requires
index-requires c =
    let has = entity-has_above (schema_of c.self.inside.parts) c.args.self.now c.self.inside.tables.orders c.self.inside.tables.above.items
    c.self.inside.tables.indexes.items c.args.sub.0 c.self.view_is c.self.invariant.2.orders_are c.self.invariant.2.above_are
    c.self.invariant.2.indexes_are c.requires in
    let at = slice_get_read c.self.inside.tables.above.items (length c.self.inside.tables.above.items) c.args.sub.0 c.index-above.result.now
    refl has c.index-above.ensures in
    let below = index-within (schema_of c.self.inside.parts) c.args.self.now c.self.inside.tables.orders c.self.inside.tables.above.items
    c.self.inside.tables.indexes.items c.args.sub.0 c.self.view_is c.self.invariant.2.orders_are c.self.invariant.2.above_are
    c.self.invariant.2.indexes_are c.requires c.index-above.result.now at in
    omega (arith, below, c.self.inside.tables.indexes.ok.0)

pub has-requires : goal.has-requires
has-requires c =
    let has = entity-has_above (schema_of c.self.inside.parts) c.args.self.now c.self.inside.tables.orders c.self.inside.tables.above.items
    c.self.inside.tables.indexes.items c.args.sub.0 c.self.view_is c.self.invariant.2.orders_are c.self.invariant.2.above_are
    c.self.invariant.2.indexes_are c.requires in
    let at = slice_get_read c.self.inside.tables.above.items (length c.self.inside.tables.above.items) c.args.sub.0 c.index-above.result.now
    refl has c.index-above.ensures in
    (index-known (schema_of c.self.inside.parts) c.args.self.now c.self.inside.tables.orders c.self.inside.tables.above.items
    c.self.inside.tables.indexes.items c.args.sub.0 c.self.view_is c.self.invariant.2.orders_are c.self.invariant.2.above_are
    c.self.invariant.2.indexes_are c.requires c.index-above.result.now at c.index.result.now c.index.ensures).size

pub is_among-requires : goal.is_among-requires
is_among-requires c =
    let has = entity-has_above (schema_of c.self.inside.parts) c.args.self.now c.self.inside.tables.orders c.self.inside.tables.above.items
    c.self.inside.tables.indexes.items c.args.sub.0 c.self.view_is c.self.invariant.2.orders_are c.self.invariant.2.above_are
    c.self.invariant.2.indexes_are c.requires in
    let at = slice_get_read c.self.inside.tables.above.items (length c.self.inside.tables.above.items) c.args.sub.0 c.index-above.result.now
    refl has c.index-above.ensures in
    subst IsStrictlyIncreasing (sym c.deref.ensures.value)
    (others-rising (schema_of c.self.inside.parts) c.args.self.now c.self.inside.tables.orders c.self.inside.tables.above.items
    c.self.inside.tables.indexes.items c.args.sub.0 c.self.view_is c.self.invariant.2.orders_are c.self.invariant.2.above_are
    c.self.invariant.2.indexes_are c.requires c.index-above.result.now at)

pub returns-then-has : goal.returns-then-has
returns-then-has c =
    let has = entity-has_above (schema_of c.self.inside.parts) c.args.self.now c.self.inside.tables.orders c.self.inside.tables.above.items
    c.self.inside.tables.indexes.items c.args.sub.0 c.self.view_is c.self.invariant.2.orders_are c.self.invariant.2.above_are
    c.self.invariant.2.indexes_are c.requires in
    let at = slice_get_read c.self.inside.tables.above.items (length c.self.inside.tables.above.items) c.args.sub.0 c.index-above.result.now
    refl has c.index-above.ensures in
    let known = index-known (schema_of c.self.inside.parts) c.args.self.now c.self.inside.tables.orders c.self.inside.tables.above.items
    c.self.inside.tables.indexes.items c.args.sub.0 c.self.view_is c.self.invariant.2.orders_are c.self.invariant.2.above_are
    c.self.invariant.2.indexes_are c.requires c.index-above.result.now at c.index.result.now c.index.ensures in
    let told = c.has.ensures (nexts_of (number_lists c.self.inside.tables.orders.runs.items) c.index-above.result.now.front.run) known in
    let (is, among) = above-tells (schema_of c.self.inside.parts) c.args.self.now c.self.inside.tables.orders
    c.self.inside.tables.above.items c.self.inside.tables.indexes.items c.args.sub.0 c.self.view_is c.self.invariant.2.orders_are
    c.self.invariant.2.above_are c.self.invariant.2.indexes_are c.requires c.index-above.result.now at c.holds_together.ensures
    c.args.sup.0 in
    (λ _. is (inl (told.0 c.if-has.true)), λ _. let same : true ≡ true = refl in same)

pub returns : goal.returns
returns c =
    let has = entity-has_above (schema_of c.self.inside.parts) c.args.self.now c.self.inside.tables.orders c.self.inside.tables.above.items
    c.self.inside.tables.indexes.items c.args.sub.0 c.self.view_is c.self.invariant.2.orders_are c.self.invariant.2.above_are
    c.self.invariant.2.indexes_are c.requires in
    let at = slice_get_read c.self.inside.tables.above.items (length c.self.inside.tables.above.items) c.args.sub.0 c.index-above.result.now
    refl has c.index-above.ensures in
    let known = index-known (schema_of c.self.inside.parts) c.args.self.now c.self.inside.tables.orders c.self.inside.tables.above.items
    c.self.inside.tables.indexes.items c.args.sub.0 c.self.view_is c.self.invariant.2.orders_are c.self.invariant.2.above_are
    c.self.invariant.2.indexes_are c.requires c.index-above.result.now at c.index.result.now c.index.ensures in
    let told = c.has.ensures (nexts_of (number_lists c.self.inside.tables.orders.runs.items) c.index-above.result.now.front.run) known in
    let (is, among) = above-tells (schema_of c.self.inside.parts) c.args.self.now c.self.inside.tables.orders
    c.self.inside.tables.above.items c.self.inside.tables.indexes.items c.args.sub.0 c.self.view_is c.self.invariant.2.orders_are
    c.self.invariant.2.above_are c.self.invariant.2.indexes_are c.requires c.index-above.result.now at c.holds_together.ensures
    c.args.sup.0 in
    let P : List ℕ → Type 0 = λ xs. Contains xs c.args.sup.0 in (
      λ found. is (inr (inl (subst P c.deref.ensures.value (c.is_among.ensures.0 found)))),
      λ is_a. elim (among is_a) [
        | inl h ↦ (let clash : true ≡ false = sym (told.1 h) ∙ c.if-has.false in cc)
        | inr other ↦ elim other [
          | inl h ↦ c.is_among.ensures.1 (subst P (sym c.deref.ensures.value) h)
          | inr same ↦ absurd
              (c.if-sub-sup.false (sym same))
        ]
      ],
    )
