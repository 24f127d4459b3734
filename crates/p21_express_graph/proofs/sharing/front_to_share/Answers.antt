use Rattle.std.specs.Prelude.{ℕ, List, Contains}
use Rattle.std.proofs.Common.{arith, subst, get_or}
use Rattle.std.proofs.lemmas.Option.{slice_get-get_or}
use Rattle.p21_express_graph.specs.SchemaContents.{schema_of}
use Rattle.p21_express_graph.specs.declared.above.Above.{Above}
use Rattle.p21_express_graph.proofs.Gatherings.{numbered-at}
use Rattle.p21_express_graph.proofs.OrderTables.{are-entities}
use Rattle.p21_express_graph.proofs.SharedFronts.{entity-listed, front-above}
use Rattle.p21_express_graph.proofs.sharing.front_to_share.Goals as goal

pub returns-then-size-le-MOST_OF_A_SHORT_LIST-clause-within : goal.returns-then-size-le-MOST_OF_A_SHORT_LIST-clause-within
returns-then-size-le-MOST_OF_A_SHORT_LIST-clause-within c =
    let within = c.requires.prefixes c.args.entity.0 c.prefix_of-size.result c.prefix_of-size.ensures in
    (omega (arith, within.0), omega arith)

pub with_largest_front-requires-clause-there : goal.with_largest_front-requires-clause-there
with_largest_front-requires-clause-there c e among =
    let s = schema_of c.args.parts.now in
    let P : List ℕ → Type 0 = λ es. Contains es e in
    (entity-listed s c.args.orders.now c.args.all.now e c.requires.orders c.requires.above (are-entities s c.requires.holds c.args.entity.0 e (subst P c.supertypes_of-supertypes.ensures among))).1

pub bounds-all-supertype : goal.bounds-all-supertype
bounds-all-supertype c =
    let s = schema_of c.args.parts.now in
    let e : ℕ = (get_or c.supertypes_of-supertypes.result.now c.with_largest_front.result record { 0 = 0 }).0 in
    let P : List ℕ → Type 0 = λ es. Contains es e in
    let up = subst P c.supertypes_of-supertypes.ensures (numbered-at (λ x. x.0) c.supertypes_of-supertypes.result.now c.with_largest_front.result record { 0 = 0 } c.with_largest_front.ensures) in
    (entity-listed s c.args.orders.now c.args.all.now e c.requires.orders c.requires.above (are-entities s c.requires.holds c.args.entity.0 e up)).1

pub bounds-all-supertype-else-is_empty : goal.bounds-all-supertype-else-is_empty
bounds-all-supertype-else-is_empty c =
    let s = schema_of c.args.parts.now in
    let e : ℕ = (get_or c.supertypes_of-supertypes.result.now c.with_largest_front.result record { 0 = 0 }).0 in
    let P : List ℕ → Type 0 = λ es. Contains es e in
    let up = subst P c.supertypes_of-supertypes.ensures (numbered-at (λ x. x.0) c.supertypes_of-supertypes.result.now c.with_largest_front.result record { 0 = 0 } c.with_largest_front.ensures) in
    (entity-listed s c.args.orders.now c.args.all.now e c.requires.orders c.requires.above (are-entities s c.requires.holds c.args.entity.0 e up)).1

pub returns-clause-within : goal.returns-clause-within
returns-clause-within c =
    let s = schema_of c.args.parts.now in
    let e : ℕ = (get_or c.supertypes_of-supertypes.result.now c.with_largest_front.result record { 0 = 0 }).0 in
    let P : List ℕ → Type 0 = λ es. Contains es e in
    let up = subst P c.supertypes_of-supertypes.ensures (numbered-at (λ x. x.0) c.supertypes_of-supertypes.result.now c.with_largest_front.result record { 0 = 0 } c.with_largest_front.ensures) in
    let low = (entity-listed s c.args.orders.now c.args.all.now e c.requires.orders c.requires.above (are-entities s c.requires.holds c.args.entity.0 e up)).1 in
    (c.requires.above.each e (get_or c.args.all.now e c.index-all-supertype.result) (slice_get-get_or c.args.all.now e c.index-all-supertype.result low)).within

pub returns-clause-supertypes : goal.returns-clause-supertypes
returns-clause-supertypes c =
    let s = schema_of c.args.parts.now in
    let e : ℕ = (get_or c.supertypes_of-supertypes.result.now c.with_largest_front.result record { 0 = 0 }).0 in
    let x : Above = get_or c.args.all.now e c.index-all-supertype.result in
    let P : List ℕ → Type 0 = λ es. Contains es e in
    let up = subst P c.supertypes_of-supertypes.ensures (numbered-at (λ x. x.0) c.supertypes_of-supertypes.result.now c.with_largest_front.result record { 0 = 0 } c.with_largest_front.ensures) in
    let low = (entity-listed s c.args.orders.now c.args.all.now e c.requires.orders c.requires.above (are-entities s c.requires.holds c.args.entity.0 e up)).1 in
    front-above s c.requires.holds c.args.orders.now c.requires.orders c.args.entity.0 c.requires.entity e x.front x.others.items up (c.requires.above.each e x (slice_get-get_or c.args.all.now e c.index-all-supertype.result low))
