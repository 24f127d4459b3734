use Rattle.std.specs.Prelude.{ℕ, List, Contains}
use Rattle.std.proofs.Common.{arith, sym, subst, get_or}
use Rattle.p21_spec_schema.specs.Declared.{HasSupertype}
use Rattle.p21_spec_schema.specs.Supertype.{itself, above}
use Rattle.p21_schema.proofs.Ascents.{climbs}
use Rattle.p21_express_graph.proofs.Gatherings.{numbered-at}
use Rattle.p21_express_graph.proofs.Lookups.{each-number, up-to}
use Rattle.p21_mapping.proofs.members.is_closed.Goals as goal

pub supertypes-requires : goal.supertypes-requires
supertypes-requires c =
    let e : ℕ = (get_or c.entities-entities.result.now c.loop-entity.entity-index record { 0 = 0 }).0 in
    let P : List ℕ → Type 0 = λ xs. Contains xs e in
    c.requires e (subst P c.entities-entities.ensures (numbered-at (λ x. x.0) c.entities-entities.result.now c.loop-entity.entity-index
    record { 0 = 0 } c.loop-entity-test.true))

pub returns-then-not-has_all : goal.returns-then-not-has_all
returns-then-not-has_all c =
    let e : ℕ = (get_or c.entities-entities.result.now c.loop-entity.entity-index record { 0 = 0 }).0 in
    let (f, among, none) = c.if-not-has_all.ensures in
    let P : List ℕ → Type 0 = λ xs. Contains xs f in
    let Q : List ℕ → Type 0 = λ xs. Contains xs e in (
      f,
      (
        e,
        subst Q c.entities-entities.ensures (numbered-at (λ x. x.0) c.entities-entities.result.now c.loop-entity.entity-index
            record { 0 = 0 } c.loop-entity-test.true),
        above e f f (subst P c.supertypes.ensures among) (itself f),
      ),
      none,
    )

pub loop-entity-preserved : goal.loop-entity-preserved
loop-entity-preserved c =
    up-to (λ k. (f : ℕ) → HasSupertype c.args.schema.now (get_or c.entities-entities.result.now k record { 0 = 0 }).0 f
    → Contains c.args.positions.now f) c.loop-entity.entity-index c.loop-entity.invariant
    (λ f up. let P : List ℕ → Type 0 = λ xs. Contains xs f in c.if-not-has_all.ensures f (subst P (sym c.supertypes.ensures) up))

pub returns : goal.returns
returns c = λ f (e, among, up). climbs c.args.schema.now c.args.positions.now (λ x g x_among next.
    let P : List ℕ → Type 0 = λ xs. Contains xs x in
    each-number (λ y. y.0) record { 0 = 0 } (λ y. (h : ℕ) → HasSupertype c.args.schema.now y h → Contains c.args.positions.now h)
    c.entities-entities.result.now x (λ k below. c.loop-entity.invariant k (omega (arith, below, c.loop-entity-test.false)))
    (subst P (sym c.entities-entities.ensures) x_among) g next) e f up among
