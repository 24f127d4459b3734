use Rattle.std.specs.Prelude.{◌≡◌, true, false, refl}
use Rattle.std.proofs.Common.{arith, sym, ◌∙◌, subst}
use Rattle.p21_spec_schema.specs.Order.{order}
use Rattle.p21_spec_schema.specs.PlaceType.{TypeAt, two_redeclarations}
use Rattle.p21_spec_schema.specs.Schema.{Place}
use Rattle.p21_spec_schema.proofs.OwnPlaces.{own_places-has}
use Rattle.p21_express_graph.proofs.Lookups.{up-to}
use Rattle.p21_schema.proofs.OwnSets.{own-place-at}
use Rattle.p21_schema.proofs.schema.Schema.leaves_open_of.Goals as goal

pub returns-then-is_open_at : goal.returns-then-is_open_at
returns-then-is_open_at c = (
  λ yes. (
    record { entity = c.args.owner.0; index = c.loop-index.index },
    own_places-has c.args.self.now c.args.owner.0 c.loop-index.index
        (omega (arith, c.loop-index-test.true, c.attribute_count-index-end.ensures)),
    c.is_open_at.ensures.0 c.if-is_open_at.true,
  ),
  λ open_. refl,
)

pub loop-index-preserved : goal.loop-index-preserved
loop-index-preserved c =
    up-to (λ k. TypeAt c.args.self.now (order c.args.self.now c.args.entity.0) (record { entity = c.args.owner.0; index = k })
    two_redeclarations → ⊥) c.loop-index.index c.loop-index.invariant
    (λ open_. let t : true ≡ false = sym (c.is_open_at.ensures.1 open_) ∙ c.if-is_open_at.false in cc)

pub returns : goal.returns
returns c = (
  λ no. let t : false ≡ true = no in cc,
  λ (p, own, open_).
      let (k, below, is) = own-place-at c.args.self.now c.args.owner.0 p own in
      let P : Place → Type 0 = λ q. TypeAt c.args.self.now (order c.args.self.now c.args.entity.0) q two_redeclarations in
      absurd (c.loop-index.invariant k (omega (
        arith,
        below,
        c.attribute_count-index-end.ensures,
        c.loop-index-test.false,
        c.loop-index.auto.index-end,
      )) (subst P is open_)),
)
