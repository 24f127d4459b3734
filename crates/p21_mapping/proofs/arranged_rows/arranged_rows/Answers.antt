use Rattle.std.specs.Prelude.{◌≡◌, ◌<◌, ℕ, List, Some, length, slice_get, Contains, refl}
use Rattle.std.proofs.Common.{arith, sym, ◌∙◌, subst, get_or}
use Rattle.std.proofs.lemmas.List.{length-set}
use Rattle.std.proofs.lemmas.Option.{slice_get_within}
use Rattle.p21_express_graph.proofs.Gatherings.{numbered-at}
use Rattle.p21_express_graph.specs.Orders.{numbers}
use Rattle.p21_mapping.proofs.Arranging.{arranged-more}
use Rattle.p21_mapping.proofs.Shapes.{numbers-length}
use Rattle.p21_mapping.proofs.arranged_rows.arranged_rows.Goals as goal

pub position-at-requires : goal.position-at-requires
position-at-requires c =
    let P : List ℕ → Type 0 = λ es. Contains es (get_or c.args.entities.now c.loop-entity.entity-index record { 0 = 0 }).0 in
    subst P (sym c.in_ok-positions.ensures) (c.requires.listed _
    (numbered-at (λ e. e.0) c.args.entities.now c.loop-entity.entity-index record { 0 = 0 } c.loop-entity-test.true))

pub index_mut-requires : goal.index_mut-requires
index_mut-requires c =
    let P : List ℕ → Type 0 = λ es. slice_get es c.position-at.result ≡ Some
    (get_or c.args.entities.now c.loop-entity.entity-index record { 0 = 0 }).0 in
    omega (
      arith,
      slice_get_within (numbers c.args.listed.now) c.position-at.result _
          (subst P c.in_ok-positions.ensures c.position-at.ensures),
      numbers-length c.args.listed.now,
      c.loop-entity.invariant.long,
      c.loop-entity.left.ok,
    )

pub loop-entity-preserved : goal.loop-entity-preserved
loop-entity-preserved c =
    let P : List ℕ → Type 0 = λ es. slice_get es c.position-at.result ≡ Some
    (get_or c.args.entities.now c.loop-entity.entity-index record { 0 = 0 }).0 in
    let there = subst P c.in_ok-positions.ensures c.position-at.ensures in
    let within : c.position-at.result < length c.args.listed.now =
    omega (arith, slice_get_within (numbers c.args.listed.now) c.position-at.result _ there, numbers-length c.args.listed.now) in
    arranged-more c.args.entities.now c.args.listed.now c.args.rows.items c.loop-entity.entity-index c.position-at.result record { 0 = 0 }
    c.replace-row.result c.replace-row.new.dest c.index_mut.result.now c.loop-entity.left.items _ c.loop-entity.all.items
    c.push.new.self.items
    c.loop-entity-test.true c.requires.differ there within (c.replace-row.ensures.value ∙ c.index_mut.ensures.value) refl
    (length-set c.loop-entity.left.items c.position-at.result c.replace-row.new.dest) c.in_ok-push.ensures.items c.loop-entity.invariant
