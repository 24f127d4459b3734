use Rattle.std.specs.Prelude.{◌≡◌, ◌≢◌, refl}
use Rattle.std.proofs.Common.{arith}
use Rattle.std.proofs.lemmas.Bool.Decides.{nat_tests}
use Rattle.p21_difference_rows.proofs.Ignoring.{all-left, entity-found, entity-later, entity-none}
use Rattle.p21_difference_rows.proofs.left_out.is_of.Goals as goal

pub loop-found-init : goal.loop-found-init
loop-found-init c record_ stated =
    let instance = c.args.instance.now in
    all-left instance.schema.now instance.name record_ instance.line.now stated c.entities-left.result c.args.entity.0
    (c.entities-left.ensures.told record_ stated)

pub returns-then-found-entity : goal.returns-then-found-entity
returns-then-found-entity c record_ stated =
    let test = c.if-found-entity.true in
    let is : c.in-Some.found.0 ≡ c.args.entity.0 = grind (arith, nat_tests) in (
      λ told. entity-found c.loop-found.left c.next.new.self stated.canonical_meaning.entities c.args.entity.0
          (c.loop-found.invariant record_ stated) c.in-Some.found c.in-Some.ensures.handed is,
      λ among. refl,
    )

pub loop-found-preserved : goal.loop-found-preserved
loop-found-preserved c record_ stated =
    let test = c.if-found-entity.false in
    let differ : c.in-Some.found.0 ≢ c.args.entity.0 = λ same. grind (arith, nat_tests) in
    entity-later c.loop-found.left c.next.new.self stated.canonical_meaning.entities c.args.entity.0
    (c.loop-found.invariant record_ stated) c.in-Some.found c.in-Some.ensures.handed differ

pub returns : goal.returns
returns c record_ stated = (
  λ told. cc,
  λ among. absurd (entity-none c.loop-found.left c.next.new.self stated.canonical_meaning.entities c.args.entity.0
      (c.loop-found.invariant record_ stated) c.in_default.ensures.handed among),
)
