use Rattle.std.specs.Prelude.{refl}
use Rattle.p21_difference_rows.proofs.Ignoring.{given-first, given-later, given-none}
use Rattle.p21_difference_rows.proofs.Knowing.{both}
use Rattle.p21_express_graph.specs.Meaning.{place as place_of}
use Rattle.p21_difference_rows.proofs.left_out.is_ignored.Goals as goal

pub loop-name-init : goal.loop-name-init
loop-name-init c record_ stated = (λ is. is, λ is. is)

pub returns-then-names_place : goal.returns-then-names_place
returns-then-names_place c record_ stated = (
  λ told. (c.loop-name.invariant record_ stated).0
      (given-first c.args.instance.now.schema.now stated.canonical_meaning.entities (place_of c.args.place) c.args.names.now
      c.loop-name.name-index _ c.loop-name-test.true ((c.names_place.ensures record_ stated).0 c.if-names_place.true)),
  λ is. refl,
)

pub loop-name-preserved : goal.loop-name-preserved
loop-name-preserved c record_ stated =
    given-later c.args.instance.now.schema.now stated.canonical_meaning.entities (place_of c.args.place) c.args.names.now
    c.loop-name.name-index _ _ c.loop-name-test.true
    (λ is. both _ ((c.names_place.ensures record_ stated).1 is) c.if-names_place.false)
    (c.loop-name.invariant record_ stated)

pub returns : goal.returns
returns c record_ stated = (
  λ told. cc,
  λ is. absurd (given-none c.args.instance.now.schema.now stated.canonical_meaning.entities (place_of c.args.place) c.args.names.now
      c.loop-name.name-index c.loop-name-test.false ((c.loop-name.invariant record_ stated).1 is)),
)
