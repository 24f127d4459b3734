use Rattle.std.specs.Prelude.{◌≡◌, true, false}
use Rattle.std.proofs.Common.{sym, ◌∙◌, inr}
use Rattle.p21_express_graph.specs.Meaning.{place}
use Rattle.p21_express.proofs.PlaceLemmas.{several, place-one}
use Rattle.p21_express.proofs.lookups.place_in.Goals as goal

pub returns-then-has_other : goal.returns-then-has_other
returns-then-has_other c = (
  several c.args.hierarchy.now c.args.entity.0 c.args.name.now (place c.in-Some-first_place.first) c.in-None.ensures
      c.in-Some-first_place.ensures (c.has_other.ensures.0 c.if-has_other.true),
  λ none. none (place c.in-Some-first_place.first) c.in-Some-first_place.ensures,
)

pub returns-else-has_other : goal.returns-else-has_other
returns-else-has_other c = inr (
  c.in-None.ensures,
  c.in-Some-first_place.ensures,
  λ other of. place-one other (place c.in-Some-first_place.first)
      (λ differ. let t : true ≡ false = sym (c.has_other.ensures.1 (other, of, differ)) ∙ c.if-has_other.false in cc),
)
