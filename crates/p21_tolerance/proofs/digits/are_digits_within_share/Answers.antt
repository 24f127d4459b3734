use Rattle.std.proofs.Common.{arith}
use Rattle.std.proofs.lemmas.Int.{ints}
use Rattle.p21_tolerance.specs.Places.{value_of}
use Rattle.p21_tolerance.proofs.Scaled.{near-numbers}
use Rattle.p21_tolerance.proofs.SumsLeft.{both-ways}
use Rattle.p21_tolerance.proofs.digits.are_digits_within_share.Goals as goal

pub returns : goal.returns
returns c =
    let first = c.last_place-first_last.ensures in
    let second = c.last_place-second_last.ensures in
    let third = c.last_place-third_last.ensures in
    let lowest = c.lowest-lowest in
    let near = near-numbers c.args.first c.args.second c.args.third c.args.tolerance lowest.result c.places_between.result
    c.places_between-2.result c.places_between-3.result (value_of c.of-first_places.result) (value_of c.of-second_places.result)
    (value_of c.of-third_places.result) (omega (arith, ints, c.places_between.ensures.places, first))
    (omega (arith, ints, c.places_between-2.ensures.places, second)) (omega (arith, ints, c.places_between-3.ensures.places, third))
    c.of-first_places.ensures.value c.of-second_places.ensures.value c.of-third_places.ensures.value in
    both-ways c.are_sizes_near.ensures near
