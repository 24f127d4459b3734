use Rattle.std.specs.Prelude.{◌≡◌, ℕ, List, length, map, take}
use Rattle.std.specs.BTreeMap.{is_at}
use Rattle.std.specs.Map.{lookup}
use Rattle.std.proofs.Common.{arith, ap, sym, ◌∙◌, subst, get_or}
use Rattle.std.proofs.lemmas.List.{length-take-le, take_all}
use Rattle.p21_spec_schema.specs.Schema.{Place}
use Rattle.p21_express_graph.specs.Meaning.{place}
use Rattle.p21_express_graph.specs.declared.number.Place.{Place as Numbered}
use Rattle.p21_express_graph.proofs.Gatherings.{mapped-length}
use Rattle.p21_express_graph.proofs.Lookups.{numbers-more}
use Rattle.p21_schema.specs.PlacePositions.{FindsPlaces, pair_cmp}
use Rattle.p21_schema.proofs.Places.{places-more, places-none}
use Rattle.p21_schema.proofs.place_positions.PlacePositions.of.Goals as goal

abbrev first : Numbered
first = record { entity = record { 0 = 0 }; index = 0 }

pub loop-at-init : goal.loop-at-init
loop-at-init c = places-none c.new-found.result (λ p. ap (lookup (is_at (pair_cmp (p.entity, p.index)))) c.new-found.ensures.empty)

pub loop-at-preserved : goal.loop-at-preserved
loop-at-preserved c =
    let ps : List Numbered = c.args.places.now in
    let k : ℕ = c.loop-at.at in
    let long : k ≡ length (map place (take k ps)) = sym
    (mapped-length place (take k ps) ∙ length-take-le k ps (omega (arith, c.loop-at-test.true))) in
    let P : List Place → Type 0 = λ qs. FindsPlaces c.insert.new.self qs in
    subst P (sym (numbers-more place ps k first c.loop-at-test.true))
    (places-more c.loop-at.found c.insert.new.self (map place (take k ps)) (place (get_or ps k first)) k long c.loop-at.invariant
    c.in-Ok.ensures.updates)

pub returns : goal.returns
returns c =
    let P : List Numbered → Type 0 = λ ps. FindsPlaces c.loop-at.found (map place ps) in
    subst P (take_all c.loop-at.at c.args.places.now (omega (arith, c.loop-at-test.false))) c.loop-at.invariant
