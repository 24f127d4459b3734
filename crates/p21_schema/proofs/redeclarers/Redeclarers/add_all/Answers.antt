use Rattle.std.specs.Prelude.{ℕ, ◌∷◌, [], List, map, take}
use Rattle.std.proofs.Common.{sym, subst, get_or}
use Rattle.std.proofs.lemmas.List.{take_all}
use Rattle.p21_spec_schema.specs.Schema.{Place}
use Rattle.p21_express_graph.specs.Meaning.{place}
use Rattle.p21_express_graph.specs.declared.number.Place.{Place as Numbered}
use Rattle.p21_express_graph.proofs.Lookups.{numbers-more}
use Rattle.p21_schema.specs.Redeclarers.{AddsRedeclarer}
use Rattle.p21_schema.proofs.Owners.{adds-both, adds-none}
use Rattle.p21_schema.proofs.redeclarers.Redeclarers.add_all.Goals as goal

abbrev first : Numbered
first = record { entity = record { 0 = 0 }; index = 0 }

pub loop-place-init : goal.loop-place-init
loop-place-init c = adds-none c.args.entity.0 c.args.self.now

pub loop-place-preserved : goal.loop-place-preserved
loop-place-preserved c =
    let ps : List Numbered = c.args.places.now in
    let k : ℕ = c.loop-place.place-index in
    let P : List Place → Type 0 = λ qs. AddsRedeclarer c.args.entity.0 qs c.args.self.now c.add.new.self in
    subst P (sym (numbers-more place ps k first c.loop-place-test.true))
    (adds-both c.args.entity.0 (map place (take k ps)) (place (get_or ps k first) ∷ []) c.args.self.now c.loop-place.self c.add.new.self
    c.loop-place.invariant c.in_ok-add.ensures)

pub returns : goal.returns
returns c =
    let P : List Numbered → Type 0 = λ ps. AddsRedeclarer c.args.entity.0 (map place ps) c.args.self.now c.loop-place.self in
    subst P (take_all c.loop-place.place-index c.args.places.now c.loop-place-test.false) c.loop-place.invariant
