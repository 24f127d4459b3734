use Rattle.std.specs.Prelude.{◌≡◌, ℕ, ◌∷◌, [], ◌++◌, List, Option, take, true, false}
use Rattle.std.proofs.Common.{sym, ◌∙◌, subst, get_or}
use Rattle.std.proofs.lemmas.List.{take_all}
use Rattle.p21_express_graph.specs.Meaning.{place}
use Rattle.p21_express_graph.specs.declared.number.EntityId.{EntityId}
use Rattle.p21_express_graph.specs.Orders.{numbers}
use Rattle.p21_spec_basics.proofs.Members.{Contains-none}
use Rattle.p21_express_graph.proofs.Gatherings.{numbered-at}
use Rattle.p21_express_graph.proofs.Lookups.{numbers-more}
use Rattle.p21_schema.proofs.Decisions.{IsLowestSeen, lower-seen, other-seen, seen-all}
use Rattle.p21_schema.proofs.schema.Schema.lowest.Goals as goal
use Rattle.p21_schema.proofs.schema.Schema.lowest.Goals.{then-redeclares_below, else-redeclares_below}

pub loop-entity-init : goal.loop-entity-init
loop-entity-init c f among redeclares = Contains-none f among

pub redeclares_below-requires-clause-entity : goal.redeclares_below-requires-clause-entity
redeclares_below-requires-clause-entity c = c.requires.entities (get_or c.args.entities.now c.loop-entity.entity-index record { 0 = 0 }).0
    (numbered-at (λ e. e.0) c.args.entities.now c.loop-entity.entity-index record { 0 = 0 } c.loop-entity-test.true)

pub loop-entity-preserved : goal.loop-entity-preserved
loop-entity-preserved c =
    let s = c.args.self.now in
    let own = c.args.own in
    let k : ℕ = c.loop-entity.entity-index in
    let e : EntityId = get_or c.args.entities.now k record { 0 = 0 } in
    let es : List ℕ = numbers c.args.entities.now in
    let seen : List ℕ = numbers (take k c.args.entities.now) in
    let among = numbered-at (λ x. x.0) c.args.entities.now k record { 0 = 0 } c.loop-entity-test.true in
    let P : List ℕ → Type 0 = λ xs. IsLowestSeen s es own (place c.args.place) xs c.if-redeclares_below.lowest in
    let Q : Option EntityId → Type 0 = λ o. IsLowestSeen s es own (place c.args.place) (seen ++ e.0 ∷ []) o in
    subst P (sym (numbers-more (λ x. x.0) c.args.entities.now k record { 0 = 0 } c.loop-entity-test.true))
    (elim c.if-redeclares_below.branch [
      | then-redeclares_below w ↦
          let (redeclares, below) = c.redeclares_below.ensures.0 w.if-redeclares_below.true in
          subst Q (sym w.lowest-is) (lower-seen s es own (place c.args.place) seen e among c.holds_together.ensures c.loop-entity.lowest
          c.loop-entity.invariant redeclares below)
      | else-redeclares_below w ↦
          subst Q (sym w.lowest-is) (other-seen s es own (place c.args.place) seen e among c.loop-entity.lowest c.loop-entity.invariant
          (λ redeclares below. let t : true ≡ false = sym (c.redeclares_below.ensures.1 (redeclares, below))
          ∙ w.if-redeclares_below.false in cc))
    ])

pub returns : goal.returns
returns c =
    let P : List EntityId → Type 0 = λ xs. IsLowestSeen c.args.self.now (numbers c.args.entities.now) c.args.own (place c.args.place)
    (numbers xs) c.loop-entity.lowest in
    seen-all c.args.self.now (numbers c.args.entities.now) c.args.own (place c.args.place) c.loop-entity.lowest
    (subst P (take_all c.loop-entity.entity-index c.args.entities.now c.loop-entity-test.false) c.loop-entity.invariant)
