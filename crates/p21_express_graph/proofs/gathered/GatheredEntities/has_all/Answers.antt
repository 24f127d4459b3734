use Rattle.std.specs.Prelude.{◌∷◌, [], ℕ, List, map, take, Contains}
use Rattle.std.proofs.Common.{sym, ◌∙◌, subst, inl, inr, get_or}
use Rattle.std.proofs.lemmas.List.Elements.{Contains-append_cases}
use Rattle.p21_spec_basics.proofs.Members.{Contains-cases, Contains-none}
use Rattle.p21_express_graph.proofs.gathered.GatheredEntities.has_all.Goals as goal
use Rattle.p21_express_graph.proofs.Gatherings.{any-among, numbered-at}
use Rattle.p21_express_graph.proofs.Lookups.{numbers-more}

pub has-requires : goal.has-requires
has-requires c = c.requires (get_or c.args.entities.now c.loop-entity.entity-index record { 0 = 0 }).0 (numbered-at (λ e. e.0) c.args.entities.now c.loop-entity.entity-index record { 0 = 0 } c.loop-entity-test.true)

pub loop-entity-preserved : goal.loop-entity-preserved
loop-entity-preserved c e among =
    let k : ℕ = c.loop-entity.entity-index in
    let x : ℕ = (get_or c.args.entities.now k record { 0 = 0 }).0 in
    let P : List ℕ → Type 0 = λ es. Contains es e in
    let Q : ℕ → Type 0 = λ y. Contains c.args.self.now.numbers y in
    elim (Contains-append_cases (map (λ y. y.0) (take k c.args.entities.now)) (x ∷ []) e (subst P (numbers-more (λ y. y.0) c.args.entities.now k record { 0 = 0 } c.loop-entity-test.true) among)) [
      | inl before ↦ c.loop-entity.invariant e before
      | inr last ↦ elim (Contains-cases x [] e last) [
        | inl same ↦ subst Q same (any-among c.args.self.now.numbers x (sym c.has.ensures ∙ c.if-not-has.false))
        | inr none ↦ absurd (Contains-none e none)
      ]
    ]
