use Rattle.std.specs.Prelude.{◌≢◌, ◌++◌, ◌∷◌, [], ℕ, slice_set}
use Rattle.std.proofs.Common.{ap, sym, ◌∙◌, inl, inr}
use Rattle.std.proofs.lemmas.Bool.{cases_eq}
use Rattle.std.proofs.lemmas.List.{map-append}
use Rattle.p21_express_graph.specs.Meaning.{place}
use Rattle.p21_express_graph.specs.Orders.{numbers}
use Rattle.p21_schema.specs.Redeclarers.{items_at}
use Rattle.p21_schema.proofs.ListsAt.{items-here, items-other, items-there}
use Rattle.p21_schema.proofs.Owners.{adds-one}
use Rattle.p21_schema.proofs.redeclarers.Redeclarers.add.Goals as goal

pub returns : goal.returns
returns c =
    let owner : ℕ = c.args.place.entity.0 in
    let index : ℕ = c.args.place.index in
    let owners = c.reach.new.lists.items in
    let below = c.in_ok-reach.ensures.there in
    let here = items-here owners owner c.add_at.new.lists below in
    let found = sym (items-there owners owner c.index_mut.result.now below c.index_mut.ensures.value) in
    adds-one c.args.entity.0 (place c.args.place) c.args.self.now _
    (ap (λ lists. numbers (items_at lists index)) here
    ∙ ap numbers (c.in_ok-add_at.ensures.there ∙ ap (λ lists. items_at lists index ++ c.args.entity ∷ [])
    (found ∙ c.in_ok-reach.ensures.same owner))
    ∙ map-append (λ e. e.0) (items_at (items_at c.args.self.now.of_owners.items owner) index) (c.args.entity ∷ []))
    (λ q other. elim (cases_eq q.entity owner) [
      | inl same ↦
          let apart : q.index ≢ index = λ at. other (ap (λ e. record { entity = e; index = q.index }) same
          ∙ ap (λ i. record { entity = owner; index = i }) at) in
          ap (λ e. numbers (items_at (items_at (slice_set owners owner c.add_at.new.lists) e) q.index)) same
          ∙ ap (λ lists. numbers (items_at lists q.index)) here ∙ ap numbers (c.in_ok-add_at.ensures.others q.index apart)
          ∙ ap (λ lists. numbers (items_at lists q.index)) (found ∙ c.in_ok-reach.ensures.same owner)
          ∙ ap (λ e. numbers (items_at (items_at c.args.self.now.of_owners.items e) q.index)) (sym same)
      | inr differ ↦ ap (λ lists. numbers (items_at lists q.index))
          (items-other owners owner q.entity c.add_at.new.lists differ ∙ c.in_ok-reach.ensures.same q.entity)
    ])
