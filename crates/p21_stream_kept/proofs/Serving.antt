-- What serves a need: one entity of a set, and the set of an instance.
use Rattle.std.proofs.Common.{◌≡◌, ℕ, Bool, false, true, List, [], ◌∷◌, slice_get, Some, inl, inr, subst}
use Rattle.std.specs.List.{Contains}
use Rattle.std.specs.Prelude.{◌↔◌, IsTrue}
use Rattle.p21_spec_basics.proofs.Members.{Contains-cases, Contains-found, Contains-mapped, Contains-none}
use Rattle.p21_express_graph.specs.declared.number.EntityId.{EntityId}
use Rattle.p21_spec_file.specs.Reference.{Need, Serves}
use Rattle.p21_spec_laws.specs.Keeping.{IsServedBy}
use Rattle.p21_mapping_values.specs.TypedView.{ids_view}
use Rattle.p21_spec_schema.specs.Schema.{Member, Schema, entity_member, type_member}
use Rattle.p21_stream_kept.proofs.ByMembership.{stored-found}
use Rattle.p21_stream_kept.specs.Inside.{stored_of, stored_with}
use Rattle.p21_stream_kept.specs.Served.{RefusesNeed}
use Rattle.p21_stream_statements.specs.declared.fault.Fault.TheVariants.{WrongTarget}
use Rattle.p21_stream_store.specs.Memberships.{Membership}
use Rattle.p21_stream_store.specs.StoredInstance.{StoredInstance}

serves-among : (s : Schema) (wanted : Member) (some all : List ℕ) → ((e : ℕ) → Contains some e → Contains all e) → Serves s wanted some
    → Serves s wanted all
serves-among s (entity_member e) some all are serves = are e serves
serves-among s (type_member t) some all are (e, offers, among) = (e, offers, are e among)

-- where an entity serves, so does the set in which it stands
pub serves-by_one : (s : Schema) (wanted : Member) (entities : List EntityId) (place : ℕ) (entity : EntityId)
    → slice_get entities place ≡ Some entity → Serves s wanted (ids_view (entity ∷ [])) → Serves s wanted (ids_view entities)
serves-by_one s wanted entities place entity at = serves-among s wanted (ids_view (entity ∷ [])) (ids_view entities)
    (λ e there. elim (Contains-cases entity.0 [] e there) [
      | inl is ↦ subst (λ (n : ℕ). Contains (ids_view entities) n) is
          (Contains-mapped (λ (x : EntityId). x.0) entities entity (Contains-found entities place entity at))
      | inr none ↦ absurd (Contains-none e none)
    ])

-- where the instance that a need names is stored, its set tells whether the need is served
pub set-tells : (s : Schema) (memberships : List Membership) (instances : List StoredInstance) (need : Need) (name number : ℕ)
    (text : List ℕ) → name ≡ need.target → Contains instances (record { name = name; membership = number; text = text })
    → (own : Membership) → slice_get memberships number ≡ Some own → (serves : Bool) → IsTrue serves ↔ Serves s need.wanted own.entities
    → (serves ≡ true → IsServedBy s (stored_of memberships instances) need)
    × (serves ≡ false → RefusesNeed s (stored_of memberships instances) need WrongTarget)
set-tells s memberships instances need name number text same among own at serves tells =
    let x : StoredInstance = record { name = name; membership = number; text = text } in
    let there = stored-found memberships instances x own among at in (
      λ yes. (stored_with (Some own) x, there, same, tells.0 yes),
      λ no. (stored_with (Some own) x, there, same, λ it. let yes : serves ≡ true = tells.1 it in cc),
    )
