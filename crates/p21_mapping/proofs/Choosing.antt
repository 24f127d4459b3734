-- What a base has for a name and for a keyword.
use Rattle.std.proofs.Common.{◌≡◌, ◌∙◌, sym, ap, subst, ℕ, ◌<◌, ◌^◌, List, [], ◌∷◌, ◌++◌, Ok, Err, Some, None}
use denote.Ref.{Bor}
use Rattle.p21_mapping_values.proofs.SpelledScalars.{name-spelled}
use Rattle.p21_spec_laws.proofs.OfType.{of_entity, of_chosen_instance, offers-select}
use Rattle.p21_spec_laws.specs.Needs.{with_instance, with_chosen_instance}
use Rattle.p21_spec_exchange.specs.Parameter as parameter
use Rattle.p21_spec_exchange.specs.Parameter.{Param, Key}
use Rattle.p21_schema.specs.Base.{IsBase}
use Rattle.p21_schema.specs.declared.base.Base.{Base}
use Rattle.p21_schema.specs.declared.base.Base.TheVariants.{Plain, Select}
use Rattle.p21_express_graph.specs.declared.kind.Member.{Member}
use Rattle.p21_express_graph.specs.declared.kind.Member.TheVariants as wanted
use Rattle.p21_express_graph.specs.declared.number.EntityId.{EntityId}
use Rattle.p21_express_graph.specs.declared.number.TypeId.{TypeId}
use Rattle.p21_express_graph.specs.declared.type_use.TypeUse as code
use Rattle.p21_express_graph.specs.Meaning.{type_use}
use Rattle.p21_spec_file.specs.Value as meant
use Rattle.p21_mapping.proofs.Outcomes.{broken, value-means}
use Rattle.p21_mapping.proofs.BaseKinds.{TakesAt, base-takes}
use Rattle.p21_mapping.specs.Choosing.{DecidesKey, DecidesName, WantsMember}
use Rattle.p21_mapping.specs.Outcome.{FitsFrom, IsKindFault}
use Rattle.p21_mapping_values.proofs.Views.{view-Reference}
use Rattle.p21_grammar_tree.specs.declared.fault.CheckFault.{CheckFault}
use Rattle.p21_mapping_values.specs.declared.need.Need.{Need}
use Rattle.p21_mapping_values.specs.declared.value.Value as value
use Rattle.p21_spec_schema.specs.Schema as schema
use Rattle.p21_spec_schema.specs.Schema.{Schema, TypeUse, Defined, entity_member, type_member, TypeNamed}
use Rattle.p21_spec_schema.specs.Select.{Offers}
use Rattle.p21_spec_schema.specs.WellFormed.{HasDistinctTypes}

-- ---- names

wants-entity : (s : Schema) (e : EntityId) → WantsMember s (schema.entity e.0) (wanted.Entity e)
wants-entity s e = record { fits = λ n. with_instance e.0 n; of_type = λ n low. of_entity e.0 n (name-spelled n low) }

wants-select : (s : Schema) (t : TypeId) → ((e : ℕ) × Offers s t.0 (entity_member e))
    → WantsMember s (schema.defined t.0) (wanted.Defined t)
wants-select s t (e, offers) = record {
  fits = λ n. with_chosen_instance t.0 n e offers;
  of_type = λ n low. of_chosen_instance t.0 n (offers-select s t.0 (entity_member e) offers) (name-spelled n low);
}

pub name-at_entity : (s : Schema) (base : Base) (b : Bor code.TypeUse) (e : EntityId) → base ≡ Plain b → b.now ≡ code.Entity e
    → DecidesName s base (Some (wanted.Entity e))
name-at_entity s base b e same now type is = subst (λ t. WantsMember s t (wanted.Entity e))
    (sym ((subst (IsBase s type) same is).0 ∙ ap type_use now)) (wants-entity s e)

pub name-at_select : (s : Schema) (base : Base) (t : TypeId) → base ≡ Select t → ((e : ℕ) × Offers s t.0 (entity_member e))
    → DecidesName s base (Some (wanted.Defined t))
name-at_select s base t same offers type is = subst (λ x. WantsMember s x (wanted.Defined t)) (sym (subst (IsBase s type) same is).0)
    (wants-select s t offers)

-- no name at a base that takes none
pub no_name : (s : Schema) (base : Base) (other : Base) → base ≡ other → ((n : ℕ) → TakesAt s other (parameter.name n) → ⊥)
    → DecidesName s base None
no_name s base other same nowhere type n is takes =
    nowhere n (base-takes s type other (parameter.name n) (subst (IsBase s type) same is) takes)

-- the name of an instance, with what is needed
pub name_at : (s : Schema) (base : Base) (n : ℕ) (member : Member) (old new : List Need) → DecidesName s base (Some member) → n < 2 ^ 64
    → new ≡ old ++ record { target = n; wanted = member } ∷ [] → FitsFrom s base (parameter.name n) old (Ok (value.Reference n)) new
name_at s base n member old new decides low same type is =
    let wants = decides type is in
    record {
      added = record { target = n; wanted = member } ∷ [];
      needs_are = same;
      fits = value-means s type (parameter.name n) (value.Reference n) (meant.reference n) _ (view-Reference n) (wants.fits n) tt
          (wants.of_type n low);
    }

pub name_refused : (s : Schema) (base : Base) (n : ℕ) (fault : CheckFault) (old new : List Need) → DecidesName s base None
    → IsKindFault base fault → FitsFrom s base (parameter.name n) old (Err fault) new
name_refused s base n fault old new decides is_fault type is =
    broken s type (parameter.name n) old new fault (is_fault s type (parameter.name n) is ((λ e. cc), (λ e. cc), decides type n is))

-- ---- keywords

pub no_key : (s : Schema) (base other : Base) (key : Key) → base ≡ other → ((p : Param) → TakesAt s other (parameter.typed key p) → ⊥)
    → DecidesKey s base key None
no_key s base other key same nowhere type p is takes =
    nowhere p (base-takes s type other (parameter.typed key p) (subst (IsBase s type) same is) takes)

pub unnamed-no_key : (s : Schema) (base : Base) (t : TypeId) (key : Key) → base ≡ Select t → ((u : ℕ) → TypeNamed s u key.word → ⊥)
    → DecidesKey s base key None
unnamed-no_key s base t key same none = no_key s base (Select t) key same
    (λ p (u, name, key_is, offers, named). none u (subst (TypeNamed s u) (sym (ap (λ (k : Key). k.word) key_is)) named))

pub unoffered-no_key : (s : Schema) → HasDistinctTypes s → (base : Base) (t chosen : TypeId) (key : Key) → base ≡ Select t
    → TypeNamed s chosen.0 key.word → (Offers s t.0 (type_member chosen.0) → ⊥) → DecidesKey s base key None
unoffered-no_key s distinct base t chosen key same named none =
    no_key s base (Select t) key same (λ p (u, name, key_is, offers, other). let same_type =
    distinct u chosen.0 key.word (subst (TypeNamed s u) (sym (ap (λ (k : Key). k.word) key_is)) other) named in
    none (subst (λ x. Offers s t.0 (type_member x)) same_type offers))
