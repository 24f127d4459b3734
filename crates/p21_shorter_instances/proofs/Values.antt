-- Values that are taken, by what may stand there.
use Rattle.std.proofs.Common.{◌≡◌, ◌∙◌, ℕ, ◌-◌, ◌≤◌, length, Bool, true, List, [], ◌∷◌, ◌++◌, drop, refl, sym, subst, arith, Some, Result, Ok, Err, Contains, OnErr}
use Rattle.std.proofs.lemmas.List.{append-nil}
use denote.Ref.{Bor}
use Rattle.p21_spec_laws.specs.Needs.{FitsAtWithNeeds, FitsWithNeeds, with_chosen_instance, with_dollar, with_fit, with_instance, with_item, with_star, with_underlying}
use Rattle.p21_spec_exchange.specs.Parameter as parameter
use Rattle.p21_spec_exchange.specs.Nesting.{depth}
use Rattle.p21_spec_exchange.specs.Parameter.{Param, param_tokens}
use Rattle.p21_spec_exchange.specs.Token as token
use Rattle.p21_express_graph.proofs.Resolving.{type-is}
use Rattle.p21_express_graph.specs.DirectRenaming.{ComesTo, at_itself, through}
use Rattle.p21_schema.specs.Base.{HasBase, IsBase}
use Rattle.p21_schema.specs.declared.base.Base.{Base}
use Rattle.p21_schema.specs.declared.base.Base.TheVariants.{Items, Select}
use Rattle.p21_express_graph.specs.Resolved.{HoldsTogether, IsEntity, IsPlace, IsType, IsTypeUse}
use Rattle.p21_express_graph.specs.declared.kind.Member.{Member}
use Rattle.p21_express_graph.specs.declared.number.TypeId.{TypeId}
use Rattle.p21_express_graph.specs.declared.number.Place as code_place
use Rattle.p21_express_graph.specs.declared.type_use.TypeUse as code
use Rattle.p21_express_graph.specs.declared.number.EntityId.{EntityId}
use Rattle.p21_express_graph.specs.Meaning.{member, place, type_use}
use Rattle.p21_spec_file.specs.Reference as reference
use Rattle.p21_spec_file.specs.Value as meant
use Rattle.p21_spec_file.specs.Value.{Value}
use Rattle.p21_spec_file.specs.ValueText.{value_text}
use Rattle.p21_mapping_values.specs.declared.need.Need.{Need}
use Rattle.p21_spec_schema.proofs.PlaceTypes.{TypeAt-one}
use Rattle.p21_spec_schema.specs.Order.{order}
use Rattle.p21_spec_schema.specs.PlaceType.{PlaceType, TypeAt, derived_place, stored_place}
use Rattle.p21_spec_schema.specs.Schema as schema
use Rattle.p21_spec_schema.specs.Schema.{Schema, TypeUse}
use Rattle.p21_spec_schema.specs.Select.{IsSelect, Offers}
use Rattle.p21_shorter_tokens.specs.LeadingToken.{AppendsToken, IsLeadingToken}
use Rattle.p21_shorter_instances.specs.Steps.{IsStepForSome, IsStepFor}
use Rattle.p21_shorter_instances.specs.declared.step.Step.{Step}
use Rattle.p21_shorter_instances.specs.declared.step.Step.TheVariants.{Derived, Placed, Stored}
use Rattle.p21_shorter_tokens.proofs.Splits.{behind-count}
use Rattle.p21_shorter_instances.proofs.Laid.{laid-end, laid-mark, laid-one, laid-shorter}
use Rattle.p21_shorter_instances.specs.declared.taken.Taken.{Taken}
use Rattle.p21_shorter_instances.specs.TakenParameters.{TakesStep}
use Rattle.p21_shorter_instances.specs.TakenValues.{IsBaseInSchema, KeepsNeeds, LaidBefore, TakesBase, TakesFront, TakesPlaced, TakesReferencesTo, TakesScalar, TakesValue, TakesWithNeeds, with_text}

-- a parameter of one token
token-value : (s : Schema) (F : Param → Value → Type 0) (one : token.Token) (p : Param) (v : Value) (bytes rest : List ℕ) (count : ℕ)
    (old new : List ℕ)
    → IsLeadingToken bytes count one → rest ≡ drop count bytes → param_tokens p ≡ one ∷ [] → depth p ≡ 0 → F p v
    → new ≡ old ++ value_text s v
    → TakesValue s F 0 bytes rest old new
token-value s F one p v bytes rest count old new stands e tokens flat fits text = record {
  parameter = p;
  value = v;
  fits = fits;
  shallow = omega arith;
  laid = subst (λ (ts : List token.Token). LaidBefore bytes ts rest) (sym tokens)
      (subst (LaidBefore bytes (one ∷ [])) (sym e) (laid-one bytes count one stands));
  text_is = text;
}

pub scalar-value : (s : Schema) (type : TypeUse) (bytes rest : List ℕ) (count : ℕ) (old new : List ℕ) → rest ≡ drop count bytes
    → TakesScalar type bytes count old new
    → TakesValue s (λ p v. FitsWithNeeds s type p v []) 0 bytes rest old new
scalar-value s type bytes rest count old new e h =
    token-value s (λ p v. FitsWithNeeds s type p v []) h.token h.parameter h.value bytes rest count old new h.stands e h.tokens_are h.flat
    (h.fits s) (h.text_is s)

pub item-front : (words known : List (List ℕ)) (bytes : List ℕ) (count : ℕ) (old new : List ℕ) → known ≡ words
    → (word : List ℕ) × Contains known word × AppendsToken bytes count (token.item word) old new
    → (count ≤ length bytes) × ((s : Schema) (t : ℕ) → schema.kind_of s t ≡ Some (schema.items words)
    → TakesValue s (λ p v. FitsWithNeeds s (schema.defined t) p v []) 0 bytes (drop count bytes) old new)
item-front words known bytes count old new same (word, among, h) = (
  h.stands.within,
  λ s t is. token-value s (λ p v. FitsWithNeeds s (schema.defined t) p v []) (token.item word) (parameter.item word) (meant.item word) bytes
      (drop count bytes) count old new h.stands refl refl refl
      (with_item t words word is (subst (λ (ws : List (List ℕ)). Contains ws word) same among)) h.appended,
)

-- a value that needs nothing
pub needs-nothing : (s : Schema) (F : Param → Value → List reference.Need → Type 0) (most : ℕ) (bytes rest : List ℕ) (old : Taken)
    (new : List ℕ)
    → TakesValue s (λ p v. F p v []) most bytes rest old.draft new → TakesWithNeeds s F most bytes rest old (with_text new old)
needs-nothing s F most bytes rest old new h = record { added = []; needs_are = sym (append-nil old.needs.items); takes = h }

-- what fits one way fits another way
pub fits-as : (s : Schema) (F G : Param → Value → List reference.Need → Type 0) (most more : ℕ) (bytes rest : List ℕ) (old new : Taken)
    → most ≤ more
    → ((p : Param) (v : Value) (needs : List reference.Need) → F p v needs → G p v needs)
    → TakesWithNeeds s F most bytes rest old new → TakesWithNeeds s G more bytes rest old new
fits-as s F G most more bytes rest old new wider follows h = record {
  added = h.added;
  needs_are = h.needs_are;
  takes = record {
    parameter = h.takes.parameter;
    value = h.takes.value;
    fits = follows h.takes.parameter h.takes.value _ h.takes.fits;
    shallow = let shallow = h.takes.shallow in omega arith;
    laid = h.takes.laid;
    text_is = h.takes.text_is;
  };
}

-- ---- how many bytes a value has

-- by what stands behind it
pub taken-front : (s : Schema) (F : Param → Value → List reference.Need → Type 0) (most : ℕ) (bytes rest : List ℕ) (old new : Taken)
    → TakesWithNeeds s F most bytes rest old new
    → TakesFront s F most bytes (length bytes - length rest) old new
taken-front s F most bytes rest old new h =
    let (front, is) = laid-end bytes rest (param_tokens h.takes.parameter) h.takes.laid in
    (omega arith, subst (λ (x : List ℕ). TakesWithNeeds s F most bytes x old new) (sym (behind-count bytes front rest is)) h)

-- what stands behind so many
pub rest-taken : (s : Schema) (F : Param → Value → List reference.Need → Type 0) (most : ℕ) (bytes rest : List ℕ) (count : ℕ)
    (old new : Taken) → rest ≡ drop count bytes
    → TakesWithNeeds s F most bytes (drop count bytes) old new
    → TakesWithNeeds s F most bytes rest old new
rest-taken s F most bytes rest count old new e h = subst (λ (x : List ℕ). TakesWithNeeds s F most bytes x old new) (sym e) h

-- no more bytes stand behind it
pub taken-shorter : (s : Schema) (F : Param → Value → List reference.Need → Type 0) (most : ℕ) (bytes rest : List ℕ) (old new : Taken)
    → TakesWithNeeds s F most bytes rest old new → length rest ≤ length bytes
taken-shorter s F most bytes rest old new h = laid-shorter bytes rest (param_tokens h.takes.parameter) h.takes.laid

-- ---- references

pub name-taken : (s : Schema) (type : TypeUse) (wanted : Member) (bytes : List ℕ) (count n : ℕ) (old new : Taken)
    → AppendsToken bytes count (token.name n) old.draft new.draft
    → new.needs.items ≡ old.needs.items ++ record { target = n; wanted = wanted } ∷ [] → TakesReferencesTo s type (member wanted)
    → TakesWithNeeds s (FitsWithNeeds s type) 0 bytes (drop count bytes) old new
name-taken s type wanted bytes count n old new h pushed takes = record {
  added = record { target = n; wanted = wanted } ∷ [];
  needs_are = pushed;
  takes = token-value s (λ p v. FitsWithNeeds s type p v (record { target = n; wanted = member wanted } ∷ [])) (token.name n)
      (parameter.name n) (meant.reference n) bytes (drop count bytes) count old.draft new.draft h.stands refl refl refl (takes n)
      h.appended;
}

pub entity-at : (u : code.TypeUse) (e : EntityId) (bytes rest : List ℕ) (old new : Taken) → u ≡ code.Entity e
    → ((s : Schema) (type : TypeUse) → TakesReferencesTo s type (schema.entity_member e.0)
    → TakesWithNeeds s (FitsWithNeeds s type) 0 bytes rest old new) → (s : Schema)
    → TakesWithNeeds s (FitsWithNeeds s (type_use u)) 0 bytes rest old new
entity-at u e bytes rest old new is h s =
    h s (type_use u) (subst (λ (x : code.TypeUse). TakesReferencesTo s (type_use x) (schema.entity_member e.0)) (sym is)
    (λ n. with_instance e.0 n))

pub chosen-at : (s : Schema) (t : ℕ) (bytes rest : List ℕ) (old new : Taken) → (e : ℕ) × Offers s t (schema.entity_member e)
    → ((other : Schema) (type : TypeUse) → TakesReferencesTo other type (schema.type_member t)
    → TakesWithNeeds other (FitsWithNeeds other type) 0 bytes rest old new)
    → TakesWithNeeds s (FitsWithNeeds s (schema.defined t)) 0 bytes rest old new
chosen-at s t bytes rest old new (e, offers) h = h s (schema.defined t) (λ n. with_chosen_instance t n e offers)

pub chosen-front : (s : Schema) (t : ℕ) (bytes : List ℕ) (count : ℕ) (old new : Taken) → (e : ℕ) × Offers s t (schema.entity_member e)
    → (count ≤ length bytes) × ((other : Schema) (type : TypeUse) → TakesReferencesTo other type (schema.type_member t)
    → TakesWithNeeds other (FitsWithNeeds other type) 0 bytes (drop count bytes) old new)
    → TakesFront s (FitsWithNeeds s (schema.defined t)) 0 bytes count old new
chosen-front s t bytes count old new offers (within, h) = (within, chosen-at s t bytes (drop count bytes) old new offers h)

pub select-known : (s : Schema) (t : ℕ) → IsSelect s t → IsType s t
select-known s t (members, is) = type-is s t (schema.choice members) is

-- ---- what a type comes down to

pub comes-fits : (s : Schema) (type last : TypeUse) (p : Param) (v : Value) (needs : List reference.Need) → ComesTo s type last
    → FitsWithNeeds s last p v needs
    → FitsWithNeeds s type p v needs
comes-fits s type last p v needs (at_itself _) fits = fits
comes-fits s type last p v needs (through t next _ is more) fits =
    with_underlying t next p v needs is (comes-fits s next last p v needs more fits)

-- a value of the type that it comes to
pub stored-taken : (s : Schema) (optional : Bool) (base : Base) (most : ℕ) (bytes rest same : List ℕ) (old new : Taken) → same ≡ old.draft
    → TakesBase s base most bytes rest (with_text same old) new
    → TakesPlaced s optional base most bytes rest old new
stored-taken s optional base most bytes rest same old new e takes type (last, comes, is) =
    fits-as s (FitsWithNeeds s last) (FitsAtWithNeeds s (stored_place optional type)) most most bytes rest old new (omega arith)
    (λ p v needs fits. with_fit optional type p v needs (comes-fits s type last p v needs comes fits))
    (subst (λ (x : List ℕ). TakesWithNeeds s (FitsWithNeeds s last) most bytes rest (with_text x old) new) e (takes last is))

-- no value, where there may be none
pub left-out : (s : Schema) (optional : Bool) (type : TypeUse) (most : ℕ) (bytes rest : List ℕ) (old : Taken) (new : List ℕ)
    → optional ≡ true → bytes ≡ 36 ∷ rest
    → new ≡ old.draft ++ 36 ∷ [] → TakesWithNeeds s (FitsAtWithNeeds s (stored_place optional type)) most bytes rest old (with_text new old)
left-out s optional type most bytes rest old new may e is =
    subst (λ (x : Bool). TakesWithNeeds s (FitsAtWithNeeds s (stored_place x type)) most bytes rest old (with_text new old)) (sym may)
    (needs-nothing s (FitsAtWithNeeds s (stored_place true type)) most bytes rest old new
    (record {
      parameter = parameter.dollar;
      value = meant.missing;
      fits = with_dollar type;
      shallow = omega arith;
      laid =
          laid-mark 36 token.dollar bytes rest refl (λ byte. tt) e;
      text_is = is;
    }))

-- a derived attribute
pub star-at : (s : Schema) (bytes rest : List ℕ) (old : Taken) (new : List ℕ) → (bytes ≡ 42 ∷ rest) × (new ≡ old.draft ++ 42 ∷ [])
    → TakesWithNeeds s (FitsAtWithNeeds s derived_place) 64 bytes rest old (with_text new old)
star-at s bytes rest old new (e, is) =
    needs-nothing s (FitsAtWithNeeds s derived_place) 64 bytes rest old new
    (record {
      parameter = parameter.star;
      value = meant.derived;
      fits = with_star;
      shallow = omega arith;
      laid =
          laid-mark 42 token.star bytes rest refl (λ byte. tt) e;
      text_is = is;
    })

pub star-taken : (s : Schema) (step : Step) (bytes rest : List ℕ) (old : Taken) (new : List ℕ) → step ≡ Derived
    → (bytes ≡ 42 ∷ rest) × (new ≡ old.draft ++ 42 ∷ [])
    → TakesStep s step bytes rest old (with_text new old)
star-taken s step bytes rest old new derived taken at says =
    subst (λ (x : PlaceType). TakesWithNeeds s (FitsAtWithNeeds s x) 64 bytes rest old (with_text new old))
    (sym (subst (IsStepFor s at) derived says)) (star-at s bytes rest old new taken)

pub dollar-put : (optional : Bool) (bytes rest old new : List ℕ) → optional ≡ true → (bytes ≡ 36 ∷ rest) × (new ≡ old ++ 36 ∷ [])
    → (optional ≡ true) × (bytes ≡ 36 ∷ rest) × (new ≡ old ++ 36 ∷ [])
dollar-put optional bytes rest old new may h = (may, h.0, h.1)

-- ---- steps

pub step-known : (s : Schema) (step : Step) (optional : Bool) (of : code.TypeUse) → step ≡ Stored optional of → IsStepForSome s step
    → IsTypeUse s (type_use of)
step-known s step optional of is (at, says) = (subst (IsStepFor s at) is says).2

comes-join : (s : Schema) (type middle last : TypeUse) → ComesTo s type middle → ComesTo s middle last → ComesTo s type last
comes-join s type middle last (at_itself _) more = more
comes-join s type middle last (through t next _ is comes) more = through t next last is (comes-join s next middle last comes more)

pub step-taken : (s : Schema) (step : Step) (optional : Bool) (of : code.TypeUse) (base : Base) (bytes rest : List ℕ) (old new : Taken)
    → step ≡ Stored optional of
    → HasBase s (type_use of) base
    → TakesPlaced s optional base 64 bytes rest old new → TakesStep s step bytes rest old new
step-taken s step optional of base bytes rest old new is (last, comes, base_is) takes at says =
    let says_ = subst (IsStepFor s at) is says in
    subst (λ (x : PlaceType). TakesWithNeeds s (FitsAtWithNeeds s x) 64 bytes rest old new) (sym says_.1)
    (takes says_.0 (last, comes-join s says_.0 (type_use of) last says_.3 comes, base_is))

-- the place of which a step speaks is one of the schema
pub placed-known : (s : Schema) (step : Step) (e : EntityId) (p : code_place.Place) → step ≡ Placed e p → IsStepForSome s step
    → IsEntity s e.0 × IsPlace s (place p)
placed-known s step e p is (at, says) = let says_ = subst (IsStepFor s at) is says in (says_.0, says_.1)

-- one type stands there
pub placed-taken : (s : Schema) → HoldsTogether s → (step : Step) (e : EntityId) (p : code_place.Place) (found : PlaceType)
    (bytes rest : List ℕ) (old new : Taken)
    → step ≡ Placed e p → TypeAt s (order s e.0) (place p) found
    → TakesWithNeeds s (FitsAtWithNeeds s found) 64 bytes rest old new → TakesStep s step bytes rest old new
placed-taken s holds step e p found bytes rest old new is found_at takes at says =
    let same : found ≡ at = TypeAt-one s holds.supertypes_end holds.redeclares_once (order s e.0) (place p) found at found_at
    (subst (IsStepFor s at) is says).2 in
    subst (λ (x : PlaceType). TakesWithNeeds s (FitsAtWithNeeds s x) 64 bytes rest old new) same takes

pub base-select : (s : Schema) (base : Base) (t : TypeId) → base ≡ Select t → IsBaseInSchema s base → IsSelect s t.0
base-select s base t is (type, known, (last, comes, found)) = (subst (IsBase s last) is found).1

pub needs-kept : {A E : Type 0} (result : Result A E) (needs : List Need) → OnErr result (KeepsNeeds needs needs)
needs-kept (Ok x) needs = tt
needs-kept (Err e) needs = ([], sym (append-nil needs))

pub needs-same : (old new : List Need) → new ≡ old → KeepsNeeds old new
needs-same old new e = ([], e ∙ sym (append-nil old))

-- ---- bases

pub scalar-at : (u : code.TypeUse) (bytes rest : List ℕ) (old : Taken) (new : List ℕ)
    → ((s : Schema) → TakesValue s (λ p v. FitsWithNeeds s (type_use u) p v []) 0 bytes rest old.draft new) → (s : Schema)
    → TakesWithNeeds s (FitsWithNeeds s (type_use u)) 0 bytes rest old (with_text new old)
scalar-at u bytes rest old new h s = needs-nothing s (FitsWithNeeds s (type_use u)) 0 bytes rest old new (h s)

item-at : (base : Base) (words : Bor (List (List ℕ))) (bytes rest : List ℕ) (old : Taken) (new : List ℕ) → base ≡ Items words
    → ((s : Schema) (t : ℕ) → schema.kind_of s t ≡ Some (schema.items words.now)
    → TakesValue s (λ p v. FitsWithNeeds s (schema.defined t) p v []) 0 bytes rest old.draft new)
    → (s : Schema) (type : TypeUse) → IsBase s type base → TakesWithNeeds s (FitsWithNeeds s type) 0 bytes rest old (with_text new old)
item-at base words bytes rest old new same h s type is =
    let (t, e, kind) = subst (IsBase s type) same is in
    subst (λ (x : TypeUse). TakesWithNeeds s (FitsWithNeeds s x) 0 bytes rest old (with_text new old)) (sym e)
    (needs-nothing s (FitsWithNeeds s (schema.defined t)) 0 bytes rest old new (h s t kind))

pub select-at : (s : Schema) (base : Base) (t : TypeId) (most : ℕ) (bytes rest : List ℕ) (old new : Taken) → base ≡ Select t
    → TakesWithNeeds s (FitsWithNeeds s (schema.defined t.0)) most bytes rest old new → TakesBase s base most bytes rest old new
select-at s base t most bytes rest old new same h type is =
    subst (λ (x : TypeUse). TakesWithNeeds s (FitsWithNeeds s x) most bytes rest old new) (sym (subst (IsBase s type) same is).0) h

-- as deep as it may be
pub no-deeper : (s : Schema) (F : Param → Value → List reference.Need → Type 0) (most : ℕ) (bytes rest : List ℕ) (old new : Taken)
    → TakesWithNeeds s F 0 bytes rest old new
    → TakesWithNeeds s F most bytes rest old new
no-deeper s F most bytes rest old new h = fits-as s F F 0 most bytes rest old new (omega arith) (λ p v needs fits. fits) h

pub front-deep : (s : Schema) (F : Param → Value → List reference.Need → Type 0) (most : ℕ) (bytes : List ℕ) (count : ℕ) (old new : Taken)
    → TakesFront s F 0 bytes count old new
    → TakesFront s F most bytes count old new
front-deep s F most bytes count old new (within, h) = (within, no-deeper s F most bytes (drop count bytes) old new h)

pub plain-deep : (s : Schema) (u : code.TypeUse) (most : ℕ) (bytes rest : List ℕ) (old new : Taken)
    → ((other : Schema) → TakesWithNeeds other (FitsWithNeeds other (type_use u)) 0 bytes rest old new)
    → TakesWithNeeds s (FitsWithNeeds s (type_use u)) most bytes rest old new
plain-deep s u most bytes rest old new h = no-deeper s (FitsWithNeeds s (type_use u)) most bytes rest old new (h s)

pub item-deep : (s : Schema) (base : Base) (words : Bor (List (List ℕ))) (most : ℕ) (bytes rest : List ℕ) (old : Taken) (new : List ℕ)
    → base ≡ Items words
    → ((other : Schema) (t : ℕ) → schema.kind_of other t ≡ Some (schema.items words.now)
    → TakesValue other (λ p v. FitsWithNeeds other (schema.defined t) p v []) 0 bytes rest old.draft new)
    → TakesBase s base most bytes rest old (with_text new old)
item-deep s base words most bytes rest old new same h type is =
    no-deeper s (FitsWithNeeds s type) most bytes rest old (with_text new old) (item-at base words bytes rest old new same h s type is)
