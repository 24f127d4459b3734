-- Whether an attribute is left out: by its name, by the entities of the instance, and by all names one by one.
use Rattle.std.specs.Prelude.{◌≡◌, ◌≢◌, ◌↔◌, ◌<◌, ◌≤◌, ◌+◌, ◌==◌, ℕ, Bool, true, false, not, refl}
use Rattle.std.specs.Prelude.{List, [], ◌∷◌, Option, None, Some, Contains, length, map}
use Rattle.std.proofs.Common.{arith, ap, drop, get_or, sym, subst, ◌∙◌, inl, inr}
use Rattle.std.proofs.lemmas.Bool.Decides.{nat_tests}
use Rattle.std.proofs.lemmas.List.{drop_all}
use Rattle.p21_difference_rows.proofs.Knowing.{next-from}
use Rattle.p21_difference_rows.specs.Asked.{attribute_name_of}
use Rattle.p21_difference_rows.specs.declared.left_out.AttributeName.{AttributeName as Given}
use Rattle.p21_express_graph.specs.declared.number.EntityId.{EntityId}
use Rattle.p21_model.specs.EntitiesLeft.{HandsOutEntity, TellsEntities, TellsSet}
use Rattle.p21_model.specs.declared.entities.Entities.{Entities}
use Rattle.p21_spec_basics.proofs.Members.{Contains-cases, Contains-first, Contains-later, Contains-none, some_is}
use Rattle.p21_spec_differences.specs.LeftOut.{AttributeName, IsIgnored, LeftOut, NamesPlace, leaves_out}
use Rattle.p21_spec_exchange.specs.Number.{Ratio}
use Rattle.p21_spec_exchange.specs.Record.{Record}
use Rattle.p21_spec_file.specs.CanonicalTexts.{IsInstanceText}
use Rattle.p21_spec_schema.specs.Schema.{Attribute, EntityNamed, Place, PlaceNamed, Schema}
use Rattle.p21_spec_schema.specs.Supertype.{IsA}
use Rattle.p21_spec_schema.specs.WellFormed.{IsWellFormed}

-- ---- the entities of an instance, one by one

-- the entity is among those that are left exactly if it is among all
pub record IsLeftOf (left : Entities) (all : List ℕ) (e : ℕ) : Type 0 where
  pub more : List ℕ
  pub tells : TellsEntities left more
  pub same : Contains more e ↔ Contains all e

pub all-left : (s : Schema) (n : ℕ) (record_ : Record) (text : List ℕ) (stated : IsInstanceText s n record_ text) (left : Entities) (e : ℕ)
    → TellsSet stated left → IsLeftOf left stated.canonical_meaning.entities e
all-left s n record_ text stated left e tells = record { more = tells.set; tells = tells.tells; same = tells.same e }

module _ (left new : Entities) (all : List ℕ) (e : ℕ) (h : IsLeftOf left all e) where
  pub entity-found : (found : EntityId) → ((es : List ℕ) → TellsEntities left es → HandsOutEntity es (Some found) new) → found.0 ≡ e
      → Contains all e
  entity-found found hands is = h.same.0 (by h.more (hands h.more h.tells))
    where
      by : (es : List ℕ) → HandsOutEntity es (Some found) new → Contains es e
      by [] handed = absurd handed
      by (x ∷ es) handed = subst (Contains (x ∷ es)) (sym handed.0 ∙ is) (Contains-first x es)

  pub entity-later : (found : EntityId) → ((es : List ℕ) → TellsEntities left es → HandsOutEntity es (Some found) new) → found.0 ≢ e
      → IsLeftOf new all e
  entity-later found hands differ = by h.more (hands h.more h.tells) h.same
    where
      by : (es : List ℕ) → HandsOutEntity es (Some found) new → Contains es e ↔ Contains all e → IsLeftOf new all e
      by [] handed same = absurd handed
      by (x ∷ es) handed same = record {
        more = es;
        tells = handed.1;
        same = (
          λ among. same.0 (Contains-later x es e among),
          λ among. elim (Contains-cases x es e (same.1 among)) [
            | inl is ↦ absurd (differ (handed.0 ∙ is))
            | inr later ↦ later
          ],
        );
      }

  pub entity-none : ((es : List ℕ) → TellsEntities left es → HandsOutEntity es None new) → ¬ Contains all e
  entity-none hands among = by h.more (hands h.more h.tells) (h.same.1 among)
    where
      by : (es : List ℕ) → HandsOutEntity es None new → Contains es e → ⊥
      by [] handed none = Contains-none e none
      by (x ∷ es) handed none = handed

-- ---- the name of an attribute

module _ (s : Schema) (formed : IsWellFormed s) (name : AttributeName) (entities : List ℕ) (place : Place) where
  pub other-attribute : (found : List ℕ) → PlaceNamed s place found → found ≢ name.attribute → ¬ NamesPlace s name entities place
  other-attribute found (a, at, is) differ (e, is_of, among) =
      let (b, at_, is_) = is_of.attribute in
      differ (sym is ∙ ap (λ (x : Attribute). x.name) (some_is a b (sym at ∙ at_)) ∙ is_)

  pub no-entity : ((e : ℕ) → EntityNamed s e name.entity → ⊥) → ¬ NamesPlace s name entities place
  no-entity none (e, is_of, among) = none e is_of.named

  pub other-entity : (e : ℕ) → EntityNamed s e name.entity → ¬ IsA s e place.entity → ¬ NamesPlace s name entities place
  other-entity e named lacks (f, is_of, among) =
      let P : ℕ → Type 0 = λ g. IsA s g place.entity in
      lacks (subst P (formed.entities_distinct f e name.entity is_of.named named) is_of.has)

  pub names-if : (e : ℕ) → PlaceNamed s place name.attribute → EntityNamed s e name.entity → IsA s e place.entity
      → Contains entities e ↔ NamesPlace s name entities place
  names-if e attribute named has = (
    λ among. (e, record { named = named; has = has; attribute = attribute }, among),
    λ (f, is_of, among). subst (Contains entities) (formed.entities_distinct f e name.entity is_of.named named) among,
  )

-- ---- all names, one by one

module _ (s : Schema) (entities : List ℕ) (place : Place) where
  pub ignored-none : ¬ IsIgnored s [] entities place
  ignored-none (name, among, names) = Contains-none name among

  pub ignored-first : (name : AttributeName) (more : List AttributeName) → NamesPlace s name entities place
      → IsIgnored s (name ∷ more) entities place
  ignored-first name more names = (name, Contains-first name more, names)

  pub ignored-later : (name : AttributeName) (more : List AttributeName) → ¬ NamesPlace s name entities place
      → IsIgnored s (name ∷ more) entities place ↔ IsIgnored s more entities place
  ignored-later name more other = (
    λ (found, among, names). elim (Contains-cases name more found among) [
      | inl is ↦
          let P : AttributeName → Type 0 = λ n. NamesPlace s n entities place in
          absurd (other (subst P (sym is) names))
      | inr later ↦ (found, later, names)
    ],
    λ (found, among, names). (found, Contains-later name more found among, names),
  )

-- ---- the names that the program is given

module _ (s : Schema) (entities : List ℕ) (place : Place) (names : List Given) (i : ℕ) (d : Given) where
  left-are : i < length names
      → map attribute_name_of (drop i names) ≡ attribute_name_of (get_or names i d) ∷ map attribute_name_of (drop (i + 1) names)
  left-are low = ap (map attribute_name_of) (next-from names i d low)

  -- the next of those that are left is that of the attribute
  pub given-first : i < length names → NamesPlace s (attribute_name_of (get_or names i d)) entities place
      → IsIgnored s (map attribute_name_of (drop i names)) entities place
  given-first low is =
      let P : List AttributeName → Type 0 = λ ns. IsIgnored s ns entities place in
      subst P (sym (left-are low))
      (ignored-first s entities place (attribute_name_of (get_or names i d)) (map attribute_name_of (drop (i + 1) names)) is)

  -- it isn't
  pub given-later : (All : Type 0) → i < length names → ¬ NamesPlace s (attribute_name_of (get_or names i d)) entities place
      → IsIgnored s (map attribute_name_of (drop i names)) entities place ↔ All
      → IsIgnored s (map attribute_name_of (drop (i + 1) names)) entities place ↔ All
  given-later All low other all =
      let P : List AttributeName → Type 0 = λ ns. IsIgnored s ns entities place in
      let step =
      ignored-later s entities place (attribute_name_of (get_or names i d)) (map attribute_name_of (drop (i + 1) names)) other in (
        λ later. all.0 (subst P (sym (left-are low)) (step.1 later)),
        λ is. step.0 (subst P (left-are low) (all.1 is)),
      )

-- none is left
pub given-none : (s : Schema) (entities : List ℕ) (place : Place) (names : List Given) (i : ℕ) → length names ≤ i
    → ¬ IsIgnored s (map attribute_name_of (drop i names)) entities place
given-none s entities place names i past is =
    let P : List Given → Type 0 = λ ns. IsIgnored s (map attribute_name_of ns) entities place in
    ignored-none s entities place (subst P (drop_all i names past) is)

-- ---- whether something is left out

-- where the header isn't left out, and where no tolerance is given either
abbrev asked_names : LeftOut → Bool
asked_names left = elim left.attributes [ [] ↦ false | (name ∷ names) ↦ true ]

abbrev asked_else : LeftOut → Bool
asked_else left = elim left.tolerance [ Some t ↦ true | None ↦ asked_names left ]

pub asked-header : (left : LeftOut) → left.header ≡ true → leaves_out left ≡ true
asked-header left is =
    let P : Bool → Type 0 = λ b. elim b [ true ↦ true | false ↦ asked_else left ] ≡ true in
    subst P (sym is) refl

pub asked-tolerance : (left : LeftOut) (t : Ratio) → left.header ≡ false → left.tolerance ≡ Some t → leaves_out left ≡ true
asked-tolerance left t is given =
    let P : Bool → Type 0 = λ b. elim b [ true ↦ true | false ↦ asked_else left ] ≡ true in
    let Q : Option Ratio → Type 0 = λ o. elim o [ Some u ↦ true | None ↦ asked_names left ] ≡ true in
    subst P (sym is) (subst Q (sym given) refl)

pub asked-attributes : (left : LeftOut) (names : List Given) → left.header ≡ false → left.tolerance ≡ None
    → left.attributes ≡ map attribute_name_of names
    → leaves_out left ≡ not (length names == 0)
asked-attributes left names is none are =
    let P : Bool → Type 0 = λ b. elim b [ true ↦ true | false ↦ asked_else left ] ≡ not (length names == 0) in
    let O : Option Ratio → Type 0 = λ o. elim o [ Some u ↦ true | None ↦ asked_names left ] ≡ not (length names == 0) in
    let Q : List AttributeName → Type 0 = λ ns. elim ns [ [] ↦ false | (name ∷ more) ↦ true ] ≡ not (length names == 0) in
    subst P (sym is) (subst O (sym none) (subst Q (sym are) (by names)))
  where
    by : (ns : List Given) → elim (map attribute_name_of ns) [ [] ↦ false | (name ∷ more) ↦ true ] ≡ not (length ns == 0)
    by [] = refl
    by (n ∷ ns) = grind (arith, nat_tests)
