-- Tables of the entities that declare attributes of a name.
use Rattle.std.specs.Prelude.{◌≡◌, ◌≢◌, ◌<◌, ◌+◌, ◌⊎◌, ◌++◌, ◌∷◌, [], ℕ, zero, suc, List, MatchOption, Option, None, Some, length, slice_get, slice_set, Contains, refl}
use Rattle.std.specs.List.{IsDistinct}
use Rattle.std.specs.Str.{bytes_eq}
use Rattle.std.specs.Prelude as std
use Rattle.std.specs.declared.alloc.Global.{Global}
use Rattle.std.proofs.Common.{arith, ap, sym, subst, ◌∙◌, inl, inr}
use Rattle.std.proofs.lemmas.Bool.{cases_eq}
use Rattle.std.proofs.lemmas.List.{length-map, length-set, map-append}
use Rattle.std.proofs.lemmas.List.Elements.{Contains-append_left, Contains-push, Contains-push_cases}
use Rattle.std.proofs.lemmas.Option.{slice_get_within}
use Rattle.p21_spec_basics.proofs.Members.{Contains-none, Contains-found}
use Rattle.p21_express_outline.proofs.NameLemmas.{distinct-at}
use Rattle.p21_spec_schema.specs.Redeclaration.{IsOwnPlace}
use Rattle.p21_spec_schema.specs.Schema.{Schema, Place, Attribute, Entity, PlaceNamed, attributes_of}
use Rattle.p21_express_graph.specs.declared.number.EntityId.{EntityId}
use Rattle.p21_express_graph.specs.Orders.{number_lists, numbers}
use Rattle.p21_express_graph.specs.SettledOrder.{nexts_of}
use Rattle.p21_express_graph.proofs.OrderTables.{set-same, set-other}
use Rattle.p21_express.specs.NamedOwners.{AddsOwner, AddsOwners, AreBlank, AreOwnersOf, HasOwners, HaveLists, IsTable, OwnersUpTo, listed, names_or_none, owners_of}
use Rattle.p21_express.specs.declared.named_owners.NamedOwners.{NamedOwners}
use Rattle.p21_express.proofs.PlaceLemmas.{name-one, named-within}

nexts-more : (lists : List (List ℕ)) (k : ℕ) → nexts_of (lists ++ [] ∷ []) k ≡ nexts_of lists k
nexts-more [] zero = refl
nexts-more [] (suc k) = refl
nexts-more (l ∷ lists) zero = refl
nexts-more (l ∷ lists) (suc k) = nexts-more lists k

-- one empty list more
pub empty-more : (before after : List (std.Vec EntityId Global)) (empty : std.Vec EntityId Global)
    → ((k : ℕ) → nexts_of (number_lists before) k ≡ []) → after ≡ before ++ empty ∷ [] → empty.items ≡ [] → (k : ℕ)
    → nexts_of (number_lists after) k ≡ []
empty-more before after empty none after_is is k = ap (λ ls. nexts_of ls k) lists_are ∙ nexts-more (number_lists before) k ∙ none k
  where
    lists_are : number_lists after ≡ number_lists before ++ [] ∷ []
    lists_are = ap number_lists after_is ∙ map-append (λ v. numbers v.items) before (empty ∷ [])
        ∙ ap (λ l. number_lists before ++ l ∷ []) (ap numbers is)

-- different names, each with an empty list
pub blank : (words : List (List ℕ)) (named : NamedOwners) → MatchOption named.names (IsDistinct bytes_eq words → ⊥) (λ names. names ≡ words)
    → MatchOption named.names (Unit {0}) (λ _. IsDistinct bytes_eq words)
    → length named.owners.items ≡ length words → ((k : ℕ) → owners_of named k ≡ []) → AreBlank named
blank words named names_are distinct size none = record { table_is = table named.names names_are distinct; none = none }
  where
    table : (names : Option (List (List ℕ))) → MatchOption names (IsDistinct bytes_eq words → ⊥) (λ ns. ns ≡ words)
        → MatchOption names (Unit {0}) (λ _. IsDistinct bytes_eq words) → HaveLists (names_or_none names) (length named.owners.items)
    table None are apart = record {
      size = omega arith;
      distinct = λ j k name at at_. cc;
    }
    table (Some names) are apart = record {
      size = (let long = ap length are in omega (arith, size, long));
      distinct = (let P : List (List ℕ) → Type 0 = λ ns. (j k : ℕ) (name : List ℕ) → slice_get ns j ≡ Some name → slice_get ns k ≡ Some name
          → j ≡ k in subst P (sym are) (λ j k name at at_. distinct-at words apart j k name at at_));
    }

lists-long : (named : NamedOwners) → length (number_lists named.owners.items) ≡ length named.owners.items
lists-long named = length-map named.owners.items (λ x. numbers x.items)

-- an entity at the name of this number
pub added : (e at : ℕ) (name : List ℕ) (before after : NamedOwners) → IsTable before → slice_get (listed before) at ≡ Some name
    → after.names ≡ before.names → number_lists after.owners.items ≡ slice_set (number_lists before.owners.items) at
    (owners_of before at ++ e ∷ []) → AddsOwner e name before after
added e at name before after table there names_are lists_are = record {
  names_are = ap names_or_none names_are;
  size = (let after_long = lists-long after in let before_long = lists-long before in let set_long = ap length lists_are in let same =
      length-set (number_lists before.owners.items) at (owners_of before at ++ e ∷ []) in
      omega (arith, after_long, before_long, set_long, same));
  here = λ k is. (let P : ℕ → Type 0 = λ i. Contains (owners_of after i) e in let Q : List ℕ
      → Type 0 = λ es. Contains es e in subst P (table.distinct at k name there is)
      (subst Q (sym at-it) (Contains-push (owners_of before at) e)));
  kept = λ k f among. elim (cases_eq k at) [
    | inl same ↦ (let P : ℕ → Type 0 = λ i. Contains (owners_of after i) f in let Q : List ℕ → Type 0 = λ es. Contains es f in let R : ℕ
        → Type 0 = λ i. Contains (owners_of before i) f in
        subst P (sym same) (subst Q (sym at-it) (Contains-append_left (owners_of before at) (e ∷ []) f (subst R same among))))
    | inr apart ↦ (let Q : List ℕ → Type 0 = λ es. Contains es f in subst Q (sym (elsewhere k apart)) among)
  ];
  within = λ k f among. elim (cases_eq k at) [
    | inl same ↦ (let P : ℕ → Type 0 = λ i. Contains (owners_of before i) f ⊎ (f ≡ e) in let Q : List ℕ
        → Type 0 = λ es. Contains es f in let R : ℕ → Type 0 = λ i. Contains (owners_of after i) f in
        subst P (sym same) (elim (Contains-push_cases (owners_of before at) e f (subst Q at-it (subst R same among)))
        [ inl h ↦ inl h | inr h ↦ inr (sym h) ]))
    | inr apart ↦ (let Q : List ℕ → Type 0 = λ es. Contains es f in inl (subst Q (elsewhere k apart) among))
  ];
}
  where
    below : at < length (number_lists before.owners.items)
    below = let inside = slice_get_within (listed before) at name there in let size = table.size in let long = lists-long before in
        omega (arith, inside, size, long)

    at-it : owners_of after at ≡ owners_of before at ++ e ∷ []
    at-it = ap (λ ls. nexts_of ls at) lists_are ∙ set-same (number_lists before.owners.items) at (owners_of before at ++ e ∷ []) below

    elsewhere : (k : ℕ) → k ≢ at → owners_of after k ≡ owners_of before k
    elsewhere k apart = ap (λ ls. nexts_of ls k) lists_are
        ∙ set-other (number_lists before.owners.items) at k (owners_of before at ++ e ∷ []) apart

-- a name that isn't there
pub added-none : (e : ℕ) (name : List ℕ) (before : NamedOwners) → (Contains (listed before) name → ⊥) → AddsOwner e name before before
added-none e name before absent = record {
  names_are = refl;
  size = refl;
  here = λ k is. absurd (absent (Contains-found (listed before) k name is));
  kept = λ k f among. among;
  within = λ k f among. inl among;
}

pub still-table : (before after : NamedOwners) → IsTable before → listed after ≡ listed before
    → length after.owners.items ≡ length before.owners.items → IsTable after
still-table before after table names_are long = record {
  size = (let size = table.size in let names_long = ap length names_are in omega (arith, size, long, names_long));
  distinct = λ j k name at at_. (let P : ℕ → List (List ℕ)
      → Type 0 = λ i ns. slice_get ns i ≡ Some name in table.distinct j k name (subst (P j) names_are at) (subst (P k) names_are at_));
}

-- the names of no attributes, and of one more
pub none-added : (s : Schema) (e : ℕ) (before : NamedOwners) → AddsOwners s e 0 before before
none-added s e before = record {
  names_are = refl;
  size = refl;
  here = λ k name place at own below. absurd (omega (arith, below));
  kept = λ k f among. among;
  within = λ k f among. inl among;
}

pub one-added : (s : Schema) (e count : ℕ) (name : List ℕ) (before now after : NamedOwners)
    → PlaceNamed s (record { entity = e; index = count }) name → AddsOwners s e count before now → AddsOwner e name now after
    → AddsOwners s e (count + 1) before after
one-added s e count name before now after named so_far next = record {
  names_are = next.names_are ∙ so_far.names_are;
  size = next.size ∙ so_far.size;
  here = here;
  kept = λ k f among. next.kept k f (so_far.kept k f among);
  within = λ k f among. elim (next.within k f among) [ inl h ↦ so_far.within k f h | inr h ↦ inr h ];
}
  where
    here : (k : ℕ) (n : List ℕ) (place : Place) → slice_get (listed before) k ≡ Some n → IsOwnPlace s e n place → place.index < count + 1
        → Contains (owners_of after k) e
    here k n place at own low = elim (cases_eq place.index count) [
      | inl last ↦
          let g : ℕ → Place = λ f. record { entity = f; index = place.index } in
          let h : ℕ → Place = λ i. record { entity = e; index = i } in
          let P : Place → Type 0 = λ p. PlaceNamed s p n in
          let same : n ≡ name = name-one s (h count) n name (subst P (ap g own.0 ∙ ap h last) own.1) named in
          let Q : List (List ℕ) → Type 0 = λ ns. slice_get ns k ≡ Some n in
          let R : List ℕ → Type 0 = λ m. slice_get (listed now) k ≡ Some m in
          next.here k (subst R same (subst Q (sym so_far.names_are) at))
      | inr other ↦ next.kept k e (so_far.here k n place at own (omega (arith, low, other)))
    ]

-- an entity more
pub owners-none : (s : Schema) (named : NamedOwners) → AreBlank named → OwnersUpTo s 0 named
owners-none s named blank_ = record {
  table_is = blank_.table_is;
  all = λ k e name place at below own. absurd (omega (arith, below));
  within = λ k e among. (let P : List ℕ → Type 0 = λ es. Contains es e in absurd (Contains-none e (subst P (blank_.none k) among)));
}

pub owners-more : (s : Schema) (count : ℕ) (before after : NamedOwners) → count < length s.entities → OwnersUpTo s count before
    → AddsOwners s count (length (attributes_of s count)) before after → OwnersUpTo s (count + 1) after
owners-more s count before after below so_far next = record {
  table_is = still-table before after so_far.table_is next.names_are next.size;
  all = all;
  within = λ k e among. elim (next.within k e among) [
    | inl h ↦ so_far.within k e h
    | inr h ↦ (let P : ℕ → Type 0 = λ f. f < length s.entities in subst P (sym h) below)
  ];
}
  where
    all : (k e : ℕ) (name : List ℕ) (place : Place) → slice_get (listed after) k ≡ Some name → e < count + 1 → IsOwnPlace s e name place
        → Contains (owners_of after k) e
    all k e name place at low own =
        let Q : List (List ℕ) → Type 0 = λ ns. slice_get ns k ≡ Some name in
        let at_ : slice_get (listed before) k ≡ Some name = subst Q next.names_are at in
        elim (cases_eq e count) [
          | inl last ↦
              let P : ℕ → Type 0 = λ f. Contains (owners_of after k) f in
              let R : ℕ → Type 0 = λ f. IsOwnPlace s f name place in
              let S : ℕ → Type 0 = λ f. place.index < length (attributes_of s f) in
              let own_ : IsOwnPlace s count name place = subst R last own in
              subst P (sym last) (next.here k name place at_ own_ (subst S own_.0 (named-within s place name own_.1)))
          | inr other ↦ next.kept k e (so_far.all k e name place at_ (omega (arith, low, other)) own)
        ]

-- who declares an attribute is an entity
owner-is : (s : Schema) (e : ℕ) (name : List ℕ) (place : Place) → IsOwnPlace s e name place → e < length s.entities
owner-is s e name place own = by (slice_get s.entities place.entity) refl
  where
    by : (o : Option Entity) → slice_get s.entities place.entity ≡ o → e < length s.entities
    by None at = (
        let P : Option Entity → Type 0 = λ o. place.index < length {A = Attribute} (elim o [ Some x ↦ x.attributes | None ↦ [] ]) in
        let low : place.index < 0 = subst P at (named-within s place name own.1) in
        absurd (omega (arith, low)))
    by (Some x) at = (let P : ℕ → Type 0 = λ f. f < length s.entities in subst P own.0 (slice_get_within s.entities place.entity x at))

-- those at a name
pub owners-found : (s : Schema) (named : NamedOwners) (k : ℕ) (name : List ℕ) (owners : List ℕ) → AreOwnersOf s named
    → slice_get (listed named) k ≡ Some name → owners ≡ owners_of named k → HasOwners s name owners
owners-found s named k name owners are at is = record {
  all = λ e place own. (let P : List ℕ → Type 0 = λ es. Contains es e in
      subst P (sym is) (are.all k e name place at (owner-is s e name place own) own));
  within = λ e among. (let P : List ℕ → Type 0 = λ es. Contains es e in are.within k e (subst P is among));
}

pub name-below : (named : NamedOwners) (k : ℕ) (name : List ℕ) → IsTable named → slice_get (listed named) k ≡ Some name
    → k < length named.owners.items
name-below named k name table at = let inside = slice_get_within (listed named) k name at in let size = table.size in
    omega (arith, inside, size)
