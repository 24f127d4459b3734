-- What is prepared without regard to redeclarations stays right once the entities redeclare something.
use Rattle.std.specs.Prelude.{◌≡◌, ℕ, zero, suc, List, [], ◌∷◌, ◌++◌, Some, length, refl}
use Rattle.std.specs.List.{flat_map}
use Rattle.std.proofs.Common.{arith, ap, sym, ◌∙◌, subst}
use Rattle.p21_spec_schema.specs.Order.{order, order_within, first_occurrences}
use Rattle.p21_spec_schema.specs.Schema.{Schema, Entity}
use Rattle.p21_spec_schema.specs.Supertype.{supertypes_of}
use Rattle.p21_express_graph.specs.Orders.{AreOrders, supertype_lists}
use Rattle.p21_express_graph.specs.Redeclaring.{redeclaring_each, redeclaring_schema}
use Rattle.p21_express_graph.specs.SettledOrder.{nexts_of}
use Rattle.p21_express_graph.proofs.SameEntities.{each-same}
use Rattle.p21_express_graph.proofs.Gatherings.{mapped-length}
use Rattle.p21_express_graph.proofs.OrderTables.{supertypes-listed}
use Rattle.p21_schema.specs.EntityTables.{AreEntityTables}
use Rattle.p21_schema.specs.declared.hierarchy.EntityTables.{EntityTables}

-- ---- entities

each-count : (xs ys : List Entity) → length xs ≡ length ys → length (redeclaring_each xs ys) ≡ length xs
each-count xs ys long = sym (mapped-length (λ x. x.name) (redeclaring_each xs ys))
    ∙ ap length (each-same (λ x. x.name) (λ x y. refl) xs ys long) ∙ mapped-length (λ x. x.name) xs

-- ---- orders, by supertypes alone

flat_map-same : (g h : ℕ → List ℕ) (xs : List ℕ) → ((x : ℕ) → g x ≡ h x) → flat_map g xs ≡ flat_map h xs
flat_map-same g h [] same = refl
flat_map-same g h (x ∷ xs) same = ap (λ ys. ys ++ flat_map g xs) (same x) ∙ ap (λ ys. h x ++ ys) (flat_map-same g h xs same)

module _ (s t : Schema) (count : length t.entities ≡ length s.entities) (same : supertype_lists t ≡ supertype_lists s) where
  supertypes-same : (e : ℕ) → supertypes_of t e ≡ supertypes_of s e
  supertypes-same e = sym (supertypes-listed t e) ∙ ap (λ lists. nexts_of lists e) same ∙ supertypes-listed s e

  order_within-same : (n e : ℕ) → order_within t n e ≡ order_within s n e
  order_within-same zero e = refl
  order_within-same (suc n) e =
      ap (λ es. first_occurrences (flat_map (order_within t n) es ++ e ∷ [])) (supertypes-same e)
      ∙ ap (λ es. first_occurrences (es ++ e ∷ [])) (flat_map-same (order_within t n) (order_within s n) (supertypes_of s e)
      (order_within-same n))

  order-same : (e : ℕ) → order t e ≡ order s e
  order-same e = ap (λ n. order_within t n e) count ∙ order_within-same (length s.entities) e

  orders-same : {lists : List (List ℕ)} → AreOrders s lists → AreOrders t lists
  orders-same are = record {
    size = are.size ∙ sym count;
    each = λ e below. are.each e (omega (arith, below, count)) ∙ ap Some (sym (order-same e));
  }

-- ---- all tables of the entities

pub redeclaring-tables : (s t : Schema) (ys : List Entity) → length s.entities ≡ length ys → t ≡ redeclaring_schema s ys
    → (tables : EntityTables) → AreEntityTables s tables → AreEntityTables t tables
redeclaring-tables s t ys long same tables are =
    let whole : Schema = redeclaring_schema s ys in
    let count : length whole.entities ≡ length s.entities = each-count s.entities ys long in
    let supertypes : supertype_lists whole ≡ supertype_lists s = each-same (λ x. x.supertypes) (λ x y. refl) s.entities ys long in
    let P : Schema → Type 0 = λ z. AreEntityTables z tables in
    subst P (sym same) record {
      prefixes_are = are.prefixes_are;
      orders_are = orders-same s whole count supertypes are.orders_are;
      above_are = are.above_are;
      indexes_are = are.indexes_are;
      listed_are = record { each = are.listed_are.each; rising = are.listed_are.rising };
    }
