-- Fronts that entities share.
use Rattle.std.specs.Prelude.{◌≡◌, ◌⊎◌, ℕ, ◌<◌, List, [], Some, None, length, Contains, refl}
use Rattle.std.specs.List.Sorted.{IsStrictlyIncreasing}
use Rattle.std.proofs.Common.{arith, ap, sym, subst, inl, inr, get_or}
use Rattle.std.proofs.lemmas.Option.{slice_get_read}
use Rattle.p21_spec_schema.specs.Order.{order}
use Rattle.p21_spec_schema.specs.Schema.{Schema}
use Rattle.p21_spec_schema.specs.Supertype.{above, itself, supertypes_of}
use Rattle.p21_express_graph.specs.Above.{AreAbove, HasAbove}
use Rattle.p21_express_graph.specs.Orders.{AreOrders, number_lists, numbers}
use Rattle.p21_express_graph.specs.Prefixes.{IsRunPrefix, list_of, lists_in}
use Rattle.p21_express_graph.specs.Resolved.{HoldsTogether, IsEntity}
use Rattle.p21_express_graph.specs.SettledOrder.{nexts_of}
use Rattle.p21_express_graph.specs.declared.above.Above.{Above}
use Rattle.p21_express_graph.specs.declared.prefixes.RunPrefix.{RunPrefix}
use Rattle.p21_express_graph.specs.declared.prefixes.PrefixLists.{PrefixLists}
use Rattle.p21_express_graph.proofs.Gatherings.{mapped-length}
use Rattle.p21_express_graph.proofs.OrderTables.{are-entities, order-tells}
use Rattle.p21_express_graph.proofs.Resolving.{own-entities}

-- what each entity has in the tables
pub entity-listed : (s : Schema) (all : PrefixLists) (listed : List Above) (e : ℕ) → AreOrders s (lists_in all) → AreAbove all listed → IsEntity s e → (e < length all.prefixes.items) × (e < length listed)
entity-listed s all listed e are listed_are is =
    let many = mapped-length (list_of (number_lists all.runs.items)) all.prefixes.items in
    (omega (arith, is, are.size, many), omega (arith, is, are.size, many, listed_are.size))

-- the run of the front of an entity is there
pub listed-run : (s : Schema) (all : PrefixLists) (listed : List Above) (e : ℕ) (x : Above) → AreOrders s (lists_in all) → AreAbove all listed → IsEntity s e → x ≡ get_or listed e x → x.front.run < length all.runs.items
listed-run s all listed e x are listed_are is x_is =
    let at = slice_get_read listed (length listed) e x refl (entity-listed s all listed e are listed_are is).1 x_is in
    omega (arith, (listed_are.each e x at).within.0, mapped-length (λ v. numbers v.items) all.runs.items)

module _ (s : Schema) (holds : HoldsTogether s) (all : PrefixLists) (are : AreOrders s (lists_in all)) (e : ℕ) (is_entity : IsEntity s e) where
  order-is : (x : ℕ) → IsEntity s x → nexts_of (lists_in all) x ≡ order s x
  order-is x is_x = ap (λ o. elim o [ Some nexts ↦ nexts | None ↦ [] ]) (are.each x is_x)

  pub order-entities : (f : ℕ) → Contains (nexts_of (lists_in all) e) f → f < length s.entities
  order-entities = own-entities s holds e is_entity (nexts_of (lists_in all) e) (order-is e is_entity)

  -- what is above a supertype is above the entity
  pub front-above : (f : ℕ) (front : RunPrefix) (others : List ℕ) → Contains (supertypes_of s e) f → HasAbove all f front others → (g : ℕ) → Contains (list_of (number_lists all.runs.items) front) g → Contains (nexts_of (lists_in all) e) g
  front-above f front others up has g among =
      let P : List ℕ → Type 0 = λ xs. Contains xs g in
      subst P (sym (order-is e is_entity)) ((order-tells s holds e g).1 (above e f g up ((order-tells s holds f g).0 (subst P (order-is f (are-entities s holds e f up)) ((has.same g).1 (inl among))))))

  -- a front with supertypes alone, and the others of the order
  pub shared-front : (front : RunPrefix) (others : List ℕ) → IsRunPrefix (number_lists all.runs.items) front → IsStrictlyIncreasing others
      → ((g : ℕ) → Contains (list_of (number_lists all.runs.items) front) g → Contains (nexts_of (lists_in all) e) g)
      → ((g : ℕ) → Contains others g → Contains (nexts_of (lists_in all) e) g)
      → ((g : ℕ) → Contains (nexts_of (lists_in all) e) g → Contains (list_of (number_lists all.runs.items) front) g ⊎ (Contains others g ⊎ (g ≡ e))) → HasAbove all e front others
  shared-front front others within rising front_in others_in rest = record {
    within = within;
    rising = rising;
    same = λ g.
        let P : ℕ → Type 0 = λ x. Contains (nexts_of (lists_in all) e) x in
        let Q : List ℕ → Type 0 = λ xs. Contains xs e in (
          rest g,
          λ either. elim either [
            | inl h ↦ front_in g h
            | inr other ↦ elim other [ inl h ↦ others_in g h | inr same ↦ subst P (sym same) (subst Q (sym (order-is e is_entity)) ((order-tells s holds e e).1 (itself e))) ]
          ],
        );
  }
