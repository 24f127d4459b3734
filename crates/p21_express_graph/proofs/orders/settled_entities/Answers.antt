use Rattle.std.specs.Prelude.{◌≡◌, ℕ, List, Option, Vec, MatchOption, map}
use Rattle.std.specs.declared.alloc.Global.{Global}
use Rattle.std.proofs.Common.{ap, sym, ◌∙◌, subst}
use Rattle.p21_spec_schema.specs.Declared.{HasNoCircle}
use Rattle.p21_express_graph.specs.Orders.{numbers, supertype_lists}
use Rattle.p21_express_graph.specs.SchemaContents.{schema_of}
use Rattle.p21_express_graph.specs.SettledOrder.{lists_of, IsNext, IsSettledOrder, AreWithin}
use Rattle.p21_express_graph.proofs.orders.settled_entities.Goals as goal
use Rattle.p21_express_graph.proofs.OrderTables.{lists-are, lists-within, no-circle}

pub settled_order-requires-clause-within : goal.settled_order-requires-clause-within
settled_order-requires-clause-within c =
    let same : lists_of c.deref-2.result.now ≡ supertype_lists (schema_of c.args.parts.now) =
    ap lists_of c.deref-2.ensures.value ∙ c.in_ok-lists.ensures ∙ ap (λ xs. map (λ x. numbers x.supertypes.items) xs) c.deref.ensures.value ∙ sym (lists-are c.args.parts.now.entities.items) in
    let P : List (List ℕ) → Type 0 = λ lists. AreWithin lists in
    subst P (sym same) (lists-within (schema_of c.args.parts.now) c.requires)

pub returns : goal.returns
returns c =
    let same : lists_of c.deref-2.result.now ≡ supertype_lists (schema_of c.args.parts.now) =
    ap lists_of c.deref-2.ensures.value ∙ c.in_ok-lists.ensures ∙ ap (λ xs. map (λ x. numbers x.supertypes.items) xs) c.deref.ensures.value ∙ sym (lists-are c.args.parts.now.entities.items) in
    let Q : Option (Vec ℕ Global) → Type 0 = λ o. MatchOption o (HasNoCircle (IsNext (lists_of c.deref-2.result.now)) → ⊥) (λ listed. IsSettledOrder (lists_of c.deref-2.result.now) listed.items) in
    let P : List (List ℕ) → Type 0 = λ lists. IsSettledOrder lists c.in-Some.listed.items in
    subst P same (subst Q c.in-Some.is c.in_ok-listed.ensures)

pub unreachable-requires : goal.unreachable-requires
unreachable-requires c =
    let same : lists_of c.deref-2.result.now ≡ supertype_lists (schema_of c.args.parts.now) =
    ap lists_of c.deref-2.ensures.value ∙ c.in_ok-lists.ensures ∙ ap (λ xs. map (λ x. numbers x.supertypes.items) xs) c.deref.ensures.value ∙ sym (lists-are c.args.parts.now.entities.items) in
    let Q : Option (Vec ℕ Global) → Type 0 = λ o. MatchOption o (HasNoCircle (IsNext (lists_of c.deref-2.result.now)) → ⊥) (λ listed. IsSettledOrder (lists_of c.deref-2.result.now) listed.items) in
    let P : List (List ℕ) → Type 0 = λ lists. HasNoCircle (IsNext lists) in
    let none : HasNoCircle (IsNext (lists_of c.deref-2.result.now)) → ⊥ = subst Q c.in-None.is c.in_ok-listed.ensures in
    none (subst P (sym same) (no-circle (schema_of c.args.parts.now) c.requires.supertypes_end))
