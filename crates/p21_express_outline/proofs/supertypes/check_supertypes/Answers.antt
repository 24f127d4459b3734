use Rattle.std.specs.Prelude.{◌≡◌, ℕ, List, map}
use Rattle.std.proofs.Common.{ap, sym, ◌∙◌, subst}
use Rattle.p21_express_graph.specs.Orders.{numbers, supertype_lists}
use Rattle.p21_express_graph.specs.SchemaContents.{schema_of}
use Rattle.p21_express_graph.specs.SettledOrder.{AreWithin, lists_of}
use Rattle.p21_express_graph.proofs.OrderTables.{lists-are}
use Rattle.p21_express_outline.proofs.Settling.{supertypes-within, supertypes-checked}
use Rattle.p21_express_outline.proofs.supertypes.check_supertypes.Goals as goal

pub check_ends-requires-clause-within : goal.check_ends-requires-clause-within
check_ends-requires-clause-within c =
    let same : lists_of c.deref-2.result.now ≡ supertype_lists (schema_of c.args.parts.now) =
    ap lists_of c.deref-2.ensures.value ∙ c.in_ok-lists.ensures ∙ ap (λ xs. map (λ x. numbers x.supertypes.items) xs) c.deref.ensures.value
    ∙ sym (lists-are c.args.parts.now.entities.items) in
    let P : List (List ℕ) → Type 0 = λ lists. AreWithin lists in
    subst P (sym same) (supertypes-within (schema_of c.args.parts.now) c.requires.within)

pub returns : goal.returns
returns c =
    let same : lists_of c.deref-2.result.now ≡ supertype_lists (schema_of c.args.parts.now) =
    ap lists_of c.deref-2.ensures.value ∙ c.in_ok-lists.ensures ∙ ap (λ xs. map (λ x. numbers x.supertypes.items) xs) c.deref.ensures.value
    ∙ sym (lists-are c.args.parts.now.entities.items) in
    supertypes-checked (schema_of c.args.parts.now) (lists_of c.deref-2.result.now) c.check_ends.result same c.check_ends.ensures
