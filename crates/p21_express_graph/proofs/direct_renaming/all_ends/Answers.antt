use Rattle.std.specs.Prelude.{◌≡◌, ℕ, List, Option, Vec, MatchOption, map}
use Rattle.std.specs.declared.alloc.Global.{Global}
use Rattle.std.proofs.Common.{ap, sym, ◌∙◌, subst}
use Rattle.p21_spec_schema.specs.Declared.{HasNoCircle}
use Rattle.p21_express_graph.specs.Meaning.{kind}
use Rattle.p21_express_graph.specs.SchemaContents.{schema_of}
use Rattle.p21_express_graph.specs.DirectRenaming.{direct_renaming}
use Rattle.p21_express_graph.specs.SettledOrder.{lists_of, IsNext, IsSettledOrder, AreWithin}
use Rattle.p21_express_graph.proofs.direct_renaming.all_ends.Goals as goal
use Rattle.p21_express_graph.proofs.Ends.{renamed_types, renamed-end, renamed-within}
use Rattle.p21_express_graph.proofs.Offering.{listed-types}

pub settled_order-requires-clause-within : goal.settled_order-requires-clause-within
settled_order-requires-clause-within c =
    let same : lists_of c.deref-2.result.now ≡ renamed_types (schema_of c.args.parts.now) =
    ap lists_of c.deref-2.ensures.value ∙ c.in_ok-lists.ensures ∙ ap (map (λ x. direct_renaming (kind x.kind))) c.deref.ensures.value ∙ sym (listed-types direct_renaming c.args.parts.now.types.items) in
    subst AreWithin (sym same) (renamed-within (schema_of c.args.parts.now) c.requires)

pub ends-requires-clause-settled_order : goal.ends-requires-clause-settled_order
ends-requires-clause-settled_order c =
    let same : lists_of c.deref-2.result.now ≡ renamed_types (schema_of c.args.parts.now) =
    ap lists_of c.deref-2.ensures.value ∙ c.in_ok-lists.ensures ∙ ap (map (λ x. direct_renaming (kind x.kind))) c.deref.ensures.value ∙ sym (listed-types direct_renaming c.args.parts.now.types.items) in
    let Q : Option (Vec ℕ Global) → Type 0 = λ o. MatchOption o (HasNoCircle (IsNext (lists_of c.deref-2.result.now)) → ⊥) (λ listed. IsSettledOrder (lists_of c.deref-2.result.now) listed.items) in
    let settled_order : IsSettledOrder (lists_of c.deref-2.result.now) c.in-Some.listed.items = subst Q c.in-Some.is c.in_ok-listed.ensures in
    let P : List (List ℕ) → Type 0 = λ lists. IsSettledOrder lists c.deref-in-Some.result.now in
    let R : List ℕ → Type 0 = λ xs. IsSettledOrder (lists_of c.deref-2.result.now) xs in
    subst P same (subst R (sym c.deref-in-Some.ensures.value) settled_order)

pub unreachable-requires : goal.unreachable-requires
unreachable-requires c =
    let same : lists_of c.deref-2.result.now ≡ renamed_types (schema_of c.args.parts.now) =
    ap lists_of c.deref-2.ensures.value ∙ c.in_ok-lists.ensures ∙ ap (map (λ x. direct_renaming (kind x.kind))) c.deref.ensures.value ∙ sym (listed-types direct_renaming c.args.parts.now.types.items) in
    let Q : Option (Vec ℕ Global) → Type 0 = λ o. MatchOption o (HasNoCircle (IsNext (lists_of c.deref-2.result.now)) → ⊥) (λ listed. IsSettledOrder (lists_of c.deref-2.result.now) listed.items) in
    let P : List (List ℕ) → Type 0 = λ lists. HasNoCircle (IsNext lists) in
    let none : HasNoCircle (IsNext (lists_of c.deref-2.result.now)) → ⊥ = subst Q c.in-None.is c.in_ok-listed.ensures in
    none (subst P (sym same) (renamed-end (schema_of c.args.parts.now) c.requires))
