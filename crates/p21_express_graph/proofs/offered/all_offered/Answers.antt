use Rattle.std.specs.Prelude.{◌≡◌, List, ℕ, map}
use Rattle.std.proofs.Common.{ap, sym, ◌∙◌, subst}
use Rattle.p21_spec_schema.specs.Schema.{entity_member, type_member}
use Rattle.p21_spec_schema.specs.Declared.{HasNoCircle}
use Rattle.p21_express_graph.specs.Meaning.{kind}
use Rattle.p21_express_graph.specs.CollectedLists.{AreCollected}
use Rattle.p21_express_graph.specs.Offered.{members_of, type_numbers, entity_numbers, plain_numbers}
use Rattle.p21_express_graph.specs.SchemaContents.{schema_of}
use Rattle.p21_express_graph.specs.SettledOrder.{lists_of, AreWithin, IsNext}
use Rattle.p21_express_graph.proofs.offered.all_offered.Goals as goal
use Rattle.p21_express_graph.proofs.Offering.{listed, listed-types, select_types, selects-within, selects-end, same-length, own-entities, own-types, are-offered}

pub collected_lists-requires-clause-within : goal.collected_lists-requires-clause-within
collected_lists-requires-clause-within c =
    let s = schema_of c.args.parts.now in
    let nexts : lists_of c.deref-4.result.now ≡ select_types s = ap lists_of c.deref-4.ensures.value ∙ c.in_ok-nexts.ensures ∙ ap (map (λ x. type_numbers (members_of (kind x.kind)))) c.deref.ensures.value ∙ sym (listed-types (λ k. type_numbers (members_of k)) c.args.parts.now.types.items) in
    subst AreWithin (sym nexts) (selects-within s c.requires)

pub collected_lists-requires-clause-ends : goal.collected_lists-requires-clause-ends
collected_lists-requires-clause-ends c =
    let s = schema_of c.args.parts.now in
    let nexts : lists_of c.deref-4.result.now ≡ select_types s = ap lists_of c.deref-4.ensures.value ∙ c.in_ok-nexts.ensures ∙ ap (map (λ x. type_numbers (members_of (kind x.kind)))) c.deref.ensures.value ∙ sym (listed-types (λ k. type_numbers (members_of k)) c.args.parts.now.types.items) in
    let P : List (List ℕ) → Type 0 = λ ls. HasNoCircle (IsNext ls) in
    subst P (sym nexts) (selects-end s c.requires)

pub collected_lists-requires-2-clause-same : goal.collected_lists-requires-2-clause-same
collected_lists-requires-2-clause-same c =
    let s = schema_of c.args.parts.now in
    same-length (λ v. v.items) (λ x. plain_numbers s (members_of (kind x.kind))) c.deref-5.result.now c.args.parts.now.types.items (ap lists_of c.deref-5.ensures.value ∙ c.in_ok-types.ensures)
    ∙ sym (same-length (λ v. v.items) (λ x. type_numbers (members_of (kind x.kind))) c.deref-6.result.now c.args.parts.now.types.items (ap lists_of c.deref-6.ensures.value ∙ c.in_ok-nexts.ensures ∙ ap (map (λ x. type_numbers (members_of (kind x.kind)))) c.deref.ensures.value))

pub collected_lists-requires-2-clause-within : goal.collected_lists-requires-2-clause-within
collected_lists-requires-2-clause-within c =
    let s = schema_of c.args.parts.now in
    let nexts : lists_of c.deref-6.result.now ≡ select_types s = ap lists_of c.deref-6.ensures.value ∙ c.in_ok-nexts.ensures ∙ ap (map (λ x. type_numbers (members_of (kind x.kind)))) c.deref.ensures.value ∙ sym (listed-types (λ k. type_numbers (members_of k)) c.args.parts.now.types.items) in
    subst AreWithin (sym nexts) (selects-within s c.requires)

pub collected_lists-requires-2-clause-ends : goal.collected_lists-requires-2-clause-ends
collected_lists-requires-2-clause-ends c =
    let s = schema_of c.args.parts.now in
    let nexts : lists_of c.deref-6.result.now ≡ select_types s = ap lists_of c.deref-6.ensures.value ∙ c.in_ok-nexts.ensures ∙ ap (map (λ x. type_numbers (members_of (kind x.kind)))) c.deref.ensures.value ∙ sym (listed-types (λ k. type_numbers (members_of k)) c.args.parts.now.types.items) in
    let P : List (List ℕ) → Type 0 = λ ls. HasNoCircle (IsNext ls) in
    subst P (sym nexts) (selects-end s c.requires)

pub returns-clause-entities : goal.returns-clause-entities
returns-clause-entities c =
    let s = schema_of c.args.parts.now in
    let nexts : lists_of c.deref-4.result.now ≡ select_types s = ap lists_of c.deref-4.ensures.value ∙ c.in_ok-nexts.ensures ∙ ap (map (λ x. type_numbers (members_of (kind x.kind)))) c.deref.ensures.value ∙ sym (listed-types (λ k. type_numbers (members_of k)) c.args.parts.now.types.items) in
    let own : lists_of c.deref-3.result.now ≡ listed (λ k. entity_numbers (members_of k)) s.types = ap lists_of c.deref-3.ensures.value ∙ c.in_ok-entities.ensures ∙ ap (map (λ x. entity_numbers (members_of (kind x.kind)))) c.deref-2.ensures.value ∙ sym (listed-types (λ k. entity_numbers (members_of k)) c.args.parts.now.types.items) in
    let lists = lists_of c.in_ok-collected_lists.field-0.items in
    let P : List (List ℕ) → Type 0 = λ ls. AreCollected ls (lists_of c.deref-4.result.now) lists in
    let Q : List (List ℕ) → Type 0 = λ ls. AreCollected (listed (λ k. entity_numbers (members_of k)) s.types) ls lists in
    are-offered s entity_member (listed (λ k. entity_numbers (members_of k)) s.types) (own-entities s) lists (subst Q nexts (subst P own c.in_ok-collected_lists.ensures))

pub returns-clause-types : goal.returns-clause-types
returns-clause-types c =
    let s = schema_of c.args.parts.now in
    let nexts : lists_of c.deref-6.result.now ≡ select_types s = ap lists_of c.deref-6.ensures.value ∙ c.in_ok-nexts.ensures ∙ ap (map (λ x. type_numbers (members_of (kind x.kind)))) c.deref.ensures.value ∙ sym (listed-types (λ k. type_numbers (members_of k)) c.args.parts.now.types.items) in
    let own : lists_of c.deref-5.result.now ≡ listed (λ k. plain_numbers s (members_of k)) s.types = ap lists_of c.deref-5.ensures.value ∙ c.in_ok-types.ensures ∙ sym (listed-types (λ k. plain_numbers s (members_of k)) c.args.parts.now.types.items) in
    let lists = lists_of c.in_ok-collected_lists-2.field-0.items in
    let P : List (List ℕ) → Type 0 = λ ls. AreCollected ls (lists_of c.deref-6.result.now) lists in
    let Q : List (List ℕ) → Type 0 = λ ls. AreCollected (listed (λ k. plain_numbers s (members_of k)) s.types) ls lists in
    are-offered s type_member (listed (λ k. plain_numbers s (members_of k)) s.types) (own-types s) lists (subst Q nexts (subst P own c.in_ok-collected_lists-2.ensures))
