use Rattle.std.specs.Prelude.{◌≡◌, ℕ, List, map}
use Rattle.std.proofs.Common.{ap, sym, ◌∙◌, subst}
use Rattle.p21_express_graph.specs.Offered.{members_of, type_numbers}
use Rattle.p21_express_graph.specs.SchemaContents.{schema_of}
use Rattle.p21_express_graph.specs.SettledOrder.{AreWithin, lists_of}
use Rattle.p21_express_graph.proofs.Offering.{listed-types, select_types}
use Rattle.p21_express_graph.specs.Meaning.{kind}
use Rattle.p21_express_outline.proofs.Choosing.{members-within, selects-checked}
use Rattle.p21_express_outline.proofs.choices.check_selects.Goals as goal

pub check_ends-requires-clause-within : goal.check_ends-requires-clause-within
check_ends-requires-clause-within c =
    let same : lists_of c.deref-2.result.now ≡ select_types (schema_of c.args.parts.now) =
    ap lists_of c.deref-2.ensures.value ∙ c.in_ok-lists.ensures
    ∙ ap (λ xs. map (λ x. type_numbers (members_of (kind x.kind))) xs) c.deref.ensures.value
    ∙ sym (listed-types (λ k. type_numbers (members_of k)) c.args.parts.now.types.items) in
    let P : List (List ℕ) → Type 0 = λ lists. AreWithin lists in
    subst P (sym same) (members-within (schema_of c.args.parts.now) c.requires.within)

pub returns : goal.returns
returns c =
    let same : lists_of c.deref-2.result.now ≡ select_types (schema_of c.args.parts.now) =
    ap lists_of c.deref-2.ensures.value ∙ c.in_ok-lists.ensures
    ∙ ap (λ xs. map (λ x. type_numbers (members_of (kind x.kind))) xs) c.deref.ensures.value
    ∙ sym (listed-types (λ k. type_numbers (members_of k)) c.args.parts.now.types.items) in
    selects-checked (schema_of c.args.parts.now) (lists_of c.deref-2.result.now) c.check_ends.result same c.check_ends.ensures
