use Rattle.std.specs.Prelude.{◌≡◌, ℕ, List, map}
use Rattle.std.proofs.Common.{ap, sym, ◌∙◌, subst}
use Rattle.p21_express_graph.specs.SchemaContents.{schema_of}
use Rattle.p21_express_graph.specs.SettledOrder.{AreWithin, lists_of}
use Rattle.p21_express_graph.specs.Meaning.{kind}
use Rattle.p21_express_outline.proofs.Settling.{renamed-are, renamed-checked, renamed-within, renamed_lists}
use Rattle.p21_express_outline.proofs.direct_renaming.check_renaming.Goals as goal
use Rattle.p21_express_graph.specs.DirectRenaming.{direct_renaming}

pub check_ends-requires-clause-within : goal.check_ends-requires-clause-within
check_ends-requires-clause-within c =
    let same : lists_of c.deref-2.result.now ≡ renamed_lists (schema_of c.args.parts.now) =
    ap lists_of c.deref-2.ensures.value ∙ c.in_ok-lists.ensures
    ∙ ap (λ xs. map (λ x. direct_renaming (kind x.kind)) xs) c.deref.ensures.value ∙ sym (renamed-are c.args.parts.now.types.items) in
    let P : List (List ℕ) → Type 0 = λ lists. AreWithin lists in
    subst P (sym same) (renamed-within (schema_of c.args.parts.now) c.requires.within)

pub returns : goal.returns
returns c =
    let same : lists_of c.deref-2.result.now ≡ renamed_lists (schema_of c.args.parts.now) =
    ap lists_of c.deref-2.ensures.value ∙ c.in_ok-lists.ensures
    ∙ ap (λ xs. map (λ x. direct_renaming (kind x.kind)) xs) c.deref.ensures.value ∙ sym (renamed-are c.args.parts.now.types.items) in
    renamed-checked (schema_of c.args.parts.now) (lists_of c.deref-2.result.now) c.check_ends.result same c.check_ends.ensures
