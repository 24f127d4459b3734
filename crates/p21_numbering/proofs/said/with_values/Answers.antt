use Rattle.std.specs.Prelude.{◌≡◌, ◌++◌, ◌∷◌, [], ℕ, List, map, suc, take}
use Rattle.std.proofs.Common.{arith, ap, sym, ◌∙◌}
use Rattle.std.proofs.lemmas.List.{take_all}
use Rattle.p21_mapping_values.proofs.Elements.{known_at}
use Rattle.p21_mapping_values.specs.declared.value.Value.{Value}
use Rattle.p21_numbering.specs.NewNames.{new_name}
use Rattle.p21_numbering.specs.NodesOf.{row_of_texts}
use Rattle.p21_numbering.proofs.RenamedTexts.{new_text, texts-are, values-next}
use Rattle.p21_numbering.proofs.Walks.{map-more}
use Rattle.p21_numbering.proofs.said.with_values.Goals as goal

pub write_renamed-requires : goal.write_renamed-requires
write_renamed-requires c = known_at _ _ _ _ c.value-item.is c.loop-value-test.true c.requires

pub loop-value-preserved : goal.loop-value-preserved
loop-value-preserved c =
    let text : Value → List ℕ = new_text c.args.schema.now (new_name c.args.names.now) in
    let x : Value = c.value-item.result in
    let written : c.deref.result.now ≡ text x = c.deref.ensures.value ∙ c.in_ok-write_renamed.ensures
    ∙ ap (λ (xs : List ℕ). xs ++ text x) c.new-text.ensures.items in
    values-next c.args.row.items c.loop-value.more.items c.in_ok-more.more.items
    (map text (take c.loop-value.value-index c.args.values.now)) (text x ∷ []) c.loop-value.invariant
    (c.in_ok-more.ensures ∙ ap (λ (xs : List ℕ). c.loop-value.more.items ++ (map suc xs ++ (0 ∷ []))) written)
    ∙ ap (λ (ts : List (List ℕ)). c.args.row.items ++ row_of_texts ts)
    (sym (map-more text c.args.values.now c.loop-value.value-index x c.value-item.is c.loop-value-test.true))

pub returns : goal.returns
returns c =
    c.loop-value.invariant
    ∙ ap (λ (ts : List (List ℕ)). c.args.row.items ++ row_of_texts ts)
    (ap (map (new_text c.args.schema.now (new_name c.args.names.now)))
    (take_all c.loop-value.value-index c.args.values.now (omega (arith, c.loop-value-test.false)))
    ∙ texts-are c.args.schema.now (new_name c.args.names.now) c.args.values.now)
