use Rattle.std.specs.List.{flat_map, AllByRecursion as Each}
use Rattle.std.specs.Prelude.{◌≡◌, ◌+◌, ◌++◌, ◌∷◌, [], ℕ, List, length, map, suc, take}
use Rattle.std.proofs.Common.{arith, rules, ap, sym, subst, ◌∙◌, append_assoc}
use Rattle.std.proofs.lemmas.List.{append-nil, take_all, take_more}
use Rattle.p21_spec_file.specs.Value.{Values}
use Rattle.p21_spec_file.specs.ValueText.{value_texts}
use Rattle.p21_spec_numbering.specs.Renamed.{renamed_values}
use Rattle.p21_express_graph.specs.declared.number.EntityId.{EntityId}
use Rattle.p21_mapping_values.specs.declared.value.Value.{Value}
use Rattle.p21_mapping_values.specs.declared.value.Values.{Values as Row}
use Rattle.p21_mapping_values.specs.KnownTypes.{HaveKnownTypes}
use Rattle.p21_mapping_values.specs.TypedView.{ids_view, rows_view}
use Rattle.p21_mapping_values.specs.View.{list_of, views}
use Rattle.p21_numbering.specs.NewNames.{new_name}
use Rattle.p21_numbering.specs.NodesOf.{row_of_texts}
use Rattle.p21_numbering.specs.Rows.{lent_rows}
use Rattle.p21_numbering.proofs.LabelRows.{each-at, rows-joined}
use Rattle.p21_numbering.proofs.RenamedTexts.{row_texts, rows_texts-are, values-next}
use Rattle.p21_numbering.proofs.Walks.{flat_map-last}
use Rattle.p21_numbering.proofs.said.said.Goals as goal

abbrev row_view : Row → Values
row_view row = views (list_of row)

pub loop-values-init : goal.loop-values-init
loop-values-init c =
    let ids : c.items.result.now ≡ c.args.typed.now.parts = search rules in
    c.in_ok-row.ensures ∙ ap (λ (es : List EntityId). map suc (ids_view es) ++ (0 ∷ [])) ids
    ∙ sym (append-nil (map suc (ids_view c.args.typed.now.parts) ++ (0 ∷ [])))

pub with_values-requires : goal.with_values-requires
with_values-requires c =
    let s = c.args.schema.now in
    let rows : c.items-values-items.result.now ≡ c.args.typed.now.values = search rules in
    let E : List Row → Type 0 = λ rs. Each (HaveKnownTypes s) (rows_view rs) in
    let Q : List Value → Type 0 = λ vs. HaveKnownTypes s (views vs) in
    subst Q (sym c.items-in-loop-values.ensures) (each-at (HaveKnownTypes s) row_view c.items-values-items.result.now
    c.loop-values.values-index c.values-item.result c.values-item.is c.loop-values-test.true (subst E (sym rows) c.requires.known))

pub loop-values-preserved : goal.loop-values-preserved
loop-values-preserved c =
    let s = c.args.schema.now in
    let f : ℕ → ℕ = new_name c.args.names.now in
    let rows : c.items-values-items.result.now ≡ c.args.typed.now.values = search rules in
    let front : List ℕ = map suc (ids_view c.args.typed.now.parts) ++ (0 ∷ []) in
    let i : ℕ = c.loop-values.values-index in
    let row : Row = c.values-item.result in
    let all : List Row = c.items-values-items.result.now in
    let more : flat_map (row_texts s f) (take (i + 1) all) ≡ flat_map (row_texts s f) (take i all) ++ row_texts s f row =
    ap (flat_map (row_texts s f)) (take_more all i row c.loop-values-test.true
    ∙ ap (λ (r : Row). take i all ++ r ∷ []) (sym c.values-item.is)) ∙ flat_map-last (row_texts s f) (take i all) row in
    let P : List Row → Type 0 = λ rs. c.in_ok-row-2.row.items ≡ front ++ row_of_texts (flat_map (row_texts s f) (take (i + 1) rs)) in
    let Q : List Row → Type 0 = λ rs. c.loop-values.row.items ≡ front ++ row_of_texts (flat_map (row_texts s f) (take i rs)) in
    subst P rows (values-next front c.loop-values.row.items c.in_ok-row-2.row.items (flat_map (row_texts s f) (take i all))
    (row_texts s f row) (subst Q (sym rows) c.loop-values.invariant)
    (c.in_ok-row-2.ensures ∙ ap (λ (vs : List Value). c.loop-values.row.items ++ row_of_texts (value_texts s (renamed_values f (views vs))))
    c.items-in-loop-values.ensures)
    ∙ ap (λ (ts : List (List ℕ)). front ++ row_of_texts ts) (sym more))

pub returns : goal.returns
returns c =
    let s = c.args.schema.now in
    let f : ℕ → ℕ = new_name c.args.names.now in
    let rows : c.items-values-items.result.now ≡ c.args.typed.now.values = search rules in
    let front : List ℕ = map suc (ids_view c.args.typed.now.parts) ++ (0 ∷ []) in
    let texts : List (List ℕ) = flat_map (value_texts s) (map (renamed_values f) (rows_view c.args.typed.now.values)) in
    let heading : List (List ℕ) = lent_rows c.args.heading.now in
    let whole_ : take c.loop-values.values-index c.args.typed.now.values ≡ c.args.typed.now.values =
    take_all c.loop-values.values-index c.args.typed.now.values
    (omega (arith, c.loop-values-test.false, ap (λ (rs : List Row). length rs) rows)) in
    c.in_ok-with_texts.ensures
    ∙ ap (λ (xs : List ℕ). xs ++ row_of_texts heading)
    (c.loop-values.invariant ∙ ap (λ (ts : List (List ℕ)). front ++ row_of_texts ts)
    (ap (flat_map (row_texts s f)) whole_ ∙ rows_texts-are s f c.args.typed.now.values))
    ∙ append_assoc front (row_of_texts texts) (row_of_texts heading)
    ∙ ap (λ (xs : List ℕ). front ++ xs) (sym (rows-joined texts heading))
    ∙ append_assoc (map suc (ids_view c.args.typed.now.parts)) (0 ∷ []) (row_of_texts (texts ++ heading))
