use Rattle.std.specs.BTreeMap.{is_at}
use Rattle.std.specs.List.{AllByRecursion as Each}
use Rattle.std.specs.Map.{lookup}
use Rattle.std.specs.Ordering.{nat_cmp}
use Rattle.std.specs.Prelude.{◌≡◌, ◌<◌, ◌++◌, ℕ, List, Option, Some, None, length, Contains}
use Rattle.std.proofs.Common.{arith, rules, ap, sym, subst, ◌∙◌, get_or, append_assoc}
use Rattle.std.proofs.lemmas.List.{get_or-map, length-map}
use Rattle.std.proofs.lemmas.List.Elements.{Contains-get_or}
use Rattle.p21_spec_basics.proofs.Members.{Contains-mapped}
use Rattle.p21_spec_file.specs.Value.{Values}
use Rattle.p21_spec_file.specs.ValueText.{list_text, value_texts}
use Rattle.p21_spec_numbering.specs.Numbered.{entity_name, unnamed_text}
use Rattle.p21_spec_numbering.specs.Renamed.{renamed_values}
use Rattle.p21_express_graph.specs.declared.number.EntityId.{EntityId}
use Rattle.p21_mapping_values.specs.declared.value.Value.{Value}
use Rattle.p21_mapping_values.specs.declared.value.Values.{Values as Row}
use Rattle.p21_mapping_values.specs.KnownTypes.{HaveKnownTypes}
use Rattle.p21_mapping_values.specs.TypedView.{ids_view, rows_view}
use Rattle.p21_mapping_values.specs.View.{list_of, views}
use Rattle.p21_numbering.specs.NewNames.{new_name}
use Rattle.p21_numbering.proofs.LabelRows.{each-at, part, part-next, parts-ended, parts-short}
use Rattle.p21_numbering.proofs.Renamings.{renamed-agree}
use Rattle.p21_numbering.proofs.labels.unnamed_text.Goals as goal

abbrev none : EntityId
none = record { 0 = 0 }

abbrev row_view : Row → Values
row_view row = views (list_of row)

pub append_keyword-requires : goal.append_keyword-requires
append_keyword-requires c =
    let entities : c.items-entities.result.now ≡ c.args.typed.now.parts = search rules in
    let e : EntityId = get_or c.items-entities.result.now c.loop-i.i none in
    let P : List EntityId → Type 0 = λ es. Contains (ids_view es) e.0 in
    c.requires.entities_are e.0 (subst P entities (Contains-mapped (λ (id : EntityId). id.0) c.items-entities.result.now e
    (Contains-get_or c.items-entities.result.now c.loop-i.i none c.loop-i-test.true)))

pub write_list-requires : goal.write_list-requires
write_list-requires c =
    let s = c.args.schema.now in
    let rows : c.items-rows.result.now ≡ c.args.typed.now.values = search rules in
    let E : List Row → Type 0 = λ rs. Each (HaveKnownTypes s) (rows_view rs) in
    let Q : List Value → Type 0 = λ vs. HaveKnownTypes s (views vs) in
    subst Q (sym c.items.ensures)
    (each-at (HaveKnownTypes s) row_view c.items-rows.result.now c.loop-i.i c.index-rows-i.result c.index-rows-i.is
    (omega (arith, c.if-i-rows.false)) (subst E (sym rows) c.requires.known))

pub loop-i-preserved : goal.loop-i-preserved
loop-i-preserved c =
    let s = c.args.schema.now in
    let ids : List EntityId = c.items-entities.result.now in
    let rows : List Row = c.items-rows.result.now in
    let i : ℕ = c.loop-i.i in
    let e : ℕ = (get_or ids i none).0 in
    let vs : Values = row_view c.index-rows-i.result in
    let low_ : i < length rows = omega (arith, c.if-i-rows.false) in
    let low : i < length (ids_view ids) = omega (arith, c.loop-i-test.true, length-map ids (λ (id : EntityId). id.0)) in
    let row : vs ≡ get_or (rows_view rows) i vs = ap row_view c.index-rows-i.is
    ∙ sym (get_or-map row_view rows i c.index-rows-i.result vs low_) in
    let no_name : (n : ℕ) → new_name c.new-names.result n ≡ 0 =
    λ n. ap (λ (o : Option ℕ). elim o [ Some new ↦ new | None ↦ 0 ]) (ap (lookup (is_at (nat_cmp n))) c.new-names.ensures.empty) in
    let written : list_text (value_texts s (renamed_values (new_name c.new-names.result) (views c.items.result.now))) ≡ list_text
    (value_texts s (renamed_values (λ _. 0) vs)) =
    ap (λ (xs : List Value). list_text (value_texts s (renamed_values (new_name c.new-names.result) (views xs)))) c.items.ensures
    ∙ ap (λ (ws : Values). list_text (value_texts s ws)) (renamed-agree (new_name c.new-names.result) (λ _. 0) no_name vs) in
    c.in_ok-write_list.ensures
    ∙ ap (λ (xs : List ℕ). xs ++ list_text (value_texts s (renamed_values (new_name c.new-names.result) (views c.items.result.now))))
    c.in_ok-append_keyword.ensures
    ∙ append_assoc c.loop-i.text.items (entity_name s e)
    (list_text (value_texts s (renamed_values (new_name c.new-names.result) (views c.items.result.now))))
    ∙ ap (λ (xs : List ℕ). c.loop-i.text.items ++ (entity_name s e ++ xs)) written
    ∙ ap (λ (xs : List ℕ). xs ++ part s e vs) c.loop-i.invariant
    ∙ sym (part-next s i (ids_view ids) (rows_view rows) e vs low
    (sym (get_or-map (λ (id : EntityId). id.0) ids i none e c.loop-i-test.true)) (omega (arith, low_, length-map rows row_view)) row)

pub returns-then-i-rows : goal.returns-then-i-rows
returns-then-i-rows c =
    let s = c.args.schema.now in
    let entities : c.items-entities.result.now ≡ c.args.typed.now.parts = search rules in
    let rows : c.items-rows.result.now ≡ c.args.typed.now.values = search rules in
    c.loop-i.invariant
    ∙ parts-short s c.loop-i.i (ids_view c.items-entities.result.now) (rows_view c.items-rows.result.now)
    (omega (arith, c.if-i-rows.true, length-map c.items-rows.result.now row_view))
    ∙ ap (λ (es : List EntityId). unnamed_text s (ids_view es) (rows_view c.items-rows.result.now)) entities
    ∙ ap (λ (rs : List Row). unnamed_text s (ids_view c.args.typed.now.parts) (rows_view rs)) rows

pub returns : goal.returns
returns c =
    let s = c.args.schema.now in
    let entities : c.items-entities.result.now ≡ c.args.typed.now.parts = search rules in
    let rows : c.items-rows.result.now ≡ c.args.typed.now.values = search rules in
    c.loop-i.invariant
    ∙ parts-ended s c.loop-i.i (ids_view c.items-entities.result.now) (rows_view c.items-rows.result.now)
    (omega (arith, c.loop-i-test.false, length-map c.items-entities.result.now (λ (id : EntityId). id.0)))
    ∙ ap (λ (es : List EntityId). unnamed_text s (ids_view es) (rows_view c.items-rows.result.now)) entities
    ∙ ap (λ (rs : List Row). unnamed_text s (ids_view c.args.typed.now.parts) (rows_view rs)) rows
