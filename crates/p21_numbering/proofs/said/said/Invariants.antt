use Rattle.std.specs.Prelude.{◌≡◌, ◌++◌, ◌∷◌, [], map, suc, take}
use Rattle.std.specs.List.{flat_map}
use Rattle.p21_mapping_values.specs.TypedView.{ids_view}
use Rattle.p21_numbering.specs.NewNames.{new_name}
use Rattle.p21_numbering.specs.NodesOf.{row_of_texts}
use Rattle.p21_numbering.proofs.RenamedTexts.{row_texts}
use Rattle.p21_numbering.proofs.said.said.Given as goal

abbrev pub invariant-loop-values : goal.invariant-loop-values
invariant-loop-values l = l.row.items ≡ (map suc (ids_view l.typed.parts) ++ (0 ∷ []))
    ++ row_of_texts (flat_map (row_texts l.schema (new_name l.names)) (take l.values-index l.typed.values))
