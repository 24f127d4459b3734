use Rattle.std.specs.Prelude.{◌≡◌, ◌++◌, ◌∷◌, [], ℕ, List, length, map, take}
use Rattle.p21_spec_file.specs.ValueText.{with_commas_between}
use Rattle.p21_mapping_values.specs.SplitTexts.{joined}
use Rattle.p21_numbering.specs.NewNames.{new_name}
use Rattle.p21_numbering.proofs.RenamedTexts.{new_text}
use Rattle.p21_numbering.proofs.renamed_text.+write.Given as goal

abbrev pub invariant-write_list-loop-i : goal.invariant-write_list-loop-i
invariant-write_list-loop-i l = l.out.items ≡ (l.fn.out.items ++ 40 ∷ [])
    ++ with_commas_between (map (new_text l.schema (new_name l.names)) (take l.i l.values))

abbrev pub invariant-write_unordered-loop-value : goal.invariant-write_unordered-loop-value
invariant-write_unordered-loop-value l = record {
  joined : l.bytes.items ≡ joined (map (new_text l.schema (new_name l.names)) (take l.value-index l.values));
  lengths : l.lengths.items ≡ map (λ (t : List ℕ). length t) (map (new_text l.schema (new_name l.names)) (take l.value-index l.values));
}
