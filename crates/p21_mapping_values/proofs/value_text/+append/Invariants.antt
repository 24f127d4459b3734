use Rattle.std.proofs.Common.{◌≡◌, ◌++◌, ◌∷◌, [], ℕ, List, length, map, take}
use Rattle.p21_spec_file.specs.ValueText.{with_commas_between}
use Rattle.p21_mapping_values.specs.View.{views}
use Rattle.p21_mapping_values.specs.SplitTexts.{joined}
use Rattle.p21_mapping_values.proofs.Elements.{texts}
use Rattle.p21_mapping_values.specs.Spelled.{AreSpelled}
use Rattle.p21_mapping_values.proofs.value_text.+append.Given as goal

abbrev pub invariant-append_list-loop-i : goal.invariant-append_list-loop-i
invariant-append_list-loop-i l = record {
  text : l.out.items ≡ (l.fn.out.items ++ 40 ∷ []) ++ with_commas_between (texts l.schema (take l.i l.values));
  spelled : AreSpelled l.schema (views (take l.i l.values));
}

abbrev pub invariant-append_unordered-loop-value : goal.invariant-append_unordered-loop-value
invariant-append_unordered-loop-value l = record {
  joined : l.bytes.items ≡ joined (texts l.schema (take l.value-index l.values));
  lengths : l.lengths.items ≡ map (λ (t : List ℕ). length t) (texts l.schema (take l.value-index l.values));
  spelled : AreSpelled l.schema (views (take l.value-index l.values));
}
