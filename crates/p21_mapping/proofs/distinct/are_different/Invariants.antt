use Rattle.std.proofs.Common.{◌≡◌, take}
use Rattle.p21_mapping_values.specs.View.{views}
use Rattle.p21_mapping_values.specs.SplitTexts.{joined, lengths_of}
use Rattle.p21_mapping.specs.PresentTexts.{present_texts}
use Rattle.p21_mapping.proofs.distinct.are_different.Given as goal

abbrev pub invariant-loop-value : goal.invariant-loop-value
invariant-loop-value l = (l.bytes.items ≡ joined (present_texts l.schema (views (take l.value-index l.values))))
    × (l.lengths.items ≡ lengths_of (present_texts l.schema (views (take l.value-index l.values))))
