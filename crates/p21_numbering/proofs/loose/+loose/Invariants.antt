use Rattle.std.specs.Prelude.{◌≡◌, None, take}
use Rattle.p21_mapping_values.specs.declared.value.Value.{Value}
use Rattle.p21_mapping_values.specs.View.{view}
use Rattle.p21_numbering.specs.Standing.{loose_element, loose_value, standing_of}
use Rattle.p21_numbering.proofs.FirstFound.{first_in}
use Rattle.p21_numbering.proofs.loose.+loose.Given as goal

abbrev pub invariant-loose_in-loop-value : goal.invariant-loose_in-loop-value
invariant-loose_in-loop-value l = first_in (λ (v : Value). loose_value (standing_of l.standings) (view v))
    (take l.value-index l.values) ≡ None

abbrev pub invariant-loose_in_set-loop-value : goal.invariant-loose_in_set-loop-value
invariant-loose_in_set-loop-value l = first_in (λ (v : Value). loose_element (standing_of l.standings) l.names.items (view v))
    (take l.value-index l.values) ≡ None
