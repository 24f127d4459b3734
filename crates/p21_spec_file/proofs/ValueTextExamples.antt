-- Canonical texts of values, and texts put in order.
use Rattle.std.specs.Prelude.{◌≡◌, pos, [], ◌∷◌, codes, refl}
use Rattle.p21_spec_exchange.specs.Number.{Decimal}
use Rattle.p21_spec_file.specs.Sorting.{sort_texts}
use Rattle.p21_spec_file.specs.Value.{Value, whole, real, number, text, bits, item, reference, derived, missing, list, array, set, bag, typed, no_values, value}
use Rattle.p21_spec_file.specs.ValueText.{value_text}
use Rattle.p21_spec_schema.proofs.TestSchemas.{demo}

abbrev two : Value → Value → Value
two v w = list (value v (value w no_values))

abbrev one_half : Decimal
one_half = record { significand = pos 15; exponent = pos 0 }

-- texts rise byte by byte, one before what it begins, each as often as it is there
in_order : sort_texts (codes "#2" ∷ codes "#10" ∷ codes "#1" ∷ codes "#2" ∷ []) ≡ codes "#1" ∷ codes "#10" ∷ codes "#2" ∷ codes "#2" ∷ []
in_order = refl

-- those of a set and of a bag do, at any depth; those of a list and of an array don't
of_set : value_text demo (set (value (reference 2) (value (reference 10) no_values))) ≡ codes "(#10,#2)"
of_set = refl

of_bags : value_text demo (bag (value (bag (value (whole (pos 3)) (value (whole (pos 2)) no_values))) (value (bag no_values) (value (bag (value (whole (pos 3)) (value (whole (pos 2)) no_values))) no_values)))) ≡ codes "((),(2,3),(2,3))"
of_bags = refl

of_list : value_text demo (list (value (set (value (whole (pos 3)) (value (whole (pos 2)) no_values))) (value (whole (pos 1)) no_values))) ≡ codes "((2,3),1)"
of_list = refl

of_array : value_text demo (array (value (whole (pos 3)) (value missing (value (whole (pos 2)) no_values)))) ≡ codes "(3,$,2)"
of_array = refl

-- a typed value has its type's keyword, a number is written as a real
of_typed : value_text demo (two (typed 0 (real one_half)) (typed 1 (whole (pos 1)))) ≡ codes "(DISTANCE(1.5E1),TALLY(1))"
of_typed = refl

of_number : value_text demo (two (number one_half) (number (record { significand = pos 0; exponent = pos 0 }))) ≡ codes "(1.5E1,0.)"
of_number = refl

of_scalars : value_text demo (two (list (value (text (codes "it's")) (value (item (codes "RED")) no_values))) (list (value derived (value (bits []) no_values)))) ≡ codes "(('it''s',.RED.),(*,\"0\"))"
of_scalars = refl
