-- What is asked to be left out, in the words of the definitions.
use Rattle.std.specs.Prelude.{map, Option, None, Some}
use Rattle.p21_difference_rows.specs.declared.left_out.AttributeName.{AttributeName}
use Rattle.p21_difference_rows.specs.declared.left_out.GivenTolerance.{GivenTolerance}
use Rattle.p21_difference_rows.specs.declared.left_out.LeftOut.{LeftOut}
use Rattle.p21_spec_differences.specs.LeftOut as pure
use Rattle.p21_spec_exchange.specs.Number.{Ratio}
use Rattle.p21_tolerance.specs.Within.{tolerance_of}

abbrev pub attribute_name_of : AttributeName → pure.AttributeName
attribute_name_of name = record { entity = name.entity.now; attribute = name.attribute.now }

abbrev pub ratio_given : Option GivenTolerance → Option Ratio
ratio_given None = None
ratio_given (Some given) = Some (tolerance_of given.tolerance)

abbrev pub left_out_of : LeftOut → pure.LeftOut
left_out_of left = record { header = left.header; attributes = map attribute_name_of left.attributes.now; tolerance = ratio_given left.tolerance }
