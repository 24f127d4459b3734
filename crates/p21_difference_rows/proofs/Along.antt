-- Values that differ, and values that are near, in meanings that are the same as others.
use Rattle.std.specs.Prelude.{Option}
use Rattle.p21_spec_differences.proofs.NearValues.{param-along, value-along}
use Rattle.p21_spec_differences.specs.Difference.{HasOtherValue}
use Rattle.p21_spec_differences.specs.Near.{IsNearAt}
use Rattle.p21_spec_exchange.specs.Number.{Ratio}
use Rattle.p21_spec_file.proofs.Sameness.{Same-symmetric}
use Rattle.p21_spec_file.proofs.SameFiles.{SameTyped-symmetric}
use Rattle.p21_spec_file.proofs.Transitive.{Same-transitive}
use Rattle.p21_spec_file.specs.Meaning.{Typed}
use Rattle.p21_spec_file.specs.SameFile.{SameTyped}
use Rattle.p21_spec_schema.specs.Schema.{Place, Schema}

pub other-along : (x y u w : Typed) → SameTyped x u → SameTyped y w → (place : Place) → HasOtherValue x y place → HasOtherValue u w place
other-along x y u w same same_ place (v, t, has, has_, differ) =
    let first = value-along x u same place v has in
    let second = value-along y w same_ place t has_ in (
      first.w,
      second.w,
      first.has,
      second.has,
      λ alike. differ (Same-transitive first.w v t first.same
          (Same-transitive second.w first.w t alike (Same-symmetric t second.w second.same))),
    )

pub other-back : (x y u w : Typed) → SameTyped x u → SameTyped y w → (place : Place) → HasOtherValue u w place → HasOtherValue x y place
other-back x y u w same same_ place differ = other-along u w x y (SameTyped-symmetric x u same) (SameTyped-symmetric y w same_) place differ

pub near-along : (s : Schema) (tolerance : Option Ratio) (x y u w : Typed) → SameTyped x u → SameTyped y w → (place : Place)
    → IsNearAt s tolerance x y place → IsNearAt s tolerance u w place
near-along s tolerance x y u w same same_ place (p, q, is, is_, near) =
    (p, q, param-along s x u same place p is, param-along s y w same_ place q is_, near)

pub near-back : (s : Schema) (tolerance : Option Ratio) (x y u w : Typed) → SameTyped x u → SameTyped y w → (place : Place)
    → IsNearAt s tolerance u w place → IsNearAt s tolerance x y place
near-back s tolerance x y u w same same_ place near =
    near-along s tolerance u w x y (SameTyped-symmetric x u same) (SameTyped-symmetric y w same_) place near
