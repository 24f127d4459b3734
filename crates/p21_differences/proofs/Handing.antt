-- The parameters of two instances, handed out where their texts differ.
use Rattle.std.proofs.Common.{◌≡◌, List, [], ◌∷◌, Option, Some, None, sym, ◌∙◌, inl, inr}
use Rattle.std.specs.Prelude.{◌≢◌}
use Rattle.p21_differences.specs.declared.values.OtherValue.{OtherValue}
use Rattle.p21_differences.specs.declared.values.OtherValues.{OtherValues}
use Rattle.p21_differences.specs.OtherValues.{HandsOutOther}
use Rattle.p21_model.specs.declared.attributes.Attribute.{Attribute}
use Rattle.p21_model.specs.declared.attributes.Attributes.{Attributes}
use Rattle.p21_model.specs.Left.{HandsOutRow, TellsRows}
use Rattle.p21_model.specs.Rows.{Row}

-- of these rows some were passed over, and these are left
pub record IsLeft (first second : Attributes) (rows others : List Row) : Type 0 where
  pub left : List Row
  pub left_ : List Row
  pub tells : TellsRows first left
  pub tells_ : TellsRows second left_
  pub back : (result : Option OtherValue) (new : OtherValues) → HandsOutOther left left_ result new → HandsOutOther rows others result new

pub all-left : (first second : Attributes) (rows others : List Row) → TellsRows first rows → TellsRows second others
    → IsLeft first second rows others
all-left first second rows others tells tells_ = record {
  left = rows;
  left_ = others;
  tells = tells;
  tells_ = tells_;
  back =
      λ result new handed. handed;
}

pub none-first : (first second after : Attributes) (rows others : List Row) (new : OtherValues) → IsLeft first second rows others
    → ((left : List Row) → TellsRows first left → HandsOutRow left None after) → HandsOutOther rows others None new
none-first first second after rows others new l hands = by l.left (hands l.left l.tells) l.back
  where
    by : (left : List Row) → HandsOutRow left None after
        → ((result : Option OtherValue) (other : OtherValues) → HandsOutOther left l.left_ result other
        → HandsOutOther rows others result other) → HandsOutOther rows others None new
    by [] handed back = back None new tt
    by (row ∷ left) handed back = absurd handed

pub none-second : (first second after after_ : Attributes) (rows others : List Row) (found : Attribute) (new : OtherValues)
    → IsLeft first second rows others
    → ((left : List Row) → TellsRows first left → HandsOutRow left (Some found) after)
    → ((left : List Row) → TellsRows second left → HandsOutRow left None after_) → HandsOutOther rows others None new
none-second first second after after_ rows others found new l hands hands_ =
    by l.left l.left_ (hands l.left l.tells) (hands_ l.left_ l.tells_) l.back
  where
    by : (left left_ : List Row) → HandsOutRow left (Some found) after → HandsOutRow left_ None after_
        → ((result : Option OtherValue) (other : OtherValues) → HandsOutOther left left_ result other
        → HandsOutOther rows others result other)
        → HandsOutOther rows others None new
    by [] left_ handed handed_ back = absurd handed
    by (row ∷ left) [] handed handed_ back = back None new tt
    by (row ∷ left) (other ∷ left_) handed handed_ back = absurd handed_

-- both hand one out
module _ (first second after after_ : Attributes) (rows others : List Row) (found found_ : Attribute) (l : IsLeft first second rows others)
    (hands : (left : List Row) → TellsRows first left → HandsOutRow left (Some found) after)
    (hands_ : (left : List Row) → TellsRows second left → HandsOutRow left (Some found_) after_) where
  pub same-passed : found.value.text.now ≡ found_.value.text.now → IsLeft after after_ rows others
  same-passed same = by l.left l.left_ (hands l.left l.tells) (hands_ l.left_ l.tells_) l.back
    where
      by : (left left_ : List Row) → HandsOutRow left (Some found) after → HandsOutRow left_ (Some found_) after_
          → ((result : Option OtherValue) (other : OtherValues) → HandsOutOther left left_ result other
          → HandsOutOther rows others result other)
          → IsLeft after after_ rows others
      by [] left_ handed handed_ back = absurd handed
      by (row ∷ left) [] handed handed_ back = absurd handed_
      by (row ∷ left) (other ∷ left_) handed handed_ back = record {
        left = left;
        left_ = left_;
        tells = handed.2;
        tells_ = handed_.2;
        back = λ result new later. back result new (inl (sym handed.1.bytes_are ∙ same ∙ handed_.1.bytes_are, later));
      }

  pub other-found : found.value.text.now ≢ found_.value.text.now
      → HandsOutOther rows others (Some (record { place = found.place; before = found.value; after = found_.value }))
      (record { first = after; second = after_ })
  other-found differ = by l.left l.left_ (hands l.left l.tells) (hands_ l.left_ l.tells_) l.back
    where
      by : (left left_ : List Row) → HandsOutRow left (Some found) after → HandsOutRow left_ (Some found_) after_
          → ((result : Option OtherValue) (other : OtherValues) → HandsOutOther left left_ result other
          → HandsOutOther rows others result other)
          → HandsOutOther rows others (Some (record { place = found.place; before = found.value; after = found_.value }))
          (record { first = after; second = after_ })
      by [] left_ handed handed_ back = absurd handed
      by (row ∷ left) [] handed handed_ back = absurd handed_
      by (row ∷ left) (other ∷ left_) handed handed_ back =
          back (Some (record { place = found.place; before = found.value; after = found_.value }))
          (record { first = after; second = after_ })
          (inr (
            λ same. differ (handed.1.bytes_are ∙ same ∙ sym handed_.1.bytes_are),
            (handed.0, handed.1, handed_.1),
            (handed.2, handed_.2),
          ))
