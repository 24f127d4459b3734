-- The canonical parameter of a value at a place is one, whatever the instances of the file, and meanings that are the same have one there.
use Rattle.std.specs.Prelude.{◌≡◌, ℕ, zero, suc, List, Some, Contains, refl}
use Rattle.std.specs.List.{zip}
use Rattle.std.proofs.Common.{sym, subst, ◌∙◌}
use Rattle.p21_spec_basics.proofs.Members.{some_is, zip-along}
use Rattle.p21_spec_basics.proofs.Shuffles.{NoneTwice}
use Rattle.p21_spec_differences.specs.Near.{IsNearAt, IsOneParamAt, IsParamAt}
use Rattle.p21_spec_exchange.specs.CanonicalText.{param_text}
use Rattle.p21_spec_exchange.specs.Number.{Ratio}
use Rattle.p21_spec_exchange.specs.Parameter.{Param}
use Rattle.p21_spec_file.proofs.Sameness.{Same-symmetric}
use Rattle.p21_spec_file.proofs.SameFiles.{SameTyped-symmetric}
use Rattle.p21_spec_file.proofs.Transitive.{Same-transitive}
use Rattle.p21_spec_file.specs.Fits.{FitsAt}
use Rattle.p21_spec_file.specs.Meaning.{HasValueAt, Typed}
use Rattle.p21_spec_file.specs.Reference.{EntitySets}
use Rattle.p21_spec_file.specs.SameFile.{SameTyped}
use Rattle.p21_spec_file.specs.SameValue.{Same, SameInOrder, both_end, both_next}
use Rattle.p21_spec_file.specs.Value.{Value, Values, value_at}
use Rattle.p21_spec_file.specs.ValueText.{value_text}
use Rattle.p21_spec_laws.proofs.CanonicalValue.{canonical_at-text}
use Rattle.p21_spec_laws.proofs.LaidTexts.{one-text}
use Rattle.p21_spec_laws.proofs.RecordOnce.{value-once}
use Rattle.p21_spec_laws.proofs.SameTexts.{same-exactly_texts_at}
use Rattle.p21_spec_laws.specs.ValueLaws.{IsCanonicalFor}
use Rattle.p21_spec_schema.proofs.PlaceTypes.{TypeAt-one}
use Rattle.p21_spec_schema.specs.PlaceType.{PlaceType, TypeAt}
use Rattle.p21_spec_schema.specs.Schema.{Place, Schema}
use Rattle.p21_spec_schema.specs.WellFormed.{IsWellFormed}

-- ---- one

one-canonical : (s : Schema) → IsWellFormed s → (kinds others : EntitySets) (at : PlaceType) (v : Value) (p q : Param)
    → IsCanonicalFor s kinds at v p → IsCanonicalFor s others at v q → q ≡ p
one-canonical s formed kinds others at v p q first second =
    let same : Same second.value first.value = Same-transitive v second.value first.value (Same-symmetric v second.value second.same)
    first.same in
    one-text q p second.written first.written
    (canonical_at-text s others at q second.value second.fit second.canonical
    ∙ (same-exactly_texts_at s formed.types_distinct others kinds at q p second.value first.value second.fit first.fit second.written
    first.written).0 same
    ∙ sym (canonical_at-text s kinds at p first.value first.fit first.canonical))

pub param-once : (s : Schema) → IsWellFormed s → (x : Typed) → NoneTwice x.entities → (place : Place) (p q : Param)
    → IsParamAt s x place p → IsParamAt s x place q → q ≡ p
param-once s formed x none place p q first second =
    let at_is = TypeAt-one s formed.supertypes_end formed.redeclares_once x.entities place second.at first.at second.type_at first.type_at in
    let v_is = value-once x none place second.v first.v second.has first.has in
    let P : PlaceType → Type 0 = λ at. IsCanonicalFor s second.kinds at second.v q in
    let Q : Value → Type 0 = λ v. IsCanonicalFor s second.kinds first.at v q in
    one-canonical s formed first.kinds second.kinds first.at first.v p q first.canonical (subst Q v_is (subst P at_is second.canonical))

-- ---- in meanings that are the same

-- what stands beside a value
record IsBeside (ws : Values) (i : ℕ) (v : Value) : Type 0 where
  w : Value
  at : value_at ws i ≡ Some w
  same : Same v w

beside-value : (vs ws : Values) → SameInOrder vs ws → (i : ℕ) (v : Value) → value_at vs i ≡ Some v → IsBeside ws i v
beside-value vs ws both_end i v at = cc
beside-value vs ws (both_next x y vs_ ws_ same more) zero v at =
    let P : Value → Type 0 = λ z. Same z y in
    record { w = y; at = refl; same = subst P (some_is x v at) same }
beside-value vs ws (both_next x y vs_ ws_ same more) (suc i) v at =
    let found = beside-value vs_ ws_ more i v at in
    record { w = found.w; at = found.at; same = found.same }

-- the value that the other meaning has at the place
pub record HasSameAt (y : Typed) (place : Place) (v : Value) : Type 0 where
  pub w : Value
  pub has : HasValueAt y place w
  pub same : Same v w

pub value-along : (x y : Typed) → SameTyped x y → (place : Place) (v : Value) → HasValueAt x place v → HasSameAt y place v
value-along x y same place v (vs, row, at) =
    let (ws, beside, in_order) = zip-along SameInOrder x.entities x.values y.values same.1 place.entity vs row in
    let found = beside-value vs ws in_order place.index v at in
    let In : List ℕ → Type 0 = λ es. Contains (zip es y.values) (place.entity, ws) in
    record { w = found.w; has = (ws, subst In same.0 beside, found.at); same = found.same }

pub param-along : (s : Schema) (x y : Typed) → SameTyped x y → (place : Place) (p : Param) → IsParamAt s x place p → IsParamAt s y place p
param-along s x y same place p is =
    let other = value-along x y same place is.v is.has in
    let T : List ℕ → Type 0 = λ es. TypeAt s es place is.at in
    record {
      kinds = is.kinds;
      at = is.at;
      v = other.w;
      type_at = subst T same.0 is.type_at;
      has = other.has;
      canonical = record {
        value = is.canonical.value;
        fit = is.canonical.fit;
        written = is.canonical.written;
        canonical = is.canonical.canonical;
        same = Same-transitive is.v other.w is.canonical.value (Same-symmetric is.v other.w other.same) is.canonical.same;
      };
    }
