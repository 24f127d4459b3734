-- Where no element may be twice, a list of values in which two elements are the same is no value.
use Rattle.std.specs.Prelude.{◌≡◌, ◌≢◌, ℕ, zero, suc, ◌<◌, Bool, true, false, Option, Some, refl}
use Rattle.std.proofs.Common.{arith, subst, ◌∙◌}
use Rattle.p21_spec_schema.specs.Schema as schema
use Rattle.p21_spec_schema.specs.Schema.{Schema, TypeUse}
use Rattle.p21_spec_exchange.specs.Parameter.{Param, Params}
use Rattle.p21_spec_file.specs.Value.{Value, list, array, set, missing, Values, no_values, value, value_at}
use Rattle.p21_spec_file.specs.SameValue.{Same, Among, here, there, AreDistinct}
use Rattle.p21_spec_file.specs.Reference.{EntitySets}
use Rattle.p21_spec_file.specs.Fits.{Fits, FitEach, none_left, fits_next, as_underlying, an_array, a_list, a_set}

-- no type takes a missing value
pub missing-fits_nothing : (s : Schema) (kinds : EntitySets) (type : TypeUse) (p : Param) → Fits s kinds type p missing → ⊥
missing-fits_nothing s kinds type p (as_underlying t under _ _ is fit) = missing-fits_nothing s kinds under p fit

Among-at : (v : Value) (vs : Values) (i : ℕ) (w : Value) → value_at vs i ≡ Some w → Same v w → Among v vs
Among-at v no_values i w at same = cc
Among-at v (value x vs) zero w at same = let is : w ≡ x = cc in here v x vs (subst (Same v) is same)
Among-at v (value x vs) (suc i) w at same = there v x vs (Among-at v vs i w at same)

-- of distinct values no two are the same, empty places apart
pub AreDistinct-differ : (vs : Values) (i j : ℕ) (v w : Value) → AreDistinct vs → i < j → value_at vs i ≡ Some v → value_at vs j ≡ Some w → v ≢ missing → Same v w → ⊥
AreDistinct-differ no_values i j v w distinct below at at_ some same = cc
AreDistinct-differ (value x vs) zero zero v w distinct below at at_ some same = omega (arith, below)
AreDistinct-differ (value x vs) zero (suc j) v w distinct below at at_ some same =
    let is : x ≡ v = cc in
    let P : Value → Type 0 = λ y. y ≢ missing → Among y vs → ⊥ in
    subst P is distinct.0 some (Among-at v vs j w at_ same)
AreDistinct-differ (value x vs) (suc i) zero v w distinct below at at_ some same = omega (arith, below)
AreDistinct-differ (value x vs) (suc i) (suc j) v w distinct below at at_ some same = AreDistinct-differ vs i j v w distinct.1 (omega (arith, below)) at at_ some same

-- where no place may be empty, none is
FitEach-some : (s : Schema) (kinds : EntitySets) (type : TypeUse) (ps : Params) (vs : Values) (i : ℕ) (v : Value) → FitEach s kinds false type ps vs → value_at vs i ≡ Some v → v ≢ missing
FitEach-some s kinds type ps vs i v (none_left _ _) at = cc
FitEach-some s kinds type ps vs zero v (fits_next _ _ p x ps_ vs_ fit each) at = λ empty. let is : x ≡ missing = (let h : x ≡ v = cc in h ∙ empty) in missing-fits_nothing s kinds type p (subst (Fits s kinds type p) is fit)
FitEach-some s kinds type ps vs (suc i) v (fits_next _ _ p x ps_ vs_ fit each) at = FitEach-some s kinds type ps_ vs_ i v each at

-- no set has two elements that are the same
pub set-refuses_twice : (s : Schema) (kinds : EntitySets) (low : ℕ) (high : Option ℕ) (type : TypeUse) (p : Param) (vs : Values) (i j : ℕ) (v w : Value) → i < j → value_at vs i ≡ Some v → value_at vs j ≡ Some w → Same v w
    → Fits s kinds (schema.set low high type) p (set vs) → ⊥
set-refuses_twice s kinds low high type p vs i j v w below at at_ same (a_set _ _ _ ps _ each bounded distinct) = AreDistinct-differ vs i j v w distinct below at at_ (FitEach-some s kinds type ps vs i v each at) same

-- no LIST OF UNIQUE has two elements that are the same
pub list-refuses_twice : (s : Schema) (kinds : EntitySets) (low : ℕ) (high : Option ℕ) (type : TypeUse) (p : Param) (vs : Values) (i j : ℕ) (v w : Value) → i < j → value_at vs i ≡ Some v → value_at vs j ≡ Some w → Same v w
    → Fits s kinds (schema.list low high true type) p (list vs) → ⊥
list-refuses_twice s kinds low high type p vs i j v w below at at_ same (a_list _ _ _ _ ps _ each bounded distinct) = AreDistinct-differ vs i j v w (distinct refl) below at at_ (FitEach-some s kinds type ps vs i v each at) same

-- no ARRAY OF UNIQUE has two elements that are the same, empty places apart
pub array-refuses_twice : (s : Schema) (kinds : EntitySets) (low high : ℕ) (optional : Bool) (type : TypeUse) (p : Param) (vs : Values) (i j : ℕ) (v w : Value) → i < j → value_at vs i ≡ Some v → value_at vs j ≡ Some w → v ≢ missing → Same v w
    → Fits s kinds (schema.array low high optional true type) p (array vs) → ⊥
array-refuses_twice s kinds low high optional type p vs i j v w below at at_ some same (an_array _ _ _ _ _ ps _ each counted distinct) = AreDistinct-differ vs i j v w (distinct refl) below at at_ some same
