-- A real whose parts stand at known places, and the digits that are written of it.
use Rattle.std.specs.Prelude.{◌≡◌, ℕ, ℤ, ◌+◌, ◌-◌, ◌&&◌, Bool, true, false, List, [], ◌∷◌, ◌++◌, take, drop, nat_lt, slice_index, if◌then◌else◌}
use Rattle.p21_spec_exchange.specs.Number.{IsExponentInRange, Ratio}
use Rattle.p21_spec_exchange.specs.Spelling.{exponent_spelling}
use Rattle.p21_values.specs.Canonical.{Continues}
use Rattle.p21_values.specs.RealComponents.{digits_ratio}

-- those behind the first that counts, up to the last that counts, without the point
abbrev pub further_digits : List ℕ → ℕ → ℕ → ℕ → ℕ → List ℕ
further_digits bytes at point first behind =
    if nat_lt first point && nat_lt point behind then take (point - first - 1) (drop (at + first + 1) bytes) ++ take (behind - point - 1) (drop (at + point + 1) bytes) else take (behind - first - 1) (drop (at + first + 1) bytes)

-- a minus or none, the first that counts, the point, and those behind
abbrev pub significand : Bool → List ℕ → ℕ → ℕ → ℕ → ℕ → List ℕ
significand negative bytes at point first behind = (if negative then 45 ∷ [] else []) ++ slice_index bytes (at + first) ∷ 46 ∷ further_digits bytes at point first behind

-- it is appended with this exponent, which is in the range of reals, or a part of that
abbrev pub AppendsSignificand : Bool → List ℕ → ℤ → List ℕ → List ℕ → Type 0
AppendsSignificand true digits power old new = IsExponentInRange power × (new ≡ old ++ (digits ++ exponent_spelling power))
AppendsSignificand false digits power old new = Continues old new

-- the ratio of the digits before and behind the point, times ten to the exponent
abbrev pub placed_ratio : Bool → List ℕ → ℕ → ℕ → ℕ → ℤ → Ratio
placed_ratio negative bytes at point end k = digits_ratio negative (take point (drop at bytes)) (take (end - point - 1) (drop (at + point + 1) bytes)) k
