-- Where the parts of a real stand.
use Rattle.std.specs.Prelude.{◌≡◌, ℕ, ◌+◌, ◌<◌, ◌≤◌, Bool, true, false, not, ◌&&◌, nat_eq, List, length, slice_index}
use Rattle.std.specs.Slice.Scan.{IsFirstPlace, IsLastPlace}
use Rattle.p21_shorter_tokens.specs.Masks.{Shows}
use Rattle.p21_spec_basics.specs.Digits.{is_digit}

-- the byte at place i, counted from a first one, is no digit
abbrev pub is_other_at : List ℕ → ℕ → ℕ → Bool
is_other_at bytes at i = not (is_digit (slice_index bytes (at + i)))

-- it is `0`
abbrev pub is_zero_at : List ℕ → ℕ → ℕ → Bool
is_zero_at bytes at i = nat_eq (slice_index bytes (at + i)) 48

-- it is a digit other than `0`
abbrev pub counts_at : List ℕ → ℕ → ℕ → Bool
counts_at bytes at i = is_digit (slice_index bytes (at + i)) && not (is_zero_at bytes at i)

-- of at most 32 bytes from a first one on, the masks show which are no digits, and which are `0`
pub record ShowDigits (bytes : List ℕ) (at others zeros : ℕ) : Type 0 where
  pub count : ℕ
  pub few : count ≤ 32
  pub within : at + count ≤ length bytes
  pub others_shown : Shows (is_other_at bytes at) count others
  pub zeros_shown : Shows (is_zero_at bytes at) count zeros

-- Of the bytes from a first one on: the first that is no digit is `.` and stands at `point`, with a digit before it, and the
-- next stands at `end`. Before `end`, the
-- digits other than `0` are first at `first` and last at the place before `behind`, which is 0 where there are none.
pub record HasPlaces (bytes : List ℕ) (at point end first behind : ℕ) : Type 0 where
  pub some : 0 < point
  pub ordered : point < end
  pub within : at + end < length bytes
  pub near : end < 32
  pub point_is : IsFirstPlace (is_other_at bytes at) 0 end point
  pub dot : slice_index bytes (at + point) ≡ 46
  pub between : (i : ℕ) → point < i → i < end → is_other_at bytes at i ≡ false
  pub end_is : is_other_at bytes at end ≡ true
  pub last_is : IsLastPlace (counts_at bytes at) 0 end behind
  pub first_is : 0 < behind → (first < behind) × IsFirstPlace (counts_at bytes at) 0 behind first
