-- What a mask says of places.
use Rattle.std.specs.Prelude.{◌≡◌, ℕ, ◌<◌, ◌^◌, Bool, if◌then◌else◌}
use Rattle.std.specs.Int.{bit_at}

-- of n places, bit i is set where the test holds of place i, and no other bit is
pub record Shows (test : ℕ → Bool) (n mask : ℕ) : Type 0 where
  pub within : mask < 2 ^ n
  pub bits : (i : ℕ) → i < n → bit_at mask i ≡ (if test i then 1 else 0)
