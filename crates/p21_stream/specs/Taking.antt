-- How many bytes of instances are taken straight from their bytes.
use Rattle.std.specs.Prelude.{ℕ, zero, suc, Option, Some, None}

-- so many bytes, where there are some
abbrev pub some_count : ℕ → Option ℕ
some_count zero = None
some_count (suc n) = Some (suc n)
