-- The bits of a binary.
use Rattle.std.specs.Prelude.{ℕ, ◌-◌, Bool, List, [], ◌∷◌, length, take, drop}
use Rattle.p21_scan.specs.Binary.{bits_of_digits}

-- the bits of a token, without the padding
abbrev pub bits_of : List ℕ → List Bool
bits_of (quote ∷ padding ∷ rest) = drop (padding - 48) (bits_of_digits (take (length rest - 1) rest))
bits_of other = []
