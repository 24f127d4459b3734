-- Which names have come, a bit for each.
use Rattle.std.specs.Prelude.{◌≡◌, ◌<◌, ◌/◌, ◌%◌, ℕ, List, length, slice_index_or}
use Rattle.std.specs.Int.{bit_at}

-- the bit of a name among words of 64 bits
abbrev pub bit_of : List ℕ → ℕ → ℕ
bit_of words name = bit_at (slice_index_or words (name / 64) 0) (name % 64)

-- the words have the bit of a name
abbrev pub HasBit : List ℕ → ℕ → Type 0
HasBit words name = name / 64 < length words

-- the bit of a name is set, if it has one
abbrev pub MayHaveCome : List ℕ → ℕ → Type 0
MayHaveCome words name = name < 8388608 → bit_of words name ≡ 1
