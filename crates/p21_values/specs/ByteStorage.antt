-- Bytes that lie in a value itself, or in an allocation.
use Rattle.std.specs.Prelude.{ℕ, ◌≤◌, List, take}
use Rattle.p21_values.specs.declared.bytes.ByteStorage.{ByteStorage}
use Rattle.p21_values.specs.declared.bytes.ByteStorage.TheVariants.{Short, Long}

-- the bytes, in order
abbrev pub stored_bytes : ByteStorage → List ℕ
stored_bytes (Short count bytes) = take count bytes
stored_bytes (Long bytes) = bytes.items

-- the value itself has room for so many
abbrev pub FitsStorage : ByteStorage → Type 0
FitsStorage (Short count bytes) = count ≤ 24
FitsStorage (Long bytes) = Unit {0}
