-- Texts one behind the other in bytes.
use Rattle.std.specs.Prelude.{◌≡◌, ◌+◌, ◌≤◌, ◌-◌, ℕ, zero, suc, List, [], ◌∷◌, Vec, length, take, drop, vec_capacity, vec_len}
use Rattle.std.specs.declared.alloc.Global.{Global}

-- texts; for one more of fewer bytes than this there is room
pub record HeldTexts : Type 0 where
  pub texts : List (List ℕ)
  pub room : ℕ

-- where there is a place for one more start and 16 bits hold it: one more than the bytes for which there is room
abbrev pub room_in : Vec ℕ Global → Vec ℕ Global → ℕ
room_in starts bytes = elim (vec_capacity starts - vec_len starts)
    [ zero ↦ 0 | suc more ↦ elim (65536 - vec_len bytes) [ zero ↦ 0 | suc rest ↦ vec_capacity bytes + 1 - vec_len bytes ] ]

-- the texts that start at these positions of the bytes, each up to where the next one starts
abbrev pub texts_of : List ℕ → List ℕ → List (List ℕ)
texts_of [] bytes = []
texts_of (start ∷ []) bytes = drop start bytes ∷ []
texts_of (start ∷ next ∷ more) bytes = take (next - start) (drop start bytes) ∷ texts_of (next ∷ more) bytes

-- no text starts before the one in front of it, or behind the bytes; no bytes stand before the first
abbrev pub AreStartsFrom : List ℕ → ℕ → Type 0
AreStartsFrom [] size = Unit {0}
AreStartsFrom (start ∷ []) size = start ≤ size
AreStartsFrom (start ∷ next ∷ more) size = (start ≤ next) × AreStartsFrom (next ∷ more) size

abbrev pub AreStarts : List ℕ → List ℕ → Type 0
AreStarts [] bytes = bytes ≡ []
AreStarts (start ∷ more) bytes = AreStartsFrom (start ∷ more) (length bytes)
