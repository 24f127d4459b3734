-- Dead bytes stay dead, and bytes with which accepted bytes begin are not dead.
use Rattle.std.proofs.Common.{ℕ, List, ◌++◌, subst, append_assoc}
use Rattle.std.specs.List.{AllByRecursion as Each}
use Rattle.p21_spec_file.specs.Accepted.{IsAccepted, IsDead}
use Rattle.p21_spec_basics.specs.Digits.{IsByte}
use Rattle.p21_spec_basics.specs.Limits.{Limits}
use Rattle.p21_spec_schema.specs.Schema.{Schema}
use Rattle.p21_spec_basics.proofs.Members.{Each-append}

pub dead_further : (s : Schema) (limits : Limits) (bytes more : List ℕ) → Each IsByte more → IsDead s limits bytes → IsDead s limits (bytes ++ more)
dead_further s limits bytes more are_bytes dead rest are_rest accepted =
    dead (more ++ rest) (Each-append IsByte more rest are_bytes are_rest) (subst (IsAccepted s limits) (append_assoc bytes more rest) accepted)

pub accepted_begins : (s : Schema) (limits : Limits) (bytes more : List ℕ) → Each IsByte more → IsAccepted s limits (bytes ++ more) → IsDead s limits bytes → ⊥
accepted_begins s limits bytes more are_bytes accepted dead = dead more are_bytes accepted
