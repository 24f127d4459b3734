-- Texts of instances, each with its membership, and the room for more.
use Rattle.std.specs.Prelude.{◌<◌, ℕ, List}

-- memberships with texts; for so many memberships more there is room, and for a text of fewer bytes than this
pub record HeldLines : Type 0 where
  pub lines : List (ℕ × List ℕ)
  pub memberships_room : ℕ
  pub text_room : ℕ

-- there is room for a membership and a text of this size
abbrev pub HasRoom : HeldLines → ℕ → Type 0
HasRoom held size = (0 < held.memberships_room) × (size < held.text_room)
