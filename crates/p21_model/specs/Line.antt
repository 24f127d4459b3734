-- What stands behind the name of an instance.
use Rattle.std.specs.Prelude.{ℕ, cond, nat_eq, List, [], ◌∷◌}

-- what stands behind the first `=`
abbrev pub behind_equals : List ℕ → List ℕ
behind_equals [] = []
behind_equals (byte ∷ bytes) = cond (nat_eq byte 61) bytes (behind_equals bytes)
