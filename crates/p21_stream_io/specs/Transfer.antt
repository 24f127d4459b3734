-- What writing does to the bytes that a writer holds, where they are known.
use Rattle.std.specs.Prelude.{Option, ◌≡◌, ◌<◌, ℕ, List, ◌++◌, length}
use Rattle.std.specs.Io.KnownBytes.{Appends}

-- the writer got the beginning of the bytes, and misses their end
pub record AppendsPartOf (old new : Option (List ℕ)) (bytes : List ℕ) : Type 0 where
  pub written : List ℕ
  pub missing : List ℕ
  pub some : 0 < length missing
  pub whole : bytes ≡ written ++ missing
  pub appended : Appends old new written

-- the writer got all of the bytes but the rest
pub record AppendsAllBut (old new : Option (List ℕ)) (bytes rest : List ℕ) : Type 0 where
  pub written : List ℕ
  pub whole : bytes ≡ written ++ rest
  pub appended : Appends old new written
