-- What is kept of the statements of a file by some rules, and the names of the instances that are left out (this project's own).
use Rattle.std.specs.Prelude.{◌+◌, ℕ}
use Rattle.std.specs.BTreeSet.{BTreeSet}
use Rattle.p21_stream_sieve.specs.declared.sieve.Sieve.{Sieve}
use Rattle.p21_stream_syntax.specs.Given.{Kept}

-- of statements by a schema, or by themselves
pub data Sifted : Type 0 where
  sieved : Sieve → Sifted
  alone : Kept → BTreeSet ℕ → Sifted

-- the names of the instances that are left out
abbrev pub names_left : Sifted → BTreeSet ℕ
names_left (sieved sieve) = sieve.names
names_left (alone kept names) = names

-- how many bytes the canonical lines have that are kept
abbrev pub size_kept : Sifted → ℕ
size_kept (sieved sieve) = sieve.kept.bytes + sieve.kept.framing
size_kept (alone kept names) = 0
