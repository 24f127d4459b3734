use Rattle.std.specs.Prelude.{◌≡◌, ℕ, Contains, take}
use Rattle.p21_numbering.specs.Standing.{many, standing_of}
use Rattle.p21_numbering.proofs.ranked.first_uneven.Given as goal

abbrev pub invariant-loop-name : goal.invariant-loop-name
invariant-loop-name l = (n : ℕ) → Contains (take l.name-index l.names) n → many (standing_of l.standings) n ≡ l.many
