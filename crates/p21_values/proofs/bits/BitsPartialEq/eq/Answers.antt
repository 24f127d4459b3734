use Rattle.std.proofs.lemmas.Bool.Decides.{same_from_decides}
use Rattle.std.proofs.lemmas.Slice.Eq.{slice_eq-Decides}
use Rattle.std.specs.Cmp.{booleans_Decides}
use Rattle.std.proofs.Common.{refl}
use Rattle.p21_values.proofs.BitsLemmas.{equal_tokens}
use Rattle.p21_values.proofs.bits.BitsPartialEq.eq.Goals as goal

pub returns-clause-eq : goal.returns-clause-eq
returns-clause-eq c =
    same_from_decides _ _ (equal_tokens _ _ _ _ c.self.invariant c.other.invariant c.self.view_is c.other.view_is _ c.eq.ensures) (slice_eq-Decides booleans_Decides _ _ _ refl)

pub returns-clause-same : goal.returns-clause-same
returns-clause-same c = equal_tokens _ _ _ _ c.self.invariant c.other.invariant c.self.view_is c.other.view_is _ c.eq.ensures
