-- The laws, from the theorems.
use Rattle.p21_spec_numbering.proofs.laws.numbering_laws.Goals as goal
use Rattle.p21_spec_numbering.proofs.Theorems.{meanings-are_proper, is-equivalence, ranks-are_invariant}
use Rattle.p21_spec_numbering.proofs.Fresh.{ranks-stand_still}
use Rattle.p21_spec_numbering.proofs.CopiesMoved.{aligned-are_same, choices-alike, aligned-tell_sameness}
use Rattle.p21_spec_numbering.proofs.CopiesRules.{spread-is_kept, one-hangs_together}
use Rattle.p21_spec_numbering.proofs.CopiesOrders.{parts-give_orders}
use Rattle.p21_spec_numbering.proofs.Decided.{decided-no_choice, decided-alike}
use Rattle.p21_spec_numbering.proofs.CopiesParts.{alike-gives_parts}

pub returns : goal.returns
returns c = record { proper = meanings-are_proper; equivalence = is-equivalence; invariant = ranks-are_invariant; still = ranks-stand_still; exchanged = aligned-are_same; choices = choices-alike; orders = aligned-tell_sameness; spread = spread-is_kept; hanging = one-hangs_together; parts = parts-give_orders; parts_alike = alike-gives_parts; decided = decided-no_choice; decided_alike = decided-alike }
