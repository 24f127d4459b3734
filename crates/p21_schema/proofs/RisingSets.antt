-- The sets that entities make with their supertypes, rising by name, in a table.
use Rattle.std.specs.Prelude.{◌≡◌, ℕ, List, length, refl}
use Rattle.std.proofs.Common.{arith, subst, get_or}
use Rattle.std.proofs.lemmas.Option.{slice_get_read}
use Rattle.p21_spec_schema.specs.Schema.{Schema}
use Rattle.p21_express_graph.specs.Resolved.{IsEntity}
use Rattle.p21_schema.specs.RisingSets.{AreRisingSets, IsRisingSet, RisingSet}

-- what a complete table has for an entity
pub set-kept : {inside s : Schema} {sets : List RisingSet} {e : ℕ} {set kept : RisingSet} → inside ≡ s → AreRisingSets inside sets
    → IsEntity s e
    → set ≡ get_or sets e set → set ≡ kept → IsRisingSet s e kept
set-kept {inside} {s} {sets} {e} {set} {kept} same are is_entity read is =
    let P : Schema → Type 0 = λ z. AreRisingSets z sets in
    let there : AreRisingSets s sets = subst P same are in
    subst (IsRisingSet s e) is (there.each e set (slice_get_read sets (length sets) e set refl (omega (arith, there.size, is_entity)) read))
