-- What is read from the canonical spelling of a value is that value.
use Rattle.std.proofs.Common.{◌≡◌, ℕ, ℤ, Bool, List, Err, refl, sym, subst}
use Rattle.p21_spec_exchange.proofs.BitSpellings.{bits_once, bits_spell}
use Rattle.p21_spec_exchange.proofs.RealSpellings.{real_once, real_spells}
use Rattle.p21_spec_exchange.proofs.WholeSpellings.{whole_once, whole_spells}
use Rattle.p21_spec_exchange.specs.Binary.{SpellsBits}
use Rattle.p21_spec_exchange.specs.Number.{Decimal, SpellsReal, SpellsWhole}
use Rattle.p21_spec_exchange.specs.Spelling.{bits_spelling, real_spelling, whole_spelling}
use Rattle.p21_values.specs.Decimal.{IsDecimal, ReadsReal}
use Rattle.p21_values.specs.Fault.{RefusesAs}
use Rattle.p21_values.specs.declared.fault.ValueFault.{ValueFault}
use Rattle.p21_values.specs.declared.fault.ValueFault.TheVariants.{BadBinary, BadNumber, NoMemory, NumberRange}

pub same_whole : (bytes : List ℕ) (z copy : ℤ) → bytes ≡ whole_spelling z → SpellsWhole bytes copy → copy ≡ z
same_whole bytes z copy e s = whole_once bytes copy z s (subst (λ (b : List ℕ). SpellsWhole b z) (sym e) (whole_spells z))

spelled : (bytes : List ℕ) (d : Decimal) → IsDecimal d → bytes ≡ real_spelling d → SpellsReal bytes d
spelled bytes d is e = subst (λ (b : List ℕ). SpellsReal b d) (sym e) (real_spells d is.reduced is.in_range)

pub same_real : (bytes : List ℕ) (d copy : Decimal) → IsDecimal d → bytes ≡ real_spelling d → SpellsReal bytes copy → copy ≡ d
same_real bytes d copy is e s = real_once bytes copy d s (spelled bytes d is e)

pub same_bits : (bytes : List ℕ) (value copy : List Bool) → bytes ≡ bits_spelling value → SpellsBits bytes copy → copy ≡ value
same_bits bytes value copy e s = bits_once bytes copy value s (subst (λ (b : List ℕ). SpellsBits b value) (sym e) (bits_spell value))

-- ---- nothing but want of memory refuses it

pub whole_memory : (bytes : List ℕ) (z : ℤ) (fault : ValueFault) → bytes ≡ whole_spelling z → RefusesAs BadNumber (SpellsWhole bytes) fault
    → fault ≡ NoMemory
whole_memory bytes z NoMemory e refused = refl
whole_memory bytes z fault e refused = absurd (refused.1 z (subst (λ (b : List ℕ). SpellsWhole b z) (sym e) (whole_spells z)))

pub real_memory : (bytes : List ℕ) (d : Decimal) (fault : ValueFault) → IsDecimal d → bytes ≡ real_spelling d → ReadsReal bytes (Err fault)
    → fault ≡ NoMemory
real_memory bytes d NoMemory is e refused = refl
real_memory bytes d BadNumber is e refused = absurd (refused (spelled bytes d is e).form)
real_memory bytes d NumberRange is e refused = absurd (refused.1 d (spelled bytes d is e))
real_memory bytes d fault is e refused = absurd refused

pub bits_memory : (bytes : List ℕ) (value : List Bool) (fault : ValueFault) → bytes ≡ bits_spelling value
    → RefusesAs BadBinary (SpellsBits bytes) fault → fault ≡ NoMemory
bits_memory bytes value NoMemory e refused = refl
bits_memory bytes value fault e refused = absurd (refused.1 value (subst (λ (b : List ℕ). SpellsBits b value) (sym e) (bits_spell value)))
