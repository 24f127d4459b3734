-- The characters that bytes stand for are Unicode scalar values.
use Rattle.std.proofs.Common.{ℕ, ◌+◌, ◌<◌, List, [], ◌∷◌, arith, inl, inr, subst, sym}
use Rattle.std.specs.Char.{IsScalar}
use Rattle.std.specs.List.{flat_map, AllByRecursion as Each}
use lib.Utf8.{low_scalar}
use Rattle.p21_spec_exchange.specs.Text.{StringUnit, ignored, plain, doubled, high_codepoint, page, alphabet_a, arbitrary, extended2, extended4, IsStringUnit, unit_characters, Encodes}
use Rattle.p21_spec_basics.proofs.Members.{Each-append}

low_quote : (byte : ℕ) → IsStringUnit (doubled byte) → byte < 55296
low_quote byte (inl e) = omega (arith, e)
low_quote byte (inr e) = omega (arith, e)

unit_scalars : (unit : StringUnit) → IsStringUnit unit → Each IsScalar (unit_characters unit)
unit_scalars (ignored byte) p = tt
unit_scalars (plain byte) p = (low_scalar byte (omega (arith, p.0.1)), tt)
unit_scalars (doubled byte) p = (low_scalar byte (low_quote byte p), tt)
unit_scalars (high_codepoint c) p = (p.1, tt)
unit_scalars (page byte) p = (low_scalar (byte + 128) (omega (arith, p.1)), tt)
unit_scalars alphabet_a p = tt
unit_scalars (arbitrary c) p = (low_scalar c (omega (arith, p)), tt)
unit_scalars (extended2 cs) p = p.1
unit_scalars (extended4 cs) p = p.1

units_scalars : (units : List StringUnit) → Each IsStringUnit units → Each IsScalar (flat_map unit_characters units)
units_scalars [] p = tt
units_scalars (unit ∷ units) p = Each-append IsScalar (unit_characters unit) (flat_map unit_characters units) (unit_scalars unit p.0) (units_scalars units p.1)

pub characters_are_scalars : (bytes chars : List ℕ) → Encodes bytes chars → Each IsScalar chars
characters_are_scalars bytes chars c = subst (Each IsScalar) (sym c.characters_are) (units_scalars c.units c.are_units)
