-- Widths, bounds, nesting and numbers of declarations, at their limits and one beyond.
use Rattle.std.specs.Prelude.{◌≡◌, ℕ, zero, suc, ◌+◌, ◌≤◌, false, List, [], ◌∷◌, length, codes, Some, None, refl}
use Rattle.std.specs.List.{AllZip, enumerate_from}
use Rattle.std.proofs.Common.{arith}
use Rattle.std.proofs.lemmas.Slice.Zip.{AllZip-long}
use Rattle.p21_spec_schema.specs.WrittenType.{WrittenType, real_type, string_type, array_type, list_type, bounded, unbounded}
use Rattle.p21_spec_schema.specs.TypeDeclaration.{underlying}
use Rattle.p21_spec_schema.specs.SchemaDeclaration.{SchemaDeclaration, entities_of, types_of}
use Rattle.p21_spec_schema.specs.Schema as schema
use Rattle.p21_spec_schema.specs.Schema.{Schema, TypeUse, Kind, alias}
use Rattle.p21_spec_schema.specs.DeclaredType.{DenotesType, is_real, is_string, is_array, is_list}
use Rattle.p21_spec_schema.specs.DefinedType.{DeclaresKind, is_alias, DeclaresType}
use Rattle.p21_spec_schema.specs.Declared.{DeclaresSchema, Declares}

-- `STRING(digits)`
abbrev wide : List ℕ → WrittenType
wide digits = string_type (Some (record { most = digits; fixed = false }))

pub widest : (s : Schema) → DenotesType s (wide (codes "4294967295")) (schema.text (Some (record { most = 4294967295; fixed = false })))
widest s = is_string _ _ (refl, omega arith, omega arith)

pub too_wide : (s : Schema) (type : TypeUse) → DenotesType s (wide (codes "4294967296")) type → ⊥
too_wide s type (is_string _ width is) = omega (arith, is.2)

pub no_width : (s : Schema) (type : TypeUse) → DenotesType s (wide (codes "0")) type → ⊥
no_width s type (is_string _ width is) = omega (arith, is.1)

-- an array of one element has equal bounds, and none has fewer
pub one_index : (s : Schema) → DenotesType s (array_type (record { low = codes "0"; high = bounded (codes "0") }) false false (real_type None)) (schema.array 0 0 false false schema.real)
one_index s = is_array _ 0 0 false false _ _ (refl, omega arith, (refl, omega arith, omega arith)) (is_real None)

pub no_index : (s : Schema) (type : TypeUse) → DenotesType s (array_type (record { low = codes "1"; high = bounded (codes "0") }) false false (real_type None)) type → ⊥
no_index s type (is_array _ low high optional unique element of bounds is) = omega (arith, bounds.0, bounds.2.1)

-- `ARRAY [1:?] OF REAL`
pub open_array : (s : Schema) (type : TypeUse) → DenotesType s (array_type (record { low = codes "1"; high = unbounded }) false false (real_type None)) type → ⊥
open_array s type (is_array _ low high optional unique element of bounds is) = let h : Some high ≡ None = bounds.2 in cc

-- so many times `LIST OF`, then REAL
abbrev lists : ℕ → WrittenType
lists zero = real_type None
lists (suc n) = list_type None false (lists n)

abbrev used : ℕ → TypeUse
used zero = schema.real
used (suc n) = schema.list 0 None false (used n)

lists-used : (s : Schema) (n : ℕ) → DenotesType s (lists n) (used n)
lists-used s zero = is_real None
lists-used s (suc n) = is_list None 0 None false (lists n) (used n) (refl, refl) (lists-used s n)

pub deepest : (s : Schema) → DeclaresKind s (underlying (lists 32)) (alias (used 32))
deepest s = is_alias (lists 32) (used 32) (lists-used s 32) (omega arith) tt

pub too_deep : (s : Schema) (kind : Kind) → DeclaresKind s (underlying (lists 33)) kind → ⊥
too_deep s kind (is_alias _ type is shallow may) = omega (arith, shallow)

-- as many entities as entity declarations, as many types as type declarations
numbered-length : {X Y : Type 0} (R : ℕ × X → Y → Type 0) (n : ℕ) (xs : List X) (ys : List Y) → AllZip R (enumerate_from n xs) ys → length ys ≡ length xs
numbered-length R n [] [] all = refl
numbered-length R n [] (y ∷ ys) all = absurd all
numbered-length R n (x ∷ xs) [] all = absurd all
numbered-length R n (x ∷ xs) (y ∷ ys) all = omega (arith, numbered-length R (n + 1) xs ys all.1)

-- 65,536 entities and types together are too many
pub too_many-declare_nothing : (tree : SchemaDeclaration) (s : Schema) → 65536 ≤ length (entities_of tree.declarations) + length (types_of tree.declarations) → DeclaresSchema tree s → ⊥
too_many-declare_nothing tree s many declares =
    omega (arith, many, declares.few, numbered-length _ 0 (entities_of tree.declarations) s.entities declares.entities_are, AllZip-long (DeclaresType s) (types_of tree.declarations) s.types declares.types_are)

-- and so is a text of 16,777,217 bytes too long
pub too_long-declares_nothing : (bytes : List ℕ) (s : Schema) → 16777217 ≤ length bytes → Declares bytes s → ⊥
too_long-declares_nothing bytes s long declares = omega (arith, long, declares.short)
