-- Types that rename others, one behind the other.
use Rattle.std.specs.Prelude.{◌≡◌, ℕ, Some, refl}
use Rattle.std.proofs.Common.{sym, subst}
use Rattle.p21_spec_schema.specs.Schema.{Schema, TypeUse, defined, alias, kind_of}
use Rattle.p21_express_graph.specs.DirectRenaming.{ComesTo, at_itself, through}
use Rattle.p21_express_graph.specs.Resolved.{HoldsTogether, IsTypeUse}
use Rattle.p21_express_graph.proofs.Resolving.{alias-is}

module _ (s : Schema) (holds : HoldsTogether s) where
  -- what a type comes to is of the schema
  pub comes-is : (type last : TypeUse) → ComesTo s type last → IsTypeUse s type → IsTypeUse s last
  comes-is type last (at_itself _) is = is
  comes-is type last (through t next _ renames more) is = comes-is next last more (alias-is s holds t next renames)

-- a step further
pub comes-further : (s : Schema) (type : TypeUse) (t : ℕ) (next : TypeUse) → ComesTo s type (defined t) → kind_of s t ≡ Some (alias next) → ComesTo s type next
comes-further s type t next comes is = by type (defined t) comes refl
  where
    by : (type last : TypeUse) → ComesTo s type last → last ≡ defined t → ComesTo s type next
    by type last (at_itself _) same = subst (λ x. ComesTo s x next) (sym same) (through t next next is (at_itself next))
    by type last (through u between _ renames more) same = through u between next renames (by between last more same)
