use Rattle.std.specs.Prelude.{◌≡◌, ℕ, true, false, List, Contains}
use Rattle.std.proofs.Common.{arith, sym, ◌∙◌, subst}
use Rattle.p21_spec_schema.specs.Declared.{Renames}
use Rattle.p21_spec_schema.specs.Select.{IsSelect}
use Rattle.p21_express_graph.specs.SchemaContents.{schema_of}
use Rattle.p21_express_graph.proofs.Lookups.{up-to}
use Rattle.p21_express_outline.proofs.Selecting.{renames-at, renames-of, renames-within}
use Rattle.p21_express_outline.proofs.selects.check_no_select.Goals as goal

pub returns-then-has_select : goal.returns-then-has_select
returns-then-has_select c = λ other none.
    let (u, among, is) = c.has_select.ensures.0 c.if-has_select.true in
    let P : List ℕ → Type 0 = λ us. Contains us u in
    none c.loop-defined.defined-index u
    (renames-at c.args.parts.now c.loop-defined.defined-index u c.defined-item.result
    (rw c.deref-defined-items.ensures.value at c.loop-defined-test.true) (rw c.deref-defined-items.ensures.value at c.defined-item.is)
    (subst P (c.deref.ensures.value ∙ c.in_ok-direct_renaming.ensures) among)) is

pub loop-defined-preserved : goal.loop-defined-preserved
loop-defined-preserved c = up-to (λ t. (u : ℕ) → Renames (schema_of c.args.parts.now) t u → IsSelect (schema_of c.args.parts.now) u → ⊥)
    c.loop-defined.defined-index c.loop-defined.invariant
    (λ u renames is.
    let P : List ℕ → Type 0 = λ us. Contains us u in
    let among = renames-of c.args.parts.now c.loop-defined.defined-index u c.defined-item.result
    (rw c.deref-defined-items.ensures.value at c.loop-defined-test.true) (rw c.deref-defined-items.ensures.value at c.defined-item.is)
    renames in
    let t : true ≡ false = sym (c.has_select.ensures.1
    (u, subst P (sym (c.deref.ensures.value ∙ c.in_ok-direct_renaming.ensures)) among, is)) ∙ c.if-has_select.false in cc)

pub returns : goal.returns
returns c = λ t u renames is.
    let below = renames-within c.args.parts.now t u renames in
    let last = rw c.deref-defined-items.ensures.value at c.loop-defined-test.false in
    c.loop-defined.invariant t (omega (arith, below, last)) u renames is
