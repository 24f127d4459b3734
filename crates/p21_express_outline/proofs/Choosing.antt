-- Selects in selects end where the types among their members do.
use Rattle.std.specs.Prelude.{◌≡◌, ℕ, List, Result, Ok, Err}
use Rattle.std.proofs.Common.{arith, sym, subst}
use Rattle.std.proofs.lemmas.List.{length-map}
use Rattle.p21_spec_schema.specs.Schema.{Schema}
use Rattle.p21_spec_schema.specs.Declared.{HasNoCircle, HasSelect}
use Rattle.p21_express_outline.specs.Chains.{AreMembers}
use Rattle.p21_express_outline.specs.Finding.{DecidesClaim}
use Rattle.p21_express_outline.specs.declared.fault.SchemaFault.{SchemaFault}
use Rattle.p21_express_graph.specs.Offered.{members_of, type_numbers}
use Rattle.p21_express_graph.specs.SettledOrder.{IsNext, AreWithin}
use Rattle.p21_express_graph.proofs.Offering.{select_types, next-had, next-got, selects-rank}

pub members-within : (s : Schema) → AreMembers s → AreWithin (select_types s)
members-within s are t u next =
    let (members, is, among) = next-had s t u next in
    let below = are t u members is among in
    omega (arith, below, length-map s.types (λ x. type_numbers (members_of x.kind)))

pub selects-checked : (s : Schema) (lists : List (List ℕ)) (result : Result (Unit {0}) SchemaFault) → lists ≡ select_types s
    → DecidesClaim (HasNoCircle (IsNext lists)) result → DecidesClaim (HasNoCircle (HasSelect s)) result
selects-checked s lists (Ok u) same ends =
    let P : List (List ℕ) → Type 0 = λ ls. HasNoCircle (IsNext ls) in
    let all = subst P same ends in
    (all.0, λ t v has. all.1 t v (next-got s t v has.0.0 has.0.1 has.0.2))
selects-checked s lists (Err fault) same refused = λ other ends.
    let P : List (List ℕ) → Type 0 = λ ls. HasNoCircle (IsNext ls) in
    refused other (subst P (sym same) (selects-rank s ends))
