use Rattle.std.specs.Prelude.{List, map, refl}
use Rattle.std.specs.List.{AllZip}
use Rattle.std.proofs.Common.{subst}
use Rattle.p21_spec_schema.specs.Schema.{Member}
use Rattle.p21_express_syntax.specs.Digest.{select, underlying}
use Rattle.p21_express_syntax.specs.Views.{type_view}
use Rattle.p21_express_outline.specs.Known.{names_of}
use Rattle.p21_express_outline.specs.Outline.{DigestKindIs, DigestTypeIs, MemberIs, IsNoEntity}
use Rattle.p21_express_outline.proofs.TypeDigests.{type-one}
use Rattle.p21_express_graph.specs.Meaning.{kind, member, type_use}
use Rattle.p21_express_outline.proofs.Finding.{find-refused, check-refused}
use Rattle.p21_express_outline.proofs.defined.resolve_kind.Goals as goal
use Rattle.p21_spec_basics.proofs.Members.{AllZip-turned}

pub returns-in_err-members-in-Select : goal.returns-in_err-members-in-Select
returns-in_err-members-in-Select c =
    let n = names_of c.args.known.now in
    let names = c.in-Select.names.items in
    let Each : List Member → Type 0 = λ ys. AllZip (λ name m. MemberIs n m name) names ys in
    rw c.in-Select.is (find-refused kind (DigestKindIs n (select names)) Each c.in_err-members-in-Select.field-0.0
    c.from_residual-in_err-members-in-Select.result
    c.from_residual-in_err-members-in-Select.ensures.0 c.from_residual-in_err-members-in-Select.ensures.1
    (λ y h. (h.0, AllZip-turned (MemberIs n) h.0 names h.1))
    (rw c.deref-in-Select-2.ensures.value at c.in_err-members-in-Select.ensures))

pub returns-in_err-found-in-Underlying : goal.returns-in_err-found-in-Underlying
returns-in_err-found-in-Underlying c =
    let n = names_of c.args.known.now in
    let kept = type_view c.in-Underlying.data_type in
    rw c.in-Underlying.is (find-refused kind (DigestKindIs n (underlying kept)) (DigestTypeIs n kept) c.in_err-found-in-Underlying.field-0.0
    c.from_residual-in_err-found-in-Underlying.result
    c.from_residual-in_err-found-in-Underlying.ensures.0 c.from_residual-in_err-found-in-Underlying.ensures.1 (λ y h. (h.0, h.1))
    c.in_err-found-in-Underlying.ensures)

pub returns-in_err-check_no_entity-in-Underlying : goal.returns-in_err-check_no_entity-in-Underlying
returns-in_err-check_no_entity-in-Underlying c =
    let n = names_of c.args.known.now in
    let kept = type_view c.in-Underlying.data_type in
    rw c.in-Underlying.is (check-refused kind (DigestKindIs n (underlying kept)) (IsNoEntity (type_use c.in_ok-found-in-Underlying.found))
    c.in_err-check_no_entity-in-Underlying.field-0.0 c.from_residual-in_err-check_no_entity-in-Underlying.result
    c.from_residual-in_err-check_no_entity-in-Underlying.ensures.0 c.from_residual-in_err-check_no_entity-in-Underlying.ensures.1
    (λ y h. subst IsNoEntity (type-one n c.requires.different kept h.0 (type_use c.in_ok-found-in-Underlying.found) h.1
    c.in_ok-found-in-Underlying.ensures) h.2) c.in_err-check_no_entity-in-Underlying.ensures)

pub returns-in_ok-members-in-Select : goal.returns-in_ok-members-in-Select
returns-in_ok-members-in-Select c =
    let n = names_of c.args.known.now in
    let names = c.in-Select.names.items in
    let members : List Member = map member c.in_ok-members-in-Select.members.items in
    rw (c.in-Select.is, c.from_vec-in-Select.ensures) (
      members,
      AllZip-turned (λ name m. MemberIs n m name) names members
          (rw c.deref-in-Select-2.ensures.value at c.in_ok-members-in-Select.ensures),
      rw c.deref-in-Select.ensures.value at
          c.in_ok-check_distinct-in-Select.ensures,
      refl,
    )
