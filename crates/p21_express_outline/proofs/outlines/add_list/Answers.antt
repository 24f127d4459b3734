use Rattle.std.specs.Prelude.{[], ◌∷◌, map}
use Rattle.std.proofs.Common.{ap}
use Rattle.p21_express_outline.specs.Known.{names_of}
use Rattle.p21_express_outline.specs.Outlined.{list_of}
use Rattle.p21_express_outline.specs.Outline.{IsNamed, DigestOneOfIs, one_of_list}
use Rattle.p21_express_syntax.specs.Views.{some_list}
use Rattle.p21_express_outline.proofs.Finding.{adds-refused, one-none, push-one}
use Rattle.p21_express_outline.proofs.outlines.add_list.Goals as goal
use Rattle.p21_spec_basics.proofs.Members.{AllZip-turned}

pub returns-in_err-found-in-Some : goal.returns-in_err-found-in-Some
returns-in_err-found-in-Some c =
    let n = names_of c.args.known.now in
    let names = c.in-Some.names.items in
    let refused = rw c.deref-in-Some.ensures.value at c.in_err-found-in-Some.ensures in
    adds-refused list_of (DigestOneOfIs n) (one_of_list (some_list c.args.names.now)) [] (names ∷ []) [] c.in_err-found-in-Some.field-0.0
    c.from_residual-in_err-found-in-Some.result c.args.out.now c.args.out.now
    c.from_residual-in_err-found-in-Some.ensures.0 c.from_residual-in_err-found-in-Some.ensures.1
    (ap (λ o. one_of_list (some_list o)) c.in-Some.is)
    (λ other. one-none (DigestOneOfIs n) names (λ y h. refused other y (AllZip-turned (IsNamed n.entities) y names h.0)))

pub returns-in_ok-push-in-Some : goal.returns-in_ok-push-in-Some
returns-in_ok-push-in-Some c =
    let n = names_of c.args.known.now in
    let names = c.in-Some.names.items in
    push-one list_of (DigestOneOfIs n) names (one_of_list (some_list c.args.names.now)) c.args.out.now.items c.push.new.self.items
    c.in_ok-found-in-Some.found c.in_ok-push-in-Some.ensures.items (
      AllZip-turned (λ name e. IsNamed n.entities e name) names (map (λ e. e.0) c.in_ok-found-in-Some.found.items)
          (rw c.deref-in-Some.ensures.value at c.in_ok-found-in-Some.ensures),
      rw c.deref.ensures.value at
          c.in_ok-check_distinct-in-Some.ensures,
    )
    (ap (λ o. one_of_list (some_list o)) c.in-Some.is)
