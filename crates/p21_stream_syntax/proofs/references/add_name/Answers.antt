use Rattle.std.proofs.Common.{◌∷◌, [], ◌∙◌, List, Contains, ap, subst, sym}
use Rattle.std.proofs.lemmas.List.{map-append}
use Rattle.p21_stream_store.specs.StoredInstance.{instance_names}
use Rattle.p21_stream_syntax.proofs.Adding.{adds-given, adds-one}
use Rattle.p21_stream_syntax.specs.Waiting.{Adds, Claim, claims_in}
use Rattle.p21_stream_syntax.specs.declared.references.Reference.{Reference}
use Rattle.p21_stream_syntax.proofs.references.add_name.Goals as goal

pub returns-then-has_name : goal.returns-then-has_name
returns-then-has_name c = adds-given (instance_names c.args.names.now) (claims_in c.args.waiting.now.items) (c.args.holder, c.args.target)
    (subst (Contains (instance_names c.args.names.now)) c.target.view_is (c.has_name.ensures.0 c.if-has_name.true))

pub returns : goal.returns
returns c =
    let old : List Reference = c.args.waiting.now.items in
    let x : Reference = record { holder = c.args.holder; target = c.args.target } in
    let behind = ap claims_in c.in-Ok.ensures.items ∙ map-append (λ (r : Reference). (r.holder, r.target)) old (x ∷ []) in
    subst (λ (l : List Claim). Adds (instance_names c.args.names.now) ((c.args.holder, c.args.target) ∷ []) (claims_in old) l) (sym behind)
    (adds-one (instance_names c.args.names.now) (claims_in old) (c.args.holder, c.args.target))
