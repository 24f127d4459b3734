use Rattle.std.proofs.Common.{◌≡◌, ◌-◌, ◌++◌, ℕ, List, length, take, drop, sym, subst, ◌∙◌, arith}
use Rattle.std.proofs.lemmas.Bool.Decides.{Decides-eqb}
use Rattle.std.proofs.lemmas.Slice.Eq.{starts_is}
use Rattle.p21_spec_basics.proofs.Members.{rest_is}
use Rattle.p21_stream_survey.proofs.LastBytes.{statement-in}
use Rattle.p21_stream_survey.specs.Unended.{IsStatementIn}
use Rattle.p21_stream_survey.proofs.unended.statement_behind.Goals as goal

pub returns-then-starts_with : goal.returns-then-starts_with
returns-then-starts_with c =
    let bytes : List ℕ = c.args.bytes.now in
    let front : List ℕ = c.args.front.now in
    let at : ℕ = c.args.at in
    let from : ℕ = at - length front in
    let slice : List ℕ = take (length bytes - from) (drop from bytes) in
    let slice_is : slice ≡ drop from bytes = rest_is bytes from in
    let begins : slice ≡ front ++ drop (length front) slice =
    (starts_is Decides-eqb slice front c.starts_with.result c.starts_with.ensures.value).0 c.if-starts_with.true in
    let low = c.if-at-front.false in
    let within = c.if-bytes-at.false in
    subst (λ (l : List ℕ). IsStatementIn bytes at front l) (sym slice_is)
    (statement-in bytes front (drop (length front) slice) at (omega (arith, low)) (omega (arith, within)) (sym slice_is ∙ begins))
