use Rattle.std.specs.Prelude.{◌≡◌, ◌∷◌, ℕ, List, length}
use Rattle.std.specs.List.{flat_map}
use Rattle.std.proofs.Common.{arith, ap, sym, subst, ◌∙◌}
use Rattle.std.proofs.lemmas.Result.{IfOk-weaker}
use Rattle.p21_spec_numbering.specs.Fresh.{Ranks}
use Rattle.p21_numbering.specs.Arrays.{Entry, numbers, ranks_of}
use Rattle.p21_numbering.specs.Keyed.{IsKeyed}
use Rattle.p21_numbering.proofs.KeyedNodes.{keyed-none, keyed-some, none-left, some-left}
use Rattle.p21_numbering.proofs.key_rows.key_among.Goals as goal

pub returns-then-is_empty : goal.returns-then-is_empty
returns-then-is_empty c =
    let entries : List Entry = c.in_ok-entries.entries.items in
    let long : c.in_ok-entries.entries.len ≡ length entries = omega (arith, c.in_ok-entries.entries.ok.0) in
    let P : List ℕ → Type 0 = λ key. IsKeyed c.args.own c.args.many (ranks_of c.args.rank.now c.args.fresh.now) c.args.uses.now
    c.args.users.now key in
    subst P (sym c.new-then-is_empty.ensures.items)
    (keyed-none c.args.own c.args.many (ranks_of c.args.rank.now c.args.fresh.now) c.args.uses.now c.args.users.now entries
    (none-left entries c.in_ok-entries.entries.len long (sym c.is_empty.ensures ∙ c.if-is_empty.true)) c.in_ok-entries.ensures.permutation
    c.in_ok-entries.ensures.rises)

pub returns : goal.returns
returns c =
    let entries : List Entry = c.in_ok-entries.entries.items in
    let old : Ranks = ranks_of c.args.rank.now c.args.fresh.now in
    let long : c.in_ok-entries.entries.len ≡ length entries = omega (arith, c.in_ok-entries.entries.ok.0) in
    let some = some-left entries c.in_ok-entries.entries.len long (sym c.is_empty.ensures ∙ c.if-is_empty.false) in
    IfOk-weaker c.key.result _ _ (λ key is.
    keyed-some c.args.own c.args.many old c.args.uses.now c.args.users.now entries key.items some
    (is ∙ ap (λ (es : List Entry). c.args.own ∷ flat_map numbers es) c.deref.ensures.value)
    c.in_ok-entries.ensures.permutation c.in_ok-entries.ensures.rises) c.key.ensures
