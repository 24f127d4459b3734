use Rattle.std.specs.BTreeMap.{Updates}
use Rattle.std.specs.Ordering.{nat_cmp}
use Rattle.std.specs.Prelude.{◌≡◌, ◌<◌, ◌+◌, ℕ, List, Some, length}
use Rattle.std.proofs.Common.{arith, rules, ap, subst, ◌∙◌, get_or}
use Rattle.std.proofs.lemmas.List.{take_all}
use Rattle.p21_numbering.specs.NewNames.{new_name}
use Rattle.p21_numbering.specs.Standing.{IsCount, Standing, standing_of}
use Rattle.p21_numbering.proofs.FirstFound.{count-low, count-next}
use Rattle.p21_numbering.proofs.loose.counts.Goals as goal

pub overflow_add-before : goal.overflow_add-before
overflow_add-before c =
    let low = count-low (standing_of c.args.standings.now) c.args.names.now c.loop-i.i c.loop-i.counts (omega (arith, c.loop-i-test.true))
    c.loop-i.invariant c.rank-rank.result in
    let fits : c.count-before.result < length c.args.names.now = omega (arith, low, c.count-before.ensures, c.loop-i-test.true) in
    search (rules, fits)

pub loop-i-preserved : goal.loop-i-preserved
loop-i-preserved c =
    let st : Standing = standing_of c.args.standings.now in
    let here : ℕ = st.rank (get_or c.args.names.now c.loop-i.i 0) in
    let P : ℕ → Type 0 = λ n. Updates nat_cmp c.loop-i.counts c.insert.new.self n (Some (c.count-before.result + 1)) in
    let Q : ℕ → Type 0 = λ n. Updates nat_cmp c.loop-i.counts c.insert.new.self here (Some (n + 1)) in
    let before : c.count-before.result ≡ new_name c.loop-i.counts here = c.count-before.ensures
    ∙ ap (new_name c.loop-i.counts) c.rank-rank.ensures in
    count-next st c.args.names.now c.loop-i.i c.loop-i.counts c.insert.new.self c.loop-i-test.true
    (subst Q before (subst P c.rank-rank.ensures c.in_ok-insert.ensures.updates)) c.loop-i.invariant

pub returns : goal.returns
returns c =
    let P : List ℕ → Type 0 = λ ns. IsCount (standing_of c.args.standings.now) ns c.loop-i.counts in
    subst P (take_all c.loop-i.i c.args.names.now (omega (arith, c.loop-i-test.false))) c.loop-i.invariant
