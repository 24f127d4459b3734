use Rattle.std.specs.Global.{Vec}
use Rattle.std.specs.Prelude.{◌≡◌, ◌+◌, ◌-◌, ◌++◌, ◌∷◌, [], ℕ, List, length}
use Rattle.std.proofs.Common.{arith, rules, ap, sym, subst, ◌∙◌}
use Rattle.std.proofs.lemmas.List.{length-map, map-append}
use Rattle.p21_numbering.specs.Joining.{row_at}
use Rattle.p21_numbering.specs.Rows.{held_rows}
use Rattle.p21_pairing.specs.Left.{AreListed}
use Rattle.p21_pairing.proofs.Leaving.{nothing-listed}
use Rattle.p21_pairing.proofs.MorePairs.{default-more}
use Rattle.p21_pairing.proofs.left.listed.Goals as goal

abbrev items : Vec ℕ → List ℕ
items row = row.items

pub loop-key-preserved : goal.loop-key-preserved
loop-key-preserved c =
    let row : Vec ℕ = c.new.result in
    let P : List (List ℕ) → Type 0 = λ rs. (n : ℕ) → row_at rs n ≡ [] in
    let more : held_rows c.push.new.self.items ≡ held_rows c.loop-key.empty.items ++ [] ∷ [] =
    ap held_rows c.in_ok-push.ensures.items ∙ map-append items c.loop-key.empty.items (row ∷ [])
    ∙ ap (λ (r : List ℕ). held_rows c.loop-key.empty.items ++ r ∷ []) c.new.ensures.items in
    record { size = search rules; none = subst P (sym more) (default-more [] (held_rows c.loop-key.empty.items) c.loop-key.invariant.none) }

pub loop-k-init : goal.loop-k-init
loop-k-init c =
    let rows : List (Vec ℕ) = c.loop-key.empty.items in
    let all : length c.args.owners.now - 0 ≡ length c.args.owners.now = omega arith in
    let P : ℕ → Type 0 = λ b. AreListed c.args.keys.now c.args.start c.args.owners.now b (held_rows rows) in
    subst P (sym all) (nothing-listed c.args.keys.now c.args.start c.args.owners.now (held_rows rows)
    (omega (arith, length-map rows items, c.loop-key.invariant.size, c.loop-key-test.false, c.loop-key.auto.key-end))
    c.loop-key.invariant.none)

pub with_listed-requires-clause-rows : goal.with_listed-requires-clause-rows
with_listed-requires-clause-rows c =
    let next : length c.args.owners.now - c.loop-k.k ≡ length c.args.owners.now - 1 - c.loop-k.k + 1 = omega (arith, c.loop-k-test.true) in
    let P : ℕ → Type 0 = λ b. AreListed c.args.keys.now c.args.start c.args.owners.now b (held_rows c.loop-k.rows.items) in
    subst P next c.loop-k.invariant

pub loop-k-preserved : goal.loop-k-preserved
loop-k-preserved c =
    let next : length c.args.owners.now - 1 - c.loop-k.k ≡ length c.args.owners.now - (c.loop-k.k + 1) =
    omega (arith, c.loop-k-test.true) in
    let P : ℕ → Type 0 = λ b. AreListed c.args.keys.now c.args.start c.args.owners.now b (held_rows c.in_ok-rows.rows.items) in
    subst P next c.in_ok-rows.ensures

pub returns-clause-size : goal.returns-clause-size
returns-clause-size c = sym (length-map c.loop-k.rows.items items) ∙ c.loop-k.invariant.long

pub returns-clause-each : goal.returns-clause-each
returns-clause-each c =
    let none : length c.args.owners.now - c.loop-k.k ≡ 0 = omega (arith, c.loop-k-test.false) in
    let P : ℕ → Type 0 = λ b. AreListed c.args.keys.now c.args.start c.args.owners.now b (held_rows c.loop-k.rows.items) in
    subst P none c.loop-k.invariant
