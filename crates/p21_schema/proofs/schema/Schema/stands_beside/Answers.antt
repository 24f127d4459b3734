use Rattle.std.specs.Prelude.{◌≡◌, ℕ, List, Some, Contains, take}
use Rattle.std.specs.BTreeMap.{get}
use Rattle.std.specs.Ordering.{nat_cmp}
use Rattle.std.proofs.Common.{sym, subst, get_or}
use Rattle.std.proofs.lemmas.List.{take_all, take_more}
use Rattle.std.proofs.lemmas.List.Elements.{Contains-get_or}
use Rattle.p21_schema.proofs.schema.Schema.stands_beside.Goals as goal
use Rattle.p21_schema.proofs.Noted.{IsNoted, clash-found, noted_more, none-more, noted-next, noted-none}
use Rattle.p21_spec_basics.proofs.Members.{Contains-none}

pub loop-number-init : goal.loop-number-init
loop-number-init c = (noted-none c.args.entity.0 (get nat_cmp c.args.holders.now), λ k among. absurd (Contains-none k among))

pub returns-then-has_other : goal.returns-then-has_other
returns-then-has_other c seen held =
    let lists = c.lists_with-number-items.result.now in
    let k : ℕ = get_or lists c.loop-number.number-index 0 in
    let (other, is, differ) = c.if-has_other.ensures in
    clash-found c.args.self.now seen c.args.entity.0 lists c.lists_with-number-items.ensures.each (get nat_cmp c.args.holders.now) held k
    other (take c.loop-number.number-index lists) (get nat_cmp c.loop-number.holders) c.loop-number.invariant.0
    (Contains-get_or lists c.loop-number.number-index 0 c.loop-number-test.true) is differ

pub loop-number-preserved : goal.loop-number-preserved
loop-number-preserved c =
    let lists = c.lists_with-number-items.result.now in
    let i : ℕ = c.loop-number.number-index in
    let k : ℕ = get_or lists i 0 in
    let e : ℕ = c.args.entity.0 in
    let old = get nat_cmp c.args.holders.now in
    let P : List ℕ → Type 0 = λ ls. IsNoted e ls old (get nat_cmp c.insert.new.self) in
    let Q : List ℕ → Type 0 = λ ls. (j : ℕ) → Contains ls j → (other : ℕ) → old j ≡ Some other → other ≡ e in
    let next = sym (take_more lists i 0 c.loop-number-test.true) in (
      subst P next (noted-next e (take i lists) k old c.loop-number.holders c.insert.new.self c.loop-number.invariant.0
          c.in-Ok.ensures.updates),
      subst Q next (none-more e (take i lists) k old (get nat_cmp c.loop-number.holders) c.loop-number.invariant.0 c.if-has_other.ensures
          c.loop-number.invariant.1),
    )

pub returns : goal.returns
returns c seen held =
    let lists = c.lists_with-number-items.result.now in
    let e : ℕ = c.args.entity.0 in
    let old = get nat_cmp c.args.holders.now in
    let whole = take_all c.loop-number.number-index lists c.loop-number-test.false in
    let P : List ℕ → Type 0 = λ ls. IsNoted e ls old (get nat_cmp c.loop-number.holders) in
    let Q : List ℕ → Type 0 = λ ls. (j : ℕ) → Contains ls j → (other : ℕ) → old j ≡ Some other → other ≡ e in
    noted_more c.args.self.now seen e lists c.lists_with-number-items.ensures.each old held (get nat_cmp c.loop-number.holders)
    (subst P whole c.loop-number.invariant.0) (subst Q whole c.loop-number.invariant.1)
