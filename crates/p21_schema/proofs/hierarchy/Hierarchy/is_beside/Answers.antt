use Rattle.std.specs.Prelude.{◌≡◌, ℕ, List, Some, Contains, take}
use Rattle.std.proofs.Common.{arith, sym, subst, get_or, ◌∙◌}
use Rattle.std.proofs.lemmas.List.{take_all, take_more}
use Rattle.std.proofs.lemmas.List.Elements.{Contains-get_or}
use Rattle.p21_spec_basics.proofs.Members.{Contains-none}
use Rattle.p21_schema.specs.NotedEntities.{noted_in}
use Rattle.p21_schema.proofs.hierarchy.Hierarchy.is_beside.Goals as goal
use Rattle.p21_schema.proofs.HeldLists.{list-within, notes-none, notes-further}
use Rattle.p21_schema.proofs.Noted.{IsNoted, clash-found, noted_more, noted-more, none-more, noted-none}

pub loop-number-init : goal.loop-number-init
loop-number-init c = (
  noted-none c.args.entity.0 (noted_in c.args.holders.now.of_lists.items c.args.set.0),
  (λ k among. absurd (Contains-none k among)),
  notes-none c.args.set.0 c.args.holders.now.of_lists.items,
)

pub has_other-requires : goal.has_other-requires
has_other-requires c =
    let lists = c.lists_with-number-items.result.now in
    let within = list-within c.args.self.now c.args.entity.0 (get_or lists c.loop-number.number-index 0)
    ((c.lists_with-number-items.ensures.each (get_or lists c.loop-number.number-index 0)).0
    (Contains-get_or lists c.loop-number.number-index 0 c.loop-number-test.true)) in
    let size = c.loop-number.invariant.2.size ∙ c.requires in
    omega (arith, within, size)

pub note-requires : goal.note-requires
note-requires c =
    let lists = c.lists_with-number-items.result.now in
    let within = list-within c.args.self.now c.args.entity.0 (get_or lists c.loop-number.number-index 0)
    ((c.lists_with-number-items.ensures.each (get_or lists c.loop-number.number-index 0)).0
    (Contains-get_or lists c.loop-number.number-index 0 c.loop-number-test.true)) in
    let size = c.loop-number.invariant.2.size ∙ c.requires in
    omega (arith, within, size)

pub returns-then-has_other-clause-clash : goal.returns-then-has_other-clause-clash
returns-then-has_other-clause-clash c seen held =
    let lists = c.lists_with-number-items.result.now in
    let k : ℕ = get_or lists c.loop-number.number-index 0 in
    let (other, is, differ) = c.if-has_other.ensures in
    clash-found c.args.self.now seen c.args.entity.0 lists c.lists_with-number-items.ensures.each
    (noted_in c.args.holders.now.of_lists.items c.args.set.0) held k other (take c.loop-number.number-index lists)
    (noted_in c.loop-number.holders.of_lists.items c.args.set.0) c.loop-number.invariant.0
    (Contains-get_or lists c.loop-number.number-index 0 c.loop-number-test.true) is differ

pub loop-number-preserved : goal.loop-number-preserved
loop-number-preserved c =
    let lists = c.lists_with-number-items.result.now in
    let i : ℕ = c.loop-number.number-index in
    let k : ℕ = get_or lists i 0 in
    let e : ℕ = c.args.entity.0 in
    let set : ℕ = c.args.set.0 in
    let old = noted_in c.args.holders.now.of_lists.items set in
    let now = noted_in c.loop-number.holders.of_lists.items set in
    let after = noted_in c.note.new.self.of_lists.items set in
    let P : List ℕ → Type 0 = λ ls. IsNoted e ls old after in
    let Q : List ℕ → Type 0 = λ ls. (j : ℕ) → Contains ls j → (other : ℕ) → old j ≡ Some other → other ≡ e in
    let next = sym (take_more lists i 0 c.loop-number-test.true) in (
      subst P next (noted-more e (take i lists) k old now after c.loop-number.invariant.0 c.note.ensures.here c.note.ensures.apart),
      subst Q next (none-more e (take i lists) k old now c.loop-number.invariant.0 c.if-has_other.ensures c.loop-number.invariant.1),
      notes-further set c.args.holders.now.of_lists.items c.loop-number.holders.of_lists.items c.note.new.self.of_lists.items
          c.loop-number.invariant.2 c.note.ensures.set_is,
    )

pub returns-clause-clash : goal.returns-clause-clash
returns-clause-clash c seen held =
    let lists = c.lists_with-number-items.result.now in
    let e : ℕ = c.args.entity.0 in
    let old = noted_in c.args.holders.now.of_lists.items c.args.set.0 in
    let now = noted_in c.loop-number.holders.of_lists.items c.args.set.0 in
    let whole = take_all c.loop-number.number-index lists c.loop-number-test.false in
    let P : List ℕ → Type 0 = λ ls. IsNoted e ls old now in
    let Q : List ℕ → Type 0 = λ ls. (j : ℕ) → Contains ls j → (other : ℕ) → old j ≡ Some other → other ≡ e in
    noted_more c.args.self.now seen e lists c.lists_with-number-items.ensures.each old held now (subst P whole c.loop-number.invariant.0)
    (subst Q whole c.loop-number.invariant.1)
