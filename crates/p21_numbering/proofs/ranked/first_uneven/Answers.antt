use Rattle.std.specs.Prelude.{◌≡◌, ℕ, List, Contains, take}
use Rattle.std.proofs.Common.{arith, sym, subst, inl, inr, get_or}
use Rattle.std.proofs.lemmas.List.{take_all, take_more}
use Rattle.std.proofs.lemmas.List.Elements.{Contains-get_or, Contains-push_cases}
use Rattle.p21_numbering.specs.Standing.{many, standing_of}
use Rattle.p21_numbering.proofs.ranked.first_uneven.Goals as goal

pub loop-name-preserved : goal.loop-name-preserved
loop-name-preserved c n among =
    let ns : List ℕ = c.args.names.now in
    let i : ℕ = c.loop-name.name-index in
    let P : List ℕ → Type 0 = λ xs. Contains xs n in
    let Q : ℕ → Type 0 = λ k. many (standing_of c.args.standings.now) k ≡ c.args.many in
    elim (Contains-push_cases (take i ns) (get_or ns i 0) n (subst P (take_more ns i 0 c.loop-name-test.true) among)) [
      | inl old ↦ c.loop-name.invariant n old
      | inr new ↦ subst Q new (c.is_uneven.ensures.no c.if-is_uneven.false)
    ]

pub returns-then-is_uneven : goal.returns-then-is_uneven
returns-then-is_uneven c =
    (Contains-get_or c.args.names.now c.loop-name.name-index 0 c.loop-name-test.true, c.is_uneven.ensures.yes c.if-is_uneven.true)

pub returns : goal.returns
returns c n among =
    let P : List ℕ → Type 0 = λ xs. Contains xs n in
    c.loop-name.invariant n (subst P (sym (take_all c.loop-name.name-index c.args.names.now (omega (arith, c.loop-name-test.false)))) among)
