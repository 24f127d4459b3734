use Rattle.std.proofs.Common.{◌≤◌, ℕ, ap, refl, slice_index_or, subst, ◌^◌, ◌∙◌}
use Rattle.std.specs.Prelude.{map}
use Rattle.std.proofs.lemmas.List.{length-map}
use Rattle.p21_spec_basics.proofs.Members.{Contains-mapped}
use Rattle.p21_model_uses.specs.Tables.{place_of, user_of}
use Rattle.p21_model_uses.proofs.references.reference_of.Goals as goal

pub returns-clause-told : goal.returns-clause-told
returns-clause-told c =
    let there = slice_index_or c.args.places.now c.in-Some-place_number.place (0, 0) in
    ap (λ (n : ℕ). (n, there.0, there.1)) c.in-Some.ensures.some.1
    ∙ ap (λ (p : ℕ × ℕ). (c.args.row.1, p.0, p.1)) c.in-Some-place_number.ensures.some.1

pub returns-in_default-clause-none : goal.returns-in_default-clause-none
returns-in_default-clause-none c rows among users places none =
    subst (λ (n : ℕ). 2 ^ 32 ≤ n) (length-map rows user_of)
    (c.in_default.ensures.none (map user_of rows) (Contains-mapped user_of rows c.args.row among) users refl)

pub returns-in_default-place_number-clause-none : goal.returns-in_default-place_number-clause-none
returns-in_default-place_number-clause-none c rows among users places none =
    subst (λ (n : ℕ). 2 ^ 32 ≤ n) (length-map rows place_of)
    (c.in_default-place_number.ensures.none (map place_of rows) (Contains-mapped place_of rows c.args.row among) places refl)
