use Rattle.std.proofs.Common.{◌≡◌, ℕ, List, eqb, length, true, true≢false, ap, inl, inr, subst, sym, ◌∙◌, arith}
use Rattle.std.proofs.lemmas.Bool.Decides.{eqb_tells}
use Rattle.p21_stream_store.proofs.PositionLemmas.{names_are, run_is_all}
use Rattle.p21_stream_store.specs.Positions.{position_in}
use Rattle.p21_stream_store.specs.Runs.{numbers_by}
use Rattle.p21_stream_store.proofs.name_table.NameTable.are_run.Goals as goal

equal : (a b : ℕ) → eqb a b ≡ true → a ≡ b
equal a b e = elim (eqb_tells a b) [ inl same ↦ same.1 | inr other ↦ absurd (true≢false (sym e ∙ other.0)) ]

pub returns-clause-rising : goal.returns-clause-rising
returns-clause-rising c e =
    let run = c.self.inside.run in
    let find = position_in run c.self.inside.marks c.self.inside.others in
    let (first, step, some, is) = c.rises.ensures in
    let all : length run ≡ c.self.inside.count = sym c.len.ensures.len ∙ equal c.len.result c.self.inside.count e in
    let are = run_is_all run c.self.inside.names.0 c.self.inside.marks c.self.inside.others first step some is
    (all ∙ c.self.inside.names.1.0) c.self.inside.names.1.1 in
    let same : run ≡ c.args.self.now = sym (names_are find c.self.inside.count c.self.inside.names run (sym all) are) ∙ c.self.view_is in
    (first, step, some, subst (λ (l : List ℕ). l ≡ numbers_by first step (length l)) same is)

pub returns-clause-few : goal.returns-clause-few
returns-clause-few c e =
    let same = equal c.len.result c.self.inside.count e in
    let many : c.self.inside.count ≡ length c.args.self.now = c.self.inside.names.1.0 ∙ ap (λ (l : List ℕ). length l) c.self.view_is in
    omega (arith, same, many, c.len.ensures.small)
