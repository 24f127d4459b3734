use Rattle.std.specs.Prelude.{◌≡◌, ◌<◌, ◌+◌, ℕ, length}
use Rattle.std.proofs.Common.{arith, ap, subst, ◌∙◌}
use Rattle.std.proofs.lemmas.List.{length-map}
use Rattle.p21_spec_basics.proofs.Members.{Contains-unmapped}
use Rattle.std.specs.Prelude.{List, Contains}
use Rattle.p21_numbering.specs.Arrays.{Edge, Use, other_end, rank_at}
use Rattle.p21_numbering.proofs.Ranges.{own-uses, starts-rise}
use Rattle.p21_numbering.proofs.adjacency.Adjacency.new.Goals as goal

pub returns-clause-are : goal.returns-clause-are
returns-clause-are c =
    let edges : List Edge = c.args.edges.now in
    let at : ℕ → ℕ = λ n. rank_at c.in_ok-starts.starts.items n in
    let size : length c.in_ok-uses.uses.items ≡ length edges = ap length c.in_ok-uses.ensures ∙ length-map edges other_end in
    record {
      long = c.in_ok-starts.ensures.long;
      rise = λ n low. starts-rise edges n (at n) (at (n + 1)) (c.in_ok-starts.ensures.each n (omega (arith, low)))
          (c.in_ok-starts.ensures.each (n + 1) (omega (arith, low)));
      end = λ n low. let is = c.in_ok-starts.ensures.each n low in omega (arith, is.low, size);
      within = λ u among.
          let P : List Use → Type 0 = λ us. Contains us u in
          let (e, inside, is) = Contains-unmapped other_end edges u (subst P c.in_ok-uses.ensures among) in
          let Q : Use → Type 0 = λ v. v.0 < c.args.count in
          subst Q is (c.requires.within e inside);
    }

pub returns-clause-each : goal.returns-clause-each
returns-clause-each c n low =
    let at : ℕ → ℕ = λ n. rank_at c.in_ok-starts.starts.items n in
    own-uses c.args.edges.now c.in_ok-uses.uses.items n (at n) (at (n + 1)) c.in_ok-uses.ensures
    (c.in_ok-starts.ensures.each n (omega (arith, low))) (c.in_ok-starts.ensures.each (n + 1) (omega (arith, low)))
