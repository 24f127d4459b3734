use Rattle.std.specs.Prelude.{ℕ, List, Contains, length}
use Rattle.std.proofs.Common.{rules, subst}
use Rattle.p21_numbering.specs.Arrays.{Use, rank_at, ranks_of, uses_of}
use Rattle.p21_numbering.specs.Keyed.{IsKeyed}
use Rattle.p21_numbering.proofs.Gathering.{uses-within, rows-more}
use Rattle.p21_numbering.proofs.key_rows.keys.Goals as goal

pub key_among-requires-clause-uses : goal.key_among-requires-clause-uses
key_among-requires-clause-uses c u among =
    let P : List Use → Type 0 = λ us. Contains us u in
    uses-within (length c.args.rank.now) c.args.uses.now c.requires.uses c.loop-n.n u (subst P c.of.ensures among)

pub key_among-requires-clause-users : goal.key_among-requires-clause-users
key_among-requires-clause-users c u among =
    let P : List Use → Type 0 = λ us. Contains us u in
    uses-within (length c.args.rank.now) c.args.users.now c.requires.users c.loop-n.n u (subst P c.of-in-loop-n.ensures among)

pub loop-n-preserved : goal.loop-n-preserved
loop-n-preserved c =
    let rank : List ℕ = c.args.rank.now in
    let own : ℕ = rank_at rank c.loop-n.n in
    let P : List Use → Type 0 = λ us. IsKeyed own (rank_at c.args.sizes.now own) (ranks_of rank c.args.fresh.now) us
    c.of-in-loop-n.result.now c.in_ok-key.key.items in
    let Q : List Use → Type 0 = λ us. IsKeyed own (rank_at c.args.sizes.now own) (ranks_of rank c.args.fresh.now)
    (uses_of c.args.uses.now c.loop-n.n) us c.in_ok-key.key.items in
    let same : Q (uses_of c.args.users.now c.loop-n.n) = subst Q c.of-in-loop-n.ensures (subst P c.of.ensures c.in_ok-key.ensures) in (
      search rules,
      rows-more (λ m row. IsKeyed (rank_at rank m) (rank_at c.args.sizes.now (rank_at rank m)) (ranks_of rank c.args.fresh.now)
          (uses_of c.args.uses.now m) (uses_of c.args.users.now m) row) c.loop-n.keys.items c.push.new.self.items c.in_ok-key.key c.loop-n.n
          c.loop-n.invariant.0 c.in_ok-push.ensures.items c.loop-n.invariant.1 same,
    )
