use Rattle.std.specs.Prelude.{◌≡◌, ◌<◌, ℕ, List}
use Rattle.p21_spec_numbering.specs.Graph.{Graph, rank_by}
use Rattle.p21_spec_numbering.specs.Fresh.{told}
use Rattle.p21_numbering.specs.Arrays.{AgreeBelow, AreRanks, Represents, rank_at, ranks_of}
use Rattle.p21_numbering.proofs.ending.final_ranks.Given as goal

-- the ranks after as many rounds
abbrev pub invariant-loop-round : goal.invariant-loop-round
invariant-loop-round l = AreRanks l.count l.ranks.rank.items l.ranks.fresh.items
    × ((g : Graph) (place : ℕ → List ℕ) → Represents g place l.count l.uses l.users
    → ((n : ℕ) → n < l.count → rank_at l.fn.labelled.items n ≡ rank_by g.label g.nodes n)
    → AgreeBelow l.count (ranks_of l.ranks.rank.items l.ranks.fresh.items) (told g l.round))
