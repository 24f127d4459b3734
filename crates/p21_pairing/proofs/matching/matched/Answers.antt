use Rattle.std.specs.Prelude.{◌≡◌, ◌+◌, ℕ, List, Option, length}
use Rattle.std.proofs.Common.{ap, sym, subst, ◌∙◌}
use Rattle.p21_numbering.specs.Arrays.{rank_at}
use Rattle.p21_pairing.specs.Left.{NoneLeft}
use Rattle.p21_pairing.specs.Pairs.{HasOwnRank}
use Rattle.p21_pairing.proofs.Matched.{no-pairs, own-alone}
use Rattle.p21_pairing.proofs.matching.matched.Goals as goal

pub pair_alone-requires-clause-pairs : goal.pair_alone-requires-clause-pairs
pair_alone-requires-clause-pairs c = no-pairs c.args.kinds.now c.in_ok-none.none.partners.items c.in_ok-none.none.owners.items
    c.in_ok-none.ensures.partners c.in_ok-none.ensures.owners

pub returns : goal.returns
returns c =
    let ranks : List ℕ = c.args.ranks.now in
    let kinds : List ℕ = c.args.kinds.now in
    let ps : List (Option ℕ) = c.in_ok-none.none.partners.items in
    let os : List (Option ℕ) = c.in_ok-none.none.owners.items in
    let first : length ps ≡ c.args.first = c.in_ok-none.ensures.first in
    let alone : length c.in_ok-alone.alone.partners.items ≡ c.args.first = c.in_ok-alone.ensures.more.as_many ∙ first in
    record {
      as_many = c.in_ok-left.ensures.more.as_many ∙ alone;
      as_many_owners = c.in_ok-left.ensures.more.as_many_owners ∙ c.in_ok-alone.ensures.more.as_many_owners ∙ c.in_ok-none.ensures.second;
      pairs = c.in_ok-left.ensures.more.pairs;
      alone = λ i j low low_ own own_ one_rank one_kind.
          let H : ℕ → Type 0 = λ n. HasOwnRank ranks n c.args.second j in
          c.in_ok-left.ensures.more.kept i j (c.in_ok-alone.ensures.alone i j
          (own-alone ranks 0 c.args.first ps first c.in_ok-none.ensures.partners i low own)
          (own-alone ranks (length ps) c.args.second os c.in_ok-none.ensures.second c.in_ok-none.ensures.owners j low_
          (subst H (sym first) own_))
          (one_rank ∙ ap (λ n. rank_at ranks (n + j)) (sym first)) (one_kind ∙ ap (λ n. rank_at kinds (n + j)) (sym first)));
      none_left =
          let P : ℕ → Type 0 = λ n. NoneLeft kinds n c.in_ok-left.left.partners.items c.in_ok-left.left.owners.items in
          subst P alone (c.in_ok-left.ensures.none_left (λ i k low low_ same. same));
    }
