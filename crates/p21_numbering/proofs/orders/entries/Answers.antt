use Rattle.std.specs.List.{range_with_len}
use Rattle.std.specs.Prelude.{◌++◌, ◌∷◌, [], ℕ, List, map}
use Rattle.std.proofs.Common.{ap, sym, ◌∙◌}
use Rattle.std.proofs.lemmas.List.{map-append}
use Rattle.p21_numbering.specs.Arrays.{Entry}
use Rattle.p21_numbering.specs.Joining.{number_at}
use Rattle.p21_numbering.specs.Ordering.{entry_of}
use Rattle.p21_numbering.specs.Ranked.{Ranked, held_instances}
use Rattle.p21_numbering.proofs.PartSizes.{range-more}
use Rattle.p21_numbering.proofs.orders.entries.Goals as goal

pub loop-k-preserved : goal.loop-k-preserved
loop-k-preserved c =
    let k : ℕ = c.loop-k.k in
    let entry : ℕ → Entry = entry_of (held_instances c.args.instances.now) c.args.parts.now in
    let make : ℕ → Entry = λ rank. (rank, number_at c.args.parts.now k, k) in
    c.in_ok-push.ensures.items
    ∙ ap (λ (es : List Entry). es ++ make c.at-one.result.now.rank ∷ []) c.loop-k.invariant
    ∙ ap (λ (r : Ranked). map entry (range_with_len 0 k) ++ make r.rank ∷ []) c.at-one.ensures
    ∙ sym (ap (map entry) (range-more k) ∙ map-append entry (range_with_len 0 k) (k ∷ []))
