use Rattle.std.specs.Prelude.{◌++◌, ◌∷◌, [], ℕ, List, map, slice_index_or, take}
use Rattle.std.proofs.Common.{ap, sym, ◌∙◌}
use Rattle.std.proofs.lemmas.List.{map-append, take_more}
use Rattle.std.proofs.lemmas.List.Elements.{Contains-get_or}
use Rattle.p21_numbering.specs.Arrays.{Entry}
use Rattle.p21_numbering.specs.Ranked.{Ranked, held_instances, name_of}
use Rattle.p21_numbering.proofs.orders.names_of.Goals as goal

pub at-one-requires : goal.at-one-requires
at-one-requires c = c.requires (slice_index_or c.args.sorted.now c.loop-entry.entry-index (0, 0, 0))
    (Contains-get_or c.args.sorted.now c.loop-entry.entry-index (0, 0, 0) c.loop-entry-test.true)

pub loop-entry-preserved : goal.loop-entry-preserved
loop-entry-preserved c =
    let i : ℕ = c.loop-entry.entry-index in
    let sorted : List Entry = c.args.sorted.now in
    let name : Entry → ℕ = λ e. name_of (held_instances c.args.instances.now) e.2 in
    c.in_ok-push.ensures.items
    ∙ ap (λ (ns : List ℕ). ns ++ c.at-one.result.now.name ∷ []) c.loop-entry.invariant
    ∙ ap (λ (r : Ranked). map name (take i sorted) ++ r.name ∷ []) c.at-one.ensures
    ∙ sym (ap (map name) (take_more sorted i (0, 0, 0) c.loop-entry-test.true)
    ∙ map-append name (take i sorted) (slice_index_or sorted i (0, 0, 0) ∷ []))
