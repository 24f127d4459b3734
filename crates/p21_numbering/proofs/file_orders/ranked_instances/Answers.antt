use Rattle.std.specs.Prelude.{◌≡◌, ◌<◌, ◌+◌, ◌∷◌, ◌++◌, [], ℕ, List}
use Rattle.std.proofs.Common.{arith, rules, ap, sym, subst, ◌∙◌, get_or}
use Rattle.std.proofs.lemmas.List.{get_or-map, length-map, map-append}
use Rattle.p21_numbering.specs.declared.instances.Instance.{Instance as Code}
use Rattle.p21_numbering.specs.declared.ranked.RankedInstance.{RankedInstance as Made}
use Rattle.p21_numbering.specs.Instances.{Instance, file_instance, file_instances, instance_at, no_instance}
use Rattle.p21_numbering.specs.NodesOf.{HasKnownParts}
use Rattle.p21_numbering.specs.Ranked.{Ranked, held_instance, held_instances, no_instance as no_ranked}
use Rattle.p21_numbering.specs.RankedBy.{IsRankedBy}
use Rattle.p21_numbering.specs.Standing.{Standing, standing_of}
use Rattle.p21_numbering.proofs.Gathering.{each-more}
use Rattle.p21_numbering.proofs.LabelRows.{each-at}
use Rattle.p21_numbering.proofs.file_orders.ranked_instances.Goals as goal

pub ranked-requires : goal.ranked-requires
ranked-requires c = each-at (λ (i : Instance). HasKnownParts c.args.schema.now i.typed) file_instance c.args.instances.now c.loop-k.k
    c.index-instances-k.result c.index-instances-k.is c.loop-k-test.true c.requires

pub loop-k-preserved : goal.loop-k-preserved
loop-k-preserved c =
    let st : Standing = standing_of c.args.standings.now in
    let all : List Code = c.args.instances.now in
    let k : ℕ = c.loop-k.k in
    let one : Code = c.index-instances-k.result in
    let made : Made = c.in_ok-made.made in
    let before : List Made = c.loop-k.all.items in
    let P : ℕ → Ranked → Type 0 = λ j r. IsRankedBy c.args.schema.now st (instance_at (file_instances all) j) r in
    let Q : Instance → Type 0 = λ i. IsRankedBy c.args.schema.now st i (held_instance made) in
    let at : instance_at (file_instances all) k ≡ file_instance one = get_or-map file_instance all k one no_instance c.loop-k-test.true
    ∙ ap file_instance (sym c.index-instances-k.is) in
    let R : List Ranked → Type 0 = λ rs. (j : ℕ) → j < k + 1 → P j (get_or rs j no_ranked) in
    let more : held_instances c.push.new.self.items ≡ held_instances before ++ held_instance made ∷ [] =
    ap held_instances c.in_ok-push.ensures.items ∙ map-append held_instance before (made ∷ []) in
    record {
      size = search rules;
      each = subst R (sym more) (each-more no_ranked P (held_instances before) (held_instance made) k
          (length-map before held_instance ∙ c.loop-k.invariant.size) c.loop-k.invariant.each (subst Q (sym at) c.in_ok-made.ensures));
    }

pub returns-clause-size : goal.returns-clause-size
returns-clause-size c = omega (arith, c.loop-k.invariant.size, c.loop-k-test.false, c.loop-k.auto.k-end)

pub returns-clause-each : goal.returns-clause-each
returns-clause-each c k low = c.loop-k.invariant.each k (omega (arith, low, c.loop-k-test.false))
