-- The nodes of the instances of a file, and its instances by their ranks.
use Rattle.std.specs.Prelude.{◌≡◌, ◌<◌, ◌^◌, ℕ, Bool, true, false, List, length, Contains, refl}
use Rattle.std.proofs.Common.{arith, ap, sym, subst, ◌∙◌}
use Rattle.std.proofs.lemmas.List.{length-map, get_or-map}
use Rattle.std.proofs.lemmas.List.FromFn.{fill_by_all}
use Rattle.p21_spec_basics.proofs.Shuffles.{Shuffled}
use Rattle.p21_spec_basics.proofs.Members.{Contains-mapped}
use Rattle.p21_spec_file.specs.File.{FileMeaning}
use Rattle.p21_spec_file.specs.Meaning.{Typed}
use Rattle.p21_spec_numbering.specs.Laws.{IsProper}
use Rattle.p21_spec_numbering.specs.Ordered.{Ranking}
use Rattle.p21_spec_numbering.specs.Renamed.{names}
use Rattle.p21_spec_schema.specs.Schema.{Schema}
use Rattle.p21_numbering.specs.Instances.{AreInstancesOf, Instance, instance_at, names_of, no_instance}
use Rattle.p21_numbering.specs.Nodes.{Node, names as node_names, node_at}
use Rattle.p21_numbering.specs.NodesOf.{AreNodesOf, IsNodeFor}
use Rattle.p21_numbering.specs.Ranked.{AreRanked, IsRanked, Ranked, no_instance as no_ranked, names_of as ranked_names, ranked_at}
use Rattle.p21_numbering.specs.RankedBy.{IsRankedBy}
use Rattle.p21_numbering.specs.Standing.{IsStanding, Standing, is_shared}
use Rattle.p21_numbering.proofs.RankedOf.{ranked-is}

module _ (s : Schema) (m : FileMeaning) (all : List Instance) (are : AreInstancesOf m all) where
  pub nodes-are : (nodes : List Node) → node_names nodes ≡ names_of all
      → ((k : ℕ) → k < length all → IsNodeFor s (instance_at all k).name (instance_at all k).typed (instance_at all k).heading
      (node_at nodes k)) → AreNodesOf s m nodes
  nodes-are nodes same each = record {
    names_are = (let P : List ℕ → Type 0 = λ ns. Shuffled ns (names m) in subst P (sym same) are.names_are);
    each = λ k low.
        let long : length nodes ≡ length all = sym (length-map nodes (λ (n : Node). n.name)) ∙ ap (λ (ns : List ℕ). length ns) same
        ∙ length-map all (λ (i : Instance). i.name) in
        let below : k < length all = omega (arith, low, long) in
        let is = are.each k below in
        each k below m is.section is.instance is.in_section is.heading_is;
  }

  module _ (ranking : Ranking) (proper : IsProper m) (st : Standing) (standing : IsStanding ranking m st) (rs : List Ranked)
      (long : length rs ≡ length all)
      (each : (k : ℕ) → k < length all → IsRankedBy s st (instance_at all k) (ranked_at rs k)) where
    ranked-name : (k : ℕ) → k < length all → (ranked_at rs k).name ≡ (instance_at all k).name
    ranked-name k low = by (is_shared st (instance_at all k).name) refl
      where
        by : (b : Bool) → is_shared st (instance_at all k).name ≡ b → (ranked_at rs k).name ≡ (instance_at all k).name
        by true shared = ((each k low).sharing shared).name_is
        by false alone = ((each k low).alone alone).name_is

    same-names : ranked_names rs ≡ names_of all
    same-names =
        let name : ℕ → ℕ = λ k. (instance_at all k).name in
        fill_by_all name (ranked_names rs) (length all) 0 (length-map rs (λ (r : Ranked). r.name) ∙ long)
        (λ k low. get_or-map (λ (r : Ranked). r.name) rs k no_ranked 0 (omega (arith, low, long)) ∙ ranked-name k low)
        ∙ sym (fill_by_all name (names_of all) (length all) 0 (length-map all (λ (i : Instance). i.name))
        (λ k low. get_or-map (λ (i : Instance). i.name) all k no_instance 0 low))

    pub ranked-are : ((n : ℕ) → Contains (names m) n → ranking m n < 2 ^ 64) → AreRanked s ranking m rs
    ranked-are small = record {
      names_are = (let P : List ℕ → Type 0 = λ ns. Shuffled ns (names m) in subst P (sym same-names) are.names_are);
      each = λ k low. (let below : k < length all = omega (arith, low, long) in
          ranked-is s ranking m proper st standing (instance_at all k) (are.each k below) (ranked_at rs k) (each k below));
      small = λ k low.
          let below : k < length all = omega (arith, low, long) in
          let is = ranked-is s ranking m proper st standing (instance_at all k) (are.each k below) (ranked_at rs k) (each k below) in
          let named : Contains (names m) (ranked_at rs k).name = member is in
          (let P : ℕ → Type 0 = λ r. r < 2 ^ 64 in subst P (sym is.rank_is) (small (ranked_at rs k).name named));
    }
      where
        member : {r : Ranked} → IsRanked s ranking m r → Contains (names m) r.name
        member {r} is = Contains-mapped (λ (e : ℕ × Typed). e.0) m.instances (r.name, is.typed) is.instance
