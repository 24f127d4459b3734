use Rattle.std.specs.List.{flat_map, range_with_len}
use Rattle.std.specs.List.Sorted.{IsPermutation}
use Rattle.std.specs.Prelude.{◌≡◌, ◌<◌, ℕ, List, Contains, Err, Some, None, length, map}
use Rattle.std.proofs.Common.{arith, ap, sym, subst, ◌∙◌}
use Rattle.std.proofs.lemmas.List.{length-map}
use Rattle.p21_spec_numbering.specs.Copies.{IsAligned}
use Rattle.p21_numbering.specs.declared.orders.Unordered.{Unordered}
use Rattle.p21_numbering.specs.Arrays.{Entry}
use Rattle.p21_numbering.specs.Joining.{Connected, number_at}
use Rattle.p21_numbering.specs.Ordering.{AreAlike, FindsClash, Orders, entries_of, pairs_from}
use Rattle.p21_numbering.specs.Ranked.{Ranked, held_instance, held_instances, name_of}
use Rattle.p21_numbering.proofs.Answered.{clash-alike, ordered-so}
use Rattle.p21_numbering.proofs.Decisions.{ArePairs, own}
use Rattle.p21_numbering.proofs.FoundPairs.{pairs-are, pairs-sound}
use Rattle.p21_numbering.proofs.SortedCopies.{clashing, entry-is}
use Rattle.p21_numbering.proofs.orders.tight_order.Goals as goal

pub joined_parts-requires : goal.joined_parts-requires
joined_parts-requires c p among =
    let all : List Ranked = held_instances c.args.instances.now in
    let long : length all ≡ length c.args.instances.now = length-map c.args.instances.now held_instance in
    let from : ℕ → List (ℕ × ℕ) = pairs_from c.in_ok-positions.positions all in
    let is : c.in_ok-pairs.pairs.items ≡ flat_map from (range_with_len 0 (length all)) = c.in_ok-pairs.ensures
    ∙ ap (λ n. flat_map from (range_with_len 0 n)) (sym long) in
    let P : List (ℕ × ℕ) → Type 0 = λ ps. Contains ps p in
    let (low, low_, beside) = pairs-sound all c.in_ok-positions.positions c.in_ok-positions.ensures c.in_ok-pairs.pairs.items is p
    (subst P c.deref.ensures.value among) in
    (omega (arith, low, long), omega (arith, low_, long))

pub clash-requires : goal.clash-requires
clash-requires c e among =
    let all : List Ranked = held_instances c.args.instances.now in
    let long : length all ≡ length c.args.instances.now = length-map c.args.instances.now held_instance in
    let P : List Entry → Type 0 = λ es. Contains es e in
    let (low, own_) = entry-is all c.deref-2.result.now c.in_ok-sorted.sorted.items c.in_ok-sorted.ensures.permutation e
    (subst P c.deref-3.ensures.value among) in
    omega (arith, low, long)

pub at-requires : goal.at-requires
at-requires c =
    let all : List Ranked = held_instances c.args.instances.now in
    let long : length all ≡ length c.args.instances.now = length-map c.args.instances.now held_instance in
    let Q : List Entry → Type 0 = λ es. FindsClash all es (Some c.in-Some.found) in
    let clash = clashing all c.deref-2.result.now c.in_ok-sorted.sorted.items c.in_ok-sorted.ensures.permutation c.in-Some.found
    (subst Q c.deref-3.ensures.value c.in-Some.ensures) in
    let low = clash.low in
    omega (arith, low, long)

pub at-requires-in-Some : goal.at-requires-in-Some
at-requires-in-Some c =
    let all : List Ranked = held_instances c.args.instances.now in
    let long : length all ≡ length c.args.instances.now = length-map c.args.instances.now held_instance in
    let Q : List Entry → Type 0 = λ es. FindsClash all es (Some c.in-Some.found) in
    let clash = clashing all c.deref-2.result.now c.in_ok-sorted.sorted.items c.in_ok-sorted.ensures.permutation c.in-Some.found
    (subst Q c.deref-3.ensures.value c.in-Some.ensures) in
    let low = clash.low_other in
    omega (arith, low, long)

pub returns-in-Some : goal.returns-in-Some
returns-in-Some c s formed bytes m reads ranking are =
    let all : List Ranked = held_instances c.args.instances.now in
    let long : length all ≡ length c.args.instances.now = length-map c.args.instances.now held_instance in
    let from : ℕ → List (ℕ × ℕ) = pairs_from c.in_ok-positions.positions all in
    let pairs : List (ℕ × ℕ) = c.in_ok-pairs.pairs.items in
    let parts : List ℕ = c.in_ok-parts.parts.items in
    let sorted : List Entry = c.in_ok-sorted.sorted.items in
    let is : pairs ≡ flat_map from (range_with_len 0 (length all)) = c.in_ok-pairs.ensures
    ∙ ap (λ n. flat_map from (range_with_len 0 n)) (sym long) in
    let are_pairs : ArePairs all pairs = pairs-are all c.in_ok-positions.positions c.in_ok-positions.ensures pairs is
    (own s formed bytes m reads ranking all are) in
    let joined : (p : ℕ × ℕ) → Contains pairs p → number_at parts p.0 ≡ number_at parts p.1 =
    λ p among. c.in_ok-parts.ensures.joined p (subst (λ (ps : List (ℕ × ℕ)). Contains ps p) (sym c.deref.ensures.value) among) in
    let connected : (j k : ℕ) → j < length all → k < length all → number_at parts j ≡ number_at parts k → Connected pairs j k =
    λ j k low low_ same. subst (λ (ps : List (ℕ × ℕ)). Connected ps j k) c.deref.ensures.value
    (c.in_ok-parts.ensures.connected j k (omega (arith, low, long)) (omega (arith, low_, long)) same) in
    let permuted : IsPermutation (entries_of all parts) sorted =
    subst (λ (ps : List ℕ). IsPermutation (entries_of all ps) sorted) c.deref-2.ensures.value c.in_ok-sorted.ensures.permutation in
    let finds : FindsClash all sorted (Some c.in-Some.found) =
    subst (λ (es : List Entry). FindsClash all es (Some c.in-Some.found)) c.deref-3.ensures.value c.in-Some.ensures in
    let alike = clash-alike s formed bytes m reads ranking all are pairs are_pairs parts joined connected sorted permuted c.in-Some.found
    finds in
    let first : name_of all c.in-Some.found.0 ≡ c.at.result.now.name = ap (λ (r : Ranked). r.name) (sym c.at.ensures) in
    let second : name_of all c.in-Some.found.1 ≡ c.at-in-Some.result.now.name = ap (λ (r : Ranked). r.name) (sym c.at-in-Some.ensures) in
    let P : Unordered → Type 0 = λ fault. Orders ranking m (Err fault) in
    let J : ℕ → Type 0 = λ j. AreAlike ranking m j (name_of all c.in-Some.found.1) in
    let K : ℕ → Type 0 = λ k. AreAlike ranking m c.at.result.now.name k in
    subst P (sym c.alike.ensures) (subst K second (subst J first alike))

pub names_of-requires : goal.names_of-requires
names_of-requires c e among =
    let all : List Ranked = held_instances c.args.instances.now in
    let long : length all ≡ length c.args.instances.now = length-map c.args.instances.now held_instance in
    let P : List Entry → Type 0 = λ es. Contains es e in
    let (low, own_) = entry-is all c.deref-2.result.now c.in_ok-sorted.sorted.items c.in_ok-sorted.ensures.permutation e
    (subst P c.deref-in-None.ensures.value among) in
    omega (arith, low, long)

pub returns : goal.returns
returns c s formed bytes m reads ranking are =
    let all : List Ranked = held_instances c.args.instances.now in
    let long : length all ≡ length c.args.instances.now = length-map c.args.instances.now held_instance in
    let from : ℕ → List (ℕ × ℕ) = pairs_from c.in_ok-positions.positions all in
    let pairs : List (ℕ × ℕ) = c.in_ok-pairs.pairs.items in
    let parts : List ℕ = c.in_ok-parts.parts.items in
    let sorted : List Entry = c.in_ok-sorted.sorted.items in
    let is : pairs ≡ flat_map from (range_with_len 0 (length all)) = c.in_ok-pairs.ensures
    ∙ ap (λ n. flat_map from (range_with_len 0 n)) (sym long) in
    let are_pairs : ArePairs all pairs = pairs-are all c.in_ok-positions.positions c.in_ok-positions.ensures pairs is
    (own s formed bytes m reads ranking all are) in
    let joined : (p : ℕ × ℕ) → Contains pairs p → number_at parts p.0 ≡ number_at parts p.1 =
    λ p among. c.in_ok-parts.ensures.joined p (subst (λ (ps : List (ℕ × ℕ)). Contains ps p) (sym c.deref.ensures.value) among) in
    let connected : (j k : ℕ) → j < length all → k < length all → number_at parts j ≡ number_at parts k → Connected pairs j k =
    λ j k low low_ same. subst (λ (ps : List (ℕ × ℕ)). Connected ps j k) c.deref.ensures.value
    (c.in_ok-parts.ensures.connected j k (omega (arith, low, long)) (omega (arith, low_, long)) same) in
    let permuted : IsPermutation (entries_of all parts) sorted =
    subst (λ (ps : List ℕ). IsPermutation (entries_of all ps) sorted) c.deref-2.ensures.value c.in_ok-sorted.ensures.permutation in
    let no_clash : FindsClash all sorted None = subst (λ (es : List Entry). FindsClash all es None) c.deref-3.ensures.value
    c.in-None.ensures in
    let (decided, aligned) = ordered-so s formed bytes m reads ranking all are pairs are_pairs parts joined connected sorted permuted
    c.requires c.in_ok-sorted.ensures.sorted no_clash in
    let name : Entry → ℕ = λ e. name_of all e.2 in
    let N : List ℕ → Type 0 = λ ns. IsAligned ranking m ns in
    (decided, subst N (sym (c.in_ok-names_of-in-None.ensures ∙ ap (map name) c.deref-in-None.ensures.value)) aligned)
