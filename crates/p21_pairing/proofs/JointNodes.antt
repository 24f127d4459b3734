-- The nodes of both files are those of the joined file with other names, and so are their ranks.
use Rattle.std.specs.Prelude.{◌≡◌, ◌⊎◌, ◌<◌, ◌≤◌, ◌+◌, ◌-◌, ℕ, List, [], ◌∷◌, ◌++◌, map, length, Contains}
use Rattle.std.proofs.Common.{arith, ap, sym, subst, ◌∙◌, inl, inr, get_or, ext_get_or}
use Rattle.std.proofs.lemmas.List.{get_or-map, length-map, length-append, get_or_append_left, get_or-append_right, get_or_push, map-append}
use Rattle.std.proofs.lemmas.List.Elements.{Contains-append_cases, Contains-append_left, Contains-append_right}
use Rattle.p21_spec_basics.proofs.Members.{Contains-mapped, Contains-unmapped}
use Rattle.p21_spec_basics.proofs.Shuffles.{NoneTwice, Shuffled, Shuffled-joined, Shuffled-mapped, Shuffled-members, Shuffled-none_twice, Shuffled-symmetric}
use Rattle.p21_spec_exchange.specs.DataSection.{Heading}
use Rattle.p21_spec_file.proofs.SameFiles.{SameFileMeaning-reflexive}
use Rattle.p21_spec_file.specs.File.{FileMeaning}
use Rattle.p21_spec_file.specs.Meaning.{Typed}
use Rattle.p21_spec_numbering.proofs.CopiesMoved.{typed-twice}
use Rattle.p21_spec_numbering.proofs.Labels.{unnamed-renamed}
use Rattle.p21_spec_numbering.proofs.Lists.{map-agree, map-mapped}
use Rattle.p21_spec_numbering.proofs.Moved.{names-none_twice}
use Rattle.p21_spec_numbering.proofs.Orders.{number-injective, position-at, position-low}
use Rattle.p21_spec_numbering.proofs.Renaming.{names-renamed}
use Rattle.p21_spec_numbering.proofs.Theorems.{ranks-are_invariant}
use Rattle.p21_spec_numbering.proofs.Uses.{moved_use, typed_uses-renamed}
use Rattle.p21_spec_numbering.specs.Laws.{IsProper, ranking_of}
use Rattle.p21_spec_numbering.specs.Numbered.{heading_label, unnamed_text}
use Rattle.p21_spec_numbering.specs.Ordered.{position}
use Rattle.p21_spec_numbering.specs.Renamed.{names, renamed, renamed_instance, renamed_section, renamed_typed, renamed_values, IsInjectiveOn}
use Rattle.p21_spec_numbering.specs.Uses.{Use, typed_uses}
use Rattle.p21_spec_pairing.proofs.Parity.{at-even, at-odd, by_parity}
use Rattle.p21_spec_pairing.proofs.Together.{names-joined, proper-joined, proper-renamed}
use Rattle.p21_spec_pairing.specs.Joined.{joined, of_first, of_second}
use Rattle.p21_spec_schema.specs.Schema.{Schema}
use Rattle.p21_numbering.specs.Instances.{AreInstancesOf, Instance, IsInstanceOf, instance_at, names_of, no_instance}
use Rattle.p21_numbering.specs.Nodes.{HaveRanks, Node, name_at, names as node_names, no_node, node_at}
use Rattle.p21_numbering.specs.NodesOf.{AreNodesOf, IsNodeOf, row_of_texts}
use Rattle.p21_numbering.specs.NewNames.{new_name}
use Rattle.p21_numbering.specs.declared.uses.PlacedUse.{PlacedUse}
use Rattle.p21_numbering.proofs.Decisions.{got}
use Rattle.p21_numbering.proofs.GivenNames.{GetBelow}
use Rattle.std.specs.BTreeMap.{BTreeMap}
use Rattle.p21_pairing.specs.Population.{AreJointRanks, AreMovedNodes, ArePositions, IsMovedNode}
use Rattle.std.specs.Prelude.{Some}

cases_below : (k n : ℕ) → (k < n) ⊎ (n ≤ k)
cases_below k n = grind arith

-- the instance of one file has its node in the joined file with other names
module _ (s : Schema) (c j : FileMeaning) (p moved into : ℕ → ℕ) (turns : (n : ℕ) → p (into n) ≡ moved n)
    (inside : (i : ℕ × Typed) → Contains (renamed into c).instances i → Contains j.instances i)
    (inside_sections : (i : ℕ × Heading) → Contains (renamed into c).instance_sections i → Contains j.instance_sections i)
    (all : List Instance) (are : AreInstancesOf c all) where
  pub moved-node : (k : ℕ) → k < length all → (node : Node) → IsMovedNode s moved (instance_at all k) node → IsNodeOf s (renamed p j) node
  moved-node k low node is = record {
    typed = turned;
    heading = own.heading;
    instance = (let P : ℕ → Type 0 = λ n. Contains (renamed p j).instances (n, turned) in
        subst P named (Contains-mapped (renamed_instance p) j.instances (into is.own.name, renamed_typed into own.typed)
        (inside (into is.own.name, renamed_typed into own.typed)
        (Contains-mapped (renamed_instance into) c.instances (is.own.name, own.typed) own.instance))));
    section = (let P : ℕ → Type 0 = λ n. Contains (renamed p j).instance_sections (n, own.heading) in
        subst P named (Contains-mapped (renamed_section p) j.instance_sections (into is.own.name, own.heading)
        (inside_sections (into is.own.name, own.heading) (Contains-mapped (renamed_section into) c.instance_sections
        (is.own.name, own.heading) own.section))));
    label_is = is.label_is ∙ own.label_is ∙ ap (λ (t : List ℕ). row_of_texts (heading_label (Some own.heading) ++ (t ∷ [])))
        (sym same_text);
    uses_are = is.uses_are ∙ ap (map (moved_use moved)) own.uses_are ∙ sym (typed_uses-renamed moved own.typed)
        ∙ ap typed_uses (sym (typed-twice into p moved own.typed (λ t among. turns t)));
  }
    where
      inst : IsInstanceOf c (instance_at all k)
      inst = are.each k low

      own : IsNodeOf s c is.own
      own = is.own_is c inst.section inst.instance inst.in_section inst.heading_is

      turned : Typed
      turned = renamed_typed p (renamed_typed into own.typed)

      named : p (into is.own.name) ≡ node.name
      named = turns is.own.name ∙ ap moved is.own_name ∙ sym is.name_is

      same_text : unnamed_text s own.typed.entities turned.values ≡ unnamed_text s own.typed.entities own.typed.values
      same_text = unnamed-renamed s p own.typed.entities (map (renamed_values into) own.typed.values)
          ∙ unnamed-renamed s into own.typed.entities own.typed.values

-- names among instances
module _ (c : FileMeaning) (proper : IsProper c) (all : List Instance) (are : AreInstancesOf c all) where
  pub own-once : NoneTwice (names_of all)
  own-once = Shuffled-none_twice (names c) (names_of all) (Shuffled-symmetric (names_of all) (names c) are.names_are)
      (names-none_twice c proper.0)

  pub own-among : (n : ℕ) → Contains (names c) n → Contains (names_of all) n
  own-among n among = Shuffled-members (names c) (names_of all) (Shuffled-symmetric (names_of all) (names c) are.names_are) n among

  pub among-own : (n : ℕ) → Contains (names_of all) n → Contains (names c) n
  among-own n among = Shuffled-members (names_of all) (names c) are.names_are n among

  pub member-at : (k : ℕ) → k < length all → Contains (names c) (instance_at all k).name
  member-at k low = Contains-mapped (λ (i : ℕ × Typed). i.0) c.instances ((instance_at all k).name, (instance_at all k).typed)
      (are.each k low).instance

  position-within : (moved : ℕ → ℕ) (start : ℕ) → ArePositions moved start (names_of all) → (n : ℕ) → Contains (names c) n
      → (moved n ≡ start + position (names_of all) n) × (position (names_of all) n < length all)
  position-within moved start positions n among =
      let low = position-low (names_of all) n (own-among n among) in
      (positions own-once n (own-among n among), omega (arith, low, length-map all (λ (i : Instance). i.name)))

  positions-differ : (moved : ℕ → ℕ) (start : ℕ) → ArePositions moved start (names_of all) → (m n : ℕ) → Contains (names c) m
      → Contains (names c) n → moved m ≡ moved n → m ≡ n
  positions-differ moved start positions m n among among_ same =
      let one = (position-within moved start positions m among).0 in
      let other = (position-within moved start positions n among_).0 in
      number-injective (names_of all) m n (own-among m among) (own-among n among_) (omega (arith, one, other, same))

module _ (s : Schema) (a b : FileMeaning) (proper : IsProper a) (proper_ : IsProper b) (first second : List Instance)
    (are : AreInstancesOf a first) (are_ : AreInstancesOf b second)
    (nodes : List Node) (long : length nodes ≡ length first + length second) (one : AreMovedNodes s first 0 nodes)
    (other : AreMovedNodes s second (length first) nodes) where
  abbrev p : ℕ → ℕ
  p = by_parity one.moved other.moved

  abbrev j : FileMeaning
  j = joined a b

  p-first : (n : ℕ) → p (of_first n) ≡ one.moved n
  p-first n = at-even one.moved other.moved n

  p-second : (n : ℕ) → p (of_second n) ≡ other.moved n
  p-second n = at-odd one.moved other.moved n

  -- an instance of the joined file is of one of the two
  abbrev Which : ℕ → Type 0
  Which k = ((n : ℕ) × Contains (names a) n × (of_first n ≡ k)) ⊎ ((n : ℕ) × Contains (names b) n × (of_second n ≡ k))

  which : (k : ℕ) → Contains (names j) k → Which k
  which k at =
      let P : List ℕ → Type 0 = λ ns. Contains ns k in
      elim (Contains-append_cases (map of_first (names a)) (map of_second (names b)) k (subst P (names-joined a b) at)) [
        | inl h ↦ inl (Contains-unmapped of_first (names a) k h)
        | inr h ↦ inr (Contains-unmapped of_second (names b) k h)
      ]

  apart : (m n : ℕ) → Contains (names a) m → Contains (names b) n → one.moved m ≡ other.moved n → ⊥
  apart m n among among_ same =
      let (is, low) = position-within a proper first are one.moved 0 one.positions m among in
      let (is_, low_) = position-within b proper_ second are_ other.moved (length first) other.positions n among_ in
      omega (arith, is, is_, low, same)

  injective : IsInjectiveOn (names j) p
  injective m n among among_ same = by m n same (which m among) (which n among_)
    where
      by : (m n : ℕ) → p m ≡ p n → Which m → Which n → m ≡ n
      by m n same (inl (i, at, is)) (inl (k, at_, is_)) =
          sym is ∙ ap of_first (positions-differ a proper first are one.moved 0 one.positions i k at at_
          (sym (p-first i) ∙ ap p is ∙ same ∙ ap p (sym is_) ∙ p-first k)) ∙ is_
      by m n same (inr (i, at, is)) (inr (k, at_, is_)) =
          sym is ∙ ap of_second (positions-differ b proper_ second are_ other.moved (length first) other.positions i k at at_
          (sym (p-second i) ∙ ap p is ∙ same ∙ ap p (sym is_) ∙ p-second k)) ∙ is_
      by m n same (inl (i, at, is)) (inr (k, at_, is_)) =
          absurd (apart i k at at_ (sym (p-first i) ∙ ap p is ∙ same ∙ ap p (sym is_) ∙ p-second k))
      by m n same (inr (i, at, is)) (inl (k, at_, is_)) =
          absurd (apart k i at_ at (sym (p-first k) ∙ ap p is_ ∙ sym same ∙ ap p (sym is) ∙ p-second i))

  -- ---- the nodes

  node-first : (k : ℕ) → k < length first → IsNodeOf s (renamed p j) (node_at nodes (0 + k))
  node-first k low =
      moved-node s a j p one.moved of_first p-first
      (λ i at. Contains-append_left (renamed of_first a).instances (renamed of_second b).instances i at)
      (λ i at. Contains-append_left (renamed of_first a).instance_sections (renamed of_second b).instance_sections i at)
      first are k low (node_at nodes (0 + k)) (one.each k low)

  node-second : (k : ℕ) → k < length second → IsNodeOf s (renamed p j) (node_at nodes (length first + k))
  node-second k low =
      moved-node s b j p other.moved of_second p-second
      (λ i at. Contains-append_right (renamed of_first a).instances (renamed of_second b).instances i at)
      (λ i at. Contains-append_right (renamed of_first a).instance_sections (renamed of_second b).instance_sections i at)
      second are_ k low (node_at nodes (length first + k)) (other.each k low)

  each-node : (k : ℕ) → k < length nodes → IsNodeOf s (renamed p j) (node_at nodes k)
  each-node k low =
      let P : ℕ → Type 0 = λ i. IsNodeOf s (renamed p j) (node_at nodes i) in
      elim (cases_below k (length first)) [
        | inl below ↦ (let same : 0 + k ≡ k = omega arith in subst P same (node-first k below))
        | inr past ↦ (let same : length first + (k - length first) ≡ k = omega (arith, past) in
            subst P same (node-second (k - length first) (omega (arith, past, low, long))))
      ]

  name-first : (k : ℕ) → k < length first → name_at nodes k ≡ one.moved (instance_at first k).name
  name-first k low = let same : k ≡ 0 + k = omega arith in ap (name_at nodes) same ∙ (one.each k low).name_is

  name-second : (k : ℕ) → k < length second → name_at nodes (length first + k) ≡ other.moved (instance_at second k).name
  name-second k low = (other.each k low).name_is

  name_of : Instance → ℕ
  name_of i = i.name

  -- the names of the nodes
  own-names : node_names nodes ≡ map one.moved (names_of first) ++ map other.moved (names_of second)
  own-names = ext_get_or 0 (node_names nodes) (map one.moved (names_of first) ++ map other.moved (names_of second)) sizes at
    where
      size-first : length (map one.moved (names_of first)) ≡ length first
      size-first = length-map (names_of first) one.moved ∙ length-map first (λ (i : Instance). i.name)

      size-second : length (map other.moved (names_of second)) ≡ length second
      size-second = length-map (names_of second) other.moved ∙ length-map second (λ (i : Instance). i.name)

      sizes : length (node_names nodes) ≡ length (map one.moved (names_of first) ++ map other.moved (names_of second))
      sizes =
          let joined_size = length-append (map one.moved (names_of first)) (map other.moved (names_of second)) in
          let own_size = length-map nodes (λ (n : Node). n.name) in
          omega (arith, joined_size, own_size, long, size-first, size-second)

      at : (k : ℕ) → k < length (node_names nodes) → get_or (node_names nodes) k 0 ≡ get_or
          (map one.moved (names_of first) ++ map other.moved (names_of second)) k 0
      at k low =
          let own_size = length-map nodes (λ (n : Node). n.name) in
          let below : k < length nodes = omega (arith, low, own_size) in
          let here : get_or (node_names nodes) k 0 ≡ name_at nodes k = get_or-map (λ (n : Node). n.name) nodes k no_node 0 below in
          elim (cases_below k (length first)) [
            | inl under ↦
                here ∙ name-first k under
                ∙ sym (get_or_append_left (map one.moved (names_of first)) (map other.moved (names_of second)) 0 k
                (omega (arith, under, size-first))
                ∙ get_or-map one.moved (names_of first) k 0 0 (omega (arith, under, length-map first (λ (i : Instance). i.name)))
                ∙ ap one.moved (get_or-map (λ (i : Instance). i.name) first k no_instance 0 under))
            | inr past ↦
                let i : ℕ = k - length first in
                let same : k ≡ length first + i = omega (arith, past) in
                let under : i < length second = omega (arith, past, below, long) in
                here ∙ ap (name_at nodes) same ∙ name-second i under
                ∙ sym (get_or-append_right (map one.moved (names_of first)) (map other.moved (names_of second)) (length first) k 0
                size-first past
                ∙ get_or-map other.moved (names_of second) i 0 0 (omega (arith, under, length-map second (λ (i : Instance). i.name)))
                ∙ ap other.moved (get_or-map (λ (i : Instance). i.name) second i no_instance 0 under))
          ]

  turned-names : names (renamed p j) ≡ map one.moved (names a) ++ map other.moved (names b)
  turned-names =
      names-renamed p j ∙ ap (map p) (names-joined a b) ∙ map-append p (map of_first (names a)) (map of_second (names b))
      ∙ ap (λ (ns : List ℕ). ns ++ map p (map of_second (names b)))
      (map-mapped p of_first (names a) ∙ map-agree (λ n. p (of_first n)) one.moved (names a) (λ n among. p-first n))
      ∙ ap (λ (ns : List ℕ). map one.moved (names a) ++ ns)
      (map-mapped p of_second (names b) ∙ map-agree (λ n. p (of_second n)) other.moved (names b) (λ n among. p-second n))

  are-nodes : AreNodesOf s (renamed p j) nodes
  are-nodes = record {
    names_are =
        let P : List ℕ → Type 0 = λ ns. Shuffled ns (names (renamed p j)) in
        let Q : List ℕ → Type 0 = λ ns. Shuffled (map one.moved (names_of first) ++ map other.moved (names_of second)) ns in
        subst P (sym own-names) (subst Q (sym turned-names)
        (Shuffled-joined (map one.moved (names_of first)) (map one.moved (names a)) (map other.moved (names_of second))
        (map other.moved (names b))
        (Shuffled-mapped one.moved (names_of first) (names a) are.names_are)
        (Shuffled-mapped other.moved (names_of second) (names b) are_.names_are)));
    each = each-node;
  }

  both : IsProper j
  both = proper-joined a b proper proper_

  turned : IsProper (renamed p j)
  turned = proper-renamed p j both injective

  -- names don't count for ranks
  kept : (n : ℕ) → Contains (names j) n → ranking_of s (renamed p j) (p n) ≡ ranking_of s j n
  kept n among = ranks-are_invariant s p j (renamed p j) both turned injective (SameFileMeaning-reflexive (renamed p j)) n among

  of-first : (n : ℕ) → Contains (names a) n → Contains (names j) (of_first n)
  of-first n among =
      let P : List ℕ → Type 0 = λ ns. Contains ns (of_first n) in
      subst P (sym (names-joined a b)) (Contains-append_left (map of_first (names a)) (map of_second (names b)) (of_first n)
      (Contains-mapped of_first (names a) n among))

  of-second : (n : ℕ) → Contains (names b) n → Contains (names j) (of_second n)
  of-second n among =
      let P : List ℕ → Type 0 = λ ns. Contains ns (of_second n) in
      subst P (sym (names-joined a b)) (Contains-append_right (map of_first (names a)) (map of_second (names b)) (of_second n)
      (Contains-mapped of_second (names b) n among))

  module _ (ranks : List ℕ) (have : ((m : FileMeaning) → IsProper m → AreNodesOf s m nodes → HaveRanks (ranking_of s m) nodes ranks)) where
    pub joint-ranks : AreJointRanks (ranking_of s) a b first second ranks
    joint-ranks = record {
      of_one = λ k low.
          let n : ℕ = (instance_at first k).name in
          let at = have (renamed p j) turned are-nodes k (omega (arith, low, long)) in
          at ∙ ap (ranking_of s (renamed p j)) (name-first k low ∙ sym (p-first n))
          ∙ kept (of_first n) (of-first n (member-at a proper first are k low));
      of_other = λ k low.
          let n : ℕ = (instance_at second k).name in
          let at = have (renamed p j) turned are-nodes (length first + k) (omega (arith, low, long)) in
          at ∙ ap (ranking_of s (renamed p j)) (name-second k low ∙ sym (p-second n))
          ∙ kept (of_second n) (of-second n (member-at b proper_ second are_ k low));
    }

-- ---- positions that are given one by one, and references

pub positions-given : (found : BTreeMap ℕ ℕ) (ns : List ℕ) (start k : ℕ) → length ns ≤ k → GetBelow found ns (λ j. start + j) k
    → ArePositions (new_name found) start ns
positions-given found ns start k long given once n among =
    let (low, same) = got ns (position ns n) n 0 (position-at ns n among) in
    ap (new_name found) (sym same) ∙ given once (position ns n) (omega (arith, low, long))

abbrev pub held_use : PlacedUse → Use
held_use u = (u.place.items, u.target)

abbrev pub moved_held : (ℕ → ℕ) → PlacedUse → Use
moved_held f u = moved_use f (held_use u)

split_last : (m n : ℕ) → m < n + 1 → (m < n) ⊎ (m ≡ n)
split_last m n low = grind arith

-- one node more
pub behind-more : (P : ℕ → Node → Type 0) (xs : List Node) (x : Node) (start k : ℕ) → length xs ≡ start + k
    → ((j : ℕ) → j < k → P j (node_at xs (start + j))) → P k x
    → (j : ℕ) → j < k + 1 → P j (node_at (xs ++ x ∷ []) (start + j))
behind-more P xs x start k long each one j low = elim (split_last j k low) [
  | inl below ↦ (let Q : Node → Type 0 = λ n. P j n in
      subst Q (sym (get_or_append_left xs (x ∷ []) no_node (start + j) (omega (arith, below, long)))) (each j below))
  | inr same ↦ (let Q : ℕ → Type 0 = λ i. P i (node_at (xs ++ x ∷ []) (start + i)) in let R : Node
      → Type 0 = λ n. P k n in subst Q (sym same) (subst R (sym (get_or_push xs x no_node (start + k) long)) one))
]
