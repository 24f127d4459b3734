-- Partners are a pairing of the files.
use Rattle.std.specs.Prelude.{◌≡◌, ◌⊎◌, ◌<◌, ◌+◌, ℕ, List, Option, Some, None, length, Contains}
use Rattle.std.proofs.Common.{arith, ap, sym, subst, ◌∙◌, inl, inr}
use Rattle.std.proofs.lemmas.Option.{none-some, same_Some}
use Rattle.p21_spec_basics.proofs.Members.{Contains-at, Contains-unmapped}
use Rattle.p21_spec_file.specs.File.{FileMeaning}
use Rattle.p21_spec_file.specs.Meaning.{Typed}
use Rattle.p21_spec_numbering.proofs.Targets.{one-typed}
use Rattle.p21_spec_numbering.specs.Laws.{IsProper}
use Rattle.p21_spec_numbering.specs.Ordered.{Ranking}
use Rattle.p21_spec_numbering.specs.Renamed.{names, IsInjectiveOn}
use Rattle.p21_spec_pairing.specs.Joined.{joined, of_first, of_second}
use Rattle.p21_spec_pairing.specs.Pairing.{AreAlone, ArePartners, Came, HaveOneSet, IsPairing, Went}
use Rattle.p21_numbering.specs.Arrays.{rank_at}
use Rattle.p21_numbering.specs.Instances.{AreInstancesOf, Instance, instance_at, names_of, no_instance}
use Rattle.p21_numbering.proofs.Decisions.{got, once-at}
use Rattle.p21_pairing.specs.Kinds.{AreKinds, entities_at}
use Rattle.p21_pairing.specs.Left.{AreMatched}
use Rattle.p21_pairing.specs.Pairs.{ArePairs, HasOwnRank, IsAloneIn, partner_at}
use Rattle.p21_pairing.specs.Partners.{AreNamesBy}
use Rattle.p21_pairing.specs.Population.{AreJointRanks}
use Rattle.p21_pairing.proofs.JointNodes.{member-at, own-among, own-once}
use Rattle.p21_pairing.proofs.MorePairs.{below-some, has-or_free}

-- where a name stands
pub record Stands (all : List Instance) (n : ℕ) : Type 0 where
  pub at : ℕ
  pub low : at < length all
  pub is : (instance_at all at).name ≡ n

module _ (c : FileMeaning) (proper : IsProper c) (all : List Instance) (are : AreInstancesOf c all) where
  stands : (n : ℕ) → Contains (names c) n → Stands all n
  stands n among =
      let (i, found, is) = Contains-unmapped (λ (i : Instance). i.name) all n (own-among c proper all are n among) in
      let (k, at) = Contains-at all i found in
      let (low, same) = got all k i no_instance at in
      record { at = k; low = low; is = ap (λ (e : Instance). e.name) same ∙ is }

  one-at : (i k : ℕ) → i < length all → k < length all → (instance_at all i).name ≡ (instance_at all k).name → i ≡ k
  one-at i k low low_ same = once-at (λ (e : Instance). e.name) no_instance all (own-once c proper all are) i k low low_ same

  typed-at : (k : ℕ) → k < length all → (n : ℕ) (x : Typed) → (instance_at all k).name ≡ n → Contains c.instances (n, x)
      → entities_at all k ≡ x.entities
  typed-at k low n x is at =
      let P : ℕ → Type 0 = λ i. Contains c.instances (i, (instance_at all k).typed) in
      ap (λ (y : Typed). y.entities) (one-typed c proper.0 n (instance_at all k).typed x (subst P is (are.each k low).instance) at)

module _ (ranking : Ranking) (a b : FileMeaning) (proper : IsProper a) (proper_ : IsProper b) (first second : List Instance)
    (are : AreInstancesOf a first) (are_ : AreInstancesOf b second)
    (ranks kinds : List ℕ) (joint : AreJointRanks ranking a b first second ranks) (are_kinds : AreKinds first second kinds)
    (ps os : List (Option ℕ)) (matched : AreMatched ranks kinds (length first) (length second) ps os) (f : ℕ → ℕ)
    (named : AreNamesBy ps first second f) where
  below : (j i : ℕ) → partner_at os j ≡ Some i → j < length second
  below j i at = let low = below-some os j i at in omega (arith, low, matched.as_many_owners)

  -- the name of a partner is of the second file
  partner-named : (i j : ℕ) → i < length first → partner_at ps i ≡ Some j → (n : ℕ) → (instance_at first i).name ≡ n
      → (f n ≡ (instance_at second j).name) × (j < length second)
  partner-named i j low at n is = (ap f (sym is) ∙ named.with_partner i j low at, below j i (matched.pairs.there i j at))

  none-there : (i : ℕ) → i < length first → partner_at ps i ≡ None → (n : ℕ) → (instance_at first i).name ≡ n → ¬ Contains (names b) (f n)
  none-there i low free n is among =
      let P : ℕ → Type 0 = λ k. Contains (names_of second) (f k) in
      named.without i low free (subst P (sym is) (own-among b proper_ second are_ (f n) among))

  injective : IsInjectiveOn (names a) f
  injective m n among among_ same =
      by (has-or_free (partner_at ps one.at)) (has-or_free (partner_at ps other.at))
    where
      one : Stands first m
      one = stands a proper first are m among

      other : Stands first n
      other = stands a proper first are n among_

      joined-at : one.at ≡ other.at → m ≡ n
      joined-at at = sym one.is ∙ ap (λ k. (instance_at first k).name) at ∙ other.is

      by : ((partner_at ps one.at ≡ None) ⊎ ((j : ℕ) × (partner_at ps one.at ≡ Some j)))
          → ((partner_at ps other.at ≡ None) ⊎ ((j : ℕ) × (partner_at ps other.at ≡ Some j))) → m ≡ n
      by (inl free) (inl free_) = joined-at (named.apart one.at other.at one.low other.low free free_
          (ap f one.is ∙ same ∙ ap f (sym other.is)))
      by (inl free) (inr (j, at)) =
          let (is, low) = partner-named other.at j other.low at n other.is in
          let P : ℕ → Type 0 = λ k. Contains (names b) k in
          absurd (none-there one.at one.low free m one.is (subst P (sym (same ∙ is)) (member-at b proper_ second are_ j low)))
      by (inr (j, at)) (inl free) =
          let (is, low) = partner-named one.at j one.low at m one.is in
          let P : ℕ → Type 0 = λ k. Contains (names b) k in
          absurd (none-there other.at other.low free n other.is (subst P (sym (sym same ∙ is)) (member-at b proper_ second are_ j low)))
      by (inr (j, at)) (inr (k, at_)) =
          let (is, low) = partner-named one.at j one.low at m one.is in
          let (is_, low_) = partner-named other.at k other.low at_ n other.is in
          let there : j ≡ k = one-at b proper_ second are_ j k low low_ (sym is ∙ same ∙ is_) in
          joined-at (same_Some one.at other.at (sym (matched.pairs.there one.at j at) ∙ ap (partner_at os) there
          ∙ matched.pairs.there other.at k at_))

  one-set : (n m : ℕ) → ArePartners f a b n m → HaveOneSet a b n m
  one-set n m (among, among_, is) x y at at_ =
      by (has-or_free (partner_at ps one.at))
    where
      one : Stands first n
      one = stands a proper first are n among

      by : ((partner_at ps one.at ≡ None) ⊎ ((j : ℕ) × (partner_at ps one.at ≡ Some j))) → x.entities ≡ y.entities
      by (inl free) = absurd (none-there one.at one.low free n one.is
          (let P : ℕ → Type 0 = λ k. Contains (names b) k in subst P (sym is) among_))
      by (inr (j, found)) =
          let (same, low) = partner-named one.at j one.low found n one.is in
          let alike = matched.pairs.one_kind one.at j found ∙ ap (λ k. rank_at kinds (k + j)) matched.as_many in
          sym (typed-at a proper first are one.at one.low n x one.is at) ∙ (are_kinds.one_set one.at j one.low low).0 alike
          ∙ typed-at b proper_ second are_ j low m y (sym same ∙ is) at_

  -- two of one set have one kind
  one-kind : (i j : ℕ) → i < length first → j < length second → (n m : ℕ) → (instance_at first i).name ≡ n → (instance_at second j).name ≡ m
      → HaveOneSet a b n m → rank_at kinds i ≡ rank_at kinds (length first + j)
  one-kind i j low low_ n m is is_ alike =
      let P : ℕ → Type 0 = λ k. Contains a.instances (k, (instance_at first i).typed) in
      let Q : ℕ → Type 0 = λ k. Contains b.instances (k, (instance_at second j).typed) in
      (are_kinds.one_set i j low low_).1 (alike (instance_at first i).typed (instance_at second j).typed
      (subst P is (are.each i low).instance) (subst Q is_ (are_.each j low_).instance))

  none-left : (n m : ℕ) → Went f a b n → Came f a b m → ¬ HaveOneSet a b n m
  none-left n m (among, lacks) (among_, unnamed) alike =
      matched.none_left one.at other.at (omega (arith, one.low, matched.as_many), free)
      (omega (arith, other.low, matched.as_many_owners), free_)
      (one-kind one.at other.at one.low other.low n m one.is other.is alike)
    where
      one : Stands first n
      one = stands a proper first are n among

      other : Stands second m
      other = stands b proper_ second are_ m among_

      free : partner_at ps one.at ≡ None
      free = elim (has-or_free (partner_at ps one.at)) [
        | inl is ↦ is
        | inr (j, at) ↦
            let (same, low) = partner-named one.at j one.low at n one.is in
            let P : ℕ → Type 0 = λ k. Contains (names b) k in
            absurd (lacks (subst P (sym same) (member-at b proper_ second are_ j low)))
      ]

      free_ : partner_at os other.at ≡ None
      free_ = elim (has-or_free (partner_at os other.at)) [
        | inl is ↦ is
        | inr (i, at) ↦
            let there : partner_at ps i ≡ Some other.at = matched.pairs.back other.at i at in
            let low : i < length first = (let within = below-some ps i other.at there in omega (arith, within, matched.as_many)) in
            absurd (unnamed (instance_at first i).name (member-at a proper first are i low)
            (named.with_partner i other.at low there ∙ other.is))
      ]

  are-alone : (n m : ℕ) → AreAlone ranking a b n m → HaveOneSet a b n m → f n ≡ m
  are-alone n m h alike = (partner-named one.at other.at one.low paired n one.is).0 ∙ other.is
    where
      one : Stands first n
      one = stands a proper first are n h.first

      other : Stands second m
      other = stands b proper_ second are_ m h.second

      own-first : HasOwnRank ranks 0 (length first) one.at
      own-first k low same =
          let here : 0 + k ≡ k = omega arith in
          let here_ : 0 + one.at ≡ one.at = omega arith in
          let equal = sym (joint.of_one k low) ∙ ap (rank_at ranks) (sym here) ∙ same ∙ ap (rank_at ranks) here_
          ∙ joint.of_one one.at one.low ∙ ap (λ i. ranking (joined a b) (of_first i)) one.is in
          one-at a proper first are k one.at low one.low (h.alone_in_first (instance_at first k).name (member-at a proper first are k low)
          equal ∙ sym one.is)

      own-second : HasOwnRank ranks (length first) (length second) other.at
      own-second k low same =
          let equal = sym (joint.of_other k low) ∙ same ∙ joint.of_other other.at other.low
          ∙ ap (λ i. ranking (joined a b) (of_second i)) other.is in
          one-at b proper_ second are_ k other.at low other.low
          (h.alone_in_second (instance_at second k).name (member-at b proper_ second are_ k low) equal ∙ sym other.is)

      one_rank : rank_at ranks one.at ≡ rank_at ranks (length first + other.at)
      one_rank =
          joint.of_one one.at one.low ∙ ap (λ i. ranking (joined a b) (of_first i)) one.is ∙ h.one_rank
          ∙ ap (λ i. ranking (joined a b) (of_second i)) (sym other.is) ∙ sym (joint.of_other other.at other.low)

      paired : partner_at ps one.at ≡ Some other.at
      paired = matched.alone one.at other.at one.low other.low own-first own-second one_rank
          (one-kind one.at other.at one.low other.low n m one.is other.is alike)

  pub is-pairing : IsPairing ranking a b f
  is-pairing = record { injective = injective; one_set = one-set; none_left = none-left; alone = are-alone }

-- ---- the matching

pub no-pairs : (kinds : List ℕ) (ps os : List (Option ℕ)) → ((k : ℕ) → partner_at ps k ≡ None) → ((k : ℕ) → partner_at os k ≡ None)
    → ArePairs kinds ps os
no-pairs kinds ps os none none_ = record {
  there = λ i j at. absurd (none-some j (sym (none i) ∙ at));
  back = λ j i at. absurd (none-some i (sym (none_ j) ∙ at));
  one_kind = λ i j at. absurd (none-some j (sym (none i) ∙ at));
}

-- what was alone where none had a partner is alone
pub own-alone : (ranks : List ℕ) (start count : ℕ) (ps : List (Option ℕ)) → length ps ≡ count → ((k : ℕ) → partner_at ps k ≡ None) → (n : ℕ)
    → n < count → HasOwnRank ranks start count n → IsAloneIn ranks start ps n
own-alone ranks start count ps size none n low own = record {
  free = (omega (arith, low, size), none n);
  alone = λ k free same. (let within = free.0 in own k (omega (arith, within, size)) same);
}
