-- Two files that mean the same but for names: both together mean the same where each instance has the name of the one that it is in
-- the other file.
use Rattle.std.specs.Prelude.{◌≡◌, ◌⊎◌, ℕ, List, ◌++◌, map, Contains, refl}
use Rattle.std.proofs.Common.{arith, ap, sym, subst, ◌∙◌, inl, inr}
use Rattle.std.proofs.lemmas.List.{map-append}
use Rattle.std.proofs.lemmas.List.Elements.{Contains-append_cases, Contains-append_left, Contains-append_right}
use Rattle.p21_spec_basics.proofs.Members.{Contains-mapped, Contains-unmapped}
use Rattle.p21_spec_exchange.specs.DataSection.{Heading}
use Rattle.p21_spec_file.specs.File.{FileMeaning}
use Rattle.p21_spec_file.specs.Meaning.{Typed}
use Rattle.p21_spec_file.specs.SameFile.{AreInstancesAmong, SameFileMeaning, SameTyped}
use Rattle.p21_spec_numbering.proofs.CopiesMoved.{typed-twice}
use Rattle.p21_spec_numbering.proofs.Renaming.{SameTyped-renamed}
use Rattle.p21_spec_numbering.specs.Renamed.{renamed, renamed_instance, renamed_section, renamed_typed, names, IsInjectiveOn}
use Rattle.p21_spec_pairing.proofs.Parity.{at-even, at-odd, by_parity}
use Rattle.p21_spec_pairing.proofs.Together.{first-not_second, names-joined}
use Rattle.p21_spec_pairing.specs.Joined.{joined, of_first, of_second}

-- ---- the instances of one file, which become those of the other: p and q are where the two stand among both

module _ (p q g turn : ℕ → ℕ) (turns : (t : ℕ) → turn (p t) ≡ q (g t)) (c d : FileMeaning) (same : SameFileMeaning (renamed g c) d) where
  typed-turned : (x : Typed) → renamed_typed turn (renamed_typed p x) ≡ renamed_typed q (renamed_typed g x)
  typed-turned x =
      let h : ℕ → ℕ = λ t. q (g t) in
      typed-twice p turn h x (λ t among. turns t) ∙ sym (typed-twice g q h x (λ t among. refl))

  pub turned-onto : AreInstancesAmong (map (renamed_instance turn) (renamed p c).instances) (renamed q d).instances
  turned-onto n x at =
      let (j, at_j, is) = Contains-unmapped (renamed_instance turn) (renamed p c).instances (n, x) at in
      let (i, own, is_) = Contains-unmapped (renamed_instance p) c.instances j at_j in
      let (y, at_y, alike) = same.onto (g i.0) (renamed_typed g i.1) (Contains-mapped (renamed_instance g) c.instances i own) in
      let P : ℕ × Typed → Type 0 = λ r. (z : Typed) × Contains (renamed q d).instances (r.0, z) × SameTyped r.1 z in
      let N : ℕ → Type 0 = λ k. Contains (renamed q d).instances (k, renamed_typed q y) in
      let T : Typed → Type 0 = λ z. SameTyped z (renamed_typed q y) in
      subst P (ap (renamed_instance turn) is_ ∙ is) (
        renamed_typed q y,
        subst N (sym (turns i.0)) (Contains-mapped (renamed_instance q) d.instances (g i.0, y) at_y),
        subst T (sym (typed-turned i.1)) (SameTyped-renamed q (renamed_typed g i.1) y alike),
      )

  pub turned-back : AreInstancesAmong (renamed q d).instances (map (renamed_instance turn) (renamed p c).instances)
  turned-back n x at =
      let (j, own, is) = Contains-unmapped (renamed_instance q) d.instances (n, x) at in
      let (w, at_w, alike) = same.back j.0 j.1 own in
      let (i, own_, is_) = Contains-unmapped (renamed_instance g) c.instances (j.0, w) at_w in
      let P : ℕ × Typed → Type 0 = λ r. (z : Typed) × Contains (map (renamed_instance turn) (renamed p c).instances) (r.0, z) × SameTyped r.1 z in
      let N : ℕ → Type 0 = λ k. Contains (map (renamed_instance turn) (renamed p c).instances) (k, renamed_typed turn (renamed_typed p i.1)) in
      let T : Typed → Type 0 = λ z. SameTyped (renamed_typed q j.1) z in
      subst P is (
        renamed_typed turn (renamed_typed p i.1),
        subst N (turns i.0 ∙ ap (λ (r : ℕ × Typed). q r.0) is_) (Contains-mapped (renamed_instance turn) (renamed p c).instances (renamed_instance p i) (Contains-mapped (renamed_instance p) c.instances i own_)),
        subst T (ap (λ (r : ℕ × Typed). renamed_typed q r.1) (sym is_) ∙ sym (typed-turned i.1)) (SameTyped-renamed q j.1 w alike),
      )

  pub placed-onto : (e : ℕ × Heading) → Contains (map (renamed_section turn) (renamed p c).instance_sections) e → Contains (renamed q d).instance_sections e
  placed-onto e at =
      let (j, at_j, is) = Contains-unmapped (renamed_section turn) (renamed p c).instance_sections e at in
      let (i, own, is_) = Contains-unmapped (renamed_section p) c.instance_sections j at_j in
      let there = (same.instance_sections (g i.0, i.1)).0 (Contains-mapped (renamed_section g) c.instance_sections i own) in
      let P : ℕ × Heading → Type 0 = λ r. Contains (renamed q d).instance_sections r in
      let N : ℕ → Type 0 = λ k. Contains (renamed q d).instance_sections (k, i.1) in
      subst P (ap (renamed_section turn) is_ ∙ is) (subst N (sym (turns i.0)) (Contains-mapped (renamed_section q) d.instance_sections (g i.0, i.1) there))

  pub placed-back : (e : ℕ × Heading) → Contains (renamed q d).instance_sections e → Contains (map (renamed_section turn) (renamed p c).instance_sections) e
  placed-back e at =
      let (j, own, is) = Contains-unmapped (renamed_section q) d.instance_sections e at in
      let (i, own_, is_) = Contains-unmapped (renamed_section g) c.instance_sections j ((same.instance_sections j).1 own) in
      let P : ℕ × Heading → Type 0 = λ r. Contains (map (renamed_section turn) (renamed p c).instance_sections) r in
      let N : ℕ → Type 0 = λ k. Contains (map (renamed_section turn) (renamed p c).instance_sections) (k, i.1) in
      subst P (ap (renamed_section q) is_ ∙ is) (subst N (turns i.0) (Contains-mapped (renamed_section turn) (renamed p c).instance_sections (renamed_section p i) (Contains-mapped (renamed_section p) c.instance_sections i own_)))

-- ---- lists one behind the other

among-crossed : (xs us vs ys : List (ℕ × Typed)) → AreInstancesAmong xs ys → AreInstancesAmong us vs → AreInstancesAmong (xs ++ us) (vs ++ ys)
among-crossed xs us vs ys one other n x at = elim (Contains-append_cases xs us (n, x) at) [
  | inl h ↦ let (y, at_, same) = one n x h in (y, Contains-append_right vs ys (n, y) at_, same)
  | inr h ↦ let (y, at_, same) = other n x h in (y, Contains-append_left vs ys (n, y) at_, same)
]

abbrev HasAll : List (ℕ × Heading) → List (ℕ × Heading) → Type 0
HasAll xs ys = (e : ℕ × Heading) → Contains xs e → Contains ys e

all-crossed : (xs us vs ys : List (ℕ × Heading)) → HasAll xs ys → HasAll us vs → HasAll (xs ++ us) (vs ++ ys)
all-crossed xs us vs ys one other e at = elim (Contains-append_cases xs us e at) [
  | inl h ↦ Contains-append_right vs ys e (one e h)
  | inr h ↦ Contains-append_left vs ys e (other e h)
]

-- ---- both files

module _ (f g : ℕ → ℕ) (a b : FileMeaning) (injective : IsInjectiveOn (names a) f) (injective_ : IsInjectiveOn (names b) g) (same : SameFileMeaning (renamed f a) b) (back : SameFileMeaning (renamed g b) a) where
  -- each gets the name of the one that it is in the other file
  abbrev pub turn : ℕ → ℕ
  turn = by_parity (λ n. of_second (f n)) (λ n. of_first (g n))

  pub turn-first : (n : ℕ) → turn (of_first n) ≡ of_second (f n)
  turn-first n = at-even (λ k. of_second (f k)) (λ k. of_first (g k)) n

  pub turn-second : (n : ℕ) → turn (of_second n) ≡ of_first (g n)
  turn-second n = at-odd (λ k. of_second (f k)) (λ k. of_first (g k)) n

  pub turned-same : SameFileMeaning (renamed turn (joined a b)) (joined a b)
  turned-same =
      let A = (renamed of_first a).instances in
      let B = (renamed of_second b).instances in
      let S = (renamed of_first a).instance_sections in
      let T = (renamed of_second b).instance_sections in
      let split : map (renamed_instance turn) (A ++ B) ≡ map (renamed_instance turn) A ++ map (renamed_instance turn) B = map-append (renamed_instance turn) A B in
      let split_ : map (renamed_section turn) (S ++ T) ≡ map (renamed_section turn) S ++ map (renamed_section turn) T = map-append (renamed_section turn) S T in
      let O : List (ℕ × Typed) → Type 0 = λ xs. AreInstancesAmong xs (A ++ B) in
      let K : List (ℕ × Typed) → Type 0 = λ xs. AreInstancesAmong (A ++ B) xs in
      let P : List (ℕ × Heading) → Type 0 = λ xs. HasAll xs (S ++ T) in
      let Q : List (ℕ × Heading) → Type 0 = λ xs. HasAll (S ++ T) xs in
      let to_all = subst P (sym split_) (all-crossed (map (renamed_section turn) S) (map (renamed_section turn) T) S T
      (placed-onto of_first of_second f turn turn-first a b same) (placed-onto of_second of_first g turn turn-second b a back)) in
      let from_all = subst Q (sym split_) (all-crossed S T (map (renamed_section turn) S) (map (renamed_section turn) T)
      (placed-back of_second of_first g turn turn-second b a back) (placed-back of_first of_second f turn turn-first a b same)) in
      record {
        header = tt;
        schema = refl;
        sections = λ x. (λ at. at, λ at. at);
        onto = subst O (sym split) (among-crossed (map (renamed_instance turn) A) (map (renamed_instance turn) B) A B
            (turned-onto of_first of_second f turn turn-first a b same) (turned-onto of_second of_first g turn turn-second b a back));
        back = subst K (sym split) (among-crossed A B (map (renamed_instance turn) A) (map (renamed_instance turn) B)
            (turned-back of_second of_first g turn turn-second b a back) (turned-back of_first of_second f turn turn-first a b same));
        instance_sections = λ e. (to_all e, from_all e);
      }

  pub turn-injective : IsInjectiveOn (names (joined a b)) turn
  turn-injective m n among among_ one =
      by m n one (which m among) (which n among_)
    where
      -- it is of the first file or of the second
      Which : ℕ → Type 0
      Which k = ((j : ℕ) × Contains (names a) j × (of_first j ≡ k)) ⊎ ((j : ℕ) × Contains (names b) j × (of_second j ≡ k))

      which : (k : ℕ) → Contains (names (joined a b)) k → Which k
      which k at =
          let P : List ℕ → Type 0 = λ ns. Contains ns k in
          elim (Contains-append_cases (map of_first (names a)) (map of_second (names b)) k (subst P (names-joined a b) at)) [
            | inl h ↦ inl (Contains-unmapped of_first (names a) k h)
            | inr h ↦ inr (Contains-unmapped of_second (names b) k h)
          ]

      by : (m n : ℕ) → turn m ≡ turn n → Which m → Which n → m ≡ n
      by m n one (inl (j, at, is)) (inl (k, at_, is_)) =
          let equal : of_second (f j) ≡ of_second (f k) = sym (turn-first j) ∙ ap turn is ∙ one ∙ ap turn (sym is_) ∙ turn-first k in
          let named : f j ≡ f k = omega (arith, equal) in
          sym is ∙ ap of_first (injective j k at at_ named) ∙ is_
      by m n one (inr (j, at, is)) (inr (k, at_, is_)) =
          let equal : of_first (g j) ≡ of_first (g k) = sym (turn-second j) ∙ ap turn is ∙ one ∙ ap turn (sym is_) ∙ turn-second k in
          let named : g j ≡ g k = omega (arith, equal) in
          sym is ∙ ap of_second (injective_ j k at at_ named) ∙ is_
      by m n one (inl (j, at, is)) (inr (k, at_, is_)) =
          absurd (first-not_second (g k) (f j) (sym (turn-second k) ∙ ap turn is_ ∙ sym one ∙ ap turn (sym is) ∙ turn-first j))
      by m n one (inr (j, at, is)) (inl (k, at_, is_)) =
          absurd (first-not_second (g j) (f k) (sym (turn-second j) ∙ ap turn is ∙ one ∙ ap turn (sym is_) ∙ turn-first k))
