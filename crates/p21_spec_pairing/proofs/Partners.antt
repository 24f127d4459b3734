-- Partners are one to one, and nothing differs exactly if the renamed file means the same.
use Rattle.std.specs.Prelude.{◌≡◌, ◌≢◌, ◌⊎◌, ℕ, Bool, true, false, List, [], ◌∷◌, Contains, nat_eq, refl}
use Rattle.std.proofs.Common.{ap, sym, subst, ◌∙◌, inl, inr, true≢false}
use Rattle.std.proofs.lemmas.Bool.{eqb-true, eq-eqb}
use Rattle.p21_spec_basics.proofs.Members.{Contains-none, Contains-first, Contains-later, Contains-cases, Contains-mapped, Contains-unmapped}
use Rattle.p21_spec_basics.proofs.Shuffles.{one-keyed}
use Rattle.p21_spec_exchange.specs.DataSection.{Heading}
use Rattle.p21_spec_file.proofs.SameFiles.{SameTyped-symmetric}
use Rattle.p21_spec_file.specs.File.{FileMeaning}
use Rattle.p21_spec_file.specs.Meaning.{Typed}
use Rattle.p21_spec_file.specs.SameFile.{AreInstancesAmong, SameFileMeaning, SameTyped}
use Rattle.p21_spec_numbering.proofs.Moved.{beside, sections-none_twice}
use Rattle.p21_spec_numbering.proofs.Renaming.{new-name, old-name}
use Rattle.p21_spec_numbering.proofs.Targets.{one-typed}
use Rattle.p21_spec_numbering.specs.Renamed.{renamed, renamed_instance, renamed_section, renamed_typed, names, IsWhole}
use Rattle.p21_spec_pairing.specs.Laws.{NothingDiffersInTheSame, PairsAreOneToOne, SameIfNothingDiffers}
use Rattle.p21_spec_pairing.specs.Pairing.{ArePartners, NothingDiffers, SayTheSame}

-- ---- pairs

-- some member has this value, or none has
pub found-or_none : (f : ℕ → ℕ) (ns : List ℕ) (m : ℕ) → ((n : ℕ) × Contains ns n × (f n ≡ m)) ⊎ ((n : ℕ) → Contains ns n → f n ≢ m)
found-or_none f [] m = inr (λ n among same. Contains-none n among)
found-or_none f (k ∷ ns) m = by (nat_eq (f k) m) refl (found-or_none f ns m)
  where
    by : (b : Bool) → nat_eq (f k) m ≡ b → ((n : ℕ) × Contains ns n × (f n ≡ m)) ⊎ ((n : ℕ) → Contains ns n → f n ≢ m)
        → ((n : ℕ) × Contains (k ∷ ns) n × (f n ≡ m)) ⊎ ((n : ℕ) → Contains (k ∷ ns) n → f n ≢ m)
    by true e more = inl (k, Contains-first k ns, eqb-true (f k) m e)
    by false e (inl (n, among, same)) = inl (n, Contains-later k ns n among, same)
    by false e (inr none) = inr (λ n among same. elim (Contains-cases k ns n among) [
      | inl h ↦ true≢false (sym (eq-eqb (f k) m (ap f h ∙ same)) ∙ e)
      | inr h ↦ none n h same
    ])

pub pairs-one_to_one : PairsAreOneToOne
pairs-one_to_one f a b injective = record {
  of_first = λ n among. elim (found-or_none (λ k. k) (names b) (f n)) [
    | inl (m, at, is) ↦ inl (m, (among, at, sym is))
    | inr none ↦ inr (among, λ at. none (f n) at refl)
  ];
  of_second = λ m among. elim (found-or_none f (names a) m) [
    | inl (n, at, is) ↦ inl (n, (at, among, is))
    | inr none ↦ inr (among, none)
  ];
  one_partner = λ n m k (one, other, is) (one_, other_, is_). sym is ∙ is_;
  one_owner = λ n m k (one, other, is) (one_, other_, is_). injective n k one one_ (is ∙ sym is_);
  not_went = λ n m (one, other, is) (among, lacks). (let P : ℕ → Type 0 = λ k. Contains (names b) k in lacks (subst P (sym is) other));
  not_came = λ n m (one, other, is) (among, none). none n one is;
}

-- ---- what differs

one-section : (m : FileMeaning) → IsWhole m → (n : ℕ) (g h : Heading) → Contains m.instance_sections (n, g) → Contains m.instance_sections (n, h) → g ≡ h
one-section m whole_ n g h at at_ =
    ap (λ (i : ℕ × Heading). i.1) (one-keyed (λ (i : ℕ × Heading). i.0) m.instance_sections (sections-none_twice m whole_) (n, g) (n, h) at at_ refl)

named : (m : FileMeaning) (n : ℕ) → Contains (names m) n → (x : Typed) × Contains m.instances (n, x)
named m n among =
    let (i, at, is) = Contains-unmapped (λ (i : ℕ × Typed). i.0) m.instances n among in
    let P : ℕ → Type 0 = λ k. Contains m.instances (k, i.1) in
    (i.1, subst P is at)

placed : (m : FileMeaning) → IsWhole m → (n : ℕ) → Contains (names m) n → (h : Heading) × Contains m.instance_sections (n, h)
placed m whole_ n among =
    let In : List ℕ → Type 0 = λ ns. Contains ns n in
    let (i, at, is) = Contains-unmapped (λ (i : ℕ × Heading). i.0) m.instance_sections n (subst In (sym whole_.in_sections) among) in
    let P : ℕ → Type 0 = λ k. Contains m.instance_sections (k, i.1) in
    (i.1, subst P is at)

named-by : (m : FileMeaning) → IsWhole m → (n : ℕ) (h : Heading) → Contains m.instance_sections (n, h) → Contains (names m) n
named-by m whole_ n h at =
    let In : List ℕ → Type 0 = λ ns. Contains ns n in
    subst In whole_.in_sections (Contains-mapped (λ (i : ℕ × Heading). i.0) m.instance_sections (n, h) at)

module _ (f : ℕ → ℕ) (a b : FileMeaning) (whole_ : IsWhole a) (whole_b : IsWhole b) where
  module _ (none : NothingDiffers f a b) where
    -- each has its partner
    partner-of : (n : ℕ) → Contains (names a) n → ArePartners f a b n (f n)
    partner-of n among = elim (found-or_none (λ k. k) (names b) (f n)) [
      | inl (m, at, is) ↦ let P : ℕ → Type 0 = λ k. Contains (names b) k in (among, subst P is at, refl)
      | inr lacks ↦ absurd (none.none_went n (among, λ at. lacks (f n) at refl))
    ]

    owner-of : (m : ℕ) → Contains (names b) m → (n : ℕ) × ArePartners f a b n m
    owner-of m among = elim (found-or_none f (names a) m) [
      | inl (n, at, is) ↦ (n, (at, among, is))
      | inr lacks ↦ absurd (none.none_came m (among, lacks))
    ]

    onto : AreInstancesAmong (renamed f a).instances b.instances
    onto n x at =
        let (i, own, is) = Contains-unmapped (renamed_instance f) a.instances (n, x) at in
        let pair : ArePartners f a b i.0 (f i.0) = partner-of i.0 (Contains-mapped (λ (j : ℕ × Typed). j.0) a.instances i own) in
        let (y, at_) = named b (f i.0) pair.1 in
        let P : ℕ × Typed → Type 0 = λ p. (z : Typed) × Contains b.instances (p.0, z) × SameTyped p.1 z in
        subst P is (y, at_, (none.partners i.0 (f i.0) pair).same i.1 y own at_)

    back : AreInstancesAmong b.instances (renamed f a).instances
    back m y at =
        let (n, pair) = owner-of m (Contains-mapped (λ (j : ℕ × Typed). j.0) b.instances (m, y) at) in
        let (x, own) = named a n pair.0 in
        let P : ℕ → Type 0 = λ k. Contains (renamed f a).instances (k, renamed_typed f x) in (
          renamed_typed f x,
          subst P pair.2 (Contains-mapped (renamed_instance f) a.instances (n, x) own),
          SameTyped-symmetric (renamed_typed f x) y ((none.partners n m pair).same x y own at),
        )

    sections-onto : (i : ℕ × Heading) → Contains (renamed f a).instance_sections i → Contains b.instance_sections i
    sections-onto i at =
        let (j, own, is) = Contains-unmapped (renamed_section f) a.instance_sections i at in
        let pair : ArePartners f a b j.0 (f j.0) = partner-of j.0 (named-by a whole_ j.0 j.1 own) in
        let (h, at_) = placed b whole_b (f j.0) pair.1 in
        let P : ℕ × Heading → Type 0 = λ p. Contains b.instance_sections p in
        let Q : Heading → Type 0 = λ g. Contains b.instance_sections (f j.0, g) in
        subst P is (subst Q (sym ((none.partners j.0 (f j.0) pair).section j.1 h own at_)) at_)

    sections-back : (i : ℕ × Heading) → Contains b.instance_sections i → Contains (renamed f a).instance_sections i
    sections-back i at =
        let (n, pair) = owner-of i.0 (named-by b whole_b i.0 i.1 at) in
        let (g, own) = placed a whole_ n pair.0 in
        let P : ℕ → Type 0 = λ k. Contains (renamed f a).instance_sections (k, i.1) in
        let Q : Heading → Type 0 = λ h. Contains (renamed f a).instance_sections (f n, h) in
        subst P pair.2 (subst Q ((none.partners n i.0 pair).section g i.1 own at) (Contains-mapped (renamed_section f) a.instance_sections (n, g) own))

    pub none-same : SameFileMeaning (renamed f a) b
    none-same = record {
      header = none.header;
      schema = none.schema;
      sections = none.sections;
      onto = onto;
      back = back;
      instance_sections = λ i. (sections-onto i, sections-back i);
    }

  module _ (same : SameFileMeaning (renamed f a) b) where
    says : (n m : ℕ) → ArePartners f a b n m → SayTheSame f a b n m
    says n m (among, among_, is) =
        let h = beside f a b whole_ same n among in
        let P : ℕ → Type 0 = λ k. SayTheSame f a b n k in
        subst P is (record {
          same = λ x y at at_.
              let one : h.x ≡ x = one-typed a whole_ n h.x x h.at at in
              let other : h.y ≡ y = one-typed b whole_b (f n) h.y y h.other at_ in
              let A : Typed → Type 0 = λ z. SameTyped (renamed_typed f z) h.y in
              subst (SameTyped (renamed_typed f x)) other (subst A one h.same);
          section = λ g k at at_. one-section a whole_ n g h.heading at h.section ∙ one-section b whole_b (f n) h.heading k h.other_section at_;
        })

    pub same-none : NothingDiffers f a b
    same-none = record {
      header = same.header;
      schema = same.schema;
      sections = same.sections;
      none_went = λ n (among, lacks). lacks (new-name f a b same n among);
      none_came = λ m (among, lacks). (let (n, at, is) = old-name f a b same m among in lacks n at is);
      partners = says;
    }

pub same-if_none : SameIfNothingDiffers
same-if_none f a b proper proper_ injective none =
    let same : SameFileMeaning (renamed f a) b = none-same f a b proper.0 proper_.0 none in (same, (f, injective, same))

pub nothing-in_same : NothingDiffersInTheSame
nothing-in_same f a b proper proper_ injective same = same-none f a b proper.0 proper_.0 same
