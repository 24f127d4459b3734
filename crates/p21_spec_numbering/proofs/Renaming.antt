-- Meanings with other names: what renaming keeps, and what undoes it.
use Rattle.std.specs.Prelude.{◌≡◌, ℕ, Bool, true, false, List, [], ◌∷◌, map, Contains, refl, nat_eq, if◌then◌else◌}
use Rattle.std.specs.List.{flat_map, AllZip}
use Rattle.std.proofs.Common.{ap, sym, subst, ◌∙◌, inl, inr, true≢false, map-id}
use Rattle.std.proofs.lemmas.Bool.{eqb-true, eq-eqb}
use Rattle.std.proofs.lemmas.List.Elements.{Contains-append_left, Contains-append_right}
use Rattle.p21_spec_exchange.specs.DataSection.{Heading}
use Rattle.p21_spec_basics.proofs.Members.{Contains-none, Contains-first, Contains-later, Contains-cases, Contains-mapped, Contains-unmapped}
use Rattle.p21_spec_file.specs.File.{FileMeaning}
use Rattle.p21_spec_file.specs.Meaning.{Typed}
use Rattle.p21_spec_file.specs.SameFile.{SameFileMeaning, SameTyped, AreInstancesAmong, HaveSameMembers}
use Rattle.p21_spec_file.specs.SameValue.{Same, same_wholes, same_reals, same_numbers, same_texts, same_bits, same_items, same_references, both_derived, both_missing, same_lists, same_arrays, same_sets, same_bags, same_typed, SameInOrder, both_end, both_next, Among, here, there, EachAmong, none_left, each_next, SamePaired, both_empty, paired, Without, without_first, without_later}
use Rattle.p21_spec_file.specs.Value.{Value, whole, real, number, text, bits, item, reference, derived, missing, list, array, set, bag, typed, Values, no_values, value}
use Rattle.p21_spec_file.proofs.SameFiles.{SameFileMeaning-reflexive, SameFileMeaning-symmetric, SameFileMeaning-transitive}
use Rattle.p21_spec_numbering.proofs.Lists.{map-agree, map-mapped}
use Rattle.p21_spec_numbering.specs.Renamed.{renamed_value, renamed_values, renamed_typed, renamed_instance, renamed_section, renamed, names, IsInjectiveOn, SameButForNames, targets, targets_in, IsWhole}

-- ---- what is the same is the same with other names

mutual
  pub Same-renamed : (f : ℕ → ℕ) (v w : Value) → Same v w → Same (renamed_value f v) (renamed_value f w)
  Same-renamed f v w (same_wholes a) = same_wholes a
  Same-renamed f v w (same_reals a b ratio) = same_reals a b ratio
  Same-renamed f v w (same_numbers a b ratio) = same_numbers a b ratio
  Same-renamed f v w (same_texts a) = same_texts a
  Same-renamed f v w (same_bits a) = same_bits a
  Same-renamed f v w (same_items a) = same_items a
  Same-renamed f v w (same_references a) = same_references (f a)
  Same-renamed f v w both_derived = both_derived
  Same-renamed f v w both_missing = both_missing
  Same-renamed f v w (same_lists vs ws same) = same_lists (renamed_values f vs) (renamed_values f ws) (SameInOrder-renamed f vs ws same)
  Same-renamed f v w (same_arrays vs ws same) = same_arrays (renamed_values f vs) (renamed_values f ws) (SameInOrder-renamed f vs ws same)
  Same-renamed f v w (same_sets vs ws onto back) =
      same_sets (renamed_values f vs) (renamed_values f ws) (EachAmong-renamed f vs ws onto) (EachAmong-renamed f ws vs back)
  Same-renamed f v w (same_bags vs ws same) = same_bags (renamed_values f vs) (renamed_values f ws) (SamePaired-renamed f vs ws same)
  Same-renamed f v w (same_typed t a b same) = same_typed t (renamed_value f a) (renamed_value f b) (Same-renamed f a b same)

  pub SameInOrder-renamed : (f : ℕ → ℕ) (vs ws : Values) → SameInOrder vs ws → SameInOrder (renamed_values f vs) (renamed_values f ws)
  SameInOrder-renamed f vs ws both_end = both_end
  SameInOrder-renamed f vs ws (both_next a b as_ bs same more) = both_next (renamed_value f a) (renamed_value f b) (renamed_values f as_) (renamed_values f bs) (Same-renamed f a b same) (SameInOrder-renamed f as_ bs more)

  pub Among-renamed : (f : ℕ → ℕ) (v : Value) (ws : Values) → Among v ws → Among (renamed_value f v) (renamed_values f ws)
  Among-renamed f v ws (here _ w more same) = here (renamed_value f v) (renamed_value f w) (renamed_values f more) (Same-renamed f v w same)
  Among-renamed f v ws (there _ w more among) =
      there (renamed_value f v) (renamed_value f w) (renamed_values f more) (Among-renamed f v more among)

  EachAmong-renamed : (f : ℕ → ℕ) (vs ws : Values) → EachAmong vs ws → EachAmong (renamed_values f vs) (renamed_values f ws)
  EachAmong-renamed f vs ws (none_left _) = none_left (renamed_values f ws)
  EachAmong-renamed f vs ws (each_next v more _ among each) = each_next (renamed_value f v) (renamed_values f more) (renamed_values f ws) (Among-renamed f v ws among) (EachAmong-renamed f more ws each)

  SamePaired-renamed : (f : ℕ → ℕ) (vs ws : Values) → SamePaired vs ws → SamePaired (renamed_values f vs) (renamed_values f ws)
  SamePaired-renamed f vs ws both_empty = both_empty
  SamePaired-renamed f vs ws (paired v more _ rest without pairs) = paired (renamed_value f v) (renamed_values f more) (renamed_values f ws) (renamed_values f rest) (Without-renamed f v ws rest without) (SamePaired-renamed f more rest pairs)

  Without-renamed : (f : ℕ → ℕ) (v : Value) (ws rest : Values) → Without v ws rest
      → Without (renamed_value f v) (renamed_values f ws) (renamed_values f rest)
  Without-renamed f v ws rest (without_first _ w more same) =
      without_first (renamed_value f v) (renamed_value f w) (renamed_values f more) (Same-renamed f v w same)
  Without-renamed f v ws rest (without_later _ w more rest_ without) = without_later (renamed_value f v) (renamed_value f w) (renamed_values f more) (renamed_values f rest_) (Without-renamed f v more rest_ without)

AllZip-renamed : (f : ℕ → ℕ) (xs ys : List Values) → AllZip SameInOrder xs ys
    → AllZip SameInOrder (map (renamed_values f) xs) (map (renamed_values f) ys)
AllZip-renamed f [] [] all = tt
AllZip-renamed f [] (y ∷ ys) all = absurd all
AllZip-renamed f (x ∷ xs) [] all = absurd all
AllZip-renamed f (x ∷ xs) (y ∷ ys) all = (SameInOrder-renamed f x y all.0, AllZip-renamed f xs ys all.1)

pub SameTyped-renamed : (f : ℕ → ℕ) (x y : Typed) → SameTyped x y → SameTyped (renamed_typed f x) (renamed_typed f y)
SameTyped-renamed f x y same = (same.0, AllZip-renamed f x.values y.values same.1)

among-renamed : (f : ℕ → ℕ) (xs ys : List (ℕ × Typed)) → AreInstancesAmong xs ys
    → AreInstancesAmong (map (renamed_instance f) xs) (map (renamed_instance f) ys)
among-renamed f xs ys onto n x among =
    let (i, at, is) = Contains-unmapped (renamed_instance f) xs (n, x) among in
    let (y, at_, same) = onto i.0 i.1 at in
    let P : ℕ × Typed → Type 0 = λ p. (z : Typed) × Contains (map (renamed_instance f) ys) (p.0, z) × SameTyped p.1 z in
    subst P is (renamed_typed f y, Contains-mapped (renamed_instance f) ys (i.0, y) at_, SameTyped-renamed f i.1 y same)

members-renamed : (f : ℕ → ℕ) (xs ys : List (ℕ × Heading)) → HaveSameMembers xs ys
    → HaveSameMembers (map (renamed_section f) xs) (map (renamed_section f) ys)
members-renamed f xs ys same i = (onto xs ys (λ j. (same j).0), onto ys xs (λ j. (same j).1))
  where
    onto : (us vs : List (ℕ × Heading)) → ((j : ℕ × Heading) → Contains us j → Contains vs j) → Contains (map (renamed_section f) us) i
        → Contains (map (renamed_section f) vs) i
    onto us vs to among =
        let (j, at, is) = Contains-unmapped (renamed_section f) us i among in
        let P : ℕ × Heading → Type 0 = λ k. Contains (map (renamed_section f) vs) k in
        subst P is (Contains-mapped (renamed_section f) vs j (to j at))

-- whatever the new names
pub SameFileMeaning-renamed : (f : ℕ → ℕ) (a b : FileMeaning) → SameFileMeaning a b → SameFileMeaning (renamed f a) (renamed f b)
SameFileMeaning-renamed f a b same = record {
  header = same.header;
  schema = same.schema;
  sections = same.sections;
  onto = among-renamed f a.instances b.instances same.onto;
  back = among-renamed f b.instances a.instances same.back;
  instance_sections = members-renamed f a.instance_sections b.instance_sections same.instance_sections;
}

-- ---- renamed twice

mutual
  pub value-twice : (f g h : ℕ → ℕ) (v : Value) → ((t : ℕ) → Contains (targets v) t → g (f t) ≡ h t)
      → renamed_value g (renamed_value f v) ≡ renamed_value h v
  value-twice f g h (whole z) same = refl
  value-twice f g h (real d) same = refl
  value-twice f g h (number d) same = refl
  value-twice f g h (text chars) same = refl
  value-twice f g h (bits bs) same = refl
  value-twice f g h (item word) same = refl
  value-twice f g h (reference n) same = ap reference (same n (Contains-first n []))
  value-twice f g h derived same = refl
  value-twice f g h missing same = refl
  value-twice f g h (list vs) same = ap list (values-twice f g h vs same)
  value-twice f g h (array vs) same = ap array (values-twice f g h vs same)
  value-twice f g h (set vs) same = ap set (values-twice f g h vs same)
  value-twice f g h (bag vs) same = ap bag (values-twice f g h vs same)
  value-twice f g h (typed t v) same = ap (typed t) (value-twice f g h v same)

  pub values-twice : (f g h : ℕ → ℕ) (vs : Values) → ((t : ℕ) → Contains (targets_in vs) t → g (f t) ≡ h t)
      → renamed_values g (renamed_values f vs) ≡ renamed_values h vs
  values-twice f g h no_values same = refl
  values-twice f g h (value v vs) same =
      ap (λ (w : Value). value w (renamed_values g (renamed_values f vs))) (value-twice f g h v (λ t among. same t (Contains-append_left (targets v) (targets_in vs) t among)))
      ∙ ap (value (renamed_value h v)) (values-twice f g h vs (λ t among. same t (Contains-append_right (targets v) (targets_in vs) t among)))

mutual
  pub value-kept : (v : Value) → renamed_value (λ n. n) v ≡ v
  value-kept (whole z) = refl
  value-kept (real d) = refl
  value-kept (number d) = refl
  value-kept (text chars) = refl
  value-kept (bits bs) = refl
  value-kept (item word) = refl
  value-kept (reference n) = refl
  value-kept derived = refl
  value-kept missing = refl
  value-kept (list vs) = ap list (values-kept vs)
  value-kept (array vs) = ap array (values-kept vs)
  value-kept (set vs) = ap set (values-kept vs)
  value-kept (bag vs) = ap bag (values-kept vs)
  value-kept (typed t v) = ap (typed t) (value-kept v)

  pub values-kept : (vs : Values) → renamed_values (λ n. n) vs ≡ vs
  values-kept no_values = refl
  values-kept (value v vs) = ap (λ (w : Value). value w (renamed_values (λ n. n) vs)) (value-kept v) ∙ ap (value v) (values-kept vs)

pub rows-twice : (f g h : ℕ → ℕ) (xs : List Values) → ((t : ℕ) → Contains (flat_map targets_in xs) t → g (f t) ≡ h t)
    → map (renamed_values g) (map (renamed_values f) xs) ≡ map (renamed_values h) xs
rows-twice f g h [] same = refl
rows-twice f g h (x ∷ xs) same =
    ap (λ (vs : Values). vs ∷ map (renamed_values g) (map (renamed_values f) xs)) (values-twice f g h x (λ t among. same t (Contains-append_left (targets_in x) (flat_map targets_in xs) t among)))
    ∙ ap (λ (ys : List Values). renamed_values h x ∷ ys) (rows-twice f g h xs (λ t among. same t (Contains-append_right (targets_in x) (flat_map targets_in xs) t among)))

pub rows-kept : (xs : List Values) → map (renamed_values (λ n. n)) xs ≡ xs
rows-kept [] = refl
rows-kept (x ∷ xs) =
    ap (λ (vs : Values). vs ∷ map (renamed_values (λ n. n)) xs) (values-kept x) ∙ ap (λ (ys : List Values). x ∷ ys) (rows-kept xs)

-- meanings of one header, schema and list of sections
abbrev of_instances : FileMeaning → List (ℕ × Typed) → List (ℕ × Heading) → FileMeaning
of_instances m xs hs = record { header = m.header; schema = m.schema; sections = m.sections; instances = xs; instance_sections = hs }

one-meaning : (m : FileMeaning) (xs ys : List (ℕ × Typed)) (gs hs : List (ℕ × Heading)) → xs ≡ ys → gs ≡ hs
    → of_instances m xs gs ≡ of_instances m ys hs
one-meaning m xs ys gs hs same same_ = ap (λ (zs : List (ℕ × Typed)). of_instances m zs gs) same ∙ ap (of_instances m ys) same_

abbrev pair : ℕ → List ℕ → List Values → ℕ × Typed
pair n entities values = (n, record { entities = entities; values = values })

-- of a whole meaning the second renaming undoes the first as far as it does so at the names
pub renamed-twice : (f g h : ℕ → ℕ) (m : FileMeaning) → IsWhole m → ((n : ℕ) → Contains (names m) n → g (f n) ≡ h n)
    → renamed g (renamed f m) ≡ renamed h m
renamed-twice f g h m whole_ same =
    one-meaning m (map (renamed_instance g) (map (renamed_instance f) m.instances)) (map (renamed_instance h) m.instances)
    (map (renamed_section g) (map (renamed_section f) m.instance_sections)) (map (renamed_section h) m.instance_sections)
    (map-mapped (renamed_instance g) (renamed_instance f) m.instances ∙ map-agree (λ i. renamed_instance g (renamed_instance f i)) (renamed_instance h) m.instances each)
    (map-mapped (renamed_section g) (renamed_section f) m.instance_sections ∙ map-agree (λ i. renamed_section g (renamed_section f i)) (renamed_section h) m.instance_sections each_section)
  where
    each : (i : ℕ × Typed) → Contains m.instances i → renamed_instance g (renamed_instance f i) ≡ renamed_instance h i
    each i among =
        ap (λ n. pair n i.1.entities (map (renamed_values g) (map (renamed_values f) i.1.values))) (same i.0 (Contains-mapped (λ (j : ℕ × Typed). j.0) m.instances i among))
        ∙ ap (pair (h i.0) i.1.entities) (rows-twice f g h i.1.values (λ t at. same t (whole_.closed i.0 i.1 among t at)))

    each_section : (i : ℕ × Heading) → Contains m.instance_sections i → renamed_section g (renamed_section f i) ≡ renamed_section h i
    each_section i among =
        let P : List ℕ → Type 0 = λ ns. Contains ns i.0 in
        let entry : ℕ → ℕ × Heading = λ n. (n, i.1) in
        ap entry (same i.0 (subst P whole_.in_sections (Contains-mapped (λ (j : ℕ × Heading). j.0) m.instance_sections i among)))

pub renamed-kept : (m : FileMeaning) → renamed (λ n. n) m ≡ m
renamed-kept m =
    one-meaning m (map (renamed_instance (λ n. n)) m.instances) m.instances (map (renamed_section (λ n. n)) m.instance_sections) m.instance_sections (each m.instances) (map-id m.instance_sections)
  where
    each : (xs : List (ℕ × Typed)) → map (renamed_instance (λ n. n)) xs ≡ xs
    each [] = refl
    each (i ∷ is) = ap (λ (j : ℕ × Typed). j ∷ map (renamed_instance (λ n. n)) is) (ap (pair i.0 i.1.entities) (rows-kept i.1.values)) ∙ ap (λ (js : List (ℕ × Typed)). i ∷ js) (each is)

-- ---- names

pub names-renamed : (f : ℕ → ℕ) (m : FileMeaning) → names (renamed f m) ≡ map f (names m)
names-renamed f m =
    map-mapped (λ (i : ℕ × Typed). i.0) (renamed_instance f) m.instances ∙ sym (map-mapped f (λ (i : ℕ × Typed). i.0) m.instances)

pub names-among : (a b : FileMeaning) → SameFileMeaning a b → (n : ℕ) → Contains (names a) n → Contains (names b) n
names-among a b same n among =
    let (i, at, is) = Contains-unmapped (λ (i : ℕ × Typed). i.0) a.instances n among in
    let (y, at_, same_) = same.onto i.0 i.1 at in
    let P : ℕ → Type 0 = λ k. Contains (names b) k in
    subst P is (Contains-mapped (λ (j : ℕ × Typed). j.0) b.instances (i.0, y) at_)

-- a name of what means the same as the renamed meaning is the new name of some instance
pub old-name : (f : ℕ → ℕ) (a b : FileMeaning) → SameFileMeaning (renamed f a) b → (n : ℕ) → Contains (names b) n
    → (m : ℕ) × Contains (names a) m × (f m ≡ n)
old-name f a b same n among =
    let P : List ℕ → Type 0 = λ ns. Contains ns n in
    Contains-unmapped f (names a) n (subst P (names-renamed f a) (names-among b (renamed f a) (SameFileMeaning-symmetric (renamed f a) b same) n among))

pub new-name : (f : ℕ → ℕ) (a b : FileMeaning) → SameFileMeaning (renamed f a) b → (n : ℕ) → Contains (names a) n → Contains (names b) (f n)
new-name f a b same n among =
    let P : List ℕ → Type 0 = λ ns. Contains ns (f n) in
    names-among (renamed f a) b same (f n) (subst P (sym (names-renamed f a)) (Contains-mapped f (names a) n among))

-- ---- the renaming that undoes one

abbrev pub undo : (ℕ → ℕ) → List ℕ → ℕ → ℕ
undo f [] k = 0
undo f (n ∷ ns) k = if nat_eq (f n) k then n else undo f ns k

undo-finds : (f : ℕ → ℕ) (ns : List ℕ) (k n : ℕ) → Contains ns n → f n ≡ k → Contains ns (undo f ns k) × (f (undo f ns k) ≡ k)
undo-finds f [] k n among is = absurd (Contains-none n among)
undo-finds f (m ∷ ns) k n among is = by_test (nat_eq (f m) k) refl (λ at. undo-finds f ns k n at is)
  where
    by_test : (b : Bool) → nat_eq (f m) k ≡ b → (Contains ns n → Contains ns (undo f ns k) × (f (undo f ns k) ≡ k))
        → Contains (m ∷ ns) (if b then m else undo f ns k) × (f (if b then m else undo f ns k) ≡ k)
    by_test true e more = (Contains-first m ns, eqb-true (f m) k e)
    by_test false e more = elim (Contains-cases m ns n among) [
      | inl h ↦ absurd (true≢false (sym (eq-eqb (f m) k (ap f h ∙ is)) ∙ e))
      | inr h ↦ let rest = more h in (Contains-later m ns (undo f ns k) rest.0, rest.1)
    ]

pub undo-is : (f : ℕ → ℕ) (ns : List ℕ) → IsInjectiveOn ns f → (n : ℕ) → Contains ns n → undo f ns (f n) ≡ n
undo-is f ns injective n among = let found = undo-finds f ns (f n) n among refl in injective (undo f ns (f n)) n found.0 among found.1

-- ---- the same but for names is an equivalence

pub SameButForNames-reflexive : (a : FileMeaning) → SameButForNames a a
SameButForNames-reflexive a = let P : FileMeaning → Type 0 = λ m. SameFileMeaning m a in (λ n. n, λ m n among among_ same. same, subst P (sym (renamed-kept a)) (SameFileMeaning-reflexive a))

pub SameButForNames-symmetric : (a b : FileMeaning) → IsWhole a → SameButForNames a b → SameButForNames b a
SameButForNames-symmetric a b whole_ (f, injective, same) =
    let g : ℕ → ℕ = undo f (names a) in
    let P : FileMeaning → Type 0 = λ m. SameFileMeaning (renamed g b) m in
    let back : renamed g (renamed f a) ≡ a = renamed-twice f g (λ n. n) a whole_ (undo-is f (names a) injective) ∙ renamed-kept a in
    (g, one_old, subst P back (SameFileMeaning-symmetric (renamed g (renamed f a)) (renamed g b) (SameFileMeaning-renamed g (renamed f a) b same)))
  where
    one_old : IsInjectiveOn (names b) (undo f (names a))
    one_old m n among among_ one =
        let (x, at, is) = old-name f a b same m among in
        let (y, at_, is_) = old-name f a b same n among_ in
        let first : undo f (names a) m ≡ x = ap (undo f (names a)) (sym is) ∙ undo-is f (names a) injective x at in
        let second : undo f (names a) n ≡ y = ap (undo f (names a)) (sym is_) ∙ undo-is f (names a) injective y at_ in
        sym is ∙ ap f (sym first ∙ one ∙ second) ∙ is_

pub SameButForNames-transitive : (a b c : FileMeaning) → IsWhole a → SameButForNames a b → SameButForNames b c → SameButForNames a c
SameButForNames-transitive a b c whole_ (f, injective, same) (g, injective_, same_) =
    let h : ℕ → ℕ = λ n. g (f n) in
    let P : FileMeaning → Type 0 = λ m. SameFileMeaning m (renamed g b) in
    let to_b : SameFileMeaning (renamed h a) (renamed g b) = subst P (renamed-twice f g h a whole_ (λ n among. refl)) (SameFileMeaning-renamed g (renamed f a) b same) in (
      h,
      λ m n among among_ one. injective m n among among_ (injective_ (f m) (f n) (new-name f a b same m among) (new-name f a b same n among_) one),
      SameFileMeaning-transitive (renamed h a) (renamed g b) c to_b same_,
    )

-- ---- numberings

-- what is the same but for names is the same in numbers that the renaming keeps
pub numbered-same : (f c d : ℕ → ℕ) (a b : FileMeaning) → IsWhole a → SameFileMeaning (renamed f a) b
    → ((n : ℕ) → Contains (names a) n → d (f n) ≡ c n) → SameFileMeaning (renamed c a) (renamed d b)
numbered-same f c d a b whole_ same numbers =
    let P : FileMeaning → Type 0 = λ m. SameFileMeaning m (renamed d b) in
    subst P (renamed-twice f d c a whole_ numbers) (SameFileMeaning-renamed d (renamed f a) b same)

-- and what is the same in numbers of which none stands for two is the same but for names
pub same-numbered : (c d : ℕ → ℕ) (a b : FileMeaning) → IsWhole a → IsWhole b → IsInjectiveOn (names a) c → IsInjectiveOn (names b) d
    → SameFileMeaning (renamed c a) (renamed d b) → SameButForNames a b
same-numbered c d a b whole_ whole_b injective injective_ same =
    SameButForNames-transitive a (renamed d b) b whole_ (c, injective, same) (SameButForNames-symmetric b (renamed d b) whole_b (d, injective_, SameFileMeaning-reflexive (renamed d b)))
