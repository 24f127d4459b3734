-- Files whose instances are told apart but for copies: whatever the orders that count copies in one sequence, the positions tell
-- the meaning.
use Rattle.std.specs.Prelude.{◌≡◌, ◌≢◌, ◌⊎◌, ℕ, ◌+◌, suc, Bool, true, false, cond, List, [], ◌∷◌, map, Contains, refl, nat_eq, if◌then◌else◌}
use Rattle.std.proofs.Common.{arith, ap, sym, subst, ◌∙◌, inl, inr, true≢false, map-id}
use Rattle.std.proofs.lemmas.Bool.{eqb-true, eq-eqb, ne_eqb}
use Rattle.p21_spec_basics.proofs.Members.{Contains-none, Contains-first, Contains-later, Contains-cases, Contains-mapped, Contains-unmapped, head_is, tail_is}
use Rattle.p21_spec_basics.proofs.Shuffles.{AreMembers, Shuffled, Shuffled-reflexive, Shuffled-symmetric, Shuffled-transitive, Shuffled-mapped}
use Rattle.p21_spec_exchange.specs.DataSection.{Heading}
use Rattle.p21_spec_file.specs.File.{FileMeaning}
use Rattle.p21_spec_file.specs.Meaning.{Typed}
use Rattle.p21_spec_file.specs.SameFile.{SameFileMeaning, SameTyped, AreInstancesAmong}
use Rattle.p21_spec_file.specs.Value.{Values}
use Rattle.p21_spec_file.proofs.SameFiles.{SameFileMeaning-reflexive, SameTyped-symmetric}
use Rattle.p21_spec_numbering.proofs.Moved.{rows-targets_renamed}
use Rattle.p21_spec_numbering.proofs.Orders.{ascends-once, ascends-mapped, order-shuffled, partner, number-injective}
use Rattle.p21_spec_numbering.proofs.Renaming.{rows-twice, rows-kept, SameTyped-renamed, numbered-same, undo, undo-is}
use Rattle.p21_spec_numbering.proofs.Targets.{typed_targets, targets-same, one-typed}
use Rattle.p21_spec_numbering.specs.Copies.{Shares, copy, IsAligned, IsExchange, NoChoiceCounts}
use Rattle.p21_spec_numbering.specs.Laws.{IsProper}
use Rattle.p21_spec_numbering.specs.Ordered.{Ranking, position, number_in, ordered}
use Rattle.p21_spec_numbering.specs.Renamed.{renamed_values, renamed_typed, renamed_instance, renamed_section, renamed, names, IsInjectiveOn}

-- ---- copies are counted alike

pub copy-injective : (r : ℕ → ℕ) (ns : List ℕ) (m n : ℕ) → Contains ns m → Contains ns n → r m ≡ r n → copy r ns m ≡ copy r ns n → m ≡ n
copy-injective r [] m n at at_ one same = absurd (Contains-none m at)
copy-injective r (x ∷ ns) m n at at_ one same = by (nat_eq x m) refl (nat_eq x n) refl (λ at at_. copy-injective r ns m n at at_ one) same
  where
    later : (k : ℕ) → Contains (x ∷ ns) k → nat_eq x k ≡ false → Contains ns k
    later k among e = elim (Contains-cases x ns k among) [
      | inl h ↦ absurd (true≢false (sym (eq-eqb x k h) ∙ e))
      | inr h ↦ h
    ]

    by : (b : Bool) → nat_eq x m ≡ b → (c : Bool) → nat_eq x n ≡ c → (Contains ns m → Contains ns n → copy r ns m ≡ copy r ns n → m ≡ n)
        → (if b then 0 else (cond (nat_eq (r x) (r m)) 1 0 + copy r ns m)) ≡ (if c then 0 else (cond (nat_eq (r x) (r n)) 1 0 + copy r ns n)) → m ≡ n
    by true e true e_ more p = sym (eqb-true x m e) ∙ eqb-true x n e_
    by true e false e_ more p =
        let h : ◌≡◌ {A = ℕ} (cond (nat_eq (r x) (r n)) 1 0) 1 = ap (λ (b : Bool). cond b 1 0) (eq-eqb (r x) (r n) (ap r (eqb-true x m e) ∙ one)) in
        absurd (omega (arith, p, h))
    by false e true e_ more p =
        let h : ◌≡◌ {A = ℕ} (cond (nat_eq (r x) (r m)) 1 0) 1 = ap (λ (b : Bool). cond b 1 0) (eq-eqb (r x) (r m) (ap r (eqb-true x n e_) ∙ sym one)) in
        absurd (omega (arith, p, h))
    by false e false e_ more p =
        let h : ◌≡◌ {A = ℕ} (cond (nat_eq (r x) (r m)) 1 0) (cond (nat_eq (r x) (r n)) 1 0) = ap (λ k. cond (nat_eq (r x) k) 1 0) one in
        more (later m at e) (later n at_ e_) (omega (arith, p, h))

-- in two orders of the same ranks
copy-agree : (r : ℕ → ℕ) (xs ys : List ℕ) → map r xs ≡ map r ys → (n k : ℕ) → r n ≡ r k → Contains xs n → Contains ys k
    → position xs n ≡ position ys k → copy r xs n ≡ copy r ys k
copy-agree r [] ys same n k one at at_ place = absurd (Contains-none n at)
copy-agree r (x ∷ xs) [] same n k one at at_ place = absurd (Contains-none k at_)
copy-agree r (x ∷ xs) (y ∷ ys) same n k one at at_ place =
    by (nat_eq x n) refl (nat_eq y k) refl (copy-agree r xs ys (tail_is (r x) (r y) (map r xs) (map r ys) same) n k one) place
  where
    later : (z : ℕ) (zs : List ℕ) (j : ℕ) → Contains (z ∷ zs) j → nat_eq z j ≡ false → Contains zs j
    later z zs j among e = elim (Contains-cases z zs j among) [
      | inl h ↦ absurd (true≢false (sym (eq-eqb z j h) ∙ e))
      | inr h ↦ h
    ]

    by : (b : Bool) → nat_eq x n ≡ b → (c : Bool) → nat_eq y k ≡ c
        → (Contains xs n → Contains ys k → position xs n ≡ position ys k → copy r xs n ≡ copy r ys k)
        → (if b then 0 else suc (position xs n)) ≡ (if c then 0 else suc (position ys k))
        → (if b then 0 else (cond (nat_eq (r x) (r n)) 1 0 + copy r xs n)) ≡ (if c then 0 else (cond (nat_eq (r y) (r k)) 1 0 + copy r ys k))
    by true e true e_ more p = refl
    by true e false e_ more p = absurd (omega (arith, p))
    by false e true e_ more p = absurd (omega (arith, p))
    by false e false e_ more p =
        let rest : copy r xs n ≡ copy r ys k = more (later x xs n at e) (later y ys k at_ e_) (omega (arith, p)) in
        ap (λ i. cond (nat_eq i (r n)) 1 0 + copy r xs n) (head_is (r x) (r y) (map r xs) (map r ys) same)
        ∙ ap (λ i. cond (nat_eq (r y) i) 1 0 + copy r xs n) one
        ∙ ap (λ i. cond (nat_eq (r y) (r k)) 1 0 + i) rest

pub copy-mapped : (f r q : ℕ → ℕ) (ns : List ℕ) (n : ℕ) → Contains ns n → IsInjectiveOn ns f → ((k : ℕ) → Contains ns k → q (f k) ≡ r k)
    → copy q (map f ns) (f n) ≡ copy r ns n
copy-mapped f r q [] n among injective same = absurd (Contains-none n among)
copy-mapped f r q (m ∷ ns) n among injective same =
    by_test (nat_eq m n) refl (λ at. copy-mapped f r q ns n at (λ j k at_ at__ one. injective j k (Contains-later m ns j at_) (Contains-later m ns k at__) one) (λ k at_. same k (Contains-later m ns k at_)))
  where
    by_test : (b : Bool) → nat_eq m n ≡ b → (Contains ns n → copy q (map f ns) (f n) ≡ copy r ns n)
        → (if nat_eq (f m) (f n) then 0 else (cond (nat_eq (q (f m)) (q (f n))) 1 0 + copy q (map f ns) (f n))) ≡ (if b then 0 else (cond (nat_eq (r m) (r n)) 1 0 + copy r ns n))
    by_test true e more = ap (λ (c : Bool). if c then 0 else (cond (nat_eq (q (f m)) (q (f n))) 1 0 + copy q (map f ns) (f n))) (eq-eqb (f m) (f n) (ap f (eqb-true m n e)))
    by_test false e more = elim (Contains-cases m ns n among) [
      | inl h ↦ absurd (true≢false (sym (eq-eqb m n h) ∙ e))
      | inr h ↦
          ap (λ (c : Bool). if c then 0 else (cond (nat_eq (q (f m)) (q (f n))) 1 0 + copy q (map f ns) (f n))) (ne_eqb (f m) (f n) (λ one. true≢false (sym (eq-eqb m n (injective m n (Contains-first m ns) among one)) ∙ e)))
          ∙ ap (λ i. cond (nat_eq i (q (f n))) 1 0 + copy q (map f ns) (f n)) (same m (Contains-first m ns))
          ∙ ap (λ i. cond (nat_eq (r m) i) 1 0 + copy q (map f ns) (f n)) (same n among)
          ∙ ap (λ i. cond (nat_eq (r m) (r n)) 1 0 + i) (more h)
    ]

-- ---- ranks that are shared

abbrev IsAlone : (ℕ → ℕ) → List ℕ → ℕ → Type 0
IsAlone r ns n = (k : ℕ) → Contains ns k → r k ≡ r n → k ≡ n

abbrev HasLike : (ℕ → ℕ) → List ℕ → ℕ → Type 0
HasLike r ns n = (k : ℕ) × Contains ns k × (k ≢ n) × (r k ≡ r n)

decide-shares : (r : ℕ → ℕ) (ns : List ℕ) (n : ℕ) → HasLike r ns n ⊎ IsAlone r ns n
decide-shares r [] n = inr (λ k at one. absurd (Contains-none k at))
decide-shares r (m ∷ ns) n = elim (decide-shares r ns n) [
  | inl h ↦ let (k, at, other, one) = h in inl (k, Contains-later m ns k at, other, one)
  | inr alone ↦ by (nat_eq m n) refl (nat_eq (r m) (r n)) refl alone
]
  where
    by : (b : Bool) → nat_eq m n ≡ b → (c : Bool) → nat_eq (r m) (r n) ≡ c → IsAlone r ns n → HasLike r (m ∷ ns) n ⊎ IsAlone r (m ∷ ns) n
    by true e c e_ alone = inr (λ k at one. elim (Contains-cases m ns k at) [
      | inl h ↦ sym h ∙ eqb-true m n e
      | inr h ↦ alone k h one
    ])
    by false e true e_ alone = inl (m, Contains-first m ns, (λ same. true≢false (sym (eq-eqb m n same) ∙ e)), eqb-true (r m) (r n) e_)
    by false e false e_ alone = inr (λ k at one. elim (Contains-cases m ns k at) [
      | inl h ↦ absurd (true≢false (sym (eq-eqb (r m) (r n) (ap r h ∙ one)) ∙ e_))
      | inr h ↦ alone k h one
    ])

decide : (m n : ℕ) → (m ≡ n) ⊎ (m ≢ n)
decide m n = by (nat_eq m n) refl
  where
    by : (b : Bool) → nat_eq m n ≡ b → (m ≡ n) ⊎ (m ≢ n)
    by true e = inl (eqb-true m n e)
    by false e = inr (λ same. true≢false (sym (eq-eqb m n same) ∙ e))

-- what has the rank of one that shares its rank shares it too
pub shares-along : (ranking : Ranking) (m : FileMeaning) (n k : ℕ) → Contains (names m) n → ranking m n ≡ ranking m k
    → Shares ranking m n → Shares ranking m k
shares-along ranking m n k among one shares = elim (decide n k) [
  | inl same ↦ let P : ℕ → Type 0 = λ j. Shares ranking m j in subst P same shares
  | inr other ↦ (n, among, other, one)
]

-- ---- from one order of a file to another

module _ (ranking : Ranking) (m : FileMeaning) (proper : IsProper m) (decided : NoChoiceCounts ranking m) (xs ys : List ℕ) (is : IsAligned ranking m xs) (is_ : IsAligned ranking m ys) where
  abbrev r : ℕ → ℕ
  r = ranking m

  ranks-same : map r xs ≡ map r ys
  ranks-same =
      ascends-once (map r xs) (map r ys) (ascends-mapped r xs is.is_order.ascends) (ascends-mapped r ys is_.is_order.ascends)
      (Shuffled-transitive (map r xs) (map r (names m)) (map r ys) (Shuffled-mapped r xs (names m) (order-shuffled ranking m proper.0 xs is.is_order))
      (Shuffled-symmetric (map r ys) (map r (names m)) (Shuffled-mapped r ys (names m) (order-shuffled ranking m proper.0 ys is_.is_order))))

  -- the instance that stands in the second order where this one stands in the first
  abbrev move : ℕ → ℕ
  move n = undo (number_in ys) (names m) (number_in xs n)

  record IsMovedTo (n k : ℕ) : Type 0 where
    at : Contains (names m) k
    number : number_in ys k ≡ number_in xs n
    ranked : r k ≡ r n
    copied : copy r ys k ≡ copy r xs n

  moved : (n : ℕ) → Contains (names m) n → IsMovedTo n (move n)
  moved n among =
      let P : List ℕ → Type 0 = λ ns. Shuffled ns (names m) in
      let (k, at, position_, rank_) = partner ranking (λ j. j) m m proper.0 proper.0 (subst P (sym (map-id (names m))) (Shuffled-reflexive (names m))) (λ j at. refl) xs ys is.is_order is_.is_order n among in
      let own : IsInjectiveOn (names m) (number_in ys) = λ i j at_ at__ one. number-injective ys i j ((is_.is_order.all i).0 at_) ((is_.is_order.all j).0 at__) one in
      let same : k ≡ move n = sym (undo-is (number_in ys) (names m) own k at) ∙ ap (λ z. undo (number_in ys) (names m) (suc z)) position_ in
      let Q : ℕ → Type 0 = λ j. IsMovedTo n j in
      subst Q same (record {
        at = at;
        number = ap suc position_;
        ranked = rank_;
        copied = copy-agree r ys xs (sym ranks-same) k n rank_ ((is_.is_order.all k).0 at) ((is.is_order.all n).0 among) position_;
      })

  exchange : IsExchange ranking m move
  exchange = record {
    injective = λ j k among among_ one.
        number-injective xs j k ((is.is_order.all j).0 among) ((is.is_order.all k).0 among_) (sym (moved j among).number ∙ ap (number_in ys) one ∙ (moved k among_).number);
    among = λ n among. (moved n among).at;
    ranks = λ n among. (moved n among).ranked;
  }

  -- ranks tell the targets of an instance that shares its rank
  targets-apart : (k : ℕ) (y : Typed) → Contains m.instances (k, y) → Shares ranking m k → IsInjectiveOn (typed_targets y) r
  targets-apart k y at shares t u target target_ one =
      let among : Contains (names m) t = proper.0.closed k y at t target in
      let among_ : Contains (names m) u = proper.0.closed k y at u target_ in
      elim (decide t u) [
        | inl same ↦ same
        | inr other ↦
            let first : copy r ys k ≡ copy r ys t = is_.aligned k t (y, at, target) shares (u, among_, (λ same. other (sym same)), sym one) in
            let second : copy r ys k ≡ copy r ys u = is_.aligned k u (y, at, target_) shares (t, among, other, one) in
            copy-injective r ys t u ((is_.is_order.all t).0 among) ((is_.is_order.all u).0 among_) one (sym first ∙ second)
      ]

  -- a target of what it becomes, of the same rank, is what the target becomes
  target-moved : (n : ℕ) (x y : Typed) → Contains m.instances (n, x) → Contains m.instances (move n, y) → Shares ranking m n → (t u : ℕ)
      → Contains (typed_targets x) t → Contains (typed_targets y) u → r u ≡ r t → u ≡ move t
  target-moved n x y at at_ shares t u target target_ one =
      let among_n : Contains (names m) n = Contains-mapped (λ (i : ℕ × Typed). i.0) m.instances (n, x) at in
      let among : Contains (names m) t = proper.0.closed n x at t target in
      let among_ : Contains (names m) u = proper.0.closed (move n) y at_ u target_ in
      let to = moved t among in
      let rank_ : r u ≡ r (move t) = one ∙ sym to.ranked in
      elim (decide u (move t)) [
        | inl same ↦ same
        | inr other ↦
            let shares_u : Shares ranking m u = (move t, to.at, (λ same. other (sym same)), sym rank_) in
            let shares_t : Shares ranking m t = shares-along ranking m u t among_ one shares_u in
            let shares_k : Shares ranking m (move n) = shares-along ranking m n (move n) among_n (sym (moved n among_n).ranked) shares in
            let first : copy r ys (move n) ≡ copy r ys u = is_.aligned (move n) u (y, at_, target_) shares_k shares_u in
            let second : copy r xs n ≡ copy r xs t = is.aligned n t (x, at, target) shares shares_t in
            copy-injective r ys u (move t) ((is_.is_order.all u).0 among_) ((is_.is_order.all (move t)).0 to.at) rank_
            (sym first ∙ (moved n among_n).copied ∙ second ∙ sym to.copied)
      ]

  shared-like : (n : ℕ) (x y : Typed) → Contains m.instances (n, x) → Contains m.instances (move n, y) → Shares ranking m n
      → SameTyped (renamed_typed move x) y
  shared-like n x y at at_ shares =
      let among : Contains (names m) n = Contains-mapped (λ (i : ℕ × Typed). i.0) m.instances (n, x) at in
      let ranked : r n ≡ r (move n) = sym (moved n among).ranked in
      let alike : SameTyped (renamed_typed r x) (renamed_typed r y) = decided.alike n (move n) x y at at_ ranked in
      let apart : IsInjectiveOn (typed_targets y) r = targets-apart (move n) y at_ (shares-along ranking m n (move n) among ranked shares) in
      let g : ℕ → ℕ = undo r (typed_targets y) in
      let P : List Values → Type 0 = λ rows. SameTyped (record { entities = x.entities; values = rows }) (renamed_typed g (renamed_typed r y)) in
      let Q : List Values → Type 0 = λ rows. SameTyped (renamed_typed move x) (record { entities = y.entities; values = rows }) in
      let own : map (renamed_values g) (map (renamed_values r) y.values) ≡ y.values = rows-twice r g (λ t. t) y.values (undo-is r (typed_targets y) apart) ∙ rows-kept y.values in
      subst Q own (subst P (rows-twice r g move x.values to) (SameTyped-renamed g (renamed_typed r x) (renamed_typed r y) alike))
    where
      to : (t : ℕ) → Contains (typed_targets x) t → undo (ranking m) (typed_targets y) (ranking m t) ≡ move t
      to t target =
          let among : Contains (names m) n = Contains-mapped (λ (i : ℕ × Typed). i.0) m.instances (n, x) at in
          let ranked : r n ≡ r (move n) = sym (moved n among).ranked in
          let alike : SameTyped (renamed_typed r x) (renamed_typed r y) = decided.alike n (move n) x y at at_ ranked in
          let apart : IsInjectiveOn (typed_targets y) r = targets-apart (move n) y at_ (shares-along ranking m n (move n) among ranked shares) in
          let R : List ℕ → Type 0 = λ ts. Contains ts (r t) in
          let leads : Contains (typed_targets (renamed_typed r y)) (r t) =
          targets-same (renamed_typed r x) (renamed_typed r y) alike (r t) (subst R (sym (rows-targets_renamed r x.values)) (Contains-mapped r (typed_targets x) t target)) in
          let (u, target_, one) = Contains-unmapped r (typed_targets y) (r t) (subst R (rows-targets_renamed r y.values) leads) in
          ap (undo r (typed_targets y)) (sym one) ∙ undo-is r (typed_targets y) apart u target_ ∙ target-moved n x y at at_ shares t u target target_ one

  -- each instance means what the one does that it becomes
  like : (n : ℕ) (x y : Typed) → Contains m.instances (n, x) → Contains m.instances (move n, y) → SameTyped (renamed_typed move x) y
  like n x y at at_ =
      let among : Contains (names m) n = Contains-mapped (λ (i : ℕ × Typed). i.0) m.instances (n, x) at in
      elim (decide-shares r (names m) n) [
        | inl shares ↦ shared-like n x y at at_ shares
        | inr alone ↦
            let same : move n ≡ n = alone (move n) (moved n among).at (moved n among).ranked in
            let P : ℕ → Type 0 = λ k. Contains m.instances (k, y) in
            let one : x ≡ y = one-typed m proper.0 n x y at (subst P same at_) in
            let Q : Typed → Type 0 = λ z. SameTyped (renamed_typed move x) z in
            subst Q one (decided.kept n x at (λ shares. let (k, at_k, other, ranked) = shares in other (alone k at_k ranked)) move exchange)
      ]

  beside : (n : ℕ) → Contains (names m) n → (x : Typed) × Contains m.instances (n, x)
  beside n among =
      let (i, at, is_n) = Contains-unmapped (λ (i : ℕ × Typed). i.0) m.instances n among in
      let P : ℕ → Type 0 = λ k. Contains m.instances (k, i.1) in
      (i.1, subst P is_n at)

  within_ : (n : ℕ) → Contains (names m) n → (h : Heading) × Contains m.instance_sections (n, h)
  within_ n among =
      let P : List ℕ → Type 0 = λ ns. Contains ns n in
      let (i, at, is_n) = Contains-unmapped (λ (i : ℕ × Heading). i.0) m.instance_sections n (subst P (sym proper.0.in_sections) among) in
      let Q : ℕ → Type 0 = λ k. Contains m.instance_sections (k, i.1) in
      (i.1, subst Q is_n at)

  in_names : (i : ℕ × Heading) → Contains m.instance_sections i → Contains (names m) i.0
  in_names i at = let P : List ℕ → Type 0 = λ ns. Contains ns i.0 in subst P proper.0.in_sections (Contains-mapped (λ (k : ℕ × Heading). k.0) m.instance_sections i at)

-- exchanging copies leaves the meaning as it is
module _ (ranking : Ranking) (m : FileMeaning) (proper : IsProper m) (decided : NoChoiceCounts ranking m) (xs ys : List ℕ) (is : IsAligned ranking m xs) (is_ : IsAligned ranking m ys) where
  abbrev pub to_ : ℕ → ℕ
  to_ = move ranking m proper decided xs ys is is_

  abbrev from_ : ℕ → ℕ
  from_ = move ranking m proper decided ys xs is_ is

  there_ : (n : ℕ) → Contains (names m) n → IsMovedTo ranking m proper decided xs ys is is_ n (to_ n)
  there_ = moved ranking m proper decided xs ys is is_

  back_ : (n : ℕ) → Contains (names m) n → IsMovedTo ranking m proper decided ys xs is_ is n (from_ n)
  back_ = moved ranking m proper decided ys xs is_ is

  to-from : (n : ℕ) → Contains (names m) n → to_ (from_ n) ≡ n
  to-from n among =
      let first = back_ n among in
      let second = there_ (from_ n) first.at in
      number-injective ys (to_ (from_ n)) n ((is_.is_order.all (to_ (from_ n))).0 second.at) ((is_.is_order.all n).0 among) (second.number ∙ first.number)

  onto_ : AreInstancesAmong (renamed to_ m).instances m.instances
  onto_ n x among =
      let (i, at, is_i) = Contains-unmapped (renamed_instance to_) m.instances (n, x) among in
      let (y, at_) = beside ranking m proper decided xs ys is is_ (to_ i.0) (there_ i.0 (Contains-mapped (λ (j : ℕ × Typed). j.0) m.instances i at)).at in
      let P : ℕ × Typed → Type 0 = λ j. (z : Typed) × Contains m.instances (j.0, z) × SameTyped j.1 z in
      subst P is_i (y, at_, like ranking m proper decided xs ys is is_ i.0 i.1 y at at_)

  onto_back : AreInstancesAmong m.instances (renamed to_ m).instances
  onto_back n x at =
      let among : Contains (names m) n = Contains-mapped (λ (j : ℕ × Typed). j.0) m.instances (n, x) at in
      let (z, at_) = beside ranking m proper decided xs ys is is_ (from_ n) (back_ n among).at in
      let P : ℕ → Type 0 = λ k. Contains (renamed to_ m).instances (k, renamed_typed to_ z) in
      let Q : ℕ → Type 0 = λ k. Contains m.instances (k, x) in (
        renamed_typed to_ z,
        subst P (to-from n among) (Contains-mapped (renamed_instance to_) m.instances (from_ n, z) at_),
        SameTyped-symmetric (renamed_typed to_ z) x (like ranking m proper decided xs ys is is_ (from_ n) z x at_ (subst Q (sym (to-from n among)) at)),
      )

  sections_to : AreMembers (renamed to_ m).instance_sections m.instance_sections
  sections_to j among =
      let (i, at, is_i) = Contains-unmapped (renamed_section to_) m.instance_sections j among in
      let goes = there_ i.0 (in_names ranking m proper decided xs ys is is_ i at) in
      let (h, at_) = within_ ranking m proper decided xs ys is is_ (to_ i.0) goes.at in
      let P : ℕ × Heading → Type 0 = λ k. Contains m.instance_sections k in
      let Q : Heading → Type 0 = λ k. Contains m.instance_sections (to_ i.0, k) in
      subst P is_i (subst Q (decided.one_section (to_ i.0) i.0 h i.1 at_ at goes.ranked) at_)

  sections_back : AreMembers m.instance_sections (renamed to_ m).instance_sections
  sections_back j at =
      let among : Contains (names m) j.0 = in_names ranking m proper decided xs ys is is_ j at in
      let comes = back_ j.0 among in
      let (h, at_) = within_ ranking m proper decided xs ys is is_ (from_ j.0) comes.at in
      let P : ℕ → Type 0 = λ k. Contains (renamed to_ m).instance_sections (k, h) in
      let Q : Heading → Type 0 = λ k. Contains (renamed to_ m).instance_sections (j.0, k) in
      subst Q (decided.one_section (from_ j.0) j.0 h j.1 at_ at comes.ranked) (subst P (to-from j.0 among) (Contains-mapped (renamed_section to_) m.instance_sections (from_ j.0, h) at_))

  pub exchanged-same : SameFileMeaning (renamed to_ m) m
  exchanged-same =
      let own = SameFileMeaning-reflexive m in
      record { header = own.header; schema = own.schema; sections = own.sections; onto = onto_; back = onto_back; instance_sections = λ j. (sections_to j, sections_back j) }

  -- so all orders that count copies in one sequence give one meaning
  pub aligned-same : SameFileMeaning (ordered xs m) (ordered ys m)
  aligned-same = numbered-same to_ (number_in xs) (number_in ys) m m proper.0 exchanged-same (λ n among. (there_ n among).number)
