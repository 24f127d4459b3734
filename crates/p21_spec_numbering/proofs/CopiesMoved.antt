-- Copies of files that are the same but for names.
use Rattle.std.specs.Prelude.{◌≡◌, ℕ, suc, List, map, Contains, refl, nat_eq}
use Rattle.std.proofs.Common.{ap, sym, subst, ◌∙◌}
use Rattle.p21_spec_basics.proofs.Members.{Contains-mapped, Contains-unmapped}
use Rattle.p21_spec_basics.proofs.Shuffles.{distinct-none_twice, none_twice-distinct}
use Rattle.p21_spec_exchange.specs.DataSection.{Heading}
use Rattle.p21_spec_file.specs.File.{FileMeaning}
use Rattle.p21_spec_file.specs.Meaning.{Typed}
use Rattle.p21_spec_file.specs.SameFile.{SameFileMeaning, SameTyped}
use Rattle.p21_spec_file.specs.Value.{Values}
use Rattle.p21_spec_file.proofs.SameFiles.{SameFileMeaning-transitive, SameTyped-symmetric, SameTyped-transitive}
use Rattle.p21_spec_numbering.proofs.OwnOrders.{ascends-kept}
use Rattle.p21_spec_numbering.proofs.Copies.{copy-mapped, aligned-same}
use Rattle.p21_spec_numbering.proofs.Moved.{rows-targets_renamed, none_twice-mapped, names-moved}
use Rattle.p21_spec_numbering.proofs.Orders.{number-injective, position-mapped}
use Rattle.p21_spec_numbering.proofs.Ranks.{many-moved}
use Rattle.p21_spec_numbering.proofs.Renaming.{rows-twice, SameTyped-renamed, numbered-same, same-numbered, undo, undo-is, old-name, new-name}
use Rattle.p21_spec_numbering.proofs.Targets.{typed_targets, targets-same}
use Rattle.p21_spec_numbering.specs.Copies.{Shares, many, RefersTo, copy, IsAligned, IsExchange, NoChoiceCounts}
use Rattle.p21_spec_numbering.specs.Laws.{IsProper, AlignedOrdersAreSame, SameHaveAsFewChoices, AlignedOrdersTellSameness}
use Rattle.p21_spec_numbering.specs.Ordered.{Ranking, IsOrder, number_in, ordered}
use Rattle.p21_spec_numbering.specs.Renamed.{renamed_typed, renamed_instance, renamed_section, renamed, names, IsInjectiveOn, SameButForNames}

-- renamed twice
pub typed-twice : (f g h : ℕ → ℕ) (x : Typed) → ((t : ℕ) → Contains (typed_targets x) t → g (f t) ≡ h t)
    → renamed_typed g (renamed_typed f x) ≡ renamed_typed h x
typed-twice f g h x same =
    let make : List Values → Typed = λ rows. record { entities = x.entities; values = rows } in
    ap make (rows-twice f g h x.values same)

module _ (ranking : Ranking) (f : ℕ → ℕ) (a b : FileMeaning) (proper : IsProper a) (proper_ : IsProper b) (injective : IsInjectiveOn (names a) f) (same : SameFileMeaning (renamed f a) b) (agree : (n : ℕ) → Contains (names a) n → ranking b (f n) ≡ ranking a n) where
  name-of : (n : ℕ) (x : Typed) → Contains a.instances (n, x) → Contains (names a) n
  name-of n x at = Contains-mapped (λ (i : ℕ × Typed). i.0) a.instances (n, x) at

  -- what an instance of the second was in the first
  record Was (k : ℕ) (y : Typed) : Type 0 where
    n : ℕ
    x : Typed
    at : Contains a.instances (n, x)
    name : f n ≡ k
    likeness : SameTyped y (renamed_typed f x)

  was : (k : ℕ) (y : Typed) → Contains b.instances (k, y) → Was k y
  was k y at =
      let (z, found_, likeness) = same.back k y at in
      let (i, own, is_i) = Contains-unmapped (renamed_instance f) a.instances (k, z) found_ in
      let P : Typed → Type 0 = λ w. SameTyped y w in
      record { n = i.0; x = i.1; at = own; name = ap (λ (j : ℕ × Typed). j.0) is_i; likeness = subst P (sym (ap (λ (j : ℕ × Typed). j.1) is_i)) likeness }

  target-was : (k : ℕ) (y : Typed) (w : Was k y) (u : ℕ) → Contains (typed_targets y) u
      → (t : ℕ) × Contains (typed_targets w.x) t × (f t ≡ u)
  target-was k y w u target =
      let P : List ℕ → Type 0 = λ ts. Contains ts u in
      Contains-unmapped f (typed_targets w.x) u (subst P (rows-targets_renamed f w.x.values) (targets-same y (renamed_typed f w.x) w.likeness u target))

  -- it shared its rank
  pub shares-was : (n : ℕ) → Contains (names a) n → Shares ranking b (f n) → Shares ranking a n
  shares-was n among (k, at, other, one) =
      let (j, at_, is_k) = old-name f a b same k at in
      (j, at_, (λ equal. other (sym is_k ∙ ap f equal)), sym (agree j at_) ∙ ap (ranking b) is_k ∙ one ∙ agree n among)

  pub shares-is : (n : ℕ) → Contains (names a) n → Shares ranking a n → Shares ranking b (f n)
  shares-is n among (k, at, other, one) =
      (f k, new-name f a b same k at, (λ equal. other (injective k n at among equal)), agree k at ∙ one ∙ sym (agree n among))

  order-moved : (xs : List ℕ) → IsOrder ranking a xs → IsOrder ranking b (map f xs)
  order-moved xs is = record {
    once = none_twice-distinct (map f xs) (none_twice-mapped f xs (λ j k at at_ one. injective j k ((is.all j).1 at) ((is.all k).1 at_) one) (distinct-none_twice xs is.once));
    all = λ k. (
      λ among.
          let (j, at, is_k) = old-name f a b same k among in
          let P : ℕ → Type 0 = λ z. Contains (map f xs) z in
          subst P is_k (Contains-mapped f xs j ((is.all j).0 at)),
      λ among.
          let (j, at, is_k) = Contains-unmapped f xs k among in
          let P : ℕ → Type 0 = λ z. Contains (names b) z in
          subst P is_k (new-name f a b same j ((is.all j).1 at)),
    );
    ascends = ascends-kept f (ranking a) (ranking b) xs (λ k among. agree k ((is.all k).1 among)) is.ascends;
  }

  copy-moved : (xs : List ℕ) → IsOrder ranking a xs → (n : ℕ) → Contains (names a) n
      → copy (ranking b) (map f xs) (f n) ≡ copy (ranking a) xs n
  copy-moved xs is n among =
      copy-mapped f (ranking a) (ranking b) xs n ((is.all n).0 among) (λ j k at at_ one. injective j k ((is.all j).1 at) ((is.all k).1 at_) one) (λ k at. agree k ((is.all k).1 at))

  pub aligned-moved : (xs : List ℕ) → IsAligned ranking a xs → IsAligned ranking b (map f xs)
  aligned-moved xs is = record { is_order = order-moved xs is.is_order; aligned = aligned }
    where
      aligned : (k u : ℕ) → RefersTo b k u → Shares ranking b k → Shares ranking b u
          → copy (ranking b) (map f xs) k ≡ copy (ranking b) (map f xs) u
      aligned k u (y, at, target) shares shares_u =
          let w = was k y at in
          let (t, target_, is_u) = target-was k y w u target in
          let among : Contains (names a) w.n = name-of w.n w.x w.at in
          let among_ : Contains (names a) t = proper.0.closed w.n w.x w.at t target_ in
          let P : ℕ → Type 0 = λ j. Shares ranking b j in
          let one : copy (ranking a) xs w.n ≡ copy (ranking a) xs t =
          is.aligned w.n t (w.x, w.at, target_) (shares-was w.n among (subst P (sym w.name) shares)) (shares-was t among_ (subst P (sym is_u) shares_u)) in
          let at_name : ℕ → ℕ = λ j. copy (ranking b) (map f xs) j in
          ap at_name (sym w.name) ∙ copy-moved xs is.is_order w.n among ∙ one ∙ sym (copy-moved xs is.is_order t among_) ∙ ap at_name is_u

  -- by ranks it says what it said
  ranked-was : (k : ℕ) (y : Typed) (w : Was k y) → SameTyped (renamed_typed (ranking b) y) (renamed_typed (ranking a) w.x)
  ranked-was k y w =
      let P : Typed → Type 0 = λ z. SameTyped (renamed_typed (ranking b) y) z in
      subst P (typed-twice f (ranking b) (ranking a) w.x (λ t target. agree t (proper.0.closed w.n w.x w.at t target))) (SameTyped-renamed (ranking b) y (renamed_typed f w.x) w.likeness)

  -- an exchange of the second is one of the first
  turned : (ℕ → ℕ) → ℕ → ℕ
  turned e n = undo f (names a) (e (f n))

  turned-is : (e : ℕ → ℕ) → IsExchange ranking b e → (n : ℕ) → Contains (names a) n
      → Contains (names a) (turned e n) × (f (turned e n) ≡ e (f n))
  unfolding turned
  turned-is e is n among =
      let (j, at, is_j) = old-name f a b same (e (f n)) (is.among (f n) (new-name f a b same n among)) in
      let one : turned e n ≡ j = ap (undo f (names a)) (sym is_j) ∙ undo-is f (names a) injective j at in
      let P : ℕ → Type 0 = λ k. Contains (names a) k in
      (subst P (sym one) at, ap f one ∙ is_j)

  exchange-was : (e : ℕ → ℕ) → IsExchange ranking b e → IsExchange ranking a (turned e)
  exchange-was e is = record {
    injective = λ j k among among_ one.
        injective j k among among_ (is.injective (f j) (f k) (new-name f a b same j among) (new-name f a b same k among_) (sym (turned-is e is j among).1 ∙ ap f one ∙ (turned-is e is k among_).1));
    among = λ n among. (turned-is e is n among).0;
    ranks = λ n among.
        sym (agree (turned e n) (turned-is e is n among).0) ∙ ap (ranking b) (turned-is e is n among).1 ∙ is.ranks (f n) (new-name f a b same n among) ∙ agree n among;
  }

  pub decided-moved : NoChoiceCounts ranking a → NoChoiceCounts ranking b
  decided-moved decided = record { alike = alike; one_section = one_section; kept = kept; order = map f decided.order; aligned = aligned-moved decided.order decided.aligned }
    where
      alike : (j k : ℕ) (x y : Typed) → Contains b.instances (j, x) → Contains b.instances (k, y) → ranking b j ≡ ranking b k
          → SameTyped (renamed_typed (ranking b) x) (renamed_typed (ranking b) y)
      alike j k x y at at_ one =
          let v = was j x at in
          let w = was k y at_ in
          let ranks : ranking a v.n ≡ ranking a w.n = sym (agree v.n (name-of v.n v.x v.at)) ∙ ap (ranking b) v.name ∙ one ∙ ap (ranking b) (sym w.name) ∙ agree w.n (name-of w.n w.x w.at) in
          let X : Typed = renamed_typed (ranking b) x in
          let V : Typed = renamed_typed (ranking a) v.x in
          let W : Typed = renamed_typed (ranking a) w.x in
          let Y : Typed = renamed_typed (ranking b) y in
          SameTyped-transitive X V Y (ranked-was j x v) (SameTyped-transitive V W Y (decided.alike v.n w.n v.x w.x v.at w.at ranks) (SameTyped-symmetric Y W (ranked-was k y w)))

      one_section : (j k : ℕ) (g h : Heading) → Contains b.instance_sections (j, g) → Contains b.instance_sections (k, h)
          → ranking b j ≡ ranking b k → g ≡ h
      one_section j k g h at at_ one =
          let (i, own, is_i) = Contains-unmapped (renamed_section f) a.instance_sections (j, g) ((same.instance_sections (j, g)).1 at) in
          let (l, own_, is_l) = Contains-unmapped (renamed_section f) a.instance_sections (k, h) ((same.instance_sections (k, h)).1 at_) in
          let name_i : f i.0 ≡ j = ap (λ (z : ℕ × Heading). z.0) is_i in
          let name_l : f l.0 ≡ k = ap (λ (z : ℕ × Heading). z.0) is_l in
          let in_names : (z : ℕ × Heading) → Contains a.instance_sections z → Contains (names a) z.0 =
          λ z among. let P : List ℕ → Type 0 = λ ns. Contains ns z.0 in subst P proper.0.in_sections (Contains-mapped (λ (y : ℕ × Heading). y.0) a.instance_sections z among) in
          let ranks : ranking a i.0 ≡ ranking a l.0 = sym (agree i.0 (in_names i own)) ∙ ap (ranking b) name_i ∙ one ∙ ap (ranking b) (sym name_l) ∙ agree l.0 (in_names l own_) in
          sym (ap (λ (z : ℕ × Heading). z.1) is_i) ∙ decided.one_section i.0 l.0 i.1 l.1 own own_ ranks ∙ ap (λ (z : ℕ × Heading). z.1) is_l

      kept : (k : ℕ) (y : Typed) → Contains b.instances (k, y) → ¬ Shares ranking b k → (e : ℕ → ℕ) → IsExchange ranking b e
          → SameTyped (renamed_typed e y) y
      kept k y at alone e is =
          let w = was k y at in
          let P : ℕ → Type 0 = λ j. Shares ranking b j in
          let d : ℕ → ℕ = turned e in
          let own : SameTyped (renamed_typed d w.x) w.x = decided.kept w.n w.x w.at (λ shares. alone (subst P w.name (shares-is w.n (name-of w.n w.x w.at) shares))) d (exchange-was e is) in
          let F : Typed = renamed_typed f w.x in
          let both : ℕ → ℕ = λ t. e (f t) in
          let first : renamed_typed f (renamed_typed d w.x) ≡ renamed_typed both w.x = typed-twice d f both w.x (λ t target. (turned-is e is t (proper.0.closed w.n w.x w.at t target)).1) in
          let second : renamed_typed e F ≡ renamed_typed both w.x = typed-twice f e both w.x (λ t target. refl) in
          let Q : Typed → Type 0 = λ z. SameTyped z F in
          let middle : SameTyped (renamed_typed e F) F = subst Q (first ∙ sym second) (SameTyped-renamed f (renamed_typed d w.x) w.x own) in
          SameTyped-transitive (renamed_typed e y) (renamed_typed e F) y (SameTyped-renamed e y F w.likeness) (SameTyped-transitive (renamed_typed e F) F y middle (SameTyped-symmetric y F w.likeness))

  many-is : (n : ℕ) → Contains (names a) n → many ranking b (f n) ≡ many ranking a n
  many-is n among =
      many-moved f (names a) (names b) (names-moved f a b proper.0 proper_.0 injective same) (λ j. nat_eq (ranking a j) (ranking a n)) (λ j. nat_eq (ranking b j) (ranking b (f n)))
      (λ j at. ap (λ r. nat_eq r (ranking b (f n))) (agree j at) ∙ ap (nat_eq (ranking a j)) (agree n among))

  pub as_many-moved : ((n t : ℕ) → RefersTo a n t → Shares ranking a n → Shares ranking a t → many ranking a n ≡ many ranking a t)
      → (k u : ℕ) → RefersTo b k u → Shares ranking b k → Shares ranking b u → many ranking b k ≡ many ranking b u
  as_many-moved as_many k u (y, at, target) shares shares_u =
      let w = was k y at in
      let (t, target_, is_u) = target-was k y w u target in
      let among : Contains (names a) w.n = name-of w.n w.x w.at in
      let among_ : Contains (names a) t = proper.0.closed w.n w.x w.at t target_ in
      let P : ℕ → Type 0 = λ j. Shares ranking b j in
      ap (many ranking b) (sym w.name)
      ∙ many-is w.n among
      ∙ as_many w.n t (w.x, w.at, target_) (shares-was w.n among (subst P (sym w.name) shares)) (shares-was t among_ (subst P (sym is_u) shares_u))
      ∙ sym (many-is t among_)
      ∙ ap (many ranking b) is_u

-- ---- the laws

pub aligned-are_same : AlignedOrdersAreSame
aligned-are_same ranking m proper decided xs ys is is_ = aligned-same ranking m proper decided xs ys is is_

pub choices-alike : SameHaveAsFewChoices
choices-alike ranking invariant a b proper proper_ (f, injective, same) =
    decided-moved ranking f a b proper proper_ injective same (invariant f a b proper proper_ injective same)

pub aligned-tell_sameness : AlignedOrdersTellSameness
aligned-tell_sameness ranking invariant a b proper proper_ decided decided_ xs ys is is_ = (to, back)
  where
    to : SameButForNames a b → SameFileMeaning (ordered xs a) (ordered ys b)
    to (f, injective, same) =
        let agree = invariant f a b proper proper_ injective same in
        let along : SameFileMeaning (ordered xs a) (ordered (map f xs) b) =
        numbered-same f (number_in xs) (number_in (map f xs)) a b proper.0 same
        (λ n among. ap suc (position-mapped f xs n ((is.is_order.all n).0 among) (λ j k at at_ one. injective j k ((is.is_order.all j).1 at) ((is.is_order.all k).1 at_) one))) in
        SameFileMeaning-transitive (ordered xs a) (ordered (map f xs) b) (ordered ys b) along
        (aligned-same ranking b proper_ decided_ (map f xs) ys (aligned-moved ranking f a b proper proper_ injective same agree xs is) is_)

    apart : (m : FileMeaning) (order : List ℕ) → IsOrder ranking m order → IsInjectiveOn (names m) (number_in order)
    apart m order of j k among among_ one = number-injective order j k ((of.all j).0 among) ((of.all k).0 among_) one

    back : SameFileMeaning (ordered xs a) (ordered ys b) → SameButForNames a b
    back same = same-numbered (number_in xs) (number_in ys) a b proper.0 proper_.0 (apart a xs is.is_order) (apart b ys is_.is_order) same
