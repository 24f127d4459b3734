-- Ranks by rounds over fresh nodes are kept by whatever keeps labels and places.
use Rattle.std.specs.Prelude.{◌≡◌, ℕ, zero, suc, ◌+◌, Bool, true, false, List, [], ◌∷◌, ◌++◌, map, length, ◌&&◌, ◌||◌, not, ltb, nat_eq, if◌then◌else◌, Contains, refl}
use Rattle.std.proofs.Common.{arith, ap, sym, subst, ◌∙◌}
use Rattle.std.proofs.lemmas.List.{length-map}
use Rattle.p21_spec_numbering.proofs.Lists.{Shuffled-length}
use Rattle.p21_spec_numbering.proofs.Ranks.{IsMoved, many-moved, sorted-moved, rank_by-moved}
use Rattle.p21_spec_numbering.specs.Graph.{Graph}
use Rattle.p21_spec_numbering.specs.Fresh.{Ranks, entry, entries, fresh_uses, fresh_key, tell, is_told, told, final_rank}
use Rattle.p21_spec_numbering.specs.Fresh.{size, is_largest}

-- two numbers each
two : {Y : Type 0} (F : ℕ → ℕ → Y) (a b c d : ℕ) → a ≡ c → b ≡ d → F a b ≡ F c d
two F a b c d first second = ap (λ z. F z b) first ∙ ap (F c) second

-- parts of cells that agree at the nodes
module _ (f : ℕ → ℕ) (g h : Graph) (moved : IsMoved f g h) (old new old_ new_ : ℕ → ℕ) (same_old : (n : ℕ) → Contains g.nodes n → old_ (f n) ≡ old n) (same_new : (n : ℕ) → Contains g.nodes n → new_ (f n) ≡ new n) where
  size-moved : (n : ℕ) → Contains g.nodes n → size h new_ (f n) ≡ size g new n
  size-moved n among =
      many-moved f g.nodes h.nodes moved.nodes (λ m. nat_eq (new m) (new n)) (λ m. nat_eq (new_ m) (new_ (f n)))
      (λ m at. two nat_eq (new_ (f m)) (new_ (f n)) (new m) (new n) (same_new m at) (same_new n among))

  largest-moved : (n : ℕ) → Contains g.nodes n → is_largest h old_ new_ (f n) ≡ is_largest g old new n
  largest-moved n among =
      let better : ℕ → ℕ → ℕ → ℕ → ℕ → ℕ → Bool = λ o p s t x y. nat_eq o p && (ltb t s || (nat_eq s t && ltb x y)) in
      let of : Graph → (ℕ → ℕ) → (ℕ → ℕ) → ℕ → ℕ → Bool = λ k was is m n_. better (was m) (was n_) (size k is m) (size k is n_) (is m) (is n_) in
      let big : ℕ → ℕ = size g new in
      let big_ : ℕ → ℕ = size h new_ in
      ap (λ k. nat_eq k 0) (many-moved f g.nodes h.nodes moved.nodes (λ m. of g old new m n) (λ m. of h old_ new_ m (f n))
      (λ m at.
      two (λ x y. better x y (big_ (f m)) (big_ (f n)) (new_ (f m)) (new_ (f n))) (old_ (f m)) (old_ (f n)) (old m) (old n) (same_old m at) (same_old n among)
      ∙ two (λ x y. better (old m) (old n) x y (new_ (f m)) (new_ (f n))) (big_ (f m)) (big_ (f n)) (big m) (big n) (size-moved m at) (size-moved n among)
      ∙ two (λ x y. better (old m) (old n) (big m) (big n) x y) (new_ (f m)) (new_ (f n)) (new m) (new n) (same_new m at) (same_new n among)))

-- ranks that agree at the nodes
pub record AreMoved (f : ℕ → ℕ) (g : Graph) (c d : Ranks) : Type 0 where
  pub same_rank : (n : ℕ) → Contains g.nodes n → d.rank (f n) ≡ c.rank n
  pub same_fresh : (n : ℕ) → Contains g.nodes n → d.fresh (f n) ≡ c.fresh n

module _ (f : ℕ → ℕ) (g h : Graph) (moved : IsMoved f g h) (c d : Ranks) (same : AreMoved f g c d) where
  entries-moved : (n m : ℕ) → Contains g.nodes n → Contains g.nodes m → entries h (d.rank (f m)) (f n) (f m) ≡ entries g (c.rank m) n m
  entries-moved n m among at =
      let make : ℕ → List (List ℕ) → List (List ℕ) → List (List ℕ) = λ r ps qs. map (entry 0 r) ps ++ map (entry 1 r) qs in
      ap (λ r. make r (h.places (f n) (f m)) (h.places (f m) (f n))) (same.same_rank m at)
      ∙ ap (λ (ps : List (List ℕ)). make (c.rank m) ps (h.places (f m) (f n))) (moved.places n m among at)
      ∙ ap (λ (qs : List (List ℕ)). make (c.rank m) (g.places n m) qs) (moved.places m n at among)

  uses-moved : (n : ℕ) → Contains g.nodes n → fresh_uses h d (f n) ≡ fresh_uses g c n
  uses-moved n among =
      sorted-moved f g.nodes h.nodes moved.nodes (λ m. if c.fresh m then entries g (c.rank m) n m else []) (λ m. if d.fresh m then entries h (d.rank m) (f n) m else [])
      (λ m at. ap (λ (b : Bool). if b then entries h (d.rank (f m)) (f n) (f m) else []) (same.same_fresh m at) ∙ ap (λ (es : List (List ℕ)). if c.fresh m then es else []) (entries-moved n m among at))

  key-moved : (n : ℕ) → Contains g.nodes n → fresh_key h d (f n) ≡ fresh_key g c n
  key-moved n among =
      let make : ℕ → List (List ℕ) → List (List ℕ) = λ r xs. (r ∷ []) ∷ xs in
      ap (λ r. make r (fresh_uses h d (f n))) (same.same_rank n among) ∙ ap (λ (xs : List (List ℕ)). make (c.rank n) xs) (uses-moved n among)

  pub rank-moved : (n : ℕ) → Contains g.nodes n → (tell h d).rank (f n) ≡ (tell g c).rank n
  rank-moved n among = rank_by-moved f g.nodes h.nodes moved.nodes (fresh_key g c) (fresh_key h d) key-moved n among

  pub fresh-moved : (n : ℕ) → Contains g.nodes n → (tell h d).fresh (f n) ≡ (tell g c).fresh n
  fresh-moved n among = ap (λ (l : Bool). not l) (largest-moved f g h moved c.rank (tell g c).rank d.rank (tell h d).rank same.same_rank rank-moved n among)

  pub done-moved : is_told h d ≡ is_told g c
  done-moved = ap (λ k. nat_eq k 0) (many-moved f g.nodes h.nodes moved.nodes c.fresh d.fresh same.same_fresh)

  -- one round, as long as a node is fresh
  next-moved : AreMoved f g (if is_told g c then c else tell g c) (if is_told h d then d else tell h d)
  next-moved =
      let P : Bool → Type 0 = λ b. AreMoved f g (if is_told g c then c else tell g c) (if b then d else tell h d) in
      subst P (sym done-moved) (by (is_told g c))
    where
      by : (b : Bool) → AreMoved f g (if b then c else tell g c) (if b then d else tell h d)
      by true = same
      by false = record { same_rank = rank-moved; same_fresh = fresh-moved }

told-agree : (f : ℕ → ℕ) (g h : Graph) → IsMoved f g h → (rounds : ℕ) → AreMoved f g (told g rounds) (told h rounds)
told-agree f g h moved zero =
    record { same_rank = rank_by-moved f g.nodes h.nodes moved.nodes g.label h.label moved.labels; same_fresh = λ n among. refl }
told-agree f g h moved (suc rounds) = next-moved f g h moved (told g rounds) (told h rounds) (told-agree f g h moved rounds)

-- the ranks don't depend on the names of nodes, nor on their order
pub told-moved : (f : ℕ → ℕ) (g h : Graph) → IsMoved f g h → (n : ℕ) → Contains g.nodes n → final_rank h (f n) ≡ final_rank g n
told-moved f g h moved n among =
    let long : length h.nodes ≡ length g.nodes = sym (Shuffled-length (map f g.nodes) h.nodes moved.nodes) ∙ length-map g.nodes f in
    ap (λ k. (told h k).rank (f n)) long ∙ (told-agree f g h moved (length g.nodes)).same_rank n among

-- once nothing is fresh, the ranks stay
pub ranks-stand_still : (g : Graph) (rounds : ℕ) → is_told g (told g rounds) ≡ true → (more : ℕ) → told g (more + rounds) ≡ told g rounds
ranks-stand_still g rounds done zero = let none : 0 + rounds ≡ rounds = omega arith in ap (told g) none
ranks-stand_still g rounds done (suc more) =
    let next : suc more + rounds ≡ suc (more + rounds) = omega arith in
    let before : told g (more + rounds) ≡ told g rounds = ranks-stand_still g rounds done more in
    let also : is_told g (told g (more + rounds)) ≡ true = ap (is_told g) before ∙ done in
    ap (told g) next ∙ ap (λ (b : Bool). if b then told g (more + rounds) else tell g (told g (more + rounds))) also ∙ before
