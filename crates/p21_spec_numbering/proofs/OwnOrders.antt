-- The positions of the instances in an order, as names: what they name stands in the same order.
use Rattle.std.specs.Prelude.{◌≡◌, ◌≤◌, ℕ, suc, List, [], ◌∷◌, map, Contains}
use Rattle.std.specs.List.{AllByRecursion as Each}
use Rattle.std.proofs.Common.{ap, sym, subst, ◌∙◌}
use Rattle.p21_spec_basics.proofs.Members.{Contains-first, Contains-later, Each-mapped}
use Rattle.p21_spec_basics.specs.Limits.{Limits}
use Rattle.p21_spec_file.specs.Accepted.{Means}
use Rattle.p21_spec_file.specs.File.{FileMeaning}
use Rattle.p21_spec_file.specs.SameFile.{SameFileMeaning}
use Rattle.p21_spec_schema.specs.Schema.{Schema}
use Rattle.p21_spec_schema.specs.WellFormed.{IsWellFormed}
use Rattle.p21_spec_numbering.proofs.Orders.{number-injective, position-mapped}
use Rattle.p21_spec_numbering.proofs.Reading.{reads-whole}
use Rattle.p21_spec_numbering.proofs.Renaming.{renamed-kept, renamed-twice, old-name}
use Rattle.p21_spec_numbering.specs.Laws.{IsProper}
use Rattle.p21_spec_numbering.specs.Ordered.{Ascends, Ranking, IsOrder, number_in, ordered}
use Rattle.p21_spec_numbering.specs.Renamed.{renamed, names, IsInjectiveOn}

pub proper-means : (s : Schema) → IsWellFormed s → (limits : Limits) (bytes : List ℕ) (m : FileMeaning) → Means s limits bytes m
    → IsProper m
proper-means s formed limits bytes m means = reads-whole s formed bytes m means.reads

pub ascends-kept : (f r q : ℕ → ℕ) (ns : List ℕ) → ((n : ℕ) → Contains ns n → q (f n) ≡ r n) → Ascends r ns → Ascends q (map f ns)
ascends-kept f r q [] same up = tt
ascends-kept f r q (n ∷ ns) same up = (Each-mapped (λ m. q (f n) ≤ q m) f ns (each ns (λ m among. same m (Contains-later n ns m among)) up.0), ascends-kept f r q ns (λ m among. same m (Contains-later n ns m among)) up.1)
  where
    each : (ms : List ℕ) → ((m : ℕ) → Contains ms m → q (f m) ≡ r m) → Each (λ m. r n ≤ r m) ms → Each (λ m. q (f n) ≤ q (f m)) ms
    each [] agree all = tt
    each (m ∷ ms) agree all =
        let P : ℕ → Type 0 = λ k. k ≤ q (f m) in
        let Q : ℕ → Type 0 = λ k. r n ≤ k in
        (subst P (sym (same n (Contains-first n ns))) (subst Q (sym (agree m (Contains-first m ms))) all.0), each ms (λ k among. agree k (Contains-later m ms k among)) all.1)

pub injective-on : (ranking : Ranking) (m : FileMeaning) (order : List ℕ) → IsOrder ranking m order
    → IsInjectiveOn (names m) (number_in order)
injective-on ranking m order is j k among among_ one = number-injective order j k ((is.all j).0 among) ((is.all k).0 among_) one

-- and leave it as it is
pub own-ordered : (ranking : Ranking) (m n : FileMeaning) → IsProper n → (order : List ℕ) → IsOrder ranking m order
    → SameFileMeaning (ordered order m) n → ordered (map (number_in order) order) n ≡ n
own-ordered ranking m n proper_ order is same =
    let g : ℕ → ℕ = number_in (map (number_in order) order) in
    ap (λ (x : FileMeaning). renamed g x) (sym (renamed-kept n)) ∙ renamed-twice (λ k. k) g (λ k. k) n proper_.0 own ∙ renamed-kept n
  where
    own : (k : ℕ) → Contains (names n) k → number_in (map (number_in order) order) k ≡ k
    own k among =
        let (j, at, is_j) = old-name (number_in order) m n same k among in
        ap (number_in (map (number_in order) order)) (sym is_j) ∙ ap suc (position-mapped (number_in order) order j ((is.all j).0 at) (number-injective order)) ∙ is_j
