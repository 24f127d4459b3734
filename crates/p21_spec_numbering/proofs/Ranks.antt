-- Ranks are kept by whatever keeps labels and places, and stand still once they stood still for a round.
use Rattle.std.specs.Prelude.{◌≡◌, ℕ, Bool, List, map, Contains}
use Rattle.std.specs.List.{flat_map}
use Rattle.std.specs.Cmp.Lexicographic.{slice_cmp}
use Rattle.std.specs.Ordering.{nat_cmp, is_lt}
use Rattle.std.proofs.Common.{ap, sym, ◌∙◌}
use Rattle.p21_spec_basics.proofs.Members.{flat_map-same}
use Rattle.p21_spec_basics.proofs.Shuffles.{Shuffled, Shuffled-flat_map}
use Rattle.p21_spec_file.specs.Sorting.{sort_texts}
use Rattle.p21_spec_numbering.specs.Graph.{Graph, how_many, rank_by}
use Rattle.p21_spec_numbering.proofs.Lists.{flat_map-mapped, count-mapped, count-agree, count-shuffled, sort-shuffled}

-- the second graph is the first with other names for its nodes, which stand in any order
pub record IsMoved (f : ℕ → ℕ) (g h : Graph) : Type 0 where
  pub nodes : Shuffled (map f g.nodes) h.nodes
  pub labels : (n : ℕ) → Contains g.nodes n → h.label (f n) ≡ g.label n
  pub places : (m n : ℕ) → Contains g.nodes m → Contains g.nodes n → h.places (f m) (f n) ≡ g.places m n

-- tests that agree pass as many
pub many-moved : (f : ℕ → ℕ) (ms ns : List ℕ) → Shuffled (map f ms) ns → (p q : ℕ → Bool) → ((n : ℕ) → Contains ms n → q (f n) ≡ p n)
    → how_many q ns ≡ how_many p ms
many-moved f ms ns shuffled p q same =
    sym (count-shuffled q (map f ms) ns shuffled) ∙ count-mapped q f ms ∙ count-agree (λ m. q (f m)) p ms same

-- keys that agree rank alike
pub rank_by-moved : (f : ℕ → ℕ) (ms ns : List ℕ) → Shuffled (map f ms) ns → (key other : ℕ → List (List ℕ))
    → ((n : ℕ) → Contains ms n → other (f n) ≡ key n)
    → (n : ℕ) → Contains ms n → rank_by other ns (f n) ≡ rank_by key ms n
rank_by-moved f ms ns shuffled key other same n among =
    let below : List (List ℕ) → List (List ℕ) → Bool = λ x y. is_lt (slice_cmp (slice_cmp nat_cmp) x y) in
    many-moved f ms ns shuffled (λ m. below (key m) (key n)) (λ m. below (other m) (other (f n)))
    (λ m among_. ap (λ (x : List (List ℕ)). below x (other (f n))) (same m among_) ∙ ap (λ (x : List (List ℕ)). below (key m) x) (same n among))

-- lists that agree, in order
pub sorted-moved : (f : ℕ → ℕ) (ms ns : List ℕ) → Shuffled (map f ms) ns → (at other : ℕ → List (List ℕ))
    → ((m : ℕ) → Contains ms m → other (f m) ≡ at m) → sort_texts (flat_map other ns) ≡ sort_texts (flat_map at ms)
sorted-moved f ms ns shuffled at other same =
    sym (sort-shuffled (flat_map other (map f ms)) (flat_map other ns) (Shuffled-flat_map other (map f ms) ns shuffled)) ∙ ap sort_texts (flat_map-mapped other f ms ∙ flat_map-same (λ m. other (f m)) at ms same)
