-- Numbered files of files that mean the same but for names.
use Rattle.std.specs.Prelude.{◌≡◌, ◌↔◌, ℕ, List, map}
use Rattle.std.proofs.Common.{sym, subst, ◌∙◌}
use Rattle.p21_spec_basics.specs.Limits.{Limits}
use Rattle.p21_spec_file.proofs.SameFiles.{SameFileMeaning-transitive}
use Rattle.p21_spec_file.specs.Accepted.{Means}
use Rattle.p21_spec_file.specs.File.{FileMeaning}
use Rattle.p21_spec_file.specs.SameFile.{SameFileMeaning}
use Rattle.p21_spec_laws.proofs.OneAccepted.{Means-one}
use Rattle.p21_spec_schema.specs.Schema.{Schema}
use Rattle.p21_spec_schema.specs.WellFormed.{IsWellFormed}
use Rattle.p21_spec_numbering.proofs.Claim.{numbered-tell}
use Rattle.p21_spec_numbering.proofs.CopiesMoved.{aligned-moved, aligned-tell_sameness}
use Rattle.p21_spec_numbering.proofs.Decided.{decided-alike, decided-no_choice}
use Rattle.p21_spec_numbering.proofs.OwnOrders.{proper-means}
use Rattle.p21_spec_numbering.proofs.Renaming.{SameButForNames-symmetric, names-among, renamed-kept}
use Rattle.p21_spec_numbering.proofs.Theorems.{ranks-are_invariant}
use Rattle.p21_spec_numbering.specs.Claim.{IsNumberedFile}
use Rattle.p21_spec_numbering.specs.Copies.{IsDecided}
use Rattle.p21_spec_numbering.specs.Laws.{IsInvariant, IsProper, ranking_of}
use Rattle.p21_spec_numbering.specs.Ordered.{ordered}
use Rattle.p21_spec_numbering.specs.Renamed.{IsInjectiveOn, SameButForNames, names}
use Rattle.p21_numbering.specs.Ordering.{AreAlike}
use Rattle.p21_numbered_file.specs.Numbering.{IsAlike, IsTooLong}

module _ (s : Schema) (formed : IsWellFormed s) (limits : Limits) where
  -- the numbered file of one is that of the other
  pub numbered-alike : (bytes others a : List ℕ) (x : IsNumberedFile s limits (ranking_of s) bytes a) (n : FileMeaning)
      → Means s limits others n → SameButForNames x.meaning n → IsNumberedFile s limits (ranking_of s) others a
  numbered-alike bytes others a x n means (f, injective, same) =
      let ranking = ranking_of s in
      let invariant : IsInvariant ranking = ranks-are_invariant s in
      let proper : IsProper x.meaning = proper-means s formed limits bytes x.meaning x.means in
      let proper_ : IsProper n = proper-means s formed limits others n means in
      let alike : SameButForNames x.meaning n = (f, injective, same) in
      let decided_ : IsDecided ranking n = decided-alike ranking invariant x.meaning n proper proper_ alike x.decided in
      let agree = invariant f x.meaning n proper proper_ injective same in
      let aligned_ = aligned-moved ranking f x.meaning n proper proper_ injective same agree x.order x.aligned in
      let one : SameFileMeaning (ordered x.order x.meaning) (ordered (map f x.order) n) =
      (aligned-tell_sameness ranking invariant x.meaning n proper proper_ (decided-no_choice ranking x.meaning proper x.decided)
      (decided-no_choice ranking n proper_ decided_) x.order (map f x.order) x.aligned aligned_).0 alike in
      record {
        meaning = n;
        means = means;
        decided = decided_;
        order = map f x.order;
        aligned = aligned_;
        canonical = record {
          canonical = x.canonical.canonical;
          same = SameFileMeaning-transitive x.canonical.canonical.meaning (ordered x.order x.meaning) (ordered (map f x.order) n)
              x.canonical.same one;
          file_within = x.canonical.file_within;
          lines_within = x.canonical.lines_within;
        };
      }

  one-meaning_of : (bytes : List ℕ) (m n : FileMeaning) → Means s limits bytes m → Means s limits bytes n → m ≡ n
  one-meaning_of bytes m n means means_ = Means-one s formed limits limits bytes m n means means_

  -- where one is decided and the other isn't they aren't the same
  decided-apart : (bytes others : List ℕ) (m n : FileMeaning) → Means s limits bytes m → Means s limits others n
      → IsDecided (ranking_of s) m → ¬ IsDecided (ranking_of s) n → ¬ SameButForNames m n
  decided-apart bytes others m n means means_ decided none alike =
      none (decided-alike (ranking_of s) (ranks-are_invariant s) m n (proper-means s formed limits bytes m means)
      (proper-means s formed limits others n means_) alike decided)

  turned : (bytes others : List ℕ) (m n : FileMeaning) → Means s limits bytes m → SameButForNames m n → SameButForNames n m
  turned bytes others m n means alike = SameButForNames-symmetric m n (proper-means s formed limits bytes m means).0 alike

  -- ---- what two answers say

  module _ (bytes others : List ℕ) (m n : FileMeaning) (means : Means s limits bytes m) (means_ : Means s limits others n) where
    pub both-numbered : (a b : List ℕ) → IsNumberedFile s limits (ranking_of s) bytes a → IsNumberedFile s limits (ranking_of s) others b
        → SameButForNames m n ↔ (a ≡ b)
    both-numbered a b x y =
        let one : x.meaning ≡ m = one-meaning_of bytes x.meaning m x.means means in
        let two : y.meaning ≡ n = one-meaning_of others y.meaning n y.means means_ in
        let P : FileMeaning → Type 0 = λ z. SameButForNames z y.meaning ↔ (a ≡ b) in
        let Q : FileMeaning → Type 0 = λ z. SameButForNames m z ↔ (a ≡ b) in
        subst Q two (subst P one (numbered-tell s formed limits (ranking_of s) (ranks-are_invariant s) bytes others a b x y))

    pub numbered-and_alike : (a : List ℕ) (j k : ℕ) → IsNumberedFile s limits (ranking_of s) bytes a → IsAlike s limits others j k
        → ¬ SameButForNames m n
    numbered-and_alike a j k x y =
        let one : x.meaning ≡ m = one-meaning_of bytes x.meaning m x.means means in
        let two : y.meaning ≡ n = one-meaning_of others y.meaning n y.means means_ in
        let P : FileMeaning → Type 0 = λ z. IsDecided (ranking_of s) z in
        let Q : FileMeaning → Type 0 = λ z. ¬ IsDecided (ranking_of s) z in
        decided-apart bytes others m n means means_ (subst P one x.decided) (subst Q two y.alike.not_decided)

    pub alike-and_numbered : (b : List ℕ) (j k : ℕ) → IsAlike s limits bytes j k → IsNumberedFile s limits (ranking_of s) others b
        → ¬ SameButForNames m n
    alike-and_numbered b j k x y alike =
        let one : x.meaning ≡ m = one-meaning_of bytes x.meaning m x.means means in
        let two : y.meaning ≡ n = one-meaning_of others y.meaning n y.means means_ in
        let P : FileMeaning → Type 0 = λ z. ¬ IsDecided (ranking_of s) z in
        let Q : FileMeaning → Type 0 = λ z. IsDecided (ranking_of s) z in
        decided-apart others bytes n m means_ means (subst Q two y.decided) (subst P one x.alike.not_decided)
        (turned bytes others m n means alike)

    pub long-and_alike : (j k : ℕ) → IsTooLong s limits bytes → IsAlike s limits others j k → ¬ SameButForNames m n
    long-and_alike j k x y =
        let one : x.meaning ≡ m = one-meaning_of bytes x.meaning m x.means means in
        let two : y.meaning ≡ n = one-meaning_of others y.meaning n y.means means_ in
        let P : FileMeaning → Type 0 = λ z. IsDecided (ranking_of s) z in
        let Q : FileMeaning → Type 0 = λ z. ¬ IsDecided (ranking_of s) z in
        decided-apart bytes others m n means means_ (subst P one x.decided) (subst Q two y.alike.not_decided)

    pub alike-and_long : (j k : ℕ) → IsAlike s limits bytes j k → IsTooLong s limits others → ¬ SameButForNames m n
    alike-and_long j k x y alike =
        let one : x.meaning ≡ m = one-meaning_of bytes x.meaning m x.means means in
        let two : y.meaning ≡ n = one-meaning_of others y.meaning n y.means means_ in
        let P : FileMeaning → Type 0 = λ z. ¬ IsDecided (ranking_of s) z in
        let Q : FileMeaning → Type 0 = λ z. IsDecided (ranking_of s) z in
        decided-apart others bytes n m means_ means (subst Q two y.decided) (subst P one x.alike.not_decided)
        (turned bytes others m n means alike)

    pub numbered-and_long : (a : List ℕ) → IsNumberedFile s limits (ranking_of s) bytes a → IsTooLong s limits others
        → ¬ SameButForNames m n
    numbered-and_long a x y alike =
        let one : x.meaning ≡ m = one-meaning_of bytes x.meaning m x.means means in
        let P : FileMeaning → Type 0 = λ z. SameButForNames z n in
        y.none a (numbered-alike bytes others a x n means_ (subst P (sym one) alike))

    pub long-and_numbered : (b : List ℕ) → IsTooLong s limits bytes → IsNumberedFile s limits (ranking_of s) others b
        → ¬ SameButForNames m n
    long-and_numbered b x y alike =
        let two : y.meaning ≡ n = one-meaning_of others y.meaning n y.means means_ in
        let P : FileMeaning → Type 0 = λ z. SameButForNames z m in
        x.none b (numbered-alike others bytes b y m means (subst P (sym two) (turned bytes others m n means alike)))

  -- ---- what is said of one file is said of each that means the same

  module _ (bytes others : List ℕ) (m n : FileMeaning) (means : Means s limits bytes m) (means_ : Means s limits others n)
      (alike : SameButForNames m n) where
    pub numbered-on : (a : List ℕ) → IsNumberedFile s limits (ranking_of s) bytes a → IsNumberedFile s limits (ranking_of s) others a
    numbered-on a x =
        let one : x.meaning ≡ m = one-meaning_of bytes x.meaning m x.means means in
        let P : FileMeaning → Type 0 = λ z. SameButForNames z n in
        numbered-alike bytes others a x n means_ (subst P (sym one) alike)

    pub long-on : IsTooLong s limits bytes → IsTooLong s limits others
    long-on x =
        let one : x.meaning ≡ m = one-meaning_of bytes x.meaning m x.means means in
        let P : FileMeaning → Type 0 = λ z. IsDecided (ranking_of s) z in
        record {
          meaning = n;
          means = means_;
          decided = decided-alike (ranking_of s) (ranks-are_invariant s) m n (proper-means s formed limits bytes m means)
              (proper-means s formed limits others n means_) alike (subst P one x.decided);
          none = λ a y. (
              let two : y.meaning ≡ n = one-meaning_of others y.meaning n y.means means_ in
              let Q : FileMeaning → Type 0 = λ z. SameButForNames z m in
              x.none a (numbered-alike others bytes a y m means (subst Q (sym two) (turned bytes others m n means alike))));
        }

    -- names are those of the other where nothing is renamed
    pub alike-on : SameFileMeaning m n → (j k : ℕ) → IsAlike s limits bytes j k → IsAlike s limits others j k
    alike-on same j k x =
        let ranking = ranking_of s in
        let one : x.meaning ≡ m = one-meaning_of bytes x.meaning m x.means means in
        let A : FileMeaning → Type 0 = λ z. AreAlike (ranking_of s) z j k in
        let own : AreAlike (ranking_of s) m j k = subst A one x.alike in
        let kept : IsInjectiveOn (names m) (λ i. i) = λ i l at at_ is. is in
        let R : FileMeaning → Type 0 = λ z. SameFileMeaning z n in
        let agree = ranks-are_invariant s (λ i. i) m n (proper-means s formed limits bytes m means)
        (proper-means s formed limits others n means_) kept (subst R (sym (renamed-kept m)) same) in
        record {
          meaning = n;
          means = means_;
          alike = record {
            first = names-among m n same j own.first;
            second = names-among m n same k own.second;
            differ = own.differ;
            one_rank = agree j own.first ∙ own.one_rank ∙ sym (agree k own.second);
            not_decided = λ decided. own.not_decided (decided-alike (ranking_of s) (ranks-are_invariant s) n m
                (proper-means s formed limits others n means_) (proper-means s formed limits bytes m means)
                (turned bytes others m n means alike) decided);
          };
        }
