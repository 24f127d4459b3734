-- The claim of numbered files.
use Rattle.std.specs.Prelude.{◌≡◌, length, ◌≤◌, ◌↔◌, ℕ, List, map, Contains}
use Rattle.std.proofs.Common.{sym, subst}
use Rattle.p21_spec_basics.specs.Limits.{AreLimits, Limits}
use Rattle.p21_spec_file.proofs.SameFiles.{SameFileMeaning-reflexive, SameFileMeaning-symmetric}
use Rattle.p21_spec_file.specs.Accepted.{Means}
use Rattle.p21_spec_file.specs.File.{FileMeaning}
use Rattle.p21_spec_file.specs.SameFile.{SameFileMeaning}
use Rattle.p21_spec_laws.proofs.FileOnce.{files-same}
use Rattle.p21_spec_laws.proofs.OneAccepted.{Means-one}
use Rattle.p21_spec_laws.proofs.OwnCanonical.{canonical-means}
use Rattle.p21_spec_schema.proofs.DeclaredSchemas.{declared-well_formed}
use Rattle.p21_spec_schema.specs.Schema.{Schema}
use Rattle.p21_spec_schema.specs.WellFormed.{IsWellFormed}
use Rattle.p21_spec_numbering.proofs.CopiesMoved.{aligned-moved, aligned-tell_sameness}
use Rattle.p21_spec_numbering.proofs.Decided.{decided-no_choice, decided-alike}
use Rattle.p21_spec_numbering.proofs.Existence.{has-numbered_bytes}
use Rattle.p21_spec_numbering.proofs.Orders.{ordered-names}
use Rattle.p21_spec_numbering.proofs.Theorems.{ranks-are_invariant}
use Rattle.p21_spec_numbering.proofs.Renaming.{names-among, SameButForNames-reflexive}
use Rattle.p21_spec_numbering.specs.Claim.{IsNumberedFile, NumberingClaim, RankingHeadline, NumberingHeadline}
use Rattle.p21_spec_numbering.specs.Laws.{IsProper, IsInvariant, ranking_of}
use Rattle.p21_spec_numbering.specs.Ordered.{Ranking, number_in, ordered}
use Rattle.p21_spec_numbering.specs.Renamed.{names, IsInjectiveOn, SameButForNames}
use Rattle.p21_spec_numbering.proofs.OwnOrders.{proper-means, injective-on, own-ordered}

pub numbered-tell : (s : Schema) → IsWellFormed s → (limits : Limits) (ranking : Ranking) → IsInvariant ranking
    → (bytes others a b : List ℕ) (x : IsNumberedFile s limits ranking bytes a) (y : IsNumberedFile s limits ranking others b)
    → SameButForNames x.meaning y.meaning ↔ (a ≡ b)
numbered-tell s formed limits ranking invariant bytes others a b x y =
    let proper : IsProper x.meaning = proper-means s formed limits bytes x.meaning x.means in
    let proper_ : IsProper y.meaning = proper-means s formed limits others y.meaning y.means in
    let first : SameButForNames x.meaning y.meaning ↔ SameFileMeaning (ordered x.order x.meaning) (ordered y.order y.meaning) =
    aligned-tell_sameness ranking invariant x.meaning y.meaning proper proper_ (decided-no_choice ranking x.meaning proper x.decided) (decided-no_choice ranking y.meaning proper_ y.decided) x.order y.order x.aligned y.aligned in
    let second = files-same s formed limits (ordered x.order x.meaning) (ordered y.order y.meaning) a b x.canonical y.canonical in
    (λ same. second.0 (first.0 same), λ equal. first.1 (second.1 equal))

own-numbered : (s : Schema) → IsWellFormed s → (limits : Limits) → AreLimits limits → (ranking : Ranking) → IsInvariant ranking
    → (bytes a : List ℕ) → IsNumberedFile s limits ranking bytes a → IsNumberedFile s limits ranking a a
own-numbered s formed limits are ranking invariant bytes a x =
    let n : FileMeaning = x.canonical.canonical.meaning in
    let means : Means s limits a n = canonical-means s limits are (ordered x.order x.meaning) a x.canonical in
    let proper : IsProper x.meaning = proper-means s formed limits bytes x.meaning x.means in
    let proper_ : IsProper n = proper-means s formed limits a n means in
    let same : SameFileMeaning (ordered x.order x.meaning) n = SameFileMeaning-symmetric n (ordered x.order x.meaning) x.canonical.same in
    let injective : IsInjectiveOn (names x.meaning) (number_in x.order) = injective-on ranking x.meaning x.order x.aligned.is_order in
    let agree = invariant (number_in x.order) x.meaning n proper proper_ injective same in
    let P : FileMeaning → Type 0 = λ m. SameFileMeaning n m in
    record {
      meaning = n;
      means = means;
      decided = decided-alike ranking invariant x.meaning n proper proper_ (number_in x.order, injective, same) x.decided;
      order = map (number_in x.order) x.order;
      aligned = aligned-moved ranking (number_in x.order) x.meaning n proper proper_ injective same agree x.order x.aligned;
      canonical = record {
        canonical = x.canonical.canonical;
        same = subst P (sym (own-ordered ranking x.meaning n proper_ x.order x.aligned.is_order same)) (SameFileMeaning-reflexive n);
        file_within = x.canonical.file_within;
        lines_within = x.canonical.lines_within;
      };
    }

-- of each well-formed schema
pub ranking-claim : (s : Schema) → IsWellFormed s → (limits : Limits) → AreLimits limits → (ranking : Ranking) → IsInvariant ranking
    → NumberingClaim s limits ranking
ranking-claim s formed limits are ranking invariant = record {
  has_numbered_bytes = λ bytes m means few order is.
      let has = has-numbered_bytes s formed ranking bytes m means.reads order is few in
      (has.bytes, has.canonical, has.same);
  one_numbered_file = λ bytes a b x y.
      let one : x.meaning ≡ y.meaning = Means-one s formed limits limits bytes x.meaning y.meaning x.means y.means in
      let P : FileMeaning → Type 0 = λ m. SameButForNames x.meaning m in
      (numbered-tell s formed limits ranking invariant bytes bytes a b x y).0 (subst P one (SameButForNames-reflexive x.meaning));
  same_exactly_if_equal = λ bytes others m n a b means means_ x y.
      let first : x.meaning ≡ m = Means-one s formed limits limits bytes x.meaning m x.means means in
      let second : y.meaning ≡ n = Means-one s formed limits limits others y.meaning n y.means means_ in
      let P : FileMeaning → Type 0 = λ z. SameButForNames z y.meaning ↔ (a ≡ b) in
      let Q : FileMeaning → Type 0 = λ z. SameButForNames m z ↔ (a ≡ b) in
      subst Q second (subst P first (numbered-tell s formed limits ranking invariant bytes others a b x y));
  decided_alike = λ bytes others m n means means_. decided-alike ranking invariant m n (proper-means s formed limits bytes m means) (proper-means s formed limits others n means_);
  is_accepted = λ bytes a x. (x.canonical.canonical.meaning, canonical-means s limits are (ordered x.order x.meaning) a x.canonical);
  means_the_same = λ bytes a m n x means means_.
      let own : Means s limits a x.canonical.canonical.meaning = canonical-means s limits are (ordered x.order x.meaning) a x.canonical in
      let first : x.meaning ≡ m = Means-one s formed limits limits bytes x.meaning m x.means means in
      let second : x.canonical.canonical.meaning ≡ n = Means-one s formed limits limits a x.canonical.canonical.meaning n own means_ in
      let P : FileMeaning → Type 0 = λ z. SameButForNames z x.canonical.canonical.meaning in
      let Q : FileMeaning → Type 0 = λ z. SameButForNames m z in
      subst Q second (subst P first (number_in x.order, injective-on ranking x.meaning x.order x.aligned.is_order, SameFileMeaning-symmetric x.canonical.canonical.meaning (ordered x.order x.meaning) x.canonical.same));
  names_are_numbers = λ bytes a m n x means means_ k.
      let own : Means s limits a x.canonical.canonical.meaning = canonical-means s limits are (ordered x.order x.meaning) a x.canonical in
      let first : x.meaning ≡ m = Means-one s formed limits limits bytes x.meaning m x.means means in
      let second : x.canonical.canonical.meaning ≡ n = Means-one s formed limits limits a x.canonical.canonical.meaning n own means_ in
      let law = ordered-names ranking x.meaning (proper-means s formed limits bytes x.meaning x.means).0 x.order x.aligned.is_order k in
      let same : SameFileMeaning x.canonical.canonical.meaning (ordered x.order x.meaning) = x.canonical.same in
      let P : FileMeaning → Type 0 = λ z. Contains (names x.canonical.canonical.meaning) k ↔ ((1 ≤ k) × (k ≤ length z.instances)) in
      let Q : FileMeaning → Type 0 = λ z. Contains (names z) k ↔ ((1 ≤ k) × (k ≤ length m.instances)) in
      subst Q second (subst P first (
        λ among. law.0 (names-among x.canonical.canonical.meaning (ordered x.order x.meaning) same k among),
        λ within. names-among (ordered x.order x.meaning) x.canonical.canonical.meaning (SameFileMeaning-symmetric x.canonical.canonical.meaning (ordered x.order x.meaning) same) k (law.1 within),
      ));
  is_its_own = own-numbered s formed limits are ranking invariant;
}

pub ranking-headline : RankingHeadline
ranking-headline text s declares = ranking-claim s (declared-well_formed declares.tree s declares.declares)

pub numbering-headline : NumberingHeadline
numbering-headline text s declares limits are = ranking-headline text s declares limits are (ranking_of s) (ranks-are_invariant s)
