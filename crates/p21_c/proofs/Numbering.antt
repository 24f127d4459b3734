-- What is said of the canonical text of a file where names don't count is said of the file.
use Rattle.std.specs.Prelude.{◌≡◌, ◌↔◌, ◌⊎◌, ℕ, Bool, List, Option, None, Some, Result, Ok, Err, IsTrue}
use Rattle.std.proofs.Common.{inl, inr, refl, sym, subst}
use Rattle.p21_spec_basics.specs.Limits.{AreLimits, Limits, usual}
use Rattle.p21_spec_file.specs.Accepted.{IsAccepted, Means}
use Rattle.p21_spec_file.specs.File.{FileMeaning}
use Rattle.p21_spec_file.specs.SameFile.{SameFileMeaning}
use Rattle.p21_spec_laws.proofs.FileTheorems.{one-meaning}
use Rattle.p21_spec_schema.specs.Schema.{Schema}
use Rattle.p21_spec_schema.specs.WellFormed.{IsWellFormed}
use Rattle.p21_spec_numbering.proofs.Claim.{ranking-claim}
use Rattle.p21_spec_numbering.proofs.OwnOrders.{proper-means}
use Rattle.p21_spec_numbering.proofs.Theorems.{is-equivalence, ranks-are_invariant}
use Rattle.p21_spec_numbering.specs.Claim.{IsNumberedFile, NumberingClaim}
use Rattle.p21_spec_numbering.specs.Laws.{ranking_of}
use Rattle.p21_spec_numbering.specs.Renamed.{SameButForNames}
use Rattle.p21_numbered_file.proofs.Alike.{alike-on, long-on, numbered-on}
use Rattle.p21_numbered_file.specs.Comparing.{TellsTexts}
use Rattle.p21_numbered_file.specs.Numbering.{HasNone}
use Rattle.p21_numbered_file.specs.declared.numbering.Unnumbered.{Unnumbered}
use Rattle.p21_numbered_file.specs.declared.numbering.Unnumbered.TheVariants as unnumbered
use Rattle.p21_stream.specs.Answers.{IsOnlyCanonicalFile}
use Rattle.p21_c.specs.Answers.{IsRefusedBy}
use Rattle.p21_c.specs.Numbered.{ComparesNumbered}
use Rattle.p21_c.specs.Reports.{no_memory_answer, second_subject}
use Rattle.p21_c.specs.declared.answers.Answer.{Answer}

pub claimed : (s : Schema) → IsWellFormed s → (limits : Limits) → limits ≡ usual → AreLimits limits → NumberingClaim s usual (ranking_of s)
claimed s formed limits is are =
    let C : Limits → Type 0 = λ l. NumberingClaim s l (ranking_of s) in
    subst C is (ranking-claim s formed limits are (ranking_of s) (ranks-are_invariant s))

-- what a file and its canonical text mean
record Both (s : Schema) (file text : List ℕ) : Type 0 where
  own : FileMeaning
  own_means : Means s usual file own
  its : FileMeaning
  its_means : Means s usual text its
  same : SameFileMeaning its own

module _ (s : Schema) (formed : IsWellFormed s) where
  both : (file text : List ℕ) → IsOnlyCanonicalFile s usual file text → Both s file text
  both file text only =
      let (own, own_means, canonical) = only.is_canonical in
      let (its, its_means) = only.is_accepted in
      let one : canonical.canonical.meaning ≡ its = one-meaning s formed text canonical.canonical.meaning its canonical.canonical.reads
      its_means.reads in
      let P : FileMeaning → Type 0 = λ m. SameFileMeaning m own in
      record { own = own; own_means = own_means; its = its; its_means = its_means; same = subst P one canonical.same }

  alike : (file text : List ℕ) (b : Both s file text) → SameButForNames b.its b.own
  alike file text b = is-equivalence.coarser b.its b.own b.same

  pub source-accepted : (file text : List ℕ) → IsOnlyCanonicalFile s usual file text → IsAccepted s usual file
  source-accepted file text only = let b = both file text only in (b.own, b.own_means)

  pub source-numbered : (file text a : List ℕ) → IsOnlyCanonicalFile s usual file text → IsNumberedFile s usual (ranking_of s) text a
      → IsNumberedFile s usual (ranking_of s) file a
  source-numbered file text a only numbered =
      let b = both file text only in
      numbered-on s formed usual text file b.its b.own b.its_means b.own_means (alike file text b) a numbered

  pub source-none : (file text : List ℕ) (fault : Unnumbered) → IsOnlyCanonicalFile s usual file text → HasNone s usual text fault
      → HasNone s usual file fault
  source-none file text (unnumbered.Alike j k) only none =
      let b = both file text only in
      alike-on s formed usual text file b.its b.own b.its_means b.own_means (alike file text b) b.same j k none
  source-none file text unnumbered.TooLong only none =
      let b = both file text only in
      long-on s formed usual text file b.its b.own b.its_means b.own_means (alike file text b) none
  source-none file text unnumbered.NoMemory only none = tt

  -- ---- two files

  pub second-refused : (first second one : List ℕ) → IsOnlyCanonicalFile s usual first one → NumberingClaim s usual (ranking_of s)
      → (answer : Answer) → IsRefusedBy second_subject s second answer ⊎ (answer ≡ no_memory_answer)
      → ComparesNumbered (Some s) first second answer None
  second-refused first second one only claim answer (inl refused) = (claim, inr (inr (inl (source-accepted first one only, refused, refl))))
  second-refused first second one only claim answer (inr none) = (claim, inr (inr (inr (unnumbered.NoMemory, 0, tt, none, refl))))

  module _ (first second one other : List ℕ) (first_only : IsOnlyCanonicalFile s usual first one)
      (second_only : IsOnlyCanonicalFile s usual second other) where
    pub sources-told : (same : Bool) → TellsTexts s usual one other (Ok same) → TellsTexts s usual first second (Ok same)
    sources-told same tells m n means means_ =
        let a = both first one first_only in
        let b = both second other second_only in
        let is : a.own ≡ m = one-meaning s formed first a.own m a.own_means.reads means.reads in
        let is_ : b.own ≡ n = one-meaning s formed second b.own n b.own_means.reads means_.reads in
        let law = is-equivalence in
        let told = tells a.its b.its a.its_means b.its_means in
        let proper = proper-means s formed usual first a.own a.own_means in
        let proper_ = proper-means s formed usual second b.own b.own_means in
        let its = proper-means s formed usual one a.its a.its_means in
        let its_ = proper-means s formed usual other b.its b.its_means in
        let found : IsTrue same ↔ SameButForNames a.own b.own = (
          λ yes. law.transitive a.own a.its b.own proper (law.symmetric a.its a.own its (alike first one a))
              (law.transitive a.its b.its b.own its (told.0 yes) (alike second other b)),
          λ same_. told.1 (law.transitive a.its a.own b.its its (alike first one a)
              (law.transitive a.own b.own b.its proper same_ (law.symmetric b.its b.own its_ (alike second other b)))),
        ) in
        let P : FileMeaning → Type 0 = λ x. IsTrue same ↔ SameButForNames x b.own in
        let Q : FileMeaning → Type 0 = λ x. IsTrue same ↔ SameButForNames m x in
        subst Q is_ (subst P is found)

    pub sources-untold : (fault : Unnumbered) → TellsTexts s usual one other (Err fault) → TellsTexts s usual first second (Err fault)
    sources-untold (unnumbered.Alike j k) (x, (i, l, y)) =
        (source-none first one (unnumbered.Alike j k) first_only x, (i, l, source-none second other (unnumbered.Alike i l) second_only y))
    sources-untold unnumbered.TooLong (x, y) = (
      source-none first one unnumbered.TooLong first_only x,
      source-none second other
          unnumbered.TooLong second_only y,
    )
    sources-untold unnumbered.NoMemory tells = tt
