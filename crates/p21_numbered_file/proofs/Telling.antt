-- What two answers tell.
use Rattle.std.specs.Prelude.{◌≡◌, ◌↔◌, ℕ, Bool, true, false, IfErr, IfOk, IsTrue, List, Result, Ok, Err}
use Rattle.std.proofs.Common.{refl, subst, sym}
use Rattle.std.proofs.lemmas.Bool.{false≢true}
use Rattle.p21_spec_basics.specs.Limits.{Limits}
use Rattle.p21_spec_file.specs.Accepted.{Means}
use Rattle.p21_spec_file.specs.File.{FileMeaning}
use Rattle.p21_spec_laws.proofs.OneAccepted.{Means-one}
use Rattle.p21_spec_schema.specs.Schema.{Schema}
use Rattle.p21_spec_schema.specs.WellFormed.{IsWellFormed}
use Rattle.p21_spec_numbering.proofs.Renaming.{SameButForNames-reflexive}
use Rattle.p21_spec_numbering.specs.Claim.{IsNumberedFile}
use Rattle.p21_spec_numbering.specs.Laws.{ranking_of}
use Rattle.p21_spec_numbering.specs.Renamed.{SameButForNames}
use Rattle.p21_numbered_file.proofs.Alike.{alike-and_long, alike-and_numbered, both-numbered, long-and_alike, long-and_numbered, numbered-and_alike, numbered-and_long}
use Rattle.p21_numbered_file.specs.Comparing.{TellsTexts, told_apart, told_of_none}
use Rattle.p21_numbered_file.specs.Numbering.{HasNone}
use Rattle.p21_numbered_file.specs.declared.numbering.Unnumbered.{Unnumbered}
use Rattle.p21_numbered_file.specs.declared.numbering.Unnumbered.TheVariants.{Alike, NoMemory, TooLong}

-- a text means what it means
module _ (s : Schema) (formed : IsWellFormed s) (limits : Limits) where
  pub one-text_tells : (one other : List ℕ) → one ≡ other → TellsTexts s limits one other (Ok true)
  one-text_tells one other same m n means means_ =
      let P : List ℕ → Type 0 = λ bytes. Means s limits bytes m in
      let is : m ≡ n = Means-one s formed limits limits other m n (subst P same means) means_ in
      let Q : FileMeaning → Type 0 = λ z. SameButForNames m z in
      (λ yes. subst Q is (SameButForNames-reflexive m), λ alike. refl)

  not-told : (P : Type 0) → ¬ P → IsTrue false ↔ P
  not-told P none = (λ yes. absurd (false≢true yes), λ holds. absurd (none holds))

  numbers-tell : (one other a b : List ℕ) → IsNumberedFile s limits (ranking_of s) one a → IsNumberedFile s limits (ranking_of s) other b
      → (same : Bool) → IsTrue same ↔ (a ≡ b) → TellsTexts s limits one other (Ok same)
  numbers-tell one other a b x y same is m n means means_ =
      let both = both-numbered s formed limits one other m n means means_ a b x y in
      (λ yes. both.1 (is.0 yes), λ alike. is.1 (both.0 alike))

  pub numbers-told : (one other a b : List ℕ) → IsNumberedFile s limits (ranking_of s) one a
      → IsNumberedFile s limits (ranking_of s) other b → (result : Result Bool Unnumbered)
      → IfOk result (λ same. IsTrue same ↔ (a ≡ b)) → IfErr result (λ fault. fault ≡ NoMemory) → TellsTexts s limits one other result
  numbers-told one other a b x y (Ok same) ok err = numbers-tell one other a b x y same ok
  numbers-told one other a b x y (Err fault) ok err =
      (let P : Unnumbered → Type 0 = λ f. TellsTexts s limits one other (Err f) in subst P (sym err) tt)

  pub second-none : (one other a : List ℕ) (fault : Unnumbered) → IsNumberedFile s limits (ranking_of s) one a
      → HasNone s limits other fault → TellsTexts s limits one other (told_apart fault)
  second-none one other a (Alike j k) x y = λ m n means means_. not-told (SameButForNames m n)
      (numbered-and_alike s formed limits one other m n means means_ a j k x y)
  second-none one other a TooLong x y = λ m n means means_. not-told (SameButForNames m n)
      (numbered-and_long s formed limits one other m n means means_ a x y)
  second-none one other a NoMemory x y = tt

  pub first-none : (one other b : List ℕ) (fault : Unnumbered) → HasNone s limits one fault → IsNumberedFile s limits (ranking_of s) other b
      → TellsTexts s limits one other (told_apart fault)
  first-none one other b (Alike j k) x y = λ m n means means_. not-told (SameButForNames m n)
      (alike-and_numbered s formed limits one other m n means means_ b j k x y)
  first-none one other b TooLong x y = λ m n means means_. not-told (SameButForNames m n)
      (long-and_numbered s formed limits one other m n means means_ b x y)
  first-none one other b NoMemory x y = tt

  pub neither-has : (one other : List ℕ) (fault its : Unnumbered) → HasNone s limits one fault → HasNone s limits other its
      → TellsTexts s limits one other (told_of_none fault its)
  neither-has one other NoMemory its x y = tt
  neither-has one other (Alike j k) (Alike i l) x y = (x, (i, l, y))
  neither-has one other (Alike j k) TooLong x y = λ m n means means_. not-told (SameButForNames m n)
      (alike-and_long s formed limits one other m n means means_ j k x y)
  neither-has one other (Alike j k) NoMemory x y = tt
  neither-has one other TooLong (Alike i l) x y = λ m n means means_. not-told (SameButForNames m n)
      (long-and_alike s formed limits one other m n means means_ i l x y)
  neither-has one other TooLong TooLong x y = (x, y)
  neither-has one other TooLong NoMemory x y = tt
