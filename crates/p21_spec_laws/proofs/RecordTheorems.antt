-- The laws of instances and of what they need, as the contract has them.
use Rattle.std.proofs.Common.{◌≡◌, sym, subst}
use Rattle.p21_spec_laws.proofs.InstanceTexts.{has-text, canonical_size-one, one-text_of, texts-once, texts-told}
use Rattle.p21_spec_laws.proofs.Needs.{has-needs, means-served, needs-can_be_served, needs-references, served-means, served-places}
use Rattle.p21_spec_laws.specs.NeedLaws.{NeedsAreReferences, NeedsCanBeServed, ServedNeedsDecideMeaning, RecordHasNeeds, ServedParamsFit}
use Rattle.p21_spec_laws.specs.RecordLaws.{InstanceHasText, OneMeaningOfRecord, OneCanonicalSize, OneTextOfInstance, TextsTellInstances}
use Rattle.p21_spec_file.proofs.OneMeaning.{RecordMeans-one}
use Rattle.p21_spec_file.specs.Meaning.{Typed}
use Rattle.p21_spec_file.specs.SameFile.{SameTyped}

pub one-meaning : OneMeaningOfRecord
one-meaning s formed = RecordMeans-one s formed

pub instance-has_text : InstanceHasText
instance-has_text s formed = has-text s formed

pub one-text : OneTextOfInstance
one-text s formed = one-text_of s formed

pub texts-tell : TextsTellInstances
texts-tell s formed kinds others n m record_ other a b text other_text means means_ is is_ =
    let first : is.meaning ≡ a = RecordMeans-one s formed is.kinds kinds record_ is.meaning a is.means means in
    let second : is_.meaning ≡ b = RecordMeans-one s formed is_.kinds others other is_.meaning b is_.means means_ in (
      λ (name, same).
          let same_ : SameTyped is.meaning is_.meaning = subst (λ (x : Typed). SameTyped x is_.meaning) (sym first) (subst (SameTyped a) (sym second) same) in
          texts-once s formed n m record_ other text other_text is is_ name same_,
      λ equal.
          let (name, same) = texts-told s formed n m record_ other text other_text is is_ equal in
          (name, subst (λ (x : Typed). SameTyped x b) first (subst (SameTyped is.meaning) second same)),
    )

pub one-canonical_size : OneCanonicalSize
one-canonical_size s formed = canonical_size-one s formed

pub needs-decide : ServedNeedsDecideMeaning
needs-decide s formed record_ meaning needs is kinds =
    (λ means. means-served s formed record_ meaning needs is kinds means, λ served. served-means s formed record_ meaning needs is kinds served)

pub has-needs_apart : RecordHasNeeds
has-needs_apart s kinds record_ meaning means = let (needs, is) = has-needs s kinds record_ meaning means in (needs, is.needs_are)

pub needs-are_references : NeedsAreReferences
needs-are_references = needs-references

pub needs-served : NeedsCanBeServed
needs-served = needs-can_be_served

pub served-fit : ServedParamsFit
served-fit = served-places
