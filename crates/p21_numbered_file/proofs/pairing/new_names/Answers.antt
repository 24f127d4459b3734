use Rattle.std.proofs.Common.{◌≡◌, ◌<◌, ℕ, List, length, map, sym, subst}
use Rattle.std.specs.Global.{Vec}
use Rattle.std.specs.List.{AllByRecursion as Each}
use Rattle.std.specs.Prelude.{Option}
use denote.Ref.{Bor}
use Rattle.p21_grammar_tree.specs.declared.record.Part.{Part}
use Rattle.p21_spec_numbering.proofs.Theorems.{meanings-are_proper}
use Rattle.p21_numbering.specs.declared.instances.Instance.{Instance as Code}
use Rattle.p21_numbering.specs.Instances.{AreInstancesOf, Instance, file_instances}
use Rattle.p21_numbering.specs.NewNames.{new_name}
use Rattle.p21_numbering.specs.NodesOf.{HasKnownParts}
use Rattle.p21_pairing.proofs.JointNodes.{own-once}
use Rattle.p21_pairing.specs.Partners.{LeadToPairing, NamesByPartners}
use Rattle.p21_numbered_file.proofs.NumberedTexts.{all-known, are-instances, sections-low}
use Rattle.p21_numbered_file.specs.Headings.{AreTextsOf}
use Rattle.p21_numbered_file.specs.Instances.{instance_in}
use Rattle.p21_numbered_file.specs.declared.read_file.ReadInstance.{ReadInstance}
use Rattle.p21_numbered_file.proofs.pairing.new_names.Goals as goal

pub named_instances-requires : goal.named_instances-requires
named_instances-requires c =
    let (text, is) = c.requires.other in
    let texts = c.in_ok-texts.texts.items in
    let A : List (Option Part) → Type 0 = λ xs. AreTextsOf xs texts in
    let are : AreTextsOf c.args.other.sections.items texts = subst A c.deref.ensures.value c.in_ok-texts.ensures in
    let T : List (Vec (Bor (List ℕ))) → Type 0 = λ ts. Each (λ (i : ReadInstance). i.section < length ts) c.args.other.instances.items in
    subst T (sym c.deref-2.ensures.value) (sections-low c.args.schema.now c.well_formed-2.ensures text c.args.other is texts are)

pub partners-requires-clause-second : goal.partners-requires-clause-second
partners-requires-clause-second c =
    let (text, is) = c.requires.other in
    let s = c.args.schema.now in
    let texts = c.in_ok-texts.texts.items in
    let A : List (Option Part) → Type 0 = λ xs. AreTextsOf xs texts in
    let are : AreTextsOf c.args.other.sections.items texts = subst A c.deref.ensures.value c.in_ok-texts.ensures in
    let N : List (Vec (Bor (List ℕ))) → Type 0 = λ ts. file_instances c.in_ok-others.others.items ≡ map (instance_in ts)
    c.args.other.instances.items in
    let named_is : file_instances c.in_ok-others.others.items ≡ map (instance_in texts) c.args.other.instances.items =
    subst N c.deref-2.ensures.value c.in_ok-others.ensures in
    let K : List Instance → Type 0 = λ xs. Each (λ (i : Instance). HasKnownParts s i.typed) xs in
    let L : List Code → Type 0 = λ xs. K (file_instances xs) in
    subst L (sym c.deref-3.ensures.value) (subst K (sym named_is) (all-known s c.well_formed-2.ensures text c.args.other is texts are))

pub returns-clause-pairing : goal.returns-clause-pairing
returns-clause-pairing c bytes a reads are_first text is =
    let s = c.args.schema.now in
    let formed = c.well_formed-2.ensures in
    let texts = c.in_ok-texts.texts.items in
    let first : List Instance = file_instances c.args.instances.now in
    let second : List Instance = file_instances c.in_ok-others.others.items in
    let A : List (Option Part) → Type 0 = λ xs. AreTextsOf xs texts in
    let are : AreTextsOf c.args.other.sections.items texts = subst A c.deref.ensures.value c.in_ok-texts.ensures in
    let N : List (Vec (Bor (List ℕ))) → Type 0 = λ ts. second ≡ map (instance_in ts) c.args.other.instances.items in
    let named_is : second ≡ map (instance_in texts) c.args.other.instances.items = subst N c.deref-2.ensures.value c.in_ok-others.ensures in
    let are_second : AreInstancesOf is.meaning second =
    subst (AreInstancesOf is.meaning) (sym named_is) (are-instances s formed text c.args.other is texts are) in
    let P : List Code → Type 0 = λ xs. LeadToPairing s first (file_instances xs) c.in_ok-found.found.partners.items in
    let pairing : LeadToPairing s first second c.in_ok-found.found.partners.items =
    subst P c.deref-3.ensures.value c.in_ok-found.ensures.pairing in
    let Q : List Code → Type 0 = λ xs. NamesByPartners c.deref-5.result.now first (file_instances xs) c.in_ok-new.new in
    let R : List (Option ℕ) → Type 0 = λ ps. NamesByPartners ps first second c.in_ok-new.new in
    let named : NamesByPartners c.in_ok-found.found.partners.items first second c.in_ok-new.new =
    subst R c.deref-5.ensures.value (subst Q c.deref-4.ensures.value c.in_ok-new.ensures) in
    pairing bytes text a is.meaning reads is.reads are_first are_second (new_name c.in_ok-new.new)
    (named (own-once a (meanings-are_proper s formed bytes a reads) first are_first))
