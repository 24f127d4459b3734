-- A file under names that pair its instances with those of another one.
use Rattle.std.specs.BTreeMap.{BTreeMap, Updates, get}
use Rattle.std.specs.Ordering.{nat_cmp}
use Rattle.std.specs.Prelude.{◌≡◌, ◌⊎◌, ◌<◌, ◌+◌, ℕ, List, map, length, Some, Contains}
use Rattle.std.specs.Global.{Vec}
use denote.Ref.{Bor}
use Rattle.std.specs.List.{AllZip}
use Rattle.std.proofs.Common.{arith, ap, sym, subst, inl, inr, ◌∙◌, get_or}
use Rattle.std.proofs.lemmas.Bool.{cases_eq}
use Rattle.std.proofs.lemmas.List.Elements.{Contains-get_or}
use Rattle.p21_spec_basics.proofs.Comparing.{is_at-other}
use Rattle.p21_spec_basics.proofs.Members.{Contains-at}
use Rattle.p21_spec_basics.proofs.Shuffles.{Shuffled-members}
use Rattle.p21_spec_basics.specs.Limits.{Limits}
use Rattle.p21_spec_file.proofs.SameFiles.{SameFileMeaning-symmetric, SameFileMeaning-transitive}
use Rattle.p21_spec_file.specs.Accepted.{IsAccepted, IsCanonicalOf}
use Rattle.p21_spec_file.specs.File.{FileMeaning}
use Rattle.p21_spec_laws.proofs.FileTheorems.{bytes-tell}
use Rattle.p21_spec_laws.specs.CompleteFile.{Line}
use Rattle.p21_spec_numbering.proofs.Theorems.{meanings-are_proper}
use Rattle.p21_spec_numbering.specs.Laws.{IsProper, ranking_of}
use Rattle.p21_spec_numbering.specs.Renamed.{IsInjectiveOn, names, renamed}
use Rattle.p21_spec_pairing.proofs.Partners.{nothing-in_same, same-if_none}
use Rattle.p21_spec_pairing.specs.Pairing.{IsPairing, NothingDiffers}
use Rattle.p21_spec_schema.specs.Schema.{Schema}
use Rattle.p21_spec_schema.specs.WellFormed.{IsWellFormed}
use Rattle.p21_numbering.proofs.Decisions.{got}
use Rattle.p21_numbering.specs.Instances.{AreInstancesOf, Instance, names_of}
use Rattle.p21_numbered.specs.Lines.{IsLineUnder}
use Rattle.p21_stream_output.specs.Output.{Output, output_text}
use Rattle.p21_numbered_file.proofs.NumberedTexts.{all-names, is-renamed, lines-renamed, meant-within, none-renamed}
use Rattle.p21_numbered_file.specs.Assembly.{IsPutTogether}
use Rattle.p21_numbered_file.specs.Headings.{AreTextsOf}
use Rattle.p21_numbered_file.specs.Instances.{instance_in}
use Rattle.p21_numbered_file.specs.Numbering.{IsWithin}
use Rattle.p21_numbered_file.specs.Pairing.{ArePairedBy, GivesBack, HasNoPairedFile, IsPairedFile}
use Rattle.p21_numbered_file.specs.Reading.{IsReadOf}
use Rattle.p21_numbered_file.specs.declared.read_file.ReadFile.{ReadFile}
use Rattle.p21_numbered_file.specs.declared.read_file.ReadInstance.{ReadInstance}

-- ---- names given back

split_last : (m n : ℕ) → m < n + 1 → (m < n) ⊎ (m ≡ n)
split_last m n low = grind arith

-- the names at the first positions are given back
abbrev pub BackBelow : BTreeMap ℕ ℕ → (ℕ → ℕ) → List ℕ → ℕ → Type 0
BackBelow old f ns k = IsInjectiveOn ns f → (j : ℕ) → j < k → get nat_cmp old (f (get_or ns j 0)) ≡ Some (get_or ns j 0)

pub back-more : (before after : BTreeMap ℕ ℕ) (f : ℕ → ℕ) (ns : List ℕ) (k : ℕ) → k < length ns
    → Updates nat_cmp before after (f (get_or ns k 0)) (Some (get_or ns k 0)) → BackBelow before f ns k → BackBelow after f ns (k + 1)
back-more before after f ns k low updates so_far apart j below = elim (split_last j k below) [
  | inr last ↦ ap (λ i. get nat_cmp after (f (get_or ns i 0))) last ∙ updates.1 ∙ ap (λ i. Some (get_or ns i 0)) (sym last)
  | inl early ↦
      elim (cases_eq (f (get_or ns j 0)) (f (get_or ns k 0))) [
        | inl same ↦
            let one : get_or ns j 0 ≡ get_or ns k 0 = apart (get_or ns j 0) (get_or ns k 0)
            (Contains-get_or ns j 0 (omega (arith, early, low))) (Contains-get_or ns k 0 low) same in
            ap (λ n. get nat_cmp after (f n)) one ∙ updates.1 ∙ ap (λ n. Some n) (sym one)
        | inr differ ↦ updates.2 (f (get_or ns j 0)) (is_at-other (f (get_or ns k 0)) (f (get_or ns j 0)) differ) ∙ so_far apart j early
      ]
]

pub back-all : (old : BTreeMap ℕ ℕ) (f : ℕ → ℕ) (ns : List ℕ) (k : ℕ) → length ns < k + 1 → BackBelow old f ns k → GivesBack old f ns
back-all old f ns k long back apart n among =
    let (j, at) = Contains-at ns n among in
    let (low, same) = got ns j n 0 at in
    let P : ℕ → Type 0 = λ i. get nat_cmp old (f i) ≡ Some i in
    subst P same (back apart j (omega (arith, low, long)))

-- names that differ in the file differ among its instances
pub differ-among : (m : FileMeaning) (all : List Instance) (f : ℕ → ℕ) → AreInstancesOf m all → IsInjectiveOn (names m) f
    → IsInjectiveOn (names_of all) f
differ-among m all f are apart j k among among_ same = apart j k (there j among) (there k among_) same
  where
    there : (n : ℕ) → Contains (names_of all) n → Contains (names m) n
    there n at = Shuffled-members (names_of all) (names m) are.names_are n at

-- ---- the file

module _ (s : Schema) (formed : IsWellFormed s) (limits : Limits) (one two : List ℕ) (read other : ReadFile) (is : IsReadOf s one read)
    (is_ : IsReadOf s two other) (accepted : IsAccepted s limits one) (accepted_ : IsAccepted s limits two)
    (texts : List (Vec (Bor (List ℕ)))) (are : AreTextsOf read.sections.items texts) (f : ℕ → ℕ)
    (pairing : IsPairing (ranking_of s) is.meaning is_.meaning f)
    (lines : List Line) (under : AllZip (IsLineUnder s f) (map (instance_in texts) read.instances.items) lines) (output : Output)
    (put : IsPutTogether read.header.items read.sections.items (map (λ (i : ReadInstance). i.section) read.instances.items) lines
    output) where
  are-paired : ArePairedBy s limits one two f
  are-paired = record {
    first = is.meaning;
    second = is_.meaning;
    means = meant-within s formed limits one is.meaning is.reads accepted;
    other_means = meant-within s formed limits two is_.meaning is_.reads accepted_;
    pairing = pairing;
  }

  proper : IsProper is.meaning
  proper = meanings-are_proper s formed one is.meaning is.reads

  proper_ : IsProper is_.meaning
  proper_ = meanings-are_proper s formed two is_.meaning is_.reads

  -- canonical files are equal exactly if they mean the same
  equal-if_nothing : IsCanonicalOf s limits (renamed f is.meaning) (output_text output) → IsCanonicalOf s limits is_.meaning two
      → (output_text output ≡ two → NothingDiffers f is.meaning is_.meaning)
      × (NothingDiffers f is.meaning is_.meaning → output_text output ≡ two)
  equal-if_nothing c d =
      let a : FileMeaning = renamed f is.meaning in
      let tell = bytes-tell s formed (output_text output) two c.canonical d.canonical in (
        λ equal. nothing-in_same f is.meaning is_.meaning proper proper_ pairing.injective
            (SameFileMeaning-transitive a c.canonical.meaning is_.meaning (SameFileMeaning-symmetric c.canonical.meaning a c.same)
            (SameFileMeaning-transitive c.canonical.meaning d.canonical.meaning is_.meaning (tell.1 equal) d.same)),
        λ nothing. tell.0 (SameFileMeaning-transitive c.canonical.meaning a d.canonical.meaning c.same
            (SameFileMeaning-transitive a is_.meaning d.canonical.meaning
            (same-if_none f is.meaning is_.meaning proper proper_ pairing.injective nothing).0
            (SameFileMeaning-symmetric d.canonical.meaning is_.meaning d.same))),
      )

  pub is-paired : (old : BTreeMap ℕ ℕ) → GivesBack old f (names_of (map (instance_in texts) read.instances.items))
      → IsWithin limits (output_text output) lines → IsPairedFile s limits one two output old
  unfolding are-paired
  is-paired old back within =
      let canonical = is-renamed s formed one read is texts are f pairing.injective lines under limits accepted output put within in
      let G : List ℕ → Type 0 = λ ns. GivesBack old f ns in
      record {
        new = f;
        paired = are-paired;
        canonical = canonical;
        lines = lines-renamed s formed one read is texts are f pairing.injective lines under limits accepted output put;
        gives_back = subst G (all-names s formed one read is texts are) back pairing.injective;
        equal = equal-if_nothing canonical;
      }

  -- where it isn't within the limits there is none
  pub none-paired : ¬ IsWithin limits (output_text output) lines → HasNoPairedFile s limits one two
  unfolding are-paired
  none-paired long = record {
    new = f;
    paired = are-paired;
    none = none-renamed s formed one read is texts are f pairing.injective lines under limits accepted output put long;
  }
