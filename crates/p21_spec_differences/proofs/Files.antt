-- The laws of differences.
use Rattle.std.specs.Prelude.{◌≡◌, ◌↔◌, ℕ, List, map, Contains, refl}
use Rattle.std.specs.List.{AllZip, AllByRecursion as Each}
use Rattle.std.proofs.Common.{ap, sym, subst, ◌∙◌}
use Rattle.p21_spec_basics.proofs.Members.{AllZip-second_member, Contains-mapped, Contains-unmapped, Each-member, Each-weaker}
use Rattle.p21_spec_basics.proofs.Shuffles.{NoneTwice, distinct-none_twice, one-keyed}
use Rattle.p21_spec_exchange.specs.DataSection.{Heading, instances_in}
use Rattle.p21_spec_exchange.specs.Record.{Part, record_tokens, part_tokens}
use Rattle.p21_spec_exchange.specs.Structure.{tokens_of}
use Rattle.p21_spec_exchange.specs.Token.{IsSpelled}
use Rattle.p21_spec_file.proofs.SameFiles.{SameTyped-symmetric}
use Rattle.p21_spec_file.specs.File.{FileMeaning, InstanceMeans, Reads, entity_sets_of}
use Rattle.p21_spec_file.specs.Meaning.{Typed}
use Rattle.p21_spec_file.specs.Reference.{EntitySets}
use Rattle.p21_spec_file.specs.SameFile.{HaveSameMembers, SameFileMeaning, SamePart, SameTyped}
use Rattle.p21_spec_laws.proofs.CanonicalLaid.{laid-each_spelled}
use Rattle.p21_spec_laws.proofs.FileOnce.{one-meant}
use Rattle.p21_spec_laws.proofs.RecordOnce.{part-written}
use Rattle.p21_spec_laws.proofs.SaidFiles.{Instance, header-said, instances-said}
use Rattle.p21_spec_numbering.proofs.Reading.{reads-whole}
use Rattle.p21_spec_numbering.specs.Renamed.{IsWhole, names}
use Rattle.p21_spec_schema.specs.Schema.{Schema}
use Rattle.p21_spec_schema.specs.WellFormed.{IsWellFormed}
use Rattle.p21_spec_differences.proofs.Decided.{heading-decided, member-decided, number-decided, settled, text-decided}
use Rattle.p21_spec_differences.proofs.Headers.{HaveWrittenParams, headers-same, headers-told}
use Rattle.p21_spec_differences.proofs.Values.{IsMeantBy, entities-once, none-other, typed-told}
use Rattle.p21_spec_differences.specs.Difference.{Difference, record_came, record_went, record_changed, parameter_changed, section_came, section_went, instance_came, instance_went, section_changed, set_changed, value_changed, Differs, IsOfHeader, IsOfName, IsOfSections}
use Rattle.p21_spec_differences.specs.Laws.{HeadersAreTold, NamesAreTold, NothingDiffersInTheSame, SaySame, SectionsAreTold}

-- ---- what is known of a file that reads

pub record IsKnown (s : Schema) (m : FileMeaning) : Type 0 where
  pub whole : IsWhole m
  pub header : HaveWrittenParams m.header
  pub meant : (n : ℕ) (x : Typed) → Contains m.instances (n, x) → IsMeantBy s (entity_sets_of m.instances) x
  pub schema_is : m.schema ≡ s.name

meant-by : (s : Schema) (kinds : EntitySets) (is : List Instance) (ms : List (ℕ × Typed)) → AllZip (InstanceMeans s kinds) is ms
    → Each (λ (i : Instance). Each IsSpelled (record_tokens i.1)) is → (n : ℕ) (x : Typed) → Contains ms (n, x) → IsMeantBy s kinds x
meant-by s kinds is ms all spelled n x among =
    let (i, at, means) = AllZip-second_member (InstanceMeans s kinds) is ms (n, x) all among in
    record { record_ = i.1; means = means.1; spelled = Each-member (λ (j : Instance). Each IsSpelled (record_tokens j.1)) is i spelled at }

pub reads-known : (s : Schema) → IsWellFormed s → (bytes : List ℕ) (m : FileMeaning) → Reads s bytes m → IsKnown s m
reads-known s formed bytes m reads =
    let spelled = laid-each_spelled bytes (tokens_of reads.structure) reads.in_grammar.laid in
    let Said : List Part → Type 0 = HaveWrittenParams in
    record {
      whole = (reads-whole s formed bytes m reads).0;
      header = subst Said (sym reads.header_is)
          (Each-weaker (λ (part : Part). Each IsSpelled (part_tokens part)) _ part-written reads.structure.header (header-said reads.structure spelled));
      meant = meant-by s (entity_sets_of m.instances) (instances_in reads.structure.sections) m.instances reads.means (instances-said reads.structure spelled);
      schema_is = reads.schema_is;
    }

module _ (s : Schema) (formed : IsWellFormed s) (a b : FileMeaning) (first : IsKnown s a) (second : IsKnown s b) where
  -- ---- headers

  header-told : AllZip SamePart a.header b.header ↔ ((d : Difference) → IsOfHeader d → ¬ Differs a b d)
  header-told = (there, back)
    where
      there : AllZip SamePart a.header b.header → (d : Difference) → IsOfHeader d → ¬ Differs a b d
      there same (record_came number) of = (headers-same a.header b.header same).came number
      there same (record_went number) of = (headers-same a.header b.header same).went number
      there same (record_changed number) of = λ (x, y, beside, differ). (headers-same a.header b.header same).changed number x y beside differ
      there same (parameter_changed number place) of = λ (x, y, beside, alike, differ). (headers-same a.header b.header same).other number place x y beside alike differ
      there same other of = absurd of

      back : ((d : Difference) → IsOfHeader d → ¬ Differs a b d) → AllZip SamePart a.header b.header
      back none = headers-told a.header b.header first.header second.header (record {
        came = λ number. none (record_came number) tt;
        went = λ number. none (record_went number) tt;
        changed = λ number x y beside differ. none (record_changed number) tt (x, y, beside, differ);
        other = λ number place x y beside alike differ. none (parameter_changed number place) tt (x, y, beside, alike, differ);
      })

  -- ---- sections

  sections-told : HaveSameMembers a.sections b.sections ↔ ((d : Difference) → IsOfSections d → ¬ Differs a b d)
  sections-told = (there, back)
    where
      there : HaveSameMembers a.sections b.sections → (d : Difference) → IsOfSections d → ¬ Differs a b d
      there same (section_came heading) of = λ (has, lacks). lacks ((same heading).1 has)
      there same (section_went heading) of = λ (has, lacks). lacks ((same heading).0 has)
      there same other of = absurd of

      back : ((d : Difference) → IsOfSections d → ¬ Differs a b d) → HaveSameMembers a.sections b.sections
      back none heading = (
        λ has. settled (Contains b.sections heading) (member-decided heading-decided b.sections heading) (λ lacks. none (section_went heading) tt (has, lacks)),
        λ has. settled (Contains a.sections heading) (member-decided heading-decided a.sections heading) (λ lacks. none (section_came heading) tt (has, lacks)),
      )

  -- ---- names

  differ-twice : (m : FileMeaning) → IsWhole m → NoneTwice (names m)
  differ-twice m whole = distinct-none_twice (names m) whole.names_differ

  one-heading : (m : FileMeaning) → IsWhole m → (n : ℕ) (g h : Heading) → Contains m.instance_sections (n, g) → Contains m.instance_sections (n, h) → g ≡ h
  one-heading m whole n g h at at_ =
      let once : NoneTwice (map (λ (i : ℕ × Heading). i.0) m.instance_sections) = subst NoneTwice (sym whole.in_sections) (differ-twice m whole) in
      ap (λ (i : ℕ × Heading). i.1) (one-keyed (λ (i : ℕ × Heading). i.0) m.instance_sections once (n, g) (n, h) at at_ refl)

  said-there : (n : ℕ) → SaySame a b n → (d : Difference) → IsOfName n d → ¬ Differs a b d
  said-there n same (instance_came k) of = λ (has, lacks).
      let Lacks : ℕ → Type 0 = λ j. ¬ Contains (names a) j in
      let Has : ℕ → Type 0 = λ j. Contains (names b) j in
      subst Lacks of lacks (same.both.1 (subst Has of has))
  said-there n same (instance_went k) of = λ (has, lacks).
      let Lacks : ℕ → Type 0 = λ j. ¬ Contains (names b) j in
      let Has : ℕ → Type 0 = λ j. Contains (names a) j in
      subst Lacks of lacks (same.both.0 (subst Has of has))
  said-there n same (section_changed k) of = λ (g, h, at, at_, differ).
      let In_a : ℕ → Type 0 = λ j. Contains a.instance_sections (j, g) in
      let In_b : ℕ → Type 0 = λ j. Contains b.instance_sections (j, h) in
      differ (same.section g h (subst In_a of at) (subst In_b of at_))
  said-there n same (set_changed k) of = λ (x, y, at, differ).
      let In_a : ℕ → Type 0 = λ j. Contains a.instances (j, x) in
      let In_b : ℕ → Type 0 = λ j. Contains b.instances (j, y) in
      differ (same.same x y (subst In_a of at.0) (subst In_b of at.1)).0
  said-there n same (value_changed k place) of = λ (x, y, at, set, differ).
      let In_a : ℕ → Type 0 = λ j. Contains a.instances (j, x) in
      let In_b : ℕ → Type 0 = λ j. Contains b.instances (j, y) in
      none-other x y (entities-once s (entity_sets_of b.instances) y (second.meant k y at.1)) (same.same x y (subst In_a of at.0) (subst In_b of at.1)) place differ
  said-there n same other of = absurd of

  said-back : (n : ℕ) → ((d : Difference) → IsOfName n d → ¬ Differs a b d) → SaySame a b n
  said-back n none = record {
    both = (
      λ has. settled (Contains (names b) n) (member-decided number-decided (names b) n) (λ lacks. none (instance_went n) refl (has, lacks)),
      λ has. settled (Contains (names a) n) (member-decided number-decided (names a) n) (λ lacks. none (instance_came n) refl (has, lacks)),
    );
    same = λ x y at at_.
        let set : x.entities ≡ y.entities = settled (x.entities ≡ y.entities) (text-decided x.entities y.entities) (λ differ. none (set_changed n) refl (x, y, (at, at_), differ)) in
        typed-told s formed (entity_sets_of a.instances) (entity_sets_of b.instances) x y (first.meant n x at) (second.meant n y at_) set
        (λ place differ. none (value_changed n place) refl (x, y, (at, at_), set, differ));
    section = λ g h at at_. settled (g ≡ h) (heading-decided g h) (λ differ. none (section_changed n) refl (g, h, at, at_, differ));
  }

  -- ---- files

  meant-there : (m : FileMeaning) (n : ℕ) → Contains (names m) n → (x : Typed) × Contains m.instances (n, x)
  meant-there m n among =
      let (i, at, is) = Contains-unmapped (λ (i : ℕ × Typed). i.0) m.instances n among in
      let P : ℕ → Type 0 = λ k. Contains m.instances (k, i.1) in
      (i.1, subst P is at)

  placed-there : (m : FileMeaning) → IsWhole m → (n : ℕ) → Contains (names m) n → (h : Heading) × Contains m.instance_sections (n, h)
  placed-there m whole n among =
      let In : List ℕ → Type 0 = λ ns. Contains ns n in
      let (i, at, is) = Contains-unmapped (λ (i : ℕ × Heading). i.0) m.instance_sections n (subst In (sym whole.in_sections) among) in
      let P : ℕ → Type 0 = λ k. Contains m.instance_sections (k, i.1) in
      (i.1, subst P is at)

  named-by : (m : FileMeaning) → IsWhole m → (n : ℕ) (h : Heading) → Contains m.instance_sections (n, h) → Contains (names m) n
  named-by m whole n h at =
      let In : List ℕ → Type 0 = λ ns. Contains ns n in
      subst In whole.in_sections (Contains-mapped (λ (i : ℕ × Heading). i.0) m.instance_sections (n, h) at)

  same-says : SameFileMeaning a b → (n : ℕ) → SaySame a b n
  same-says same n = record {
    both = (
      λ among. let (x, at) = meant-there a n among in let (y, at_, is) = same.onto n x at in Contains-mapped (λ (i : ℕ × Typed). i.0) b.instances (n, y) at_,
      λ among. let (y, at) = meant-there b n among in let (x, at_, is) = same.back n y at in Contains-mapped (λ (i : ℕ × Typed). i.0) a.instances (n, x) at_,
    );
    same = λ x y at at_.
        let (z, at_z, is) = same.onto n x at in
        subst (SameTyped x) (one-meant b.instances (differ-twice b second.whole) n z y at_z at_) is;
    section = λ g h at at_. one-heading b second.whole n g h ((same.instance_sections (n, g)).0 at) at_;
  }

  says-same : AllZip SamePart a.header b.header → HaveSameMembers a.sections b.sections → ((n : ℕ) → SaySame a b n) → SameFileMeaning a b
  says-same header sections says = record {
    header = header;
    schema = first.schema_is ∙ sym second.schema_is;
    sections = sections;
    onto = λ n x at.
        let (y, at_) = meant-there b n ((says n).both.0 (Contains-mapped (λ (i : ℕ × Typed). i.0) a.instances (n, x) at)) in
        (y, at_, (says n).same x y at at_);
    back = λ n y at.
        let (x, at_) = meant-there a n ((says n).both.1 (Contains-mapped (λ (i : ℕ × Typed). i.0) b.instances (n, y) at)) in
        (x, at_, SameTyped-symmetric x y ((says n).same x y at_ at));
    instance_sections = λ i. (placed-onto i.0 i.1, placed-back i.0 i.1);
  }
    where
      placed-onto : (n : ℕ) (h : Heading) → Contains a.instance_sections (n, h) → Contains b.instance_sections (n, h)
      placed-onto n h at =
          let (g, at_) = placed-there b second.whole n ((says n).both.0 (named-by a first.whole n h at)) in
          let P : Heading → Type 0 = λ k. Contains b.instance_sections (n, k) in
          subst P (sym ((says n).section h g at at_)) at_

      placed-back : (n : ℕ) (h : Heading) → Contains b.instance_sections (n, h) → Contains a.instance_sections (n, h)
      placed-back n h at =
          let (g, at_) = placed-there a first.whole n ((says n).both.1 (named-by b second.whole n h at)) in
          let P : Heading → Type 0 = λ k. Contains a.instance_sections (n, k) in
          subst P ((says n).section g h at_ at) at_

  file-told : SameFileMeaning a b ↔ ((d : Difference) → ¬ Differs a b d)
  file-told = (there, back)
    where
      there : SameFileMeaning a b → (d : Difference) → ¬ Differs a b d
      there same (record_came number) = header-told.0 same.header (record_came number) tt
      there same (record_went number) = header-told.0 same.header (record_went number) tt
      there same (record_changed number) = header-told.0 same.header (record_changed number) tt
      there same (parameter_changed number place) = header-told.0 same.header (parameter_changed number place) tt
      there same (section_came heading) = sections-told.0 same.sections (section_came heading) tt
      there same (section_went heading) = sections-told.0 same.sections (section_went heading) tt
      there same (instance_came n) = said-there n (same-says same n) (instance_came n) refl
      there same (instance_went n) = said-there n (same-says same n) (instance_went n) refl
      there same (section_changed n) = said-there n (same-says same n) (section_changed n) refl
      there same (set_changed n) = said-there n (same-says same n) (set_changed n) refl
      there same (value_changed n place) = said-there n (same-says same n) (value_changed n place) refl

      back : ((d : Difference) → ¬ Differs a b d) → SameFileMeaning a b
      back none = says-same (header-told.1 (λ d of. none d)) (sections-told.1 (λ d of. none d)) (λ n. said-back n (λ d of. none d))

-- ---- the laws

pub nothing-differs : NothingDiffersInTheSame
nothing-differs s formed bytes others a b reads reads_ = file-told s formed a b (reads-known s formed bytes a reads) (reads-known s formed others b reads_)

pub headers-are_told : HeadersAreTold
headers-are_told s formed bytes others a b reads reads_ = header-told s formed a b (reads-known s formed bytes a reads) (reads-known s formed others b reads_)

pub sections-are_told : SectionsAreTold
sections-are_told s formed bytes others a b reads reads_ = sections-told s formed a b (reads-known s formed bytes a reads) (reads-known s formed others b reads_)

pub names-are_told : NamesAreTold
names-are_told s formed bytes others a b reads reads_ n =
    let first = reads-known s formed bytes a reads in
    let second = reads-known s formed others b reads_ in
    (said-there s formed a b first second n, said-back s formed a b first second n)
