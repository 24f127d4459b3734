-- Files mean the same exactly if their canonical files are equal.
use Rattle.std.specs.Prelude.{◌≡◌, ◌↔◌, ℕ, List, [], ◌∷◌, map, Contains, refl}
use Rattle.std.specs.List.{AllZip, flat_map, AllByRecursion as Each}
use Rattle.std.proofs.Common.{ap, sym, subst, ◌∙◌, inl, inr}
use Rattle.p21_spec_schema.specs.WellFormed.{IsWellFormed}
use Rattle.p21_spec_basics.proofs.Members.{Contains-none, Contains-first, Contains-later, Contains-cases, Contains-mapped}
use Rattle.p21_spec_file.proofs.SameFiles.{SameFileMeaning-symmetric, SameFileMeaning-transitive, SameFileMeaning-reflexive}
use Rattle.p21_spec_file.specs.Accepted.{IsCanonicalOf}
use Rattle.p21_spec_file.specs.Canonical.{Canonical}
use Rattle.p21_spec_file.specs.CanonicalRecord.{IsCanonicalRecord}
use Rattle.p21_spec_exchange.specs.CanonicalText.{line}
use Rattle.p21_spec_exchange.specs.DataSection.{Heading, DataSection, AreHeadings, headings, instances_in}
use Rattle.p21_spec_file.specs.File.{FileMeaning, InstanceMeans, Reads, entity_sets_of, names_with_heading}
use Rattle.p21_spec_basics.specs.Limits.{Limits}
use Rattle.p21_spec_file.specs.Meaning.{Typed}
use Rattle.p21_spec_exchange.specs.Record.{Part, Record, record_tokens}
use Rattle.p21_spec_file.specs.Reference.{EntitySets}
use Rattle.p21_spec_file.specs.SameFile.{SamePart, SameTyped, HaveSameMembers, SameFileMeaning}
use Rattle.p21_spec_schema.specs.Schema.{Schema}
use Rattle.p21_spec_exchange.specs.Structure.{Structure, statements, tokens_of}
use Rattle.p21_spec_laws.proofs.CanonicalLaid.{laid-each_spelled}
use Rattle.p21_spec_laws.proofs.RecordOnce.{record-once}
use Rattle.p21_spec_basics.proofs.Shuffles.{distinct-none_twice}
use Rattle.p21_spec_laws.proofs.Headings.{headings-once, headings-none_twice}
use Rattle.p21_spec_laws.proofs.SaidFiles.{Instance, header-said, instances-said}
use Rattle.p21_spec_laws.proofs.SectionsOnce.{named, named-same, names-by_sections, sections-once}
use Rattle.p21_spec_basics.proofs.Shuffles.{NoneTwice}
use Rattle.p21_spec_exchange.specs.Token.{IsSpelled}
use Rattle.p21_spec_laws.proofs.HeaderOnce.{header-once}
use Rattle.p21_spec_laws.proofs.OneReading.{Reads-one}

-- ---- the instances

abbrev pub Meant : Type 0
Meant = ℕ × Typed

abbrev pub meant_names : List Meant → List ℕ
meant_names ms = map (λ (m : Meant). m.0) ms

pub meant-named : (s : Schema) (kinds : EntitySets) (is : List Instance) (ms : List Meant) → AllZip (InstanceMeans s kinds) is ms → meant_names ms ≡ named is
meant-named s kinds [] [] all = refl
meant-named s kinds [] (m ∷ ms) all = absurd all
meant-named s kinds (i ∷ is) [] all = absurd all
meant-named s kinds (i ∷ is) (m ∷ ms) all = ap (λ (n : ℕ). n ∷ meant_names ms) all.0.0 ∙ ap (λ (ns : List ℕ). i.0 ∷ ns) (meant-named s kinds is ms all.1)

-- a name has one meaning where no name is twice
pub one-meant : (ms : List Meant) → NoneTwice (meant_names ms) → (n : ℕ) (x y : Typed) → Contains ms (n, x) → Contains ms (n, y) → x ≡ y
one-meant [] none n x y among among_ = absurd (Contains-none (n, x) among)
one-meant (m ∷ ms) none n x y among among_ = elim (Contains-cases m ms (n, x) among) [
  | inl h ↦ elim (Contains-cases m ms (n, y) among_) [
    | inl h_ ↦ ap (λ (z : Meant). z.1) (sym h ∙ h_)
    | inr h_ ↦ absurd (twice (ap (λ (z : Meant). z.0) h) y h_)
  ]
  | inr h ↦ elim (Contains-cases m ms (n, y) among_) [
    | inl h_ ↦ absurd (twice (ap (λ (z : Meant). z.0) h_) x h)
    | inr h_ ↦ one-meant ms none.1 n x y h h_
  ]
]
  where
    twice : m.0 ≡ n → (z : Typed) → Contains ms (n, z) → ⊥
    twice is z at = none.0 (let P : ℕ → Type 0 = λ k. Contains (meant_names ms) k in subst P (sym is) (Contains-mapped (λ (w : Meant). w.0) ms (n, z) at))

pair-same : (m n : ℕ) (r q : Record) → m ≡ n → r ≡ q → ◌≡◌ {A = Instance} (m, r) (n, q)
pair-same m n r q first second = ap (λ (k : ℕ). (k, r)) first ∙ ap (λ (x : Record). (n, x)) second

-- canonical instances under the same names
instances-once : (s : Schema) → IsWellFormed s → (kinds others : EntitySets) (is js : List Instance) (xs ys : List Meant) → AllZip (InstanceMeans s kinds) is xs → AllZip (InstanceMeans s others) js ys
    → AllZip (λ (written : Instance) (meant : Meant). IsCanonicalRecord s written.1 meant.1) is xs → AllZip (λ (written : Instance) (meant : Meant). IsCanonicalRecord s written.1 meant.1) js ys
    → Each (λ (i : Instance). Each IsSpelled (record_tokens i.1)) is → Each (λ (i : Instance). Each IsSpelled (record_tokens i.1)) js → ((n : ℕ) (x y : Typed) → Contains xs (n, x) → Contains ys (n, y) → SameTyped x y) → named is ≡ named js → is ≡ js
instances-once s formed kinds others [] [] xs ys mean mean_ canonical canonical_ said_ said__ same names = refl
instances-once s formed kinds others [] (j ∷ js) xs ys mean mean_ canonical canonical_ said_ said__ same names = cc
instances-once s formed kinds others (i ∷ is) [] xs ys mean mean_ canonical canonical_ said_ said__ same names = cc
instances-once s formed kinds others (i ∷ is) (j ∷ js) [] ys mean mean_ canonical canonical_ said_ said__ same names = absurd mean
instances-once s formed kinds others (i ∷ is) (j ∷ js) (x ∷ xs) [] mean mean_ canonical canonical_ said_ said__ same names = absurd mean_
instances-once s formed kinds others (i ∷ is) (j ∷ js) (x ∷ xs) (y ∷ ys) mean mean_ canonical canonical_ said_ said__ same names =
    let name : i.0 ≡ j.0 = cc in
    let rest : named is ≡ named js = cc in
    let P : ℕ → Type 0 = λ n. Contains (y ∷ ys) (n, y.1) in
    let typed : SameTyped x.1 y.1 = same x.0 x.1 y.1 (Contains-first x xs) (subst P (mean_.0.0 ∙ sym name ∙ sym mean.0.0) (Contains-first y ys)) in
    let record_ : i.1 ≡ j.1 = record-once s formed kinds others i.1 j.1 x.1 y.1 mean.0.1 mean_.0.1 typed canonical.0 canonical_.0 said_.0 said__.0 in
    let first : i ≡ j = pair-same i.0 j.0 i.1 j.1 name record_ in
    ap (λ (z : Instance). z ∷ is) first
    ∙ ap (λ (zs : List Instance). j ∷ zs) (instances-once s formed kinds others is js xs ys mean.1 mean_.1 canonical.1 canonical_.1 said_.1 said__.1 (λ n a b among among_. same n a b (Contains-later x xs (n, a) among) (Contains-later y ys (n, b) among_)) rest)

-- ---- files

structure-same : (t u : Structure) → t.header ≡ u.header → t.sections ≡ u.sections → t ≡ u
structure-same t u head rest = ap (λ (h : List Part). record { header = h; sections = t.sections }) head ∙ ap (λ (xs : List DataSection). record { header = u.header; sections = xs }) rest

-- canonical files that mean the same are equal
pub file-once : (s : Schema) → IsWellFormed s → (bytes others : List ℕ) (c : Canonical s bytes) (d : Canonical s others) → SameFileMeaning c.meaning d.meaning → bytes ≡ others
file-once s formed bytes others c d same =
    let t : Structure = c.reads.structure in
    let u : Structure = d.reads.structure in
    let each = laid-each_spelled bytes (tokens_of t) c.reads.in_grammar.laid in
    let each_ = laid-each_spelled others (tokens_of u) d.reads.in_grammar.laid in
    let P : List Part → List Part → Type 0 = λ xs ys. AllZip SamePart xs ys in
    let head_same : AllZip SamePart t.header u.header = subst (λ xs. P xs u.header) c.reads.header_is (subst (P c.meaning.header) d.reads.header_is same.header) in
    let head : t.header ≡ u.header = header-once t.header u.header head_same (header-said t each) (header-said u each_) in
    let H : List Heading → List Heading → Type 0 = λ xs ys. HaveSameMembers xs ys in
    let heads_same : HaveSameMembers (headings t.sections) (headings u.sections) = subst (λ xs. H xs (headings u.sections)) c.reads.sections_are (subst (H c.meaning.sections) d.reads.sections_are same.sections) in
    let are : AreHeadings (headings t.sections) = c.reads.in_grammar.is_file.headings_are in
    let heads : headings t.sections ≡ headings u.sections =
    headings-once (headings t.sections) (headings u.sections) are d.reads.in_grammar.is_file.headings_are c.sections_rise d.sections_rise (λ h. (heads_same h).0) (λ h. (heads_same h).1) in
    let Q : List (ℕ × Heading) → List (ℕ × Heading) → Type 0 = λ xs ys. HaveSameMembers xs ys in
    let placed : HaveSameMembers (flat_map names_with_heading t.sections) (flat_map names_with_heading u.sections) =
    subst (λ xs. Q xs (flat_map names_with_heading u.sections)) c.reads.instance_sections_are (subst (Q c.meaning.instance_sections) d.reads.instance_sections_are same.instance_sections) in
    let names = names-by_sections t.sections u.sections (headings-none_twice (headings t.sections) are c.sections_rise) heads placed c.names_rise d.names_rise in
    let kinds = entity_sets_of c.meaning.instances in
    let kinds_ = entity_sets_of d.meaning.instances in
    let dn : meant_names d.meaning.instances ≡ named (instances_in u.sections) = meant-named s kinds_ (instances_in u.sections) d.meaning.instances d.reads.means in
    let none : NoneTwice (meant_names d.meaning.instances) = subst NoneTwice (sym dn) (distinct-none_twice (named (instances_in u.sections)) d.reads.names_differ) in
    let instances : instances_in t.sections ≡ instances_in u.sections =
    instances-once s formed kinds kinds_ (instances_in t.sections) (instances_in u.sections) c.meaning.instances d.meaning.instances c.reads.means d.reads.means c.canonical_records d.canonical_records (instances-said t each) (instances-said u each_)
    (λ n x y among among_.
    let (z, found, alike) = same.onto n x among in
    subst (SameTyped x) (one-meant d.meaning.instances none n z y found among_) alike) (named-same t.sections u.sections names) in
    c.lines ∙ ap (λ (w : Structure). flat_map line (statements w)) (structure-same t u head (sections-once t.sections u.sections heads names instances)) ∙ sym d.lines

-- and equal canonical bytes mean the same
pub canonical-same : (s : Schema) → IsWellFormed s → (a b : List ℕ) (c : Canonical s a) (d : Canonical s b) → a ≡ b → SameFileMeaning c.meaning d.meaning
canonical-same s formed a b c d equal =
    let P : List ℕ → Type 0 = λ bytes. Reads s bytes c.meaning in
    let one : c.meaning ≡ d.meaning = Reads-one s formed b c.meaning d.meaning (subst P equal c.reads) d.reads in
    subst (SameFileMeaning c.meaning) one (SameFileMeaning-reflexive c.meaning)

-- two files mean the same exactly if their canonical files are equal
pub files-same : (s : Schema) → IsWellFormed s → (limits : Limits) (m n : FileMeaning) (a b : List ℕ) → IsCanonicalOf s limits m a → IsCanonicalOf s limits n b → SameFileMeaning m n ↔ (a ≡ b)
files-same s formed limits m n a b is is_ =
    let c : Canonical s a = is.canonical in
    let d : Canonical s b = is_.canonical in (
      λ same. file-once s formed a b c d (SameFileMeaning-transitive c.meaning m d.meaning is.same (SameFileMeaning-transitive m n d.meaning same (SameFileMeaning-symmetric d.meaning n is_.same))),
      λ equal.
          SameFileMeaning-transitive m c.meaning n (SameFileMeaning-symmetric c.meaning m is.same) (SameFileMeaning-transitive c.meaning d.meaning n (canonical-same s formed a b c d equal) is_.same),
    )
