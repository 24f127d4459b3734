-- A statement that is kept is right behind those that were given.
use Rattle.std.proofs.Common.{map, ◌≡◌, ℕ, List, [], ◌∷◌, ◌++◌, inl, inr, refl, sym, ap, subst, ◌∙◌, append-nil}
use Rattle.std.proofs.lemmas.List.{map-append}
use Rattle.std.proofs.lemmas.List.Elements.{Contains-append_right}
use Rattle.std.specs.Prelude.{Contains}
use Rattle.p21_spec_basics.proofs.Members.{Contains-cases, Contains-first, Contains-mapped, Contains-none, Contains-unmapped, Each-member}
use Rattle.p21_spec_basics.proofs.Shuffles.{NoneTwice, distinct-none_twice, texts-none_twice}
use Rattle.p21_spec_basics.specs.Limits.{Limits}
use Rattle.p21_spec_exchange.specs.DataSection.{Heading, named}
use Rattle.p21_spec_exchange.specs.Record.{Record}
use Rattle.p21_spec_exchange.specs.Statement.{Statement, begin, data_start, finish, header, header_start, instance, section, section_end}
use Rattle.p21_spec_file.specs.Meaning.{RecordMeans, Typed}
use Rattle.p21_spec_file.specs.Reference.{EntitySets}
use Rattle.p21_spec_laws.proofs.Offenders.{last-among}
use Rattle.p21_spec_laws.proofs.SaidFiles.{Instance}
use Rattle.p21_spec_laws.proofs.Statements.{instances-append, names-append}
use Rattle.p21_spec_laws.specs.CompleteFile.{Entry, entries_in}
use Rattle.p21_spec_laws.specs.Keeping.{Keeps, Kept}
use Rattle.p21_spec_laws.specs.Taken.{instances_among, names_among, section_names_among}
use Rattle.p21_spec_laws.specs.UnrefusedStatements.{IsFitting, IsFound}
use Rattle.p21_spec_schema.specs.Schema.{Schema}
use Rattle.p21_spec_survey.specs.Rules.{of_schema}
use Rattle.p21_spec_survey.specs.Survey.{IsRight}
use Rattle.p21_stream_sieve.proofs.Sifted.{each-answered}
use Rattle.p21_stream_sieve.specs.Sifting.{AreSifted, HasName, none, passes, refuses}
use Rattle.p21_stream_sieve.specs.declared.sieve.Sieve.{Sieve}
use Rattle.p21_stream_statements.specs.declared.refusal.Refusal.{Refusal}
use Rattle.p21_stream_survey.specs.Judging.{SiftsOfSchema}

-- ---- the last of some that differ

pub last-differs : {X : Type 0} (xs : List X) (y : X) → NoneTwice (xs ++ y ∷ []) → ¬ Contains xs y
last-differs [] y differ among = Contains-none y among
last-differs {X} (x ∷ xs) y differ among = elim (Contains-cases x xs y among) [
  | inl same ↦ differ.0 (subst (λ (z : X). Contains (xs ++ y ∷ []) z) (sym same)
      (Contains-append_right xs (y ∷ []) y (Contains-first y [])))
  | inr later ↦ last-differs xs y differ.1 later
]

-- ---- names of sections

-- an instance that is left out has none
sections-sifted : (s : Schema) (given taken : List Statement) (refusals : List Refusal) → AreSifted s given taken refusals
    → section_names_among given ≡ section_names_among taken
sections-sifted s given taken refusals none = refl
sections-sifted s given taken refusals (passes g t rs st sifted) =
    names-append g (st ∷ []) ∙ ap (λ (ns : List (List ℕ)). ns ++ section_names_among (st ∷ [])) (sections-sifted s g t rs sifted)
    ∙ sym (names-append t (st ∷ []))
sections-sifted s given taken refusals (refuses g t rs n r fault sifted refused) =
    names-append g (instance n r ∷ []) ∙ append-nil (section_names_among g) ∙ sections-sifted s g t rs sifted

-- ---- a statement that is kept

fitting-last : (s : Schema) (limits : Limits) (taken : List Statement) (statement : Statement) (kept : Kept)
    → Keeps s limits (taken ++ statement ∷ []) kept → IsFitting s limits statement
fitting-last s limits taken statement kept keeps =
    Each-member (IsFitting s limits) (taken ++ statement ∷ []) statement keeps.unrefused.fitting (last-among taken statement)

-- a section has another name than those before it
section-differs : (s : Schema) (limits : Limits) (given taken : List Statement) (refusals : List Refusal) (kept : Kept) (name text : List ℕ)
    → AreSifted s given taken refusals → Keeps s limits (taken ++ section (data_start (named name text)) ∷ []) kept
    → ¬ Contains (section_names_among given) name
section-differs s limits given taken refusals kept name text sifted keeps among =
    let line : Statement = section (data_start (named name text)) in
    let differ = subst (λ (ns : List (List ℕ)). NoneTwice ns) (names-append taken (line ∷ []))
    (texts-none_twice (section_names_among (taken ++ line ∷ [])) keeps.unrefused.section_names_differ) in
    last-differs (section_names_among taken) name differ
    (subst (λ (ns : List (List ℕ)). Contains ns name) (sections-sifted s given taken refusals sifted) among)

-- an instance has another name than those that are taken
name-differs : (s : Schema) (limits : Limits) (taken : List Statement) (kept : Kept) (n : ℕ) (r : Record)
    → Keeps s limits (taken ++ instance n r ∷ []) kept → ¬ Contains (names_among taken) n
name-differs s limits taken kept n r keeps =
    let names : names_among (taken ++ instance n r ∷ []) ≡ names_among taken ++ n ∷ [] =
    ap (λ (is : List Instance). map (λ (i : Instance). i.0) is) (instances-append taken (instance n r ∷ []))
    ∙ map-append (λ (i : Instance). i.0) (instances_among taken) ((n, r) ∷ []) in
    last-differs (names_among taken) n (subst (λ (ns : List ℕ). NoneTwice ns) names
    (distinct-none_twice (names_among (taken ++ instance n r ∷ [])) keeps.unrefused.names_differ))

-- its record means something
means-last : (s : Schema) (limits : Limits) (taken : List Statement) (kept : Kept) (n : ℕ) (r : Record)
    → Keeps s limits (taken ++ instance n r ∷ []) kept → (kinds : EntitySets) × (meaning : Typed) × RecordMeans s kinds r meaning
means-last s limits taken kept n r keeps =
    let entries : List Entry = entries_in keeps.groups in
    let among : Contains (instances_among (taken ++ instance n r ∷ [])) (n, r) =
    subst (λ (is : List Instance). Contains is (n, r)) (sym (instances-append taken (instance n r ∷ [])))
    (Contains-append_right (instances_among taken) ((n, r) ∷ []) (n, r) (Contains-first (n, r) [])) in
    let (e, at, is) = Contains-unmapped (λ (entry : Entry). (entry.name, entry.record_)) entries (n, r)
    (subst (λ (is : List Instance). Contains is (n, r)) keeps.unrefused.instances_are among) in
    let found = Each-member (IsFound s limits) entries e keeps.unrefused.found at in (
      found.meant.kinds,
      e.meaning,
      subst (λ (x : Record). RecordMeans s found.meant.kinds x e.meaning) (ap (λ (i : Instance). i.1) is)
          found.meant.means,
    )

-- no instance has its name, of those that are taken and of those that are refused
name-first : (s : Schema) (limits : Limits) (given taken : List Statement) (sieve : Sieve) (kept : Kept) (n : ℕ) (r : Record)
    → SiftsOfSchema s limits given taken sieve → Keeps s limits (taken ++ instance n r ∷ []) kept → ¬ HasName sieve.names n
    → ¬ Contains (names_among given) n
name-first s limits given taken sieve kept n r sifts keeps fresh among =
    let (i, at, is) = Contains-unmapped (λ (j : Instance). j.0) (instances_among given) n among in
    elim (each-answered s given taken sieve.refusals.items sifts.sifted i at) [
      | inl in_taken ↦ name-differs s limits taken kept n r keeps
          (subst (λ (m : ℕ). Contains (names_among taken) m) is
          (Contains-mapped (λ (j : Instance). j.0) (instances_among taken) i in_taken))
      | inr refused ↦ fresh (subst (HasName sieve.names) is ((sifts.names i.0).1 refused))
    ]

-- what is kept is right, where none that was refused has its name
pub right-behind : (s : Schema) (limits : Limits) (given taken : List Statement) (sieve : Sieve) (statement : Statement) (kept : Kept)
    → SiftsOfSchema s limits given taken sieve → Keeps s limits (taken ++ statement ∷ []) kept
    → ((n : ℕ) (r : Record) → statement ≡ instance n r → ¬ HasName sieve.names n) → IsRight (of_schema s) given statement
right-behind s limits given taken sieve (instance n r) kept sifts keeps fresh =
    (means-last s limits taken kept n r keeps, name-first s limits given taken sieve kept n r sifts keeps (fresh n r refl))
right-behind s limits given taken sieve (header part) kept sifts keeps fresh = (fitting-last s limits taken (header part) kept keeps).1
right-behind s limits given taken sieve (section (data_start heading)) kept sifts keeps fresh = (
  (fitting-last s limits taken (section (data_start heading)) kept keeps).1,
  λ name text is. section-differs s limits given taken sieve.refusals.items kept name text sifts.sifted
      (subst (λ (h : Heading). Keeps s limits (taken ++ section (data_start h) ∷ []) kept) is keeps),
)
right-behind s limits given taken sieve (section begin) kept sifts keeps fresh = tt
right-behind s limits given taken sieve (section header_start) kept sifts keeps fresh = tt
right-behind s limits given taken sieve (section section_end) kept sifts keeps fresh = tt
right-behind s limits given taken sieve (section finish) kept sifts keeps fresh = tt
