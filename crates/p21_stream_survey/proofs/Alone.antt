-- What is said of a statement by itself, by what keeps it.
use Rattle.std.proofs.Common.{◌≡◌, ℕ, List, [], ◌∷◌, ◌++◌, Result, Ok, Err, inl, inr, refl, sym, ap, subst, ◌∙◌}
use Rattle.std.proofs.lemmas.List.{append-nil, map-append}
use Rattle.std.proofs.lemmas.List.Elements.{Contains-append_cases, Contains-append_left, Contains-append_right}
use Rattle.std.specs.List.{Contains}
use Rattle.p21_spec_basics.proofs.Members.{Contains-first, Each-member}
use Rattle.p21_spec_basics.proofs.Shuffles.{NoneTwice, distinct-none_twice, texts-none_twice}
use Rattle.p21_spec_basics.specs.Limits.{Limits}
use Rattle.p21_spec_exchange.specs.DataSection.{Heading, named, section_names, unnamed}
use Rattle.p21_spec_exchange.specs.Header.{IsFileSchema}
use Rattle.p21_spec_exchange.specs.Record.{Part, Record}
use Rattle.p21_spec_exchange.specs.Statement.{Statement, begin, data_start, finish, header, header_start, instance, section, section_end}
use Rattle.p21_spec_exchange.specs.Statement.{SectionLine}
use Rattle.p21_spec_laws.proofs.Among.{parts-append}
use Rattle.p21_spec_laws.proofs.Statements.{instances-append, names-append}
use Rattle.p21_spec_laws.specs.Among.{parts_among}
use Rattle.p21_spec_laws.specs.Taken.{headings_among, instances_among, names_among, section_names_among}
use Rattle.p21_spec_schema.proofs.SchemaNames.{one_schema_name}
use Rattle.p21_spec_schema.specs.SchemaName.{NamesSchema}
use Rattle.p21_spec_survey.specs.Rules.{IsSchemaText, NameSchema, NamesSchemaOf, by_itself}
use Rattle.p21_spec_survey.specs.Survey.{IsRight}
use Rattle.p21_stream_statements.specs.declared.fault.Fault.{Fault}
use Rattle.p21_stream_statements.specs.declared.fault.Fault.TheVariants.{DuplicateName}
use Rattle.p21_stream_survey.proofs.Readings.{headings-append, names-behind}
use Rattle.p21_stream_survey.proofs.Rightness.{last-differs}
use Rattle.p21_stream_survey.specs.Judging.{JudgeGives, SiftsAlone, said_of}
use Rattle.p21_stream_survey.specs.Sifted.{alone}
use Rattle.p21_stream_survey.specs.declared.judging.Judgement.TheVariants.{Right, Wrong}
use Rattle.p21_stream_syntax.proofs.RefusedAlone.{schema-named}
use Rattle.p21_stream_syntax.proofs.Taking.{part-stands, stands-part}
use Rattle.p21_stream_syntax.specs.Given.{IsOfSchema, Keeps, Kept, Refuses, Takes}
use Rattle.std.specs.Prelude.{map}
use Rattle.std.specs.BTreeSet.{BTreeSet}

-- ---- what the statements say by themselves

-- a schema that is named among some statements is named among those with the same header records
named-among : (xs ys : List Statement) (schema : List ℕ) → parts_among xs ≡ parts_among ys → NameSchema xs schema → NameSchema ys schema
named-among xs ys schema same (part, chars, among, is, names) = (
  part,
  chars,
  part-stands ys part (subst (λ (ps : List Part). Contains ps part) same (stands-part xs part among)),
  is,
  names,
)

-- no header record is among others
no-parts : (given : List Statement) (st : Statement) → parts_among (st ∷ []) ≡ [] → parts_among (given ++ st ∷ []) ≡ parts_among given
no-parts given st none = parts-append given (st ∷ []) ∙ (ap (λ (ps : List Part). parts_among given ++ ps) none ∙ append-nil (parts_among given))

last-there : {X : Type 0} (xs : List X) (x : X) → Contains (xs ++ x ∷ []) x
last-there xs x = Contains-append_right xs (x ∷ []) x (Contains-first x [])

module _ (given taken : List Statement) (old new : Kept) (sifts : SiftsAlone given taken old) where
  -- a FILE_SCHEMA
  schema-right : (part : Part) (chars : List ℕ) → Keeps (taken ++ header part ∷ []) new → IsFileSchema part chars
      → IsSchemaText by_itself given chars
  schema-right part chars keeps is =
      let all : List Statement = taken ++ header part ∷ [] in
      let (begins, names) = keeps.schema.each_names part chars (stands-part all part (last-there taken (header part))) is in (
        begins,
        λ schema before.
            let (p, cs, among, is_schema, names_own) = named-among given taken schema sifts.parts_are before in
            let (_, named_) = keeps.schema.each_names p cs
            (stands-part all p (Contains-append_left taken (header part ∷ []) (header p) among)) is_schema in
            subst (λ (s : List ℕ). NamesSchema chars s) (sym (one_schema_name cs schema new.schema names_own named_)) names,
      )

  -- a section with a name is of the schema
  section-of : (heading : Heading) → Keeps (taken ++ section (data_start heading) ∷ []) new → NamesSchemaOf given heading
  section-of unnamed keeps = tt
  section-of (named name text) keeps =
      let line : Statement = section (data_start (named name text)) in
      let own = Each-member (IsOfSchema new.schema) (headings_among (taken ++ line ∷ [])) (named name text) keeps.sections.of_schema
      (subst (λ (hs : List Heading). Contains hs (named name text)) (sym (headings-append taken (line ∷ [])))
      (last-there (headings_among taken) (named name text))) in
      elim (schema-named (taken ++ line ∷ []) new.schema keeps.schema) [
        | inl empty ↦ absurd (own.0 empty)
        | inr found ↦ (
          new.schema,
          named-among (taken ++ line ∷ []) given new.schema (no-parts taken line refl ∙ sym sifts.parts_are) found,
          own.1,
        )
      ]

  -- and its name is that of no other one
  section-alone : (name text : List ℕ) → Keeps (taken ++ section (data_start (named name text)) ∷ []) new
      → ¬ Contains (section_names_among given) name
  section-alone name text keeps among =
      let line : Statement = section (data_start (named name text)) in
      last-differs (section_names_among taken) name
      (subst (λ (ns : List (List ℕ)). NoneTwice ns) (names-append taken (line ∷ []))
      (texts-none_twice (section_names_among (taken ++ line ∷ [])) keeps.sections.names_differ))
      (subst (λ (hs : List Heading). Contains (section_names hs) name) sifts.headings_are among)

  -- nor is that of an instance
  instance-alone : (n : ℕ) (r : Record) → Keeps (taken ++ instance n r ∷ []) new → ¬ Contains (names_among given) n
  instance-alone n r keeps among =
      last-differs (names_among taken) n
      (subst (λ (ns : List ℕ). NoneTwice ns) (names-behind taken n r)
      (distinct-none_twice (names_among (taken ++ instance n r ∷ [])) keeps.instances.names_differ))
      ((sifts.named n).0 among)

  right-alone : (st : Statement) → Keeps (taken ++ st ∷ []) new → IsRight by_itself given st
  right-alone (instance n r) keeps = (tt, instance-alone n r keeps)
  right-alone (header part) keeps = λ chars is. schema-right part chars keeps is
  right-alone (section (data_start heading)) keeps = (
    section-of heading keeps,
    λ name text is. section-alone name text (subst (λ (h : Heading). Keeps (taken ++ section (data_start h) ∷ []) new) is keeps),
  )
  right-alone (section begin) keeps = tt
  right-alone (section header_start) keeps = tt
  right-alone (section section_end) keeps = tt
  right-alone (section finish) keeps = tt

  -- ---- one statement more

  parts-on : (st : Statement) → parts_among (given ++ st ∷ []) ≡ parts_among (taken ++ st ∷ [])
  parts-on st = parts-append given (st ∷ [])
      ∙ (ap (λ (ps : List Part). ps ++ parts_among (st ∷ [])) sifts.parts_are ∙ sym (parts-append taken (st ∷ [])))

  headings-on : (st : Statement) → headings_among (given ++ st ∷ []) ≡ headings_among (taken ++ st ∷ [])
  headings-on st = headings-append given (st ∷ [])
      ∙ (ap (λ (hs : List Heading). hs ++ headings_among (st ∷ [])) sifts.headings_are ∙ sym (headings-append taken (st ∷ [])))

  names-split : (sts : List Statement) (st : Statement) → names_among (sts ++ st ∷ []) ≡ names_among sts ++ names_among (st ∷ [])
  names-split sts st =
      ap (λ (is : List (ℕ × Record)). map (λ (i : ℕ × Record). i.0) is) (instances-append sts (st ∷ []))
      ∙ map-append (λ (i : ℕ × Record). i.0) (instances_among sts) (instances_among (st ∷ []))

  named-on : (xs ys : List Statement) (st : Statement) (n : ℕ) → (Contains (names_among xs) n → Contains (names_among ys) n)
      → Contains (names_among (xs ++ st ∷ [])) n → Contains (names_among (ys ++ st ∷ [])) n
  named-on xs ys st n before at =
      subst (λ (ns : List ℕ). Contains ns n) (sym (names-split ys st))
      (elim (Contains-append_cases (names_among xs) (names_among (st ∷ [])) n
      (subst (λ (ns : List ℕ). Contains ns n) (names-split xs st) at)) [
        | inl among ↦ Contains-append_left (names_among ys) (names_among (st ∷ [])) n (before among)
        | inr own ↦ Contains-append_right (names_among ys) (names_among (st ∷ [])) n own
      ])

  sifts-on : (st : Statement) → Keeps (taken ++ st ∷ []) new → SiftsAlone (given ++ st ∷ []) (taken ++ st ∷ []) new
  sifts-on st keeps = record {
    keeps = keeps;
    parts_are = parts-on st;
    headings_are = headings-on st;
    named = λ n. (named-on given taken st n (sifts.named n).0, named-on taken given st n (sifts.named n).1);
  }

-- ---- what is said

pub right-judges : (limits : Limits) (old new : Kept) (names : BTreeSet ℕ) (st : Statement) → Takes old st (Ok tt) new
    → JudgeGives by_itself limits (alone old names) st (Ok Right) (alone new names)
right-judges limits old new names st gives = λ given taken sifts.
    let keeps = gives taken sifts.keeps in
    record { sifts = sifts-on given taken old new sifts st keeps; right = right-alone given taken old new sifts st keeps; names = refl }

pub section-judges : (limits : Limits) (old new : Kept) (names : BTreeSet ℕ) (line : SectionLine) (result : Result (Unit {0}) Fault)
    → Takes old (section line) result new → Refuses old (section line) result
    → JudgeGives by_itself limits (alone old names) (section line) (said_of result) (alone new names)
section-judges limits old new names line (Ok done) gives refuses = right-judges limits old new names (section line) gives
section-judges limits old new names line (Err fault) gives refuses = λ other given taken sifts. record {
  offends = refuses other taken sifts.keeps;
  by_length = λ n r is. (let clash : section line ≡ instance n r = is in cc);
}

pub header-judges : (limits : Limits) (old new : Kept) (names : BTreeSet ℕ) (part : Part) (result : Result (Unit {0}) Fault)
    → Takes old (header part) result new → Refuses old (header part) result
    → JudgeGives by_itself limits (alone old names) (header part) (said_of result) (alone new names)
header-judges limits old new names part (Ok done) gives refuses = right-judges limits old new names (header part) gives
header-judges limits old new names part (Err fault) gives refuses = λ other given taken sifts. record {
  offends = refuses other taken sifts.keeps;
  by_length = λ n r is. (let clash : header part ≡ instance n r = is in cc);
}

-- an instance that has the name of one before it
pub again-alone : (limits : Limits) (old : Kept) (names : BTreeSet ℕ) (n : ℕ) (r : Record) → Contains old.names n
    → JudgeGives by_itself limits (alone old names) (instance n r) (Ok (Wrong n DuplicateName)) (alone old names)
again-alone limits old names n r had = record {
  record_ = r;
  statement_is = refl;
  same = refl;
  kind = tt;
  refused = λ given taken sifts. (refl, (sifts.named n).1 ((sifts.keeps.instances.names_are n).0 had));
}

-- no other one is refused
pub never-refused : (limits : Limits) (old new : Kept) (names : BTreeSet ℕ) (n : ℕ) (r : Record) (fault : Fault) → ¬ Contains old.names n
    → Refuses old (instance n r) (Err fault) → JudgeGives by_itself limits (alone old names) (instance n r) (Err fault) (alone new names)
never-refused limits old new names n r fault fresh refuses = λ other given taken sifts.
    absurd (fresh ((sifts.keeps.instances.names_are n).1 (refuses other taken sifts.keeps).1))
