-- What each statement does to what is kept.
use Rattle.std.proofs.Common.{◌≡◌, ◌≢◌, ◌⊎◌, ◌↔◌, ◌+◌, ◌∙◌, ℕ, List, [], ◌∷◌, ◌++◌, Contains, Result, Ok, Err, length, length-append, map, append-nil, ap, arith, inl, inr, refl, subst, sym}
use Rattle.std.proofs.lemmas.Grind.{flat_map-append}
use Rattle.std.proofs.lemmas.List.{map-append}
use Rattle.std.proofs.lemmas.List.Elements.{Contains-append_cases, Contains-append_left, Contains-append_right}
use Rattle.std.specs.List.{IsDistinct, AllByRecursion as Each}
use Rattle.std.specs.Str.{bytes_eq}
use Rattle.p21_grammar.specs.Statements.{line_of}
use Rattle.p21_grammar.specs.declared.event.Line.{Line}
use Rattle.p21_grammar.specs.declared.event.Line.TheVariants.{Begin, DataStart, Finish, HeaderStart, SectionEnd}
use Rattle.p21_spec_basics.proofs.Members.{Contains-cases, Contains-first, Contains-later, Contains-none, Each-append, Each-member, Each-weaker}
use Rattle.p21_spec_basics.proofs.Shuffles.{NoneTwice, distinct-none_twice, none_twice-distinct, none_twice-texts, texts-none_twice}
use Rattle.p21_spec_exchange.specs.DataSection.{Heading, heading_names, named, unnamed, section_names}
use Rattle.p21_spec_exchange.specs.Header.{IsFileSchema}
use Rattle.p21_spec_exchange.specs.Record.{Part, Record}
use Rattle.p21_spec_exchange.specs.Statement.{SectionLine, Statement, begin, data_start, finish, header, header_start, instance, section, section_end}
use Rattle.p21_spec_file.specs.Reference.{record_references}
use Rattle.p21_spec_laws.proofs.Among.{parts-append}
use Rattle.p21_spec_laws.proofs.Growing.{NoneTwice-more}
use Rattle.p21_spec_laws.proofs.Statements.{instances-append}
use Rattle.p21_spec_laws.specs.Among.{parts_among}
use Rattle.p21_spec_laws.specs.Keeping.{headings_behind}
use Rattle.p21_spec_laws.specs.Taken.{headings_among, instances_among}
use Rattle.p21_spec_schema.specs.Express.{IsIdentifierByte, upper}
use Rattle.p21_spec_schema.specs.SchemaName.{NamesSchema}
use Rattle.p21_spec_syntax.proofs.IllFormed.{early-section, name-again, no-name, other-name, other-section, section-again}
use Rattle.p21_spec_syntax.specs.WellFormedFile.{BeginsWithName, names_of}
use Rattle.p21_stream_statements.specs.declared.fault.Fault.{Fault}
use Rattle.p21_stream_statements.specs.declared.fault.Fault.TheVariants.{DuplicateName, SchemaName, SectionTwice}
use Rattle.p21_stream_syntax.specs.Given.{AreInstances, AreSections, IsOfSchema, IsSchemaOf, Keeps, Kept, Takes, TakesPart, TakesSchema}
use Rattle.p21_stream_syntax.specs.Waiting.{Adds, Claim, Drops, claims_among, claims_of}
use Rattle.p21_syntax_words.proofs.Counting.{none-counted}
use Rattle.p21_syntax_words.specs.KeywordCounts.{AreCounts, keywords_of, record_keywords}

-- ---- nothing taken

pub keeps-nothing : Keeps [] (record { header = []; schema = []; sections = []; names = []; waiting = []; counts = [] })
unfolding IsDistinct
keeps-nothing = record {
  header_is = refl;
  schema = record { each_names = λ part chars among is. absurd (Contains-none part among); one_names = inl refl };
  sections_are = refl;
  sections = record { of_schema = tt; names_differ = tt };
  instances = record {
    names_are = λ n. (λ among. among, λ among. among);
    as_many = refl;
    names_differ = tt;
    are_references =
        tt;
    others_given = tt;
  };
  keywords = none-counted;
}

-- ---- headings among statements

headings-append : (xs ys : List Statement) → headings_among (xs ++ ys) ≡ headings_among xs ++ headings_among ys
headings-append [] ys = refl
headings-append (section (data_start h) ∷ xs) ys = ap (λ (hs : List Heading). h ∷ hs) (headings-append xs ys)
headings-append (other ∷ xs) ys = headings-append xs ys

-- ---- header records among statements

pub part-stands : (sts : List Statement) (p : Part) → Contains (parts_among sts) p → Contains sts (header p)
part-stands [] p among = absurd (Contains-none p among)
part-stands (header q ∷ sts) p among = elim (Contains-cases q (parts_among sts) p among) [
  | inl same ↦ subst (λ (x : Part). Contains (header q ∷ sts) (header x)) same (Contains-first (header q) sts)
  | inr far ↦ Contains-later (header q) sts (header p) (part-stands sts p far)
]
part-stands (section line ∷ sts) p among = Contains-later (section line) sts (header p) (part-stands sts p among)
part-stands (instance n r ∷ sts) p among = Contains-later (instance n r) sts (header p) (part-stands sts p among)

pub stands-part : (sts : List Statement) (p : Part) → Contains sts (header p) → Contains (parts_among sts) p
stands-part [] p among = absurd (Contains-none (header p) among)
stands-part (header q ∷ sts) p among = elim (Contains-cases (header q) sts (header p) among) [
  | inl same ↦ (let own : q ≡ p = cc in subst (λ (x : Part). Contains (q ∷ parts_among sts) x) own (Contains-first q (parts_among sts)))
  | inr far ↦ Contains-later q (parts_among sts) p (stands-part sts p far)
]
stands-part (section line ∷ sts) p among = elim (Contains-cases (section line) sts (header p) among)
    [ inl same ↦ cc | inr far ↦ stands-part sts p far ]
stands-part (instance n r ∷ sts) p among = elim (Contains-cases (instance n r) sts (header p) among)
    [ inl same ↦ cc | inr far ↦ stands-part sts p far ]

pub last-stands : (given : List Statement) (st : Statement) → Contains (given ++ st ∷ []) st
last-stands given st = Contains-append_right given (st ∷ []) st (Contains-first st [])

-- a text that begins with a name doesn't name the empty one
pub names-some : (chars : List ℕ) → BeginsWithName chars → NamesSchema chars [] → ⊥
names-some [] begins names = begins
names-some (c ∷ chars) begins names = none names.prefix names.rest names.chars_are names.longest names.name_is
  where
    none : (prefix rest : List ℕ) → c ∷ chars ≡ prefix ++ rest
        → ((char : ℕ) (more : List ℕ) → rest ≡ char ∷ more → IsIdentifierByte char → ⊥) → map upper prefix ≡ [] → ⊥
    none [] rest same stops name = stops c chars (sym same) (inl begins)
    none (p ∷ prefix) rest same stops name = cc

-- ---- section lines

-- all that isn't of sections stays
keeps-section : (given : List Statement) (old : Kept) (line : SectionLine) (sections : List Heading) → Keeps given old
    → headings_among (given ++ section line ∷ []) ≡ sections → AreSections old.schema sections
    → Keeps (given ++ section line ∷ []) (record old { sections = sections })
keeps-section given old line sections keeps same are =
    let parts : parts_among given ≡ parts_among (given ++ section line ∷ []) =
    sym (parts-append given (section line ∷ []) ∙ append-nil (parts_among given)) in
    let instances : instances_among given ≡ instances_among (given ++ section line ∷ []) =
    sym (instances-append given (section line ∷ []) ∙ append-nil (instances_among given)) in
    record {
      header_is = keeps.header_is ∙ parts;
      schema = subst (λ (ps : List Part). IsSchemaOf ps old.schema) parts keeps.schema;
      sections_are = sym same;
      sections = subst (AreSections old.schema) (sym same) are;
      instances = subst (λ (is : List (ℕ × Record)). AreInstances is old.names old.waiting) instances keeps.instances;
      keywords = subst (λ (is : List (ℕ × Record)). AreCounts (keywords_of is) old.counts) instances keeps.keywords;
    }

-- a line that begins no section
took-other : (old : Kept) (line : SectionLine) → headings_among (section line ∷ []) ≡ [] → (given : List Statement) → Keeps given old
    → Keeps (given ++ section line ∷ []) old
took-other old line none given keeps =
    let same : headings_among (given ++ section line ∷ []) ≡ old.sections = headings-append given (section line ∷ [])
    ∙ ap (λ (hs : List Heading). headings_among given ++ hs) none ∙ append-nil (headings_among given) ∙ sym keeps.sections_are in
    keeps-section given old line old.sections keeps same (subst (AreSections old.schema) (sym keeps.sections_are) keeps.sections)

-- a section without a name
took-unnamed : (old : Kept) (given : List Statement) → Keeps given old
    → Keeps (given ++ section (data_start unnamed) ∷ []) (record old { sections = old.sections ++ unnamed ∷ [] })
took-unnamed old given keeps =
    let same : headings_among (given ++ section (data_start unnamed) ∷ []) ≡ old.sections ++ unnamed ∷ [] =
    headings-append given (section (data_start unnamed) ∷ [])
    ∙ ap (λ (hs : List Heading). hs ++ unnamed ∷ []) (sym keeps.sections_are) in
    let are : AreSections old.schema old.sections = subst (AreSections old.schema) (sym keeps.sections_are) keeps.sections in
    let names : section_names old.sections ≡ section_names (old.sections ++ unnamed ∷ []) =
    sym (flat_map-append heading_names old.sections (unnamed ∷ []) ∙ append-nil (section_names old.sections)) in
    keeps-section given old (data_start unnamed) (old.sections ++ unnamed ∷ []) keeps same
    (record {
      of_schema = Each-append (IsOfSchema old.schema) old.sections (unnamed ∷ []) are.of_schema (tt, tt);
      names_differ =
          subst (IsDistinct bytes_eq) names are.names_differ;
    })

pub took-line : (old : Kept) (l : Line) → Takes old (section (line_of l)) (Ok tt)
    (record old { sections = headings_behind old.sections (line_of l) })
took-line old Begin given keeps = took-other old begin refl given keeps
took-line old HeaderStart given keeps = took-other old header_start refl given keeps
took-line old SectionEnd given keeps = took-other old section_end refl given keeps
took-line old DataStart given keeps = took-unnamed old given keeps
took-line old Finish given keeps = took-other old finish refl given keeps

-- a section with a name
pub took-heading : (old : Kept) (name text : List ℕ) → old.schema ≢ [] → NamesSchema text old.schema
    → ¬ Contains (section_names old.sections) name → Takes old (section (data_start (named name text))) (Ok tt)
    (record old { sections = old.sections ++ named name text ∷ [] })
took-heading old name text some names another given keeps =
    let heading : Heading = named name text in
    let same : headings_among (given ++ section (data_start heading) ∷ []) ≡ old.sections ++ heading ∷ [] =
    headings-append given (section (data_start heading) ∷ [])
    ∙ ap (λ (hs : List Heading). hs ++ heading ∷ []) (sym keeps.sections_are) in
    let are : AreSections old.schema old.sections = subst (AreSections old.schema) (sym keeps.sections_are) keeps.sections in
    let behind : section_names old.sections ++ name ∷ [] ≡ section_names (old.sections ++ heading ∷ []) =
    sym (flat_map-append heading_names old.sections (heading ∷ [])) in
    keeps-section given old (data_start heading) (old.sections ++ heading ∷ []) keeps same
    (record {
      of_schema = Each-append (IsOfSchema old.schema) old.sections (heading ∷ []) are.of_schema ((some, names), tt);
      names_differ = none_twice-texts (section_names (old.sections ++ heading ∷ []))
          (subst NoneTwice behind (NoneTwice-more (section_names old.sections) name
          (texts-none_twice (section_names old.sections) are.names_differ) another));
    })

-- it names another schema, or stands in front of the FILE_SCHEMA
pub other-heading : (old new : Kept) (name text : List ℕ) → ¬ ((old.schema ≢ []) × NamesSchema text old.schema)
    → Takes old (section (data_start (named name text))) (Err SchemaName) new
other-heading old new name text why other given keeps limits bytes taken =
    let heading : Heading = named name text in
    let each = keeps.schema.each_names in
    elim keeps.schema.one_names [
      | inl none ↦ early-section limits bytes given heading taken (λ part chars among is.
          let (begins, names) = each part chars (stands-part given part among) is in
          names-some chars begins (subst (NamesSchema chars) none names))
      | inr found ↦ (
          let (part, chars, among, is, names) = found in
          let begins = (each part chars among is).0 in
          other-section limits bytes (given ++ section (data_start heading) ∷ []) taken part chars old.schema
          (Contains-append_left given (section (data_start heading) ∷ []) (header part) (part-stands given part among)) is names heading
          (last-stands given (section (data_start heading)))
          (λ own. why ((λ empty. names-some chars begins (subst (NamesSchema chars) empty names)), own)))
    ]

-- its name is that of one before it
pub heading-again : (old new : Kept) (name text : List ℕ) → Contains (section_names old.sections) name
    → Takes old (section (data_start (named name text))) (Err SectionTwice) new
heading-again old new name text had other given keeps limits bytes taken =
    section-again limits bytes given name text taken (subst (λ (hs : List Heading). Contains (section_names hs) name) keeps.sections_are
    had)

-- ---- header records

-- all that isn't of the header stays
keeps-header : (given : List Statement) (old : Kept) (part : Part) (schema : List ℕ) → Keeps given old
    → IsSchemaOf (parts_among given ++ part ∷ []) schema → AreSections schema (headings_among given)
    → Keeps (given ++ header part ∷ []) (record old { header = old.header ++ part ∷ []; schema = schema })
keeps-header given old part schema keeps is are =
    let parts : parts_among given ++ part ∷ [] ≡ parts_among (given ++ header part ∷ []) = sym (parts-append given (header part ∷ [])) in
    let headings : headings_among given ≡ headings_among (given ++ header part ∷ []) =
    sym (headings-append given (header part ∷ []) ∙ append-nil (headings_among given)) in
    let instances : instances_among given ≡ instances_among (given ++ header part ∷ []) =
    sym (instances-append given (header part ∷ []) ∙ append-nil (instances_among given)) in
    record {
      header_is = ap (λ (ps : List Part). ps ++ part ∷ []) keeps.header_is ∙ parts;
      schema = subst (λ (ps : List Part). IsSchemaOf ps schema) parts is;
      sections_are = keeps.sections_are ∙ headings;
      sections = subst (AreSections schema) headings are;
      instances = subst (λ (is : List (ℕ × Record)). AreInstances is old.names old.waiting) instances keeps.instances;
      keywords = subst (λ (is : List (ℕ × Record)). AreCounts (keywords_of is) old.counts) instances keeps.keywords;
    }

took-header : (old : Kept) (part : Part) → ((chars : List ℕ) → IsFileSchema part chars → ⊥)
    → Takes old (header part) (Ok tt) (record old { header = old.header ++ part ∷ [] })
took-header old part other given keeps =
    keeps-header given old part old.schema keeps
    (record {
      each_names = λ p chars among is. elim (Contains-append_cases (parts_among given) (part ∷ []) p among) [
        | inl before ↦ keeps.schema.each_names p chars before is
        | inr last ↦ elim (Contains-cases part [] p last) [
          | inl same ↦ absurd
              (other chars (subst (λ (x : Part). IsFileSchema x chars) (sym same) is))
          | inr none ↦ absurd (Contains-none p none)
        ]
      ];
      one_names = elim keeps.schema.one_names [
        | inl none ↦ inl none
        | inr found ↦
            (let (p, chars, among, is, names) = found in inr (
              p,
              chars,
              Contains-append_left (parts_among given) (part ∷ []) p among,
              is,
              names,
            ))
      ];
    })
    keeps.sections

-- a FILE_SCHEMA has one text
one-text : (part : Part) (a b : List ℕ) → IsFileSchema part a → IsFileSchema part b → a ≡ b
one-text part a b is is_ = let texts = sym is.1 ∙ is_.1 in cc

-- sections are none with a name where no schema is known yet
of-any_schema : (schema : List ℕ) (h : Heading) → IsOfSchema [] h → IsOfSchema schema h
of-any_schema schema unnamed of = tt
of-any_schema schema (named name text) of = absurd (of.0 refl)

took-schema : (old : Kept) (part : Part) (chars schema : List ℕ) → IsFileSchema part chars → BeginsWithName chars → NamesSchema chars schema
    → (old.schema ≡ []) ⊎ (schema ≡ old.schema) → Takes old (header part) (Ok tt)
    (record old { header = old.header ++ part ∷ []; schema = schema })
took-schema old part chars schema file_schema begins names way given keeps =
    let before : (p : Part) (cs : List ℕ) → Contains (parts_among given) p → IsFileSchema p cs → BeginsWithName cs × NamesSchema cs schema =
    λ p cs among is.
    let (first, own) = keeps.schema.each_names p cs among is in (
      first,
      elim way [
        | inl none ↦ absurd (names-some cs first (subst (NamesSchema cs) none own))
        | inr same ↦ subst (NamesSchema cs)
            (sym same) own
      ],
    ) in
    let are : AreSections schema (headings_among given) = record {
      of_schema = elim way [
        | inl none ↦ Each-weaker (IsOfSchema []) (IsOfSchema schema) (of-any_schema schema) (headings_among given)
            (subst (λ (s : List ℕ). Each (IsOfSchema s) (headings_among given)) none keeps.sections.of_schema)
        | inr same ↦ subst (λ (s : List ℕ). Each (IsOfSchema s) (headings_among given)) (sym same) keeps.sections.of_schema
      ];
      names_differ = keeps.sections.names_differ;
    } in
    keeps-header given old part schema keeps
    (record {
      each_names = λ p cs among is. elim (Contains-append_cases (parts_among given) (part ∷ []) p among) [
        | inl at ↦ before p cs at is
        | inr last ↦ elim (Contains-cases part [] p last) [
          | inl same ↦ (let text : chars ≡ cs = one-text part chars cs file_schema
              (subst (λ (x : Part). IsFileSchema x cs) (sym same) is) in
              (subst BeginsWithName text begins, subst (λ (c : List ℕ). NamesSchema c schema) text names))
          | inr none ↦ absurd (Contains-none p none)
        ]
      ];
      one_names = inr (
        part,
        chars,
        Contains-append_right (parts_among given) (part ∷ []) part (Contains-first part []),
        file_schema,
        names,
      );
    })
    are

-- it begins with no name, or names another schema than one before it
other-schema : (old new : Kept) (part : Part) (chars schema : List ℕ) (fault : Fault) → IsFileSchema part chars
    → TakesSchema old.schema chars (Err fault) schema → Takes old (header part) (Err fault) new
other-schema old new part chars schema fault file_schema why other given keeps limits bytes taken =
    let all : List Statement = given ++ header part ∷ [] in
    elim (why other) [
      | inl none ↦ no-name limits bytes all taken part chars (last-stands given (header part)) file_schema none
      | inr another ↦ elim keeps.schema.one_names [
        | inl empty ↦ absurd (another.0 empty)
        | inr found ↦ (
            let (p, cs, among, is, names) = found in
            other-name limits bytes all taken p part cs chars old.schema
            (Contains-append_left given (header part ∷ []) (header p) (part-stands given p among)) is names
            (last-stands given (header part)) file_schema another.1)
      ]
    ]

pub takes-text : (old : List ℕ) (part : Part) (chars : List ℕ) (result : Result (Unit {0}) Fault) (new : List ℕ) → IsFileSchema part chars
    → TakesSchema old chars result new → TakesPart old part result new
takes-text old part chars (Ok done) new is gives = inl (chars, is, gives)
takes-text old part chars (Err fault) new is gives = (chars, is, gives)

-- a header record, by what it gives of the schema
pub took-part : (old : Kept) (part : Part) (schema : List ℕ) → TakesPart old.schema part (Ok tt) schema
    → Takes old (header part) (Ok tt) (record old { header = old.header ++ part ∷ []; schema = schema })
took-part old part schema gives = elim gives [
  | inl (chars, is, named_) ↦ took-schema old part chars schema is named_.0 named_.1 named_.2
  | inr (none, same) ↦ subst (λ (s : List ℕ). Takes old (header part) (Ok tt) (record old { header = old.header ++ part ∷ []; schema = s }))
      (sym same) (took-header old part none)
]

pub refused-part : (old new : Kept) (part : Part) (schema : List ℕ) (fault : Fault) → TakesPart old.schema part (Err fault) schema
    → Takes old (header part) (Err fault) new
refused-part old new part schema fault gives = other-schema old new part gives.0 schema fault gives.1 gives.2

-- ---- instances

-- a reference waits, or it is to an instance
abbrev Served : List (ℕ × Record) → List Claim → Claim → Type 0
Served instances waiting c = Contains waiting c ⊎ Contains (names_of instances) c.1

module _ (old : Kept) (n : ℕ) (r : Record) (names : List ℕ) (waiting added : List Claim) (counts : List (List ℕ × ℕ))
    (names_are : (m : ℕ) → Contains names m ↔ ((n ≡ m) ⊎ Contains old.names m)) (as_many : length names ≡ length old.names + 1)
    (another : ¬ Contains old.names n)
    (adds : Adds names (claims_of n (record_references r)) old.waiting added) (drops : Drops names added waiting)
    (counted : (words : List (List ℕ)) → AreCounts words old.counts → AreCounts (words ++ record_keywords r) counts) where
  module _ (instances : List (ℕ × Record)) (are : AreInstances instances old.names old.waiting) where
    abbrev all : List (ℕ × Record)
    all = instances ++ (n, r) ∷ []

    -- the names of all
    names-behind : names_of all ≡ names_of instances ++ n ∷ []
    names-behind = map-append (λ (i : ℕ × Record). i.0) instances ((n, r) ∷ [])

    claims-behind : claims_among all ≡ claims_among instances ++ claims_of n (record_references r)
    claims-behind = flat_map-append (λ (i : ℕ × Record). claims_of i.0 (record_references i.1)) instances ((n, r) ∷ [])
        ∙ ap (λ (l : List Claim). claims_among instances ++ l) (append-nil (claims_of n (record_references r)))

    to-all : (m : ℕ) → Contains names m → Contains (names_of all) m
    to-all m among = subst (λ (l : List ℕ). Contains l m) (sym names-behind) (elim ((names_are m).0 among) [
      | inl same ↦ Contains-append_right (names_of instances) (n ∷ []) m (subst (Contains (n ∷ [])) same (Contains-first n []))
      | inr before ↦ Contains-append_left (names_of instances) (n ∷ []) m ((are.names_are m).0 before)
    ])

    from-all : (m : ℕ) → Contains (names_of all) m → Contains names m
    from-all m among = (names_are m).1 (elim (Contains-append_cases (names_of instances) (n ∷ []) m
        (subst (λ (l : List ℕ). Contains l m) names-behind among)) [
          | inl before ↦ inr ((are.names_are m).1 before)
          | inr last ↦ elim (Contains-cases n [] m last) [ inl same ↦ inl same | inr none ↦ absurd (Contains-none m none) ]
        ])

    dropped : (m : Claim) → Served all added m → Served all waiting m
    dropped m served = elim served [
      | inl among ↦ elim (Each-member (λ (k : Claim). Contains waiting k ⊎ Contains names k.1) added m drops.others_given among)
          [ inl left ↦ inl left | inr given ↦ inr (to-all m.1 given) ]
      | inr given ↦ inr given
    ]

    old-served : (m : Claim) → Contains old.waiting m ⊎ Contains (names_of instances) m.1 → Served all added m
    old-served m served = elim served [
      | inl among ↦ inl (subst (λ (l : List Claim). Contains l m) (sym adds.new_is) (Contains-append_left old.waiting adds.more m among))
      | inr given ↦ inr (subst (λ (l : List ℕ). Contains l m.1) (sym names-behind)
          (Contains-append_left (names_of instances) (n ∷ []) m.1 given))
    ]

    new-served : (m : Claim) → Contains adds.more m ⊎ Contains names m.1 → Served all added m
    new-served m served = elim served [
      | inl among ↦ inl (subst (λ (l : List Claim). Contains l m) (sym adds.new_is) (Contains-append_right old.waiting adds.more m among))
      | inr given ↦ inr (to-all m.1 given)
    ]

    abbrev own : List Claim
    own = claims_of n (record_references r)

    added-claims : Each (Contains (claims_among all)) added
    added-claims = subst (Each (Contains (claims_among all))) (sym adds.new_is)
        (Each-append (Contains (claims_among all)) old.waiting adds.more
        (Each-weaker (Contains (claims_among instances)) (Contains (claims_among all))
        (λ m among. subst (λ (l : List Claim). Contains l m) (sym claims-behind)
        (Contains-append_left (claims_among instances) own m among)) old.waiting are.are_references)
        (Each-weaker (Contains own) (Contains (claims_among all))
        (λ m among. subst (λ (l : List Claim). Contains l m) (sym claims-behind)
        (Contains-append_right (claims_among instances) own m among)) adds.more adds.are_added))

    all-are : AreInstances all names waiting
    all-are = record {
      names_are = λ m. (to-all m, from-all m);
      as_many = (let before = are.as_many in let size = length-append instances ((n, r) ∷ []) in omega (arith, as_many, before, size));
      names_differ = none_twice-distinct (names_of all) (subst NoneTwice (sym names-behind)
          (NoneTwice-more (names_of instances) n (distinct-none_twice (names_of instances) are.names_differ)
          (λ among. another ((are.names_are n).1 among))));
      are_references = Each-weaker (Contains added) (Contains (claims_among all))
          (λ m among. Each-member (Contains (claims_among all)) added m added-claims among) waiting drops.are_old;
      others_given = subst (Each (Served all waiting)) (sym claims-behind)
          (Each-append (Served all waiting) (claims_among instances) own
          (Each-weaker (λ (m : Claim). Contains old.waiting m ⊎ Contains (names_of instances) m.1) (Served all waiting)
          (λ m served. dropped m (old-served m served)) (claims_among instances) are.others_given)
          (Each-weaker (λ (m : Claim). Contains adds.more m ⊎ Contains names m.1) (Served all waiting)
          (λ m served. dropped m (new-served m served)) own adds.others_given));
    }

    all-counted : AreCounts (keywords_of instances) old.counts → AreCounts (keywords_of all) counts
    all-counted before =
        let behind : keywords_of all ≡ keywords_of instances ++ record_keywords r =
        flat_map-append (λ (i : ℕ × Record). record_keywords i.1) instances ((n, r) ∷ [])
        ∙ ap (λ (l : List (List ℕ)). keywords_of instances ++ l) (append-nil (record_keywords r)) in
        subst (λ (l : List (List ℕ)). AreCounts l counts) (sym behind) (counted (keywords_of instances) before)

  pub took-instance : Takes old (instance n r) (Ok tt) (record old { names = names; waiting = waiting; counts = counts })
  took-instance given keeps =
      let parts : parts_among given ≡ parts_among (given ++ instance n r ∷ []) =
      sym (parts-append given (instance n r ∷ []) ∙ append-nil (parts_among given)) in
      let headings : headings_among given ≡ headings_among (given ++ instance n r ∷ []) =
      sym (headings-append given (instance n r ∷ []) ∙ append-nil (headings_among given)) in
      let instances : instances_among given ++ (n, r) ∷ [] ≡ instances_among (given ++ instance n r ∷ []) =
      sym (instances-append given (instance n r ∷ [])) in
      record {
        header_is = keeps.header_is ∙ parts;
        schema = subst (λ (ps : List Part). IsSchemaOf ps old.schema) parts keeps.schema;
        sections_are = keeps.sections_are ∙ headings;
        sections = subst (AreSections old.schema) headings keeps.sections;
        instances = subst (λ (is : List (ℕ × Record)). AreInstances is names waiting) instances
            (all-are (instances_among given) keeps.instances);
        keywords = subst (λ (is : List (ℕ × Record)). AreCounts (keywords_of is) counts) instances
            (all-counted (instances_among given) keeps.instances keeps.keywords);
      }

pub instance-again : (old new : Kept) (n : ℕ) (r : Record) → Contains old.names n → Takes old (instance n r) (Err DuplicateName) new
instance-again old new n r had other given keeps limits bytes taken =
    name-again limits bytes given n r taken ((keeps.instances.names_are n).0 had)
