-- A file of the schema DEMO with two named sections, b before a, and its canonical file of 232 bytes, a before b.
use Rattle.std.proofs.Common.{◌≡◌, ℕ, List, [], ◌∷◌, length, get_or, refl, inl, inr, ap, arith, lit<, lit≤}
use Rattle.std.specs.Prelude.{codes, Contains}
use Rattle.std.specs.List.{flat_map, IsDistinct}
use Rattle.std.specs.List.Sorted.{IsStrictlySortedBy}
use Rattle.p21_spec_file.specs.Accepted.{IsCanonicalFile, IsCanonicalOf}
use Rattle.p21_spec_file.specs.Canonical.{Canonical}
use Rattle.p21_spec_exchange.specs.CanonicalText.{line}
use Rattle.p21_spec_exchange.specs.DataSection.{Heading, named, heading_names, DataSection}
use Rattle.p21_spec_file.specs.File.{FileMeaning, Reads, entity_sets_of}
use Rattle.p21_spec_file.specs.Fits.{Fits, an_instance}
use Rattle.p21_spec_exchange.specs.Parameter as parameter
use Rattle.p21_spec_schema.specs.Schema as schema
use Rattle.p21_spec_file.specs.Value as value
use Rattle.p21_spec_exchange.specs.Grammar.{IsDataRecord}
use Rattle.p21_spec_exchange.specs.Laying.{LaidAs}
use Rattle.p21_spec_basics.specs.Limits.{Limits}
use Rattle.p21_spec_file.specs.Meaning.{Typed}
use Rattle.p21_spec_file.specs.SameFile.{HaveSameMembers, AreInstancesAmong, SameFileMeaning}
use Rattle.p21_spec_exchange.specs.Structure.{Structure, statements}
use Rattle.p21_spec_exchange.proofs.CanonicalLaying.{Laying, end, put_left, put_right, put_semicolon, put_section, put_record, put_finish, put_text_comma, put_text_right, within_by}
use Rattle.p21_spec_file.proofs.DemoExample.{demo-header, description, file_name, file_schema, header_lines}
use Rattle.p21_spec_file.proofs.CanonicalTextExamples.{point-canonical}
use Rattle.p21_spec_basics.proofs.Members.{Contains-none, Contains-first, Contains-cases}
use Rattle.p21_spec_file.proofs.MeaningExamples.{point_record, point_meaning, point-means}
use Rattle.p21_spec_file.proofs.NamedPoints.{two_record, two_meaning, two-means, two-canonical, one_line, short_line, long_line}
use Rattle.p21_spec_file.proofs.SameFiles.{SameFileMeaning-reflexive, SameTyped-reflexive}
use Rattle.p21_spec_schema.proofs.SchemaNames.{demo_large, demo_small}
use Rattle.p21_spec_schema.proofs.TestSchemas as schemas

abbrev a_heading : Heading
a_heading = named (codes "a") (codes "demo")

abbrev b_heading : Heading
b_heading = named (codes "b") (codes "DEMO")

abbrev a_section : DataSection
a_section = record { heading = a_heading; instances = (2, two_record) ∷ [] }

abbrev b_section : DataSection
b_section = record { heading = b_heading; instances = (1, point_record) ∷ [] }

abbrev source : Structure
source = record { header = description ∷ file_name ∷ file_schema ∷ []; sections = b_section ∷ a_section ∷ [] }

abbrev ordered : Structure
ordered = record { header = description ∷ file_name ∷ file_schema ∷ []; sections = a_section ∷ b_section ∷ [] }

abbrev source_bytes : List ℕ
source_bytes = codes "ISO-10303-21;\nHEADER;\nFILE_DESCRIPTION((''),'2;1');\nFILE_NAME('','',(''),(''),'','','');\nFILE_SCHEMA(('DEMO'));\nENDSEC;\nDATA('b',('DEMO'));\n#1=POINT($,1.,1.);\nENDSEC;\nDATA('a',('demo'));\n#2=POINT($,2.0,1.);\nENDSEC;\nEND-ISO-10303-21;\n"

abbrev ordered_bytes : List ℕ
ordered_bytes = codes "ISO-10303-21;\nHEADER;\nFILE_DESCRIPTION((''),'2;1');\nFILE_NAME('','',(''),(''),'','','');\nFILE_SCHEMA(('DEMO'));\nENDSEC;\nDATA('a',('demo'));\n#2=POINT($,2.,1.);\nENDSEC;\nDATA('b',('DEMO'));\n#1=POINT($,1.,1.);\nENDSEC;\nEND-ISO-10303-21;\n"

ordered-length : length ordered_bytes ≡ 232
ordered-length = refl

ordered-lines : flat_map line (statements ordered) ≡ ordered_bytes
ordered-lines = refl

-- the lines of each section with its heading
abbrev a_lines : Laying → Laying
a_lines rest = put_record (codes "DATA") tt (put_text_comma (codes "a") (refl, tt) (put_left (put_text_right (codes "demo") (refl, (refl, (refl, (refl, tt)))) (put_right (put_semicolon rest)))))

abbrev b_lines : Laying → Laying
b_lines rest = put_record (codes "DATA") tt (put_text_comma (codes "b") (refl, tt) (put_left (put_text_right (codes "DEMO") (refl, (refl, (refl, (refl, tt)))) (put_right (put_semicolon rest)))))

abbrev ended : Laying → Laying
ended rest = put_section (codes "ENDSEC") tt rest

abbrev source_laying : Laying
source_laying = header_lines (b_lines (one_line (ended (a_lines (long_line (ended (put_finish end)))))))

abbrev ordered_laying : Laying
ordered_laying = header_lines (a_lines (short_line (ended (b_lines (one_line (ended (put_finish end)))))))

source-laid : LaidAs source_bytes source_laying.lexemes
source-laid = source_laying.laid

ordered-laid : LaidAs ordered_bytes ordered_laying.lexemes
ordered-laid = ordered_laying.laid

abbrev source_meaning : FileMeaning
source_meaning = record {
  header = source.header;
  schema = codes "DEMO";
  sections = b_heading ∷ a_heading ∷ [];
  instances = (1, point_meaning) ∷ (2, two_meaning) ∷ [];
  instance_sections = (1, b_heading) ∷ (2, a_heading) ∷ [];
}

abbrev ordered_meaning : FileMeaning
ordered_meaning = record {
  header = source.header;
  schema = codes "DEMO";
  sections = a_heading ∷ b_heading ∷ [];
  instances = (2, two_meaning) ∷ (1, point_meaning) ∷ [];
  instance_sections = (2, a_heading) ∷ (1, b_heading) ∷ [];
}

-- the records
one_data : IsDataRecord point_record
one_data = record { some_parts = lit< tt; shallow = (lit≤ tt, tt); no_user_keywords = (tt, (tt, (tt, (tt, (tt, (tt, (tt, (tt, tt)))))))) }

two_data : IsDataRecord two_record
two_data = record { some_parts = lit< tt; shallow = (lit≤ tt, tt); no_user_keywords = (tt, (tt, (tt, (tt, (tt, (tt, (tt, (tt, tt)))))))) }

abbrev source-reads : Reads schemas.demo source_bytes source_meaning
unfolding IsDistinct
source-reads = record {
  structure = source;
  schema_text = codes "DEMO";
  in_grammar = record {
    laid = record { lexemes = source_laying.lexemes; tokens_are = refl; laid = source-laid };
    is_file = record {
      header = demo-header;
      shallow_header = (lit≤ tt, (lit≤ tt, (lit≤ tt, tt)));
      headings_are = (tt, tt);
      data_records = (one_data, (two_data, tt));
    };
  };
  names_schema = demo_large;
  sections_name_schema = (demo_large, (demo_small, tt));
  section_names_differ = ((refl, tt), (tt, tt));
  names_differ = ((refl, tt), (tt, tt));
  means = ((refl, point-means _), ((refl, two-means _), tt));
  header_is = refl;
  schema_is = refl;
  sections_are = refl;
  instance_sections_are = refl;
}

abbrev ordered-reads : Reads schemas.demo ordered_bytes ordered_meaning
unfolding IsDistinct
ordered-reads = record {
  structure = ordered;
  schema_text = codes "DEMO";
  in_grammar = record {
    laid = record { lexemes = ordered_laying.lexemes; tokens_are = refl; laid = ordered-laid };
    is_file = record {
      header = demo-header;
      shallow_header = (lit≤ tt, (lit≤ tt, (lit≤ tt, tt)));
      headings_are = (tt, tt);
      data_records = (two_data, (one_data, tt));
    };
  };
  names_schema = demo_large;
  sections_name_schema = (demo_small, (demo_large, tt));
  section_names_differ = ((refl, tt), (tt, tt));
  names_differ = ((refl, tt), (tt, tt));
  means = ((refl, two-means _), ((refl, point-means _), tt));
  header_is = refl;
  schema_is = refl;
  sections_are = refl;
  instance_sections_are = refl;
}

abbrev ordered-canonical : Canonical schemas.demo ordered_bytes
unfolding IsDistinct IsStrictlySortedBy
ordered-canonical = record {
  meaning = ordered_meaning;
  reads = ordered-reads;
  lines = refl;
  sections_rise = ((refl, tt), (tt, tt));
  names_rise = ((tt, tt), ((tt, tt), tt));
  canonical_records = (two-canonical, (point-canonical, tt));
}

-- the two mean the same: two things in either order
turned : {X : Type 0} (x y z : X) → Contains (x ∷ y ∷ []) z → Contains (y ∷ x ∷ []) z
turned x y z among = elim (Contains-cases x (y ∷ []) z among) [
  | inl h ↦ (1, omega arith, h)
  | inr h ↦ elim (Contains-cases y [] z h) [ inl h_ ↦ (0, omega arith, h_) | inr h_ ↦ absurd (Contains-none z h_) ]
]

turned-same : {X : Type 0} (x y : X) → HaveSameMembers (x ∷ y ∷ []) (y ∷ x ∷ [])
turned-same x y z = (turned x y z, turned y x z)

turned-among : (x y : ℕ × Typed) → AreInstancesAmong (x ∷ y ∷ []) (y ∷ x ∷ [])
turned-among x y n typed among = (typed, turned x y (n, typed) among, SameTyped-reflexive typed)

ordered-same : SameFileMeaning ordered_meaning source_meaning
ordered-same =
    let own : SameFileMeaning source_meaning source_meaning = SameFileMeaning-reflexive source_meaning in
    record {
      header = own.header;
      schema = refl;
      sections = turned-same a_heading b_heading;
      onto = turned-among (2, two_meaning) (1, point_meaning);
      back = turned-among (1, point_meaning) (2, two_meaning);
      instance_sections = turned-same (2, a_heading) (1, b_heading);
    }

abbrev limits : Limits
limits = record { record_source = 36; record_canonical = 36; file_source = 233; file_canonical = 232 }

ordered-of_source : IsCanonicalOf schemas.demo limits source_meaning ordered_bytes
unfolding IsDistinct IsStrictlySortedBy
ordered-of_source = record {
  canonical = ordered-canonical;
  same = ordered-same;
  file_within = lit≤ tt;
  lines_within = (lit≤ tt, (lit≤ tt, (lit≤ tt, (lit≤ tt, (lit≤ tt, (lit≤ tt, (lit≤ tt, (lit≤ tt, (lit≤ tt, (lit≤ tt, (lit≤ tt, (lit≤ tt, (lit≤ tt, tt)))))))))))));
}

-- the file is accepted, and this is a canonical file of it
ordered-is : IsCanonicalFile schemas.demo limits source_bytes ordered_bytes
unfolding IsDistinct
ordered-is = (
  source_meaning,
  record { reads = source-reads; file_within = lit≤ tt; statements_within = within_by 36 0 source_laying.lexemes tt; canonical = ordered_bytes; is_canonical = ordered-of_source },
  ordered-of_source,
)

-- with the two instances in each other's section a file means something else
abbrev exchanged : FileMeaning
exchanged = record source_meaning { instance_sections = (1, a_heading) ∷ (2, b_heading) ∷ [] }

apart : a_heading ≡ b_heading → ⊥
apart same = let letters : 97 ≡ 98 = ap (λ h. get_or (get_or (heading_names h) 0 []) 0 0) same in omega (arith, letters)

exchanged-differs : SameFileMeaning source_meaning exchanged → ⊥
exchanged-differs same =
    let first : ℕ × Heading = (1, b_heading) in
    let others : List (ℕ × Heading) = (2, b_heading) ∷ [] in
    elim (Contains-cases (1, a_heading) others first ((same.instance_sections first).0 (Contains-first first ((2, a_heading) ∷ [])))) [
      | inl h ↦ apart (ap (λ (z : ℕ × Heading). z.1) h)
      | inr h ↦ elim (Contains-cases (2, b_heading) [] first h) [
        | inl h_ ↦ let e : 2 ≡ 1 = ap (λ (z : ℕ × Heading). z.0) h_ in omega (arith, e)
        | inr h_ ↦ Contains-none first h_
      ]
    ]

-- a reference goes across sections: in a record of b the name of the point in a may stand for it
across : Fits schemas.demo (entity_sets_of source_meaning.instances) (schema.entity 1) (parameter.name 2) (value.reference 2)
across = an_instance 1 2 (1 ∷ 0 ∷ [], (1, omega arith, refl), (0, omega arith, refl))
