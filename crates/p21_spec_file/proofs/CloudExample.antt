-- A file of the schema DEMO with two named sections, where a CLOUD in one has a point in the other as its member: it is
-- accepted, and its own canonical file.
use Rattle.std.proofs.Common.{◌≡◌, ℕ, pos, true, false, List, [], ◌∷◌, refl, ap, sym, arith, lit<, lit≤}
use Rattle.std.specs.Prelude.{codes, Contains, None, Some}
use Rattle.std.specs.Char.{IsScalar}
use Rattle.std.specs.List.{IsDistinct, AllByRecursion as Each}
use Rattle.std.specs.List.Sorted.{IsStrictlySortedBy}
use Rattle.p21_spec_basics.specs.Digits.{IsDigit}
use Rattle.p21_spec_basics.specs.Limits.{Limits}
use Rattle.p21_spec_exchange.specs.DataSection.{Heading, named}
use Rattle.p21_spec_exchange.specs.Grammar.{IsDataRecord}
use Rattle.p21_spec_exchange.specs.Laying.{LaidAs}
use Rattle.p21_spec_exchange.specs.Number.{none, SpellsWhole}
use Rattle.p21_spec_exchange.specs.Parameter as parameter
use Rattle.p21_spec_exchange.specs.Parameter.{Params, no_params, param, key_of}
use Rattle.p21_spec_exchange.specs.Record.{Record, simple}
use Rattle.p21_spec_exchange.specs.Structure.{Structure}
use Rattle.p21_spec_exchange.specs.Token as token
use Rattle.p21_spec_exchange.specs.Token.{name, equals, keyword}
use Rattle.p21_spec_file.specs.Accepted.{IsCanonicalFile, IsCanonicalOf}
use Rattle.p21_spec_file.specs.CanonicalRecord.{AreTextsRising, HasOneLeaf, IsCanonicalRecord}
use Rattle.p21_spec_file.specs.File.{FileMeaning, Reads}
use Rattle.p21_spec_file.specs.Fits as fits
use Rattle.p21_spec_file.specs.Fits.{an_instance, a_list, a_set, a_bag, none_left, fits_next}
use Rattle.p21_spec_file.specs.Meaning.{Typed, RecordMeans}
use Rattle.p21_spec_file.specs.Reference.{EntitySets}
use Rattle.p21_spec_file.specs.SameValue.{Among}
use Rattle.p21_spec_file.specs.Value as value
use Rattle.p21_spec_file.specs.Value.{Value, Values, no_values}
use Rattle.p21_spec_schema.specs.PlaceType.{stored_place, TypeAt, two_redeclarations}
use Rattle.p21_spec_schema.specs.Schema as schema
use Rattle.p21_spec_schema.specs.Schema.{Place}
use Rattle.p21_spec_schema.specs.Supertype.{IsA, itself, above}
use Rattle.p21_spec_basics.proofs.Members.{Contains-none, Each-member}
use Rattle.p21_spec_exchange.proofs.CanonicalLaying.{Laying, end, put, put_on_line, put_left, put_right, put_comma, put_semicolon, put_section, put_record, put_finish, put_text_comma, put_text_right, within_by, no_dash_left}
use Rattle.p21_spec_exchange.proofs.Laying.{keyword_by, left_ends_words}
use Rattle.p21_spec_exchange.proofs.HeldExamples.{two-spelled}
use Rattle.p21_spec_file.proofs.DemoExample.{demo-header, description, file_name, file_schema, header_lines}
use Rattle.p21_spec_file.proofs.CanonicalTextExamples.{equals_ends_digits}
use Rattle.p21_spec_file.proofs.MeaningExamples.{point_set, not_redeclared, no_clash, stored, abstract-is_shape}
use Rattle.p21_spec_file.proofs.NamedPoints.{two_record, two_meaning, two-means, two-canonical, one_name, short_line}
use Rattle.p21_spec_file.proofs.SameFiles.{SameFileMeaning-reflexive}
use Rattle.p21_spec_file.proofs.ValueExamples.{tally-fits_item}
use Rattle.p21_spec_schema.proofs.SchemaNames.{demo_large}
use Rattle.p21_spec_schema.proofs.TestSchemas.{demo, cloud, attribute, x_place}

-- `CLOUD((#2),(),(TALLY(1)))`
abbrev tally_one : parameter.Param
tally_one = parameter.typed (key_of (codes "TALLY")) (parameter.whole (pos 1))

abbrev member : Params
member = param (parameter.name 2) no_params

abbrev cloud_record : Record
cloud_record = simple (record { key = key_of (codes "CLOUD"); params = param (parameter.list member) (param (parameter.list no_params) (param (parameter.list (param tally_one no_params)) no_params)) })

abbrev members : Values
members = value.value (value.reference 2) no_values

abbrev tallies : Values
tallies = value.value (value.typed 1 (value.whole (pos 1))) no_values

abbrev cloud_values : Values
cloud_values = value.value (value.set members) (value.value (value.bag no_values) (value.value (value.list tallies) no_values))

abbrev cloud_meaning : Typed
cloud_meaning = record { entities = 4 ∷ []; values = cloud_values ∷ [] }

-- a CLOUD is a CLOUD alone
cloud-is : (f : ℕ) → Contains (4 ∷ []) f → IsA demo 4 f
cloud-is f among = Each-member (IsA demo 4) (4 ∷ []) f (itself 4, tt) among

cloud-only : (f : ℕ) → IsA demo 4 f → Contains (4 ∷ []) f
cloud-only f (itself _) = (0, omega arith, refl)
cloud-only f (above _ next _ among up) = absurd (Contains-none next among)

abbrev cloud_place : ℕ → Place
cloud_place index = record { entity = 4; index = index }

no_x : (index : ℕ) → cloud_place index ≡ x_place → ⊥
no_x index same = let h : 4 ≡ 1 = ap (λ (p : Place). p.entity) same in omega (arith, h)

abbrev point_member : schema.TypeUse
point_member = schema.set 0 None (schema.entity 1)

abbrev bags : schema.TypeUse
bags = schema.bag 0 None (schema.bag 0 None schema.real)

abbrev few_items : schema.TypeUse
few_items = schema.list 1 (Some 3) true (schema.defined 4)

no_other : (v : Value) → Among v no_values → ⊥
no_other v among = elim among [ ]

-- among instances of which #2 is a point
cloud-means : (kinds : EntitySets) → Contains kinds (2, point_set) → RecordMeans demo kinds cloud_record cloud_meaning
unfolding IsStrictlySortedBy
cloud-means kinds has_point = record {
  rising = (codes "CLOUD" ∷ [], ((cloud, refl, refl), tt), (tt, tt));
  own_counts = (refl, tt);
  no_abstract_leaf = λ e leaf is_abstract. let four : 4 ≡ e = Each-member (λ f. 4 ≡ f) (4 ∷ []) e (refl, tt) leaf.0 in omega (arith, four, abstract-is_shape e is_abstract);
  no_clash = no_clash (4 ∷ []);
  place_types = ((open_ (cloud_place 0), (open_ (cloud_place 1), (open_ (cloud_place 2), tt))), tt);
  means = record {
    entity = 4;
    named = (codes "CLOUD", (cloud, refl, refl), refl);
    closure = λ f. (cloud-is f, cloud-only f);
    fit = (
      (
        stored_place false point_member,
        value.set members,
        stored (4 ∷ []) (cloud_place 0) (attribute (codes "MEMBERS") point_member) (λ h. no_x _ h) refl,
        fits.fits false point_member (parameter.list member) (value.set members) (a_set 0 None (schema.entity 1) member members (fits_next _ _ _ _ _ _ (an_instance 1 2 (point_set, has_point, (0, omega arith, refl))) (none_left _ _)) (omega arith, tt) ((λ some. no_other (value.reference 2)), tt)),
        (cloud_values, (0, omega arith, refl), refl),
      ),
      (
        (
          stored_place false bags,
          value.bag no_values,
          stored (4 ∷ []) (cloud_place 1) (attribute (codes "SIZES") bags) (λ h. no_x _ h) refl,
          fits.fits false bags (parameter.list no_params) (value.bag no_values) (a_bag 0 None (schema.bag 0 None schema.real) no_params no_values (none_left _ _) (omega arith, tt)),
          (cloud_values, (0, omega arith, refl), refl),
        ),
        (
          (
            stored_place false few_items,
            value.list tallies,
            stored (4 ∷ []) (cloud_place 2) (attribute (codes "VALUES") few_items) (λ h. no_x _ h) refl,
            fits.fits false few_items (parameter.list (param tally_one no_params)) (value.list tallies) (a_list 1 (Some 3) true (schema.defined 4) (param tally_one no_params) tallies (fits_next _ _ _ _ _ _ (tally-fits_item kinds) (none_left _ _)) (omega arith, omega arith) (λ h. ((λ some. no_other (value.typed 1 (value.whole (pos 1)))), tt))),
            (cloud_values, (0, omega arith, refl), refl),
          ),
          tt,
        ),
      ),
    );
  };
}
  where
    open_ : (place : Place) → TypeAt demo (4 ∷ []) place two_redeclarations → ⊥
    open_ place below = not_redeclared (4 ∷ []) place below.1

cloud-leaf : HasOneLeaf demo (4 ∷ [])
cloud-leaf = (4, ((0, omega arith, refl), λ f among is. sym (Each-member (λ g. 4 ≡ g) (4 ∷ []) f (refl, tt) among)), λ f leaf. sym (Each-member (λ g. 4 ≡ g) (4 ∷ []) f (refl, tt) leaf.0))

cloud-canonical : IsCanonicalRecord demo cloud_record cloud_meaning
cloud-canonical = record {
  form = cloud-leaf;
  params = (
    4,
    (codes "CLOUD", (cloud, refl, refl), refl),
    (
      (value.set members, (cloud_values, (0, omega arith, refl), refl), ((tt, tt), λ h. one_text)),
      (
        (value.bag no_values, (cloud_values, (0, omega arith, refl), refl), (tt, λ h. no_text)),
        ((value.list tallies, (cloud_values, (0, omega arith, refl), refl), (((λ h. h), tt), λ h. absurd h)), tt),
      ),
    ),
  );
}
  where
    one_text : AreTextsRising (codes "#2" ∷ [])
    one_text i j low high = absurd (omega (arith, low, high))

    no_text : AreTextsRising []
    no_text i j low high = absurd (omega (arith, low, high))

-- the line of the CLOUD
one_spelled : SpellsWhole (codes "1") (pos 1)
one_spelled = record { sign = none; digits = codes "1"; bytes_are = refl; some_digits = lit< tt; are_digits = ((lit≤ tt, lit≤ tt), tt); value_is = refl }

right_ends_digits : IsDigit 41 → ⊥
right_ends_digits digit = omega (arith, digit)

abbrev cloud_line : Laying → Laying
cloud_line rest =
    put_on_line (name 1) (codes "#1") one_name
    (put equals (codes "=") refl (put (keyword (codes "CLOUD")) (codes "CLOUD") (refl, keyword_by (codes "CLOUD") tt)
    (put_left (put_left (put (name 2) (codes "#2") two-spelled (put_right (put_comma (put_left (put_right (put_comma (put_left (put (keyword (codes "TALLY")) (codes "TALLY") (refl, keyword_by (codes "TALLY") tt)
    (put_left (put (token.whole (pos 1)) (codes "1") one_spelled (put_right (put_right (put_right (put_semicolon rest)))) (right_ends_digits, λ h. omega (arith, h)))) (left_ends_words, no_dash_left)))))))) right_ends_digits)))
    (left_ends_words, no_dash_left)) tt) equals_ends_digits

abbrev a_heading : Heading
a_heading = named (codes "a") (codes "DEMO")

abbrev b_heading : Heading
b_heading = named (codes "b") (codes "DEMO")

abbrev across : Structure
across = record {
  header = description ∷ file_name ∷ file_schema ∷ [];
  sections = record { heading = a_heading; instances = (2, two_record) ∷ [] } ∷ record { heading = b_heading; instances = (1, cloud_record) ∷ [] } ∷ [];
}

abbrev across_bytes : List ℕ
across_bytes = codes "ISO-10303-21;\nHEADER;\nFILE_DESCRIPTION((''),'2;1');\nFILE_NAME('','',(''),(''),'','','');\nFILE_SCHEMA(('DEMO'));\nENDSEC;\nDATA('a',('DEMO'));\n#2=POINT($,2.,1.);\nENDSEC;\nDATA('b',('DEMO'));\n#1=CLOUD((#2),(),(TALLY(1)));\nENDSEC;\nEND-ISO-10303-21;\n"

abbrev section_lines : (text : List ℕ) → Each IsScalar text → Laying → Laying
section_lines text plain rest = put_record (codes "DATA") tt (put_text_comma text plain (put_left (put_text_right (codes "DEMO") (refl, (refl, (refl, (refl, tt)))) (put_right (put_semicolon rest)))))

abbrev across_laying : Laying
across_laying = header_lines (section_lines (codes "a") (refl, tt) (short_line (put_section (codes "ENDSEC") tt (section_lines (codes "b") (refl, tt) (cloud_line (put_section (codes "ENDSEC") tt (put_finish end)))))))

across-laid : LaidAs across_bytes across_laying.lexemes
across-laid = across_laying.laid

abbrev across_meaning : FileMeaning
across_meaning = record {
  header = across.header;
  schema = codes "DEMO";
  sections = a_heading ∷ b_heading ∷ [];
  instances = (2, two_meaning) ∷ (1, cloud_meaning) ∷ [];
  instance_sections = (2, a_heading) ∷ (1, b_heading) ∷ [];
}

two_data : IsDataRecord two_record
two_data = record { some_parts = lit< tt; shallow = (lit≤ tt, tt); no_user_keywords = (tt, (tt, (tt, (tt, (tt, (tt, (tt, (tt, tt)))))))) }

cloud_data : IsDataRecord cloud_record
cloud_data = record { some_parts = lit< tt; shallow = (lit≤ tt, tt); no_user_keywords = (tt, (tt, (tt, (tt, (tt, (tt, (tt, (tt, (tt, (tt, (tt, (tt, (tt, (tt, (tt, (tt, tt)))))))))))))))) }

abbrev across-reads : Reads demo across_bytes across_meaning
unfolding IsDistinct
across-reads = record {
  structure = across;
  schema_text = codes "DEMO";
  in_grammar = record {
    laid = record { lexemes = across_laying.lexemes; tokens_are = refl; laid = across-laid };
    is_file = record { header = demo-header; shallow_header = (lit≤ tt, (lit≤ tt, (lit≤ tt, tt))); headings_are = (tt, tt); data_records = (two_data, (cloud_data, tt)) };
  };
  names_schema = demo_large;
  sections_name_schema = (demo_large, (demo_large, tt));
  section_names_differ = ((refl, tt), (tt, tt));
  names_differ = ((refl, tt), (tt, tt));
  means = ((refl, two-means _), ((refl, cloud-means _ (0, omega arith, refl)), tt));
  header_is = refl;
  schema_is = refl;
  sections_are = refl;
  instance_sections_are = refl;
}

abbrev limits : Limits
limits = record { record_source = 36; record_canonical = 36; file_source = 245; file_canonical = 245 }

across-canonical_of : IsCanonicalOf demo limits across_meaning across_bytes
unfolding IsDistinct IsStrictlySortedBy
across-canonical_of = record {
  canonical = record {
    meaning = across_meaning;
    reads = across-reads;
    lines = refl;
    sections_rise = ((refl, tt), (tt, tt));
    names_rise = ((tt, tt), ((tt, tt), tt));
    canonical_records = (two-canonical, (cloud-canonical, tt));
  };
  same = SameFileMeaning-reflexive across_meaning;
  file_within = lit≤ tt;
  lines_within = (lit≤ tt, (lit≤ tt, (lit≤ tt, (lit≤ tt, (lit≤ tt, (lit≤ tt, (lit≤ tt, (lit≤ tt, (lit≤ tt, (lit≤ tt, (lit≤ tt, (lit≤ tt, (lit≤ tt, tt)))))))))))));
}

-- the file is accepted, and is its own canonical file
across-is_own : IsCanonicalFile demo limits across_bytes across_bytes
unfolding IsDistinct
across-is_own = (
  across_meaning,
  record { reads = across-reads; file_within = lit≤ tt; statements_within = within_by 36 0 across_laying.lexemes tt; canonical = across_bytes; is_canonical = across-canonical_of },
  across-canonical_of,
)
