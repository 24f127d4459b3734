-- A point of the schema DEMO with the coordinates 2 and 1: its record, its meaning, and its line.
use Rattle.std.proofs.Common.{ℕ, pos, List, [], ◌∷◌, refl, arith, lit<, lit≤}
use lib.Signed.{le_z_yes}
use Rattle.std.specs.Prelude.{codes, None, true, false}
use Rattle.p21_spec_file.specs.CanonicalRecord.{IsCanonicalRecord}
use Rattle.p21_spec_file.specs.Fits as fits
use Rattle.p21_spec_file.specs.Fits.{FitsAt, a_real, as_underlying}
use Rattle.p21_spec_file.specs.Meaning.{Typed, RecordMeans}
use Rattle.p21_spec_exchange.specs.Name.{SpellsName}
use Rattle.p21_spec_exchange.specs.Number.{none, no_exponent, Decimal, RealForm, SpellsReal, real_ratio}
use Rattle.p21_spec_exchange.specs.Parameter.{dollar, real, no_params, param, key_of}
use Rattle.p21_spec_schema.specs.PlaceType.{stored_place}
use Rattle.p21_spec_exchange.specs.Record.{Record, simple}
use Rattle.p21_spec_file.specs.Reference.{EntitySets}
use Rattle.p21_spec_schema.specs.Schema as schema
use Rattle.p21_spec_exchange.specs.Token as token
use Rattle.p21_spec_exchange.specs.Token.{name, equals, keyword, MayFollow}
use Rattle.p21_spec_file.specs.Value as value
use Rattle.p21_spec_file.specs.Value.{Values, no_values}
use Rattle.p21_spec_exchange.proofs.CanonicalLaying.{Laying, put, put_on_line, put_left, put_right, put_comma, put_semicolon, no_dash_left}
use Rattle.p21_spec_exchange.proofs.Exponents.{in_range_by}
use Rattle.p21_spec_file.proofs.CanonicalTextExamples.{equals_ends_digits, comma_ends_one, right_ends_one, point-leaf}
use Rattle.p21_spec_exchange.proofs.Laying.{keyword_by, left_ends_words}
use Rattle.p21_spec_file.proofs.MeaningExamples.{point_set, point-is, point-only, point-means, point-stored}
use Rattle.p21_spec_schema.proofs.TestSchemas.{demo, point, label, attribute, label_place, x_place, y_place}
use Rattle.p21_spec_exchange.proofs.Names.{name_spells}
use Rattle.p21_spec_exchange.proofs.LayingExamples.{one, one-spelled}
use Rattle.p21_spec_exchange.proofs.HeldExamples.{two-spelled}

abbrev pub two : Decimal
two = record { significand = pos 2; exponent = pos 0 }

-- `2.` and `2.0`
abbrev short-form : RealForm (codes "2.")
short-form =
    record {
      sign = none;
      whole = codes "2";
      fraction = [];
      power = no_exponent;
      bytes_are = refl;
      some_digits = lit< tt;
      are_digits = ((lit≤ tt, lit≤ tt), tt);
      are_fraction_digits = tt;
      is_exponent = tt;
    }

abbrev long-form : RealForm (codes "2.0")
long-form =
    record {
      sign = none;
      whole = codes "2";
      fraction = codes "0";
      power = no_exponent;
      bytes_are = refl;
      some_digits = lit< tt;
      are_digits = ((lit≤ tt, lit≤ tt), tt);
      are_fraction_digits = ((lit≤ tt, lit≤ tt), tt);
      is_exponent = tt;
    }

pub short-spelled : SpellsReal (codes "2.") two
short-spelled =
    record {
      form = short-form;
      is_short = tt;
      in_range = in_range_by (real_ratio short-form) (pos 0) (lit< tt) (record { low = lit≤ tt; high = lit< tt }) (le_z_yes tt, le_z_yes tt);
      is_reduced = λ e. cc;
      same = refl;
    }

pub long-spelled : SpellsReal (codes "2.0") two
long-spelled =
    record {
      form = long-form;
      is_short = tt;
      in_range = in_range_by (real_ratio long-form) (pos 0) (lit< tt) (record { low = lit≤ tt; high = lit< tt }) (le_z_yes tt, le_z_yes tt);
      is_reduced = λ e. cc;
      same = refl;
    }

pub short_then_comma : MayFollow (token.real two) (codes "2.") 44
short_then_comma = (λ digit. omega (arith, digit), λ h e. omega (arith, e))

pub long_then_comma : MayFollow (token.real two) (codes "2.0") 44
long_then_comma = (λ digit. omega (arith, digit), λ h e. omega (arith, e))

abbrev pub two_record : Record
two_record = simple (record { key = key_of (codes "POINT"); params = param dollar (param (real two) (param (real one) no_params)) })

abbrev two_values : Values
two_values = value.value (value.real two) (value.value (value.real one) no_values)

abbrev pub two_meaning : Typed
two_meaning = record { entities = point_set; values = two_values ∷ value.value value.missing no_values ∷ [] }

a_distance : (kinds : EntitySets) (d : Decimal) → FitsAt demo kinds (stored_place false (schema.defined 0)) (real d) (value.real d)
a_distance kinds d = fits.fits false (schema.defined 0) (real d) (value.real d) (as_underlying 0 schema.real (real d) (value.real d) refl (a_real d))

pub two-means : (kinds : EntitySets) → RecordMeans demo kinds two_record two_meaning
two-means kinds =
    let other = point-means kinds in
    record {
      rising = other.rising;
      own_counts = (refl, (refl, tt));
      no_abstract_leaf = other.no_abstract_leaf;
      no_clash = other.no_clash;
      place_types = other.place_types;
      means = record {
        entity = 1;
        named = (codes "POINT", (point, refl, refl), refl);
        closure = λ f. (point-is f, point-only f);
        fit = (
          (stored_place true (schema.text None), value.missing, point-stored label_place label refl, fits.dollar (schema.text None), (value.value value.missing no_values, (1, omega arith, refl), refl)),
          (
            (stored_place false (schema.defined 0), value.real two, point-stored x_place (attribute (codes "X") (schema.defined 0)) refl, a_distance kinds two, (two_values, (0, omega arith, refl), refl)),
            ((stored_place false (schema.defined 0), value.real one, point-stored y_place (attribute (codes "Y") (schema.defined 0)) refl, a_distance kinds one, (two_values, (0, omega arith, refl), refl)), tt),
          ),
        );
      };
    }

pub two-canonical : IsCanonicalRecord demo two_record two_meaning
two-canonical = record {
  form = point-leaf;
  params = (
    1,
    (codes "POINT", (point, refl, refl), refl),
    (
      (value.missing, (value.value value.missing value.no_values, (1, omega arith, refl), refl), tt),
      ((value.real two, (two_values, (0, omega arith, refl), refl), tt), ((value.real one, (two_values, (0, omega arith, refl), refl), tt), tt)),
    ),
  );
}

-- `1.);`
abbrev last_one : Laying → Laying
last_one rest = put (token.real one) (codes "1.") one-spelled (put_right (put_semicolon rest)) right_ends_one

-- a line from its name to `POINT($,`
abbrev point_start : (n : ℕ) (spelling : List ℕ) → SpellsName spelling n → Laying → Laying
point_start n spelling spelled rest =
    put_on_line (name n) spelling spelled
    (put equals (codes "=") refl (put (keyword (codes "POINT")) (codes "POINT") (refl, keyword_by (codes "POINT") tt) (put_left (put token.dollar (codes "$") refl (put_comma rest) tt)) (left_ends_words, no_dash_left)) tt)
    equals_ends_digits

-- `#1=POINT($,1.,1.);`, `#2=POINT($,2.,1.);` and `#2=POINT($,2.0,1.);` on lines of their own
pub one_name : SpellsName (codes "#1") 1
one_name = name_spells 1 (lit< tt)

abbrev pub one_line : Laying → Laying
one_line rest = point_start 1 (codes "#1") one_name (put (token.real one) (codes "1.") one-spelled (put_comma (last_one rest)) comma_ends_one)

abbrev pub short_line : Laying → Laying
short_line rest = point_start 2 (codes "#2") two-spelled (put (token.real two) (codes "2.") short-spelled (put_comma (last_one rest)) short_then_comma)

abbrev pub long_line : Laying → Laying
long_line rest = point_start 2 (codes "#2") two-spelled (put (token.real two) (codes "2.0") long-spelled (put_comma (last_one rest)) long_then_comma)
