-- The parameters of a record stand for the values of its meaning.
use Rattle.std.proofs.Common.{◌≡◌, ℕ, List, [], ◌∷◌, ◌++◌, length, refl, arith}
use Rattle.std.specs.List.{AllZip, zip}
use Rattle.p21_spec_basics.proofs.Members.{Each-append}
use Rattle.p21_spec_exchange.specs.Parameter.{Params, no_params, param, listed}
use Rattle.p21_spec_exchange.specs.Record.{Part, Record, simple, complex}
use Rattle.p21_spec_file.specs.CanonicalTexts.{IsInstanceText}
use Rattle.p21_spec_file.specs.Meaning.{FitPlaces, FitsPlace, MeansByMapping, PartMeans, Typed}
use Rattle.p21_spec_file.specs.Reference.{EntitySets}
use Rattle.p21_spec_schema.specs.Order.{places, own_places}
use Rattle.p21_spec_schema.specs.Schema.{Place, Schema}
use Rattle.p21_model.specs.Rows.{AreMeant, ArePartsRows, AreRowsOf, Row}
use Rattle.p21_model.specs.Told.{AreTold}

fit-many : (s : Schema) (kinds : EntitySets) (meaning : Typed) (found : List Place) (ps : Params) → FitPlaces s kinds meaning found ps
    → length found ≡ length (listed ps)
fit-many s kinds meaning [] no_params fit = refl
fit-many s kinds meaning [] (param p ps) fit = absurd fit
fit-many s kinds meaning (place ∷ found) no_params fit = absurd fit
fit-many s kinds meaning (place ∷ found) (param p ps) fit = let more = fit-many s kinds meaning found ps fit.1 in omega (arith, more)

fit-each : (s : Schema) (kinds : EntitySets) (meaning : Typed) (found : List Place) (ps : Params) → FitPlaces s kinds meaning found ps
    → AreMeant s kinds meaning (zip found (listed ps))
fit-each s kinds meaning [] no_params fit = tt
fit-each s kinds meaning [] (param p ps) fit = absurd fit
fit-each s kinds meaning (place ∷ found) no_params fit = absurd fit
fit-each s kinds meaning (place ∷ found) (param p ps) fit = (fit.0, fit-each s kinds meaning found ps fit.1)

-- rows of a record, which are meant
record HasRows (s : Schema) (kinds : EntitySets) (meaning : Typed) (Are : List Row → Type 0) : Type 0 where
  rows : List Row
  are : Are rows
  meant : AreMeant s kinds meaning rows

parts-rows : (s : Schema) (kinds : EntitySets) (meaning : Typed) (parts : List Part) (entities : List ℕ)
    → AllZip (PartMeans s kinds meaning) parts entities → HasRows s kinds meaning (ArePartsRows s parts)
parts-rows s kinds meaning [] [] all = record { rows = []; are = refl; meant = tt }
parts-rows s kinds meaning [] (e ∷ es) all = absurd all
parts-rows s kinds meaning (part ∷ parts) [] all = absurd all
parts-rows s kinds meaning (part ∷ parts) (e ∷ es) all =
    let own = zip (own_places s e) (listed part.params) in
    let later = parts-rows s kinds meaning parts es all.1 in
    record {
      rows = own ++ later.rows;
      are = (
        own,
        later.rows,
        record {
          entity = e;
          named = all.0.0;
          as_many =
              fit-many s kinds meaning (own_places s e) part.params all.0.1;
          rows_are = refl;
        },
        later.are,
        refl,
      );
      meant = Each-append (λ (row : Row). FitsPlace s kinds meaning row.0 row.1) own later.rows
          (fit-each s kinds meaning (own_places s e) part.params all.0.1) later.meant;
    }

record-rows : (s : Schema) (kinds : EntitySets) (record_ : Record) (meaning : Typed) → MeansByMapping s kinds record_ meaning
    → HasRows s kinds meaning (AreRowsOf s record_)
record-rows s kinds (simple part) meaning means = record {
  rows = zip (places s means.entity) (listed part.params);
  are = record {
    entity = means.entity;
    named = means.named;
    as_many =
        fit-many s kinds meaning (places s means.entity) part.params means.fit;
    rows_are = refl;
  };
  meant = fit-each s kinds meaning (places s means.entity) part.params means.fit;
}
record-rows s kinds (complex parts) meaning means = parts-rows s kinds meaning parts means.entities means.parts_mean

-- what an instance's line tells
pub record IsTold {s : Schema} {n : ℕ} {record_ : Record} {text : List ℕ} (stated : IsInstanceText s n record_ text) : Type 0 where
  pub rows : List Row
  pub told : AreTold stated rows

pub told : (s : Schema) (n : ℕ) (record_ : Record) (text : List ℕ) (stated : IsInstanceText s n record_ text) → IsTold stated
told s n record_ text stated =
    let found = record-rows s stated.kinds stated.canonical stated.canonical_meaning stated.canonical_means.means in
    record { rows = found.rows; told = record { are = found.are; meant = found.meant } }
