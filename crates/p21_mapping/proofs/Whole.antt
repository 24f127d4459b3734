-- A record of which nothing is wrong means what was found.
use Rattle.std.specs.Prelude.{◌≡◌, ◌≢◌, ℕ, suc, List, [], ◌∷◌, ◌++◌, length, map, Contains, refl}
use Rattle.std.specs.List.{AllByRecursion as Each, AllZip, flat_map, zip}
use Rattle.std.proofs.Common.{ap, sym, ◌∙◌, subst, inl, inr}
use Rattle.p21_spec_basics.proofs.Members.{Contains-none, Contains-first, Contains-later, Contains-cases, Contains-mapped, Each-member, Each-of_members, Each-front, Each-back}
use Rattle.p21_spec_basics.proofs.Shuffles.{NoneTwice, distinct-none_twice, zip-one}
use Rattle.p21_spec_laws.proofs.Needs.{means-served, needs-can_be_served, needs-references, served-means, served-places}
use Rattle.p21_spec_laws.specs.Needs.{FitPlacesWithNeeds, AreNeedsOfParts, AreNeedsOfRecord, MeansWithNeeds}
use Rattle.p21_spec_exchange.specs.Parameter.{Param, Params, params_of}
use Rattle.p21_spec_exchange.specs.Record.{Part, Record, simple, complex}
use Rattle.p21_express_graph.specs.Resolved.{HoldsTogether}
use Rattle.p21_express_graph.proofs.OrderTables.{order-tells}
use Rattle.p21_spec_file.proofs.BrokenRules.{broken-means_nothing}
use Rattle.p21_spec_file.proofs.OneMeaning.{NamesEntity-one, RecordMeans-one}
use Rattle.p21_spec_file.specs.Meaning.{Typed, HasValues, HasOwnCount, FitPlaces, PartMeans, MeansByMapping}
use Rattle.p21_spec_file.specs.Reference.{EntitySets, Need, IsServed}
use Rattle.p21_spec_file.specs.Value.{Values, count}
use Rattle.p21_mapping.specs.ArrangedRows.{AreArranged, AreParamsByEntity, HasRows}
use Rattle.p21_mapping.specs.Checked.{IsChecked, IsRefused}
use Rattle.p21_mapping.specs.Rows.{Row, IsRow, FitsRows}
use Rattle.p21_mapping.proofs.RowLists.{HaveValues, row-count, row-known, rows-joined, rows-parts}
use Rattle.p21_mapping.specs.Shape.{AreNamed, IsEntityList, HasShape, Refuses}
use Rattle.p21_mapping_values.specs.KnownTypes.{HaveKnownTypes}
use Rattle.p21_grammar_tree.specs.declared.fault.CheckFault.{CheckFault}
use Rattle.p21_grammar_tree.specs.declared.fault.CheckFault.TheVariants.{NoMemory}
use Rattle.p21_mapping_values.specs.declared.value.Values.{Values as Stored}
use Rattle.p21_grammar_tree.specs.Fault.{fault_number}
use Rattle.p21_mapping_values.specs.TypedView.{rows_view}
use Rattle.p21_mapping_values.specs.View.{row_of_values}
use Rattle.p21_spec_schema.proofs.OrderedOnce.{order-distinct}
use Rattle.p21_spec_schema.specs.Order.{order, places, own_places}
use Rattle.p21_spec_schema.specs.Schema.{Schema, attributes_of}
use Rattle.p21_spec_schema.specs.WellFormed.{IsWellFormed, HasDistinctEntities}
use Rattle.p21_spec_exchange.proofs.Parameters.{params-listed}

pub listed-none_twice : (s : Schema) (r : Record) (es : List ℕ) → IsEntityList s r es → NoneTwice es
listed-none_twice s (simple part) es (e, named, is) = let P : List ℕ
    → Type 0 = λ xs. NoneTwice xs in subst P (sym is) (distinct-none_twice (order s e) (order-distinct s e))
listed-none_twice s (complex parts) es (named, distinct, closed) = distinct-none_twice es distinct

-- what stands beside a member
AllZip-zipped : {X Y : Type 0} (R : X → Y → Type 0) (xs : List X) (ys : List Y) (x : X) → AllZip R xs ys → Contains xs x
    → (y : Y) × Contains (zip xs ys) (x, y) × R x y
AllZip-zipped R [] ys x all among = absurd (Contains-none x among)
AllZip-zipped R (z ∷ xs) [] x all among = absurd all
AllZip-zipped {X} {Y} R (z ∷ xs) (y ∷ ys) x all among = elim (Contains-cases z xs x among) [
  | inl h ↦ (
    y,
    let P : X → Type 0 = λ w. Contains (zip (z ∷ xs) (y ∷ ys)) (w, y) in
        subst P h (Contains-first (z, y) (zip xs ys)),
    let Q : X → Type 0 = λ w. R w y in subst Q h all.0,
  )
  | inr h ↦ let (w, there, is) = AllZip-zipped R xs ys x all.1 h in (w, Contains-later (z, y) (zip xs ys) (x, w) there, is)
]

zip-mapped : {X Y Z : Type 0} (f : X → Y) (g : X → Z) (xs : List X) (x : X) → Contains xs x
    → Contains (zip (map f xs) (map g xs)) (f x, g x)
zip-mapped f g [] x among = absurd (Contains-none x among)
zip-mapped {X} {Y} {Z} f g (y ∷ xs) x among = elim (Contains-cases y xs x among) [
  | inl h ↦ let P : X → Type 0 = λ w. Contains (zip (map f (y ∷ xs)) (map g (y ∷ xs))) (f w, g w) in
      subst P h (Contains-first (f y, g y) (zip (map f xs) (map g xs)))
  | inr h ↦ Contains-later (f y, g y) (zip (map f xs) (map g xs)) (f x, g x) (zip-mapped f g xs x h)
]

zip-unmapped : {X Y Z : Type 0} (f : X → Y) (g : X → Z) (xs : List X) (y : Y) (z : Z) → Contains (zip (map f xs) (map g xs)) (y, z)
    → (x : X) × Contains xs x × (f x ≡ y) × (g x ≡ z)
zip-unmapped f g [] y z among = absurd (Contains-none (y, z) among)
zip-unmapped {X} {Y} {Z} f g (w ∷ xs) y z among = elim (Contains-cases (f w, g w) (zip (map f xs) (map g xs)) (y, z) among) [
  | inl h ↦ (w, Contains-first w xs, ap (λ (p : Y × Z). p.0) h, ap (λ (p : Y × Z). p.1) h)
  | inr h ↦ let (x, there, is, is_) = zip-unmapped f g xs y z h in (x, Contains-later w xs x there, is, is_)
]

AllZip-weaker : {X Y : Type 0} (P Q : X → Y → Type 0) → ((x : X) (y : Y) → P x y → Q x y) → (xs : List X) (ys : List Y) → AllZip P xs ys
    → AllZip Q xs ys
AllZip-weaker P Q weaker [] [] all = tt
AllZip-weaker P Q weaker [] (y ∷ ys) all = absurd all
AllZip-weaker P Q weaker (x ∷ xs) [] all = absurd all
AllZip-weaker P Q weaker (x ∷ xs) (y ∷ ys) all = (weaker x y all.0, AllZip-weaker P Q weaker xs ys all.1)

AllZip-each_second : {X Y : Type 0} (P : X → Y → Type 0) (Q : Y → Type 0) → ((x : X) (y : Y) → P x y → Q y) → (xs : List X) (ys : List Y)
    → AllZip P xs ys → Each Q ys
AllZip-each_second P Q weaker [] [] all = tt
AllZip-each_second P Q weaker [] (y ∷ ys) all = absurd all
AllZip-each_second P Q weaker (x ∷ xs) [] all = absurd all
AllZip-each_second P Q weaker (x ∷ xs) (y ∷ ys) all = (weaker x y all.0, AllZip-each_second P Q weaker xs ys all.1)

parts-mean : (s : Schema) → HasDistinctEntities s → (kinds : EntitySets) (m : Typed) (parts : List Part) (es : List ℕ) (needs : List Need)
    → AreNamed s parts es → AreNeedsOfParts s m parts needs → Each (IsServed s kinds) needs → AllZip (PartMeans s kinds m) parts es
parts-mean s distinct kinds m [] [] needs named need served = tt
parts-mean s distinct kinds m [] (e ∷ es) needs named need served = absurd named
parts-mean s distinct kinds m (p ∷ ps) [] needs named need served = absurd named
parts-mean s distinct kinds m (p ∷ ps) (e ∷ es) needs named (first, more, is, (f, names, fit), rest) served =
    let N : List Need → Type 0 = λ ns. Each (IsServed s kinds) ns in
    let both : Each (IsServed s kinds) (first ++ more) = subst N is served in
    let P : ℕ → Type 0 = λ x. FitPlaces s kinds m (own_places s x) p.params in (
      (
        named.0,
        subst P (NamesEntity-one s distinct p.key f e names named.0)
            (served-places s kinds m (own_places s f) p.params first fit (Each-front (IsServed s kinds) first more both)),
      ),
      parts-mean s distinct kinds m ps es more named.1 rest (Each-back (IsServed s kinds) first more both),
    )

module _ (s : Schema) (formed : IsWellFormed s) (holds : HoldsTogether s) (r : Record) (es entities : List ℕ)
    (shape : HasShape s r es entities) (pss : List (List Param)) (vss : List Values) (needs : List Need)
    (rows : FitsRows s entities es pss vss needs) (cut : AreParamsByEntity r pss)
    (values : List Values) (arranged_rows : AreArranged es vss entities values) where
  abbrev meant : Typed
  meant = record { entities = entities; values = values }

  from-row : (e : ℕ) (vs : Values) → Contains (zip es vss) (e, vs)
      → (row : Row) × IsRow s entities row × (row.owner ≡ e) × (row_of_values row.values ≡ vs)
  from-row e vs among =
      let P : List ℕ → Type 0 = λ xs. Contains (zip xs vss) (e, vs) in
      let Q : List Values → Type 0 = λ xs. Contains (zip (map (λ (row : Row). row.owner) rows.rows) xs) (e, vs) in
      let (row, there, owner_is, values_are) = zip-unmapped (λ (row : Row). row.owner) (λ (row : Row). row_of_values row.values) rows.rows e
      vs (subst Q (sym rows.values_are) (subst P (sym rows.owners_are) among)) in
      (row, Each-member (IsRow s entities) rows.rows row rows.each there, owner_is, values_are)

  have-values : HaveValues meant rows.rows
  have-values = Each-of_members (λ (row : Row). HasValues meant row.owner (row_of_values row.values)) rows.rows one
    where
      one : (row : Row) → Contains rows.rows row → HasValues meant row.owner (row_of_values row.values)
      one row among =
          let P : List ℕ → Type 0 = λ xs. Contains (zip xs vss) (row.owner, row_of_values row.values) in
          let Q : List Values → Type 0 = λ xs. Contains (zip (map (λ (x : Row). x.owner) rows.rows) xs)
          (row.owner, row_of_values row.values) in
          let own : Contains (zip es vss) (row.owner, row_of_values row.values) =
          subst P rows.owners_are (subst Q rows.values_are (zip-mapped (λ (x : Row). x.owner) (λ (x : Row). row_of_values x.values)
          rows.rows row among)) in
          let R : List ℕ → Type 0 = λ xs. Contains xs row.owner in
          let is_listed : Contains es row.owner = subst R rows.owners_are (Contains-mapped (λ (x : Row). x.owner) rows.rows row among) in
          let (vs, there, beside) = AllZip-zipped (λ e ws. Contains (zip es vss) (e, ws)) entities values row.owner arranged_rows
          ((shape.same row.owner).0 is_listed) in
          let same : vs ≡ row_of_values row.values = zip-one es vss row.owner vs (row_of_values row.values)
          (listed-none_twice s r es shape.listed_are) beside own in
          let S : Values → Type 0 = λ ws. Contains (zip entities values) (row.owner, ws) in subst S same there

  record-needs : AreNeedsOfRecord s r meant needs
  record-needs = by r shape.listed_are cut
    where
      by : (q : Record) → IsEntityList s q es → AreParamsByEntity q pss → AreNeedsOfRecord s q meant needs
      by (simple part) (e, named, is) cut_ =
          let P : List ℕ → Type 0 = λ xs. FitPlacesWithNeeds s meant (flat_map (own_places s) xs) part.params needs in
          let Q : Params → Type 0 = λ ps. FitPlacesWithNeeds s meant (flat_map (own_places s) (map (λ (row : Row). row.owner) rows.rows)) ps
          needs in
          let R : List Need → Type 0 = λ ns. FitPlacesWithNeeds s meant (flat_map (own_places s) (map (λ (row : Row). row.owner) rows.rows))
          (params_of (flat_map (λ (ps : List Param). ps) (map (λ (row : Row). row.params) rows.rows))) ns in
          let all = subst R rows.needs_are (rows-joined s meant rows.rows rows.each have-values) in
          let listed_ = subst Q (ap (λ xs. params_of (flat_map (λ (ps : List Param). ps) xs)) rows.params_are ∙ ap params_of cut_
          ∙ params-listed part.params) all in
          (e, named, subst P (rows.owners_are ∙ is) listed_)
      by (complex parts) (named, distinct, closed) cut_ =
          let P : List ℕ → Type 0 = λ xs. AreNamed s parts xs in
          let Q : List Need → Type 0 = λ ns. AreNeedsOfParts s meant parts ns in
          subst Q rows.needs_are (rows-parts s meant parts rows.rows rows.each have-values (subst P (sym rows.owners_are) named)
          (rows.params_are ∙ cut_.0))

  means-by : (kinds : EntitySets) → Each (IsServed s kinds) needs → MeansByMapping s kinds r meant
  means-by kinds served = by r shape.listed_are cut record-needs
    where
      by : (q : Record) → IsEntityList s q es → AreParamsByEntity q pss → AreNeedsOfRecord s q meant needs → MeansByMapping s kinds q meant
      by (simple part) (e, named, is) cut_ (f, names, fit) =
          let P : ℕ → Type 0 = λ x. FitPlaces s kinds meant (places s x) part.params in
          record {
            entity = e;
            named = named;
            closure = λ g. (
              λ among. (order-tells s holds e g).0 (let R : List ℕ → Type 0 = λ xs. Contains xs g in subst R is ((shape.same g).1 among)),
              λ up. (shape.same g).0 (let R : List ℕ → Type 0 = λ xs. Contains xs g in subst R (sym is) ((order-tells s holds e g).1 up)),
            );
            fit = subst P (NamesEntity-one s formed.entities_distinct part.key f e names named)
                (served-places s kinds meant (places s f) part.params needs fit served);
          }
      by (complex parts) (named, distinct, closed) cut_ need = record {
        some_parts = cut_.1;
        entities = es;
        distinct = distinct;
        same_entities = shape.same;
        closed = closed;
        parts_mean = parts-mean s formed.entities_distinct kinds meant parts es needs named need served;
      }

  own-counts : AllZip (HasOwnCount s) entities values
  own-counts = AllZip-weaker (λ e vs. Contains (zip es vss) (e, vs)) (HasOwnCount s)
      (λ e vs among. let (row, is, owner_is, values_are) = from-row e vs among in ap count (sym values_are) ∙ row-count s entities row is
      ∙ ap (λ x. length (attributes_of s x)) owner_is) entities values arranged_rows

  means-with : MeansWithNeeds s r meant needs
  means-with =
      let (kinds, served) = needs-can_be_served s r meant needs record-needs in
      record {
        kinds = kinds;
        means = record {
          rising = shape.rising;
          own_counts = own-counts;
          no_abstract_leaf = shape.no_abstract_leaf;
          no_clash = shape.no_clash;
          place_types = shape.place_types;
          means = means-by kinds served;
        };
        needs_are = record-needs;
      }

  -- it means this, with these needs
  pub is-checked : IsChecked s r meant needs
  is-checked = record {
    means = means-with;
    decided = λ kinds. (means-served s formed r meant needs means-with kinds, served-means s formed r meant needs means-with kinds);
    sole = λ kinds other means. RecordMeans-one s formed kinds means-with.kinds r other meant means means-with.means;
    can_be_served = needs-can_be_served s r meant needs record-needs;
    targets_are = needs-references s r meant needs record-needs;
    known = AllZip-each_second (λ e vs. Contains (zip es vss) (e, vs)) (HaveKnownTypes s)
        (λ e vs among. let (row, is, owner_is, values_are) = from-row e vs among in let P : Values
        → Type 0 = λ ws. HaveKnownTypes s ws in subst P values_are (row-known s entities row is)) entities values arranged_rows;
  }

-- what the rows of a record come to
pub checked : (s : Schema) → IsWellFormed s → HoldsTogether s → (r : Record) (es entities : List ℕ) → HasShape s r es entities
    → (vss : List Values) (needs : List Need) → HasRows s r es entities vss [] needs → (values : List Values)
    → AreArranged es vss entities values
    → IsChecked s r (record { entities = entities; values = values }) needs
checked s formed holds r es entities shape vss needs rows values arranged_rows =
    let P : List Need → Type 0 = λ ns. FitsRows s entities es rows.params vss ns in
    is-checked s formed holds r es entities shape rows.params vss needs (subst P (sym rows.needed) rows.fits) rows.cut values arranged_rows

-- what a refusal comes to
pub refused : (s : Schema) → IsWellFormed s → (r : Record) (fault : CheckFault) → Refuses s r fault → fault ≢ NoMemory → IsRefused s r fault
refused s formed r fault refuses other = record {
  means_nothing =
      λ kinds m means. broken-means_nothing s formed r (fault_number fault) (refuses other) kinds m means;
  breaks = refuses other;
}

-- a row for each entity
pub rows-count : (s : Schema) (r : Record) (es entities : List ℕ) (found : List Stored) (old new : List Need)
    → HasRows s r es entities (rows_view found) old new → length found ≡ length es
rows-count s r es entities found old new rows =
    sym (viewed found) ∙ ap length (sym rows.fits.values_are) ∙ mapped (λ (row : Row). row_of_values row.values) rows.fits.rows
    ∙ sym (mapped (λ (row : Row). row.owner) rows.fits.rows) ∙ ap length rows.fits.owners_are
  where
    viewed : (xs : List Stored) → length (rows_view xs) ≡ length xs
    viewed [] = refl
    viewed (x ∷ xs) = ap suc (viewed xs)

    mapped : {Y : Type 0} (g : Row → Y) (xs : List Row) → length (map g xs) ≡ length xs
    mapped g [] = refl
    mapped g (x ∷ xs) = ap suc (mapped g xs)
