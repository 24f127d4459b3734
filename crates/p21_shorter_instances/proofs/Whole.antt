-- An instance whose simple records are those of a set of external mapping means something, and has a canonical text.
use Rattle.std.proofs.Common.{◌≡◌, ◌∙◌, ℕ, ◌<◌, List, [], ◌∷◌, ◌++◌, length, map, Contains, refl, ap, sym, subst, arith, append_assoc}
use Rattle.std.proofs.lemmas.List.{length-map, map-append}
use Rattle.std.specs.List.{AllByRecursion as Each, AllZip, flat_map}
use Rattle.std.specs.Prelude.{codes}
use Rattle.p21_spec_basics.proofs.Members.{Each-append, Each-apart, Each-back, Each-front}
use Rattle.p21_spec_basics.proofs.Shuffles.{distinct-none_twice}
use Rattle.p21_spec_laws.proofs.CanonicalLaid.{statement_laid}
use Rattle.p21_spec_laws.proofs.Needs.{AreServed, needs-can_be_served, served-places}
use Rattle.p21_spec_laws.proofs.ParamTexts.{list-is, tokens_text-append}
use Rattle.p21_spec_laws.proofs.Printing.{canonical-same_typed, canonical_typed, means-with, part-plain, part-said}
use Rattle.p21_spec_laws.proofs.RecordOnce.{part-written, words}
use Rattle.p21_spec_laws.specs.Needs.{FitPlacesWithNeeds, MeansWithNeeds, AreNeedsOfParts}
use Rattle.p21_spec_laws.specs.Written.{IsWrittenStatement}
use Rattle.p21_spec_exchange.specs.Token.{IsSpelled, Token}
use Rattle.p21_spec_laws.proofs.RisingTexts.{strict-rises}
use Rattle.p21_spec_exchange.specs.CanonicalText.{statement_text, tokens_text}
use Rattle.p21_spec_exchange.specs.Grammar.{IsDataRecord, IsNoUserKeyword, IsShallowPart}
use Rattle.p21_spec_exchange.specs.Laying.{Laid}
use Rattle.p21_spec_exchange.specs.Parameter.{key_of}
use Rattle.p21_spec_exchange.specs.Record.{Part, complex, part_tokens, record_tokens}
use Rattle.p21_spec_exchange.specs.Spelling.{name_spelling}
use Rattle.p21_spec_exchange.specs.Statement.{instance, statement_tokens}
use Rattle.p21_spec_exchange.specs.Token as token
use Rattle.p21_spec_file.proofs.OneMeaning.{EntityNamed-one}
use Rattle.p21_spec_file.proofs.SameFiles.{SameTyped-symmetric}
use Rattle.p21_spec_file.specs.CanonicalRecord.{AreCanonicalAt, AreTextsRising, HasOneLeaf, IsCanonicalPart}
use Rattle.p21_spec_file.specs.CanonicalTexts.{IsInstanceText}
use Rattle.p21_spec_file.specs.Meaning.{FitPlaces, HasValueAt, MeansExternal, PartMeans, RecordMeans, Typed}
use Rattle.p21_spec_file.specs.Reference.{IsServed, EntitySets, Need}
use Rattle.p21_spec_file.specs.ValueText.{with_commas_between}
use Rattle.p21_spec_schema.specs.Order.{own_places}
use Rattle.p21_spec_schema.specs.Schema.{EntityNamed, Place, Schema}
use Rattle.p21_shorter_instances.proofs.LaidRuns.{laid-spelled, takes-join, takes-mark}
use Rattle.p21_shorter_instances.proofs.Meaning.{all-shallow, fit-with}
use Rattle.p21_shorter_instances.proofs.Plain.{placed-plain}
use Rattle.p21_shorter_instances.proofs.Rows.{HasMeaning, has-meaning}
use Rattle.p21_shorter_instances.proofs.Texts.{AreMeant, canonical-fit, canonical-spelled, canonical-stand, canonical_at, texts-are}
use Rattle.p21_shorter_instances.specs.Instance.{TakesInstance}
use Rattle.p21_shorter_instances.specs.Records.{IsOwnRecord, OwnRecord, TakesRecord, needs_in, own_record_text, own_record_texts, owners_at, part_of, parts_at}
use Rattle.p21_shorter_instances.specs.TakenParameters.{PlacedParameter, TakesTokens, TakesDelimiter, needs_at, params_at, places_at}
use Rattle.p21_shorter_instances.specs.ExternalSet.{IsExternalSet}
use Rattle.p21_shorter_instances.specs.declared.taken.Taken.{Taken}
use Rattle.p21_shorter_instances.specs.TakenValues.{LaidBefore, with_text}

-- ---- the places of all simple records

abbrev placed_in : List OwnRecord → List PlacedParameter
placed_in os = flat_map (λ (o : OwnRecord). o.placed) os

all-places : (s : Schema) (entities : List ℕ) (os : List OwnRecord) → Each (IsOwnRecord s entities) os
    → places_at (placed_in os) ≡ flat_map (own_places s) (owners_at os)
all-places s entities [] each = refl
all-places s entities (o ∷ os) each =
    map-append (λ (p : PlacedParameter). p.place) o.placed (placed_in os)
    ∙ ap (λ (xs : List Place). xs ++ places_at (placed_in os)) each.0.places_are
    ∙ ap (λ (xs : List Place). own_places s o.owner ++ xs) (all-places s entities os each.1)

some-parts : (os : List OwnRecord) (e : ℕ) → Contains (owners_at os) e → 0 < length (parts_at os)
some-parts [] e (k, below, is) = absurd (omega (arith, below))
some-parts (o ∷ os) e among = omega arith

-- ---- each simple record by itself

module _ (s : Schema) (entities : List ℕ) where
  parts-plain : (os : List OwnRecord) → Each (IsOwnRecord s entities) os → Each IsNoUserKeyword (flat_map part_tokens (parts_at os))
  parts-plain [] each = tt
  parts-plain (o ∷ os) each =
      Each-append IsNoUserKeyword (part_tokens (part_of o)) (flat_map part_tokens (parts_at os))
      (part-plain (part_of o) tt (placed-plain s entities o.placed each.0.each)) (parts-plain os each.1)

  parts-shallow : (os : List OwnRecord) → Each (IsOwnRecord s entities) os → Each IsShallowPart (parts_at os)
  parts-shallow [] each = tt
  parts-shallow (o ∷ os) each = (all-shallow s entities o.placed each.0.each, parts-shallow os each.1)

module _ (s : Schema) (m : Typed) where
  own-fit : (o : OwnRecord) → IsOwnRecord s m.entities o → AreMeant m o.placed
      → FitPlacesWithNeeds s m (own_places s o.owner) (params_at o.placed) (needs_at o.placed)
  own-fit o is has = subst (λ (xs : List Place). FitPlacesWithNeeds s m xs (params_at o.placed) (needs_at o.placed)) is.places_are
      (fit-with s m o.placed is.each has)

  parts-need : (os : List OwnRecord) → Each (IsOwnRecord s m.entities) os → Each (λ (o : OwnRecord). AreMeant m o.placed) os
      → AreNeedsOfParts s m (parts_at os) (needs_in os)
  parts-need [] each has = refl
  parts-need (o ∷ os) each has = (
    needs_at o.placed,
    needs_in os,
    refl,
    (o.owner, (o.word, each.0.named, refl), own-fit o each.0 has.0),
    parts-need os each.1 has.1,
  )

  module _ (kinds : EntitySets) where
    parts-mean : (os : List OwnRecord) → Each (IsOwnRecord s m.entities) os → Each (λ (o : OwnRecord). AreMeant m o.placed) os
        → AreServed s kinds (needs_in os)
        → AllZip (PartMeans s kinds m) (parts_at os) (owners_at os)
    parts-mean [] each has served = tt
    parts-mean (o ∷ os) each has served = (
      (
        (o.word, each.0.named, refl),
        served-places s kinds m (own_places s o.owner) (params_at o.placed) (needs_at o.placed)
            (own-fit o each.0 has.0) (Each-front (IsServed s kinds) (needs_at o.placed) (needs_in os) served),
      ),
      parts-mean os each.1 has.1 (Each-back (IsServed s kinds) (needs_at o.placed) (needs_in os) served),
    )

-- ---- the canonical simple records

abbrev canonical_part : Schema → OwnRecord → Part
canonical_part s o = record { key = key_of o.word; params = canonical_at s o.placed }

abbrev canonical_parts : Schema → List OwnRecord → List Part
canonical_parts s os = map (canonical_part s) os

module _ (s : Schema) (m : Typed) where
  canonical-stands : (os : List OwnRecord) → Each (IsOwnRecord s m.entities) os → Each (λ (o : OwnRecord). AreMeant m o.placed) os
      → Each (IsCanonicalPart s (canonical_typed s m)) (canonical_parts s os)
  canonical-stands [] each has = tt
  canonical-stands (o ∷ os) each has = (
    (
      o.owner,
      (o.word, each.0.named, refl),
      subst (λ (xs : List Place). AreCanonicalAt (canonical_typed s m) xs (canonical_at s o.placed))
          each.0.places_are (canonical-stand s m o.placed has.0),
    ),
    canonical-stands os each.1 has.1,
  )

  module _ (kinds : EntitySets) where
    canonical-mean : (os : List OwnRecord) → Each (IsOwnRecord s m.entities) os → Each (λ (o : OwnRecord). AreMeant m o.placed) os
        → AreServed s kinds (needs_in os)
        → AllZip (PartMeans s kinds (canonical_typed s m)) (canonical_parts s os) (owners_at os)
    canonical-mean [] each has served = tt
    canonical-mean (o ∷ os) each has served = (
      (
        (o.word, each.0.named, refl),
        subst (λ (xs : List Place). FitPlaces s kinds (canonical_typed s m) xs (canonical_at s o.placed)) each.0.places_are
            (canonical-fit s kinds m o.placed each.0.each has.0 (Each-front (IsServed s kinds) (needs_at o.placed) (needs_in os) served)),
      ),
      canonical-mean os each.1 has.1 (Each-back (IsServed s kinds) (needs_at o.placed) (needs_in os) served),
    )

    canonical-said : (os : List OwnRecord) (rest : List Token) → Each (IsOwnRecord s m.entities) os → AreServed s kinds (needs_in os)
        → Each IsSpelled (flat_map part_tokens (parts_at os) ++ rest) → Each IsSpelled (flat_map part_tokens (canonical_parts s os))
    canonical-said [] rest each served spelled = tt
    canonical-said (o ∷ os) rest each served spelled =
        let behind : List Token = flat_map part_tokens (parts_at os) ++ rest in
        let whole : Each IsSpelled (part_tokens (part_of o) ++ behind) =
        subst (Each IsSpelled) (append_assoc (part_tokens (part_of o)) (flat_map part_tokens (parts_at os)) rest) spelled in
        let params = part-written (part_of o) (Each-front IsSpelled (part_tokens (part_of o)) behind whole) in
        Each-append IsSpelled (part_tokens (canonical_part s o)) (flat_map part_tokens (canonical_parts s os))
        (part-said (canonical_part s o) whole.0 (canonical-spelled s kinds m.entities o.placed each.0.each
        (Each-front (IsServed s kinds) (needs_at o.placed) (needs_in os) served) params))
        (canonical-said os rest each.1 (Each-back (IsServed s kinds) (needs_at o.placed) (needs_in os) served)
        (Each-back IsSpelled (part_tokens (part_of o)) behind whole))

-- their keywords are the names of their entities
words-are : (s : Schema) (entities : List ℕ) (os : List OwnRecord) (names : List (List ℕ)) → Each (IsOwnRecord s entities) os
    → AllZip (EntityNamed s) (owners_at os) names
    → words (canonical_parts s os) ≡ names
words-are s entities [] [] each named = refl
words-are s entities [] (n ∷ names) each named = absurd named
words-are s entities (o ∷ os) [] each named = absurd named
words-are s entities (o ∷ os) (n ∷ names) each named =
    ap (λ (w : List ℕ). w ∷ words (canonical_parts s os)) (EntityNamed-one s o.owner o.word n each.0.named named.0)
    ∙ ap (λ (ws : List (List ℕ)). n ∷ ws) (words-are s entities os names each.1 named.1)

-- ---- texts

part-text : (s : Schema) (o : OwnRecord) → tokens_text (part_tokens (canonical_part s o)) ≡ own_record_text s o
part-text s o =
    ap (λ (x : List ℕ). o.word ++ x) (list-is (canonical_at s o.placed))
    ∙ ap (λ (xs : List (List ℕ)). o.word ++ (40 ∷ (with_commas_between xs ++ (41 ∷ [])))) (texts-are s o.placed)

parts-text : (s : Schema) (os : List OwnRecord) → tokens_text (flat_map part_tokens (canonical_parts s os)) ≡ own_record_texts s os
parts-text s [] = refl
parts-text s (o ∷ os) =
    tokens_text-append (part_tokens (canonical_part s o)) (flat_map part_tokens (canonical_parts s os))
    ∙ ap (λ (x : List ℕ). x ++ tokens_text (flat_map part_tokens (canonical_parts s os))) (part-text s o)
    ∙ ap (λ (x : List ℕ). own_record_text s o ++ x) (parts-text s os)

-- the name, `=`, the simple records in parentheses and `;`
line-is : (s : Schema) (n : ℕ) (os : List OwnRecord)
    → (name_spelling n ++ 61 ∷ []) ++ (40 ∷ (own_record_texts s os ++ (41 ∷ 59 ∷ []))) ≡ statement_text
    (instance n (complex (canonical_parts s os)))
line-is s n os =
    let parts : List Token = flat_map part_tokens (canonical_parts s os) in
    let inside : List Token = parts ++ (token.right ∷ []) in
    let closed : tokens_text inside ≡ own_record_texts s os ++ (41 ∷ []) = tokens_text-append parts (token.right ∷ [])
    ∙ ap (λ (x : List ℕ). x ++ (41 ∷ [])) (parts-text s os) in
    let ended : tokens_text (inside ++ (token.semicolon ∷ [])) ≡ own_record_texts s os ++ (41 ∷ 59 ∷ []) =
    tokens_text-append inside (token.semicolon ∷ []) ∙ ap (λ (x : List ℕ). x ++ (59 ∷ [])) closed
    ∙ append_assoc (own_record_texts s os) (41 ∷ []) (59 ∷ []) in
    append_assoc (name_spelling n) (61 ∷ []) (40 ∷ (own_record_texts s os ++ (41 ∷ 59 ∷ [])))
    ∙ ap (λ (x : List ℕ). name_spelling n ++ (61 ∷ (40 ∷ x))) (sym ended)

-- ---- the whole

module _ (s : Schema) (entities : List ℕ) (usual : IsExternalSet s entities) (os : List OwnRecord) (each : Each (IsOwnRecord s entities) os)
    (owners_are : owners_at os ≡ entities) where
  none_one : HasOneLeaf s entities → ⊥
  none_one one = let (e, f, differ, leaf, other) = usual.several_leaves in differ (one.2 e leaf ∙ sym (one.2 f other))

  values : HasMeaning s entities (placed_in os)
  values =
      has-meaning s entities entities (placed_in os) (distinct-none_twice entities usual.distinct) (λ f among. among) (λ f among. among)
      (all-places s entities os each ∙ ap (flat_map (own_places s)) owners_are)

  abbrev meant : Typed
  meant = record { entities = entities; values = values.values }

  has : Each (λ (o : OwnRecord). AreMeant meant o.placed) os
  has = Each-apart (λ (p : PlacedParameter). HasValueAt meant p.place p.value) (λ (o : OwnRecord). o.placed) os values.each

  some : 0 < length (parts_at os)
  some = let (e, f, differ, leaf, other) = usual.several_leaves in
      some-parts os e (subst (λ (xs : List ℕ). Contains xs e) (sym owners_are) leaf.0)

  need : AreNeedsOfParts s meant (parts_at os) (needs_in os)
  need = parts-need s meant os each has

  served : (kinds : EntitySets) × AreServed s kinds (needs_in os)
  served = needs-can_be_served s (complex (parts_at os)) meant (needs_in os) need

  by-mapping : (m : Typed) → m.entities ≡ entities → (parts : List Part) → 0 < length parts
      → AllZip (PartMeans s served.0 m) parts (owners_at os)
      → MeansExternal s served.0 parts m
  by-mapping m same parts some_ mean = record {
    some_parts = some_;
    entities = entities;
    distinct = usual.distinct;
    same_entities = λ f. (subst (λ (xs : List ℕ). Contains xs f) (sym same), subst (λ (xs : List ℕ). Contains xs f) same);
    closed = usual.closed;
    parts_mean = subst (AllZip (PartMeans s served.0 m) parts) owners_are mean;
  }

  record-means : RecordMeans s served.0 (complex (parts_at os)) meant
  record-means = record {
    rising = usual.rising;
    own_counts = values.counts;
    no_abstract_leaf = usual.no_abstract_leaf;
    no_clash = usual.passes.0;
    place_types = usual.passes.1;
    means = by-mapping meant refl (parts_at os) some (parts-mean s meant served.0 os each has served.1);
  }

  means-so : MeansWithNeeds s (complex (parts_at os)) meant (needs_in os)
  means-so = record { kinds = served.0; means = record-means; needs_are = need }

  data-record : IsDataRecord (complex (parts_at os))
  data-record = record {
    some_parts = some;
    shallow = parts-shallow s entities os each;
    no_user_keywords = (
      tt,
      Each-append IsNoUserKeyword (flat_map part_tokens (parts_at os)) (token.right ∷ [])
          (parts-plain s entities os each) (tt, tt),
    );
  }

  -- ---- its canonical text

  some-canonical : 0 < length (canonical_parts s os)
  some-canonical = let count = length-map os part_of in let count_ = length-map os (canonical_part s) in omega (arith, some, count, count_)

  keywords : AreTextsRising (words (canonical_parts s os))
  keywords =
      let (names, named, rise) = usual.rising in
      subst AreTextsRising (sym (words-are s entities os names each
      (subst (λ (xs : List ℕ). AllZip (EntityNamed s) xs names) (sym owners_are) named))) (strict-rises names rise)

  module _ (n : ℕ) (spelled : IsWrittenStatement (instance n (complex (parts_at os)))) where
    written : IsWrittenStatement (instance n (complex (canonical_parts s os)))
    written =
        let inside = Each-front IsSpelled (record_tokens (complex (parts_at os))) (token.semicolon ∷ []) spelled.1.1 in
        let said = canonical-said s meant served.0 os (token.right ∷ []) each served.1 inside.1 in
        let all : Each IsSpelled (record_tokens (complex (canonical_parts s os))) =
        (inside.0, Each-append IsSpelled (flat_map part_tokens (canonical_parts s os)) (token.right ∷ []) said ((codes ")", refl), tt)) in (
          spelled.0,
          (
            spelled.1.0,
            Each-append IsSpelled (record_tokens (complex (canonical_parts s os))) (token.semicolon ∷ []) all
                ((codes ";", refl), tt),
          ),
        )

    text-is : (text : List ℕ) → text ≡ statement_text (instance n (complex (canonical_parts s os)))
        → IsInstanceText s n (complex (parts_at os)) text
    text-is text is_text = record {
      kinds = served.0;
      meaning = meant;
      means = record-means;
      canonical = complex (canonical_parts s os);
      canonical_meaning = canonical_typed s meant;
      canonical_means = means-with s served.0 (complex (parts_at os)) (complex (canonical_parts s os)) meant record-means
          (by-mapping (canonical_typed s meant) refl (canonical_parts s os) some-canonical
          (canonical-mean s meant served.0 os each has served.1));
      same = SameTyped-symmetric meant (canonical_typed s meant) (canonical-same_typed s meant);
      is_canonical = record { form = (none_one, keywords); params = canonical-stands s meant os each has };
      text_is = is_text;
      laid = subst (λ (x : List ℕ). Laid x (statement_tokens (instance n (complex (canonical_parts s os))))) (sym is_text)
          (statement_laid (instance n (complex (canonical_parts s os))) written);
    }

-- ---- what is taken

-- the parts of an instance one behind the other
pub external-taken : (s : Schema) (entities : List ℕ) → IsExternalSet s entities
    → (n : ℕ) (bytes keyed inside rest : List ℕ) (old : Taken) (headed opened : List ℕ) (new : Taken)
    → TakesTokens (token.name n ∷ token.equals ∷ []) (name_spelling n ++ 61 ∷ []) bytes keyed old.draft headed
    → TakesDelimiter 40 keyed inside headed opened
    → TakesRecord s entities inside rest (with_text opened old) new → TakesInstance s n entities bytes rest old new
external-taken s entities usual n bytes keyed inside rest old headed opened new head mark h =
    let os : List OwnRecord = h.parts.owned in
    let parts : List Part = parts_at os in
    let ts : List Token = flat_map part_tokens parts in
    let t : List ℕ = own_record_texts s os in
    let left : TakesTokens (token.left ∷ []) (40 ∷ []) keyed inside headed opened =
    takes-mark 40 token.left keyed inside headed opened refl (λ byte. tt) mark in
    let own : TakesTokens ts t inside h.middle opened h.between = record { laid = h.parts.laid; appended = h.parts.text_is } in
    let closed = takes-join ts (token.right ∷ token.semicolon ∷ []) t (41 ∷ 59 ∷ []) inside h.middle rest opened h.between new.draft own
    h.end in
    let listed = takes-join (token.left ∷ []) (ts ++ (token.right ∷ token.semicolon ∷ [])) (40 ∷ []) (t ++ (41 ∷ 59 ∷ [])) keyed inside rest
    headed opened new.draft left closed in
    let all =
    takes-join (token.name n ∷ token.equals ∷ []) (token.left ∷ (ts ++ (token.right ∷ token.semicolon ∷ []))) (name_spelling n ++ 61 ∷ [])
    (40 ∷ (t ++ (41 ∷ 59 ∷ []))) bytes keyed rest old.draft headed new.draft head listed in
    let tokens : token.name n ∷ token.equals ∷ token.left ∷ (ts ++ (token.right ∷ token.semicolon ∷ [])) ≡ statement_tokens
    (instance n (complex parts)) =
    ap (λ (xs : List Token). token.name n ∷ token.equals ∷ token.left ∷ xs)
    (sym (append_assoc ts (token.right ∷ []) (token.semicolon ∷ []))) in
    let laid : LaidBefore bytes (statement_tokens (instance n (complex parts))) rest =
    subst (λ (xs : List Token). LaidBefore bytes xs rest) tokens all.laid in
    let text : List ℕ = (name_spelling n ++ 61 ∷ []) ++ (40 ∷ (t ++ (41 ∷ 59 ∷ []))) in
    record {
      record_ = complex parts;
      laid = laid;
      data_record = data-record s entities usual os h.parts.each h.parts.owners_are;
      meaning = meant s entities usual os h.parts.each h.parts.owners_are;
      set_is = refl;
      added = h.parts.added;
      needs_are = h.parts.needs_are;
      means = subst (λ (ns : List Need). MeansWithNeeds s (complex parts) (meant s entities usual os h.parts.each h.parts.owners_are) ns)
          h.parts.added_are (means-so s entities usual os h.parts.each h.parts.owners_are);
      text = text;
      text_is = text-is s entities usual os h.parts.each h.parts.owners_are n
          (laid-spelled bytes rest (statement_tokens (instance n (complex parts))) laid) text (line-is s n os);
      appended = all.appended;
    }
