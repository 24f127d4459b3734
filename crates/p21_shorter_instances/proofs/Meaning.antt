-- An instance whose parameters stand at the places of an entity means something, and has a canonical text.
use Rattle.std.proofs.Common.{◌≡◌, ℕ, List, [], ◌∷◌, ◌++◌, Contains, refl, ap, sym, subst, arith, append_assoc}
use Rattle.std.proofs.lemmas.Option.{slice_get_within}
use Rattle.std.specs.List.{AllByRecursion as Each}
use Rattle.std.specs.Prelude.{◌↔◌, codes}
use Rattle.p21_spec_basics.proofs.Members.{Each-append, Each-front, Each-weaker}
use Rattle.p21_spec_basics.proofs.Shuffles.{distinct-none_twice}
use Rattle.p21_spec_laws.proofs.CanonicalLaid.{statement_laid}
use Rattle.p21_spec_laws.proofs.Leaves.{closure-leaf}
use Rattle.p21_spec_laws.proofs.Needs.{AreServed, needs-can_be_served, served-places}
use Rattle.p21_spec_laws.proofs.OfType.{AreWritten}
use Rattle.p21_spec_laws.proofs.Printing.{canonical-same_typed, canonical_typed, means-with, part-plain, part-said}
use Rattle.p21_spec_laws.proofs.RecordOnce.{part-written}
use Rattle.p21_spec_laws.specs.Needs.{FitPlacesWithNeeds, MeansWithNeeds, AreNeedsOfRecord}
use Rattle.p21_spec_laws.specs.Written.{IsWrittenStatement}
use Rattle.p21_spec_exchange.specs.Token.{IsSpelled, Token}
use Rattle.p21_spec_exchange.specs.CanonicalText.{statement_text}
use Rattle.p21_spec_exchange.specs.Grammar.{IsDataRecord}
use Rattle.p21_spec_exchange.specs.Laying.{Laid}
use Rattle.p21_spec_exchange.specs.Nesting.{IsShallow}
use Rattle.p21_spec_exchange.specs.Parameter.{key_of, params_tokens}
use Rattle.p21_spec_exchange.specs.Record.{Part, record_tokens, simple}
use Rattle.p21_spec_exchange.specs.Spelling.{name_spelling}
use Rattle.p21_spec_exchange.specs.Statement.{instance, statement_tokens}
use Rattle.p21_spec_exchange.specs.Token as token
use Rattle.p21_express_graph.proofs.OrderTables.{order-tells}
use Rattle.p21_express_graph.specs.Resolved.{HoldsTogether, IsEntity}
use Rattle.p21_express_graph.specs.Rising.{HaveSame, IsOwnRising}
use Rattle.p21_spec_file.proofs.SameFiles.{SameTyped-symmetric}
use Rattle.p21_spec_file.specs.CanonicalRecord.{AreCanonicalAt}
use Rattle.p21_spec_file.specs.CanonicalTexts.{IsInstanceText}
use Rattle.p21_spec_file.specs.Meaning.{FitPlaces, NamesEntity, RecordMeans, Typed}
use Rattle.p21_spec_file.specs.Reference.{EntitySets, Need}
use Rattle.p21_mapping.proofs.OwnSets.{own-passes, type-same}
use Rattle.p21_mapping.proofs.Shapes.{simple-no_leaf}
use Rattle.p21_spec_schema.proofs.OrderedOnce.{order-distinct}
use Rattle.p21_spec_schema.specs.Order.{order, places}
use Rattle.p21_spec_schema.specs.Schema.{EntityNamed, Place, Schema}
use Rattle.p21_spec_schema.specs.Supertype.{IsA}
use Rattle.p21_spec_schema.specs.WellFormed.{IsWellFormed}
use Rattle.p21_shorter_instances.proofs.LaidRuns.{laid-spelled, takes-join}
use Rattle.p21_shorter_instances.proofs.Plain.{placed-plain}
use Rattle.p21_shorter_instances.proofs.Rows.{HasMeaning, has-meaning}
use Rattle.p21_shorter_instances.proofs.Texts.{AreMeant, canonical-fit, canonical-spelled, canonical-stand, canonical_at, line-is}
use Rattle.p21_shorter_instances.proofs.Stepping.{enclosed}
use Rattle.p21_shorter_instances.specs.Instance.{BeginsOwn, TakesInstance}
use Rattle.p21_shorter_instances.specs.TakenParameters.{IsPlacedParameter, PlacedParameter, TakesTokens, TakesEntity, TakesParameters, TakesSteps, body_text, body_tokens, needs_at, params_at, places_at, texts_at}
use Rattle.p21_shorter_instances.specs.Prepared.{PreparedStep}
use Rattle.p21_shorter_instances.specs.Steps.{ArePreparedAt, AreStepsAt, MayStandAlone}
use Rattle.p21_shorter_instances.specs.declared.step.Step.{Step}
use Rattle.p21_shorter_instances.specs.declared.taken.Taken.{Taken}
use Rattle.p21_shorter_instances.specs.TakenValues.{LaidBefore, with_text}

pub fit-with : (s : Schema) (m : Typed) (ps : List PlacedParameter) → Each (IsPlacedParameter s m.entities) ps → AreMeant m ps
    → FitPlacesWithNeeds s m (places_at ps) (params_at ps) (needs_at ps)
fit-with s m [] each has = refl
fit-with s m (p ∷ ps) each has = (
  p.needs,
  needs_at ps,
  refl,
  (each.0.at, p.value, each.0.type_at, each.0.fits, has.0),
  fit-with s m ps
      each.1 has.1,
)

pub all-shallow : (s : Schema) (entities : List ℕ) (ps : List PlacedParameter) → Each (IsPlacedParameter s entities) ps
    → IsShallow (params_at ps)
all-shallow s entities [] each = omega arith
all-shallow s entities (p ∷ ps) each = let first = each.0.shallow in let more = all-shallow s entities ps each.1 in
    omega (arith, first, more)

module _ (s : Schema) (formed : IsWellFormed s) (holds : HoldsTogether s) (e : ℕ) (is : IsEntity s e) (may : MayStandAlone s e)
    (word : List ℕ) (named : EntityNamed s e word) (ps : List PlacedParameter) (placed : Each (IsPlacedParameter s (order s e)) ps)
    (at_places : places_at ps ≡ places s e) (set : List ℕ) (set-is : IsOwnRising s e set) where
  same : HaveSame (order s e) set
  same = set-is.0

  values : HasMeaning s set ps
  values = has-meaning s (order s e) set ps (distinct-none_twice (order s e) (order-distinct s e)) (λ f. (same f).0) (λ f. (same f).1)
      at_places

  abbrev meant : Typed
  meant = record { entities = set; values = values.values }

  in_set : Each (IsPlacedParameter s set) ps
  in_set =
      Each-weaker (IsPlacedParameter s (order s e)) (IsPlacedParameter s set)
      (λ p here. record {
        at = here.at;
        type_at = type-same s (order s e) set same p.place here.at here.type_at;
        fits =
            here.fits;
        shallow = here.shallow;
      }) ps placed

  abbrev own : Part
  own = record { key = key_of word; params = params_at ps }

  names : NamesEntity s (key_of word) e
  names = (word, named, refl)

  closure : (f : ℕ) → Contains set f ↔ IsA s e f
  closure f = (λ among. (order-tells s holds e f).0 ((same f).1 among), λ up. (same f).0 ((order-tells s holds e f).1 up))

  fit : FitPlacesWithNeeds s meant (places s e) (params_at ps) (needs_at ps)
  fit = subst (λ (xs : List Place). FitPlacesWithNeeds s meant xs (params_at ps) (needs_at ps)) at_places
      (fit-with s meant ps in_set values.each)

  needs-are : AreNeedsOfRecord s (simple own) meant (needs_at ps)
  needs-are = (e, names, fit)

  served : (kinds : EntitySets) × AreServed s kinds (needs_at ps)
  served = needs-can_be_served s (simple own) meant (needs_at ps) needs-are

  record-means : RecordMeans s served.0 (simple own) meant
  record-means =
      let passes = own-passes s e set same (may.concrete, may.agrees, may.decided) in
      record {
        rising = set-is.1;
        own_counts = values.counts;
        no_abstract_leaf = simple-no_leaf s holds e set same may.concrete;
        no_clash = passes.0;
        place_types = passes.1;
        means = record {
          entity = e;
          named = names;
          closure = closure;
          fit =
              served-places s served.0 meant (places s e) (params_at ps) (needs_at ps) fit served.1;
        };
      }

  means-so : MeansWithNeeds s (simple own) meant (needs_at ps)
  means-so = record { kinds = served.0; means = record-means; needs_are = needs-are }

  data-record : IsDataRecord (simple own)
  data-record = record {
    some_parts = omega arith;
    shallow = (all-shallow s set ps in_set, tt);
    no_user_keywords =
        part-plain own tt (placed-plain s set ps in_set);
  }

  -- ---- its canonical text

  abbrev canonical : Part
  canonical = record { key = key_of word; params = canonical_at s ps }

  module _ (n : ℕ) (spelled : IsWrittenStatement (instance n (simple own))) where
    written : IsWrittenStatement (instance n (simple canonical))
    written =
        let params : AreWritten (params_at ps) = part-written own
        (Each-front IsSpelled (record_tokens (simple own)) (token.semicolon ∷ []) spelled.1.1) in
        let all = part-said canonical spelled.1.1.0 (canonical-spelled s served.0 set ps in_set served.1 params) in (
          spelled.0,
          (
            spelled.1.0,
            Each-append IsSpelled (record_tokens (simple canonical)) (token.semicolon ∷ []) all
                ((codes ";", refl), tt),
          ),
        )

    text-is : (text : List ℕ) → text ≡ statement_text (instance n (simple canonical)) → IsInstanceText s n (simple own) text
    text-is text is_text = record {
      kinds = served.0;
      meaning = meant;
      means = record-means;
      canonical = simple canonical;
      canonical_meaning = canonical_typed s meant;
      canonical_means = means-with s served.0 (simple own) (simple canonical) meant record-means (record {
        entity = e;
        named = names;
        closure = closure;
        fit = subst (λ (xs : List Place). FitPlaces s served.0 (canonical_typed s meant) xs (canonical_at s ps)) at_places
            (canonical-fit s served.0 meant ps in_set values.each served.1);
      });
      same = SameTyped-symmetric meant (canonical_typed s meant) (canonical-same_typed s meant);
      is_canonical = record {
        form = closure-leaf s formed set e closure;
        params = (
          e,
          names,
          subst (λ (xs : List Place). AreCanonicalAt (canonical_typed s meant) xs (canonical_at s ps)) at_places
              (canonical-stand s meant ps values.each),
        );
      };
      text_is = is_text;
      laid = subst (λ (x : List ℕ). Laid x (statement_tokens (instance n (simple canonical)))) (sym is_text)
          (statement_laid (instance n (simple canonical)) written);
    }

-- ---- what is taken

pub entity-is : (s : Schema) (e : ℕ) (word : List ℕ) → EntityNamed s e word → IsEntity s e
entity-is s e word (x, at, is) = slice_get_within s.entities e x at

-- the parts of an instance one behind the other
instance-taken : (s : Schema) → IsWellFormed s → HoldsTogether s → (n e : ℕ) (entities : List ℕ) → IsOwnRising s e entities
    → MayStandAlone s e → (steps : List Step)
    → AreStepsAt s (order s e) (places s e) steps
    → (bytes keyed behind rest : List ℕ) (old : Taken) (headed worded : List ℕ) (new : Taken)
    → TakesTokens (token.name n ∷ token.equals ∷ []) (name_spelling n ++ 61 ∷ []) bytes keyed old.draft headed
    → TakesEntity s e keyed behind headed worded
    → TakesSteps s body_tokens body_text steps behind rest (with_text worded old) new → TakesInstance s n entities bytes rest old new
instance-taken s formed holds n e entities rising may steps are bytes keyed behind rest old headed worded new head (word, named, key)
    takes =
    let h = takes (order s e) (places s e) are in
    let ps : List PlacedParameter = h.placed in
    let part : Part = record { key = key_of word; params = params_at ps } in
    let body : TakesTokens (body_tokens (params_at ps)) (body_text (texts_at s ps)) behind rest worded new.draft =
    record { laid = h.laid; appended = h.text_is } in
    let keyword_body = takes-join (token.keyword word ∷ []) (body_tokens (params_at ps)) word (body_text (texts_at s ps)) keyed behind rest
    headed worded new.draft key body in
    let all =
    takes-join (token.name n ∷ token.equals ∷ []) (token.keyword word ∷ body_tokens (params_at ps)) (name_spelling n ++ 61 ∷ [])
    (word ++ body_text (texts_at s ps)) bytes keyed rest old.draft headed new.draft head keyword_body in
    let tokens : token.name n ∷ token.equals ∷ token.keyword word ∷ body_tokens (params_at ps) ≡ statement_tokens
    (instance n (simple part)) =
    ap (λ (ts : List Token). token.name n ∷ token.equals ∷ token.keyword word ∷ token.left ∷ ts)
    (sym (append_assoc (params_tokens (params_at ps)) (token.right ∷ []) (token.semicolon ∷ []))) in
    let laid : LaidBefore bytes (statement_tokens (instance n (simple part))) rest =
    subst (λ (ts : List Token). LaidBefore bytes ts rest) tokens all.laid in
    let is : IsEntity s e = entity-is s e word named in
    let text : List ℕ = (name_spelling n ++ 61 ∷ []) ++ (word ++ body_text (texts_at s ps)) in
    record {
      record_ = simple part;
      laid = laid;
      data_record = data-record s formed holds e is may word named ps h.each h.places_are entities rising;
      meaning = meant s formed holds e is may word named ps h.each h.places_are entities rising;
      set_is = refl;
      added = h.added;
      needs_are = h.needs_are;
      means = subst (λ (ns : List Need). MeansWithNeeds s (simple part)
          (meant s formed holds e is may word named ps h.each h.places_are entities rising) ns) h.added_are
          (means-so s formed holds e is may word named ps h.each h.places_are entities rising);
      text = text;
      text_is = text-is s formed holds e is may word named ps h.each h.places_are entities rising n
          (laid-spelled bytes rest (statement_tokens (instance n (simple part))) laid) text (line-is s n word ps);
      appended = all.appended;
    }

-- an instance that is begun, and whose parameters are taken behind that
pub internal-taken : (s : Schema) → IsWellFormed s → HoldsTogether s
    → (n e : ℕ) (entities bytes inside rest : List ℕ) (old begun new : Taken) → BeginsOwn s n e bytes inside old begun
    → IsOwnRising s e entities
    → TakesParameters s e inside rest begun new → TakesInstance s n entities bytes rest old new
internal-taken s formed holds n e entities bytes inside rest old begun new begins rising takes =
    let first = begins.opened in
    let h = subst (λ (t : Taken). TakesParameters s e inside rest t new) begins.needs takes in
    let are : AreStepsAt s (order s e) (places s e) h.steps =
    subst (λ (steps : List PreparedStep). ArePreparedAt s (order s e) (places s e) steps) (sym h.steps_are) h.row_is.steps_are in
    let body = enclosed s h.steps first.behind inside h.takes.behind rest (with_text first.between old) begun.draft h.takes.between new
    first.opened h.takes.places h.takes.ended in
    instance-taken s formed holds n e entities rising h.row_is.may h.steps are bytes begins.keyed first.behind rest old begins.headed
    first.between new begins.head first.entity body
