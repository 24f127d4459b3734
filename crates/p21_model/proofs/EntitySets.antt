-- The entities of an instance's set, handed out one by one.
use Rattle.std.proofs.Common.{◌≡◌, ◌↔◌, ℕ, true, false, List, [], ◌∷◌, ◌++◌, length, Option, Some, None, refl, ap, sym, subst, ◌∙◌, arith}
use Rattle.std.proofs.lemmas.Bool.{eqb-true, true≢false}
use Rattle.std.specs.List.{AllZip}
use Rattle.std.specs.Prelude.{◌==◌, Contains, IsNone, MatchOption}
use Rattle.p21_express_graph.proofs.OrderTables.{order-tells}
use Rattle.p21_express_graph.specs.Orders.{numbers}
use Rattle.p21_express_graph.specs.Resolved.{HoldsTogether}
use Rattle.p21_express_graph.specs.declared.number.EntityId.{EntityId}
use Rattle.p21_scan.specs.Digits.{BeginsWithoutByte}
use Rattle.p21_spec_basics.proofs.Members.{tail_is}
use Rattle.p21_spec_exchange.specs.Parameter.{Params, no_params, param}
use Rattle.p21_spec_exchange.specs.Record.{Part, Record, simple, complex}
use Rattle.p21_spec_file.specs.Meaning.{MeansByMapping, NamesEntity, PartMeans, Typed}
use Rattle.p21_spec_file.specs.Reference.{EntitySets}
use Rattle.p21_spec_schema.proofs.Orders.{order_within-self}
use Rattle.p21_spec_schema.specs.Order.{order}
use Rattle.p21_spec_schema.specs.Schema.{Schema}
use Rattle.p21_model_values.proofs.Handing.{none-left}
use Rattle.p21_model_values.specs.Ends.{is_at_end}
use Rattle.p21_model_values.specs.Written.{AreLeft, HandsOut}
use Rattle.p21_model.proofs.RowsLeft.{IsOpened, opened, part-first}
use Rattle.p21_model.specs.declared.entities.Entities.{Entities}
use Rattle.p21_model.specs.EntitiesLeft.{AreEntitiesOf, AreLeftEntities, ArePartEntities, HandsOutEntity, TellsEntities}
use Rattle.p21_model.specs.Left.{AreLeftParts, IsRecordText, NoKeywordFirst}

-- ---- the entity set of a record

pub record HasSet (s : Schema) (record_ : Record) (meaning : Typed) : Type 0 where
  pub set : List ℕ
  pub are : AreEntitiesOf s record_ set
  pub same : (f : ℕ) → Contains set f ↔ Contains meaning.entities f

parts-named : (s : Schema) (kinds : EntitySets) (meaning : Typed) (parts : List Part) (entities : List ℕ)
    → AllZip (PartMeans s kinds meaning) parts entities → ArePartEntities s parts entities
parts-named s kinds meaning [] [] all = refl
parts-named s kinds meaning [] (e ∷ es) all = absurd all
parts-named s kinds meaning (part ∷ parts) [] all = absurd all
parts-named s kinds meaning (part ∷ parts) (e ∷ es) all = (e, es, all.0.0, parts-named s kinds meaning parts es all.1, refl)

pub has-set : (s : Schema) → HoldsTogether s → (kinds : EntitySets) (record_ : Record) (meaning : Typed)
    → MeansByMapping s kinds record_ meaning → HasSet s record_ meaning
has-set s holds kinds (simple part) meaning means = record {
  set = order s means.entity;
  are = (means.entity, means.named, refl);
  same = λ f. let tells = order-tells s holds means.entity f in
      (λ h. (means.closure f).1 (tells.0 h), λ h. tells.1 ((means.closure f).0 h));
}
has-set s holds kinds (complex parts) meaning means = record
    { set = means.entities; are = parts-named s kinds meaning parts means.entities means.parts_mean; same = means.same_entities }

-- ---- the entities that are left

-- behind the keyword of a simple record its own are left, and those of the simple records behind it
pub part-left : (s : Schema) (part : Part) (parts : List Part) (end bytes rest owners later entities : List ℕ) (e : ℕ)
    → (o : IsOpened s part parts end bytes e) → ArePartEntities s parts later → rest ≡ o.rest → entities ≡ owners ++ later
    → AreLeftEntities s owners rest entities
part-left s part parts end bytes rest owners later entities e o later_are rest_is are = record {
  params = part.params;
  after = o.after;
  left = subst (AreLeft part.params o.after) (sym rest_is) o.left;
  parts = parts;
  end = end;
  behind = o.behind;
  later = later;
  later_are = later_are;
  entities_are = are;
}

-- one entity among those of an order
pub only-found : (s : Schema) (listed_ alone : List ℕ) (found e : ℕ) → listed_ ≡ order s found
    → (Contains listed_ found → alone ≡ found ∷ []) → found ≡ e → alone ≡ e ∷ []
only-found s listed_ alone found e is one same =
    let Has : List ℕ → Type 0 = λ xs. Contains xs found in
    one (subst Has (sym is) (order_within-self s (length s.entities) found)) ∙ ap (λ n. n ∷ []) same

-- ---- the form of a record

abbrev TellsParts : Schema → List ℕ → Option Entities → Type 0
TellsParts s bytes result = (part : Part) (parts : List Part) (end entities : List ℕ) → AreLeftParts (part ∷ parts) end bytes →
    ArePartEntities s (part ∷ parts) entities → MatchOption result ⊥ (λ found. TellsEntities found entities)

abbrev TellsWhole : Schema → List ℕ → Option Entities → Type 0
TellsWhole s bytes result = (part : Part) (end : List ℕ) (e : ℕ) → AreLeftParts (part ∷ []) end bytes → NamesEntity s part.key e →
    MatchOption result ⊥ (λ found. TellsEntities found (order s e))

pub form-parts : (s : Schema) (record_ : Record) (bytes parts entities : List ℕ) (result : Option Entities) → IsRecordText record_ bytes
    → AreEntitiesOf s record_ entities → bytes ≡ 40 ∷ parts → TellsParts s parts result
    → MatchOption result ⊥ (λ found. TellsEntities found entities)
form-parts s (simple part) bytes parts entities result text are is tells = absurd
    (part-first s part [] (59 ∷ []) bytes parts are.0 (opened s part [] (59 ∷ []) bytes are.0 text are.1) is)
form-parts s (complex []) bytes parts entities result text are is tells = absurd (omega (arith, text.3))
form-parts s (complex (part ∷ more)) bytes parts entities result text are is tells =
    let same : text.0 ≡ parts = tail_is 40 40 text.0 parts (sym text.1 ∙ is) in
    tells part more (41 ∷ 59 ∷ []) entities (subst (AreLeftParts (part ∷ more) (41 ∷ 59 ∷ [])) same text.2) are

pub form-whole : (s : Schema) (record_ : Record) (bytes entities : List ℕ) (result : Option Entities) → IsRecordText record_ bytes
    → AreEntitiesOf s record_ entities → BeginsWithoutByte 40 bytes → TellsWhole s bytes result
    → MatchOption result ⊥ (λ found. TellsEntities found entities)
form-whole s (simple part) bytes entities result text are none tells =
    subst (λ (es : List ℕ). MatchOption result ⊥ (λ found. TellsEntities found es)) (sym are.2) (tells part (59 ∷ []) are.0 text are.1)
form-whole s (complex parts) bytes entities result text are none tells = absurd (subst (BeginsWithoutByte 40) text.1 none refl)

-- ---- behind the values of a simple record

-- once no value is handed out any more, the parenthesis stands first
pub values-end : (ps : Params) (after rest : List ℕ) → HandsOut ps after None rest → rest ≡ 41 ∷ after
values-end no_params after rest handed = handed.bytes_are
values-end (param p ps) after rest handed = absurd handed

-- at the end of the values their parenthesis stands first
pub ended : (ps : Params) (after bytes : List ℕ) → AreLeft ps after bytes → is_at_end bytes ≡ true → bytes ≡ 41 ∷ after
ended ps after bytes left at_end = values-end ps after bytes (none-left ps after bytes left at_end)

-- one is handed out before the end
pub none-more : (ps : Params) (after bytes rest : List ℕ) → AreLeft ps after bytes → is_at_end bytes ≡ false → HandsOut ps after None rest
    → ⊥
none-more no_params after bytes rest left more handed = let yes : is_at_end bytes ≡ true = ap is_at_end left.bytes_are in cc
none-more (param p ps) after bytes rest left more handed = handed

-- where none of the own is left, those of the simple records behind it are
pub behind-left : (s : Schema) (owners bytes entities behind : List ℕ) (result : Option Entities)
    → (l : AreLeftEntities s owners bytes entities) → owners ≡ [] → behind ≡ l.after → (NoKeywordFirst behind → IsNone result)
    → TellsParts s behind result
    → MatchOption result (entities ≡ []) (λ found. TellsEntities found entities)
behind-left s owners bytes entities behind result l none same no_part tells = by_parts l.parts l.behind l.later_are
  where
    are : entities ≡ l.later
    are = l.entities_are ∙ ap (λ (xs : List ℕ). xs ++ l.later) none

    no-found : (result : Option Entities) → IsNone result → entities ≡ []
        → MatchOption result (entities ≡ []) (λ found. TellsEntities found entities)
    no-found None is e = e
    no-found (Some found) is e = absurd (true≢false is)

    some-found : (result : Option Entities) → MatchOption result ⊥ (λ found. TellsEntities found entities)
        → MatchOption result (entities ≡ []) (λ found. TellsEntities found entities)
    some-found None told = absurd told
    some-found (Some found) told = told

    by_parts : (parts : List Part) → AreLeftParts parts l.end l.after → ArePartEntities s parts l.later
        → MatchOption result (entities ≡ []) (λ found. TellsEntities found entities)
    by_parts [] left later = no-found result (no_part (subst NoKeywordFirst (sym (same ∙ left.bytes_are)) left.ends)) (are ∙ later)
    by_parts (part ∷ parts) left later =
        some-found result (tells part parts l.end entities (subst (AreLeftParts (part ∷ parts) l.end) (sym same) left)
        (subst (ArePartEntities s (part ∷ parts)) (sym are) later))

-- ---- the next entity

pub none-handed : (entities : List ℕ) (new : Entities) → entities ≡ [] → HandsOutEntity entities None new
none-handed [] new are = tt
none-handed (e ∷ entities) new are = cc

pub one-handed : (s : Schema) (owners bytes entities more : List ℕ) (found : EntityId) (new : Entities)
    → (l : AreLeftEntities s owners bytes entities) → owners ≡ found.0 ∷ more
    → ((later : List ℕ) → AreLeftEntities s more bytes later → TellsEntities new later)
    → HandsOutEntity entities (Some found) new
one-handed s owners bytes entities more found new l are tells =
    let all : entities ≡ found.0 ∷ (more ++ l.later) = l.entities_are ∙ ap (λ (xs : List ℕ). xs ++ l.later) are in
    subst (λ (xs : List ℕ). HandsOutEntity xs (Some found) new) (sym all) (
      refl,
      tells (more ++ l.later)
          (record {
            params = l.params;
            after = l.after;
            left = l.left;
            parts = l.parts;
            end = l.end;
            behind = l.behind;
            later = l.later;
            later_are = l.later_are;
            entities_are = refl;
          }),
    )

pub no-numbers : (owners : List EntityId) → true ≡ (length owners == 0) → numbers owners ≡ []
no-numbers [] none = refl
no-numbers (owner ∷ owners) none = let same : length (owner ∷ owners) ≡ 0 = eqb-true (length (owner ∷ owners)) 0 (sym none) in
    absurd (omega (arith, same))
