-- Parameters that are taken one behind the other, at the places of which steps speak.
use Rattle.std.proofs.Common.{◌≡◌, ◌∙◌, ℕ, zero, suc, ◌+◌, ◌<◌, List, [], ◌∷◌, ◌++◌, length, take, get_or, map, refl, ap, sym, subst, arith, append_assoc, IfNone, Option, Some, None}
use Rattle.std.proofs.lemmas.Grind.{flat_map-append}
use Rattle.std.proofs.lemmas.List.{append-nil, map-append, take_more}
use Rattle.p21_spec_basics.proofs.Members.{Each-append}
use Rattle.p21_spec_laws.specs.Needs.{FitsAtWithNeeds}
use Rattle.p21_spec_exchange.specs.Parameter.{Params, no_params, more_tokens, param_tokens, params_tokens}
use Rattle.p21_spec_exchange.specs.Spelling.{spelling}
use Rattle.p21_spec_exchange.specs.Token as token
use Rattle.p21_spec_exchange.specs.Token.{Token}
use Rattle.p21_spec_file.specs.Reference as meant
use Rattle.p21_spec_file.specs.ValueText.{value_text, with_commas, with_commas_between}
use Rattle.p21_express_graph.specs.declared.number.EntityId.{EntityId}
use Rattle.p21_mapping_values.specs.TypedView.{need_view}
use Rattle.p21_mapping_values.specs.declared.need.Need.{Need}
use Rattle.p21_spec_schema.specs.Order.{order, places}
use Rattle.p21_spec_schema.specs.PlaceType.{PlaceType, TypeAt}
use Rattle.p21_spec_schema.specs.Schema.{Place, Schema}
use Rattle.p21_shorter_tokens.specs.Gaps.{PassesSeparators}
use Rattle.p21_shorter_tokens.specs.LeadingToken.{AppendsToken}
use Rattle.p21_shorter_instances.proofs.LaidRuns.{takes-join, takes-mark}
use Rattle.p21_shorter_instances.specs.TakenParameters.{AreStepsIn, IsPlacedParameter, PlacedParameter, TakesTokens, TakesEntity, TakesDelimiter, TakesOpenedEntity, TakesOpening, TakesParameters, TakesPlaces, TakesStep, TakesSteps, body_text, body_tokens, needs_at, params_at, texts_at}
use Rattle.p21_shorter_instances.specs.Prepared.{Prepared, PreparedStep}
use Rattle.p21_shorter_instances.specs.Steps.{ArePreparedAt, AreStepsAt, IsRow, IsStepAt, IsStepForSome, step_view}
use Rattle.p21_shorter_instances.specs.declared.step.Step.{Step}
use Rattle.p21_shorter_instances.proofs.Laid.{laid-join, param-behind}
use Rattle.p21_shorter_instances.specs.declared.taken.Taken.{Taken}
use Rattle.p21_shorter_instances.specs.TakenValues.{KeepsNeeds, LaidBefore, TakesWithNeeds, with_text}
use Rattle.p21_values.specs.Canonical.{Continues}
use Rattle.p21_values.proofs.Continuing.{continues-join}

-- ---- steps

pub first-in : (s : Schema) (step : Step) (steps : List Step) → AreStepsIn s (step ∷ steps) → IsStepForSome s step
first-in s step steps (entities, [], are) = absurd are
first-in s step steps (entities, (place ∷ places), are) = let (at, type_at, says) = are.0 in (at, says)

pub others-in : (s : Schema) (step : Step) (steps : List Step) → AreStepsIn s (step ∷ steps) → AreStepsIn s steps
others-in s step steps (entities, [], are) = absurd are
others-in s step steps (entities, (place ∷ places), are) = (entities, places, are.1)

pub each-in : (s : Schema) (steps : List Step) (k : ℕ) (x : Step) → x ≡ get_or steps k x → k < length steps → AreStepsIn s steps
    → IsStepForSome s x
each-in s [] k x is below are = absurd (omega (arith, below))
each-in s (step ∷ steps) zero x is below are = subst (IsStepForSome s) (sym is) (first-in s step steps are)
each-in s (step ∷ steps) (suc k) x is below are = each-in s steps k x is (omega (arith, below)) (others-in s step steps are)

-- the steps of a row
pub row-in : (s : Schema) (e : ℕ) (row : Prepared) (steps : List Step) → map step_view steps ≡ row.steps → IsRow s e row
    → AreStepsIn s steps
row-in s e row steps same is = (
  order s e,
  places s e,
  subst (λ (xs : List PreparedStep). ArePreparedAt s (order s e) (places s e) xs)
      (sym same) is.steps_are,
)

-- the last of some steps speaks of the last of their places
pub record HasLast (s : Schema) (entities : List ℕ) (places : List Place) (steps : List Step) (step : Step) : Type 0 where
  pub front : List Place
  pub last : Place
  pub places_are : places ≡ front ++ last ∷ []
  pub steps_are : AreStepsAt s entities front steps
  pub last_is : IsStepAt s entities last step

pub has-last : (s : Schema) (entities : List ℕ) (places : List Place) (steps : List Step) (step : Step)
    → AreStepsAt s entities places (steps ++ step ∷ [])
    → HasLast s entities places steps step
has-last s entities [] [] step are = absurd are
has-last s entities [] (x ∷ steps) step are = absurd are
has-last s entities (place ∷ []) [] step are = record { front = []; last = place; places_are = refl; steps_are = tt; last_is = are.0 }
has-last s entities (place ∷ other ∷ places) [] step are = absurd are.1
has-last s entities (place ∷ places) (x ∷ steps) step are =
    let more = has-last s entities places steps step are.1 in
    record {
      front = place ∷ more.front;
      last = more.last;
      places_are = ap (λ (ps : List Place). place ∷ ps) more.places_are;
      steps_are =
          (are.0, more.steps_are);
      last_is = more.last_is;
    }

-- ---- places

pub none-places : (s : Schema) (entities : List ℕ) (tokens_of : Params → List Token) (text_of : List (List ℕ) → List ℕ)
    (places : List Place) (bytes : List ℕ) (taken : Taken)
    → tokens_of no_params ≡ [] → text_of [] ≡ [] → places ≡ []
    → TakesPlaces s entities tokens_of text_of places bytes bytes taken taken
none-places s entities tokens_of text_of places bytes taken no_tokens no_text none = record {
  placed = [];
  each = tt;
  places_are = sym none;
  added = [];
  needs_are = sym (append-nil taken.needs.items);
  added_are = refl;
  laid = subst (λ (ts : List Token). LaidBefore bytes ts bytes) (sym no_tokens) refl;
  text_is = sym (append-nil taken.draft) ∙ ap (λ (x : List ℕ). taken.draft ++ x) (sym no_text);
}

pub no-steps : (s : Schema) (tokens_of : Params → List Token) (text_of : List (List ℕ) → List ℕ) (steps : List Step) (bytes : List ℕ)
    (taken : Taken) → tokens_of no_params ≡ []
    → text_of [] ≡ [] → length steps ≡ 0
    → TakesSteps s tokens_of text_of steps bytes bytes taken taken
no-steps s tokens_of text_of steps bytes taken no_tokens no_text none entities places are =
    none-places s entities tokens_of text_of places bytes taken no_tokens no_text (no_places steps places none are)
  where
    no_places : (xs : List Step) (ps : List Place) → length xs ≡ 0 → AreStepsAt s entities ps xs → ps ≡ []
    no_places [] [] none_ are_ = refl
    no_places [] (p ∷ ps) none_ are_ = absurd are_
    no_places (x ∷ xs) ps none_ are_ = absurd (omega (arith, none_))

-- one and then others
pub first-places : (s : Schema) (entities : List ℕ) (place : Place) (at : PlaceType) (places : List Place) (bytes middle rest : List ℕ)
    (old between new : Taken)
    → TypeAt s entities place at
    → TakesWithNeeds s (FitsAtWithNeeds s at) 64 bytes middle old between
    → TakesPlaces s entities more_tokens with_commas places middle rest between new
    → TakesPlaces s entities params_tokens with_commas_between (place ∷ places) bytes rest old new
first-places s entities place at places bytes middle rest old between new type_at h more = record {
  placed = record { place = place; parameter = h.takes.parameter; value = h.takes.value; needs = map need_view h.added } ∷ more.placed;
  each = (record { at = at; type_at = type_at; fits = h.takes.fits; shallow = h.takes.shallow }, more.each);
  places_are = ap (λ (ps : List Place). place ∷ ps) more.places_are;
  added = h.added ++ more.added;
  needs_are = more.needs_are ∙ ap (λ (ns : List Need). ns ++ more.added) h.needs_are ∙ append_assoc old.needs.items h.added more.added;
  added_are = ap (λ (ns : List meant.Need). map need_view h.added ++ ns) more.added_are ∙ sym (map-append need_view h.added more.added);
  laid = laid-join bytes middle rest (param_tokens h.takes.parameter) (more_tokens (params_at more.placed)) h.takes.laid more.laid;
  text_is = more.text_is ∙ ap (λ (x : List ℕ). x ++ with_commas (texts_at s more.placed)) h.takes.text_is
      ∙ append_assoc old.draft (value_text s h.takes.value) (with_commas (texts_at s more.placed));
}

more_tokens-push : (ps : List PlacedParameter) (p : PlacedParameter)
    → more_tokens (params_at (ps ++ p ∷ [])) ≡ more_tokens (params_at ps) ++ (token.comma ∷ param_tokens p.parameter)
more_tokens-push [] p = ap (λ (ts : List Token). token.comma ∷ ts) (append-nil (param_tokens p.parameter))
more_tokens-push (x ∷ ps) p =
    ap (λ (ts : List Token). token.comma ∷ (param_tokens x.parameter ++ ts)) (more_tokens-push ps p)
    ∙ ap (λ (ts : List Token). token.comma ∷ ts) (sym (append_assoc (param_tokens x.parameter) (more_tokens (params_at ps))
    (token.comma ∷ param_tokens p.parameter)))

with_commas-push : (ts : List (List ℕ)) (t : List ℕ) → with_commas (ts ++ t ∷ []) ≡ with_commas ts ++ (44 ∷ t)
with_commas-push [] t = ap (λ (x : List ℕ). 44 ∷ x) (append-nil t)
with_commas-push (u ∷ ts) t = ap (λ (x : List ℕ). 44 ∷ (u ++ x)) (with_commas-push ts t)
    ∙ ap (λ (x : List ℕ). 44 ∷ x) (sym (append_assoc u (with_commas ts) (44 ∷ t)))

-- others and then one more, behind a comma
pub next-places : (s : Schema) (entities : List ℕ) (place : Place) (at : PlaceType) (places : List Place)
    (bytes middle behind rest : List ℕ) (old between : Taken) (comma : List ℕ) (new : Taken) → TypeAt s entities place at
    → TakesPlaces s entities more_tokens with_commas places bytes middle old between → TakesDelimiter 44 middle behind between.draft comma
    → TakesWithNeeds s (FitsAtWithNeeds s at) 64 behind rest (with_text comma between) new
    → TakesPlaces s entities more_tokens with_commas (places ++ place ∷ []) bytes rest old new
next-places s entities place at places bytes middle behind rest old between comma new type_at front mark h =
    let p : PlacedParameter = record {
      place = place;
      parameter = h.takes.parameter;
      value = h.takes.value;
      needs =
          map need_view h.added;
    } in
    let marked : TakesTokens (token.comma ∷ []) (44 ∷ []) middle behind between.draft comma =
    takes-mark 44 token.comma middle behind between.draft comma refl (λ byte. tt) mark in
    let valued : TakesTokens (param_tokens h.takes.parameter) (value_text s h.takes.value) behind rest comma new.draft =
    record { laid = h.takes.laid; appended = h.takes.text_is } in
    let joined : TakesTokens (token.comma ∷ param_tokens h.takes.parameter) (44 ∷ value_text s h.takes.value) middle rest between.draft
    new.draft =
    takes-join (token.comma ∷ []) (param_tokens h.takes.parameter) (44 ∷ []) (value_text s h.takes.value) middle behind rest between.draft
    comma new.draft marked valued in
    let opened : TakesTokens (more_tokens (params_at front.placed)) (with_commas (texts_at s front.placed)) bytes middle old.draft
    between.draft =
    record { laid = front.laid; appended = front.text_is } in
    let all =
    takes-join (more_tokens (params_at front.placed)) (token.comma ∷ param_tokens h.takes.parameter) (with_commas (texts_at s front.placed))
    (44 ∷ value_text s h.takes.value) bytes middle rest old.draft between.draft new.draft opened joined in
    record {
      placed = front.placed ++ p ∷ [];
      each = Each-append (IsPlacedParameter s entities) front.placed (p ∷ []) front.each
          (record { at = at; type_at = type_at; fits = h.takes.fits; shallow = h.takes.shallow }, tt);
      places_are = map-append (λ (x : PlacedParameter). x.place) front.placed (p ∷ [])
          ∙ ap (λ (ps : List Place). ps ++ place ∷ []) front.places_are;
      added = front.added ++ h.added;
      needs_are = h.needs_are ∙ ap (λ (ns : List Need). ns ++ h.added) front.needs_are ∙ append_assoc old.needs.items front.added h.added;
      added_are =
          flat_map-append (λ (x : PlacedParameter). x.needs) front.placed (p ∷ [])
          ∙ ap (λ (ns : List meant.Need). needs_at front.placed ++ ns) (append-nil (map need_view h.added))
          ∙ ap (λ (ns : List meant.Need). ns ++ map need_view h.added) front.added_are ∙ sym (map-append need_view front.added h.added);
      laid = subst (λ (ts : List Token). LaidBefore bytes ts rest) (sym (more_tokens-push front.placed p)) all.laid;
      text_is = all.appended ∙ ap (λ (x : List ℕ). old.draft ++ x)
          (sym (with_commas-push (texts_at s front.placed) (value_text s h.takes.value))
          ∙ ap with_commas (sym (map-append (λ (x : PlacedParameter). value_text s x.value) front.placed (p ∷ []))));
    }

-- ---- steps one behind the other

-- behind separators
pub step-behind : (s : Schema) (step : Step) (bytes front rest : List ℕ) (old new : Taken) → PassesSeparators bytes front
    → TakesStep s step front rest old new
    → TakesStep s step bytes rest old new
step-behind s step bytes front rest old new passes takes at says =
    let h = takes at says in
    record {
      added = h.added;
      needs_are = h.needs_are;
      takes = record {
        parameter = h.takes.parameter;
        value = h.takes.value;
        fits = h.takes.fits;
        shallow = h.takes.shallow;
        laid =
            param-behind bytes front rest h.takes.parameter passes h.takes.laid;
        text_is = h.takes.text_is;
      };
    }

pub first-steps : (s : Schema) (all : List Step) (step : Step) (steps : List Step) (bytes middle rest : List ℕ) (old between new : Taken)
    → all ≡ step ∷ steps
    → TakesStep s step bytes middle old between
    → TakesSteps s more_tokens with_commas steps middle rest between new
    → TakesSteps s params_tokens with_commas_between all bytes rest old new
first-steps s all step steps bytes middle rest old between new is takes more entities places are =
    by places (subst (AreStepsAt s entities places) is are)
  where
    by : (ps : List Place) → AreStepsAt s entities ps (step ∷ steps)
        → TakesPlaces s entities params_tokens with_commas_between ps bytes rest old new
    by [] are_ = absurd are_
    by (place ∷ ps) ((at, type_at, says), rest_are) = first-places s entities place at ps bytes middle rest old between new type_at
        (takes at says) (more entities ps rest_are)

pub next-steps : (s : Schema) (all steps : List Step) (step : Step) (bytes middle behind rest : List ℕ) (old between : Taken)
    (comma : List ℕ) (new : Taken)
    → all ≡ steps ++ step ∷ [] → TakesSteps s more_tokens with_commas steps bytes middle old between
    → TakesDelimiter 44 middle behind between.draft comma → TakesStep s step behind rest (with_text comma between) new
    → TakesSteps s more_tokens with_commas all bytes rest old new
next-steps s all steps step bytes middle behind rest old between comma new is front mark takes entities places are =
    let last = has-last s entities places steps step (subst (AreStepsAt s entities places) is are) in
    let (at, type_at, says) = last.last_is in
    subst (λ (ps : List Place). TakesPlaces s entities more_tokens with_commas ps bytes rest old new) (sym last.places_are)
    (next-places s entities last.last at last.front bytes middle behind rest old between comma new type_at
    (front entities last.front last.steps_are) mark (takes at says))

-- in their parentheses
pub enclosed : (s : Schema) (steps : List Step) (bytes inside behind rest : List ℕ) (old : Taken) (opened between : List ℕ) (new : Taken)
    → TakesDelimiter 40 bytes inside old.draft opened
    → TakesSteps s params_tokens with_commas_between steps inside behind (with_text opened old) (with_text between new)
    → TakesTokens (token.right ∷ token.semicolon ∷ []) (41 ∷ 59 ∷ []) behind rest between new.draft
    → TakesSteps s body_tokens body_text steps bytes rest old new
enclosed s steps bytes inside behind rest old opened between new mark takes ended entities places are =
    let h = takes entities places are in
    let ts : List Token = params_tokens (params_at h.placed) in
    let t : List ℕ = with_commas_between (texts_at s h.placed) in
    let open_ : TakesTokens (token.left ∷ []) (40 ∷ []) bytes inside old.draft opened =
    takes-mark 40 token.left bytes inside old.draft opened refl (λ byte. tt) mark in
    let params : TakesTokens ts t inside behind opened between = record { laid = h.laid; appended = h.text_is } in
    let closed = takes-join ts (token.right ∷ token.semicolon ∷ []) t (41 ∷ 59 ∷ []) inside behind rest opened between new.draft params
    ended in
    let all =
    takes-join (token.left ∷ []) (ts ++ (token.right ∷ token.semicolon ∷ [])) (40 ∷ []) (t ++ (41 ∷ 59 ∷ [])) bytes inside rest old.draft
    opened new.draft open_ closed in
    record {
      placed = h.placed;
      each = h.each;
      places_are = h.places_are;
      added = h.added;
      needs_are = h.needs_are;
      added_are =
          h.added_are;
      laid = all.laid;
      text_is = all.appended;
    }

-- behind the parenthesis in front, at the attributes of an entity
pub parameters-taken : (s : Schema) (e : ℕ) (row : Prepared) (steps : List Step) (bytes behind rest : List ℕ) (old between : Taken)
    (new : List ℕ) → IsRow s e row
    → map step_view steps ≡ row.steps → TakesSteps s params_tokens with_commas_between steps bytes behind old between
    → TakesTokens (token.right ∷ token.semicolon ∷ []) (41 ∷ 59 ∷ []) behind rest between.draft new
    → TakesParameters s e bytes rest old (with_text new between)
parameters-taken s e row steps bytes behind rest old between new is same takes ended =
    record {
      row = row;
      row_is = is;
      steps = steps;
      steps_are = same;
      takes =
          record { behind = behind; between = between.draft; places = takes; ended = ended };
    }

-- ---- what is appended and added

pub needs-join : (before among after : List Need) → KeepsNeeds before among → KeepsNeeds among after → KeepsNeeds before after
needs-join before among after (x, is) (y, is_) = (x ++ y, is_ ∙ ap (λ (ns : List Need). ns ++ y) is ∙ append_assoc before x y)

-- draft and needs go on
abbrev pub GoOn : Taken → Taken → Type 0
GoOn old new = Continues old.draft new.draft × KeepsNeeds old.needs.items new.needs.items

pub step-goes_on : (s : Schema) (step : Step) (bytes rest : List ℕ) (old new : Taken) → IsStepForSome s step
    → TakesStep s step bytes rest old new → GoOn old new
step-goes_on s step bytes rest old new (at, says) takes = let h = takes at says in
    ((value_text s h.takes.value, h.takes.text_is), (h.added, h.needs_are))

pub steps-go_on : (s : Schema) (tokens_of : Params → List Token) (text_of : List (List ℕ) → List ℕ) (steps : List Step)
    (bytes rest : List ℕ) (old new : Taken)
    → AreStepsIn s steps → TakesSteps s tokens_of text_of steps bytes rest old new → GoOn old new
steps-go_on s tokens_of text_of steps bytes rest old new (entities, places_, are) takes =
    let h = takes entities places_ are in ((text_of (texts_at s h.placed), h.text_is), (h.added, h.needs_are))

pub mark-goes_on : (mark : ℕ) (bytes rest old new : List ℕ) → TakesDelimiter mark bytes rest old new → Continues old new
mark-goes_on mark bytes rest old new h = (mark ∷ [], h.appended)

pub takes-goes_on : (tokens : List Token) (text bytes rest old new : List ℕ) → TakesTokens tokens text bytes rest old new
    → Continues old new
takes-goes_on tokens text bytes rest old new h = (text, h.appended)

-- ---- one step more

pub next-step : (s : Schema) (steps : List Step) (k : ℕ) (step : Step) (bytes middle behind rest : List ℕ) (old between : Taken)
    (comma : List ℕ) (new : Taken)
    → step ≡ get_or steps k step → k < length steps
    → TakesSteps s more_tokens with_commas (take k steps) bytes middle old between → TakesDelimiter 44 middle behind between.draft comma
    → TakesStep s step behind rest (with_text comma between) new
    → TakesSteps s more_tokens with_commas (take (k + 1) steps) bytes rest old new
next-step s steps k step bytes middle behind rest old between comma new is below front mark takes =
    next-steps s (take (k + 1) steps) (take k steps) step bytes middle behind rest old between comma new
    (take_more steps k step below ∙ ap (λ (x : Step). take k steps ++ x ∷ []) (sym is)) front mark takes

pub none_from : {A P : Type 0} (found : Option A) → P → IfNone found P
none_from None holds = holds
none_from (Some x) holds = tt

pub entity-goes_on : (s : Schema) (e : ℕ) (bytes rest old new : List ℕ) → TakesEntity s e bytes rest old new → Continues old new
entity-goes_on s e bytes rest old new (word, named, h) = (word, h.appended)

pub leaf-goes_on : (bytes : List ℕ) (count : ℕ) (one : Token) (old new : List ℕ) → AppendsToken bytes count one old new → Continues old new
leaf-goes_on bytes count one old new h = (spelling one, h.appended)

pub opened-goes_on : (s : Schema) (e : ℕ) (bytes rest old new : List ℕ) → TakesOpenedEntity s e bytes rest old new → Continues old new
opened-goes_on s e bytes rest old new h =
    continues-join old h.between new (entity-goes_on s e bytes h.behind old h.between h.entity)
    (mark-goes_on 40 h.behind rest h.between new h.opened)

pub opening-goes_on : (s : Schema) (o : Option EntityId) (bytes rest old new : List ℕ) → TakesOpening s o bytes rest old new
    → Continues old new
opening-goes_on s (Some e) bytes rest old new h = opened-goes_on s e.0 bytes rest old new h
opening-goes_on s None bytes rest old new h = mark-goes_on 40 bytes rest old new h
