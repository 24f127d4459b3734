-- Simple records that are taken one behind the other.
use Rattle.std.proofs.Common.{◌≡◌, ◌∙◌, ℕ, length-append, suc, ◌+◌, ◌-◌, ◌<◌, ◌≤◌, length, get_or, take, arith, List, [], ◌∷◌, ◌++◌, map, refl, ap, sym, subst, append_assoc}
use Rattle.std.proofs.lemmas.Grind.{flat_map-append}
use Rattle.std.proofs.lemmas.List.{append-nil, map-append, take-append-le, take_all, take_more}
use Rattle.std.specs.List.{flat_map}
use Rattle.p21_spec_basics.proofs.Members.{Each-append, Each-at}
use Rattle.p21_spec_laws.specs.Needs.{FitsAtWithNeeds}
use Rattle.p21_spec_exchange.specs.Parameter.{Params, more_tokens, params_tokens}
use Rattle.p21_spec_exchange.specs.Record.{part_tokens}
use Rattle.p21_spec_exchange.specs.Token as token
use Rattle.p21_spec_exchange.specs.Token.{Token}
use Rattle.p21_express_graph.proofs.Lookups.{own-places-are, places-more}
use Rattle.p21_express_graph.proofs.Resolving.{stored-is}
use Rattle.p21_express_graph.specs.Lookups.{places_from}
use Rattle.p21_express_graph.specs.Orders.{numbers}
use Rattle.p21_express_graph.specs.Resolved.{HoldsTogether}
use Rattle.p21_express_graph.specs.declared.number.EntityId.{EntityId}
use Rattle.p21_spec_file.specs.Reference as meant
use Rattle.p21_spec_file.specs.ValueText.{value_text, with_commas, with_commas_between}
use Rattle.p21_mapping_values.specs.declared.need.Need.{Need}
use Rattle.p21_mapping_values.specs.TypedView.{need_view}
use Rattle.p21_spec_schema.specs.Order.{own_places}
use Rattle.p21_spec_schema.specs.PlaceType.{PlaceType, TypeAt, derived_place, stored_place, two_redeclarations}
use Rattle.p21_spec_schema.specs.Schema.{Place, Schema, attributes_of}
use Rattle.p21_shorter_tokens.specs.Gaps.{PassesSeparators}
use Rattle.p21_shorter_instances.proofs.LaidRuns.{takes-join, takes-mark}
use Rattle.p21_shorter_instances.proofs.Stepping.{GoOn, first-places, next-places, none-places}
use Rattle.p21_shorter_instances.specs.Records.{IsOwnRecord, OwnRecord, TakesAtPlace, TakesNumbered, TakesParts, TakesRecord, needs_in, own_record_text, own_record_texts, owners_at, part_of, parts_at, TakesFurtherPlaces, TakesOwnPlaces}
use Rattle.p21_shorter_instances.specs.TakenParameters.{TakesTokens, TakesEntity, TakesDelimiter, TakesPlaces, needs_at, params_at, texts_at}
use Rattle.p21_shorter_instances.specs.ExternalSet.{AreExternalSets, IsNumberedSet, IsExternalSet}
use Rattle.p21_shorter_instances.proofs.Laid.{laid-join, param-behind}
use Rattle.p21_shorter_instances.specs.declared.taken.Taken.{Taken}
use Rattle.p21_shorter_instances.specs.TakenValues.{IsKnownAt, KeepsNeeds, LaidBefore, TakesWithNeeds, with_text}
use Rattle.p21_values.specs.Canonical.{Continues}

pub no-parts : (s : Schema) (entities bytes : List ℕ) (taken : Taken) → TakesParts s entities [] bytes bytes taken taken
no-parts s entities bytes taken = record {
  owned = [];
  each = tt;
  owners_are = refl;
  added = [];
  needs_are = sym (append-nil taken.needs.items);
  added_are = refl;
  laid = refl;
  text_is = sym (append-nil taken.draft);
}

-- the simple record of one entity
pub one-part : (s : Schema) (entities : List ℕ) (e : ℕ) (bytes keyed inside behind rest : List ℕ) (old : Taken) (worded opened : List ℕ)
    (between : Taken) (new : List ℕ)
    → TakesEntity s e bytes keyed old.draft worded → TakesDelimiter 40 keyed inside worded opened
    → TakesOwnPlaces s entities e inside behind (with_text opened old) between → TakesDelimiter 41 behind rest between.draft new
    → TakesParts s entities (e ∷ []) bytes rest old (with_text new between)
one-part s entities e bytes keyed inside behind rest old worded opened between new (word, named, key) left places right =
    let o : OwnRecord = record { owner = e; word = word; placed = places.placed } in
    let ts : List Token = params_tokens (params_at places.placed) in
    let t : List ℕ = with_commas_between (texts_at s places.placed) in
    let opening : TakesTokens (token.left ∷ []) (40 ∷ []) keyed inside worded opened =
    takes-mark 40 token.left keyed inside worded opened refl (λ byte. tt) left in
    let params : TakesTokens ts t inside behind opened between.draft = record { laid = places.laid; appended = places.text_is } in
    let closing : TakesTokens (token.right ∷ []) (41 ∷ []) behind rest between.draft new =
    takes-mark 41 token.right behind rest between.draft new refl (λ byte. tt) right in
    let closed = takes-join ts (token.right ∷ []) t (41 ∷ []) inside behind rest opened between.draft new params closing in
    let listed = takes-join (token.left ∷ []) (ts ++ (token.right ∷ [])) (40 ∷ []) (t ++ (41 ∷ [])) keyed inside rest worded opened new
    opening closed in
    let all = takes-join (token.keyword word ∷ []) (token.left ∷ (ts ++ (token.right ∷ []))) word (40 ∷ (t ++ (41 ∷ []))) bytes keyed rest
    old.draft worded new key listed in
    record {
      owned = o ∷ [];
      each = (record { named = named; places_are = places.places_are; each = places.each }, tt);
      owners_are = refl;
      added = places.added;
      needs_are = places.needs_are;
      added_are = append-nil (needs_at places.placed) ∙ places.added_are;
      laid = subst (λ (xs : List Token). LaidBefore bytes xs rest) (sym (append-nil (part_tokens (part_of o)))) all.laid;
      text_is = all.appended ∙ ap (λ (x : List ℕ). old.draft ++ x) (sym (append-nil (own_record_text s o)));
    }

-- and others behind it
pub join-parts : (s : Schema) (entities es fs bytes middle rest : List ℕ) (old between new : Taken)
    → TakesParts s entities es bytes middle old between
    → TakesParts s entities fs middle rest between new → TakesParts s entities (es ++ fs) bytes rest old new
join-parts s entities es fs bytes middle rest old between new first second =
    let tokens : flat_map part_tokens (parts_at (first.owned ++ second.owned)) ≡ flat_map part_tokens (parts_at first.owned)
    ++ flat_map part_tokens (parts_at second.owned) =
    ap (flat_map part_tokens) (map-append part_of first.owned second.owned)
    ∙ flat_map-append part_tokens (parts_at first.owned) (parts_at second.owned) in
    record {
      owned = first.owned ++ second.owned;
      each = Each-append (IsOwnRecord s entities) first.owned second.owned first.each second.each;
      owners_are = map-append (λ (o : OwnRecord). o.owner) first.owned second.owned
          ∙ ap (λ (xs : List ℕ). xs ++ owners_at second.owned) first.owners_are ∙ ap (λ (xs : List ℕ). es ++ xs) second.owners_are;
      added = first.added ++ second.added;
      needs_are = second.needs_are ∙ ap (λ (ns : List Need). ns ++ second.added) first.needs_are
          ∙ append_assoc old.needs.items first.added second.added;
      added_are =
          flat_map-append (λ (o : OwnRecord). needs_at o.placed) first.owned second.owned
          ∙ ap (λ (ns : List meant.Need). ns ++ needs_in second.owned) first.added_are
          ∙ ap (λ (ns : List meant.Need). map need_view first.added ++ ns) second.added_are
          ∙ sym (map-append need_view first.added second.added);
      laid = subst (λ (ts : List Token). LaidBefore bytes ts rest) (sym tokens)
          (laid-join bytes middle rest (flat_map part_tokens (parts_at first.owned)) (flat_map part_tokens (parts_at second.owned))
          first.laid second.laid);
      text_is =
          second.text_is ∙ ap (λ (x : List ℕ). x ++ own_record_texts s second.owned) first.text_is
          ∙ append_assoc old.draft (own_record_texts s first.owned) (own_record_texts s second.owned)
          ∙ ap (λ (x : List ℕ). old.draft ++ x) (sym (flat_map-append (own_record_text s) first.owned second.owned));
    }

-- ---- what is appended and added

pub places-go_on : (s : Schema) (entities : List ℕ) (tokens_of : Params → List Token) (text_of : List (List ℕ) → List ℕ)
    (places : List Place) (bytes rest : List ℕ) (old new : Taken)
    → TakesPlaces s entities tokens_of text_of places bytes rest old new → GoOn old new
places-go_on s entities tokens_of text_of places bytes rest old new h = ((text_of (texts_at s h.placed), h.text_is), (h.added, h.needs_are))

pub at-goes_on : (s : Schema) (entities : List ℕ) (place : Place) (bytes rest : List ℕ) (old new : Taken)
    → TakesAtPlace s entities place bytes rest old new → GoOn old new
at-goes_on s entities place bytes rest old new (at, type_at, h) = ((value_text s h.takes.value, h.takes.text_is), (h.added, h.needs_are))

pub parts-go_on : (s : Schema) (entities owners bytes rest : List ℕ) (old new : Taken) → TakesParts s entities owners bytes rest old new
    → GoOn old new
parts-go_on s entities owners bytes rest old new h = ((own_record_texts s h.owned, h.text_is), (h.added, h.needs_are))

-- ---- values

-- the type at a place of a set is of the schema
pub known-at : (s : Schema) → HoldsTogether s → (entities : List ℕ) (place : Place) (at : PlaceType) → TypeAt s entities place at
    → IsKnownAt s at
known-at s holds entities place derived_place is = tt
known-at s holds entities place (stored_place optional type) is = stored-is s holds entities place optional type is
known-at s holds entities place two_redeclarations is = tt

-- a value behind separators
pub at-behind : (s : Schema) (entities : List ℕ) (place : Place) (at : PlaceType) (bytes front rest : List ℕ) (old new : Taken)
    → TypeAt s entities place at
    → PassesSeparators bytes front → TakesWithNeeds s (FitsAtWithNeeds s at) 64 front rest old new
    → TakesAtPlace s entities place bytes rest old new
at-behind s entities place at bytes front rest old new type_at passes h = (
  at,
  type_at,
  record {
    added = h.added;
    needs_are = h.needs_are;
    takes = record {
      parameter = h.takes.parameter;
      value = h.takes.value;
      fits = h.takes.fits;
      shallow = h.takes.shallow;
      laid =
          param-behind bytes front rest h.takes.parameter passes h.takes.laid;
      text_is = h.takes.text_is;
    };
  },
)

-- no attributes
pub own-none : (s : Schema) (entities : List ℕ) (e count : ℕ) (bytes : List ℕ) (taken : Taken) → count ≡ length (attributes_of s e)
    → count ≡ 0
    → TakesOwnPlaces s entities e bytes bytes taken taken
own-none s entities e count bytes taken is none =
    none-places s entities params_tokens with_commas_between (own_places s e) bytes taken refl refl
    (sym (own-places-are s e) ∙ ap (places_from e 0) (sym is ∙ none))

-- the first attribute and the others
pub own-first : (s : Schema) (entities : List ℕ) (e count : ℕ) (bytes middle rest : List ℕ) (old between new : Taken)
    → count ≡ length (attributes_of s e) → 1 ≤ count
    → TakesAtPlace s entities (record { entity = e; index = 0 }) bytes middle old between
    → TakesFurtherPlaces s entities e count middle rest between new → TakesOwnPlaces s entities e bytes rest old new
own-first s entities e count bytes middle rest old between new is some (at, type_at, h) more =
    let size : suc (count - 1) ≡ length (attributes_of s e) = omega (arith, is, some) in
    subst (λ (ps : List Place). TakesPlaces s entities params_tokens with_commas_between ps bytes rest old new)
    (ap (places_from e 0) size ∙ own-places-are s e)
    (first-places s entities (record { entity = e; index = 0 }) at (places_from e 1 (count - 1)) bytes middle rest old between new type_at h
    more)

-- the attributes so far and the next
pub own-next : (s : Schema) (entities : List ℕ) (e index : ℕ) (bytes middle behind rest : List ℕ) (old between : Taken) (comma : List ℕ)
    (new : Taken) → 1 ≤ index
    → TakesFurtherPlaces s entities e index bytes middle old between
    → TakesDelimiter 44 middle behind between.draft comma
    → TakesAtPlace s entities (record { entity = e; index = index }) behind rest (with_text comma between) new
    → TakesFurtherPlaces s entities e (index + 1) bytes rest old new
own-next s entities e index bytes middle behind rest old between comma new some front mark (at, type_at, h) =
    let next : 1 + (index - 1) ≡ index = omega (arith, some) in
    let more : (index - 1) + 1 ≡ index + 1 - 1 = omega (arith, some) in
    let places : places_from e 1 (index - 1) ++ record { entity = e; index = index } ∷ [] ≡ places_from e 1 (index + 1 - 1) =
    ap (λ (k : ℕ). places_from e 1 (index - 1) ++ record { entity = e; index = k } ∷ []) (sym next) ∙ sym (places-more e 1 (index - 1))
    ∙ ap (places_from e 1) more in
    subst (λ (ps : List Place). TakesPlaces s entities more_tokens with_commas ps bytes rest old new) places
    (next-places s entities (record { entity = e; index = index }) at (places_from e 1 (index - 1)) bytes middle behind rest old between
    comma new type_at front mark h)

-- ---- sets of external mapping

-- the one of a number
pub usual-at : (s : Schema) (sets : List (List ℕ)) (at : ℕ) (entities : List ℕ) → AreExternalSets s sets → IsNumberedSet sets at entities
    → IsExternalSet s entities
usual-at s sets at entities are numbered = Each-at (IsExternalSet s) sets at entities are numbered

-- ---- one simple record more

pub next-part : (s : Schema) (entities : List ℕ) (set : List EntityId) (k : ℕ) (d : EntityId) (bytes middle rest : List ℕ)
    (old between new : Taken) → k < length set
    → TakesParts s entities (numbers (take k set)) bytes middle old between
    → TakesParts s entities ((get_or set k d).0 ∷ []) middle rest between new
    → TakesParts s entities (numbers (take (k + 1) set)) bytes rest old new
next-part s entities set k d bytes middle rest old between new below front next =
    let more : numbers (take (k + 1) set) ≡ numbers (take k set) ++ (get_or set k d).0 ∷ [] =
    ap numbers (take_more set k d below) ∙ map-append (λ (e : EntityId). e.0) (take k set) (get_or set k d ∷ []) in
    subst (λ (es : List ℕ). TakesParts s entities es bytes rest old new) (sym more)
    (join-parts s entities (numbers (take k set)) ((get_or set k d).0 ∷ []) bytes middle rest old between new front next)

-- ---- what is taken back

pub draft-back : (old new : List ℕ) (start : ℕ) → start ≡ length old → Continues old new → (start ≤ length new) × (take start new ≡ old)
draft-back old new start is (tail, appended) =
    let size = ap length appended ∙ length-append old tail in (
      omega (arith, is, size),
      ap (take start) appended ∙ take-append-le start old tail (omega (arith, is))
          ∙ take_all start old (omega (arith, is)),
    )

pub needs-back : (before after : List Need) (count : ℕ) → count ≡ length before → KeepsNeeds before after → take count after ≡ before
needs-back before after count is (added, appended) = ap (take count) appended ∙ take-append-le count before added (omega (arith, is))
    ∙ take_all count before (omega (arith, is))

-- ---- leaves

-- ---- the whole record

pub record-taken : (s : Schema) (entities bytes middle rest : List ℕ) (old between : Taken) (new : List ℕ)
    → TakesParts s entities entities bytes middle old between
    → TakesTokens (token.right ∷ token.semicolon ∷ []) (41 ∷ 59 ∷ []) middle rest between.draft new
    → TakesRecord s entities bytes rest old (with_text new between)
record-taken s entities bytes middle rest old between new parts end =
    record { middle = middle; between = between.draft; parts = parts; end = end }

pub numbered-taken : (s : Schema) (sets : List (List ℕ)) (at : ℕ) (entities bytes rest : List ℕ) (old new : Taken)
    → IsNumberedSet sets at entities → IsExternalSet s entities
    → TakesRecord s entities bytes rest old new → TakesNumbered s sets at bytes rest old new
numbered-taken s sets at entities bytes rest old new numbered usual takes =
    record { entities = entities; numbered = numbered; usual = usual; takes = takes }

-- what is taken of the same text and the same needs
pub numbered-from : (s : Schema) (sets : List (List ℕ)) (at : ℕ) (bytes rest : List ℕ) (same old new : Taken) → same.draft ≡ old.draft
    → same.needs.items ≡ old.needs.items
    → TakesNumbered s sets at bytes rest same new
    → TakesNumbered s sets at bytes rest old new
numbered-from s sets at bytes rest same old new text needs h =
    let parts = h.takes.parts in
    let from_old : TakesParts s h.entities h.entities bytes h.takes.middle old (with_text h.takes.between new) =
    record {
      owned = parts.owned;
      each = parts.each;
      owners_are = parts.owners_are;
      added = parts.added;
      needs_are = parts.needs_are ∙ ap (λ (ns : List Need). ns ++ parts.added) needs;
      added_are = parts.added_are;
      laid = parts.laid;
      text_is = parts.text_is ∙ ap (λ (x : List ℕ). x ++ own_record_texts s parts.owned) text;
    } in
    numbered-taken s sets at h.entities bytes rest old new h.numbered h.usual
    (record { middle = h.takes.middle; between = h.takes.between; parts = from_old; end = h.takes.end })
