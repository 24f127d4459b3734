-- Each record of external mapping that means something has a canonical record of the same meaning.
use Rattle.std.specs.Prelude.{◌≡◌, ℕ, ◌<◌, Bool, true, false, List, [], ◌∷◌, ◌++◌, length, map, codes, Contains, refl, if◌then◌else◌}
use Rattle.std.specs.List.{AllZip, flat_map, AllByRecursion as Each}
use Rattle.std.proofs.Common.{arith, ap, sym, subst, ◌∙◌, append_assoc, inl, inr}
use Rattle.p21_spec_schema.specs.WellFormed.{IsWellFormed}
use Rattle.p21_spec_basics.proofs.Members.{Contains-first, Contains-later, Each-member, AllZip-second_member, Each-append, Each-back}
use Rattle.p21_spec_schema.proofs.Orders.{order_within-only}
use Rattle.p21_spec_file.specs.CanonicalRecord.{AreTextsRising, HasOneLeaf, IsCanonicalPart}
use Rattle.p21_spec_exchange.specs.Grammar.{IsDataRecord, IsNoUserKeyword, IsShallowPart}
use Rattle.p21_spec_file.specs.Meaning.{Typed, PartMeans, RecordMeans}
use Rattle.p21_spec_schema.specs.Order.{order, own_places}
use Rattle.p21_spec_exchange.specs.Parameter.{key_token}
use Rattle.p21_spec_exchange.specs.Record.{Part, Record, simple, complex, part_tokens, record_tokens}
use Rattle.p21_spec_file.specs.Reference.{EntitySets}
use Rattle.p21_spec_schema.specs.Schema.{Schema}
use Rattle.p21_spec_schema.specs.Supertype.{InClosure}
use Rattle.p21_spec_exchange.specs.Token as token
use Rattle.p21_spec_exchange.specs.Token.{Token, IsSpelled}
use Rattle.p21_spec_laws.proofs.Leaves.{leaf-closure, decide-one_leaf}
use Rattle.p21_spec_laws.proofs.OfType.{AreWritten}
use Rattle.p21_spec_laws.proofs.Printing.{HasCanonicalRecord, canonical_typed, printed-places, printed-each, print-simple, print-record, means-with, key-plain, part-said, part-plain}
use Rattle.p21_spec_laws.proofs.RecordOnce.{complex-written}
use Rattle.p21_spec_basics.proofs.Shuffles.{distinct-none_twice, none_twice-distinct}
use Rattle.p21_spec_laws.proofs.RisingTexts.{sort-rises}
use Rattle.p21_spec_basics.proofs.Shuffles.{Shuffled, no_more, one_more, Shuffled-symmetric, Shuffled-members, Shuffled-mapped, Shuffled-none_twice, Taken, taken_first, taken_later}
use Rattle.p21_spec_file.specs.Sorting.{is_below, insert_text, sort_texts}

-- the keywords of parts that are written
keys-said : (parts : List Part) (rest : List Token) → Each IsSpelled (flat_map part_tokens parts ++ rest) → Each (λ (part : Part). IsSpelled (key_token part.key)) parts
keys-said [] rest each = tt
keys-said (part ∷ parts) rest each =
    let whole : Each IsSpelled (part_tokens part ++ (flat_map part_tokens parts ++ rest)) = subst (Each IsSpelled) (append_assoc (part_tokens part) (flat_map part_tokens parts) rest) each in
    (whole.0, keys-said parts rest (Each-back IsSpelled (part_tokens part) (flat_map part_tokens parts ++ rest) whole))

-- ---- where the set has one leaf: in internal mapping

print-leaf : (s : Schema) → IsWellFormed s → (kinds : EntitySets) (parts : List Part) (a : Typed) → RecordMeans s kinds (complex parts) a → Each IsSpelled (record_tokens (complex parts)) → IsDataRecord (complex parts) → HasOneLeaf s a.entities → HasCanonicalRecord s kinds a
print-leaf s formed kinds parts a means written data_record leaf =
    let ext = means.means in
    let closed : (f : ℕ) → InClosure s a.entities f → Contains a.entities f = λ f in_closure. (ext.same_entities f).0 (ext.closed f (in_closure.0, (ext.same_entities in_closure.0).1 in_closure.1, in_closure.2)) in
    let closure = leaf-closure s formed a.entities closed leaf in
    let keys = keys-said parts (token.right ∷ []) written.1 in
    let all_written = complex-written parts (token.right ∷ []) written.1 in
    let (part, at, part_means) = AllZip-second_member (PartMeans s kinds a) parts ext.entities leaf.0 ext.parts_mean ((ext.same_entities leaf.0).1 leaf.1.0) in
    print-simple s kinds (complex parts) a means part.key leaf.0 part_means.0 (Each-member (λ (x : Part). IsSpelled (key_token x.key)) parts part keys at) closure leaf
    (printed-each s kinds (canonical_typed s a) (order s leaf.0) (λ e among.
    let member : Contains ext.entities e = (ext.same_entities e).1 ((closure e).1 (order_within-only s (length s.entities) leaf.0 e among)) in
    let (x, found, x_means) = AllZip-second_member (PartMeans s kinds a) parts ext.entities e ext.parts_mean member in
    printed-places s kinds a (own_places s e) x.params x_means.1 (Each-member (λ (y : Part). AreWritten y.params) parts x all_written found) (Each-member IsShallowPart parts x data_record.shallow found)))

-- ---- where it has none or several: in external mapping

-- a part with its entity
abbrev Made : Type 0
Made = Part × ℕ

record IsMade (s : Schema) (kinds : EntitySets) (b : Typed) (x : Made) : Type 0 where
  means : PartMeans s kinds b x.0 x.1
  canonical : IsCanonicalPart s b x.0
  said : Each IsSpelled (part_tokens x.0)
  plain : Each IsNoUserKeyword (part_tokens x.0)
  shallow : IsShallowPart x.0

abbrev parts_in : List Made → List Part
parts_in xs = map (λ (x : Made). x.0) xs

abbrev entities_in : List Made → List ℕ
entities_in xs = map (λ (x : Made). x.1) xs

abbrev words_in : List Made → List (List ℕ)
words_in xs = map (λ (part : Part). part.key.word) (parts_in xs)

record AreMade (s : Schema) (kinds : EntitySets) (b : Typed) (es : List ℕ) : Type 0 where
  made : List Made
  each : Each (IsMade s kinds b) made
  entities : entities_in made ≡ es

make : (s : Schema) (kinds : EntitySets) (a : Typed) (parts : List Part) (es : List ℕ) → AllZip (PartMeans s kinds a) parts es → Each (λ (part : Part). IsSpelled (key_token part.key)) parts → Each (λ (part : Part). AreWritten part.params) parts → Each IsShallowPart parts
    → AreMade s kinds (canonical_typed s a) es
make s kinds a [] [] all keys written shallow = record { made = []; each = tt; entities = refl }
make s kinds a [] (e ∷ es) all keys written shallow = absurd all
make s kinds a (part ∷ parts) [] all keys written shallow = absurd all
make s kinds a (part ∷ parts) (e ∷ es) all keys written shallow =
    let rest = make s kinds a parts es all.1 keys.1 written.1 shallow.1 in
    let printed = printed-places s kinds a (own_places s e) part.params all.0.1 written.0 shallow.0 in
    let own : Part = record { key = part.key; params = printed.params } in
    record {
      made = (own, e) ∷ rest.made;
      each = (
        record {
          means = (all.0.0, printed.fit);
          canonical = (e, all.0.0, printed.canonical);
          said = part-said own keys.0 printed.written;
          plain = part-plain own (key-plain s part.key e all.0.0) printed.plain;
          shallow = printed.shallow;
        },
        rest.each,
      );
      entities = ap (λ (fs : List ℕ). e ∷ fs) rest.entities;
    }

abbrev insert_made : Made → List Made → List Made
insert_made x [] = x ∷ []
insert_made x (y ∷ ys) = if is_below y.0.key.word x.0.key.word then y ∷ insert_made x ys else x ∷ y ∷ ys

abbrev sort_made : List Made → List Made
sort_made [] = []
sort_made (x ∷ xs) = insert_made x (sort_made xs)

insert-taken : (x : Made) (xs : List Made) → Taken x (insert_made x xs) xs
insert-taken x [] = taken_first x [] refl
insert-taken x (y ∷ ys) = by_test (is_below y.0.key.word x.0.key.word) (insert-taken x ys)
  where
    by_test : (b : Bool) → Taken x (insert_made x ys) ys → Taken x (if b then y ∷ insert_made x ys else x ∷ y ∷ ys) (y ∷ ys)
    by_test true more = taken_later y (insert_made x ys) ys more
    by_test false more = taken_first x (y ∷ ys) refl

sort-shuffled : (xs : List Made) → Shuffled xs (sort_made xs)
sort-shuffled [] = no_more
sort-shuffled (x ∷ xs) = one_more x xs (insert_made x (sort_made xs)) (sort_made xs) (insert-taken x (sort_made xs)) (sort-shuffled xs)

insert-words : (x : Made) (xs : List Made) → words_in (insert_made x xs) ≡ insert_text x.0.key.word (words_in xs)
insert-words x [] = refl
insert-words x (y ∷ ys) = by_test (is_below y.0.key.word x.0.key.word) (insert-words x ys)
  where
    by_test : (b : Bool) → words_in (insert_made x ys) ≡ insert_text x.0.key.word (words_in ys)
        → words_in (if b then y ∷ insert_made x ys else x ∷ y ∷ ys) ≡ (if b then y.0.key.word ∷ insert_text x.0.key.word (words_in ys) else x.0.key.word ∷ y.0.key.word ∷ words_in ys)
    by_test true more = ap (λ (ws : List (List ℕ)). y.0.key.word ∷ ws) more
    by_test false more = refl

sort-words : (xs : List Made) → words_in (sort_made xs) ≡ sort_texts (words_in xs)
sort-words [] = refl
sort-words (x ∷ xs) = insert-words x (sort_made xs) ∙ ap (insert_text x.0.key.word) (sort-words xs)

pub each-shuffled : {X : Type 0} (P : X → Type 0) (xs ys : List X) → Shuffled ys xs → Each P xs → Each P ys
each-shuffled {X} P xs ys shuffled each = of_members ys (λ x among. Each-member P xs x each (Shuffled-members ys xs shuffled x among))
  where
    of_members : (zs : List X) → ((x : X) → Contains zs x → P x) → Each P zs
    of_members [] all = tt
    of_members (z ∷ zs) all = (all z (Contains-first z zs), of_members zs (λ x among. all x (Contains-later z zs x among)))

made-mean : (s : Schema) (kinds : EntitySets) (b : Typed) (xs : List Made) → Each (IsMade s kinds b) xs → AllZip (PartMeans s kinds b) (parts_in xs) (entities_in xs)
made-mean s kinds b [] each = tt
made-mean s kinds b (x ∷ xs) each = (each.0.means, made-mean s kinds b xs each.1)

made-canonical : (s : Schema) (kinds : EntitySets) (b : Typed) (xs : List Made) → Each (IsMade s kinds b) xs → Each (IsCanonicalPart s b) (parts_in xs)
made-canonical s kinds b [] each = tt
made-canonical s kinds b (x ∷ xs) each = (each.0.canonical, made-canonical s kinds b xs each.1)

made-shallow : (s : Schema) (kinds : EntitySets) (b : Typed) (xs : List Made) → Each (IsMade s kinds b) xs → Each IsShallowPart (parts_in xs)
made-shallow s kinds b [] each = tt
made-shallow s kinds b (x ∷ xs) each = (each.0.shallow, made-shallow s kinds b xs each.1)

made-tokens : (s : Schema) (kinds : EntitySets) (b : Typed) (P : Token → Type 0) → ((x : Made) → IsMade s kinds b x → Each P (part_tokens x.0)) → (xs : List Made) → Each (IsMade s kinds b) xs → Each P (flat_map part_tokens (parts_in xs))
made-tokens s kinds b P of [] each = tt
made-tokens s kinds b P of (x ∷ xs) each = Each-append P (part_tokens x.0) (flat_map part_tokens (parts_in xs)) (of x each.0) (made-tokens s kinds b P of xs each.1)

some-made : (xs : List Made) → 0 < length (entities_in xs) → 0 < length (parts_in xs)
some-made [] some = some
some-made (x ∷ xs) some = omega arith

some-member : {X : Type 0} (xs : List X) (x : X) → Contains xs x → 0 < length xs
some-member xs x (k, below, is) = omega (arith, below)

pub first-entity : (s : Schema) (kinds : EntitySets) (a : Typed) (parts : List Part) (es : List ℕ) → AllZip (PartMeans s kinds a) parts es → 0 < length parts → (e : ℕ) × Contains es e
first-entity s kinds a [] es all some = absurd (omega (arith, some))
first-entity s kinds a (part ∷ parts) [] all some = absurd all
first-entity s kinds a (part ∷ parts) (e ∷ es) all some = (e, Contains-first e es)

print-parts : (s : Schema) → IsWellFormed s → (kinds : EntitySets) (parts : List Part) (a : Typed) → RecordMeans s kinds (complex parts) a → Each IsSpelled (record_tokens (complex parts)) → IsDataRecord (complex parts) → ¬ HasOneLeaf s a.entities → HasCanonicalRecord s kinds a
print-parts s formed kinds parts a means written data_record no_leaf =
    let ext = means.means in
    let b : Typed = canonical_typed s a in
    let are = make s kinds a parts ext.entities ext.parts_mean (keys-said parts (token.right ∷ []) written.1) (complex-written parts (token.right ∷ []) written.1) data_record.shallow in
    let xs : List Made = sort_made are.made in
    let shuffled : Shuffled are.made xs = sort-shuffled are.made in
    let each : Each (IsMade s kinds b) xs = each-shuffled (IsMade s kinds b) are.made xs (Shuffled-symmetric are.made xs shuffled) are.each in
    let P : List ℕ → Type 0 = λ es. Shuffled es (entities_in xs) in
    let mixed : Shuffled ext.entities (entities_in xs) = subst P are.entities (Shuffled-mapped (λ (x : Made). x.1) are.made xs shuffled) in
    let onto = Shuffled-members ext.entities (entities_in xs) mixed in
    let back = Shuffled-members (entities_in xs) ext.entities (Shuffled-symmetric ext.entities (entities_in xs) mixed) in
    let (first, among) = first-entity s kinds a parts ext.entities ext.parts_mean ext.some_parts in
    let some : 0 < length (parts_in xs) = some-made xs (some-member (entities_in xs) first (onto first among)) in
    record {
      record_ = complex (parts_in xs);
      means = means-with s kinds (complex parts) (complex (parts_in xs)) a means (record {
        some_parts = some;
        entities = entities_in xs;
        distinct = none_twice-distinct (entities_in xs) (Shuffled-none_twice ext.entities (entities_in xs) mixed (distinct-none_twice ext.entities ext.distinct));
        same_entities = λ f. (λ at. (ext.same_entities f).0 (back f at), λ at. onto f ((ext.same_entities f).1 at));
        closed = λ f in_closure. onto f (ext.closed f (in_closure.0, back in_closure.0 in_closure.1, in_closure.2));
        parts_mean = made-mean s kinds b xs each;
      });
      canonical = record { form = (no_leaf, subst AreTextsRising (sym (sort-words are.made)) (sort-rises (words_in are.made))); params = made-canonical s kinds b xs each };
      written = ((codes "(", refl), Each-append IsSpelled (flat_map part_tokens (parts_in xs)) (token.right ∷ []) (made-tokens s kinds b IsSpelled (λ x is. is.said) xs each) ((codes ")", refl), tt));
      data_record = record {
        some_parts = some;
        shallow = made-shallow s kinds b xs each;
        no_user_keywords = (tt, Each-append IsNoUserKeyword (flat_map part_tokens (parts_in xs)) (token.right ∷ []) (made-tokens s kinds b IsNoUserKeyword (λ x is. is.plain) xs each) (tt, tt));
      };
    }

-- each record of a data section that means something, written, has a canonical record
pub has-canonical_record : (s : Schema) → IsWellFormed s → (kinds : EntitySets) (r : Record) (a : Typed) → RecordMeans s kinds r a → Each IsSpelled (record_tokens r) → IsDataRecord r → HasCanonicalRecord s kinds a
has-canonical_record s formed kinds (simple part) a means written data_record = print-record s formed kinds part a means written data_record
has-canonical_record s formed kinds (complex parts) a means written data_record = elim (decide-one_leaf s formed a.entities) [
  | inl leaf ↦ print-leaf s formed kinds parts a means written data_record leaf
  | inr none ↦ print-parts s formed kinds parts a means written data_record none
]
