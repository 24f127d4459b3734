-- The text that is printed of a schema: its words are those of the definition, and its parts stand one behind the other.
use Rattle.std.specs.Prelude.{◌≡◌, ◌<◌, ◌≤◌, ◌&&◌, ◌||◌, ℕ, zero, suc, ◌+◌, ◌-◌, Bool, true, false, List, [], ◌∷◌, ◌++◌, Option, Some, None, Contains, codes, length, map, take, drop, nat_eq, slice_get, refl}
use Rattle.std.specs.List.{AllZip, flat_map, range_with_len}
use Rattle.std.proofs.Common.{arith, ap, sym, ◌∙◌, subst, inl, inr, append_assoc, get_or}
use Rattle.std.proofs.lemmas.Bool.{eqb-true}
use Rattle.std.proofs.lemmas.Grind.{flat_map-append}
use Rattle.std.proofs.lemmas.List.{append-nil, map-append, take-append-drop, take_more}
use Rattle.std.proofs.lemmas.Option.{none-some, same_Some, slice_get_read}
use Rattle.std.specs.Prelude as std
use Rattle.std.specs.declared.alloc.Global.{Global}
use Rattle.p21_spec_basics.proofs.Members.{Contains-cases, Contains-first, Contains-flat_map, Contains-later, Contains-none, Contains-one_of}
use Rattle.p21_express_graph.proofs.Gatherings.{eqb-same}
use Rattle.p21_express_graph.proofs.Lookups.{own-places-are, places-more}
use Rattle.p21_express_graph.specs.Lookups.{places_from}
use Rattle.p21_spec_file.specs.ValueText.{with_commas}
use Rattle.p21_spec_schema.proofs.OwnPlaces.{own_places-within}
use Rattle.p21_spec_schema.specs.Order.{order, own_places, places}
use Rattle.p21_spec_schema.specs.PlaceType.{IsDerivedIn}
use Rattle.p21_spec_schema.specs.Schema.{Attribute, Entity, Place, Schema, EntityNamed, IsAbstract, attribute_at, attributes_of}
use Rattle.p21_stream_io.specs.Transfer.{AppendsAllBut, AppendsPartOf}
use Rattle.p21_stream_output.proofs.Putting.{part_more, then_all, then_part}
use Rattle.p21_commands.proofs.OwnWords.{plain-words, with_commas-append}
use Rattle.p21_commands.specs.OwnTexts.{AreOwnTexts}
use Rattle.p21_commands.specs.Print.{IsEntityLine, IsEntityPrefix, IsPlaceWord, IsSchemaText}
use Rattle.p21_commands.specs.SchemaText.{are_some, attribute_name, comma_if, derived_in, derived_of, entity_line, entity_lines, entity_name, entity_prefix, has_place, is_place, joined, name_in, name_or_star, prefix_if, prefix_in, schema_text, word_of, words_of}

-- ---- places that are derived

and-parts : (a b : Bool) → (a && b) ≡ true → (a ≡ true) × (b ≡ true)
and-parts true b is = (refl, is)
and-parts false b is = cc

and-both : (a b : Bool) → a ≡ true → b ≡ true → (a && b) ≡ true
and-both true b t is = is
and-both false b t is = cc

or-first : (a b : Bool) → a ≡ true → (a || b) ≡ true
or-first true b is = refl
or-first false b is = cc

or-later : (a b : Bool) → b ≡ true → (a || b) ≡ true
or-later true b is = refl
or-later false b is = is

place-same : (p q : Place) → is_place p q ≡ true → p ≡ q
place-same p q is =
    let (first, second) = and-parts (nat_eq p.entity q.entity) (nat_eq p.index q.index) is in
    let entities : p.entity ≡ q.entity = eqb-true p.entity q.entity first in
    let indexes : p.index ≡ q.index = eqb-true p.index q.index second in
    λ k. record { entity = entities k; index = indexes k }

place-itself : (p : Place) → is_place p p ≡ true
place-itself p = and-both (nat_eq p.entity p.entity) (nat_eq p.index p.index) (eqb-same p.entity) (eqb-same p.index)

has-yes : (p : Place) (qs : List Place) → has_place p qs ≡ true → Contains qs p
has-yes p [] is = cc
has-yes p (q ∷ qs) is = cases (has-yes p qs) (is_place p q) refl is
  where
    cases : (has_place p qs ≡ true → Contains qs p) → (a : Bool) → is_place p q ≡ a → (a || has_place p qs) ≡ true → Contains (q ∷ qs) p
    cases rest true same _ = subst (λ (x : Place). Contains (q ∷ qs) x) (sym (place-same p q same)) (Contains-first q qs)
    cases rest false same more = Contains-later q qs p (rest more)

has-all : (p : Place) (qs : List Place) → Contains qs p → has_place p qs ≡ true
has-all p [] among = absurd (Contains-none p among)
has-all p (q ∷ qs) among = elim (Contains-cases q qs p among) [
  | inl same ↦ or-first (is_place p q) (has_place p qs) (subst (λ (x : Place). is_place p x ≡ true) (sym same) (place-itself p))
  | inr far ↦ or-later (is_place p q) (has_place p qs) (has-all p qs far)
]

derived-there : (s : Schema) (entities : List ℕ) (p : Place) → IsDerivedIn s entities p
    → has_place p (flat_map (derived_of s) entities) ≡ true
derived-there s entities p (e, x, among, at, derives) =
    has-all p (flat_map (derived_of s) entities) (Contains-flat_map (derived_of s) entities e p among
    (subst (λ (ps : List Place). Contains ps p) (sym (ap derived_in at)) derives))

derived-from : (s : Schema) (entities : List ℕ) (p : Place) → has_place p (flat_map (derived_of s) entities) ≡ true
    → IsDerivedIn s entities p
derived-from s entities p there =
    let (e, among, derives) = Contains-one_of (derived_of s) entities p (has-yes p (flat_map (derived_of s) entities) there) in
    by e among (slice_get s.entities e) refl derives
  where
    by : (e : ℕ) → Contains entities e → (o : Option Entity) → slice_get s.entities e ≡ o → Contains (derived_in o) p
        → IsDerivedIn s entities p
    by e among (Some x) at derives = (e, x, among, at, derives)
    by e among None at derives = absurd (Contains-none p derives)

-- ---- words

module _ (s : Schema) (e : ℕ) (p : Place) where
  abbrev is_derived : Bool
  is_derived = has_place p (flat_map (derived_of s) (order s e))

  abbrev name : List ℕ
  name = attribute_name (attribute_at s p)

  -- a word of a place is the one
  pub word-is : (word : List ℕ) → IsPlaceWord s e p word → word ≡ word_of s e p
  word-is word (inl (derived, star)) = star ∙ ap (λ b. name_or_star b name) (sym (derived-there s (order s e) p derived))
  word-is word (inr (stored, (a, at, named))) = by is_derived refl
    where
      by : (b : Bool) → is_derived ≡ b → word ≡ name_or_star b name
      by true is = absurd (stored (derived-from s (order s e) p is))
      by false is = sym named ∙ sym (ap attribute_name at)

  pub word-right : (a : Attribute) → attribute_at s p ≡ Some a → IsPlaceWord s e p (word_of s e p)
  word-right a at = by is_derived refl
    where
      by : (b : Bool) → is_derived ≡ b → IsPlaceWord s e p (name_or_star b name)
      by true is = inl (derived-from s (order s e) p is, refl)
      by false is = inr (
        (λ derived. let found : is_derived ≡ true = derived-there s (order s e) p derived in cc),
        (a, at, sym (ap attribute_name at)),
      )

at-below : {X : Type 0} (xs : List X) (k : ℕ) → k < length xs → (x : X) × (slice_get xs k ≡ Some x)
at-below [] k below = absurd (omega (arith, below))
at-below (x ∷ xs) zero below = (x, refl)
at-below (x ∷ xs) (suc k) below = at-below xs k (omega (arith, below))

-- a place of an entity is declared
declared : (s : Schema) (e : ℕ) (p : Place) → Contains (places s e) p → (a : Attribute) × (attribute_at s p ≡ Some a)
declared s e p among =
    let (owner, above, own) = Contains-one_of (own_places s) (order s e) p among in
    let (same, within) = own_places-within s owner p own in
    at-below (attributes_of s p.entity) p.index (subst (λ (f : ℕ). p.index < length (attributes_of s f)) same within)

-- ---- lines

zip-each : {X Y : Type 0} (R : X → Y → Type 0) (g : X → Y) (xs : List X) → ((x : X) → Contains xs x → R x (g x)) → AllZip R xs (map g xs)
zip-each R g [] each = tt
zip-each R g (x ∷ xs) each = (each x (Contains-first x xs), zip-each R g xs (λ y among. each y (Contains-later x xs y among)))

below-range : (from n e : ℕ) → Contains (range_with_len from n) e → e < from + n
below-range from zero e among = absurd (Contains-none e among)
below-range from (suc n) e among = elim (Contains-cases from (range_with_len (from + 1) n) e among) [
  | inl same ↦ omega (arith, same)
  | inr far ↦ (let low = below-range (from + 1) n e far in omega (arith, low))
]

prefix-right : (s : Schema) (e : ℕ) (x : Entity) → slice_get s.entities e ≡ Some x → IsEntityPrefix s e (entity_prefix s e)
prefix-right s e x at = subst (IsEntityPrefix s e) (sym (ap prefix_in at)) (by x.is_abstract refl)
  where
    by : (b : Bool) → x.is_abstract ≡ b → IsEntityPrefix s e (prefix_if b)
    by true is = inl ((x, at, is), refl)
    by false is = inr (
      (λ (y, there, set). let one : x ≡ y = same_Some x y (sym at ∙ there) in let it : x.is_abstract ≡ true =
          ap (λ (z : Entity). z.is_abstract) one ∙ set in cc),
      refl,
    )

pub prefix-is : (s : Schema) (e : ℕ) (b : Bool) → (b ≡ true → IsAbstract s e) → (IsAbstract s e → b ≡ true)
    → prefix_if b ≡ entity_prefix s e
prefix-is s e b to from = by (slice_get s.entities e) refl b to from
  where
    by : (o : Option Entity) → slice_get s.entities e ≡ o → (b : Bool) → (b ≡ true → IsAbstract s e) → (IsAbstract s e → b ≡ true)
        → prefix_if b ≡ entity_prefix s e
    by (Some x) at true to from = let (y, there, set) = to refl in ap prefix_if (sym set) ∙ sym (ap prefix_in there)
    by (Some x) at false to from = at_false x.is_abstract refl
      where
        at_false : (c : Bool) → x.is_abstract ≡ c → prefix_if false ≡ entity_prefix s e
        at_false true is = (let no : false ≡ true = from (x, at, is) in cc)
        at_false false is = ap prefix_if (sym is) ∙ sym (ap prefix_in at)
    by None at true to from = let (y, there, set) = to refl in absurd (none-some y (sym at ∙ there))
    by None at false to from = sym (ap prefix_in at)

pub name-is : (s : Schema) (e : ℕ) (name : List ℕ) → EntityNamed s e name → name ≡ entity_name s e
name-is s e name (x, at, named) = sym named ∙ sym (ap name_in at)

line-right : (s : Schema) (e : ℕ) → e < length s.entities → IsEntityLine s e (entity_line s e)
line-right s e known =
    let (x, at) = at-below s.entities e known in
    record {
      front = entity_prefix s e;
      name = entity_name s e;
      words = words_of s e (places s e);
      is_front = prefix-right s e x at;
      is_named = (x, at, sym (ap name_in at));
      words_are = zip-each (IsPlaceWord s e) (word_of s e) (places s e)
          (λ p among. let (a, there) = declared s e p among in word-right s e p a there);
      line_is = refl;
    }

-- it is the text of the definition
pub text-right : (s : Schema) → IsSchemaText s (schema_text s)
text-right s = record {
  lines = map (entity_line s) (range_with_len 0 (length s.entities));
  lines_are = zip-each (IsEntityLine s) (entity_line s) (range_with_len 0 (length s.entities))
      (λ e among. line-right s e (let below = below-range 0 (length s.entities) e among in omega (arith, below)));
  text_is = refl;
}

-- ---- words one behind the other

pub joined-append : (b : Bool) (words more : List (List ℕ)) → joined b (words ++ more) ≡ joined b words ++ joined (are_some b words) more
joined-append true [] more = refl
joined-append false [] more = refl
joined-append true (word ∷ words) more = with_commas-append (word ∷ words) more
joined-append false (word ∷ words) more = ap (λ zs. word ++ zs) (with_commas-append words more)
    ∙ sym (append_assoc word (with_commas words) (with_commas more))

pub some-append : (b : Bool) (words more : List (List ℕ)) → are_some b (words ++ more) ≡ are_some (are_some b words) more
some-append b [] more = refl
some-append b (word ∷ words) [] = refl
some-append b (word ∷ words) (other ∷ more) = refl

pub one-joined : (b : Bool) (word : List ℕ) → comma_if b ++ word ≡ joined b (word ∷ [])
one-joined true word = ap (λ zs. codes "," ++ zs) (sym (append-nil word))
one-joined false word = sym (append-nil word)

pub no-words : (words : List (List ℕ)) → [] ≡ with_commas words → (b : Bool) → ([] ≡ joined b words) × (b ≡ are_some b words)
no-words [] is true = (refl, refl)
no-words [] is false = (refl, refl)
no-words (word ∷ words) is b = cc

pub some-words : (words : List (List ℕ)) (x : ℕ) (rest : List ℕ) → x ∷ rest ≡ with_commas words → (b : Bool) → true ≡ are_some b words
some-words [] x rest is b = cc
some-words (word ∷ words) x rest is b = refl

-- ---- words of places

pub places-split : (e k n more : ℕ) → places_from e k (n + more) ≡ places_from e k n ++ places_from e (k + n) more
places-split e k zero more = let none : zero + more ≡ more = omega arith in let same : k ≡ k + zero = omega arith in
    ap (places_from e k) none ∙ ap (λ i. places_from e i more) same
places-split e k (suc n) more =
    let next : suc n + more ≡ suc (n + more) = omega arith in
    let same : (k + 1) + n ≡ k + suc n = omega arith in
    ap (places_from e k) next ∙ ap (λ ps. record { entity = e; index = k } ∷ ps)
    (places-split e (k + 1) n more ∙ ap (λ i. places_from e (k + 1) n ++ places_from e i more) same)

pub words-more : (s : Schema) (e : ℕ) (some more : List Place) → words_of s e (some ++ more) ≡ words_of s e some ++ words_of s e more
words-more s e some more = map-append (word_of s e) some more

pub next-words : (s : Schema) (e owner k : ℕ) → words_of s e (places_from owner 0 (k + 1)) ≡ words_of s e (places_from owner 0 k)
    ++ word_of s e (record { entity = owner; index = k }) ∷ []
next-words s e owner k =
    let zero_ : 0 + k ≡ k = omega arith in
    ap (words_of s e) (places-more owner 0 k ∙ ap (λ i. places_from owner 0 k ++ record { entity = owner; index = i } ∷ []) zero_)
    ∙ words-more s e (places_from owner 0 k) (record { entity = owner; index = k } ∷ [])

-- the words of an entity's own places, by the first of them
pub own-split : (s : Schema) (e owner k : ℕ) → k ≤ length (attributes_of s owner)
    → words_of s e (own_places s owner) ≡ words_of s e (places_from owner 0 k)
    ++ words_of s e (places_from owner (0 + k) (length (attributes_of s owner) - k))
own-split s e owner k within =
    let size : length (attributes_of s owner) ≡ k + (length (attributes_of s owner) - k) = omega (arith, within) in
    ap (words_of s e) (sym (own-places-are s owner) ∙ ap (places_from owner 0) size
    ∙ places-split owner 0 k (length (attributes_of s owner) - k))
    ∙ words-more s e (places_from owner 0 k) (places_from owner (0 + k) (length (attributes_of s owner) - k))

-- words that fit are the ones
pub words-are : (s : Schema) (e : ℕ) (ps : List Place) (words : List (List ℕ)) → AllZip (IsPlaceWord s e) ps words → words ≡ words_of s e ps
words-are s e [] [] all = refl
words-are s e [] (word ∷ words) all = absurd all
words-are s e (p ∷ ps) [] all = absurd all
words-are s e (p ∷ ps) (word ∷ words) all = ap (λ z. z ∷ words) (word-is s e p word all.0)
    ∙ ap (λ zs. word_of s e p ∷ zs) (words-are s e ps words all.1)

pub drop-comma : (words : List (List ℕ)) → drop 1 (with_commas words) ≡ joined false words
drop-comma [] = refl
drop-comma (word ∷ words) = refl

-- ---- words that are put

module _ (old now new : Option (List ℕ)) (w : List ℕ) (b : Bool) (words more : List (List ℕ)) where
  pub all-joined : (v u : List ℕ) → AppendsAllBut old now (w ++ joined b words) v
      → AppendsAllBut now new (v ++ joined (are_some b words) more) u → AppendsAllBut old new (w ++ joined b (words ++ more)) u
  all-joined v u first_ second_ =
      let P : List ℕ → Type 0 = λ z. AppendsAllBut old new (w ++ z) u in
      subst P (sym (joined-append b words more)) (then_all old now new w (joined b words) v (joined (are_some b words) more) u first_
      second_)

  pub part-joined : (v : List ℕ) → AppendsAllBut old now (w ++ joined b words) v
      → AppendsPartOf now new (v ++ joined (are_some b words) more) → AppendsPartOf old new (w ++ joined b (words ++ more))
  part-joined v first_ second_ =
      let P : List ℕ → Type 0 = λ z. AppendsPartOf old new (w ++ z) in
      subst P (sym (joined-append b words more)) (then_part old now new w (joined b words) v (joined (are_some b words) more) first_
      second_)

-- a part of some words is one of more
pub part-more : (old new : Option (List ℕ)) (w : List ℕ) (b : Bool) (words more : List (List ℕ))
    → AppendsPartOf old new (w ++ joined b words) → AppendsPartOf old new (w ++ joined b (words ++ more))
part-more old new w b words more part_ =
    let P : List ℕ → Type 0 = λ z. AppendsPartOf old new (w ++ z) in
    subst P (sym (joined-append b words more)) (part_more old new w (joined b words) (joined (are_some b words) more) part_)

-- ---- owner by owner

owner-words : {X : Type 0} (s : Schema) (e : ℕ) (number : X → ℕ) (xs ys : List X)
    → words_of s e (flat_map (own_places s) (map number (xs ++ ys))) ≡ words_of s e (flat_map (own_places s) (map number xs))
    ++ words_of s e (flat_map (own_places s) (map number ys))
owner-words s e number xs ys =
    ap (words_of s e) (ap (flat_map (own_places s)) (map-append number xs ys)
    ∙ flat_map-append (own_places s) (map number xs) (map number ys))
    ∙ words-more s e (flat_map (own_places s) (map number xs)) (flat_map (own_places s) (map number ys))

pub owners-next : {X : Type 0} (s : Schema) (e : ℕ) (number : X → ℕ) (xs : List X) (k : ℕ) (d : X) → k < length xs
    → words_of s e (flat_map (own_places s) (map number (take (k + 1) xs))) ≡ words_of s e
    (flat_map (own_places s) (map number (take k xs))) ++ words_of s e (own_places s (number (get_or xs k d)))
owners-next {X} s e number xs k d below =
    ap (λ (ys : List X). words_of s e (flat_map (own_places s) (map number ys))) (take_more xs k d below)
    ∙ owner-words s e number (take k xs) (get_or xs k d ∷ [])
    ∙ ap (λ ps. words_of s e (flat_map (own_places s) (map number (take k xs))) ++ words_of s e ps)
    (append-nil (own_places s (number (get_or xs k d))))

pub owners-split : {X : Type 0} (s : Schema) (e : ℕ) (number : X → ℕ) (xs : List X) (k : ℕ)
    → words_of s e (flat_map (own_places s) (map number xs)) ≡ words_of s e (flat_map (own_places s) (map number (take k xs)))
    ++ words_of s e (flat_map (own_places s) (map number (drop k xs)))
owners-split {X} s e number xs k = ap (λ (ys : List X). words_of s e (flat_map (own_places s) (map number ys)))
    (sym (take-append-drop k xs)) ∙ owner-words s e number (take k xs) (drop k xs)

pub word-text : (b : Bool) (comma word other : List ℕ) → comma ≡ comma_if b → word ≡ other → comma ++ word ≡ joined b (other ∷ [])
word-text b comma word other is same = ap (λ z. z ++ word) is ∙ ap (λ z. comma_if b ++ z) same ∙ one-joined b other

-- ---- places of an owner, and owners, that are put one after another

module _ (old now new : Option (List ℕ)) (w v : List ℕ) (b : Bool) (s : Schema) (e owner k : ℕ) where
  abbrev so_far : List (List ℕ)
  so_far = words_of s e (places_from owner 0 k)

  abbrev next : List (List ℕ)
  next = word_of s e (record { entity = owner; index = k }) ∷ []

  module _ (puts : AppendsAllBut old now (w ++ joined b so_far) v) (after : Bool) (stand : after ≡ are_some b so_far) where
    pub own-next : (u : List ℕ) → AppendsAllBut now new (v ++ joined after next) u
        → AppendsAllBut old new (w ++ joined b (words_of s e (places_from owner 0 (k + 1)))) u
    own-next u one =
        let P : List (List ℕ) → Type 0 = λ words. AppendsAllBut old new (w ++ joined b words) u in
        subst P (sym (next-words s e owner k)) (all-joined old now new w b so_far next v u puts
        (subst (λ some. AppendsAllBut now new (v ++ joined some next) u) stand one))

    pub own-part : k < length (attributes_of s owner) → AppendsPartOf now new (v ++ joined after next)
        → AppendsPartOf old new (w ++ joined b (words_of s e (own_places s owner)))
    own-part below one =
        let P : List (List ℕ) → Type 0 = λ words. AppendsPartOf old new (w ++ joined b words) in
        let rest = words_of s e (places_from owner (0 + (k + 1)) (length (attributes_of s owner) - (k + 1))) in
        let part = subst P (sym (next-words s e owner k)) (part-joined old now new w b so_far next v puts
        (subst (λ some. AppendsPartOf now new (v ++ joined some next)) stand one)) in
        subst P (sym (own-split s e owner (k + 1) (omega (arith, below))))
        (part-more old new w b (words_of s e (places_from owner 0 (k + 1))) rest part)

-- a word more stands there
pub some-next : (b : Bool) (s : Schema) (e owner k : ℕ) → true ≡ are_some b (words_of s e (places_from owner 0 (k + 1)))
some-next b s e owner k = more (words_of s e (places_from owner 0 k)) ∙ ap (are_some b) (sym (next-words s e owner k))
  where
    more : (words : List (List ℕ)) → true ≡ are_some b (words ++ word_of s e (record { entity = owner; index = k }) ∷ [])
    more [] = refl
    more (word ∷ words) = refl

module _ {X : Type 0} (old now new : Option (List ℕ)) (w v : List ℕ) (s : Schema) (e : ℕ) (number : X → ℕ) (xs : List X) (k : ℕ)
    (d : X) where
  abbrev before : List (List ℕ)
  before = words_of s e (flat_map (own_places s) (map number (take k xs)))

  abbrev through : List (List ℕ)
  through = words_of s e (flat_map (own_places s) (map number (take (k + 1) xs)))

  abbrev owned : List (List ℕ)
  owned = words_of s e (own_places s (number (get_or xs k d)))

  module _ (below : k < length xs) (puts : AppendsAllBut old now (w ++ joined false before) v) (some : Bool)
      (stand : some ≡ are_some false before) where
    pub owner-next : (u : List ℕ) → AppendsAllBut now new (v ++ joined some owned) u → AppendsAllBut old new (w ++ joined false through) u
    owner-next u one =
        let P : List (List ℕ) → Type 0 = λ words. AppendsAllBut old new (w ++ joined false words) u in
        subst P (sym (owners-next s e number xs k d below))
        (all-joined old now new w false before owned v u puts (subst (λ b. AppendsAllBut now new (v ++ joined b owned) u) stand one))

    pub owner-some : (after : Bool) → after ≡ are_some some owned → after ≡ are_some false through
    owner-some after is = is ∙ ap (λ b. are_some b owned) stand ∙ sym (some-append false before owned)
        ∙ ap (are_some false) (sym (owners-next s e number xs k d below))

    pub owner-part : AppendsPartOf now new (v ++ joined some owned)
        → AppendsPartOf old new (w ++ joined false (words_of s e (flat_map (own_places s) (map number xs))))
    owner-part one =
        let P : List (List ℕ) → Type 0 = λ words. AppendsPartOf old new (w ++ joined false words) in
        let part = subst P (sym (owners-next s e number xs k d below))
        (part-joined old now new w false before owned v puts (subst (λ b. AppendsPartOf now new (v ++ joined b owned)) stand one)) in
        subst P (sym (owners-split s e number xs (k + 1)))
        (part-more old new w false through (words_of s e (flat_map (own_places s) (map number (drop (k + 1) xs)))) part)

-- the line of an entity, part by part
pub line-text : (prefix name words : List ℕ) → (prefix ++ name) ++ (codes "(" ++ (words ++ codes ")\n")) ≡ prefix
    ++ (name ++ ((codes "(" ++ (words ++ codes ")")) ++ codes "\n"))
line-text prefix name words =
    append_assoc prefix name (codes "(" ++ (words ++ codes ")\n"))
    ∙ ap (λ zs. prefix ++ (name ++ (codes "(" ++ zs))) (sym (append_assoc words (codes ")") (codes "\n")))

-- the text of an owner has its words
pub own-words : (s : Schema) (texts : List (Option (std.Vec ℕ Global))) (e owner : ℕ) (found : Option (std.Vec ℕ Global))
    (text : std.Vec ℕ Global) → AreOwnTexts s texts → owner < length s.entities → found ≡ get_or texts owner found → found ≡ Some text
    → text.items ≡ with_commas (words_of s e (own_places s owner))
own-words s texts e owner found text are known at is =
    let there : slice_get texts owner ≡ Some (Some text) =
    slice_get_read texts (length texts) owner found refl (omega (arith, are.size, known)) at ∙ ap Some is in
    let (names, all, text_is) = are.each owner (Some text) there in
    text_is ∙ ap with_commas (words-are s e (own_places s owner) names (plain-words s e (own_places s owner) names all))

-- the first line, and those of the entities
pub head-text : (s : Schema) → (codes "SCHEMA " ++ (s.name ++ codes "\n")) ++ entity_lines s ≡ schema_text s
head-text s = ap (λ zs. codes "SCHEMA " ++ zs) (append_assoc s.name (codes "\n") (entity_lines s))
