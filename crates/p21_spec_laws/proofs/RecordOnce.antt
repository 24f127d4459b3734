-- Canonical records whose meanings are the same are equal.
use Rattle.std.specs.Prelude.{◌≡◌, ℕ, zero, suc, ◌↔◌, List, [], ◌∷◌, ◌++◌, map, Some, Contains, refl}
use Rattle.std.specs.List.{AllZip, flat_map, zip, AllByRecursion as Each}
use Rattle.std.proofs.Common.{ap, sym, subst, ◌∙◌, append_assoc}
use Rattle.p21_spec_schema.specs.WellFormed.{IsWellFormed, HasDistinctEntities}
use Rattle.p21_spec_basics.proofs.Members.{AllZip-member, AllZip-second_member, Each-front, Each-back, zip-along}
use Rattle.p21_spec_schema.proofs.PlaceTypes.{TypeAt-one}
use Rattle.p21_spec_file.specs.CanonicalRecord.{IsCanonicalParam, AreCanonicalAt, IsCanonicalPart, IsCanonicalRecord, HasOneLeaf}
use Rattle.p21_spec_file.specs.Fits.{FitsAt}
use Rattle.p21_spec_file.specs.Meaning.{Typed, HasValueAt, FitPlaces, NamesEntity, PartMeans, RecordMeans}
use Rattle.p21_spec_schema.specs.Order.{places, own_places}
use Rattle.p21_spec_exchange.specs.Parameter.{Key, key_of, Param, Params, no_params, param, params_tokens}
use Rattle.p21_spec_schema.specs.PlaceType.{PlaceType, TypeAt}
use Rattle.p21_spec_exchange.specs.Record.{Part, Record, simple, complex, part_tokens, record_tokens}
use Rattle.p21_spec_file.specs.Reference.{EntitySets}
use Rattle.p21_spec_file.specs.SameFile.{SameTyped}
use Rattle.p21_spec_file.specs.SameValue.{Same, SameInOrder, both_end, both_next}
use Rattle.p21_spec_schema.specs.Schema.{Schema, Place, EntityNamed}
use Rattle.p21_spec_schema.specs.Supertype.{IsA, itself}
use Rattle.p21_spec_exchange.specs.Token as token
use Rattle.p21_spec_exchange.specs.Token.{Token, IsSpelled}
use Rattle.p21_spec_file.specs.Value.{Value, Values, value_at}
use Rattle.p21_spec_laws.proofs.CanonicalValue.{canonical_at-text}
use Rattle.p21_spec_laws.proofs.SameTexts.{same-exactly_texts_at}
use Rattle.p21_spec_file.proofs.OneMeaning.{EntityNamed-one, NamesEntity-one, rising-none_twice}
use Rattle.p21_spec_laws.proofs.LaidTexts.{one-text}
use Rattle.p21_spec_laws.proofs.OfType.{AreWritten, params-written}
use Rattle.p21_spec_laws.proofs.Sorting.{rising-members}
use Rattle.p21_spec_basics.proofs.Shuffles.{NoneTwice, AreMembers, zip-one, distinct-none_twice}
use Rattle.p21_spec_laws.specs.Written.{IsWritten}

-- ---- names

one-key : (s : Schema) (k l : Key) (e : ℕ) → NamesEntity s k e → NamesEntity s l e → k ≡ l
one-key s k l e (n, named, is) (m, named_, is_) = is ∙ ap key_of (EntityNamed-one s e n m named named_) ∙ sym is_

named-word : (s : Schema) (key : Key) (e : ℕ) → NamesEntity s key e → EntityNamed s e key.word
named-word s key e (n, named, is) = let P : List ℕ → Type 0 = λ x. EntityNamed s e x in subst P (sym (ap (λ (k : Key). k.word) is)) named

same-key : (s : Schema) (k l : Key) (e f : ℕ) → NamesEntity s k e → NamesEntity s l f → k.word ≡ l.word → k ≡ l
same-key s k l e f (n, named, is) (m, named_, is_) same = is ∙ ap key_of (sym (ap (λ (x : Key). x.word) is) ∙ same ∙ ap (λ (x : Key). x.word) is_) ∙ sym is_

-- ---- the value at a place

in_order-at : (vs ws : Values) → SameInOrder vs ws → (i : ℕ) (v : Value) → value_at vs i ≡ Some v → (w : Value) × (value_at ws i ≡ Some w) × Same v w
in_order-at vs ws both_end i v at = cc
in_order-at vs ws (both_next x y vs_ ws_ same more) zero v at = let is : x ≡ v = cc in let P : Value → Type 0 = λ z. Same z y in (y, refl, subst P is same)
in_order-at vs ws (both_next x y vs_ ws_ same more) (suc i) v at = in_order-at vs_ ws_ more i v at

pub value-once : (a : Typed) → NoneTwice a.entities → (place : Place) (v w : Value) → HasValueAt a place v → HasValueAt a place w → v ≡ w
value-once a none place v w (vs, has, at) (ws, has_, at_) =
    let one : vs ≡ ws = zip-one a.entities a.values place.entity vs ws none has has_ in
    let P : Values → Type 0 = λ us. value_at us place.index ≡ Some v in
    let same : Some v ≡ Some w = sym (subst P one at) ∙ at_ in cc

same-at : (a b : Typed) → SameTyped a b → NoneTwice b.entities → (place : Place) (v w : Value) → HasValueAt a place v → HasValueAt b place w → Same v w
same-at a b same none place v w (vs, has, at) (ws, has_, at_) =
    let (us, has_us, order) = zip-along SameInOrder a.entities a.values b.values same.1 place.entity vs has in
    let P : List ℕ → Type 0 = λ es. Contains (zip es b.values) (place.entity, us) in
    let one : us ≡ ws = zip-one b.entities b.values place.entity us ws none (subst P same.0 has_us) has_ in
    let (u, at_u, is) = in_order-at vs us order place.index v at in
    let Q : Values → Type 0 = λ xs. value_at xs place.index ≡ Some u in
    let same_ : u ≡ w = (let h : Some u ≡ Some w = sym (subst Q one at_u) ∙ at_ in cc) in
    subst (Same v) same_ is

-- ---- canonical parameters

at-once : (s : Schema) → IsWellFormed s → (kinds others : EntitySets) (at : PlaceType) (p q : Param) (v w : Value) → FitsAt s kinds at p v → FitsAt s others at q w → IsWritten p → IsWritten q → IsCanonicalParam p v → IsCanonicalParam q w → Same v w → p ≡ q
at-once s formed kinds others at p q v w fit fit_ written written_ canonical canonical_ same =
    one-text p q written written_
    (canonical_at-text s kinds at p v fit canonical ∙ (same-exactly_texts_at s formed.types_distinct kinds others at p q v w fit fit_ written written_).0 same ∙ sym (canonical_at-text s others at q w fit_ canonical_))

places-once : (s : Schema) → IsWellFormed s → (kinds others : EntitySets) (a b : Typed) → SameTyped a b → NoneTwice a.entities → NoneTwice b.entities → (ps : List Place) (xs ys : Params) → FitPlaces s kinds a ps xs → FitPlaces s others b ps ys
    → AreCanonicalAt a ps xs → AreCanonicalAt b ps ys → AreWritten xs → AreWritten ys → xs ≡ ys
places-once s formed kinds others a b same none none_ [] no_params no_params fit fit_ canonical canonical_ written written_ = refl
places-once s formed kinds others a b same none none_ [] no_params (param y ys) fit fit_ canonical canonical_ written written_ = absurd fit_
places-once s formed kinds others a b same none none_ [] (param x xs) ys fit fit_ canonical canonical_ written written_ = absurd fit
places-once s formed kinds others a b same none none_ (p ∷ ps) no_params ys fit fit_ canonical canonical_ written written_ = absurd fit
places-once s formed kinds others a b same none none_ (p ∷ ps) (param x xs) no_params fit fit_ canonical canonical_ written written_ = absurd fit_
places-once s formed kinds others a b same none none_ (p ∷ ps) (param x xs) (param y ys) ((at, v, type_at, fit, has), more) ((at_, w, type_at_, fit_, has_), more_) ((u, has_u, canonical), rest) ((t, has_t, canonical_), rest_) written written_ =
    let P : List ℕ → Type 0 = λ es. TypeAt s es p at_ in
    let one_type : at_ ≡ at = TypeAt-one s formed.supertypes_end formed.redeclares_once a.entities p at_ at (subst P (sym same.0) type_at_) type_at in
    let Q : PlaceType → Type 0 = λ type. FitsAt s others type y w in
    let first : x ≡ y = at-once s formed kinds others at x y v w fit (subst Q one_type fit_) written.0 written_.0
    (subst (IsCanonicalParam x) (value-once a none p u v has_u has) canonical) (subst (IsCanonicalParam y) (value-once b none_ p t w has_t has_) canonical_) (same-at a b same none_ p v w has has_) in
    ap (λ (z : Param). param z xs) first ∙ ap (param y) (places-once s formed kinds others a b same none none_ ps xs ys more more_ rest rest_ written.1 written_.1)

-- ---- canonical records

pub part-written : (part : Part) → Each IsSpelled (part_tokens part) → AreWritten part.params
part-written part each = params-written part.params (Each-front IsSpelled (params_tokens part.params) (token.right ∷ []) each.1.1)

pub part-same : (a b : Part) → a.key ≡ b.key → a.params ≡ b.params → a ≡ b
part-same a b key params = ap (λ (k : Key). record { key = k; params = a.params }) key ∙ ap (λ (ps : Params). record { key = b.key; params = ps }) params

abbrev pub words : List Part → List (List ℕ)
words parts = map (λ (part : Part). part.key.word) parts

-- all parts, where they have the same keywords
parts-once : (s : Schema) → IsWellFormed s → (kinds others : EntitySets) (a b : Typed) → SameTyped a b → NoneTwice a.entities → NoneTwice b.entities → (parts qs : List Part) (es fs : List ℕ)
    → AllZip (PartMeans s kinds a) parts es → AllZip (PartMeans s others b) qs fs → Each (IsCanonicalPart s a) parts → Each (IsCanonicalPart s b) qs → Each (λ (part : Part). AreWritten part.params) parts → Each (λ (part : Part). AreWritten part.params) qs
    → words parts ≡ words qs → parts ≡ qs
parts-once s formed kinds others a b same none none_ [] [] es fs mean mean_ canonical canonical_ written written_ keys = refl
parts-once s formed kinds others a b same none none_ [] (q ∷ qs) es fs mean mean_ canonical canonical_ written written_ keys = cc
parts-once s formed kinds others a b same none none_ (p ∷ ps) [] es fs mean mean_ canonical canonical_ written written_ keys = cc
parts-once s formed kinds others a b same none none_ (p ∷ ps) (q ∷ qs) [] fs mean mean_ canonical canonical_ written written_ keys = absurd mean
parts-once s formed kinds others a b same none none_ (p ∷ ps) (q ∷ qs) (e ∷ es) [] mean mean_ canonical canonical_ written written_ keys = absurd mean_
parts-once s formed kinds others a b same none none_ (p ∷ ps) (q ∷ qs) (e ∷ es) (f ∷ fs) mean mean_ ((g, named, at), canonical) ((h, named_, at_), canonical_) written written_ keys =
    let word : p.key.word ≡ q.key.word = cc in
    let rest : words ps ≡ words qs = cc in
    let key : p.key ≡ q.key = same-key s p.key q.key e f mean.0.0 mean_.0.0 word in
    let K : Key → Type 0 = λ k. NamesEntity s k f in
    let ef : f ≡ e = NamesEntity-one s formed.entities_distinct p.key f e (subst K (sym key) mean_.0.0) mean.0.0 in
    let ge : g ≡ e = NamesEntity-one s formed.entities_distinct p.key g e named mean.0.0 in
    let hf : h ≡ f = NamesEntity-one s formed.entities_distinct q.key h f named_ mean_.0.0 in
    let A : ℕ → Type 0 = λ x. AreCanonicalAt a (own_places s x) p.params in
    let B : ℕ → Type 0 = λ x. AreCanonicalAt b (own_places s x) q.params in
    let F : ℕ → Type 0 = λ x. FitPlaces s others b (own_places s x) q.params in
    let params : p.params ≡ q.params = places-once s formed kinds others a b same none none_ (own_places s e) p.params q.params mean.0.1 (subst F ef mean_.0.1) (subst A ge at) (subst B (hf ∙ ef) at_) written.0 written_.0 in
    ap (λ (z : Part). z ∷ ps) (part-same p q key params) ∙ ap (λ (zs : List Part). q ∷ zs) (parts-once s formed kinds others a b same none none_ ps qs es fs mean.1 mean_.1 canonical canonical_ written.1 written_.1 rest)

parts-named : (s : Schema) (kinds : EntitySets) (a : Typed) (parts : List Part) (es : List ℕ) → AllZip (PartMeans s kinds a) parts es → AllZip (EntityNamed s) es (words parts)
parts-named s kinds a [] [] mean = tt
parts-named s kinds a [] (e ∷ es) mean = absurd mean
parts-named s kinds a (p ∷ ps) [] mean = absurd mean
parts-named s kinds a (p ∷ ps) (e ∷ es) mean = (named-word s p.key e mean.0.0, parts-named s kinds a ps es mean.1)

names-none_twice : (s : Schema) → HasDistinctEntities s → (es : List ℕ) (ns : List (List ℕ)) → AllZip (EntityNamed s) es ns → NoneTwice es → NoneTwice ns
names-none_twice s distinct es [] all none = tt
names-none_twice s distinct [] (n ∷ ns) all none = absurd all
names-none_twice s distinct (e ∷ es) (n ∷ ns) all none = (
  λ among.
      let (f, at, named) = AllZip-second_member (EntityNamed s) es ns n all.1 among in
      none.0 (let P : ℕ → Type 0 = λ x. Contains es x in subst P (distinct f e n named all.0) at),
  names-none_twice s distinct es ns all.1 none.1,
)

names-within : (s : Schema) (es fs : List ℕ) (ns ms : List (List ℕ)) → AllZip (EntityNamed s) es ns → AllZip (EntityNamed s) fs ms → ((e : ℕ) → Contains es e → Contains fs e) → AreMembers ns ms
names-within s es fs ns ms all all_ onto n among =
    let (e, at, named) = AllZip-second_member (EntityNamed s) es ns n all among in
    let (m, at_, named_) = AllZip-member (EntityNamed s) fs ms e all_ (onto e at) in
    let P : List ℕ → Type 0 = λ x. Contains ms x in
    subst P (EntityNamed-one s e m n named_ named) at_

pub complex-written : (parts : List Part) (rest : List Token) → Each IsSpelled (flat_map part_tokens parts ++ rest) → Each (λ (part : Part). AreWritten part.params) parts
complex-written [] rest each = tt
complex-written (part ∷ parts) rest each =
    let whole : Each IsSpelled (part_tokens part ++ (flat_map part_tokens parts ++ rest)) = subst (Each IsSpelled) (append_assoc (part_tokens part) (flat_map part_tokens parts) rest) each in
    (part-written part (Each-front IsSpelled (part_tokens part) (flat_map part_tokens parts ++ rest) whole), complex-written parts rest (Each-back IsSpelled (part_tokens part) (flat_map part_tokens parts ++ rest) whole))

-- the entity of a simple record is the leaf
leaf-is : (s : Schema) (entities : List ℕ) (e : ℕ) → ((f : ℕ) → Contains entities f ↔ IsA s e f) → (leaf : HasOneLeaf s entities) → e ≡ leaf.0
leaf-is s entities e closure leaf = leaf.1.1 e ((closure e).1 (itself e)) ((closure leaf.0).0 leaf.1.0)

-- under a well formed schema, whatever the other instances of the two files
pub record-once : (s : Schema) → IsWellFormed s → (kinds others : EntitySets) (r q : Record) (a b : Typed) → RecordMeans s kinds r a → RecordMeans s others q b → SameTyped a b → IsCanonicalRecord s r a → IsCanonicalRecord s q b
    → Each IsSpelled (record_tokens r) → Each IsSpelled (record_tokens q) → r ≡ q
record-once s formed kinds others (simple p) (simple q) a b means means_ same canonical canonical_ written written_ =
    let none = rising-none_twice s a.entities means.rising.0 means.rising.1 means.rising.2 in
    let none_ = rising-none_twice s b.entities means_.rising.0 means_.rising.1 means_.rising.2 in
    let P : List ℕ → Type 0 = λ es. HasOneLeaf s es in
    let leaf : HasOneLeaf s b.entities = subst P same.0 canonical.form in
    let C : List ℕ → Type 0 = λ es. (f : ℕ) → Contains es f ↔ IsA s means.means.entity f in
    let ef : means_.means.entity ≡ means.means.entity = leaf-is s b.entities means_.means.entity means_.means.closure leaf ∙ sym (leaf-is s b.entities means.means.entity (subst C same.0 means.means.closure) leaf) in
    let e : ℕ = means.means.entity in
    let K : ℕ → Type 0 = λ x. NamesEntity s q.key x in
    let key : p.key ≡ q.key = one-key s p.key q.key e means.means.named (subst K ef means_.means.named) in
    let ge : canonical.params.0 ≡ e = NamesEntity-one s formed.entities_distinct p.key canonical.params.0 e canonical.params.1 means.means.named in
    let hf : canonical_.params.0 ≡ means_.means.entity = NamesEntity-one s formed.entities_distinct q.key canonical_.params.0 means_.means.entity canonical_.params.1 means_.means.named in
    let A : ℕ → Type 0 = λ x. AreCanonicalAt a (places s x) p.params in
    let B : ℕ → Type 0 = λ x. AreCanonicalAt b (places s x) q.params in
    let F : ℕ → Type 0 = λ x. FitPlaces s others b (places s x) q.params in
    let params : p.params ≡ q.params = places-once s formed kinds others a b same none none_ (places s e) p.params q.params means.means.fit (subst F ef means_.means.fit) (subst A ge canonical.params.2) (subst B (hf ∙ ef) canonical_.params.2) (part-written p written) (part-written q written_) in
    ap simple (part-same p q key params)
record-once s formed kinds others (simple p) (complex qs) a b means means_ same canonical canonical_ written written_ = absurd (canonical_.form.0 (let P : List ℕ → Type 0 = λ es. HasOneLeaf s es in subst P same.0 canonical.form))
record-once s formed kinds others (complex ps) (simple q) a b means means_ same canonical canonical_ written written_ = absurd (canonical.form.0 (let P : List ℕ → Type 0 = λ es. HasOneLeaf s es in subst P (sym same.0) canonical_.form))
record-once s formed kinds others (complex ps) (complex qs) a b means means_ same canonical canonical_ written written_ =
    let none = rising-none_twice s a.entities means.rising.0 means.rising.1 means.rising.2 in
    let none_ = rising-none_twice s b.entities means_.rising.0 means_.rising.1 means_.rising.2 in
    let es : List ℕ = means.means.entities in
    let fs : List ℕ = means_.means.entities in
    let named = parts-named s kinds a ps es means.means.parts_mean in
    let named_ = parts-named s others b qs fs means_.means.parts_mean in
    let onto : (e : ℕ) → Contains es e → Contains fs e = λ e among. (means_.means.same_entities e).1 (let P : List ℕ → Type 0 = λ xs. Contains xs e in subst P same.0 ((means.means.same_entities e).0 among)) in
    let back : (e : ℕ) → Contains fs e → Contains es e = λ e among. (means.means.same_entities e).1 (let P : List ℕ → Type 0 = λ xs. Contains xs e in subst P (sym same.0) ((means_.means.same_entities e).0 among)) in
    let keys : words ps ≡ words qs = rising-members (words ps) (words qs) canonical.form.1 canonical_.form.1
    (names-none_twice s formed.entities_distinct es (words ps) named (distinct-none_twice es means.means.distinct)) (names-none_twice s formed.entities_distinct fs (words qs) named_ (distinct-none_twice fs means_.means.distinct))
    (names-within s es fs (words ps) (words qs) named named_ onto) (names-within s fs es (words qs) (words ps) named_ named back) in
    ap complex (parts-once s formed kinds others a b same none none_ ps qs es fs means.means.parts_mean means_.means.parts_mean canonical.params canonical_.params (complex-written ps (token.right ∷ []) written.1) (complex-written qs (token.right ∷ []) written_.1) keys)
