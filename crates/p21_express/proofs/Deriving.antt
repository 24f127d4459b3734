-- New attributes of a DERIVE clause, and the places of what it redeclares.
use Rattle.std.specs.Prelude.{◌≡◌, ℕ, ◌+◌, ◌<◌, ◌≤◌, List, [], ◌∷◌, ◌++◌, length, map, take, drop, Bool, IsTrue, ◌↔◌, Some, slice_get, Contains, Result, Ok, Err, Vec}
use Rattle.std.specs.Result.{IsErr, IsErrAnd}
use Rattle.std.proofs.Common.{arith, ap, sym, ◌∙◌, subst, inl, inr, get_or}
use Rattle.std.proofs.lemmas.List.{append-nil, length-map, map-append}
use Rattle.std.proofs.lemmas.List.Elements.{Contains-append_left, Contains-append_right, Contains-append_cases}
use Rattle.std.proofs.lemmas.Option.{slice_get_within}
use Rattle.p21_spec_schema.specs.Redeclaration.{IsProperSupertype, RedeclaresPlace, HasNoPlace}
use Rattle.p21_spec_schema.specs.Schema as pure
use Rattle.p21_spec_schema.specs.Schema.{Schema}
use Rattle.p21_express_graph.specs.Meaning.{place as place_of}
use Rattle.p21_express_graph.specs.declared.number.Place.{Place}
use Rattle.p21_express_syntax.specs.Digest.{EntityDigest}
use Rattle.p21_express_syntax.specs.declared.attributes.AttributeName.{AttributeName}
use Rattle.p21_express_syntax.specs.declared.entity.Entity.{Entity}
use Rattle.p21_express_syntax.specs.Views.{entity_view}
use Rattle.p21_express_outline.specs.Outline.{digest_own_names, digest_redeclared_names}
use Rattle.p21_express_outline.specs.Redeclarations.{DigestDerivesName, DigestDerivedAre, no_more, a_place, no_place}
use Rattle.p21_express_outline.proofs.Zips.{mapped-at}
use Rattle.p21_express_outline.specs.Finding.{RefusalShows}
use Rattle.p21_express_outline.specs.declared.fault.SchemaFault.{SchemaFault}
use Rattle.p21_express_outline.proofs.Finding.{split-at}
use Rattle.p21_express.proofs.Explicit.{names-append}
use Rattle.p21_express.specs.Derived.{HaveNoDerivedPlaces, DerivesItself, FindsDerivedPlaces}
use Rattle.p21_express.specs.RedeclarationTarget.{IsMissing}
use Rattle.p21_express_outline.proofs.OneOutline.{own_names-append}

-- ---- new attributes

-- one of them has the name
pub new-at : (xs : List AttributeName) (k : ℕ) (x : AttributeName) (name : List ℕ) → k < length xs → x ≡ get_or xs k x
    → Contains (digest_own_names (x ∷ [])) name → Contains (digest_own_names xs) name
new-at xs k x name below is among =
    let P : List AttributeName → Type 0 = λ zs. Contains (digest_own_names zs) name in
    let Q : List (List ℕ) → Type 0 = λ ns. Contains ns name in
    let rest = subst Q (sym (own_names-append (x ∷ []) (drop (k + 1) xs)))
    (Contains-append_left (digest_own_names (x ∷ [])) (digest_own_names (drop (k + 1) xs)) name among) in
    subst P (sym (split-at xs k x below is).1) (subst Q (sym (own_names-append (take k xs) (x ∷ [] ++ drop (k + 1) xs)))
    (Contains-append_right (digest_own_names (take k xs)) (digest_own_names (x ∷ [] ++ drop (k + 1) xs)) name rest))

-- none of one more has it
pub none-more : (xs : List AttributeName) (k : ℕ) (x : AttributeName) (name : List ℕ) → k < length xs → x ≡ get_or xs k x
    → (Contains (digest_own_names (take k xs)) name → ⊥) → (Contains (digest_own_names (x ∷ [])) name → ⊥)
    → Contains (digest_own_names (take (k + 1) xs)) name → ⊥
none-more xs k x name below is none none_ among =
    let P : List (List ℕ) → Type 0 = λ ns. Contains ns name in
    elim (Contains-append_cases (digest_own_names (take k xs)) (digest_own_names (x ∷ [])) name
    (subst P (ap digest_own_names (split-at xs k x below is).0 ∙ own_names-append (take k xs) (x ∷ [])) among))
    [ inl h ↦ none h | inr h ↦ none_ h ]

-- what the declaration of this number derives
pub derives-at : (declared : List Entity) (e : ℕ) (own : Entity) (derived : List AttributeName) (name : List ℕ) (told : Bool)
    → slice_get declared e ≡ Some own → derived ≡ own.derived.items → IsTrue told ↔ Contains (digest_own_names derived) name → IsTrue told
    ↔ DerivesItself (map entity_view declared) e name
derives-at declared e own derived name told at is tells =
    let P : List AttributeName → Type 0 = λ xs. Contains (digest_own_names xs) name in
    let Q : EntityDigest → Type 0 = λ x. Contains (digest_own_names x.derived) name in
    let at_own = mapped-at entity_view declared e own at in (
      λ yes. (entity_view own, at_own, subst P is (tells.0 yes)),
      λ (x, at_x, among). (let both : Some x ≡ Some (entity_view own) = sym at_x
          ∙ at_own in let same : x ≡ entity_view own = cc in tells.1 (subst P (sym is) (subst Q same among))),
    )

-- no declaration derives nothing
pub derives-none : (declared : List Entity) (e : ℕ) (name : List ℕ) → length declared ≤ e → DerivesItself (map entity_view declared) e name
    → ⊥
derives-none declared e name past (x, at, among) = let below = slice_get_within (map entity_view declared) e x at in
    omega (arith, below, past, length-map declared entity_view)

-- ---- one redeclaration

-- a name that nothing derives stands for nothing
pub missing-nothing : (s : Schema) (entities : List EntityDigest) (e sup : ℕ) (supertype name : List ℕ) → IsMissing s e supertype name sup
    → (DigestDerivesName s entities sup name → ⊥) → HaveNoDerivedPlaces s entities e ((supertype, name) ∷ [])
missing-nothing s entities e sup supertype name missing underived _ (a_place _ _ place _ _ is rest) = missing.no_place place is
missing-nothing s entities e sup supertype name missing underived _ (no_place _ _ other _ _ proper none derives rest) = let P : ℕ
    → Type 0 = λ f. DigestDerivesName s entities f name in underived (subst P (missing.only other proper) derives)

-- so does one of no supertype, or of several places
pub unclear-nothing : (s : Schema) (entities : List EntityDigest) (e : ℕ) (supertype name : List ℕ)
    → ((place : pure.Place) → RedeclaresPlace s e supertype name place → ⊥)
    → ((sup : ℕ) → IsProperSupertype s e sup supertype → HasNoPlace s sup name → ⊥)
    → HaveNoDerivedPlaces s entities e ((supertype, name) ∷ [])
unclear-nothing s entities e supertype name unplaced placed _ (a_place _ _ place _ _ is rest) = unplaced place is
unclear-nothing s entities e supertype name unplaced placed _ (no_place _ _ sup _ _ proper none derives rest) = placed sup proper none

-- ---- lists of redeclarations

-- a new attribute redeclares nothing
pub adds-none : {Z : Type 0} (s : Schema) (entities : List EntityDigest) (e : ℕ) (names : List (List ℕ × List ℕ)) (out : Vec Place Z)
    → DigestDerivedAre s entities e names [] → (places : List pure.Place) × (map place_of out.items ≡ map place_of out.items ++ places)
    × DigestDerivedAre s entities e names places
adds-none s entities e names out are = ([], sym (append-nil (map place_of out.items)), are)

pub adds-one : {Z : Type 0} (s : Schema) (entities : List EntityDigest) (e : ℕ) (names : List (List ℕ × List ℕ)) (old new : Vec Place Z)
    (place : Place) → new.items ≡ old.items ++ place ∷ [] → DigestDerivedAre s entities e names (place_of place ∷ [])
    → (places : List pure.Place) × (map place_of new.items ≡ map place_of old.items ++ places) × DigestDerivedAre s entities e names places
adds-one s entities e names old new place new_is are =
    (place_of place ∷ [], ap (map place_of) new_is ∙ map-append place_of old.items (place ∷ []), are)

module _ (s : Schema) (entities : List EntityDigest) (e : ℕ) where
  places-append : (names others : List (List ℕ × List ℕ)) (places more : List pure.Place) → DigestDerivedAre s entities e names places
      → DigestDerivedAre s entities e others more → DigestDerivedAre s entities e (names ++ others) (places ++ more)
  places-append _ others _ more no_more are = are
  places-append _ others _ more (a_place supertype name place names places is rest) are =
      a_place supertype name place (names ++ others) (places ++ more) is (places-append names others places more rest are)
  places-append _ others _ more (no_place supertype name sup names places proper none derives rest) are =
      no_place supertype name sup (names ++ others) (places ++ more) proper none derives (places-append names others places more rest are)

  places-apart : (names others : List (List ℕ × List ℕ)) (places : List pure.Place) → DigestDerivedAre s entities e (names ++ others) places
      → ((front : List pure.Place) × DigestDerivedAre s entities e names front)
      × ((back : List pure.Place) × DigestDerivedAre s entities e others back)
  places-apart [] others places are = (([], no_more), (places, are))
  places-apart ((supertype, name) ∷ names) others _ (a_place _ _ place _ places is rest) = let h = places-apart names others places rest in
      ((place ∷ h.0.0, a_place supertype name place names h.0.0 is h.0.1), h.1)
  places-apart ((supertype, name) ∷ names) others _ (no_place _ _ sup _ places proper none derives rest) = let h =
      places-apart names others places rest in ((h.0.0, no_place supertype name sup names h.0.0 proper none derives h.0.1), h.1)

  -- the places of one attribute more
  pub derived-more : {Z : Type 0} (names : List AttributeName) (k : ℕ) (x : AttributeName) (now new : Vec Place Z) → k < length names
      → x ≡ get_or names k x → DigestDerivedAre s entities e (digest_redeclared_names (take k names)) (map place_of now.items)
      → ((places : List pure.Place) × (map place_of new.items ≡ map place_of now.items ++ places)
      × DigestDerivedAre s entities e (digest_redeclared_names (x ∷ [])) places)
      → DigestDerivedAre s entities e (digest_redeclared_names (take (k + 1) names)) (map place_of new.items)
  derived-more names k x now new below is so_far (places, new_is, are) =
      let P : List (List ℕ × List ℕ) → Type 0 = λ ns. DigestDerivedAre s entities e ns (map place_of new.items) in
      let Q : List pure.Place → Type 0 = λ ps. DigestDerivedAre s entities e
      (digest_redeclared_names (take k names) ++ digest_redeclared_names (x ∷ [])) ps in
      subst P (sym (ap digest_redeclared_names (split-at names k x below is).0 ∙ names-append (take k names) (x ∷ [])))
      (subst Q (sym new_is) (places-append (digest_redeclared_names (take k names)) (digest_redeclared_names (x ∷ []))
      (map place_of now.items) places so_far are))

  -- where one stands for nothing, all do
  pub derived-nothing : (names : List AttributeName) (k : ℕ) (x : AttributeName) → k < length names → x ≡ get_or names k x
      → HaveNoDerivedPlaces s entities e (digest_redeclared_names (x ∷ []))
      → HaveNoDerivedPlaces s entities e (digest_redeclared_names names)
  derived-nothing names k x below is nothing places are =
      let P : List AttributeName → Type 0 = λ xs. DigestDerivedAre s entities e (digest_redeclared_names xs) places in
      let Q : List (List ℕ × List ℕ) → Type 0 = λ ns. DigestDerivedAre s entities e ns places in
      let front = digest_redeclared_names (take k names) in
      let own = digest_redeclared_names (x ∷ []) in
      let behind = digest_redeclared_names (drop (k + 1) names) in
      let split = names-append (take k names) (x ∷ [] ++ drop (k + 1) names)
      ∙ ap (λ ns. front ++ ns) (names-append (x ∷ []) (drop (k + 1) names)) in
      let h = places-apart front (own ++ behind) places (subst Q split (subst P (split-at names k x below is).1 are)) in
      let mine = places-apart own behind h.1.0 h.1.1 in
      nothing mine.0.0 mine.0.1

  -- a refusal handed on by `?`
  pub derived-refused : {Z : Type 0} (names : List AttributeName) (k : ℕ) (x : AttributeName) (fault : SchemaFault)
      (result : Result (Vec Place Z) SchemaFault) → IsErr result → IsErrAnd result (λ found. found ≡ fault) → k < length names
      → x ≡ get_or names k x
      → RefusalShows fault (HaveNoDerivedPlaces s entities e (digest_redeclared_names (x ∷ [])))
      → FindsDerivedPlaces s entities e (digest_redeclared_names names) result
  derived-refused names k x fault (Ok found) is_err is below at refused = cc
  derived-refused names k x fault (Err found) is_err is below at refused =
      λ other. derived-nothing names k x below at (refused (λ same. other (is ∙ same)))
