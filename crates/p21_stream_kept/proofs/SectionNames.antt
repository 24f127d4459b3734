-- The sections by their names.
use Rattle.std.proofs.Common.{◌≡◌, ◌⊎◌, ℕ, zero, suc, Bool, true, false, cond, List, [], ◌∷◌, ◌++◌, length, drop, take, get_or, ◌+◌, ◌<◌, add-one, slice_get, Option, Some, None, inl, inr, refl, sym, ap, subst, ◌∙◌}
use Rattle.std.proofs.Math.Seq.{drop-cons}
use Rattle.std.proofs.lemmas.List.{length-map, map-append, take_more}
use Rattle.std.proofs.lemmas.Map.Text.{is_eq-slice_cmp}
use Rattle.std.proofs.lemmas.Option.{none-some, same_Some, slice_get-map, slice_get_read}
use Rattle.std.proofs.lemmas.Slice.Eq.{bytes_eq-Decides}
use Rattle.std.specs.BTreeMap.{BTreeMap, IsEmpty, Updates, is_at}
use Rattle.std.specs.Cmp.Lexicographic.{slice_cmp}
use Rattle.std.specs.List.{Contains}
use Rattle.std.specs.Prelude.{IfSome}
use Rattle.std.specs.Map.{lookup}
use Rattle.std.specs.Option.{is_some, option_map}
use Rattle.std.specs.Ordering.{is_eq, nat_cmp}
use Rattle.std.specs.Prelude as std
use Rattle.std.specs.declared.alloc.Global.{Global}
use Rattle.std.specs.declared.cmp.Ordering.{Ordering}
use Rattle.p21_spec_basics.proofs.Members.{Contains-at, Contains-cases, Contains-first, Contains-flat_map, Contains-found, Contains-none, Contains-one_of, at-front}
use Rattle.p21_spec_exchange.specs.DataSection.{Heading, heading_names, named, section_names, unnamed}
use Rattle.p21_stream_kept.specs.Sections.{AreNamedBy, heading_in, headings_of, number_of}
use Rattle.p21_stream_kept.specs.declared.sections.Section.{Section}

abbrev pub Text : Type 0
Text = std.Vec ℕ Global

abbrev pub by_text : Text → Text → Ordering
by_text a b = slice_cmp nat_cmp a.items b.items

exact : (xs ys : List ℕ) → is_eq (slice_cmp nat_cmp xs ys) ≡ true → xs ≡ ys
exact xs ys e = (bytes_eq-Decides xs ys).0 (sym (is_eq-slice_cmp xs ys) ∙ e)

-- ---- lists with one more element

at-the-end : {X : Type 0} (xs : List X) (x : X) → slice_get (xs ++ x ∷ []) (length xs) ≡ Some x
at-the-end [] x = refl
at-the-end (a ∷ xs) x = at-the-end xs x

at-or-before : {X : Type 0} (xs : List X) (x : X) (k : ℕ) (y : X) → slice_get (xs ++ x ∷ []) k ≡ Some y → (slice_get xs k ≡ Some y)
    ⊎ ((k ≡ length xs) × (x ≡ y))
at-or-before [] x zero y e = inr (refl, same_Some x y e)
at-or-before [] x (suc k) y e = absurd (none-some y e)
at-or-before (a ∷ xs) x zero y e = inl e
at-or-before (a ∷ xs) x (suc k) y e = elim (at-or-before xs x k y e)
    [ inl before ↦ inl before | inr end ↦ inr (ap (λ (n : ℕ). suc n) end.0, end.1) ]

-- what is found stands at a key that passes the test
key-found : {K X : Type 0} (test : K → Bool) (entries : List (K × X)) (x : X) → lookup test entries ≡ Some x → (key : K) × (test key ≡ true)
key-found test [] x e = absurd (none-some x e)
key-found {K} {X} test (entry ∷ entries) x e = by (test entry.0) refl (key-found test entries x) where
  by : (b : Bool) → test entry.0 ≡ b → (lookup test entries ≡ Some x → (key : K) × (test key ≡ true)) → (key : K) × (test key ≡ true)
  by true is behind_ = (entry.0, is)
  by false is behind_ = behind_ (sym (ap (λ (b : Bool). cond b (Some entry.1) (lookup test entries)) is) ∙ e)

-- ---- names of headings

-- a heading that has a name
with-name : (h : Heading) (name : List ℕ) → Contains (heading_names h) name → (schema : List ℕ) × (h ≡ named name schema)
with-name unnamed name among = absurd (Contains-none name among)
with-name (named own schema) name among = elim (Contains-cases own [] name among) [
  | inl same ↦ (schema, ap (λ (n : List ℕ). named n schema) same)
  | inr far ↦ absurd (Contains-none name far)
]

its-name : (h : Heading) (name own schema : List ℕ) → heading_names h ≡ name ∷ [] → h ≡ named own schema → name ≡ own
its-name h name own schema names is =
    let lists : name ∷ [] ≡ own ∷ [] = sym names ∙ ap heading_names is in
    cc

among-names : (headings : List Heading) (name schema : List ℕ) (number : ℕ) → slice_get headings number ≡ Some (named name schema)
    → Contains (section_names headings) name
among-names headings name schema number at = Contains-flat_map heading_names headings (named name schema) name
    (Contains-found headings number (named name schema) at) (Contains-first name [])

-- ---- what is found by a name

number-found : (numbers : BTreeMap Text ℕ) (name : List ℕ) (number : ℕ) → number_of numbers name ≡ Some number
    → (key : Text) × (name ≡ key.items)
number-found numbers name number e =
    let (key, at) = key-found (is_at (λ (k : Text). slice_cmp nat_cmp name k.items)) numbers.entries number e in
    (key, exact name key.items at)

abbrev pub Finds : List Heading → List ℕ → Option ℕ → Type 0
Finds headings name found = IfSome found (λ number. (schema : List ℕ) × (slice_get headings number ≡ Some (named name schema)))

abbrev pub FindsEach : List Heading → List ℕ → Option ℕ → Type 0
FindsEach headings name found = (schema : List ℕ) (number : ℕ) → slice_get headings number ≡ Some (named name schema) → found ≡ Some number

pub finds : (numbers : BTreeMap Text ℕ) (headings : List Heading) → AreNamedBy numbers headings → (name : List ℕ) (found : Option ℕ)
    → found ≡ number_of numbers name → Finds headings name found
finds numbers headings are name (Some number) is = are.found name number (sym is)
finds numbers headings are name None is = tt

pub finds-each : (numbers : BTreeMap Text ℕ) (headings : List Heading) → AreNamedBy numbers headings → (name : List ℕ) (found : Option ℕ)
    → found ≡ number_of numbers name → FindsEach headings name found
finds-each numbers headings are name found is = λ schema number at. is ∙ are.kept name schema number at

-- a name is found exactly if a section has it
pub has-name : (headings : List Heading) (name : List ℕ) (found : Option ℕ) → Finds headings name found → FindsEach headings name found
    → (is_some found ≡ true → Contains (section_names headings) name) × (Contains (section_names headings) name → is_some found ≡ true)
has-name headings name found its each = (to found its, from) where
  to : (o : Option ℕ) → Finds headings name o → is_some o ≡ true → Contains (section_names headings) name
  to (Some number) at there = among-names headings name at.0 number at.1
  to None at there = cc

  from : Contains (section_names headings) name → is_some found ≡ true
  from among =
      let (h, at_h, own) = Contains-one_of heading_names headings name among in
      let (schema, is) = with-name h name own in
      let (number, at) = Contains-at headings h at_h in
      ap is_some (each schema number (at ∙ ap (λ (x : Heading). Some x) is))

-- the section that is found by a name is the only one that may begin with it
pub only-named : (headings : List Heading) (name schema : List ℕ) (number : ℕ) (h : Heading) → FindsEach headings name (Some number)
    → slice_get headings number ≡ Some h → Contains headings (named name schema) → h ≡ named name schema
only-named headings name schema number h each at among =
    let (k, there) = Contains-at headings (named name schema) among in
    let same : number ≡ k = same_Some number k (each schema k there) in
    same_Some h (named name schema) (sym at ∙ ap (λ (n : ℕ). slice_get headings n) same ∙ there)

pub none-begins : (headings : List Heading) (name schema : List ℕ) → FindsEach headings name None → Contains headings (named name schema)
    → ⊥
none-begins headings name schema each among =
    let (k, there) = Contains-at headings (named name schema) among in
    none-some k (each schema k there)

pub named-parts : (name schema own text : List ℕ) → named name schema ≡ named own text → (name ≡ own) × (schema ≡ text)
named-parts name schema own text same = (cc, cc)

pub not-unnamed : (name schema : List ℕ) → named name schema ≡ unnamed → ⊥
not-unnamed name schema same = cc

-- of two sections that begin alike and have a name there is one
pub alike-numbers : (numbers : BTreeMap Text ℕ) (headings : List Heading) → AreNamedBy numbers headings → (k j : ℕ) (h : Heading)
    → slice_get headings k ≡ Some h → slice_get headings j ≡ Some h → (h ≡ unnamed) ⊎ (k ≡ j)
alike-numbers numbers headings are k j unnamed at there = inl refl
alike-numbers numbers headings are k j (named name schema) at there =
    inr (same_Some k j (sym (are.kept name schema k at) ∙ are.kept name schema j there))

-- ---- sections that come

-- there is no section
pub none-named : (numbers : BTreeMap Text ℕ) (headings : List Heading) → headings ≡ [] → IsEmpty numbers → AreNamedBy numbers headings
none-named numbers headings no_section empty = record {
  found = λ name number e. absurd (none-some number (sym (ap (lookup (is_at (λ (k : Text). slice_cmp nat_cmp name k.items))) empty) ∙ e));
  kept = λ name schema number e. absurd (none-some (named name schema)
      (ap (λ (hs : List Heading). slice_get hs number) (sym no_section) ∙ e));
}

pub headings-behind : (all : List Section) (x : Section) → headings_of (all ++ x ∷ []) ≡ headings_of all ++ heading_in x.part ∷ []
headings-behind all x = map-append (λ (y : Section). heading_in y.part) all (x ∷ [])

-- one more section without a name
pub unnamed-more : (numbers : BTreeMap Text ℕ) (headings : List Heading) (h : Heading) → heading_names h ≡ [] → AreNamedBy numbers headings
    → AreNamedBy numbers (headings ++ h ∷ [])
unnamed-more numbers headings h none are = record {
  found = λ name number e. let (schema, at) = are.found name number e in (schema, at-front headings (h ∷ []) number (named name schema) at);
  kept = λ name schema number e. elim (at-or-before headings h number (named name schema) e) [
    | inl before ↦ are.kept name schema number before
    | inr end ↦ (let lists : [] ≡ name ∷ [] = sym none ∙ ap heading_names end.1 in cc)
  ];
}

-- one more section with a name
pub named-more : (numbers new : BTreeMap Text ℕ) (headings : List Heading) (h : Heading) (key : Text) → heading_names h ≡ key.items ∷ []
    → (Contains (section_names headings) key.items → ⊥) → Updates by_text numbers new key (Some (length headings))
    → AreNamedBy numbers headings
    → AreNamedBy new (headings ++ h ∷ [])
named-more numbers new headings h key is absent updates are = record { found = found; kept = kept } where
  by_test : (other : Text) (b : Bool) → is_eq (by_text key other) ≡ b
      → number_of new other.items ≡ cond b (Some (length headings)) (number_of numbers other.items)
  by_test other b test = updates.0 other ∙ ap (λ (t : Bool). cond t (Some (length headings)) (number_of numbers other.items)) test

  own : (schema : List ℕ) × (h ≡ named key.items schema)
  own = with-name h key.items (subst (λ (ns : List (List ℕ)). Contains ns key.items) (sym is) (Contains-first key.items []))

  at : (other : Text) (number : ℕ) → number_of new other.items ≡ Some number → (b : Bool) → is_eq (by_text key other) ≡ b
      → (schema : List ℕ) × (slice_get (headings ++ h ∷ []) number ≡ Some (named other.items schema))
  at other number there true test =
      let last : length headings ≡ number = same_Some (length headings) number (sym (by_test other true test) ∙ there) in
      let same : key.items ≡ other.items = exact key.items other.items test in (
        own.0,
        subst (λ (n : ℕ). slice_get (headings ++ h ∷ []) n ≡ Some (named other.items own.0)) last
            (at-the-end headings h ∙ ap (λ (x : Heading). Some x) own.1 ∙ ap (λ (n : List ℕ). Some (named n own.0)) same),
      )
  at other number there false test =
      let (schema, before) = are.found other.items number (sym (by_test other false test) ∙ there) in
      (schema, at-front headings (h ∷ []) number (named other.items schema) before)

  found : (name : List ℕ) (number : ℕ) → number_of new name ≡ Some number
      → (schema : List ℕ) × (slice_get (headings ++ h ∷ []) number ≡ Some (named name schema))
  found name number e =
      let (other, same) = number-found new name number e in
      let there : number_of new other.items ≡ Some number = ap (number_of new) (sym same) ∙ e in
      let (schema, place) = at other number there (is_eq (by_text key other)) refl in
      (schema, place ∙ ap (λ (n : List ℕ). Some (named n schema)) (sym same))

  stays : (other : Text) (schema : List ℕ) (number : ℕ) → slice_get headings number ≡ Some (named other.items schema) → (b : Bool)
      → is_eq (by_text key other) ≡ b → number_of new other.items ≡ Some number
  stays other schema number before true test =
      absurd (absent (subst (λ (n : List ℕ). Contains (section_names headings) n) (sym (exact key.items other.items test))
      (among-names headings other.items schema number before)))
  stays other schema number before false test = by_test other false test ∙ are.kept other.items schema number before

  kept : (name schema : List ℕ) (number : ℕ) → slice_get (headings ++ h ∷ []) number ≡ Some (named name schema)
      → number_of new name ≡ Some number
  kept name schema number e = elim (at-or-before headings h number (named name schema) e) [
    | inl before ↦
        let (other, same) = number-found numbers name number (are.kept name schema number before) in
        ap (number_of new) same ∙ stays other schema number (before ∙ ap (λ (n : List ℕ). Some (named n schema)) same)
        (is_eq (by_text key other)) refl
    | inr end ↦ ap (number_of new) (sym (its-name h key.items name schema is end.1)) ∙ updates.1 ∙ ap (λ (n : ℕ). Some n) (sym end.0)
  ]

-- a section behind the others
pub section-unnamed : (numbers : BTreeMap Text ℕ) (all new : List Section) (x : Section) → new ≡ all ++ x ∷ []
    → heading_names (heading_in x.part) ≡ [] → AreNamedBy numbers (headings_of all) → AreNamedBy numbers (headings_of new)
section-unnamed numbers all new x is none are = subst (AreNamedBy numbers) (sym (ap headings_of is ∙ headings-behind all x))
    (unnamed-more numbers (headings_of all) (heading_in x.part) none are)

pub section-named : (numbers added : BTreeMap Text ℕ) (all new : List Section) (x : Section) (key : Text) (number : ℕ) → new ≡ all ++ x ∷ []
    → heading_names (heading_in x.part) ≡ key.items ∷ []
    → ((name : List ℕ) → Contains (heading_names (heading_in x.part)) name → Contains (section_names (headings_of all)) name → ⊥)
    → number ≡ length all → Updates by_text numbers added key (Some number) → AreNamedBy numbers (headings_of all)
    → AreNamedBy added (headings_of new)
section-named numbers added all new x key number is own absent last updates are =
    let size : number ≡ length (headings_of all) = last ∙ sym (length-map all (λ (y : Section). heading_in y.part)) in
    let there : Contains (heading_names (heading_in x.part)) key.items =
    subst (λ (ns : List (List ℕ)). Contains ns key.items) (sym own) (Contains-first key.items []) in
    subst (AreNamedBy added) (sym (ap headings_of is ∙ headings-behind all x))
    (named-more numbers added (headings_of all) (heading_in x.part) key own (absent key.items there)
    (subst (λ (n : ℕ). Updates by_text numbers added key (Some n)) size updates) are)

-- ---- sections one by one

-- the heading of the section at a place
pub heading-at : (sections : List Section) (k : ℕ) (x : Section) → x ≡ get_or sections k x → k < length sections
    → slice_get (headings_of sections) k ≡ Some (heading_in x.part)
heading-at sections k x is low = slice_get-map (λ (y : Section). heading_in y.part) sections k
    ∙ ap (option_map (λ (y : Section). heading_in y.part)) (slice_get_read sections (length sections) k x refl low is)

-- with one section more
pub headings-more : (sections : List Section) (k : ℕ) (x : Section) → x ≡ get_or sections k x → k < length sections
    → headings_of (take (k + 1) sections) ≡ headings_of (take k sections) ++ heading_in x.part ∷ []
headings-more sections k x is low = ap headings_of (take_more sections k x low ∙ ap (λ (y : Section). take k sections ++ y ∷ []) (sym is))
    ∙ map-append (λ (y : Section). heading_in y.part) (take k sections) (x ∷ [])

pub headings-from : (sections : List Section) (k : ℕ) (x : Section) → x ≡ get_or sections k x → k < length sections
    → headings_of (drop k sections) ≡ heading_in x.part ∷ headings_of (drop (k + 1) sections)
headings-from sections k x is low =
    ap headings_of (drop-cons sections k x low ∙ ap (λ (y : Section). y ∷ drop (suc k) sections) (sym is))
    ∙ ap (λ (n : ℕ). heading_in x.part ∷ headings_of (drop n sections)) (sym (add-one k))

pub unnamed-here : (h : Heading) (more : List Heading) → h ≡ unnamed → Contains (h ∷ more) unnamed
unnamed-here h more is = subst (λ (g : Heading). Contains (g ∷ more) unnamed) (sym is) (Contains-first unnamed more)

pub unnamed-later : (h : Heading) (more : List Heading) → (h ≡ unnamed → ⊥) → Contains (h ∷ more) unnamed → Contains more unnamed
unnamed-later h more other among = elim (Contains-cases h more unnamed among) [ inl same ↦ absurd (other same) | inr far ↦ far ]
