-- Values of one type that are the same have one text.
use Rattle.std.specs.Prelude.{◌≡◌, ℕ, Bool, true, false, List, ◌∷◌, ◌++◌, codes, Some, Contains, refl}
use Rattle.std.proofs.Common.{ap, sym, subst, ◌∙◌, inl, inr}
use Rattle.p21_spec_basics.proofs.Members.{Contains-none, Contains-first, Contains-later, Contains-cases}
use Rattle.p21_spec_schema.specs.WellFormed.{HasDistinctTypes}
use Rattle.p21_spec_exchange.proofs.ReducedDecimals.{reduced_once}
use Rattle.p21_spec_file.proofs.Sameness.{Same-symmetric}
use Rattle.p21_spec_file.specs.SameValue.{Same, same_wholes, same_reals, same_numbers, same_texts, same_bits, same_items, same_references, both_missing, same_lists, same_arrays, same_sets, same_bags, same_typed, SameInOrder, both_end, both_next, Among, here, there, EachAmong, none_left, each_next, SamePaired, both_empty, paired, Without, without_first, without_later, AreDistinct}
use Rattle.p21_spec_schema.specs.Schema as schema
use Rattle.p21_spec_schema.specs.Schema.{Schema, TypeUse, alias, items, choice}
use Rattle.p21_spec_exchange.specs.Spelling.{spelling}
use Rattle.p21_spec_exchange.specs.Token as token
use Rattle.p21_spec_file.specs.Value.{Value, missing, Values, no_values, value}
use Rattle.p21_spec_laws.proofs.OfType.{OfType, of_whole, of_real, of_number, of_boolean, of_logical, of_text, of_binary, of_entity, of_alias, of_items, of_chosen_instance, of_chosen_type, of_array, of_list, of_set, of_bag, EachOf, of_none, of_next, of_empty, missing-of_none}
use Rattle.p21_spec_laws.proofs.SameFromTexts.{same-from_text}
use Rattle.p21_spec_laws.proofs.Sorting.{insert-swap, sort-members}
use Rattle.p21_spec_file.specs.Sorting.{insert_text, sort_texts}
use Rattle.p21_spec_file.specs.ValueText.{type_name, list_text, value_text, value_texts}
use Rattle.p21_spec_basics.proofs.Shuffles.{AreMembers, NoneTwice}

-- ---- where each element has the text of the values that it is the same as

abbrev IsTextual : Schema → TypeUse → Value → Type 0
IsTextual s type v = (w : Value) → OfType s type w → Same v w → value_text s v ≡ value_text s w

abbrev AreTextual : Schema → TypeUse → Values → Type 0
AreTextual s type no_values = Unit {0}
AreTextual s type (value v vs) = IsTextual s type v × AreTextual s type vs

textual-without : (s : Schema) (type : TypeUse) (v : Value) → IsTextual s type v → (ws rest : Values) → EachOf s false type ws → Without v ws rest
    → (sort_texts (value_texts s ws) ≡ insert_text (value_text s v) (sort_texts (value_texts s rest))) × EachOf s false type rest
textual-without s type v textual ws rest (of_none _ _) without = elim without [ ]
textual-without s type v textual ws rest (of_next _ _ w ws_ of each) (without_first _ _ _ same) = (ap (λ (x : List ℕ). insert_text x (sort_texts (value_texts s ws_))) (sym (textual w of same)), each)
textual-without s type v textual ws rest (of_next _ _ w ws_ of each) (without_later _ _ _ rest_ without) =
    let more = textual-without s type v textual ws_ rest_ each without in
    (ap (insert_text (value_text s w)) more.0 ∙ insert-swap (value_text s w) (value_text s v) (sort_texts (value_texts s rest_)), of_next false type w rest_ of more.1)

textual-paired : (s : Schema) (type : TypeUse) (vs ws : Values) → AreTextual s type vs → EachOf s false type ws → SamePaired vs ws → sort_texts (value_texts s vs) ≡ sort_texts (value_texts s ws)
textual-paired s type vs ws textual each both_empty = refl
textual-paired s type vs ws textual each (paired v vs_ _ rest without pairs) =
    let taken = textual-without s type v textual.0 ws rest each without in
    ap (insert_text (value_text s v)) (textual-paired s type vs_ rest textual.1 taken.1 pairs) ∙ sym taken.0

textual-among : (s : Schema) (type : TypeUse) (v : Value) → IsTextual s type v → (ws : Values) → EachOf s false type ws → Among v ws → Contains (value_texts s ws) (value_text s v)
textual-among s type v textual ws (of_none _ _) among = elim among [ ]
textual-among s type v textual ws (of_next _ _ w ws_ of each) (here _ _ _ same) =
    let P : List ℕ → Type 0 = λ x. Contains (value_text s w ∷ value_texts s ws_) x in
    subst P (sym (textual w of same)) (Contains-first (value_text s w) (value_texts s ws_))
textual-among s type v textual ws (of_next _ _ w ws_ of each) (there _ _ _ among) = Contains-later (value_text s w) (value_texts s ws_) (value_text s v) (textual-among s type v textual ws_ each among)

textual-each_among : (s : Schema) (type : TypeUse) (vs ws : Values) → AreTextual s type vs → EachOf s false type ws → EachAmong vs ws → AreMembers (value_texts s vs) (value_texts s ws)
textual-each_among s type vs ws textual each (none_left _) x among = absurd (Contains-none x among)
textual-each_among s type vs ws textual each (each_next v vs_ _ first more) x among = elim (Contains-cases (value_text s v) (value_texts s vs_) x among) [
  | inl h ↦ (let P : List ℕ → Type 0 = λ y. Contains (value_texts s ws) y in subst P h (textual-among s type v textual.0 ws each first))
  | inr h ↦ textual-each_among s type vs_ ws textual.1 each more x h
]

-- and from the other side
textual-back : (s : Schema) (type : TypeUse) (w : Value) → OfType s type w → (vs : Values) → AreTextual s type vs → Among w vs → Contains (value_texts s vs) (value_text s w)
textual-back s type w of vs textual (here _ v vs_ same) =
    let P : List ℕ → Type 0 = λ x. Contains (value_text s v ∷ value_texts s vs_) x in
    subst P (textual.0 w of (Same-symmetric w v same)) (Contains-first (value_text s v) (value_texts s vs_))
textual-back s type w of vs textual (there _ v vs_ among) = Contains-later (value_text s v) (value_texts s vs_) (value_text s w) (textual-back s type w of vs_ textual.1 among)

textual-each_back : (s : Schema) (type : TypeUse) (ws vs : Values) → EachOf s false type ws → AreTextual s type vs → EachAmong ws vs → AreMembers (value_texts s ws) (value_texts s vs)
textual-each_back s type ws vs each textual (none_left _) x among = absurd (Contains-none x among)
textual-each_back s type ws vs (of_next _ _ _ _ of each) textual (each_next w ws_ _ first more) x among = elim (Contains-cases (value_text s w) (value_texts s ws_) x among) [
  | inl h ↦ (let P : List ℕ → Type 0 = λ y. Contains (value_texts s vs) y in subst P h (textual-back s type w of vs textual first))
  | inr h ↦ textual-each_back s type ws_ vs each textual more x h
]

-- ---- distinct values have distinct texts

text-among : (s : Schema) → HasDistinctTypes s → (type : TypeUse) (v : Value) → OfType s type v → (ws : Values) → EachOf s false type ws → Contains (value_texts s ws) (value_text s v) → Among v ws
text-among s distinct type v of ws (of_none _ _) among = absurd (Contains-none (value_text s v) among)
text-among s distinct type v of ws (of_next _ _ w ws_ of_ each) among = elim (Contains-cases (value_text s w) (value_texts s ws_) (value_text s v) among) [
  | inl h ↦ here v w ws_ (same-from_text s distinct type v w of of_ (sym h))
  | inr h ↦ there v w ws_ (text-among s distinct type v of ws_ each h)
]

pub texts-none_twice : (s : Schema) → HasDistinctTypes s → (type : TypeUse) (vs : Values) → EachOf s false type vs → AreDistinct vs → NoneTwice (value_texts s vs)
texts-none_twice s distinct type vs (of_none _ _) differ = tt
texts-none_twice s distinct type vs (of_next _ _ v vs_ of each) differ =
    (λ among. differ.0 (missing-of_none s type v of) (text-among s distinct type v of vs_ each among), texts-none_twice s distinct type vs_ each differ.1)

-- ---- values that are the same

pub same-missing : (v : Value) → Same v missing → v ≡ missing
same-missing v both_missing = refl

mutual
  pub text-from_same : (s : Schema) → HasDistinctTypes s → (type : TypeUse) (v w : Value) → OfType s type v → OfType s type w → Same v w → value_text s v ≡ value_text s w
  text-from_same s distinct type v w (of_whole _) (of_whole _) (same_wholes _) = refl
  text-from_same s distinct type v w (of_real a first) (of_real b second) (same_reals _ _ same) = ap (λ d. spelling (token.real d)) (reduced_once a b first.1.is_reduced second.1.is_reduced same)
  text-from_same s distinct type v w (of_number a first) (of_number b second) (same_numbers _ _ same) = ap (λ d. spelling (token.real d)) (reduced_once a b first.1.is_reduced second.1.is_reduced same)
  text-from_same s distinct type v w (of_boolean _ _) (of_boolean _ _) (same_items _) = refl
  text-from_same s distinct type v w (of_logical _ _) (of_logical _ _) (same_items _) = refl
  text-from_same s distinct type v w (of_text _ _ _) (of_text _ _ _) (same_texts _) = refl
  text-from_same s distinct type v w (of_binary _ _) (of_binary _ _) (same_bits _) = refl
  text-from_same s distinct type v w (of_entity _ _ _) (of_entity _ _ _) (same_references _) = refl
  text-from_same s distinct type v w (of_alias t under _ is of) (of_alias _ under_ _ is_ of_) same =
      let one : under_ ≡ under = let h : Some (alias under_) ≡ Some (alias under) = sym is_ ∙ is in cc in
      let P : TypeUse → Type 0 = λ u. OfType s u w in
      text-from_same s distinct under v w of (subst P one of_) same
  text-from_same s distinct type v w (of_alias t under _ is of) (of_items _ words _ is_ _) same = let h : Some (alias under) ≡ Some (items words) = sym is ∙ is_ in cc
  text-from_same s distinct type v w (of_alias t under _ is of) (of_chosen_instance _ _ is_ _) same = let h : Some (alias under) ≡ Some (choice is_.0) = sym is ∙ is_.1 in cc
  text-from_same s distinct type v w (of_alias t under _ is of) (of_chosen_type _ _ _ _ is_ _ _ _) same = let h : Some (alias under) ≡ Some (choice is_.0) = sym is ∙ is_.1 in cc
  text-from_same s distinct type v w (of_items t words a is _) (of_alias _ under _ is_ _) same = let h : Some (alias under) ≡ Some (items words) = sym is_ ∙ is in cc
  text-from_same s distinct type v w (of_items _ _ _ _ _) (of_items _ _ _ _ _) (same_items _) = refl
  text-from_same s distinct type v w (of_chosen_instance t a is _) (of_alias _ under _ is_ _) same = let h : Some (alias under) ≡ Some (choice is.0) = sym is_ ∙ is.1 in cc
  text-from_same s distinct type v w (of_chosen_instance _ _ _ _) (of_chosen_instance _ _ _ _) (same_references _) = refl
  text-from_same s distinct type v w (of_chosen_type t u name x is _ _ _) (of_alias _ under _ is_ _) same = let h : Some (alias under) ≡ Some (choice is.0) = sym is_ ∙ is.1 in cc
  text-from_same s distinct type v w (of_chosen_type t u name x is named _ of) (of_chosen_type _ _ _ y _ _ _ of_) (same_typed _ _ _ same) =
      ap (λ (z : List ℕ). type_name s u ++ (codes "(" ++ (z ++ codes ")"))) (text-from_same s distinct (schema.defined u) x y of of_ same)
  text-from_same s distinct type v w (of_items _ _ _ _ _) (of_chosen_instance _ _ _ _) same = elim same [ ]
  text-from_same s distinct type v w (of_items _ _ _ _ _) (of_chosen_type _ _ _ _ _ _ _ _) same = elim same [ ]
  text-from_same s distinct type v w (of_chosen_instance _ _ _ _) (of_items _ _ _ _ _) same = elim same [ ]
  text-from_same s distinct type v w (of_chosen_instance _ _ _ _) (of_chosen_type _ _ _ _ _ _ _ _) same = elim same [ ]
  text-from_same s distinct type v w (of_chosen_type _ _ _ _ _ _ _ _) (of_items _ _ _ _ _) same = elim same [ ]
  text-from_same s distinct type v w (of_chosen_type _ _ _ _ _ _ _ _) (of_chosen_instance _ _ _ _) same = elim same [ ]
  text-from_same s distinct type v w (of_array _ _ optional _ element vs each) (of_array _ _ _ _ _ ws each_) (same_arrays _ _ same) = ap list_text (texts-in_order s distinct optional element vs ws each each_ same)
  text-from_same s distinct type v w (of_list _ _ _ element vs each) (of_list _ _ _ _ ws each_) (same_lists _ _ same) = ap list_text (texts-in_order s distinct false element vs ws each each_ same)
  text-from_same s distinct type v w (of_set _ _ element vs each differ) (of_set _ _ _ ws each_ differ_) (same_sets _ _ onto back) =
      let textual = are_textual s distinct element vs each in
      ap list_text (sort-members (value_texts s vs) (value_texts s ws) (texts-none_twice s distinct element vs each differ) (texts-none_twice s distinct element ws each_ differ_)
      (textual-each_among s element vs ws textual each_ onto) (textual-each_back s element ws vs each_ textual back))
  text-from_same s distinct type v w (of_bag _ _ element vs each) (of_bag _ _ _ ws each_) (same_bags _ _ pairs) =
      ap list_text (textual-paired s element vs ws (are_textual s distinct element vs each) each_ pairs)

  are_textual : (s : Schema) → HasDistinctTypes s → (type : TypeUse) (vs : Values) → EachOf s false type vs → AreTextual s type vs
  are_textual s distinct type vs (of_none _ _) = tt
  are_textual s distinct type vs (of_next _ _ v vs_ of each) = (λ w of_ same. text-from_same s distinct type v w of of_ same, are_textual s distinct type vs_ each)

  texts-in_order : (s : Schema) → HasDistinctTypes s → (optional : Bool) (type : TypeUse) (vs ws : Values) → EachOf s optional type vs → EachOf s optional type ws → SameInOrder vs ws → value_texts s vs ≡ value_texts s ws
  texts-in_order s distinct optional type vs ws (of_none _ _) (of_none _ _) both_end = refl
  texts-in_order s distinct optional type vs ws (of_none _ _) (of_next _ _ _ _ _ _) same = elim same [ ]
  texts-in_order s distinct optional type vs ws (of_none _ _) (of_empty _ _ _) same = elim same [ ]
  texts-in_order s distinct optional type vs ws (of_next _ _ _ _ _ _) (of_none _ _) same = elim same [ ]
  texts-in_order s distinct optional type vs ws (of_empty _ _ _) (of_none _ _) same = elim same [ ]
  texts-in_order s distinct optional type vs ws (of_next _ _ v vs_ of each) (of_next _ _ w ws_ of_ each_) (both_next _ _ _ _ same more) =
      ap (λ (x : List ℕ). x ∷ value_texts s vs_) (text-from_same s distinct type v w of of_ same) ∙ ap (λ (xs : List (List ℕ)). value_text s w ∷ xs) (texts-in_order s distinct optional type vs_ ws_ each each_ more)
  texts-in_order s distinct optional type vs ws (of_next _ _ v vs_ of each) (of_empty _ ws_ each_) (both_next _ _ _ _ same more) = absurd (missing-of_none s type v of (same-missing v same))
  texts-in_order s distinct optional type vs ws (of_empty _ vs_ each) (of_next _ _ w ws_ of_ each_) (both_next _ _ _ _ same more) = absurd (missing-of_none s type w of_ (same-missing w (Same-symmetric missing w same)))
  texts-in_order s distinct optional type vs ws (of_empty _ vs_ each) (of_empty _ ws_ each_) (both_next _ _ _ _ same more) = ap (λ (xs : List (List ℕ)). codes "$" ∷ xs) (texts-in_order s distinct true type vs_ ws_ each each_ more)
