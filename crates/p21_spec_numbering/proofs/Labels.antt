-- Labels: of values that are the same, and with other names.
use Rattle.std.specs.Prelude.{◌≡◌, ℕ, List, [], ◌∷◌, ◌++◌, codes, map, refl}
use Rattle.std.specs.List.{AllZip, AllByRecursion as Each}
use Rattle.std.proofs.Common.{ap, sym, ◌∙◌}
use Rattle.p21_spec_exchange.proofs.ReducedDecimals.{reduced_once}
use Rattle.p21_spec_exchange.specs.Spelling.{spelling}
use Rattle.p21_spec_exchange.specs.Token as token
use Rattle.p21_spec_file.specs.SameValue.{Same, same_wholes, same_reals, same_numbers, same_texts, same_bits, same_items, same_references, both_derived, both_missing, same_lists, same_arrays, same_sets, same_bags, same_typed, SameInOrder, both_end, both_next, SamePaired, both_empty, paired, Without, without_first, without_later}
use Rattle.p21_spec_file.specs.Sorting.{insert_text, sort_texts}
use Rattle.p21_spec_file.specs.Value.{Value, whole, real, number, text, bits, item, reference, derived, missing, list, array, set, bag, typed, Values, no_values, value}
use Rattle.p21_spec_file.specs.ValueText.{type_name, list_text, value_text, value_texts}
use Rattle.p21_spec_laws.proofs.Sorting.{insert-swap}
use Rattle.p21_spec_schema.specs.Schema.{Schema}
use Rattle.p21_spec_numbering.proofs.Renaming.{values-twice}
use Rattle.p21_spec_numbering.proofs.Settled.{apart-paired}
use Rattle.p21_spec_numbering.specs.Numbered.{entity_name, unnamed_text}
use Rattle.p21_spec_numbering.specs.Renamed.{renamed_value, renamed_values}
use Rattle.p21_spec_numbering.specs.Settled.{IsSettled, AreSettled}

abbrev blank : Value → Value
blank v = renamed_value (λ _. 0) v

abbrev blanks : Values → Values
blanks vs = renamed_values (λ _. 0) vs

-- each settled value that is the same has this text
abbrev IsTextual : Schema → Value → Type 0
IsTextual s v = (w : Value) → IsSettled w → Same v w → value_text s (blank v) ≡ value_text s (blank w)

abbrev AreTextual : Schema → Values → Type 0
AreTextual s no_values = Unit {0}
AreTextual s (value v vs) = IsTextual s v × AreTextual s vs

textual-without : (s : Schema) (v : Value) → IsTextual s v → (ws rest : Values) → AreSettled ws → Without v ws rest
    → (sort_texts (value_texts s (blanks ws)) ≡ insert_text (value_text s (blank v)) (sort_texts (value_texts s (blanks rest)))) × AreSettled rest
textual-without s v textual ws rest settled (without_first _ w more same) =
    (ap (λ (x : List ℕ). insert_text x (sort_texts (value_texts s (blanks more)))) (sym (textual w settled.0 same)), settled.1)
textual-without s v textual ws rest settled (without_later _ w more rest_ without) =
    let later = textual-without s v textual more rest_ settled.1 without in
    (ap (insert_text (value_text s (blank w))) later.0 ∙ insert-swap (value_text s (blank w)) (value_text s (blank v)) (sort_texts (value_texts s (blanks rest_))), (settled.0, later.1))

textual-paired : (s : Schema) (vs ws : Values) → AreTextual s vs → AreSettled ws → SamePaired vs ws
    → sort_texts (value_texts s (blanks vs)) ≡ sort_texts (value_texts s (blanks ws))
textual-paired s vs ws textual settled both_empty = refl
textual-paired s vs ws textual settled (paired v vs_ _ rest without pairs) =
    let taken = textual-without s v textual.0 ws rest settled without in
    ap (insert_text (value_text s (blank v))) (textual-paired s vs_ rest textual.1 taken.1 pairs) ∙ sym taken.0

mutual
  pub blank-same : (s : Schema) (v w : Value) → IsSettled v → IsSettled w → Same v w → value_text s (blank v) ≡ value_text s (blank w)
  blank-same s (whole z) w settled settled_ (same_wholes _) = refl
  blank-same s (real a) w settled settled_ (same_reals _ b ratio) =
      ap (λ d. spelling (token.real d)) (reduced_once a b settled settled_ ratio)
  blank-same s (number a) w settled settled_ (same_numbers _ b ratio) =
      ap (λ d. spelling (token.real d)) (reduced_once a b settled settled_ ratio)
  blank-same s (text chars) w settled settled_ (same_texts _) = refl
  blank-same s (bits bs) w settled settled_ (same_bits _) = refl
  blank-same s (item word) w settled settled_ (same_items _) = refl
  blank-same s (reference n) w settled settled_ (same_references _) = refl
  blank-same s derived w settled settled_ both_derived = refl
  blank-same s missing w settled settled_ both_missing = refl
  blank-same s (list vs) w settled settled_ (same_lists _ ws same) = ap list_text (blank-in_order s vs ws settled settled_ same)
  blank-same s (array vs) w settled settled_ (same_arrays _ ws same) = ap list_text (blank-in_order s vs ws settled settled_ same)
  blank-same s (set vs) w settled settled_ (same_sets _ ws onto back) =
      ap list_text (textual-paired s vs ws (are_textual s vs settled.1) settled_.1 (apart-paired vs ws onto back settled.0 settled_.0))
  blank-same s (bag vs) w settled settled_ (same_bags _ ws pairs) =
      ap list_text (textual-paired s vs ws (are_textual s vs settled) settled_ pairs)
  blank-same s (typed t v) w settled settled_ (same_typed _ _ u same) =
      ap (λ (z : List ℕ). type_name s t ++ (codes "(" ++ (z ++ codes ")"))) (blank-same s v u settled settled_ same)

  are_textual : (s : Schema) (vs : Values) → AreSettled vs → AreTextual s vs
  are_textual s no_values settled = tt
  are_textual s (value v vs) settled = (λ w settled_ same. blank-same s v w settled.0 settled_ same, are_textual s vs settled.1)

  pub blank-in_order : (s : Schema) (vs ws : Values) → AreSettled vs → AreSettled ws → SameInOrder vs ws
      → value_texts s (blanks vs) ≡ value_texts s (blanks ws)
  blank-in_order s no_values ws settled settled_ both_end = refl
  blank-in_order s (value v vs) ws settled settled_ (both_next _ w _ ws_ same more) =
      ap (λ (x : List ℕ). x ∷ value_texts s (blanks vs)) (blank-same s v w settled.0 settled_.0 same) ∙ ap (λ (xs : List (List ℕ)). value_text s (blank w) ∷ xs) (blank-in_order s vs ws_ settled.1 settled_.1 more)

-- the text with no names in it, of rows that are the same
pub unnamed-same : (s : Schema) (es : List ℕ) (xs ys : List Values) → Each AreSettled xs → Each AreSettled ys → AllZip SameInOrder xs ys
    → unnamed_text s es xs ≡ unnamed_text s es ys
unnamed-same s [] xs ys settled settled_ all = refl
unnamed-same s (e ∷ es) [] [] settled settled_ all = refl
unnamed-same s (e ∷ es) [] (y ∷ ys) settled settled_ all = absurd all
unnamed-same s (e ∷ es) (x ∷ xs) [] settled settled_ all = absurd all
unnamed-same s (e ∷ es) (x ∷ xs) (y ∷ ys) settled settled_ all =
    ap (λ (ts : List (List ℕ)). entity_name s e ++ (list_text ts ++ unnamed_text s es xs)) (blank-in_order s x y settled.0 settled_.0 all.0)
    ∙ ap (λ (zs : List ℕ). entity_name s e ++ (list_text (value_texts s (blanks y)) ++ zs)) (unnamed-same s es xs ys settled.1 settled_.1 all.1)

-- and with other names
pub unnamed-renamed : (s : Schema) (f : ℕ → ℕ) (es : List ℕ) (rows : List Values)
    → unnamed_text s es (map (renamed_values f) rows) ≡ unnamed_text s es rows
unnamed-renamed s f [] rows = refl
unnamed-renamed s f (e ∷ es) [] = refl
unnamed-renamed s f (e ∷ es) (vs ∷ rows) =
    ap (λ (us : Values). entity_name s e ++ (list_text (value_texts s us) ++ unnamed_text s es (map (renamed_values f) rows))) (values-twice f (λ _. 0) (λ _. 0) vs (λ t among. refl))
    ∙ ap (λ (zs : List ℕ). entity_name s e ++ (list_text (value_texts s (blanks vs)) ++ zs)) (unnamed-renamed s f es rows)
