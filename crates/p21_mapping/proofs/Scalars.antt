-- Scalars at their types.
use Rattle.std.proofs.Common.{◌≡◌, ◌∙◌, ◌↔◌, sym, ap, refl, subst, ℕ, ℤ, Bool, true, false, List, [], Ok, Err, IsTrue, Contains, length, Option, rules}
use Rattle.std.specs.List.{AllByRecursion as Each}
use Rattle.std.specs.Char.{IsScalar}
use denote.Ref.{Bor}
use Rattle.p21_mapping_values.proofs.SpelledScalars.{item-spelled, real-spelled, text-spelled}
use Rattle.p21_spec_laws.proofs.OfType.{OfType, of_whole, of_real, of_number, of_boolean, of_logical, of_text, of_binary, of_items}
use Rattle.p21_spec_laws.specs.Needs.{FitsWithNeeds, with_whole, with_real, with_number, with_whole_number, with_boolean, with_logical, with_text, with_binary, with_item}
use Rattle.p21_spec_exchange.specs.Keyword.{IsKeyword}
use Rattle.p21_spec_exchange.specs.Number.{Decimal, whole_ratio}
use Rattle.p21_spec_exchange.specs.Parameter as parameter
use Rattle.p21_schema.specs.Base.{IsBase}
use Rattle.p21_schema.specs.declared.base.Base.{Base}
use Rattle.p21_schema.specs.declared.base.Base.TheVariants.{Plain, Items}
use Rattle.p21_express_graph.specs.declared.type_use.TypeUse as code
use Rattle.p21_express_graph.specs.declared.type_use.Width.{Width}
use Rattle.p21_express_graph.specs.Meaning.{type_use, width_option}
use Rattle.p21_spec_file.specs.BrokenValue.{number_range, wrong_width, unknown_item}
use Rattle.p21_spec_file.specs.Fits.{IsWithinWidth, boolean_items, logical_items}
use Rattle.p21_spec_file.specs.ParameterKind.{HasItems, of_boolean as items_of_boolean, of_logical as items_of_logical, of_enumeration}
use Rattle.p21_spec_file.specs.Value as meant
use Rattle.p21_mapping.proofs.Outcomes.{alone, broken}
use Rattle.p21_mapping.specs.Outcome.{DecidesItem, FitsAlone, FitsOrBreaks}
use Rattle.p21_mapping_values.proofs.Views.{view-Whole, view-Real, view-Number, view-Text, view-Bits, view-Item}
use Rattle.p21_grammar_tree.specs.declared.fault.CheckFault.TheVariants as fault
use Rattle.p21_mapping_values.specs.declared.value.Value as value
use Rattle.p21_grammar_tree.specs.Fault.{value_fault}
use Rattle.p21_spec_schema.specs.Schema as schema
use Rattle.p21_spec_schema.specs.Schema.{Schema, TypeUse}
use Rattle.p21_values.specs.Decimal.{IsDecimal, ReducesRatio}
use Rattle.p21_values.specs.declared.fault.ValueFault.{ValueFault}
use Rattle.p21_values.specs.declared.fault.ValueFault.TheVariants as of_value

-- what comes to a type that is no declared one is this type
plainly : (s : Schema) (type : TypeUse) (base : Base) (b : Bor code.TypeUse) (u : code.TypeUse) → base ≡ Plain b → b.now ≡ u
    → IsBase s type base → type ≡ type_use u
plainly s type base b u same now is = (subst (IsBase s type) same is).0 ∙ ap type_use now

-- ---- numbers

pub whole_at : (base : Base) (b : Bor code.TypeUse) (z : ℤ) → base ≡ Plain b → b.now ≡ code.Whole
    → FitsAlone base (parameter.whole z) (Ok (value.Whole z))
whole_at base b z same now s type old is = alone s type schema.whole (parameter.whole z) (value.Whole z) (meant.whole z) old
    (plainly s type base b code.Whole same now is) (view-Whole z) (with_whole z) tt (of_whole z)

pub number_of_whole : (base : Base) (b : Bor code.TypeUse) (z : ℤ) (d : Decimal) → base ≡ Plain b → b.now ≡ code.Number
    → ReducesRatio (whole_ratio z) (Ok d) → IsDecimal d → FitsAlone base (parameter.whole z) (Ok (value.Number d))
number_of_whole base b z d same now (reduced, range, ratio) decimal s type old is =
    alone s type schema.number (parameter.whole z) (value.Number d) (meant.number d) old (plainly s type base b code.Number same now is)
    (view-Number d) (with_whole_number z d reduced decimal.in_range (sym ratio)) tt (of_number d (real-spelled d decimal))

pub number_out_of_range : (base : Base) (b : Bor code.TypeUse) (z : ℤ) (error : ValueFault) → base ≡ Plain b → b.now ≡ code.Number
    → ReducesRatio (whole_ratio z) (Err error) → FitsAlone base (parameter.whole z) (Err (value_fault error))
number_out_of_range base b z of_value.NumberRange same now out s type old is =
    subst (λ t. FitsOrBreaks s t (parameter.whole z) old (Err fault.NumberRange) old) (sym (plainly s type base b code.Number same now is))
    (broken s schema.number (parameter.whole z) old old fault.NumberRange (number_range z out))
number_out_of_range base b z of_value.NoMemory same now out s type old is = λ other. absurd (other refl)
number_out_of_range base b z other same now out s type old is = absurd out

pub real_at : (base : Base) (b : Bor code.TypeUse) (d : Decimal) → base ≡ Plain b → b.now ≡ code.Real → IsDecimal d
    → FitsAlone base (parameter.real d) (Ok (value.Real d))
real_at base b d same now decimal s type old is = alone s type schema.real (parameter.real d) (value.Real d) (meant.real d) old
    (plainly s type base b code.Real same now is) (view-Real d) (with_real d) tt (of_real d (real-spelled d decimal))

pub number_at : (base : Base) (b : Bor code.TypeUse) (d : Decimal) → base ≡ Plain b → b.now ≡ code.Number → IsDecimal d
    → FitsAlone base (parameter.real d) (Ok (value.Number d))
number_at base b d same now decimal s type old is =
    alone s type schema.number (parameter.real d) (value.Number d) (meant.number d) old (plainly s type base b code.Number same now is)
    (view-Number d) (with_number d) tt (of_number d (real-spelled d decimal))

-- ---- texts and bits

pub text_at : (base : Base) (b : Bor code.TypeUse) (width : Option Width) (chars : List ℕ) → base ≡ Plain b → b.now ≡ code.Text width
    → IsWithinWidth (width_option width) (length chars) → Each IsScalar chars
    → FitsAlone base (parameter.text chars) (Ok (value.Text chars))
text_at base b width chars same now within scalars s type old is =
    alone s type (schema.text (width_option width)) (parameter.text chars) (value.Text chars) (meant.text chars) old
    (plainly s type base b (code.Text width) same now is) (view-Text chars) (with_text (width_option width) chars within) tt
    (of_text (width_option width) chars (text-spelled chars scalars))

pub text_too_wide : (base : Base) (b : Bor code.TypeUse) (width : Option Width) (chars : List ℕ) → base ≡ Plain b → b.now ≡ code.Text width
    → ¬ IsWithinWidth (width_option width) (length chars) → FitsAlone base (parameter.text chars) (Err fault.Width)
text_too_wide base b width chars same now wide s type old is =
    subst (λ t. FitsOrBreaks s t (parameter.text chars) old (Err fault.Width) old)
    (sym (plainly s type base b (code.Text width) same now is))
    (broken s (schema.text (width_option width)) (parameter.text chars) old old fault.Width
    (wrong_width (schema.text (width_option width)) (parameter.text chars) wide))

pub bits_at : (base : Base) (b : Bor code.TypeUse) (width : Option Width) (bs : List Bool) → base ≡ Plain b → b.now ≡ code.Bits width
    → IsWithinWidth (width_option width) (length bs) → FitsAlone base (parameter.bits bs) (Ok (value.Bits bs))
bits_at base b width bs same now within s type old is =
    alone s type (schema.bits (width_option width)) (parameter.bits bs) (value.Bits bs) (meant.bits bs) old
    (plainly s type base b (code.Bits width) same now is) (view-Bits bs) (with_binary (width_option width) bs within) tt
    (of_binary (width_option width) bs)

pub bits_too_wide : (base : Base) (b : Bor code.TypeUse) (width : Option Width) (bs : List Bool) → base ≡ Plain b → b.now ≡ code.Bits width
    → ¬ IsWithinWidth (width_option width) (length bs) → FitsAlone base (parameter.bits bs) (Err fault.Width)
bits_too_wide base b width bs same now wide s type old is =
    subst (λ t. FitsOrBreaks s t (parameter.bits bs) old (Err fault.Width) old) (sym (plainly s type base b (code.Bits width) same now is))
    (broken s (schema.bits (width_option width)) (parameter.bits bs) old old fault.Width
    (wrong_width (schema.bits (width_option width)) (parameter.bits bs) wide))

-- ---- items

pub decides-boolean : (base : Base) (b : Bor code.TypeUse) (word : List ℕ) (is_one : Bool) → base ≡ Plain b → b.now ≡ code.Boolean
    → IsTrue is_one ↔ Contains boolean_items word → DecidesItem base word is_one
decides-boolean base b word is_one same now h s type is =
    (boolean_items, subst (λ t. HasItems s t boolean_items) (sym (plainly s type base b code.Boolean same now is)) items_of_boolean, h)

pub decides-logical : (base : Base) (b : Bor code.TypeUse) (word : List ℕ) (is_one : Bool) → base ≡ Plain b → b.now ≡ code.Logical
    → IsTrue is_one ↔ Contains logical_items word → DecidesItem base word is_one
decides-logical base b word is_one same now h s type is =
    (logical_items, subst (λ t. HasItems s t logical_items) (sym (plainly s type base b code.Logical same now is)) items_of_logical, h)

pub decides-items : (base : Base) (items : Bor (List (List ℕ))) (word : List ℕ) (is_one : Bool) → base ≡ Items items → IsTrue is_one
    ↔ Contains items.now word → DecidesItem base word is_one
decides-items base items word is_one same h s type is =
    let (t, same_type, kind) = subst (IsBase s type) same is in
    (items.now, subst (λ x. HasItems s x items.now) (sym same_type) (of_enumeration t items.now kind), h)

item-fits : (s : Schema) (type : TypeUse) (words : List (List ℕ)) (word : List ℕ) → HasItems s type words → Contains words word
    → FitsWithNeeds s type (parameter.item word) (meant.item word) []
item-fits s type words word items_of_boolean among = with_boolean word among
item-fits s type words word items_of_logical among = with_logical word among
item-fits s type words word (of_enumeration t _ is) among = with_item t words word is among

item-of : (s : Schema) (type : TypeUse) (words : List (List ℕ)) (word : List ℕ) → HasItems s type words → IsKeyword word
    → OfType s type (meant.item word)
item-of s type words word items_of_boolean keyword = of_boolean word (item-spelled word keyword)
item-of s type words word items_of_logical keyword = of_logical word (item-spelled word keyword)
item-of s type words word (of_enumeration t _ is) keyword = of_items t words word is (item-spelled word keyword)

pub item_at : (base : Base) (word : List ℕ) (is_one : Bool) → DecidesItem base word is_one → is_one ≡ true → IsKeyword word
    → FitsAlone base (parameter.item word) (Ok (value.Item word))
item_at base word is_one decides one keyword s type old is =
    let (words, has, among) = decides s type is in
    alone s type type (parameter.item word) (value.Item word) (meant.item word) old refl (view-Item word)
    (item-fits s type words word has (among.0 (search rules))) tt (item-of s type words word has keyword)

pub item_unknown : (base : Base) (word : List ℕ) (is_one : Bool) → DecidesItem base word is_one → is_one ≡ false
    → FitsAlone base (parameter.item word) (Err fault.UnknownItem)
item_unknown base word is_one decides none s type old is =
    let (words, has, among) = decides s type is in
    broken s type (parameter.item word) old old fault.UnknownItem
    (unknown_item type words word has (λ is_among. let is_yes = among.1 is_among in search rules))
