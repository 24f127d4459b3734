-- What a value means, level by level.
use Rattle.std.proofs.Common.{◌≡◌, ℕ, ℤ, Bool, List, rules, Box, Global}
use Rattle.p21_mapping_values.specs.declared.value.Value.{Value}
use Rattle.p21_mapping_values.specs.declared.value.Value as value
use Rattle.p21_mapping_values.specs.declared.value.Values.{Values}
use Rattle.p21_mapping_values.specs.View.{view, views, list_of}
use Rattle.p21_express_graph.specs.declared.number.TypeId.{TypeId}
use Rattle.p21_spec_exchange.specs.Number.{Decimal}
use Rattle.p21_spec_file.specs.Value as meant

pub view-Whole : (z : ℤ) → view (value.Whole z) ≡ meant.whole z
view-Whole z = search (rules, value.the_lemmas)

pub view-Real : (d : Decimal) → view (value.Real d) ≡ meant.real d
view-Real d = search (rules, value.the_lemmas)

pub view-Number : (d : Decimal) → view (value.Number d) ≡ meant.number d
view-Number d = search (rules, value.the_lemmas)

pub view-Text : (characters : List ℕ) → view (value.Text characters) ≡ meant.text characters
view-Text characters = search (rules, value.the_lemmas)

pub view-Bits : (bits : List Bool) → view (value.Bits bits) ≡ meant.bits bits
view-Bits bits = search (rules, value.the_lemmas)

pub view-Item : (word : List ℕ) → view (value.Item word) ≡ meant.item word
view-Item word = search (rules, value.the_lemmas)

pub view-Reference : (n : ℕ) → view (value.Reference n) ≡ meant.reference n
view-Reference n = search (rules, value.the_lemmas)

pub view-Derived : view value.Derived ≡ meant.derived
view-Derived = search (rules, value.the_lemmas)

pub view-Missing : view value.Missing ≡ meant.missing
view-Missing = search (rules, value.the_lemmas)

pub view-List : (vs : Values) → view (value.List vs) ≡ meant.list (views (list_of vs))
view-List vs = search (rules, value.the_lemmas)

pub view-Array : (vs : Values) → view (value.Array vs) ≡ meant.array (views (list_of vs))
view-Array vs = search (rules, value.the_lemmas)

pub view-Set : (vs : Values) → view (value.Set vs) ≡ meant.set (views (list_of vs))
view-Set vs = search (rules, value.the_lemmas)

pub view-Bag : (vs : Values) → view (value.Bag vs) ≡ meant.bag (views (list_of vs))
view-Bag vs = search (rules, value.the_lemmas)

pub view-Tagged : (t : TypeId) (v : Box Value Global) → view (value.Tagged t v) ≡ meant.typed t.0 (view v.value)
view-Tagged t v = search (rules, value.the_lemmas)

pub ruleset view_equations = (
  view-Whole,
  view-Real,
  view-Number,
  view-Text,
  view-Bits,
  view-Item,
  view-Reference,
  view-Derived,
  view-Missing,
  view-List,
  view-Array,
  view-Set,
  view-Bag,
  view-Tagged,
)
