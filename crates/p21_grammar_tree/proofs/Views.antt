-- The views of parameters by their kinds, for the proofs of callers.
use Rattle.std.proofs.Common.{◌≡◌, ℕ, ℤ, Bool, List, rules, Box, Global}
use Rattle.p21_spec_exchange.specs.Number.{Decimal}
use Rattle.p21_spec_exchange.specs.Parameter as meaning
use Rattle.p21_grammar_tree.specs.declared.param.Key.{Key}
use Rattle.p21_grammar_tree.specs.declared.param.Param.{Param}
use Rattle.p21_grammar_tree.specs.declared.param.Param as param
use Rattle.p21_grammar_tree.specs.declared.param.Params.{Params}
use Rattle.p21_grammar_tree.specs.View.{key_view, items_of, view, views}

pub view-Dollar : view param.Dollar ≡ meaning.dollar
view-Dollar = search (rules, param.the_lemmas)

pub view-Star : view param.Star ≡ meaning.star
view-Star = search (rules, param.the_lemmas)

pub view-Whole : (number : ℤ) → view (param.Whole number) ≡ meaning.whole number
view-Whole number = search (rules, param.the_lemmas)

pub view-Real : (number : Decimal) → view (param.Real number) ≡ meaning.real number
view-Real number = search (rules, param.the_lemmas)

pub view-Text : (characters : List ℕ) → view (param.Text characters) ≡ meaning.text characters
view-Text characters = search (rules, param.the_lemmas)

pub view-Name : (number : ℕ) → view (param.Name number) ≡ meaning.name number
view-Name number = search (rules, param.the_lemmas)

pub view-Item : (word : List ℕ) → view (param.Item word) ≡ meaning.item word
view-Item word = search (rules, param.the_lemmas)

pub view-Bits : (value : List Bool) → view (param.Bits value) ≡ meaning.bits value
view-Bits value = search (rules, param.the_lemmas)

pub view-List : (ps : Params) → view (param.List ps) ≡ meaning.list (views (items_of ps))
view-List ps = search (rules, param.the_lemmas)

pub view-Tagged : (key : Key) (p : Box Param Global) → view (param.Tagged key p) ≡ meaning.typed (key_view key) (view p.value)
view-Tagged key p = search (rules, param.the_lemmas)

pub ruleset view_rules = (view-Dollar, view-Star, view-Whole, view-Real, view-Text, view-Name, view-Item, view-Bits, view-List, view-Tagged)
