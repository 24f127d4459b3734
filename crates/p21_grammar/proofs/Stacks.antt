-- Open rows of parameters, as they lie in memory.
use Rattle.std.proofs.Common.{◌≡◌, ◌+◌, ◌<◌, List, [], ◌∷◌, ◌++◌, length, refl, ap, arith}
use Rattle.p21_spec_exchange.specs.Parameter.{param}
use Rattle.p21_grammar_tree.specs.declared.param.Param.{Param}
use Rattle.p21_grammar_tree.specs.declared.record.Part.{Part}
use Rattle.p21_grammar_tree.specs.View.{view, views, part_view, part_views}
use Rattle.p21_grammar_tree.proofs.Views.{view-Dollar, view-Star, view-Whole, view-Real, view-Text, view-Name, view-Item, view-Bits, view-List, view-Tagged}
use Rattle.p21_spec_exchange.specs.Parameter.{Key}
use Rattle.p21_grammar.specs.Begins.{count}
use Rattle.p21_grammar.specs.Machine.{Open, Opening, open_at, open_of, onto, stack_of, push, refuse, close_typed, close_empty}
use Rattle.p21_grammar.specs.declared.fault.GrammarFault.TheVariants.{Unexpected}
use Rattle.p21_grammar.specs.declared.stage.Stage.{Stage}
use Rattle.p21_grammar.specs.declared.machine.Row.{Row}

onto-push : (st : List Open) (rows : List Row) (row : Row) → onto st (rows ++ row ∷ []) ≡ open_of row ∷ onto st rows
onto-push st [] row = refl
onto-push st (first ∷ rows) row = onto-push (open_of first ∷ st) rows row

length-onto : (st : List Open) (rows : List Row) → length (onto st rows) ≡ length st + length rows
length-onto st [] = omega arith
length-onto st (row ∷ rows) = omega (arith, length-onto (open_of row ∷ st) rows)

pub stack_of-none : stack_of [] ≡ []
unfolding stack_of
stack_of-none = refl

pub stack_of-push : (rows : List Row) (row : Row) → stack_of (rows ++ row ∷ []) ≡ open_of row ∷ stack_of rows
unfolding stack_of
stack_of-push rows row = onto-push [] rows row

pub length-stack_of : (rows : List Row) → length (stack_of rows) ≡ length rows
unfolding stack_of
length-stack_of rows = omega (arith, length-onto [] rows)

pub views-push : (ps : List Param) (p : Param) → views (ps ++ p ∷ []) ≡ push (views ps) (view p)
views-push [] p = refl
views-push (q ∷ ps) p = ap (param (view q)) (views-push ps p)

pub parts-push : (ps : List Part) (p : Part) → part_views (ps ++ p ∷ []) ≡ part_views ps ++ part_view p ∷ []
parts-push [] p = refl
parts-push (q ∷ ps) p = ap (λ z. part_view q ∷ z) (parts-push ps p)

pub length-parts : (ps : List Part) → length (part_views ps) ≡ length ps
length-parts [] = refl
length-parts (p ∷ ps) = omega (arith, length-parts ps)

pub count-views : (ps : List Param) → count (views ps) ≡ length ps
count-views [] = refl
count-views (p ∷ ps) = omega (arith, count-views ps)

-- a typed parameter with more than one parameter; a parenthesis behind a comma
pub typed-more : (at_stage : Stage) (st : List Open) (k : Key) (all rest : List Param) (p : Param) → all ≡ rest ++ p ∷ [] → 0 < length rest → close_typed at_stage st k (views all) ≡ refuse Unexpected
typed-more at_stage st k all [] p e some = absurd (omega (arith, some))
typed-more at_stage st k all (q ∷ []) p e some = ap (λ z. close_typed at_stage st k (views z)) e
typed-more at_stage st k all (q ∷ r ∷ rest) p e some = ap (λ z. close_typed at_stage st k (views z)) e

pub empty-more : (at_stage : Stage) (o : Opening) (ps : List Param) (st : List Open) → 0 < length ps → close_empty at_stage (open_at o (views ps)) st ≡ refuse Unexpected
empty-more at_stage o [] st some = absurd (omega (arith, some))
empty-more at_stage o (p ∷ ps) st some = refl

pub ruleset stacks = (view-Dollar, view-Star, view-Whole, view-Real, view-Text, view-Name, view-Item, view-Bits, view-List, view-Tagged, stack_of-none, stack_of-push, length-stack_of, views-push, parts-push, length-parts, count-views)
