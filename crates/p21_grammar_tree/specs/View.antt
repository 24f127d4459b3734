-- The trees of the definitions that the trees of the code stand for.
use Rattle.std.specs.Prelude.{List, map}
use Rattle.p21_spec_exchange.specs.Parameter as meaning
use Rattle.p21_spec_exchange.specs.Record as meaning_record
use Rattle.p21_grammar_tree.specs.declared.param.Key.{Key}
use Rattle.p21_grammar_tree.specs.declared.param.Param.{Param, fold-Param}
use Rattle.p21_grammar_tree.specs.declared.param.Param.TheOpen.{Param-F}
use Rattle.p21_grammar_tree.specs.declared.param.Params.{Params, Params-F}
use Rattle.p21_grammar_tree.specs.declared.record.Part.{Part}
use Rattle.p21_grammar_tree.specs.declared.record.Record.{Record}
use Rattle.p21_grammar_tree.specs.declared.record.Record.TheVariants.{Simple, Complex}
use Rattle.p21_spec_exchange.specs.Parameter.{params_of}

abbrev pub key_view : Key → meaning.Key
key_view key = record { user = key.user; word = key.word }

-- the parameters, one by one
abbrev pub items_of : Params → List Param
items_of ps = ps.all.items

-- one level, in which the parameters inside are trees of the definitions already
abbrev pub view_step : Param-F meaning.Param meaning.Params → meaning.Param
view_step Param-F.Dollar = meaning.dollar
view_step Param-F.Star = meaning.star
view_step (Param-F.Whole number) = meaning.whole number
view_step (Param-F.Real number) = meaning.real number
view_step (Param-F.Text characters) = meaning.text characters
view_step (Param-F.Name number) = meaning.name number
view_step (Param-F.Item word) = meaning.item word
view_step (Param-F.Bits value) = meaning.bits value
view_step (Param-F.List ps) = meaning.list ps
view_step (Param-F.Tagged key p) = meaning.typed (key_view key) p.value

abbrev pub view_row_step : Params-F meaning.Param meaning.Params → meaning.Params
view_row_step ps = params_of ps.all.items

-- a parameter, and parameters in a row
abbrev pub view : Param → meaning.Param
view = fold-Param meaning.Param meaning.Params view_step view_row_step

abbrev pub views : List Param → meaning.Params
views ps = params_of (map view ps)

abbrev pub part_view : Part → meaning_record.Part
part_view part = record { key = key_view part.key; params = views (items_of part.params) }

abbrev pub part_views : List Part → List meaning_record.Part
part_views parts = map part_view parts

abbrev pub record_view : Record → meaning_record.Record
record_view (Simple part) = meaning_record.simple (part_view part)
record_view (Complex parts) = meaning_record.complex (part_views parts)
