use Rattle.std.proofs.Common.{drop, map}
use Rattle.std.specs.Prelude.{◌↔◌}
use Rattle.p21_difference_rows.specs.Asked.{attribute_name_of}
use Rattle.p21_express_graph.specs.Meaning.{place as place_of}
use Rattle.p21_spec_differences.specs.LeftOut.{IsIgnored}
use Rattle.p21_spec_exchange.specs.Record.{Record}
use Rattle.p21_spec_file.specs.CanonicalTexts.{IsInstanceText}
use Rattle.p21_difference_rows.proofs.left_out.is_ignored.Given as goal

-- one of the names is that of the attribute exactly if one of those left is
abbrev pub invariant-loop-name : goal.invariant-loop-name
invariant-loop-name l =
    (record_ : Record) (stated : IsInstanceText l.instance.schema.now l.instance.name record_ l.instance.line.now)
    → IsIgnored l.instance.schema.now (map attribute_name_of (drop l.name-index l.names)) stated.canonical_meaning.entities
    (place_of l.place)
    ↔ IsIgnored l.instance.schema.now (map attribute_name_of l.names) stated.canonical_meaning.entities (place_of l.place)
