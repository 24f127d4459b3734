use Rattle.std.proofs.Common.{◌≡◌, ℕ, map, sym, take}
use Rattle.std.proofs.lemmas.Result.{IfOk-weaker}
use Rattle.std.specs.Prelude as std
use Rattle.std.specs.declared.alloc.Global.{Global}
use Rattle.p21_spec_schema.specs.Express.{upper}
use Rattle.p21_stream_syntax.proofs.Prefixes.{front-each, names}
use Rattle.p21_stream_syntax.proofs.schema_name.schema_name.Goals as goal

pub upper_case_of-requires : goal.upper_case_of-requires
upper_case_of-requires c = front-each c.args.text.now c.prefix_length-end.result c.prefix_length-end.ensures.longest

pub returns : goal.returns
returns c =
    IfOk-weaker _ _ _ (λ (name : std.Vec ℕ Global) (same : name.items ≡ map upper (take c.prefix_length-end.result c.args.text.now)).
    (names c.args.text.now name.items c.prefix_length-end.result c.prefix_length-end.ensures.longest).0 (sym same))
    c.upper_case_of.ensures
