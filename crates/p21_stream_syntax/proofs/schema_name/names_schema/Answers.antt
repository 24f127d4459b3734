use Rattle.p21_stream_syntax.proofs.Prefixes.{names}
use Rattle.p21_stream_syntax.proofs.schema_name.names_schema.Goals as goal

pub returns : goal.returns
returns c =
    let n = names c.args.text.now c.args.name.now c.prefix_length-end.result c.prefix_length-end.ensures.longest in
    (λ t. n.0 (c.is_upper_case_of.ensures.0 t), λ m. c.is_upper_case_of.ensures.1 (n.1 m))
