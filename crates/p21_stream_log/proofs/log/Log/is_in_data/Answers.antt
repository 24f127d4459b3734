use Rattle.std.proofs.Common.{ap, ◌∙◌}
use Rattle.p21_grammar.specs.Stage.{is_in_data}
use Rattle.p21_stream_log.proofs.InSection.{tells-data}
use Rattle.p21_stream_log.specs.Log.{Held}
use Rattle.p21_stream_log.proofs.log.Log.is_in_data.Goals as goal

pub returns : goal.returns
returns c = tells-data c.reader_laws.ensures.in_data c.args.self.now c.is_in_data.result
    (c.is_in_data.ensures ∙ ap (λ (h : Held). is_in_data h.reader.parser.stage) c.self.view_is)
