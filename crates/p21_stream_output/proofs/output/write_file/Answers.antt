use Rattle.std.specs.Prelude.{map}
use Rattle.p21_stream_output.proofs.Putting.{all_flushed, part_flushed, part_unput}
use Rattle.p21_stream_output.specs.Output.{written_text}
use Rattle.p21_stream_output.specs.Stored.{written_section}
use Rattle.p21_stream_output.proofs.output.write_file.Goals as goal

pub returns-in_default-clause-err : goal.returns-in_default-clause-err
returns-in_default-clause-err g c = part_unput _ _ c.new-waiting.result
    (written_text c.args.header.now (map (written_section c.args.instances.now) c.args.sections.now)) c.new-waiting.ensures
    c.in_default.ensures.err

pub returns-in_default-flush-clause-err : goal.returns-in_default-flush-clause-err
returns-in_default-flush-clause-err g c = part_flushed _ _ _ c.new-waiting.result
    (written_text c.args.header.now (map (written_section c.args.instances.now) c.args.sections.now)) _ c.new-waiting.ensures
    c.in-Ok.ensures.ok c.in_default-flush.ensures.err

pub returns-clause-ok : goal.returns-clause-ok
returns-clause-ok g c = all_flushed _ _ _ c.new-waiting.result
    (written_text c.args.header.now (map (written_section c.args.instances.now) c.args.sections.now)) _ c.new-waiting.ensures
    c.in-Ok.ensures.ok c.in-Ok-flush.ensures.ok.0
