use Rattle.std.specs.Prelude.{map}
use Rattle.p21_stream_output.proofs.Comparing.{not_whole}
use Rattle.p21_stream_output.specs.Output.{written_text}
use Rattle.p21_stream_output.specs.Stored.{written_section}
use Rattle.p21_stream_output.proofs.compare.is_file.Goals as goal

pub returns-in-None : goal.returns-in-None
returns-in-None c = (
  λ yes. cc yes,
  λ same. absurd (not_whole c.args.text.now (written_text c.args.header.now
      (map (written_section c.args.instances.now) c.args.sections.now)) c.in-None.ensures same),
)
