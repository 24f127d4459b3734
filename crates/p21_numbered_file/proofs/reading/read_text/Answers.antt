use Rattle.std.proofs.Common.{None, refl}
use Rattle.p21_numbered_file.proofs.SecondReading.{started, whole-read}
use Rattle.p21_numbered_file.specs.Reading.{IsReadWhole}
use Rattle.p21_numbered_file.proofs.reading.read_text.Goals as goal

pub read_statements-requires : goal.read_statements-requires
read_statements-requires c =
    started c.args.schema.now c.args.limits c.args.text.now c.requires c.new-reader.result c.new-reader.ensures.live c.new-read.result
    c.new-read.ensures.header c.new-read.ensures.sections c.new-read.ensures.instances

pub returns : goal.returns
returns c =
    let w : IsReadWhole c.args.schema.now c.args.text.now c.read_statements.new.reader c.read_statements.new.read =
    c.in_ok-read_statements.ensures in
    whole-read c.args.schema.now c.args.text.now c.read_statements.new.reader c.read_statements.new.read w
    (c.in-Ok.ensures.gives (record { taken = c.args.text.now; seen = None; given = w.given }) w.live refl)
