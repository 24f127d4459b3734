use Rattle.p21_numbering.specs.Instances.{file_instances}
use Rattle.p21_numbering.specs.NewNames.{new_name}
use Rattle.p21_numbered.proofs.Numbering.{all-meant, differ-in_file}
use Rattle.p21_numbered.proofs.lines.lines_under.Goals as goal

pub written_lines-requires : goal.written_lines-requires
written_lines-requires c =
    let s = c.args.schema.now in
    let file = c.requires.file in
    let all = file_instances c.args.instances.items in
    let f = new_name c.args.names.now in
    all-meant s c.well_formed-2.ensures file.bytes file.meaning file.reads all file.are f
    (differ-in_file s c.well_formed-2.ensures file.bytes file.meaning file.reads all file.are f c.requires.apart) c.requires.known
