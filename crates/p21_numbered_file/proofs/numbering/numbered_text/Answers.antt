use Rattle.p21_numbered_file.proofs.numbering.numbered_text.Goals as goal

pub numbered_file-requires : goal.numbered_file-requires
numbered_file-requires c = (c.args.text.now, c.requires, c.in_ok-read.ensures)

pub returns : goal.returns
returns c = c.numbered_file.ensures c.args.text.now c.requires c.in_ok-read.ensures
