use Rattle.std.proofs.Common.{take, arith}
use Rattle.std.proofs.lemmas.List.{take_more_set}
use Rattle.p21_shorter_tokens.proofs.significand.write_marked.Goals as goal

pub returns-clause-text : goal.returns-clause-text
returns-clause-text c =
    let end = c.write_number-end in (
      take end.result end.new.room,
      end.ensures.text,
      take_more_set end.new.room end.result c.args.mark (omega (arith, end.ensures.within, end.ensures.len, c.requires.room)),
    )
