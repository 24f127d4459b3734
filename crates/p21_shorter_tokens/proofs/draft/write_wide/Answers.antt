use Rattle.p21_shorter_tokens.proofs.WideWrites.{written-front}
use Rattle.p21_shorter_tokens.proofs.draft.write_wide.Goals as goal

pub returns-clause-front : goal.returns-clause-front
returns-clause-front c = λ count short. written-front c.args.room.now c.args.bytes.now c.args.at 32 count c.requires.bytes c.requires.room short
