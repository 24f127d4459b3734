use Rattle.std.proofs.Common.{arith}
use Rattle.p21_shorter_tokens.proofs.NameTokens.{name-front, name-appended}
use Rattle.p21_shorter_tokens.proofs.name.append_name.Goals as goal

pub append_spelling-requires-clause-name : goal.append_spelling-requires-clause-name
append_spelling-requires-clause-name c = (name-front c.args.bytes.now _ _ c.in_ok-digits.ensures.some).1

pub append_spelling-requires-clause-within : goal.append_spelling-requires-clause-within
append_spelling-requires-clause-within c = (name-front c.args.bytes.now _ _ c.in_ok-digits.ensures.some).0

pub returns-clause-some : goal.returns-clause-some
returns-clause-some c =
    name-appended c.args.bytes.now _ _ c.args.draft.now c.append_spelling.new.draft c.in_ok-number.number c.in_ok-digits.ensures.some c.in_ok-number.ensures.some (omega (arith, c.in_ok-number.ensures.some)) (c.if-not-append_spelling.ensures {u = tt})
