use Rattle.std.proofs.Common.{arith, length, subst, sym}
use Rattle.std.proofs.lemmas.List.{take_all}
use Rattle.p21_spec_basics.specs.Digits.{AllDigits}
use Rattle.p21_shorter_tokens.proofs.NameTokens.{padded-name}
use Rattle.p21_shorter_tokens.proofs.name.append_padded.Goals as goal

pub append_digits-requires-clause-digits : goal.append_digits-requires-clause-digits
append_digits-requires-clause-digits c = subst AllDigits (sym (take_all (length c.args.digits.now) c.args.digits.now (omega arith))) c.requires.digits

pub returns : goal.returns
returns c = padded-name c.args.digits.now c.args.draft.now _ _ (c.if-not-put.ensures {u = tt}) (c.if-not-append_digits.ensures {u = tt})
