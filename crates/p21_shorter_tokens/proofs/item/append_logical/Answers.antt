use Rattle.std.proofs.Common.{[], ◌∷◌, get_or, refl, arith}
use Rattle.p21_shorter_tokens.proofs.ItemTokens.{letter-between}
use Rattle.p21_shorter_tokens.proofs.LeadingTokens.{copied}
use Rattle.p21_shorter_tokens.proofs.item.append_logical.Goals as goal

pub returns-clause-some : goal.returns-clause-some
returns-clause-some c =
    let bytes = c.args.bytes.now in
    let letter = get_or bytes 1 0 in
    let known = c.if-not-is_truth_value.ensures {u = tt} in (
      letter ∷ [],
      known.word refl,
      copied bytes 3 _ c.args.draft.now c.append_prefix.new.self (letter-between bytes letter (omega arith) (omega arith) refl (omega arith) (known.upper refl)) (c.if-not-append_prefix.ensures {u = tt}),
    )
