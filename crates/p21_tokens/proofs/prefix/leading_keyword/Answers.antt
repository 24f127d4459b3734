use Rattle.std.proofs.Common.{length, subst, sym, ◌∙◌}
use Rattle.p21_spec_exchange.specs.Keyword.{IsKeyword}
use Rattle.p21_spec_exchange.specs.Token as meaning
use Rattle.p21_tokens.proofs.LeadingTokens.{keyword-front, keyword-no_blank, keyword-within, leads_keyword}
use Rattle.p21_tokens.specs.Prefix.{ReachesWaitingToken}
use Rattle.p21_tokens.proofs.prefix.leading_keyword.Goals as goal

pub of_prefix-requires-clause-within : goal.of_prefix-requires-clause-within
of_prefix-requires-clause-within c = keyword-within c.args.bytes.now _ _ c.in_ok-word.ensures.some

pub of_prefix-requires-clause-keyword : goal.of_prefix-requires-clause-keyword
of_prefix-requires-clause-keyword c = let at = c.in_ok-word.ensures.some in subst IsKeyword (sym (keyword-front c.args.bytes.now _ _ at)) at.spells.1

pub returns-in-Ok-clause-token : goal.returns-in-Ok-clause-token
returns-in-Ok-clause-token c =
    let bytes = c.args.bytes.now in
    let word = c.in_ok-word.word.now in
    let at = c.in_ok-word.ensures.some in
    subst (λ w. ReachesWaitingToken bytes (length word) (meaning.keyword w)) (sym (c.in-Ok.ensures ∙ keyword-front bytes _ _ at)) (leads_keyword bytes word _ _ _ at c.in_ok-_byte.ensures.cases.0)

pub returns-in-Err-clause-no_memory : goal.returns-in-Err-clause-no_memory
returns-in-Err-clause-no_memory c = keyword-no_blank c.args.bytes.now _ _ c.in_ok-word.ensures.some
