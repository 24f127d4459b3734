use Rattle.std.proofs.Common.{List, ℕ, subst}
use Rattle.p21_shorter_tokens.proofs.NameTokens.{plain-name}
use Rattle.p21_shorter_tokens.specs.Appending.{AppendsAllOrNone}
use Rattle.p21_shorter_tokens.proofs.name.append_spelling.Goals as goal

pub returns : goal.returns
returns c =
    subst (λ (text : List ℕ). AppendsAllOrNone c.append_prefix.result text c.args.draft.now c.append_prefix.new.self) (plain-name c.args.bytes.now c.args.digits.now c.args.count c.requires.name c.requires.digits c.requires.some (c.begins_with.ensures c.if-begins_with.false)) c.append_prefix.ensures
