use Rattle.p21_commands.proofs.Syntaxes.{text-put-together}
use Rattle.p21_commands.proofs.syntax.told_text.Goals as goal

pub returns : goal.returns
returns c = text-put-together c.args.details c.args.found.now _ _ _ _ c.deref.ensures.value c.in_ok-text.ensures c.in_ok-push_header.ensures
    c.in_ok-push_counts.ensures
