use Rattle.std.proofs.Common.{[], sym, ◌∙◌}
use Rattle.std.proofs.lemmas.List.{append-nil}
use Rattle.p21_syntax_words.proofs.header.push_file_schema.Goals as goal

pub returns : goal.returns
returns c = sym (c.in_ok-push_first.ensures [] ∙ append-nil _)
