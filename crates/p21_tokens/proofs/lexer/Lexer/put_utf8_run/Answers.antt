use Rattle.std.proofs.Common.{◌≡◌, ℕ, List, [], ◌++◌, append-nil, refl, ap, ◌∙◌, arith}
use Rattle.std.proofs.lemmas.Str.{chars-nil}
use Rattle.p21_tokens.specs.Held.{Held}
use Rattle.p21_tokens.proofs.lexer.Lexer.put_utf8_run.Goals as goal

unchanged : (held : Held) (characters : List ℕ) (size file : ℕ) → characters ≡ held.characters → size ≡ held.size → file ≡ held.file → held ≡ record held { characters = characters; size = size; file = file }
unchanged held characters size file c s f = rw (c, s, f) refl

pub returns-then-is_empty-clause-ok : goal.returns-then-is_empty-clause-ok
returns-then-is_empty-clause-ok c =
    let held = c.args.self.now in
    unchanged held _ _ _ (ap (λ xs. held.characters ++ xs) chars-nil ∙ append-nil held.characters) (omega arith) (omega arith)

pub returns-then-is_empty-clause-utf8 : goal.returns-then-is_empty-clause-utf8
returns-then-is_empty-clause-utf8 c = ([], (refl, refl))
