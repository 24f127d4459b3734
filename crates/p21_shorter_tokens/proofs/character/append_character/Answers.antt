use Rattle.std.proofs.Common.{◌≡◌, ◌≤◌, ◌++◌, ◌∷◌, ℕ, arith}
use Rattle.std.proofs.lemmas.Bool.Decides.{nat_tests}
use Rattle.p21_spec_basics.specs.Digits.{hex_digits}
use Rattle.p21_spec_exchange.specs.Spelling.{character_spelling}
use Rattle.p21_spec_exchange.specs.Text.{end_extended}
use Rattle.p21_shorter_tokens.proofs.character.append_character.Goals as goal

past_four_digits : (c : ℕ) → 0x1_0000 ≤ c → character_spelling c ≡ 92 ∷ 88 ∷ 52 ∷ 92 ∷ (hex_digits 8 c ++ end_extended)
past_four_digits c h = search (nat_tests, arith)

pub returns-in_default : goal.returns-in_default
returns-in_default c =
    let past : 0x1_0000 ≤ c.args.character = omega (arith, c.in_default) in
    rw (past_four_digits c.args.character past) (rw (c.long_directive.ensures, c.from-code.ensures) at c.append-in_default.ensures)
