use Rattle.std.proofs.Common.{◌≡◌, ◌≤◌, ◌++◌, ◌∷◌, ℕ, arith}
use Rattle.std.proofs.lemmas.Bool.Decides.{nat_tests}
use Rattle.p21_spec_basics.specs.Digits.{hex_digits}
use Rattle.p21_spec_exchange.specs.Text.{end_extended}
use Rattle.p21_spec_exchange.specs.Spelling.{character_spelling}
use Rattle.p21_values.proofs.text.append_character.Goals as goal

past_four_digits : (c : ℕ) → 0x1_0000 ≤ c → character_spelling c ≡ 92 ∷ 88 ∷ 52 ∷ 92 ∷ (hex_digits 8 c ++ end_extended)
past_four_digits c h = search (nat_tests, arith)

pub returns-in_ok-extend_from_slice-in_default-clause-ok :
    goal.returns-in_ok-extend_from_slice-in_default-clause-ok
returns-in_ok-extend_from_slice-in_default-clause-ok c =
    let past : 0x1_0000 ≤ c.args.character = omega (arith, c.in_default) in
    rw (past_four_digits c.args.character past, c.in_ok-extend_from_slice-in_default.ensures.items, c.long_directive.ensures, c.from-code.ensures)
