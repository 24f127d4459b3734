use Rattle.std.proofs.Common.{◌≡◌, ◌∙◌}
use Rattle.p21_model_values.proofs.LedCharacters.{behind-long, group-behind, group-digits, group-long}
use Rattle.p21_model_values.proofs.characters.grouped_character.Goals as goal

pub returns-in_default-clause-some : goal.returns-in_default-clause-some
returns-in_default-clause-some c character rest scalar small is =
    group-long c.args.width character c.args.bytes.now rest is c.in_default.ensures.cases

pub returns-in_default-split_at_checked-clause-some : goal.returns-in_default-split_at_checked-clause-some
returns-in_default-split_at_checked-clause-some c character rest scalar small is =
    behind-long c.args.width character c.args.bytes.now c.in-Some.behind.now rest is c.in-Some.ensures.cases.2
    c.in_default-split_at_checked.ensures.cases

pub returns-in_default-hex_character-clause-some : goal.returns-in_default-hex_character-clause-some
returns-in_default-hex_character-clause-some c character rest scalar small is =
    let digits = group-digits c.args.width character c.args.bytes.now c.in-Some.digits.now rest is c.in-Some.ensures.cases.1
    c.in-Some.ensures.cases.3 small in
    let found = c.in_default-hex_character.ensures character scalar digits.0 digits.1 in
    cc

pub returns-clause-some : goal.returns-clause-some
returns-clause-some c character rest scalar small is =
    let digits = group-digits c.args.width character c.args.bytes.now c.in-Some.digits.now rest is c.in-Some.ensures.cases.1
    c.in-Some.ensures.cases.3 small in
    let found = c.in-Some-hex_character.ensures character scalar digits.0 digits.1 in
    let same : c.in-Some-hex_character.character ≡ character = cc in (
      same,
      c.in-Some-split_at_checked.ensures.cases.2 ∙ group-behind c.args.width character c.args.bytes.now c.in-Some.behind.now rest is
          c.in-Some.ensures.cases.2,
    )
