use Rattle.std.proofs.Common.{ap, sym, ◌∙◌}
use Rattle.p21_spec_exchange.specs.Token as meaning
use Rattle.p21_tokens_automaton.specs.Reading.{known, ended_token_in, ended_text}
use Rattle.p21_tokens_automaton.specs.declared.mode.Mode.{Mode}
use Rattle.p21_tokens_automaton.specs.declared.mode.TextMode.{TextMode}
use Rattle.p21_tokens.proofs.read_token.read_last_token.Goals as goal

pub returns-in-Apostrophe : goal.returns-in-Apostrophe
returns-in-Apostrophe c = (
  known (meaning.text c.args.text.now),
  ap (λ (m : Mode). ended_token_in m c.args.pending_bytes.now c.args.text.now) c.in-Text.is ∙ ap (λ (m : TextMode). ended_text m c.args.text.now) c.in-Apostrophe.is,
  ap meaning.text (sym c.replace.ensures.value),
)
