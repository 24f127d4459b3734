use Rattle.std.proofs.lemmas.Bool.{true≢false}
use Rattle.p21_model_values.proofs.LedCharacters.{none-led, one-led}
use Rattle.p21_model_values.proofs.characters.Characters.next.Goals as goal

pub returns-in_default-clause-handed : goal.returns-in_default-clause-handed
returns-in_default-clause-handed c characters left = none-led characters c.args.self.now.rest.now left c.in_default.ensures.some

pub returns-clause-handed : goal.returns-clause-handed
returns-clause-handed c characters left = one-led characters c.args.self.now.rest.now c.in-Some.character c.in-Some.rest.now left
    (λ e. true≢false (c.in-Some.ensures.none e)) c.in-Some.ensures.some
