use Rattle.std.proofs.Common.{ap, ◌∙◌}
use Rattle.p21_grammar.proofs.Reopening.{as-between, held-idle}
use Rattle.p21_grammar.specs.Held.{Held}
use Rattle.p21_grammar.specs.Machine.{spot_of}
use Rattle.p21_grammar.proofs.parser.Parser.reopen.Goals as goal

pub returns-clause-held : goal.returns-clause-held
returns-clause-held c = held-idle c.reopen.new.self.stage _ (spot_of c.reopen.new.self) (c.reopen.ensures.stage ∙ (c.stage-stage.ensures ∙ ap (λ (v : Held). v.stage) c.self.view_is)) c.reopen.ensures.spot

pub returns-clause-as_then : goal.returns-clause-as_then
returns-clause-as_then c =
    as-between _ _ (held-idle c.reopen.new.self.stage _ (spot_of c.reopen.new.self) (c.reopen.ensures.stage ∙ (c.stage-stage.ensures ∙ ap (λ (v : Held). v.stage) c.self.view_is)) c.reopen.ensures.spot)
