use Rattle.std.specs.Prelude.{◌≡◌, true, false, refl}
use Rattle.p21_spec_basics.proofs.Members.{Contains-found}
use Rattle.p21_mapping.proofs.positions.Positions.has.Goals as goal

pub returns-in-Some : goal.returns-in-Some
returns-in-Some c = (λ _. Contains-found c.args.self.now c.in-Some._at c.args.entity.0 c.in-Some.ensures.0, λ _. refl)

pub returns-in-None : goal.returns-in-None
returns-in-None c = (λ no. let t : false ≡ true = no in cc, λ among. absurd (c.in-None.ensures among))
