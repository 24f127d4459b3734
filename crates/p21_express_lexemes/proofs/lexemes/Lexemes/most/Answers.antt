use Rattle.std.proofs.Common.{◌≤◌, length, subst}
use Rattle.p21_express_lexemes.proofs.Once.{lexemes_few}
use Rattle.p21_express_lexemes.specs.Taking.{Items}
use Rattle.p21_express_lexemes.proofs.lexemes.Lexemes.most.Goals as goal

pub returns-clause-few : goal.returns-clause-few
returns-clause-few c = subst (λ (x : Items). length x ≤ length c.self.inside.left.now) c.self.view_is (lexemes_few c.self.inside.left.now)
