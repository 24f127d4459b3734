use Rattle.std.proofs.Common.{◌≡◌, rules, subst}
use Rattle.p21_commands.specs.Checks.{Declares}
use Rattle.p21_commands.proofs.checks.Checks.check_numbered.Goals as goal
use Rattle.p21_spec_schema.specs.Schema.{Schema}

pub returns-clause-ends : goal.returns-clause-ends
returns-clause-ends g c = λ schema declares.
    let same : c.args.self.now.declared ≡ c.self.inside.schema = search rules in
    c.check_file_numbered-status.ensures.ends schema (subst (λ (s : Schema). Declares s schema) same declares)
