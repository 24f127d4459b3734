use Rattle.std.proofs.Common.{Contains, subst, sym}
use Rattle.p21_stream_syntax.specs.Given.{kept_of}
use Rattle.p21_stream_syntax.proofs.given.Given.has_name.Goals as goal

pub returns : goal.returns
returns c =
    let names = (kept_of c.args.self.now).names in
    (λ is. subst (Contains names) c.name.view_is (c.has_name.ensures.0 is), λ among. c.has_name.ensures.1 (subst (Contains names) (sym c.name.view_is) among))
