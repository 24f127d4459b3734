use Rattle.std.proofs.Common.{◌≡◌, drop}
use Rattle.p21_express_outline.specs.Outline.{digest_redeclared_names}
use Rattle.p21_express.proofs.redeclared.has_redeclared.Given as goal

-- none of those so far is redeclared
abbrev pub invariant-loop-name : goal.invariant-loop-name
invariant-loop-name l = digest_redeclared_names (drop l.name-index l.names) ≡ digest_redeclared_names l.names
