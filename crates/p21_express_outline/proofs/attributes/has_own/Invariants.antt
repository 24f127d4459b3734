use Rattle.std.proofs.Common.{◌≡◌, drop}
use Rattle.p21_express_outline.specs.Outline.{digest_own_names}
use Rattle.p21_express_outline.proofs.attributes.has_own.Given as goal

-- none of those so far is new
abbrev pub invariant-loop-name : goal.invariant-loop-name
invariant-loop-name l = digest_own_names (drop l.name-index l.names) ≡ digest_own_names l.names
