use Rattle.std.proofs.Common.{take, Contains}
use Rattle.p21_express_outline.specs.Outline.{digest_own_names}
use Rattle.p21_express.proofs.derived.has_new.Given as goal

-- none so far has the name
abbrev pub invariant-loop-attribute : goal.invariant-loop-attribute
invariant-loop-attribute l = Contains (digest_own_names (take l.attribute-index l.attributes)) l.name → ⊥
