-- Explicit redeclarations of one type.
use Rattle.std.specs.Prelude.{ℕ, Bool, List, map}
use Rattle.p21_express_syntax.specs.Digest.{TypeDigest, AttributesDigest}
use Rattle.p21_express_syntax.specs.declared.attributes.AttributeName.{AttributeName}
use Rattle.p21_express_outline.specs.Outline.{digest_redeclared_names}

-- those of some names
abbrev pub redeclared_by : AttributesDigest → List AttributeName → List ((List ℕ × List ℕ) × Bool × TypeDigest)
redeclared_by x names = map (λ name. (name, x.optional, x.type)) (digest_redeclared_names names)
