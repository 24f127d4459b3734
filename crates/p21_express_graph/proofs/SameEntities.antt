-- What doesn't look at redeclarations is the same of each entity, once the entities redeclare something.
use Rattle.std.specs.Prelude.{◌≡◌, List, [], ◌∷◌, length, map, refl}
use Rattle.std.proofs.Common.{arith, ap, ◌∙◌}
use Rattle.p21_spec_schema.specs.Schema.{Entity}
use Rattle.p21_express_graph.specs.Redeclaring.{redeclaring_as, redeclaring_each}

pub each-same : {A : Type 0} (f : Entity → A) → ((x y : Entity) → f (redeclaring_as x y) ≡ f x) → (xs ys : List Entity) → length xs ≡ length ys → map f (redeclaring_each xs ys) ≡ map f xs
each-same f so [] ys long = refl
each-same f so (x ∷ xs) [] long = absurd (omega (arith, long))
each-same f so (x ∷ xs) (y ∷ ys) long = ap (λ zs. f (redeclaring_as x y) ∷ zs) (each-same f so xs ys (omega (arith, long))) ∙ ap (λ z. z ∷ map f xs) (so x y)
