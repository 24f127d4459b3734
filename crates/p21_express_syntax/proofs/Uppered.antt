-- Bytes put into upper case, one by one.
use Rattle.std.proofs.Common.{◌≡◌, ℕ, ◌+◌, ◌<◌, List, [], ◌∷◌, ◌++◌, map, take, length, get_or, set, ap, sym, ◌∙◌}
use Rattle.std.proofs.lemmas.List.{take_more, take_more_set}
use Rattle.std.proofs.lemmas.List.{map-append}
use Rattle.p21_spec_schema.specs.Express.{upper}

-- one byte more
pub one_more : (place name : List ℕ) (i byte : ℕ) → i < length place → i < length name → byte ≡ upper (get_or name i 0) → take i place ≡ map upper (take i name)
    → take (i + 1) (set place i byte) ≡ map upper (take (i + 1) name)
one_more place name i byte l m b e =
    rw b (rw (take_more_set place i (upper (get_or name i 0)) l) (rw (take_more name i 0 m) (ap (λ xs. xs ++ upper (get_or name i 0) ∷ []) e ∙ sym (map-append upper (take i name) (get_or name i 0 ∷ [])))))
