-- What stands behind SUPERTYPE OF is read in one way: as a ONEOF list, or as another run.
use Rattle.std.specs.Prelude.{◌≡◌, ◌+◌, ◌≤◌, ℕ, zero, suc, List, [], ◌∷◌, ◌++◌, codes, take, refl}
use Rattle.std.specs.List.{count_by}
use Rattle.std.proofs.lemmas.List.Sums.{sum_by-cons}
use Rattle.std.proofs.Common.{cond, arith, ap, sym, ◌∙◌}
use Rattle.p21_spec_schema.specs.Express.{Lexeme, identifier, digits, simple_string, encoded_string, symbol}
use Rattle.p21_spec_schema.specs.Run.{IsRun, is_symbol}
use Rattle.p21_spec_schema.specs.Separated.{comma_separated}
use Rattle.p21_spec_schema.specs.SupertypeConstraint.{SupertypeExpression, one_of, other_run, one_of_lexemes, expression_lexemes, IsExpression}
use Rattle.p21_spec_schema.specs.WrittenType.{word, symbols}

-- the identifiers among lexemes, in their order
abbrev pub identifiers : List Lexeme → List (List ℕ)
identifiers [] = []
identifiers (identifier name ∷ lexemes) = name ∷ identifiers lexemes
identifiers (digits ds ∷ lexemes) = identifiers lexemes
identifiers (simple_string inside ∷ lexemes) = identifiers lexemes
identifiers (encoded_string inside ∷ lexemes) = identifiers lexemes
identifiers (symbol byte ∷ lexemes) = identifiers lexemes

separated-identifiers : (names : List (List ℕ)) → identifiers (comma_separated word names ++ symbols (codes ")")) ≡ names
separated-identifiers [] = refl
separated-identifiers (name ∷ []) = refl
separated-identifiers (name ∷ next ∷ names) = ap (λ ns. name ∷ ns) (separated-identifiers (next ∷ names))

-- so the names of a ONEOF list are known by its lexemes
pub listed-identifiers : (names : List (List ℕ)) → identifiers (one_of_lexemes names) ≡ codes "ONEOF" ∷ names
listed-identifiers names = ap (λ ns. codes "ONEOF" ∷ ns) (separated-identifiers names)

pub listed-names : (names others : List (List ℕ)) → one_of_lexemes names ≡ one_of_lexemes others → names ≡ others
listed-names names others same = let h : codes "ONEOF" ∷ names ≡ codes "ONEOF" ∷ others = sym (listed-identifiers names) ∙ ap identifiers same ∙ listed-identifiers others in cc

-- two supertype expressions of the grammar with the same lexemes are the same
pub one_reading : (x y : SupertypeExpression) → IsExpression x → IsExpression y → expression_lexemes x ≡ expression_lexemes y → x ≡ y
one_reading (one_of names) (one_of others) is is_ same = ap one_of (listed-names names others same)
one_reading (one_of names) (other_run run) is is_ same = absurd (is_.1 (names, is, sym same))
one_reading (other_run run) (one_of names) is is_ same = absurd (is.1 (names, is_, same))
one_reading (other_run run) (other_run other) is is_ same = ap other_run same

-- behind the `(` of a list one lexeme closes, the last, and none opens
tail-closes : (names : List (List ℕ)) (k : ℕ) → count_by (is_symbol 41) (take k (comma_separated word names ++ symbols (codes ")"))) ≤ 1
tail-closes [] zero = omega arith
tail-closes [] (suc zero) = omega arith
tail-closes [] (suc (suc k)) = omega arith
tail-closes (name ∷ []) zero = omega arith
tail-closes (name ∷ []) (suc k) = let h = tail-closes [] k in omega (arith, h)
tail-closes (name ∷ next ∷ names) zero = omega arith
tail-closes (name ∷ next ∷ names) (suc zero) = omega arith
tail-closes (name ∷ next ∷ names) (suc (suc k)) = let h = tail-closes (next ∷ names) k in omega (arith, h)

tail-balance : (names : List (List ℕ)) → (count_by (is_symbol 41) (comma_separated word names ++ symbols (codes ")")) ≡ 1) × (count_by (is_symbol 40) (comma_separated word names ++ symbols (codes ")")) ≡ 0)
tail-balance [] = (refl, refl)
tail-balance (name ∷ []) = (refl, refl)
tail-balance (name ∷ next ∷ names) = let h = tail-balance (next ∷ names) in (omega (arith, h), omega (arith, h))

-- before it stand ONEOF, which neither opens nor closes, and the `(`
opened : (lexemes : List Lexeme) → count_by (is_symbol 40) (identifier (codes "ONEOF") ∷ symbol 40 ∷ lexemes) ≡ 1 + count_by (is_symbol 40) lexemes
opened lexemes = sum_by-cons (λ x. cond (is_symbol 40 x) 1 0) (symbol 40) lexemes

not_closed : (lexemes : List Lexeme) → count_by (is_symbol 41) (identifier (codes "ONEOF") ∷ symbol 40 ∷ lexemes) ≡ count_by (is_symbol 41) lexemes
not_closed lexemes = omega arith

-- a supertype expression ends where a run does, at the `)` that closes the `(` behind SUPERTYPE OF
pub expression-is_run : (x : SupertypeExpression) → IsExpression x → IsRun (is_symbol 40) (is_symbol 41) (expression_lexemes x)
expression-is_run (other_run run) is = is.0
expression-is_run (one_of names) is = (each, let h = tail-balance names in omega (arith, h, opened rest, not_closed rest))
  where
    rest : List Lexeme
    rest = comma_separated word names ++ symbols (codes ")")

    each : (k : ℕ) → count_by (is_symbol 41) (take k (identifier (codes "ONEOF") ∷ symbol 40 ∷ rest)) ≤ count_by (is_symbol 40) (take k (identifier (codes "ONEOF") ∷ symbol 40 ∷ rest))
    each zero = omega arith
    each (suc zero) = omega arith
    each (suc (suc k)) = let h = tail-closes names k in by (opened (take k rest)) (not_closed (take k rest)) h
      where
        by : count_by (is_symbol 40) (identifier (codes "ONEOF") ∷ symbol 40 ∷ take k rest) ≡ 1 + count_by (is_symbol 40) (take k rest) → count_by (is_symbol 41) (identifier (codes "ONEOF") ∷ symbol 40 ∷ take k rest) ≡ count_by (is_symbol 41) (take k rest)
            → count_by (is_symbol 41) (take k rest) ≤ 1 → count_by (is_symbol 41) (identifier (codes "ONEOF") ∷ symbol 40 ∷ take k rest) ≤ count_by (is_symbol 40) (identifier (codes "ONEOF") ∷ symbol 40 ∷ take k rest)
        by o c h = omega (arith, o, c, h)
