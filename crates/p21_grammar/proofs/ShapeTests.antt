-- The tests of header records, over the parameters as they lie in memory.
use Rattle.std.proofs.Common.{◌≡◌, ℕ, zero, suc, ◌+◌, ◌<◌, ◌≤◌, Bool, true, false, List, [], ◌∷◌, length, get_or, drop, refl, ap, ◌∙◌, arith}
use native.Mathlib.Numerals.{unary_clauses}
use Rattle.std.specs.Prelude.{◌&&◌}
use Rattle.p21_grammar_tree.specs.declared.param.Param.{Param}
use Rattle.p21_grammar_tree.specs.View.{view, views}
use Rattle.p21_spec_exchange.specs.Header.{HeaderType}
use Rattle.p21_grammar.specs.Shape.{is_text, is_of_type, is_text_or_unset, are_texts, have_types, is_schema_row, is_only_schema, is_name_and_schema}

pub texts_from : (ps : List Param) (k : ℕ) (p : Param) → k < length ps → are_texts (views (drop k ps)) ≡ (is_text_or_unset (view (get_or ps k p)) && are_texts (views (drop (k + 1) ps)))
texts_from [] k p below = absurd (omega (arith, below))
texts_from (q ∷ ps) zero p below = refl
texts_from (q ∷ ps) (suc k) p below = simp unary_clauses (simp unary_clauses at (texts_from ps k p (omega (arith, below))))

and-false : (a : Bool) → false ≡ (a && false)
and-false true = refl
and-false false = refl

pub have-short : (ts : List HeaderType) (ps : List Param) → length ps < length ts → false ≡ have_types ts (views ps)
have-short [] ps below = absurd (omega (arith, below))
have-short (t ∷ ts) [] below = refl
have-short (t ∷ ts) (p ∷ ps) below = and-false (is_of_type t (view p)) ∙ ap (λ z. is_of_type t (view p) && z) (have-short ts ps (omega (arith, below)))

pub have-long : (ts : List HeaderType) (ps : List Param) → length ts + 1 ≤ length ps → false ≡ have_types ts (views ps)
have-long ts [] above = absurd (omega (arith, above))
have-long [] (p ∷ ps) above = refl
have-long (t ∷ ts) (p ∷ ps) above = and-false (is_of_type t (view p)) ∙ ap (λ z. is_of_type t (view p) && z) (have-long ts ps (omega (arith, above)))

pub schema-short : (ps : List Param) → length ps < 1 → false ≡ is_schema_row (views ps)
schema-short [] below = refl
schema-short (p ∷ ps) below = absurd (omega (arith, below))

pub schema-long : (ps : List Param) → 2 ≤ length ps → false ≡ is_schema_row (views ps)
schema-long [] above = refl
schema-long (p ∷ []) above = absurd (omega (arith, above))
schema-long (p ∷ q ∷ ps) above = refl

pub only-short : (ps : List Param) → length ps < 1 → false ≡ is_only_schema (views ps)
only-short [] below = refl
only-short (p ∷ ps) below = absurd (omega (arith, below))

pub only-long : (ps : List Param) → 2 ≤ length ps → false ≡ is_only_schema (views ps)
only-long [] above = refl
only-long (p ∷ []) above = absurd (omega (arith, above))
only-long (p ∷ q ∷ ps) above = refl

pub heading-short : (ps : List Param) → length ps < 2 → false ≡ is_name_and_schema (views ps)
heading-short [] below = refl
heading-short (p ∷ []) below = and-false (is_text (view p))
heading-short (p ∷ q ∷ ps) below = absurd (omega (arith, below))

pub heading-long : (ps : List Param) → 3 ≤ length ps → false ≡ is_name_and_schema (views ps)
heading-long [] above = refl
heading-long (p ∷ ps) above = and-false (is_text (view p)) ∙ ap (λ z. is_text (view p) && z) (only-long ps (omega (arith, above)))

pub ruleset lengths = (have-short, have-long, schema-short, schema-long, only-short, only-long, heading-short, heading-long)
