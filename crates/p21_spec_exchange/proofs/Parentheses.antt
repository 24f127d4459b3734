-- The parentheses of parameters and records are balanced.
use Rattle.std.proofs.Common.{◌≡◌, ℕ, ◌+◌, Bool, true, false, List, [], ◌∷◌, ◌++◌, refl, arith}
use Rattle.std.specs.List.{flat_map}
use Rattle.p21_spec_exchange.specs.OpenNesting.{left_count, right_count}
use Rattle.p21_spec_exchange.specs.Parameter.{Param, list, typed, Params, no_params, param, key_token, param_tokens, params_tokens, more_tokens}
use Rattle.p21_spec_exchange.specs.Record.{Part, part_tokens}
use Rattle.p21_spec_exchange.specs.Token.{Token, left, right}

pub lefts-append : (xs ys : List Token) → left_count (xs ++ ys) ≡ left_count xs + left_count ys
lefts-append [] ys = omega arith
lefts-append (left ∷ xs) ys = omega (arith, lefts-append xs ys)
lefts-append (other ∷ xs) ys = lefts-append xs ys

pub rights-append : (xs ys : List Token) → right_count (xs ++ ys) ≡ right_count xs + right_count ys
rights-append [] ys = omega arith
rights-append (right ∷ xs) ys = omega (arith, rights-append xs ys)
rights-append (other ∷ xs) ys = rights-append xs ys

-- as many close as open
pub record IsBalanced (tokens : List Token) : Type 0 where
  pub same : left_count tokens ≡ right_count tokens

appended : (xs ys : List Token) → IsBalanced xs → IsBalanced ys → IsBalanced (xs ++ ys)
appended xs ys first second = record { same = omega (arith, lefts-append xs ys, rights-append xs ys, first.same, second.same) }

enclosed : (tokens : List Token) → IsBalanced tokens → IsBalanced (left ∷ (tokens ++ (right ∷ [])))
enclosed tokens balanced = record { same = omega (arith, lefts-append tokens (right ∷ []), rights-append tokens (right ∷ []), balanced.same) }

after_key : (user : Bool) (word : List ℕ) (tokens : List Token) → IsBalanced tokens → IsBalanced (key_token (record { user = user; word = word }) ∷ tokens)
after_key true word tokens balanced = record { same = balanced.same }
after_key false word tokens balanced = record { same = balanced.same }

mutual
  pub param-balanced : (p : Param) → IsBalanced (param_tokens p)
  param-balanced (list ps) = enclosed (params_tokens ps) (params-balanced ps)
  param-balanced (typed key p) = after_key key.user key.word (left ∷ (param_tokens p ++ (right ∷ []))) (enclosed (param_tokens p) (param-balanced p))
  param-balanced other = record { same = refl }

  pub params-balanced : (ps : Params) → IsBalanced (params_tokens ps)
  params-balanced no_params = record { same = refl }
  params-balanced (param p ps) = appended (param_tokens p) (more_tokens ps) (param-balanced p) (more-balanced ps)

  pub more-balanced : (ps : Params) → IsBalanced (more_tokens ps)
  more-balanced no_params = record { same = refl }
  more-balanced (param p ps) = let balanced = appended (param_tokens p) (more_tokens ps) (param-balanced p) (more-balanced ps) in record { same = balanced.same }

pub part-balanced : (part : Part) → IsBalanced (part_tokens part)
part-balanced part = after_key part.key.user part.key.word (left ∷ (params_tokens part.params ++ (right ∷ []))) (enclosed (params_tokens part.params) (params-balanced part.params))

pub parts-balanced : (parts : List Part) → IsBalanced (flat_map part_tokens parts)
parts-balanced [] = record { same = refl }
parts-balanced (part ∷ parts) = appended (part_tokens part) (flat_map part_tokens parts) (part-balanced part) (parts-balanced parts)
