-- The texts of parameters in a row, as they are written one after the other.
use Rattle.std.proofs.Common.{◌≡◌, ◌+◌, ◌<◌, ◌≤◌, ◌==◌, Bool, true, false, ℕ, zero, suc, List, [], ◌∷◌, ◌++◌, length, take, get_or, ap, sym, ◌∙◌, arith, append_assoc}
use Rattle.std.proofs.lemmas.Bool.Decides.{nat_tests}
use Rattle.std.proofs.lemmas.Grind.{flat_map-append}
use Rattle.std.proofs.lemmas.List.{append-nil, take_all, take_more}
use Rattle.p21_spec_exchange.specs.CanonicalText.{param_text, tokens_text}
use Rattle.p21_spec_exchange.specs.Parameter.{list, more_tokens, param_tokens, params_tokens}
use Rattle.p21_spec_exchange.specs.Spelling.{spelling}
use Rattle.p21_spec_exchange.specs.Token.{Token, comma, right}
use Rattle.p21_values.specs.Canonical.{Continues}
use Rattle.p21_mapping_values.specs.Row.{separator}
use Rattle.p21_grammar_tree.specs.declared.param.Param.{Param}
use Rattle.p21_grammar_tree.specs.View.{view, views}

more-push : (ps : List Param) (p : Param) → more_tokens (views (ps ++ p ∷ [])) ≡ more_tokens (views ps) ++ (comma ∷ param_tokens (view p))
more-push [] p = ap (λ (ts : List Token). comma ∷ ts) (append-nil (param_tokens (view p)))
more-push (q ∷ ps) p =
    ap (λ (ts : List Token). comma ∷ (param_tokens (view q) ++ ts)) (more-push ps p)
    ∙ ap (λ (ts : List Token). comma ∷ ts) (sym (append_assoc (param_tokens (view q)) (more_tokens (views ps))
    (comma ∷ param_tokens (view p))))

-- the texts with a comma between each two
abbrev pub row_text : List Param → List ℕ
row_text ps = tokens_text (params_tokens (views ps))

row-first : (p : Param) → row_text (p ∷ []) ≡ param_text (view p)
row-first p = ap tokens_text (append-nil (param_tokens (view p)))

row-next : (q : Param) (ps : List Param) (p : Param) → row_text (q ∷ ps ++ p ∷ []) ≡ row_text (q ∷ ps) ++ (44 ∷ param_text (view p))
row-next q ps p =
    ap (λ (ts : List Token). tokens_text (param_tokens (view q) ++ ts)) (more-push ps p)
    ∙ ap tokens_text (sym (append_assoc (param_tokens (view q)) (more_tokens (views ps)) (comma ∷ param_tokens (view p))))
    ∙ flat_map-append spelling (param_tokens (view q) ++ more_tokens (views ps)) (comma ∷ param_tokens (view p))

first_is : (i : ℕ) → (i == 0) ≡ true → i ≡ 0
first_is i e = grind (arith, nat_tests)

-- a parameter more
pub more_written : (ps : List Param) (i : ℕ) (first : Bool) (p : Param) (old out separated new : List ℕ) → first ≡ (i == 0)
    → p ≡ get_or ps i p → i < length ps → out ≡ old ++ row_text (take i ps) → separated ≡ out ++ separator first
    → new ≡ separated ++ param_text (view p) → new ≡ old ++ row_text (take (i + 1) ps)
more_written [] i first p old out separated new z is low e f g = absurd (omega (arith, low))
more_written (q ∷ ps) zero true p old out separated new z is low e f g =
    g ∙ ap (λ (x : List ℕ). x ++ param_text (view p)) (f ∙ append-nil out ∙ e ∙ append-nil old)
    ∙ ap (λ (x : List ℕ). old ++ x) (sym (row-first p) ∙ ap (λ (x : Param). row_text (x ∷ [])) is)
more_written (q ∷ ps) zero false p old out separated new z is low e f g = cc
more_written (q ∷ ps) (suc i) true p old out separated new z is low e f g =
    absurd (let none = first_is (suc i) (sym z) in omega (arith, none))
more_written (q ∷ ps) (suc i) false p old out separated new z is low e f g =
    let more : take (suc i + 1) (q ∷ ps) ≡ q ∷ (take i ps ++ p ∷ []) = take_more (q ∷ ps) (suc i) p low
    ∙ ap (λ (x : Param). (q ∷ take i ps) ++ x ∷ []) (sym is) in
    g ∙ ap (λ (x : List ℕ). x ++ param_text (view p)) (f ∙ ap (λ (x : List ℕ). x ++ 44 ∷ []) e)
    ∙ append_assoc (old ++ row_text (q ∷ take i ps)) (44 ∷ []) (param_text (view p))
    ∙ append_assoc old (row_text (q ∷ take i ps)) (44 ∷ param_text (view p))
    ∙ ap (λ (x : List ℕ). old ++ x) (sym (row-next q (take i ps) p) ∙ ap row_text (sym more))

-- a part of it
pub part_written : (old out separated new x y : List ℕ) → out ≡ (old ++ 40 ∷ []) ++ x → separated ≡ out ++ y → Continues separated new
    → Continues old new
part_written old out separated new x y e f c = (
  (40 ∷ x) ++ y ++ c.0,
  c.1 ∙ ap (λ (z : List ℕ). z ++ c.0) (f ∙ ap (λ (z : List ℕ). z ++ y) (e ∙ append_assoc old (40 ∷ []) x) ∙ append_assoc old (40 ∷ x) y)
      ∙ append_assoc old ((40 ∷ x) ++ y) c.0,
)

-- all between parentheses
pub list_written : (ps : List Param) (i : ℕ) (old out new : List ℕ) → length ps ≤ i → out ≡ (old ++ 40 ∷ []) ++ row_text (take i ps)
    → new ≡ out ++ 41 ∷ [] → new ≡ old ++ param_text (list (views ps))
list_written ps i old out new all e f =
    f ∙ ap (λ (x : List ℕ). x ++ 41 ∷ []) (e ∙ ap (λ (x : List Param). (old ++ 40 ∷ []) ++ row_text x) (take_all i ps all))
    ∙ append_assoc (old ++ 40 ∷ []) (row_text ps) (41 ∷ [])
    ∙ append_assoc old (40 ∷ []) (row_text ps ++ 41 ∷ [])
    ∙ ap (λ (x : List ℕ). old ++ (40 ∷ x)) (sym (flat_map-append spelling (params_tokens (views ps)) (right ∷ [])))
