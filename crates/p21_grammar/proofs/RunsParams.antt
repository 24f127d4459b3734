-- A run over the tokens of a parameter takes the parameter.
use Rattle.std.proofs.Common.{◌≡◌, ℕ, ◌+◌, ◌<◌, ◌≤◌, Bool, true, false, List, [], ◌∷◌, ◌++◌, length, refl, ap, ◌∙◌, arith, append_assoc}
use Rattle.std.proofs.lemmas.Bool.{lt-ltb}
use Rattle.std.specs.Prelude.{if◌then◌else◌}
use Rattle.std.specs.List.{AllByRecursion as Each}
use Rattle.p21_spec_exchange.specs.Grammar.{IsNoUserKeyword}
use Rattle.p21_spec_exchange.specs.Header.{IsNoInstanceName}
use Rattle.p21_spec_exchange.specs.Nesting.{depth, params_depth}
use Rattle.p21_spec_exchange.specs.Parameter.{Key, Param, dollar, star, whole, real, text, name, item, bits, list, typed, Params, no_params, param, key_token, param_tokens, params_tokens, more_tokens}
use Rattle.p21_spec_exchange.specs.Token as token
use Rattle.p21_spec_exchange.specs.Token.{Token}
use Rattle.p21_tokens_automaton.specs.declared.mode.Absent.TheVariants.{UserKeyword}
use Rattle.p21_grammar.specs.Machine.{Opening, part_row, list_row, typed_row, Open, open_at, next, word, behind, go, refuse, push, enter, close}
use Rattle.p21_grammar.specs.Stage.{is_in_header}
use Rattle.p21_grammar.specs.Runs.{moved, run}
use Rattle.p21_grammar.specs.declared.fault.GrammarFault.TheVariants.{Unexpected, LeftOut}
use Rattle.p21_grammar.specs.declared.stage.Stage.{Stage}

-- in the header no name, elsewhere no user keyword
abbrev pub IsAllowed : Bool → Token → Type 0
IsAllowed true t = IsNoInstanceName t
IsAllowed false t = IsNoUserKeyword t

abbrev pub AreAllowed : Stage → List Token → Type 0
AreAllowed p tokens = Each (IsAllowed (is_in_header p)) tokens

pub Each-front : {A : Type 0} (P : A → Type 0) (xs ys : List A) → Each P (xs ++ ys) → Each P xs
Each-front P [] ys all = tt
Each-front P (x ∷ xs) ys all = (all.0, Each-front P xs ys all.1)

pub Each-back : {A : Type 0} (P : A → Type 0) (xs ys : List A) → Each P (xs ++ ys) → Each P ys
Each-back P [] ys all = all
Each-back P (x ∷ xs) ys all = Each-back P xs ys all.1

abbrev pub user_key : List ℕ → Key
user_key w = record { user = true; word = w }

-- an opening that has room
pub run-enter : (p : Stage) (o : Opening) (row : Open) (st : List Open) (x : List Token) → length st < 64 → moved (enter p o row st) (run x) ≡ run x p (next (open_at o no_params) (row ∷ st))
run-enter p o row st x room = rw (lt-ltb (length st) 64 room) refl

-- the keyword of a typed parameter, and a name
run-key : (p : Stage) (row : Open) (st : List Open) (user : Bool) (w : List ℕ) (x : List Token) → IsAllowed (is_in_header p) (key_token (record { user = user; word = w }))
    → run (key_token (record { user = user; word = w }) ∷ x) p (next row st) ≡ run x p (word (record { user = user; word = w }) row st)
run-key p row st false w x allowed = refl
run-key p row st true w x allowed = by (is_in_header p) allowed where
  by : (b : Bool) → IsAllowed b (token.user_keyword w) → moved (if b then go p (word (user_key w) row st) else refuse (LeftOut UserKeyword)) (run x) ≡ run x p (word (user_key w) row st)
  by true allowed = refl
  by false allowed = absurd allowed

run-name : (p : Stage) (o : Opening) (ps : Params) (st : List Open) (n : ℕ) (x : List Token) → IsAllowed (is_in_header p) (token.name n)
    → run (token.name n ∷ x) p (next (open_at o ps) st) ≡ run x p (behind (open_at o (push ps (name n))) st)
run-name p o ps st n x allowed = by (is_in_header p) allowed where
  by : (b : Bool) → IsAllowed b (token.name n) → moved (if b then refuse Unexpected else go p (behind (open_at o (push ps (name n))) st)) (run x) ≡ run x p (behind (open_at o (push ps (name n))) st)
  by true allowed = absurd allowed
  by false allowed = refl

abbrev pushes : Params → Params → Params
pushes done no_params = done
pushes done (param q us) = pushes (push done q) us

pushes-param : (q : Param) (done us : Params) → pushes (param q done) us ≡ param q (pushes done us)
pushes-param q done no_params = refl
pushes-param q done (param r us) = pushes-param q (push done r) us

pushes-none : (us : Params) → pushes no_params us ≡ us
pushes-none no_params = refl
pushes-none (param q us) = pushes-param q no_params us ∙ ap (param q) (pushes-none us)

-- a row of any number of parameters
abbrev pub IsRow : Opening → Type 0
IsRow (part_row h k) = Unit {0}
IsRow list_row = Unit {0}
IsRow (typed_row k) = ⊥

run-comma : (p : Stage) (o : Opening) (done : Params) (st : List Open) (x : List Token) → IsRow o → run (token.comma ∷ x) p (behind (open_at o done) st) ≡ run x p (next (open_at o done) st)
run-comma p (part_row h k) done st x row = refl
run-comma p list_row done st x row = refl
run-comma p (typed_row k) done st x row = absurd row

mutual
  pub run-param : (q : Param) (p : Stage) (o : Opening) (ps : Params) (st : List Open) (x : List Token) → AreAllowed p (param_tokens q) → depth q + length st ≤ 64
      → run (param_tokens q ++ x) p (next (open_at o ps) st) ≡ run x p (behind (open_at o (push ps q)) st)
  run-param dollar p o ps st x allowed deep = refl
  run-param star p o ps st x allowed deep = refl
  run-param (whole z) p o ps st x allowed deep = refl
  run-param (real d) p o ps st x allowed deep = refl
  run-param (text chars) p o ps st x allowed deep = refl
  run-param (name n) p o ps st x allowed deep = run-name p o ps st n x allowed.0
  run-param (item w) p o ps st x allowed deep = refl
  run-param (bits value) p o ps st x allowed deep = refl
  run-param (list us) p o ps st x allowed deep =
      ap (λ z. run (token.left ∷ z) p (next (open_at o ps) st)) (append_assoc (params_tokens us) (token.right ∷ []) x)
      ∙ run-enter p list_row (open_at o ps) st (params_tokens us ++ token.right ∷ x) (omega (arith, deep))
      ∙ run-row us p list_row (open_at o ps ∷ st) x tt (Each-front (IsAllowed (is_in_header p)) (params_tokens us) (token.right ∷ []) allowed.1) (omega (arith, deep))
  run-param (typed k q) p o ps st x allowed deep =
      ap (λ z. run (key_token k ∷ token.left ∷ z) p (next (open_at o ps) st)) (append_assoc (param_tokens q) (token.right ∷ []) x)
      ∙ run-key p (open_at o ps) st k.user k.word (token.left ∷ (param_tokens q ++ token.right ∷ x)) allowed.0
      ∙ run-enter p (typed_row k) (open_at o ps) st (param_tokens q ++ token.right ∷ x) (omega (arith, deep))
      ∙ run-param q p (typed_row k) no_params (open_at o ps ∷ st) (token.right ∷ x) (Each-front (IsAllowed (is_in_header p)) (param_tokens q) (token.right ∷ []) allowed.1.1) (omega (arith, deep))

  pub run-row : (us : Params) (p : Stage) (o : Opening) (st : List Open) (x : List Token) → IsRow o → AreAllowed p (params_tokens us) → params_depth us + length st ≤ 64
      → run (params_tokens us ++ token.right ∷ x) p (next (open_at o no_params) st) ≡ moved (close p (open_at o us) st) (run x)
  run-row no_params p o st x row allowed deep = refl
  run-row (param q us) p o st x row allowed deep =
      ap (λ z. run z p (next (open_at o no_params) st)) (append_assoc (param_tokens q) (more_tokens us) (token.right ∷ x))
      ∙ run-param q p o no_params st (more_tokens us ++ token.right ∷ x) (Each-front (IsAllowed (is_in_header p)) (param_tokens q) (more_tokens us) allowed) (omega (arith, deep))
      ∙ run-rest us p o (param q no_params) st x row (Each-back (IsAllowed (is_in_header p)) (param_tokens q) (more_tokens us) allowed) (omega (arith, deep))
      ∙ ap (λ z. moved (close p (open_at o z) st) (run x)) (pushes-param q no_params us ∙ ap (param q) (pushes-none us))

  run-rest : (us : Params) (p : Stage) (o : Opening) (done : Params) (st : List Open) (x : List Token) → IsRow o → AreAllowed p (more_tokens us) → params_depth us + length st ≤ 64
      → run (more_tokens us ++ token.right ∷ x) p (behind (open_at o done) st) ≡ moved (close p (open_at o (pushes done us)) st) (run x)
  run-rest no_params p o done st x row allowed deep = refl
  run-rest (param q us) p o done st x row allowed deep =
      run-comma p o done st ((param_tokens q ++ more_tokens us) ++ token.right ∷ x) row
      ∙ ap (λ z. run z p (next (open_at o done) st)) (append_assoc (param_tokens q) (more_tokens us) (token.right ∷ x))
      ∙ run-param q p o done st (more_tokens us ++ token.right ∷ x) (Each-front (IsAllowed (is_in_header p)) (param_tokens q) (more_tokens us) allowed.1) (omega (arith, deep))
      ∙ run-rest us p o (push done q) st x row (Each-back (IsAllowed (is_in_header p)) (param_tokens q) (more_tokens us) allowed.1) (omega (arith, deep))
