-- The lexemes up to the one that closes a run.
use Rattle.std.proofs.Common.{◌≡◌, ℕ, zero, suc, ◌+◌, ◌≤◌, Bool, true, false, List, [], ◌∷◌, ◌++◌, cond, inl, inr, take, Option, Some, None, refl, ap, sym, ◌∙◌, arith}
use Rattle.std.specs.List.{count_by}
use Rattle.std.proofs.lemmas.Bool.{cases_Bool, eqb-true}
use Rattle.std.proofs.lemmas.List.Sums.{sum_by-cons}
use Rattle.p21_spec_schema.specs.Run.{is_symbol, none}
use Rattle.p21_spec_schema.specs.Express.{Lexeme, identifier, digits, simple_string, encoded_string, symbol}
use Rattle.p21_express_lexemes.specs.Taking.{Items, put}
use Rattle.p21_express_lexemes.specs.Runs.{AreApart, with_first, run_of, HasRun, RunRead}
use Rattle.p21_spec_basics.proofs.Members.{some_pair_is}

-- a run within so many open ones
pub record IsRunIn (opens closes : Lexeme → Bool) (depth : ℕ) (run : List Lexeme) : Type 0 where
  pub below : (k : ℕ) → count_by closes (take k run) ≤ depth + count_by opens (take k run)
  pub even : count_by closes run ≡ depth + count_by opens run

count_yes : (p : Lexeme → Bool) (x : Lexeme) (xs : List Lexeme) → p x ≡ true → count_by p (x ∷ xs) ≡ suc (count_by p xs)
count_yes p x xs h = sum_by-cons (λ y. cond (p y) 1 0) x xs ∙ rw h (omega arith)

count_no : (p : Lexeme → Bool) (x : Lexeme) (xs : List Lexeme) → p x ≡ false → count_by p (x ∷ xs) ≡ count_by p xs
count_no p x xs h = sum_by-cons (λ y. cond (p y) 1 0) x xs ∙ rw h (omega arith)

-- ---- complete

closing : (opens closes : Lexeme → Bool) → AreApart opens closes → (depth : ℕ) (x : Lexeme) (run : List Lexeme) (last : Lexeme) (more : Items) → IsRunIn opens closes depth (x ∷ run) → closes x ≡ true
    → ((d : ℕ) → IsRunIn opens closes d run → run_of opens closes (suc d) (put run (Some last ∷ more)) ≡ Some (run ++ last ∷ [], more)) → run_of opens closes (suc depth) (put (x ∷ run) (Some last ∷ more)) ≡ Some ((x ∷ run) ++ last ∷ [], more)
unfolding run_of
closing opens closes apart zero x run last more s c ih = absurd (let b = s.below 1 in let p = count_yes closes x [] c in let q = count_no opens x [] (apart x c) in omega arith)
closing opens closes apart (suc depth) x run last more s c ih = rw c (ap (with_first (x ∷ [])) (ih depth (record {
  below = λ k. let b = s.below (suc k) in let p = count_yes closes x (take k run) c in let q = count_no opens x (take k run) (apart x c) in omega arith;
  even = let b = s.even in let p = count_yes closes x run c in let q = count_no opens x run (apart x c) in omega arith;
})))

pub run_read : (opens closes : Lexeme → Bool) → AreApart opens closes → (depth : ℕ) (run : List Lexeme) (last : Lexeme) (more : Items) → IsRunIn opens closes depth run → closes last ≡ true
    → run_of opens closes (suc depth) (put run (Some last ∷ more)) ≡ Some (run ++ last ∷ [], more)
unfolding run_of
run_read opens closes apart zero [] last more r h = rw h refl
run_read opens closes apart (suc depth) [] last more r h = absurd (let e = r.even in omega arith)
run_read opens closes apart depth (x ∷ run) last more r h = elim (cases_Bool (closes x)) [
  | inl c ↦ closing opens closes apart depth x run last more r c (λ d q. run_read opens closes apart d run last more q h)
  | inr n ↦ elim (cases_Bool (opens x)) [
    | inl o ↦ rw (n, o) (ap (with_first (x ∷ [])) (run_read opens closes apart (suc depth) run last more (record {
      below = λ k. let b = r.below (suc k) in let p = count_no closes x (take k run) n in let q = count_yes opens x (take k run) o in omega arith;
      even = let b = r.even in let p = count_no closes x run n in let q = count_yes opens x run o in omega arith;
    }) h))
    | inr m ↦ rw (n, m) (ap (with_first (x ∷ [])) (run_read opens closes apart depth run last more (record {
      below = λ k. let b = r.below (suc k) in let p = count_no closes x (take k run) n in let q = count_no opens x (take k run) m in omega arith;
      even = let b = r.even in let p = count_no closes x run n in let q = count_no opens x run m in omega arith;
    }) h))
  ]
]

-- ---- sound

nothing_runs : (opens closes : Lexeme → Bool) → IsRunIn opens closes 0 []
nothing_runs opens closes = record { below = λ k. never k; even = refl }
  where
    never : (k : ℕ) → count_by closes (take k []) ≤ 0 + count_by opens (take k [])
    never zero = omega arith
    never (suc k) = omega arith

-- a run and its last lexeme among those taken
pub record Ran (opens closes : Lexeme → Bool) (depth : ℕ) (items : Items) (taken : List Lexeme) (rest : Items) : Type 0 where
  pub run : List Lexeme
  pub last : Lexeme
  pub is_run : IsRunIn opens closes depth run
  pub closed : closes last ≡ true
  pub taken_is : taken ≡ run ++ last ∷ []
  pub lexemes : items ≡ put run (Some last ∷ rest)

with_inv : (x : Lexeme) (o : Option (List Lexeme × Items)) (taken : List Lexeme) (rest : Items) → with_first (x ∷ []) o ≡ Some (taken, rest) → (more : List Lexeme) × (o ≡ Some (more, rest)) × (x ∷ more ≡ taken)
with_inv x None taken rest e = absurd (none_is (taken, rest) e)
  where
    none_is : (y : List Lexeme × Items) → None ≡ Some y → ⊥
    none_is y q = cc
with_inv x (Some (more, left)) taken rest e = let p = some_pair_is {X = List Lexeme} (x ∷ more) taken left rest e in (more, ap (λ (y : Items). Some (more, y)) p.1, p.0)

-- one lexeme in front of a run
grown : (opens closes : Lexeme → Bool) (inner outer : ℕ) (x : Lexeme) (run : List Lexeme) → IsRunIn opens closes inner run → inner + count_by closes (x ∷ []) ≡ outer + count_by opens (x ∷ []) → count_by closes (x ∷ []) ≤ outer + count_by opens (x ∷ []) → IsRunIn opens closes outer (x ∷ run)
grown opens closes inner outer x run r e b = record { below = λ k. each k; even = even_is }
  where
    each : (k : ℕ) → count_by closes (take k (x ∷ run)) ≤ outer + count_by opens (take k (x ∷ run))
    each zero = omega arith
    each (suc k) =
        let below = r.below k in
        let p = sum_by-cons (λ y. cond (closes y) 1 0) x (take k run) in let q = sum_by-cons (λ y. cond (opens y) 1 0) x (take k run) in
        let p1 = sum_by-cons (λ y. cond (closes y) 1 0) x [] in let q1 = sum_by-cons (λ y. cond (opens y) 1 0) x [] in omega arith

    even_is : count_by closes (x ∷ run) ≡ outer + count_by opens (x ∷ run)
    even_is =
        let even = r.even in
        let p = sum_by-cons (λ y. cond (closes y) 1 0) x run in let q = sum_by-cons (λ y. cond (opens y) 1 0) x run in
        let p1 = sum_by-cons (λ y. cond (closes y) 1 0) x [] in let q1 = sum_by-cons (λ y. cond (opens y) 1 0) x [] in omega arith

count_one : (p : Lexeme → Bool) (x : Lexeme) (b : Bool) → p x ≡ b → count_by p (x ∷ []) ≡ cond b 1 0
count_one p x b h = sum_by-cons (λ y. cond (p y) 1 0) x [] ∙ rw h (omega arith)

ran_more : (opens closes : Lexeme → Bool) (inner outer : ℕ) (x : Lexeme) (items : Items) (more taken : List Lexeme) (rest : Items) → Ran opens closes inner items more rest → inner + count_by closes (x ∷ []) ≡ outer + count_by opens (x ∷ [])
    → count_by closes (x ∷ []) ≤ outer + count_by opens (x ∷ []) → x ∷ more ≡ taken → Ran opens closes outer (Some x ∷ items) taken rest
ran_more opens closes inner outer x items more taken rest r e b is = record {
  run = x ∷ r.run;
  last = r.last;
  is_run = grown opens closes inner outer x r.run r.is_run e b;
  closed = r.closed;
  taken_is = sym is ∙ ap (λ (y : List Lexeme). x ∷ y) r.taken_is;
  lexemes = ap (λ (y : Items). Some x ∷ y) r.lexemes;
}

closed_is : (opens closes : Lexeme → Bool) → AreApart opens closes → (depth : ℕ) (x : Lexeme) (items : Items) (more taken : List Lexeme) (rest : Items) → closes x ≡ true → run_of opens closes depth items ≡ Some (more, rest) → x ∷ more ≡ taken
    → ((d : ℕ) (taken : List Lexeme) (rest : Items) → run_of opens closes (suc d) items ≡ Some (taken, rest) → Ran opens closes d items taken rest) → Ran opens closes depth (Some x ∷ items) taken rest
unfolding run_of
closed_is opens closes apart zero x items more taken rest c e is ih =
    let p = some_pair_is {X = List Lexeme} [] more items rest e in
    record {
      run = [];
      last = x;
      is_run = nothing_runs opens closes;
      closed = c;
      taken_is = sym is ∙ ap (λ (y : List Lexeme). x ∷ y) (sym p.0);
      lexemes = ap (λ (y : Items). Some x ∷ y) p.1;
    }
closed_is opens closes apart (suc depth) x items more taken rest c e is ih =
    let p = count_one closes x true c in
    let q = count_one opens x false (apart x c) in
    ran_more opens closes depth (suc depth) x items more taken rest (ih depth more rest e) (omega arith) (omega arith) is

run_is : (opens closes : Lexeme → Bool) → AreApart opens closes → (items : Items) (depth : ℕ) (taken : List Lexeme) (rest : Items) → run_of opens closes (suc depth) items ≡ Some (taken, rest) → Ran opens closes depth items taken rest
unfolding run_of
run_is opens closes apart [] depth taken rest e = absurd (none_is (taken, rest) e)
  where
    none_is : (y : List Lexeme × Items) → None ≡ Some y → ⊥
    none_is y q = cc
run_is opens closes apart (None ∷ items) depth taken rest e = absurd (none_is (taken, rest) e)
  where
    none_is : (y : List Lexeme × Items) → None ≡ Some y → ⊥
    none_is y q = cc
run_is opens closes apart (Some x ∷ items) depth taken rest e = elim (cases_Bool (closes x)) [
  | inl c ↦
      let w = with_inv x (run_of opens closes depth items) taken rest (rw c at e) in
      closed_is opens closes apart depth x items w.0 taken rest c w.1 w.2 (λ d t r q. run_is opens closes apart items d t r q)
  | inr n ↦ elim (cases_Bool (opens x)) [
    | inl o ↦
        let w = with_inv x (run_of opens closes (suc (suc depth)) items) taken rest (rw (n, o) at e) in
        let p = count_one closes x false n in
        let q = count_one opens x true o in
        ran_more opens closes (suc depth) depth x items w.0 taken rest (run_is opens closes apart items (suc depth) w.0 rest w.1) (omega arith) (omega arith) w.2
    | inr m ↦
        let w = with_inv x (run_of opens closes (suc depth) items) taken rest (rw (n, m) at e) in
        let p = count_one closes x false n in
        let q = count_one opens x false m in
        ran_more opens closes depth depth x items w.0 taken rest (run_is opens closes apart items depth w.0 rest w.1) (omega arith) (omega arith) w.2
  ]
]

-- ---- both ways

pub has_run : (opens closes : Lexeme → Bool) (items : Items) (taken : List Lexeme) (rest : Items) → Ran opens closes 0 items taken rest → HasRun opens closes items rest
has_run opens closes items taken rest r = record {
  run = r.run;
  last = r.last;
  is_run = (λ k. let b = r.is_run.below k in omega arith, let e = r.is_run.even in omega arith);
  closed = r.closed;
  lexemes = r.lexemes;
}

pub runs : (opens closes : Lexeme → Bool) → AreApart opens closes → (items other : Items) → (h : HasRun opens closes items other) → run_of opens closes 1 items ≡ Some (h.run ++ h.last ∷ [], other)
runs opens closes apart items other h =
    ap (run_of opens closes 1) h.lexemes ∙ run_read opens closes apart 0 h.run h.last other (record { below = λ k. let b = h.is_run.0 k in omega arith; even = let e = h.is_run.1 in omega arith }) h.closed

pub has_one_run : (opens closes : Lexeme → Bool) → AreApart opens closes → (old new : Items) → RunRead true (run_of opens closes 1 old) new → HasRun opens closes old new × ((other : Items) → HasRun opens closes old other → other ≡ new)
has_one_run opens closes apart old new (taken, e) =
    (has_run opens closes old taken new (run_is opens closes apart old 0 taken new e), λ other h. (some_pair_is {X = List Lexeme} (h.run ++ h.last ∷ []) taken other new (sym (runs opens closes apart old other h) ∙ e)).1)

pub has_no_run : (opens closes : Lexeme → Bool) → AreApart opens closes → (old new : Items) → RunRead false (run_of opens closes 1 old) new → (other : Items) → HasRun opens closes old other → ⊥
has_no_run opens closes apart old new e other h = none_is (h.run ++ h.last ∷ [], other) (sym e ∙ runs opens closes apart old other h)
  where
    none_is : (y : List Lexeme × Items) → None ≡ Some y → ⊥
    none_is y q = cc

-- ---- marks that are apart

pub nothing_apart : (closes : Lexeme → Bool) → AreApart none closes
nothing_apart closes lexeme h = refl

pub parentheses_apart : AreApart (is_symbol 40) (is_symbol 41)
parentheses_apart (symbol other) h = let e : other ≡ 41 = eqb-true other 41 h in rw e refl
parentheses_apart (identifier name) h = refl
parentheses_apart (digits ds) h = refl
parentheses_apart (simple_string inside) h = refl
parentheses_apart (encoded_string inside) h = refl
