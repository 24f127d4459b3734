-- A run that is read over, lexeme by lexeme.
use Rattle.std.proofs.Common.{◌≡◌, ℕ, zero, suc, ◌+◌, ◌-◌, ◌<◌, Bool, true, false, List, [], ◌∷◌, ◌++◌, length, Option, Some, None, refl, ap, sym, ◌∙◌, append_assoc, arith}
use Rattle.p21_spec_schema.specs.Express.{Lexeme}
use Rattle.p21_express_lexemes.specs.Taking.{Items}
use Rattle.p21_express_lexemes.specs.Runs.{HasAdvanced, first_is, with_first, run_of, RunRead, WasTaken}

-- what is left leads on as all did
pub record RunLeads (opens closes : Lexeme → Bool) (old : Items) (depth : ℕ) (now : Items) : Type 0 where
  pub taken : List Lexeme
  pub is : run_of opens closes 1 old ≡ with_first taken (run_of opens closes depth now)

with_nothing : (o : Option (List Lexeme × Items)) → with_first [] o ≡ o
with_nothing None = refl
with_nothing (Some found) = refl

with_both : (a b : List Lexeme) (o : Option (List Lexeme × Items)) → with_first a (with_first b o) ≡ with_first (a ++ b) o
with_both a b None = refl
with_both a b (Some found) = ap (λ (x : List Lexeme). Some (x, found.1)) (sym (append_assoc a b found.0))

pub leads_first : (opens closes : Lexeme → Bool) (old : Items) → RunLeads opens closes old 1 old
leads_first opens closes old = record { taken = []; is = sym (with_nothing (run_of opens closes 1 old)) }

one_more : (opens closes : Lexeme → Bool) (old now new : Items) (depth next : ℕ) (x : Lexeme) → RunLeads opens closes old depth now → run_of opens closes depth now ≡ with_first (x ∷ []) (run_of opens closes next new) → RunLeads opens closes old next new
one_more opens closes old now new depth next x l e = record { taken = l.taken ++ x ∷ []; is = l.is ∙ (ap (with_first l.taken) e ∙ with_both l.taken (x ∷ []) (run_of opens closes next new)) }

step_close : (opens closes : Lexeme → Bool) (depth : ℕ) (x : Lexeme) (new : Items) → closes x ≡ true → 0 < depth → run_of opens closes depth (Some x ∷ new) ≡ with_first (x ∷ []) (run_of opens closes (depth - 1) new)
unfolding run_of
step_close opens closes zero x new c some = absurd (omega arith)
step_close opens closes (suc depth) x new c some = rw c (ap (λ (d : ℕ). with_first (x ∷ []) (run_of opens closes d new)) (let e : depth ≡ suc depth - 1 = omega arith in e))

step_open : (opens closes : Lexeme → Bool) (depth : ℕ) (x : Lexeme) (new : Items) → closes x ≡ false → opens x ≡ true → 0 < depth → run_of opens closes depth (Some x ∷ new) ≡ with_first (x ∷ []) (run_of opens closes (depth + 1) new)
unfolding run_of
step_open opens closes zero x new c o some = absurd (omega arith)
step_open opens closes (suc depth) x new c o some = rw (c, o) (ap (λ (d : ℕ). with_first (x ∷ []) (run_of opens closes d new)) (let e : suc (suc depth) ≡ suc depth + 1 = omega arith in e))

step_plain : (opens closes : Lexeme → Bool) (depth : ℕ) (x : Lexeme) (new : Items) → closes x ≡ false → opens x ≡ false → 0 < depth → run_of opens closes depth (Some x ∷ new) ≡ with_first (x ∷ []) (run_of opens closes depth new)
unfolding run_of
step_plain opens closes zero x new c o some = absurd (omega arith)
step_plain opens closes (suc depth) x new c o some = rw (c, o) refl

pub after_close : (opens closes : Lexeme → Bool) (old now new : Items) (depth : ℕ) → RunLeads opens closes old depth now → 0 < depth → WasTaken true closes now new → RunLeads opens closes old (depth - 1) new
after_close opens closes old now new depth l some (x, is, c) = one_more opens closes old now new depth (depth - 1) x l (ap (run_of opens closes depth) is ∙ step_close opens closes depth x new c some)

first_of_both : (test : Lexeme → Bool) (now new : Items) (x : Lexeme) → now ≡ Some x ∷ new → first_is test now ≡ false → test x ≡ false
first_of_both test now new x is f = sym (ap (first_is test) is) ∙ f

pub after_open : (opens closes : Lexeme → Bool) (old now mid new : Items) (depth : ℕ) → RunLeads opens closes old depth now → 0 < depth → WasTaken false closes now mid → WasTaken true opens mid new → RunLeads opens closes old (depth + 1) new
after_open opens closes old now mid new depth l some n (x, is, o) =
    let e : now ≡ Some x ∷ new = sym n.0 ∙ is in
    one_more opens closes old now new depth (depth + 1) x l (ap (run_of opens closes depth) e ∙ step_open opens closes depth x new (first_of_both closes now new x e n.1) o some)

pub after_plain : (opens closes : Lexeme → Bool) (old now mid then_mid new : Items) (depth : ℕ) → RunLeads opens closes old depth now → 0 < depth → WasTaken false closes now mid → WasTaken false opens mid then_mid → HasAdvanced true then_mid new → RunLeads opens closes old depth new
after_plain opens closes old now mid then_mid new depth l some n m (x, is) =
    let d : mid ≡ Some x ∷ new = sym m.0 ∙ is in
    let e : now ≡ Some x ∷ new = sym n.0 ∙ d in
    one_more opens closes old now new depth depth x l (ap (run_of opens closes depth) e ∙ step_plain opens closes depth x new (first_of_both closes now new x e n.1) (first_of_both opens mid new x d m.1) some)

no_run : (opens closes : Lexeme → Bool) (depth : ℕ) (items : Items) → 0 < depth → ((lexeme : Lexeme) (more : Items) → items ≡ Some lexeme ∷ more → ⊥) → run_of opens closes depth items ≡ None
unfolding run_of
no_run opens closes zero items some h = absurd (omega arith)
no_run opens closes (suc depth) [] some h = refl
no_run opens closes (suc depth) (None ∷ items) some h = refl
no_run opens closes (suc depth) (Some x ∷ items) some h = absurd (h x items refl)

pub no_end : (opens closes : Lexeme → Bool) (old now mid then_mid new : Items) (depth : ℕ) → RunLeads opens closes old depth now → 0 < depth → WasTaken false closes now mid → WasTaken false opens mid then_mid → HasAdvanced false then_mid new → run_of opens closes 1 old ≡ None
no_end opens closes old now mid then_mid new depth l some n m a =
    l.is ∙ ap (with_first l.taken) (no_run opens closes depth now some (λ x more e. a.1 x more (m.0 ∙ (n.0 ∙ e))))

pub run_done : (opens closes : Lexeme → Bool) (old now : Items) (depth : ℕ) → RunLeads opens closes old depth now → depth ≡ 0 → RunRead true (run_of opens closes 1 old) now
unfolding run_of
run_done opens closes old now zero l none = (l.taken ++ [], l.is)
run_done opens closes old now (suc depth) l none = absurd (omega arith)

pub took_shorter : (test : Lexeme → Bool) (now new : Items) → WasTaken true test now new → length now ≡ length new + 1
took_shorter test now new (x, is, h) = ap length is ∙ (omega arith)

pub took_none : (test : Lexeme → Bool) (now new : Items) → WasTaken false test now new → length new ≡ length now
took_none test now new h = ap length h.0

pub advanced_shorter : (now new : Items) → HasAdvanced true now new → length now ≡ length new + 1
advanced_shorter now new (x, is) = ap length is ∙ (omega arith)
