-- What holds of an answer of a call that may give up.
use Rattle.std.proofs.Common.{◌≡◌, ℕ, List, ◌∷◌, ◌++◌, Option, Some, None, Result, Ok, Err, IfErr, IfNone, IfOk, IfSome, IsErrAnd, OnErr, ok_or, ap, subst, sym, ◌∙◌}
use Rattle.p21_spec_exchange.specs.Token.{Token, name}
use Rattle.p21_shorter_instances.specs.Leaving.{BeginsWithMark}
use Rattle.p21_shorter_instances.specs.TakenParameters.{TakesTokens}
use Rattle.p21_shorter_tokens.specs.Gaps.{PassesSeparators}

pub ok-to : {A E : Type 0} {P Q : A → Type 0} (result : Result A E) → ((x : A) → P x → Q x) → IfOk result P → IfOk result Q
ok-to (Ok x) follows h = follows x h
ok-to (Err e) follows h = tt

pub ok-both : {A E : Type 0} {P Q R : A → Type 0} (result : Result A E) → IfOk result P → IfOk result Q → ((x : A) → P x → Q x → R x)
    → IfOk result R
ok-both (Ok x) one other follow = follow x one other
ok-both (Err e) one other follow = tt

pub err-to : {A E P Q : Type 0} (result : Result A E) → (P → Q) → OnErr result P → OnErr result Q
err-to (Ok x) follows h = tt
err-to (Err e) follows h = follows h

pub err-from : {A E P : Type 0} (result : Result A E) → P → OnErr result P
err-from (Ok x) holds = tt
err-from (Err e) holds = holds

-- the same of an answer that is none
pub ok-some : {A E : Type 0} {P Q : A → Type 0} (found : Option A) (why : E) → ((x : A) → P x → Q x) → IfSome found P
    → IfOk (ok_or found why) Q
ok-some None why follows h = tt
ok-some (Some x) why follows h = follows x h

pub err-none : {A E P Q : Type 0} (found : Option A) (why : E) → (P → Q) → IfNone found P → OnErr (ok_or found why) Q
err-none None why follows h = follows h
err-none (Some x) why follows h = tt

-- why a call gives up is handed on
pub err-handed : {A E : Type 0} (P : E → Type 0) (result : Result A E) (why : E) → IsErrAnd result (λ e. e ≡ why) → P why → IfErr result P
err-handed P (Ok x) why is holds = tt
err-handed P (Err e) why is holds = subst P (sym is) holds

-- the first of some tokens is a name
pub begins-taken : (n : ℕ) (tokens : List Token) (text bytes rest old new : List ℕ) → TakesTokens (name n ∷ tokens) text bytes rest old new
    → BeginsWithMark bytes
begins-taken n tokens text bytes rest old new takes =
    let (gap, spelling, behind, is, separates, spells, followed, more) = takes.laid in
    (spells.form.digits ++ behind, (gap, is ∙ ap (λ (front : List ℕ). gap ++ (front ++ behind)) spells.form.bytes_are, separates))

-- the mark of a name stands behind the separators
pub begins-behind : (bytes rest behind : List ℕ) → PassesSeparators bytes rest → rest ≡ 35 ∷ behind → BeginsWithMark bytes
begins-behind bytes rest behind passes begins = (
  behind,
  (passes.gap, passes.bytes_are ∙ ap (λ (l : List ℕ). passes.gap ++ l) begins, passes.is_gap),
)
