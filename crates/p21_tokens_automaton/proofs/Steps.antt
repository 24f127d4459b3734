-- One byte of the reading, by the action that it calls for.
use Rattle.std.proofs.Common.{◌≡◌, ℕ, ◌+◌, List, [], ◌∷◌, ◌++◌, refl, ap, ◌∙◌, Option, Some}
use Rattle.p21_tokens_automaton.specs.Step.{advance}
use Rattle.p21_tokens_automaton.specs.Reading.{State, start, pass, skip, keep, put, Answer, without_tokens, before, Continuation, FoundToken, known, single_token, ended_token, closed_token, marker_of, with_token_in_front, continue_marker, first, act, lex, open_at}
use Rattle.p21_tokens_automaton.specs.declared.mode.Mode.{Mode}
use Rattle.p21_tokens_automaton.specs.declared.mode.Mode.TheVariants.{Between}
use Rattle.p21_tokens_automaton.specs.declared.mode.Single.{Single}
use Rattle.p21_tokens_automaton.specs.declared.mode.Action.{Action}
use Rattle.p21_tokens_automaton.specs.declared.mode.Action.TheVariants.{Pass, Skip, Keep, Put, Give, Close, End, Dash, Refuse}

pub lex-nil : (s : State) → lex s [] ≡ without_tokens (open_at s)
unfolding lex
lex-nil s = refl

pub lex-byte : (s : State) (b : ℕ) (bs : List ℕ) → lex s (b ∷ bs) ≡ act (advance s.mode b) s b (λ next. lex next bs)
unfolding lex
lex-byte s b bs = refl

by_action : (s : State) (b : ℕ) (bs : List ℕ) (a : Action) → advance s.mode b ≡ a → lex s (b ∷ bs) ≡ act a s b (λ next. lex next bs)
by_action s b bs a e = lex-byte s b bs ∙ ap (λ (x : Action). act x s b (λ next. lex next bs)) e

pub lex-pass : (s : State) (m : Mode) (b : ℕ) (bs : List ℕ) → advance s.mode b ≡ Pass m → lex s (b ∷ bs) ≡ lex (pass s m) bs
lex-pass s m b bs e = by_action s b bs (Pass m) e

pub lex-skip : (s : State) (m : Mode) (b : ℕ) (bs : List ℕ) → advance s.mode b ≡ Skip m → lex s (b ∷ bs) ≡ lex (skip s m) bs
lex-skip s m b bs e = by_action s b bs (Skip m) e

pub lex-keep : (s : State) (m : Mode) (b : ℕ) (bs : List ℕ) → advance s.mode b ≡ Keep m → lex s (b ∷ bs) ≡ lex (keep s m b) bs
lex-keep s m b bs e = by_action s b bs (Keep m) e

pub lex-put : (s : State) (m : Mode) (c b : ℕ) (bs : List ℕ) → advance s.mode b ≡ Put m c → lex s (b ∷ bs) ≡ lex (put s m c) bs
lex-put s m c b bs e = by_action s b bs (Put m c) e

pub lex-give : (s : State) (one : Single) (b : ℕ) (bs : List ℕ) → advance s.mode b ≡ Give one → lex s (b ∷ bs) ≡ before (record { found = known (single_token one); size = 1 }) (lex start bs)
lex-give s one b bs e = by_action s b bs (Give one) e

pub lex-close : (s : State) (f : FoundToken) (b : ℕ) (bs : List ℕ) → advance s.mode b ≡ Close → closed_token s.mode (s.pending_bytes ++ b ∷ []) ≡ Some f → lex s (b ∷ bs) ≡ before (record { found = f; size = s.size + 1 }) (lex start bs)
lex-close s f b bs e g = by_action s b bs Close e ∙ ap (λ (x : Option FoundToken). with_token_in_front x (s.size + 1) (lex start bs)) g

pub lex-dash : (s : State) (m : Mode) (b : ℕ) (bs : List ℕ) → advance s.mode b ≡ Dash → marker_of s.pending_bytes ≡ Some m → lex s (b ∷ bs) ≡ lex (keep s m b) bs
lex-dash s m b bs e g = by_action s b bs Dash e ∙ ap (λ (x : Option Mode). continue_marker x s b (λ next. lex next bs)) g

pub first-act : (a : Action) (b : ℕ) (go : Continuation) → first a b go ≡ act a start b go
first-act (Pass m) b go = refl
first-act (Skip m) b go = refl
first-act (Keep m) b go = refl
first-act (Put m c) b go = refl
first-act (Give one) b go = refl
first-act Close b go = refl
first-act End b go = refl
first-act Dash b go = refl
first-act (Refuse w) b go = refl

pub lex-end : (s : State) (f : FoundToken) (b : ℕ) (bs : List ℕ) → advance s.mode b ≡ End → ended_token s ≡ Some f → lex s (b ∷ bs) ≡ before (record { found = f; size = s.size }) (lex start (b ∷ bs))
unfolding lex
lex-end s f b bs e g =
    by_action s b bs End e
    ∙ (ap (λ (x : Option FoundToken). with_token_in_front x s.size (first (advance Between b) b (λ next. lex next bs))) g
    ∙ ap (λ (x : Answer). before (record { found = f; size = s.size }) x) (first-act (advance Between b) b (λ next. lex next bs)))
