-- What is taken from the lexemes that are left, by the reader's answer at the front.
use Rattle.std.proofs.Common.{◌≡◌, ℕ, List, [], ◌∷◌, Option, Some, None, ap, sym, ◌∙◌}
use Rattle.std.specs.Borrow.{Bor}
use Rattle.p21_spec_schema.specs.Express.{Lexeme as ExpressLexeme}
use Rattle.p21_express_lexemes.specs.FirstLexeme.{first_lexeme_of}
use Rattle.p21_express_lexemes.specs.Meaning.{Means, IsFirstLexeme}
use Rattle.p21_express_lexemes.specs.Lexemes.{lexemes_of}
use Rattle.p21_express_lexemes.specs.Taking.{Items}
use Rattle.p21_express_lexemes.specs.declared.lexeme.Lexeme.{Lexeme}
use Rattle.p21_express_lexemes.specs.declared.lexeme.FirstLexeme.{FirstLexeme}
use Rattle.p21_express_lexemes.specs.declared.lexeme.FirstLexeme.TheVariants.{Found, Ended, Wrong}
use Rattle.p21_express_lexemes.proofs.Once.{lexemes-found, lexemes-ended, lexemes-wrong}

-- the first lexeme and the others
pub first_is : (bytes : List ℕ) (front : FirstLexeme) (lexeme : Lexeme) (rest : Bor (List ℕ)) → IsFirstLexeme (first_lexeme_of bytes) front → front ≡ Found lexeme rest → (meant : ExpressLexeme) × Means lexeme meant × (lexemes_of bytes ≡ Some meant ∷ lexemes_of rest.now)
first_is bytes front lexeme rest h e =
    let k : IsFirstLexeme (first_lexeme_of bytes) (Found lexeme rest) = rw e at h in
    (k.0, k.2, lexemes-found bytes k.0 rest.now k.1)

pub at_found : {A : Type 0} (take : Items → Option A) (first : ExpressLexeme → Items → Option A) → ((l : ExpressLexeme) (r : Items) → take (Some l ∷ r) ≡ first l r)
    → (old : Items) (bytes : List ℕ) (front : FirstLexeme) (lexeme : Lexeme) (rest : Bor (List ℕ)) → lexemes_of bytes ≡ old → IsFirstLexeme (first_lexeme_of bytes) front → front ≡ Found lexeme rest
    → (answer : Option A) → ((meant : ExpressLexeme) → Means lexeme meant → first meant (lexemes_of rest.now) ≡ answer) → take old ≡ answer
at_found take first by old bytes front lexeme rest view h e answer test =
    let k = first_is bytes front lexeme rest h e in
    ap take (sym view ∙ k.2) ∙ (by k.0 (lexemes_of rest.now) ∙ test k.0 k.1)

pub at_ended : {A : Type 0} (take : Items → Option A) → take [] ≡ None → (old : Items) (bytes : List ℕ) (front : FirstLexeme) → lexemes_of bytes ≡ old → IsFirstLexeme (first_lexeme_of bytes) front → front ≡ Ended → take old ≡ None
at_ended take none old bytes front view h e = let k : IsFirstLexeme (first_lexeme_of bytes) Ended = rw e at h in ap take (sym view ∙ lexemes-ended bytes k) ∙ none

pub at_wrong : {A : Type 0} (take : Items → Option A) → take (None ∷ []) ≡ None → (old : Items) (bytes : List ℕ) (front : FirstLexeme) → lexemes_of bytes ≡ old → IsFirstLexeme (first_lexeme_of bytes) front → front ≡ Wrong → take old ≡ None
at_wrong take none old bytes front view h e = let k : IsFirstLexeme (first_lexeme_of bytes) Wrong = rw e at h in ap take (sym view ∙ lexemes-wrong bytes k) ∙ none

pub some_left : (old : Items) (bytes : List ℕ) (front : FirstLexeme) (lexeme : Lexeme) (rest : Bor (List ℕ)) → lexemes_of bytes ≡ old → IsFirstLexeme (first_lexeme_of bytes) front → front ≡ Found lexeme rest → old ≡ [] → ⊥
some_left old bytes front lexeme rest view h e none = let k = first_is bytes front lexeme rest h e in let q : Some k.0 ∷ lexemes_of rest.now ≡ [] = sym k.2 ∙ (view ∙ none) in cc

pub none_left : (old : Items) (bytes : List ℕ) (front : FirstLexeme) → lexemes_of bytes ≡ old → IsFirstLexeme (first_lexeme_of bytes) front → front ≡ Ended → old ≡ []
none_left old bytes front view h e = let k : IsFirstLexeme (first_lexeme_of bytes) Ended = rw e at h in sym view ∙ lexemes-ended bytes k

pub wrong_left : (old : Items) (bytes : List ℕ) (front : FirstLexeme) → lexemes_of bytes ≡ old → IsFirstLexeme (first_lexeme_of bytes) front → front ≡ Wrong → old ≡ [] → ⊥
wrong_left old bytes front view h e none = let k : IsFirstLexeme (first_lexeme_of bytes) Wrong = rw e at h in let q : None ∷ [] ≡ [] = sym (lexemes-wrong bytes k) ∙ (view ∙ none) in cc

pub wrong_items : (old : Items) (bytes : List ℕ) (front : FirstLexeme) → lexemes_of bytes ≡ old → IsFirstLexeme (first_lexeme_of bytes) front → front ≡ Wrong → old ≡ None ∷ []
wrong_items old bytes front view h e = let k : IsFirstLexeme (first_lexeme_of bytes) Wrong = rw e at h in sym view ∙ lexemes-wrong bytes k

pub no_first_ended : (old : Items) (bytes : List ℕ) (front : FirstLexeme) → lexemes_of bytes ≡ old → IsFirstLexeme (first_lexeme_of bytes) front → front ≡ Ended → (lexeme : ExpressLexeme) (more : Items) → old ≡ Some lexeme ∷ more → ⊥
no_first_ended old bytes front view h e lexeme more is = let q : [] ≡ Some lexeme ∷ more = sym (none_left old bytes front view h e) ∙ is in cc

pub no_first_wrong : (old : Items) (bytes : List ℕ) (front : FirstLexeme) → lexemes_of bytes ≡ old → IsFirstLexeme (first_lexeme_of bytes) front → front ≡ Wrong → (lexeme : ExpressLexeme) (more : Items) → old ≡ Some lexeme ∷ more → ⊥
no_first_wrong old bytes front view h e lexeme more is = let q : None ∷ [] ≡ Some lexeme ∷ more = sym (wrong_items old bytes front view h e) ∙ is in cc

-- what is said of the first lexeme, or of none
pub shown_found : {A : Type 0} (show : Items → A) (first : ExpressLexeme → A) → ((l : ExpressLexeme) (r : Items) → show (Some l ∷ r) ≡ first l)
    → (old : Items) (bytes : List ℕ) (front : FirstLexeme) (lexeme : Lexeme) (rest : Bor (List ℕ)) → lexemes_of bytes ≡ old → IsFirstLexeme (first_lexeme_of bytes) front → front ≡ Found lexeme rest
    → (answer : A) → ((meant : ExpressLexeme) → Means lexeme meant → answer ≡ first meant) → answer ≡ show old
shown_found show first by old bytes front lexeme rest view h e answer test =
    let k = first_is bytes front lexeme rest h e in
    test k.0 k.1 ∙ (sym (by k.0 (lexemes_of rest.now)) ∙ ap show (sym k.2 ∙ view))

pub shown_ended : {A : Type 0} (show : Items → A) (old : Items) (bytes : List ℕ) (front : FirstLexeme) → lexemes_of bytes ≡ old → IsFirstLexeme (first_lexeme_of bytes) front → front ≡ Ended → show [] ≡ show old
shown_ended show old bytes front view h e = let k : IsFirstLexeme (first_lexeme_of bytes) Ended = rw e at h in ap show (sym (lexemes-ended bytes k) ∙ view)

pub shown_wrong : {A : Type 0} (show : Items → A) (old : Items) (bytes : List ℕ) (front : FirstLexeme) → lexemes_of bytes ≡ old → IsFirstLexeme (first_lexeme_of bytes) front → front ≡ Wrong → show (None ∷ []) ≡ show old
shown_wrong show old bytes front view h e = let k : IsFirstLexeme (first_lexeme_of bytes) Wrong = rw e at h in ap show (sym (lexemes-wrong bytes k) ∙ view)
