-- The lexemes of a text are one list.
use Rattle.std.proofs.Common.{◌≡◌, ℕ, zero, suc, ◌<◌, ◌≤◌, List, [], ◌∷◌, length, length-append, Option, Some, None, refl, ap, sym, subst, ◌∙◌, arith}
use Rattle.p21_spec_schema.specs.Express.{Lexeme, identifier, digits, simple_string, encoded_string, symbol, SpellsLexeme}
use Rattle.p21_spec_schema.specs.ExpressLaying.{LaidLexemes}
use Rattle.p21_express_lexemes.specs.Skipping.{between, skip}
use Rattle.p21_express_lexemes.specs.FirstLexeme.{FirstLexeme as PureFirstLexeme, found, ended, wrong, lexeme_of, first_lexeme_within, first_lexeme_of}
use Rattle.p21_express_lexemes.specs.Meaning.{IsFirstLexeme}
use Rattle.p21_express_lexemes.specs.Laid.{BeginsWith, ReadsFirstLexeme}
use Rattle.p21_express_lexemes.specs.Lexemes.{items, lexemes_within, lexemes_of, as_items}
use Rattle.p21_express_lexemes.specs.declared.lexeme.FirstLexeme.{FirstLexeme}
use Rattle.p21_express_lexemes.specs.declared.lexeme.FirstLexeme.TheVariants.{Found, Ended, Wrong}
use Rattle.p21_express_lexemes.proofs.Complete.{LaidNext, laid_read}
use Rattle.p21_express_lexemes.proofs.Skips.{stops}
use Rattle.p21_express_lexemes.proofs.Sound.{SkipsTo, skipped, lexeme_begins, read_laid, ended_laid}

-- ---- what the reader answers

found_once : (l m : Lexeme) (r s : List ℕ) → found l r ≡ found m s → (l ≡ m) × (r ≡ s)
found_once l m r s e = ((cc), (cc))

next_is : (bytes : List ℕ) (lexeme : Lexeme) (rest : List ℕ) → first_lexeme_of bytes ≡ found lexeme rest → (lexemes : List Lexeme) → LaidNext lexemes bytes → (more : List Lexeme) × (lexemes ≡ lexeme ∷ more) × LaidLexemes more rest
next_is bytes lexeme rest e [] n = absurd (let q = sym e ∙ n in cc)
next_is bytes lexeme rest e (first ∷ more) (last, is, l) =
    let same = found_once first lexeme last rest (sym is ∙ e) in
    (more, ap (λ (x : Lexeme). x ∷ more) same.0, subst (λ (x : List ℕ). LaidLexemes more x) same.1 l)

pub begins_with : (bytes : List ℕ) (lexeme : Lexeme) (rest : List ℕ) → first_lexeme_of bytes ≡ found lexeme rest → BeginsWith bytes lexeme rest
begins_with bytes lexeme rest e = record {
  complete = λ lexemes l. next_is bytes lexeme rest e lexemes (laid_read lexemes bytes l);
  sound = λ more l. read_laid bytes lexeme rest more e l;
}

none_next : (bytes : List ℕ) → first_lexeme_of bytes ≡ ended → (lexemes : List Lexeme) → LaidNext lexemes bytes → lexemes ≡ []
none_next bytes e [] n = refl
none_next bytes e (first ∷ more) (last, is, l) = absurd (let q = sym e ∙ is in cc)

wrong_next : (bytes : List ℕ) → first_lexeme_of bytes ≡ wrong → (lexemes : List Lexeme) → LaidNext lexemes bytes → ⊥
wrong_next bytes e [] n = let q = sym e ∙ n in cc
wrong_next bytes e (first ∷ more) (last, is, l) = let q = sym e ∙ is in cc

pub reads_first_lexeme : (bytes : List ℕ) (front : FirstLexeme) → IsFirstLexeme (first_lexeme_of bytes) front → ReadsFirstLexeme bytes front
reads_first_lexeme bytes (Found lexeme rest) (meant, e, m) = (meant, m, begins_with bytes meant rest.now e)
reads_first_lexeme bytes Ended e = (ended_laid bytes e, λ lexemes l. none_next bytes e lexemes (laid_read lexemes bytes l))
reads_first_lexeme bytes Wrong e = λ lexemes l. wrong_next bytes e lexemes (laid_read lexemes bytes l)

-- ---- all lexemes

spelled_some : (lexeme : Lexeme) (spelling : List ℕ) → SpellsLexeme lexeme spelling → 0 < length spelling
spelled_some (identifier name) [] s = absurd s.0
spelled_some (identifier name) (b ∷ bytes) s = omega arith
spelled_some (digits ds) spelling s = let e = ap length s.0 in let some = s.1 in omega arith
spelled_some (simple_string inside) spelling s = let e = ap length s in omega arith
spelled_some (encoded_string inside) spelling s = let e = ap length s.0 in omega arith
spelled_some (symbol b) spelling s = let e = ap length s.0 in omega arith

left_shorter : (bytes left : List ℕ) (lexeme : Lexeme) (rest : List ℕ) → SkipsTo bytes left → lexeme_of left ≡ found lexeme rest → length rest < length bytes
left_shorter bytes [] lexeme rest t e = cc
left_shorter bytes (b ∷ left) lexeme rest t e =
    let h = lexeme_begins b left lexeme rest t.no_remark t.no_line e in
    let some = spelled_some lexeme h.0 h.2 in
    let outer = ap length t.is ∙ length-append t.gap (b ∷ left) in
    let inner = ap length h.1 ∙ length-append h.0 rest in
    omega arith

within_shorter : (bytes : List ℕ) (s : Option (List ℕ)) (lexeme : Lexeme) (rest : List ℕ) → skip between bytes ≡ s → first_lexeme_within s ≡ found lexeme rest → length rest < length bytes
within_shorter bytes None lexeme rest s e = cc
within_shorter bytes (Some left) lexeme rest s e = left_shorter bytes left lexeme rest (skipped between bytes left s) e

pub found_shorter : (bytes : List ℕ) (lexeme : Lexeme) (rest : List ℕ) → first_lexeme_of bytes ≡ found lexeme rest → length rest < length bytes
found_shorter bytes lexeme rest e = within_shorter bytes (skip between bytes) lexeme rest refl e

items_same : (front : PureFirstLexeme) (f g : List ℕ → List (Option Lexeme)) → ((lexeme : Lexeme) (rest : List ℕ) → front ≡ found lexeme rest → f rest ≡ g rest) → items front f ≡ items front g
items_same (found lexeme rest) f g h = ap (λ (x : List (Option Lexeme)). Some lexeme ∷ x) (h lexeme rest refl)
items_same ended f g h = refl
items_same wrong f g h = refl

-- more than enough is enough
enough : (m n : ℕ) (bytes : List ℕ) → length bytes < m → length bytes < n → lexemes_within m bytes ≡ lexemes_within n bytes
unfolding lexemes_within
enough zero n bytes p q = absurd (omega arith)
enough (suc m) zero bytes p q = absurd (omega arith)
enough (suc m) (suc n) bytes p q =
    items_same (first_lexeme_of bytes) (λ rest. lexemes_within m rest) (λ rest. lexemes_within n rest)
    (λ lexeme rest e. let less = found_shorter bytes lexeme rest e in enough m n rest (omega arith) (omega arith))

pub lexemes-found : (bytes : List ℕ) (lexeme : Lexeme) (rest : List ℕ) → first_lexeme_of bytes ≡ found lexeme rest → lexemes_of bytes ≡ Some lexeme ∷ lexemes_of rest
unfolding lexemes_of lexemes_within
lexemes-found bytes lexeme rest e =
    let less = found_shorter bytes lexeme rest e in
    ap (λ (x : PureFirstLexeme). items x (λ r. lexemes_within (length bytes) r)) e
    ∙ ap (λ (x : List (Option Lexeme)). Some lexeme ∷ x) (enough (length bytes) (suc (length rest)) rest less (omega arith))

pub lexemes-ended : (bytes : List ℕ) → first_lexeme_of bytes ≡ ended → lexemes_of bytes ≡ []
unfolding lexemes_of lexemes_within
lexemes-ended bytes e = ap (λ (x : PureFirstLexeme). items x (λ r. lexemes_within (length bytes) r)) e

pub lexemes-wrong : (bytes : List ℕ) → first_lexeme_of bytes ≡ wrong → lexemes_of bytes ≡ None ∷ []
unfolding lexemes_of lexemes_within
lexemes-wrong bytes e = ap (λ (x : PureFirstLexeme). items x (λ r. lexemes_within (length bytes) r)) e

-- ---- the two theorems

-- complete: what is laid in a text are its lexemes
pub laid_all : (lexemes : List Lexeme) (bytes : List ℕ) → LaidLexemes lexemes bytes → lexemes_of bytes ≡ as_items lexemes
laid_all [] bytes l = lexemes-ended bytes (laid_read [] bytes l)
laid_all (lexeme ∷ lexemes) bytes l =
    let next = laid_read (lexeme ∷ lexemes) bytes l in
    lexemes-found bytes lexeme next.0 next.1 ∙ ap (λ (x : List (Option Lexeme)). Some lexeme ∷ x) (laid_all lexemes next.0 next.2)

cons_same : (x y : Lexeme) (xs ys : List (Option Lexeme)) → Some x ∷ xs ≡ Some y ∷ ys → (x ≡ y) × (xs ≡ ys)
cons_same x y xs ys e = ((cc), (cc))

-- sound: the lexemes of a text are laid in it, where none is wrong
pub all_laid : (lexemes : List Lexeme) (bytes : List ℕ) → lexemes_of bytes ≡ as_items lexemes → LaidLexemes lexemes bytes
all_laid lexemes bytes e = by lexemes bytes (first_lexeme_of bytes) refl e
  where
    by : (lexemes : List Lexeme) (bytes : List ℕ) (front : PureFirstLexeme) → first_lexeme_of bytes ≡ front → lexemes_of bytes ≡ as_items lexemes → LaidLexemes lexemes bytes
    by [] bytes (found first rest) f e = absurd (let q = sym (lexemes-found bytes first rest f) ∙ e in cc)
    by [] bytes ended f e = ended_laid bytes f
    by [] bytes wrong f e = absurd (let q = sym (lexemes-wrong bytes f) ∙ e in cc)
    by (lexeme ∷ lexemes) bytes (found first rest) f e =
        let same = cons_same first lexeme (lexemes_of rest) (as_items lexemes) (sym (lexemes-found bytes first rest f) ∙ e) in
        read_laid bytes lexeme rest lexemes (f ∙ ap (λ (x : Lexeme). found x rest) same.0) (by lexemes rest (first_lexeme_of rest) refl same.1)
    by (lexeme ∷ lexemes) bytes ended f e = absurd (let q = sym (lexemes-ended bytes f) ∙ e in cc)
    by (lexeme ∷ lexemes) bytes wrong f e = absurd (let q = sym (lexemes-wrong bytes f) ∙ e in cc)

as_items_once : (a b : List Lexeme) → as_items a ≡ as_items b → a ≡ b
as_items_once [] [] e = refl
as_items_once [] (y ∷ b) e = absurd (cc)
as_items_once (x ∷ a) [] e = absurd (cc)
as_items_once (x ∷ a) (y ∷ b) e =
    let same = cons_same x y (as_items a) (as_items b) e in
    ap (λ (z : Lexeme). z ∷ a) same.0 ∙ ap (λ (zs : List Lexeme). y ∷ zs) (as_items_once a b same.1)

pub one_laying : (bytes : List ℕ) (lexemes others : List Lexeme) → LaidLexemes lexemes bytes → LaidLexemes others bytes → lexemes ≡ others
one_laying bytes lexemes others l m = as_items_once lexemes others (sym (laid_all lexemes bytes l) ∙ laid_all others bytes m)

-- ---- how many

items_few : (bytes : List ℕ) (front : PureFirstLexeme) (go : List ℕ → List (Option Lexeme)) → first_lexeme_of bytes ≡ front → ((rest : List ℕ) → length (go rest) ≤ length rest) → length (items front go) ≤ length bytes
items_few bytes (found lexeme rest) go e h = let less = found_shorter bytes lexeme rest e in let few = h rest in omega arith
items_few bytes ended go e h = omega arith
items_few [] wrong go e h = absurd (let q = sym e ∙ nothing in cc)
  where
    nothing : first_lexeme_of [] ≡ ended
    nothing = ap first_lexeme_within (stops [] refl refl refl)
items_few (b ∷ bytes) wrong go e h = omega arith

within_few : (count : ℕ) (bytes : List ℕ) → length (lexemes_within count bytes) ≤ length bytes
unfolding lexemes_within
within_few zero bytes = omega arith
within_few (suc count) bytes = items_few bytes (first_lexeme_of bytes) (λ rest. lexemes_within count rest) refl (λ rest. within_few count rest)

pub lexemes_few : (bytes : List ℕ) → length (lexemes_of bytes) ≤ length bytes
unfolding lexemes_of
lexemes_few bytes = within_few (suc (length bytes)) bytes
