-- Lexemes in front of what is left.
use Rattle.std.proofs.Common.{◌≡◌, ℕ, List, [], ◌∷◌, ◌++◌, Some, refl, ap, sym, ◌∙◌}
use Rattle.p21_spec_schema.specs.Express.{Lexeme}
use Rattle.p21_spec_schema.specs.ExpressLaying.{LaidLexemes}
use Rattle.p21_express_lexemes.specs.Lexemes.{lexemes_of, as_items}
use Rattle.p21_express_lexemes.specs.Taking.{Items, put}
use Rattle.p21_express_lexemes.proofs.Once.{laid_all, all_laid}

pub put-append : (a b : List Lexeme) (more : Items) → put (a ++ b) more ≡ put a (put b more)
put-append [] b more = refl
put-append (x ∷ a) b more = ap (λ (y : Items). Some x ∷ y) (put-append a b more)

put_as_items : (lexemes : List Lexeme) → as_items lexemes ≡ put lexemes []
put_as_items [] = refl
put_as_items (x ∷ lexemes) = ap (λ (y : Items). Some x ∷ y) (put_as_items lexemes)

pub laid_put : (lexemes : List Lexeme) (text : List ℕ) → LaidLexemes lexemes text → lexemes_of text ≡ put lexemes []
laid_put lexemes text l = laid_all lexemes text l ∙ put_as_items lexemes

pub put_laid : (lexemes : List Lexeme) (text : List ℕ) → lexemes_of text ≡ put lexemes [] → LaidLexemes lexemes text
put_laid lexemes text e = all_laid lexemes text (e ∙ sym (put_as_items lexemes))
