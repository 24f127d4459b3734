-- The first byte of a spelling: only a text begins with an apostrophe, and none with a separator.
use Rattle.std.proofs.Common.{◌≡◌, ℕ, ◌<◌, List, [], ◌∷◌, ◌++◌, length, get_or, ap, sym, subst, ◌∙◌, arith, lit<, inl, inr}
use Rattle.std.proofs.lemmas.List.{append-nil}
use Rattle.p21_spec_basics.specs.Digits.{AllDigits}
use Rattle.p21_spec_exchange.specs.Keyword.{IsKeyword}
use Rattle.p21_spec_exchange.specs.Number.{Sign, none, plus, minus, sign_bytes}
use Rattle.p21_spec_exchange.specs.Pending.{BeginsWithNoSeparator}
use Rattle.p21_spec_exchange.specs.Token.{Token, begin, finish, keyword, user_keyword, name, whole, real, text, item, bits, left, right, comma, semicolon, equals, dollar, star, Spells}
use Rattle.p21_spec_basics.proofs.Members.{head_is}

-- the first byte of a spelling, and an apostrophe where it has none
abbrev first : List ℕ → ℕ
first spelling = get_or spelling 0 39

abbrev IsText : Token → Type 0
IsText (text chars) = Unit {0}
IsText other = ⊥

keyword_first : (word : List ℕ) → IsKeyword word → first word ≡ 39 → ⊥
keyword_first [] is same = is
keyword_first (byte ∷ bytes) ((inl letter), more) same = omega (arith, letter, same)
keyword_first (byte ∷ bytes) ((inr line), more) same = omega (arith, line, same)

number_first : (sign : Sign) (digits rest : List ℕ) → 0 < length digits → AllDigits digits → first (sign_bytes sign ++ (digits ++ rest)) ≡ 39 → ⊥
number_first none [] rest some are same = omega (arith, some)
number_first none (digit ∷ digits) rest some are same = omega (arith, are.0, same)
number_first plus digits rest some are same = omega (arith, same)
number_first minus digits rest some are same = omega (arith, same)

-- a spelling that begins with an apostrophe, or is empty, is that of a text
pub apostrophe_first : (token : Token) (spelling : List ℕ) → Spells token spelling → first spelling ≡ 39 → IsText token
apostrophe_first (text chars) spelling spells same = tt
apostrophe_first begin spelling spells same = let other : first spelling ≡ 73 = ap first spells in omega (arith, other, same)
apostrophe_first finish spelling spells same = let other : first spelling ≡ 69 = ap first spells in omega (arith, other, same)
apostrophe_first left spelling spells same = let other : first spelling ≡ 40 = ap first spells in omega (arith, other, same)
apostrophe_first right spelling spells same = let other : first spelling ≡ 41 = ap first spells in omega (arith, other, same)
apostrophe_first comma spelling spells same = let other : first spelling ≡ 44 = ap first spells in omega (arith, other, same)
apostrophe_first semicolon spelling spells same = let other : first spelling ≡ 59 = ap first spells in omega (arith, other, same)
apostrophe_first equals spelling spells same = let other : first spelling ≡ 61 = ap first spells in omega (arith, other, same)
apostrophe_first dollar spelling spells same = let other : first spelling ≡ 36 = ap first spells in omega (arith, other, same)
apostrophe_first star spelling spells same = let other : first spelling ≡ 42 = ap first spells in omega (arith, other, same)
apostrophe_first (user_keyword word) spelling spells same = let other : first spelling ≡ 33 = ap first spells.0 in omega (arith, other, same)
apostrophe_first (name n) spelling spells same = let other : first spelling ≡ 35 = ap first spells.form.bytes_are in omega (arith, other, same)
apostrophe_first (item word) spelling spells same = let other : first spelling ≡ 46 = ap first spells.0 in omega (arith, other, same)
apostrophe_first (bits value) spelling spells same = let other : first spelling ≡ 34 = ap first spells.bytes_are in omega (arith, other, same)
apostrophe_first (keyword word) spelling spells same = keyword_first word spells.1 (sym (ap first spells.0) ∙ same)
apostrophe_first (whole z) spelling spells same =
    number_first spells.sign spells.digits [] spells.some_digits spells.are_digits (rw append-nil (sym (ap first spells.bytes_are) ∙ same))
apostrophe_first (real d) spelling spells same =
    number_first spells.form.sign spells.form.whole _ spells.form.some_digits spells.form.are_digits (sym (ap first spells.form.bytes_are) ∙ same)

keyword_begins : (word : List ℕ) → IsKeyword word → BeginsWithNoSeparator word
keyword_begins [] is = is
keyword_begins (byte ∷ bytes) ((inl letter), more) = (omega (arith, letter), λ e. omega (arith, letter, e), λ e. omega (arith, letter, e))
keyword_begins (byte ∷ bytes) ((inr line), more) = (omega (arith, line), λ e. omega (arith, line, e), λ e. omega (arith, line, e))

number_begins : (sign : Sign) (digits rest : List ℕ) → 0 < length digits → AllDigits digits → BeginsWithNoSeparator (sign_bytes sign ++ (digits ++ rest))
number_begins none [] rest some are = absurd (omega (arith, some))
number_begins none (digit ∷ digits) rest some are = (omega (arith, are.0), λ e. omega (arith, are.0, e), λ e. omega (arith, are.0, e))
number_begins plus digits rest some are = (lit< tt, λ e. omega (arith, e), λ e. omega (arith, e))
number_begins minus digits rest some are = (lit< tt, λ e. omega (arith, e), λ e. omega (arith, e))

-- a spelling begins with no separator, and with no `/`
pub spelling_begins : (token : Token) (spelling : List ℕ) → Spells token spelling → BeginsWithNoSeparator spelling
spelling_begins (text chars) spelling spells = subst BeginsWithNoSeparator (sym spells.bytes_are) (lit< tt, λ e. omega (arith, e), λ e. omega (arith, e))
spelling_begins begin spelling spells = subst BeginsWithNoSeparator (sym spells) (lit< tt, λ e. omega (arith, e), λ e. omega (arith, e))
spelling_begins finish spelling spells = subst BeginsWithNoSeparator (sym spells) (lit< tt, λ e. omega (arith, e), λ e. omega (arith, e))
spelling_begins left spelling spells = subst BeginsWithNoSeparator (sym spells) (lit< tt, λ e. omega (arith, e), λ e. omega (arith, e))
spelling_begins right spelling spells = subst BeginsWithNoSeparator (sym spells) (lit< tt, λ e. omega (arith, e), λ e. omega (arith, e))
spelling_begins comma spelling spells = subst BeginsWithNoSeparator (sym spells) (lit< tt, λ e. omega (arith, e), λ e. omega (arith, e))
spelling_begins semicolon spelling spells = subst BeginsWithNoSeparator (sym spells) (lit< tt, λ e. omega (arith, e), λ e. omega (arith, e))
spelling_begins equals spelling spells = subst BeginsWithNoSeparator (sym spells) (lit< tt, λ e. omega (arith, e), λ e. omega (arith, e))
spelling_begins dollar spelling spells = subst BeginsWithNoSeparator (sym spells) (lit< tt, λ e. omega (arith, e), λ e. omega (arith, e))
spelling_begins star spelling spells = subst BeginsWithNoSeparator (sym spells) (lit< tt, λ e. omega (arith, e), λ e. omega (arith, e))
spelling_begins (user_keyword word) spelling spells = subst BeginsWithNoSeparator (sym spells.0) (lit< tt, λ e. omega (arith, e), λ e. omega (arith, e))
spelling_begins (name n) spelling spells = subst BeginsWithNoSeparator (sym spells.form.bytes_are) (lit< tt, λ e. omega (arith, e), λ e. omega (arith, e))
spelling_begins (item word) spelling spells = subst BeginsWithNoSeparator (sym spells.0) (lit< tt, λ e. omega (arith, e), λ e. omega (arith, e))
spelling_begins (bits value) spelling spells = subst BeginsWithNoSeparator (sym spells.bytes_are) (lit< tt, λ e. omega (arith, e), λ e. omega (arith, e))
spelling_begins (keyword word) spelling spells = subst BeginsWithNoSeparator (sym spells.0) (keyword_begins word spells.1)
spelling_begins (whole z) spelling spells = subst BeginsWithNoSeparator (sym (spells.bytes_are ∙ ap (λ (xs : List ℕ). sign_bytes spells.sign ++ xs) (sym (append-nil spells.digits)))) (number_begins spells.sign spells.digits [] spells.some_digits spells.are_digits)
spelling_begins (real d) spelling spells = subst BeginsWithNoSeparator (sym spells.form.bytes_are) (number_begins spells.form.sign spells.form.whole _ spells.form.some_digits spells.form.are_digits)

-- no spelling stands at the front of no bytes
pub no-spelling : (token : Token) (spelling rest : List ℕ) → Spells token spelling → spelling ++ rest ≡ [] → ⊥
no-spelling token [] rest spells same = spelling_begins token [] spells
no-spelling token (byte ∷ bytes) rest spells same = cc

-- nor in front of a `/`
pub slash-first : (token : Token) (spelling rest more : List ℕ) → Spells token spelling → spelling ++ rest ≡ 47 ∷ more → ⊥
slash-first token [] rest more spells same = spelling_begins token [] spells
slash-first token (byte ∷ bytes) rest more spells same = (spelling_begins token (byte ∷ bytes) spells).2 (head_is byte 47 (bytes ++ rest) more same)
