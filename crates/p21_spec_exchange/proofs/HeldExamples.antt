-- What is pending and open behind bytes that end within a statement.
use Rattle.std.proofs.Common.{◌≡◌, ℕ, pos, List, [], ◌∷◌, ◌++◌, length, drop, get_or, refl, ap, sym, ◌∙◌, arith, lit<, lit≤, inl}
use lib.Signed.{le_z_yes}
use Rattle.std.specs.Prelude.{codes}
use Rattle.p21_spec_basics.specs.Digits.{IsDigit}
use Rattle.p21_spec_exchange.specs.Laying.{Lexeme}
use Rattle.p21_spec_exchange.specs.Name.{SpellsName}
use Rattle.p21_spec_exchange.specs.Number.{none, no_exponent, Decimal, RealForm, SpellsReal, real_ratio}
use Rattle.p21_spec_exchange.specs.OpenNesting.{open_depth}
use Rattle.p21_spec_exchange.specs.Pending.{LaidUpTo, IsPending, Tail, nothing, slash, open_comment, unfinished, IsUnfinished, IsKnownWhole, IsTokenByte}
use Rattle.p21_spec_exchange.specs.Separator.{blank, IsSeparatorText}
use Rattle.p21_spec_exchange.specs.Text.{SpellsText}
use Rattle.p21_spec_exchange.specs.Token.{Token, name, equals, keyword, left, right, dollar, comma, real, text, MayFollow, Spells, IsFollowed}
use Rattle.p21_spec_exchange.proofs.CanonicalLaying.{no_dash_left}
use Rattle.p21_spec_exchange.proofs.Exponents.{in_range_by}
use Rattle.p21_spec_exchange.proofs.FirstBytes.{apostrophe_first}
use Rattle.p21_spec_basics.proofs.Members.{head_is, tail_is}
use Rattle.p21_spec_exchange.proofs.Laying.{keyword_by, left_ends_words}
use Rattle.p21_spec_exchange.proofs.TokenExamples.{spells_nothing}
use Rattle.p21_spec_exchange.proofs.Names.{name_spells}

-- behind `#1=CLOUD((#2),((` two lists are open; behind `#1=(SHAPE($)POINT((` one is
two_open : open_depth (name 1 ∷ equals ∷ keyword (codes "CLOUD") ∷ left ∷ left ∷ name 2 ∷ right ∷ comma ∷ left ∷ left ∷ []) ≡ 2
two_open = refl

one_open : open_depth (name 1 ∷ equals ∷ left ∷ keyword (codes "SHAPE") ∷ left ∷ dollar ∷ right ∷ keyword (codes "POINT") ∷ left ∷ left ∷ []) ≡ 1
one_open = refl

none_open : open_depth (name 1 ∷ equals ∷ left ∷ keyword (codes "SHAPE") ∷ left ∷ dollar ∷ right ∷ []) ≡ 0
none_open = refl

-- in the header too: behind `FILE_DESCRIPTION((`
header_open : open_depth (keyword (codes "FILE_DESCRIPTION") ∷ left ∷ left ∷ []) ≡ 1
header_open = refl

-- a token behind separator text
behind : (gap : List ℕ) (token : Token) (spelling rest : List ℕ) (lexemes : List Lexeme) (tail : Tail) → IsSeparatorText gap → Spells token spelling → IsFollowed token spelling rest → LaidUpTo rest lexemes tail
    → LaidUpTo (gap ++ (spelling ++ rest)) (record { token = token; size = length spelling } ∷ lexemes) tail
behind gap token spelling rest lexemes tail separates spells followed laid = (gap, spelling, rest, refl, separates, spells, refl, followed, laid)

abbrev space : IsSeparatorText (codes " ")
space = (blank 32 ∷ [], (inl (lit≤ tt), tt), refl)

abbrev no_space : IsSeparatorText []
no_space = ([], tt, refl)

abbrev one : Decimal
one = record { significand = pos 1; exponent = pos 0 }

abbrev one-form : RealForm (codes "1.0")
one-form =
    record {
      sign = none;
      whole = codes "1";
      fraction = codes "0";
      power = no_exponent;
      bytes_are = refl;
      some_digits = lit< tt;
      are_digits = ((lit≤ tt, lit≤ tt), tt);
      are_fraction_digits = ((lit≤ tt, lit≤ tt), tt);
      is_exponent = tt;
    }

one-spelled : SpellsReal (codes "1.0") one
one-spelled =
    record {
      form = one-form;
      is_short = tt;
      in_range = in_range_by (real_ratio one-form) (pos 0) (lit< tt) (record { low = lit≤ tt; high = lit< tt }) (le_z_yes tt, le_z_yes tt);
      is_reduced = λ e. cc;
      same = refl;
    }

pub two-spelled : SpellsName (codes "#2") 2
two-spelled = name_spells 2 (lit< tt)

space_ends_digits : IsDigit 32 → ⊥
space_ends_digits digit = omega (arith, digit)

slash_ends_digits : IsDigit 47 → ⊥
slash_ends_digits digit = omega (arith, digit)

-- of `#2 = POINT($, 1.0` fourteen token bytes are pending: spaces do not count, and the real may go on
abbrev lexemes : List Lexeme
lexemes =
    record { token = name 2; size = 2 }
    ∷ record { token = equals; size = 1 }
    ∷ record { token = keyword (codes "POINT"); size = 5 }
    ∷ record { token = left; size = 1 }
    ∷ record { token = dollar; size = 1 }
    ∷ record { token = comma; size = 1 }
    ∷ record { token = real one; size = 3 }
    ∷ []

laid : LaidUpTo (codes "#2 = POINT($, 1.0") lexemes nothing
laid =
    behind [] (name 2) (codes "#2") (codes " = POINT($, 1.0") (drop 1 lexemes) nothing no_space two-spelled space_ends_digits
    (behind (codes " ") equals (codes "=") (codes " POINT($, 1.0") (drop 2 lexemes) nothing space refl tt
    (behind (codes " ") (keyword (codes "POINT")) (codes "POINT") (codes "($, 1.0") (drop 3 lexemes) nothing space (refl, keyword_by (codes "POINT") tt) (left_ends_words, no_dash_left)
    (behind [] left (codes "(") (codes "$, 1.0") (drop 4 lexemes) nothing no_space refl tt
    (behind [] dollar (codes "$") (codes ", 1.0") (drop 5 lexemes) nothing no_space refl tt
    (behind [] comma (codes ",") (codes " 1.0") (drop 6 lexemes) nothing no_space refl tt
    (behind (codes " ") (real one) (codes "1.0") [] [] nothing space one-spelled tt ([], refl, no_space, tt)))))))

pending : IsPending (codes "#2 = POINT($, 1.0") 14
pending = record { lexemes = lexemes; tail = nothing; laid = laid; pending_is = refl }

-- behind `1.` no `E` may stand, since the real has no exponent
no_exponent_behind : MayFollow (real one) (codes "1.") 69 → ⊥
no_exponent_behind h =
    h.1 (record { sign = none; whole = codes "1"; fraction = []; power = no_exponent; bytes_are = refl; some_digits = lit< tt; are_digits = ((lit≤ tt, lit≤ tt), tt); are_fraction_digits = tt; is_exponent = tt }, refl) refl

-- a lone `/` does not count, nor does a comment that does not end yet
abbrev name_lexeme : Lexeme
name_lexeme = record { token = name 2; size = 2 }

slash_pending : IsPending (codes "#2/") 2
slash_pending = record {
  lexemes = name_lexeme ∷ [];
  tail = slash;
  laid = behind [] (name 2) (codes "#2") (codes "/") [] slash no_space two-spelled slash_ends_digits ([], refl, no_space, tt);
  pending_is = refl;
}

comment_pending : IsPending (codes "#2/*a") 2
comment_pending = record {
  lexemes = name_lexeme ∷ [];
  tail = open_comment (codes "a");
  laid = behind [] (name 2) (codes "#2") (codes "/*a") [] (open_comment (codes "a")) no_space two-spelled slash_ends_digits ([], refl, no_space, no_end);
  pending_is = refl;
}
  where
    no_end : (before after : List ℕ) → codes "a" ≡ before ++ (42 ∷ 47 ∷ after) → ⊥
    no_end [] after same = let star : 97 ≡ 42 = head_is 97 42 [] (47 ∷ after) same in omega (arith, star)
    no_end (byte ∷ []) after same = let more : [] ≡ 42 ∷ 47 ∷ after = tail_is 97 byte [] (42 ∷ 47 ∷ after) same in cc
    no_end (byte ∷ next ∷ before) after same = let more : [] ≡ next ∷ (before ++ (42 ∷ 47 ∷ after)) = tail_is 97 byte [] _ same in cc

-- the bytes of a string that does not end count, those that it ignores too: `'` and two LF
abbrev open_text : List ℕ
open_text = 39 ∷ 10 ∷ 10 ∷ []

no_text : (chars : List ℕ) (spelling rest : List ℕ) → open_text ≡ spelling ++ rest → SpellsText spelling chars → ⊥
no_text chars spelling rest same spells = by spells.inside (tail_is 39 39 _ _ (same ∙ ap (λ (xs : List ℕ). xs ++ rest) spells.bytes_are))
  where
    by : (inside : List ℕ) → 10 ∷ 10 ∷ [] ≡ (inside ++ (39 ∷ [])) ++ rest → ⊥
    by [] is = let quote : 10 ≡ 39 = head_is 10 39 _ _ is in omega (arith, quote)
    by (a ∷ []) is = let quote : 10 ≡ 39 = head_is 10 39 _ _ (tail_is 10 a _ _ is) in omega (arith, quote)
    by (a ∷ b ∷ []) is = let more : [] ≡ 39 ∷ rest = tail_is 10 b _ _ (tail_is 10 a _ _ is) in cc
    by (a ∷ b ∷ c ∷ inside) is = let more : [] ≡ c ∷ ((inside ++ (39 ∷ [])) ++ rest) = tail_is 10 b _ _ (tail_is 10 a _ _ is) in cc

open_text-unfinished : IsUnfinished open_text
open_text-unfinished = record { first = (lit< tt, λ e. omega (arith, e), λ e. omega (arith, e)); not_whole = not_whole }
  where
    quote_first : (spelling rest : List ℕ) → open_text ≡ spelling ++ rest → get_or spelling 0 39 ≡ 39
    quote_first [] rest same = refl
    quote_first (byte ∷ bytes) rest same = sym (head_is 39 byte _ _ same)

    not_whole : (token : Token) (spelling rest : List ℕ) → open_text ≡ spelling ++ rest → Spells token spelling → IsKnownWhole token spelling rest → ⊥
    not_whole (text chars) spelling rest same spells known = no_text chars spelling rest same spells
    not_whole other spelling rest same spells known = apostrophe_first other spelling spells (quote_first spelling rest same)

text_pending : IsPending open_text 3
text_pending = record { lexemes = []; tail = unfinished open_text; laid = ([], refl, no_space, open_text-unfinished); pending_is = refl }

-- a byte that no token has counts between tokens and within one, a separator only within one, and neither behind a lone `/`
percent_counts : IsTokenByte nothing 37
percent_counts = (lit< tt, λ e. omega (arith, e), λ e. omega (arith, e))

space_counts_within : IsTokenByte (unfinished open_text) 32
space_counts_within (text chars) spells follows = absurd (no_text chars open_text [] refl spells)
space_counts_within other spells follows = absurd (apostrophe_first other open_text spells refl)

-- it breaks `1.E`
space_counts_in_real : IsTokenByte (unfinished (codes "1.E")) 32
space_counts_in_real token spells follows = absurd (spells_nothing token spells)

-- behind a token that may go on, `#2`, a comma counts and a space does not
comma_counts_behind : IsTokenByte (unfinished (codes "#2")) 44
comma_counts_behind token spells follows = (lit< tt, λ e. omega (arith, e), λ e. omega (arith, e))

space_behind : IsTokenByte (unfinished (codes "#2")) 32 → ⊥
space_behind counts = let no_separator = counts (name 2) two-spelled space_ends_digits in omega (arith, no_separator.0)

space_between : IsTokenByte nothing 32 → ⊥
space_between counts = omega (arith, counts.0)

percent_behind_slash : IsTokenByte slash 37 → ⊥
percent_behind_slash counts = counts
