-- Tokens in their canonical spellings are laid: those of a parameter, of a statement, and of the lines of statements.
use Rattle.std.proofs.Common.{◌≡◌, ◌∙◌, ◌≢◌, ℕ, ◌+◌, ◌<◌, ◌≤◌, ◌⊎◌, inl, inr, List, [], ◌∷◌, ◌++◌, length, map, refl, ap, sym, subst, arith, lit≤, append_assoc, append-nil, length-append}
use Rattle.std.proofs.lemmas.List.{map-append}
use Rattle.std.specs.List.{flat_map, AllByRecursion as Each}
use Rattle.p21_spec_basics.proofs.Members.{Each-front, Each-back, Each-joined}
use Rattle.p21_spec_laws.specs.Written.{IsWritten, IsWrittenStatement}
use Rattle.p21_spec_exchange.specs.Token.{IsSpelled, Token, begin, finish, keyword, user_keyword, name, whole, real, text, item, bits, left, right, comma, semicolon, equals, dollar, star, MayFollow, IsFollowed, IsWholeAtOnce}
use Rattle.p21_spec_exchange.proofs.CanonicalSpellings.{spells-itself}
use Rattle.p21_spec_exchange.proofs.Laying.{lay}
use Rattle.p21_spec_exchange.proofs.Semicolons.{unended, statement-ends, unended-no_semicolon}
use Rattle.p21_spec_exchange.specs.CanonicalText.{tokens_text, param_text, statement_text, line}
use Rattle.p21_spec_exchange.specs.DataSection.{unnamed, named, data_part}
use Rattle.p21_spec_basics.specs.Digits.{IsDigit}
use Rattle.p21_spec_exchange.specs.Keyword.{IsKeywordByte}
use Rattle.p21_spec_exchange.specs.Laying.{Lexeme, Laid, LaidAs, tokens_in, count_behind, AreStatementsWithin}
use Rattle.p21_spec_exchange.specs.OpenNesting.{IsNoSemicolon}
use Rattle.p21_spec_exchange.specs.Parameter.{Param, list, typed, Params, no_params, param, param_tokens, params_tokens, more_tokens}
use Rattle.p21_spec_exchange.specs.Record.{Part, Record, simple, complex, part_tokens, record_tokens}
use Rattle.p21_spec_exchange.specs.Separator.{blank}
use Rattle.p21_spec_exchange.specs.Spelling.{spelling}
use Rattle.p21_spec_exchange.specs.Statement.{Statement, begin as file_begin, finish as file_finish, header_start, section_end, data_start, section, header, instance, statement_tokens}

-- tokens that are laid have spellings
pub laid-spelled : (bytes : List ℕ) (lexemes : List Lexeme) → LaidAs bytes lexemes → Each IsSpelled (tokens_in lexemes)
laid-spelled bytes [] laid = tt
laid-spelled bytes (lexeme ∷ lexemes) laid = ((laid.1, laid.5), laid-spelled laid.2 lexemes laid.8)

pub laid-each_spelled : (bytes : List ℕ) (tokens : List Token) → Laid bytes tokens → Each IsSpelled tokens
laid-each_spelled bytes tokens laid = subst (Each IsSpelled) laid.tokens_are (laid-spelled bytes laid.lexemes laid.laid)

-- ---- what stands behind a token of a statement

-- an LF, ( ) * + , and ; < = > ? @
abbrev IsDelimiter : ℕ → Type 0
IsDelimiter byte = (byte ≡ 10) ⊎ (((39 < byte) × (byte < 45)) ⊎ ((58 < byte) × (byte < 65)))

no_keyword_byte : (byte : ℕ) → IsDelimiter byte → IsKeywordByte byte → ⊥
no_keyword_byte byte d (inl (inl h)) = omega (arith, d, h)
no_keyword_byte byte d (inl (inr h)) = omega (arith, d, h)
no_keyword_byte byte d (inr h) = omega (arith, d, h)

no_digit : (byte : ℕ) → IsDelimiter byte → IsDigit byte → ⊥
no_digit byte d h = no_keyword_byte byte d (inr h)

is_other : (byte other : ℕ) → IsDelimiter byte → (other ≡ 39) ⊎ ((other ≡ 45) ⊎ ((other ≡ 46) ⊎ (other ≡ 69))) → byte ≢ other
is_other byte other d h e = omega (arith, d, h, e)

-- each token may stand before a delimiter
delimiter-follows : (token : Token) (bytes : List ℕ) (byte : ℕ) → IsDelimiter byte → MayFollow token bytes byte
delimiter-follows begin bytes byte d = no_keyword_byte byte d
delimiter-follows finish bytes byte d = no_keyword_byte byte d
delimiter-follows (keyword word) bytes byte d = (no_keyword_byte byte d, is_other byte 45 d (inr (inl refl)))
delimiter-follows (user_keyword word) bytes byte d = (no_keyword_byte byte d, is_other byte 45 d (inr (inl refl)))
delimiter-follows (name n) bytes byte d = no_digit byte d
delimiter-follows (whole z) bytes byte d = (no_digit byte d, is_other byte 46 d (inr (inr (inl refl))))
delimiter-follows (real z) bytes byte d = (no_digit byte d, λ form. is_other byte 69 d (inr (inr (inr refl))))
delimiter-follows (text chars) bytes byte d = is_other byte 39 d (inl refl)
delimiter-follows (item word) bytes byte d = tt
delimiter-follows (bits value) bytes byte d = tt
delimiter-follows left bytes byte d = tt
delimiter-follows right bytes byte d = tt
delimiter-follows comma bytes byte d = tt
delimiter-follows semicolon bytes byte d = tt
delimiter-follows equals bytes byte d = tt
delimiter-follows dollar bytes byte d = tt
delimiter-follows star bytes byte d = tt

may-follow_at_once : (token : Token) (bytes : List ℕ) (byte : ℕ) → IsWholeAtOnce token → MayFollow token bytes byte
may-follow_at_once (item word) bytes byte h = tt
may-follow_at_once (bits value) bytes byte h = tt
may-follow_at_once left bytes byte h = tt
may-follow_at_once right bytes byte h = tt
may-follow_at_once comma bytes byte h = tt
may-follow_at_once semicolon bytes byte h = tt
may-follow_at_once equals bytes byte h = tt
may-follow_at_once dollar bytes byte h = tt
may-follow_at_once star bytes byte h = tt
may-follow_at_once other bytes byte h = absurd h

followed_at_once : (token : Token) (bytes rest : List ℕ) → IsWholeAtOnce token → IsFollowed token bytes rest
followed_at_once token bytes [] h = tt
followed_at_once token bytes (byte ∷ rest) h = may-follow_at_once token bytes byte h

-- nothing, or an LF
abbrev pub IsLineEnd : List ℕ → Type 0
IsLineEnd [] = Unit {0}
IsLineEnd (byte ∷ bytes) = byte ≡ 10

-- the next token is a parenthesis, a comma, a semicolon or `=`, or there is none
abbrev pub Ends : List Token → Type 0
Ends [] = Unit {0}
Ends (left ∷ tokens) = Unit {0}
Ends (right ∷ tokens) = Unit {0}
Ends (comma ∷ tokens) = Unit {0}
Ends (semicolon ∷ tokens) = Unit {0}
Ends (equals ∷ tokens) = Unit {0}
Ends other = ⊥

followed_by_line_end : (token : Token) (bytes rest : List ℕ) → IsLineEnd rest → IsFollowed token bytes rest
followed_by_line_end token bytes [] h = tt
followed_by_line_end token bytes (byte ∷ rest) h = delimiter-follows token bytes byte (inl h)

followed_by_end : (token : Token) (bytes : List ℕ) (tokens : List Token) (rest : List ℕ) → IsLineEnd rest → Ends tokens → IsFollowed token bytes (tokens_text tokens ++ rest)
followed_by_end token bytes [] rest end h = followed_by_line_end token bytes rest end
followed_by_end token bytes (left ∷ tokens) rest end h = delimiter-follows token bytes 40 (inr (inl (lit≤ tt, lit≤ tt)))
followed_by_end token bytes (right ∷ tokens) rest end h = delimiter-follows token bytes 41 (inr (inl (lit≤ tt, lit≤ tt)))
followed_by_end token bytes (comma ∷ tokens) rest end h = delimiter-follows token bytes 44 (inr (inl (lit≤ tt, lit≤ tt)))
followed_by_end token bytes (semicolon ∷ tokens) rest end h = delimiter-follows token bytes 59 (inr (inr (lit≤ tt, lit≤ tt)))
followed_by_end token bytes (equals ∷ tokens) rest end h = delimiter-follows token bytes 61 (inr (inr (lit≤ tt, lit≤ tt)))
followed_by_end token bytes other rest end h = absurd h

-- each token is whole by its last byte, or one of these stands behind it
abbrev pub AreApart : List Token → Type 0
AreApart [] = Unit {0}
AreApart (token ∷ tokens) = (IsWholeAtOnce token ⊎ Ends tokens) × AreApart tokens

enclosed : (tokens rest : List Token) → AreApart (tokens ++ right ∷ rest) → AreApart ((tokens ++ (right ∷ [])) ++ rest)
enclosed tokens rest apart = subst AreApart (sym (append_assoc tokens (right ∷ []) rest)) apart

mutual
  pub param-apart : (p : Param) (rest : List Token) → Ends rest → AreApart rest → AreApart (param_tokens p ++ rest)
  param-apart (list ps) rest ends apart = (inl tt, enclosed (params_tokens ps) rest (params-apart ps (right ∷ rest) tt (inl tt, apart)))
  param-apart (typed key p) rest ends apart = (inr tt, (inl tt, enclosed (param_tokens p) rest (param-apart p (right ∷ rest) tt (inl tt, apart))))
  param-apart other rest ends apart = (inr ends, apart)

  params-apart : (ps : Params) (rest : List Token) → Ends rest → AreApart rest → AreApart (params_tokens ps ++ rest)
  params-apart no_params rest ends apart = apart
  params-apart (param p ps) rest ends apart =
      subst AreApart (sym (append_assoc (param_tokens p) (more_tokens ps) rest)) (param-apart p (more_tokens ps ++ rest) (more-ends ps rest ends) (more-apart ps rest ends apart))

  more-apart : (ps : Params) (rest : List Token) → Ends rest → AreApart rest → AreApart (more_tokens ps ++ rest)
  more-apart no_params rest ends apart = apart
  more-apart (param p ps) rest ends apart =
      (inl tt, subst AreApart (sym (append_assoc (param_tokens p) (more_tokens ps) rest)) (param-apart p (more_tokens ps ++ rest) (more-ends ps rest ends) (more-apart ps rest ends apart)))

  more-ends : (ps : Params) (rest : List Token) → Ends rest → Ends (more_tokens ps ++ rest)
  more-ends no_params rest ends = ends
  more-ends (param p ps) rest ends = tt

part-apart : (part : Part) (rest : List Token) → AreApart rest → AreApart (part_tokens part ++ rest)
part-apart part rest apart = (inr tt, (inl tt, enclosed (params_tokens part.params) rest (params-apart part.params (right ∷ rest) tt (inl tt, apart))))

parts-apart : (parts : List Part) (rest : List Token) → AreApart rest → AreApart (flat_map part_tokens parts ++ rest)
parts-apart [] rest apart = apart
parts-apart (part ∷ parts) rest apart = subst AreApart (sym (append_assoc (part_tokens part) (flat_map part_tokens parts) rest)) (part-apart part (flat_map part_tokens parts ++ rest) (parts-apart parts rest apart))

record-apart : (r : Record) (rest : List Token) → AreApart rest → AreApart (record_tokens r ++ rest)
record-apart (simple part) rest apart = part-apart part rest apart
record-apart (complex parts) rest apart = (inl tt, enclosed (flat_map part_tokens parts) rest (parts-apart parts (right ∷ rest) (inl tt, apart)))

pub statement-apart : (st : Statement) → AreApart (statement_tokens st)
statement-apart (section file_begin) = (inr tt, (inl tt, tt))
statement-apart (section header_start) = (inr tt, (inl tt, tt))
statement-apart (section section_end) = (inr tt, (inl tt, tt))
statement-apart (section (data_start unnamed)) = (inr tt, (inl tt, tt))
statement-apart (section (data_start (named chars schema))) = part-apart (data_part chars schema) (semicolon ∷ []) (inl tt, tt)
statement-apart (section file_finish) = (inr tt, (inl tt, tt))
statement-apart (header part) = part-apart part (semicolon ∷ []) (inl tt, tt)
statement-apart (instance n r) = (inr tt, (inl tt, record-apart r (semicolon ∷ []) (inl tt, tt)))

-- ---- the laying of canonical spellings

-- a token with the size of its canonical spelling
abbrev pub canonical_lexeme : Token → Lexeme
canonical_lexeme token = record { token = token; size = length (spelling token) }

abbrev pub canonical_lexemes : List Token → List Lexeme
canonical_lexemes tokens = map canonical_lexeme tokens

-- behind them a line ends
pub tokens_laid : (tokens : List Token) (rest : List ℕ) (lexemes : List Lexeme) → IsLineEnd rest → Each IsSpelled tokens → AreApart tokens → LaidAs rest lexemes → LaidAs (tokens_text tokens ++ rest) (canonical_lexemes tokens ++ lexemes)
tokens_laid [] rest lexemes end spelled apart laid = laid
tokens_laid (token ∷ tokens) rest lexemes end spelled apart laid =
    subst (λ (x : List ℕ). LaidAs x (canonical_lexeme token ∷ (canonical_lexemes tokens ++ lexemes))) (sym (append_assoc (spelling token) (tokens_text tokens) rest))
    (lay token (spelling token) (tokens_text tokens ++ rest) (canonical_lexemes tokens ++ lexemes) (spells-itself token spelled.0.0 spelled.0.1) followed (tokens_laid tokens rest lexemes end spelled.1 apart.1 laid))
  where
    followed : IsFollowed token (spelling token) (tokens_text tokens ++ rest)
    followed = elim apart.0 [
      | inl h ↦ followed_at_once token (spelling token) (tokens_text tokens ++ rest) h
      | inr h ↦ followed_by_end token (spelling token) tokens rest end h
    ]

tokens-of_lexemes : (tokens : List Token) → tokens_in (canonical_lexemes tokens) ≡ tokens
tokens-of_lexemes [] = refl
tokens-of_lexemes (token ∷ tokens) = ap (λ (ts : List Token). token ∷ ts) (tokens-of_lexemes tokens)

-- tokens that have spellings and are apart are laid in their text
pub text_laid : (tokens : List Token) → Each IsSpelled tokens → AreApart tokens → Laid (tokens_text tokens) tokens
text_laid tokens spelled apart = record {
  lexemes = canonical_lexemes tokens;
  tokens_are = tokens-of_lexemes tokens;
  laid = (
      let laid : LaidAs (tokens_text tokens ++ []) (canonical_lexemes tokens ++ []) = tokens_laid tokens [] [] tt spelled apart ([], tt, refl) in
      let P : List ℕ → Type 0 = λ bytes. LaidAs bytes (canonical_lexemes tokens) in
      let Q : List Lexeme → Type 0 = λ lexemes. LaidAs (tokens_text tokens ++ []) lexemes in
      subst P (append-nil (tokens_text tokens)) (subst Q (append-nil (canonical_lexemes tokens)) laid)
      );
}

-- and so is a parameter
pub param_laid : (p : Param) → IsWritten p → Laid (param_text p) (param_tokens p)
param_laid p written = text_laid (param_tokens p) written (subst AreApart (append-nil (param_tokens p)) (param-apart p [] tt tt))

-- and a statement
pub statement_laid : (st : Statement) → Each IsSpelled (statement_tokens st) → Laid (statement_text st) (statement_tokens st)
statement_laid st spelled = text_laid (statement_tokens st) spelled (statement-apart st)

-- an LF in front changes no lexeme
pub line_laid : (bytes : List ℕ) (lexemes : List Lexeme) → LaidAs bytes lexemes → LaidAs (10 ∷ bytes) lexemes
line_laid bytes [] laid = (blank 10 ∷ laid.0, (inl (lit≤ tt), laid.1), ap (λ (x : List ℕ). 10 ∷ x) laid.2)
line_laid bytes (lexeme ∷ lexemes) laid =
    (10 ∷ laid.0, laid.1, laid.2, ap (λ (x : List ℕ). 10 ∷ x) laid.3, (blank 10 ∷ laid.4.0, (inl (lit≤ tt), laid.4.1), ap (λ (x : List ℕ). 10 ∷ x) laid.4.2), laid.5, laid.6, laid.7, laid.8)

-- the lexemes of a statement, and of statements
abbrev pub statement_lexemes : Statement → List Lexeme
statement_lexemes st = canonical_lexemes (statement_tokens st)

-- the lines of statements whose tokens have spellings are laid
pub lines_laid : (sts : List Statement) → Each IsSpelled (flat_map statement_tokens sts) → LaidAs (flat_map line sts) (flat_map statement_lexemes sts)
lines_laid [] spelled = ([], tt, refl)
lines_laid (st ∷ sts) spelled =
    subst (λ (x : List ℕ). LaidAs x (statement_lexemes st ++ flat_map statement_lexemes sts)) (sym (append_assoc (statement_text st) (10 ∷ []) (flat_map line sts)))
    (tokens_laid (statement_tokens st) (10 ∷ flat_map line sts) (flat_map statement_lexemes sts) refl (Each-front IsSpelled (statement_tokens st) (flat_map statement_tokens sts) spelled) (statement-apart st)
    (line_laid (flat_map line sts) (flat_map statement_lexemes sts) (lines_laid sts (Each-back IsSpelled (statement_tokens st) (flat_map statement_tokens sts) spelled))))

lines-tokens : (sts : List Statement) → tokens_in (flat_map statement_lexemes sts) ≡ flat_map statement_tokens sts
lines-tokens [] = refl
lines-tokens (st ∷ sts) =
    map-append (λ (lexeme : Lexeme). lexeme.token) (statement_lexemes st) (flat_map statement_lexemes sts)
    ∙ ap (λ (ts : List Token). ts ++ tokens_in (flat_map statement_lexemes sts)) (tokens-of_lexemes (statement_tokens st)) ∙ ap (λ (ts : List Token). statement_tokens st ++ ts) (lines-tokens sts)

-- so their tokens are laid in them
pub statements_laid : (sts : List Statement) → Each IsWrittenStatement sts → Laid (flat_map line sts) (flat_map statement_tokens sts)
statements_laid sts written = record { lexemes = flat_map statement_lexemes sts; tokens_are = lines-tokens sts; laid = lines_laid sts (Each-joined IsSpelled statement_tokens sts written) }

-- ---- their sizes

behind : (token : Token) (size count : ℕ) → IsNoSemicolon token → count_behind count (record { token = token; size = size }) ≡ count + size
behind semicolon size count none = absurd (none refl)
behind other size count none = refl

-- tokens with no `;`, and the `;` behind them
tokens_within : (most count : ℕ) (tokens : List Token) (lexemes : List Lexeme) → Each IsNoSemicolon tokens → count + length (tokens_text (tokens ++ semicolon ∷ [])) ≤ most → AreStatementsWithin most 0 lexemes
    → AreStatementsWithin most count (canonical_lexemes (tokens ++ semicolon ∷ []) ++ lexemes)
tokens_within most count [] lexemes none short within = (short, within)
tokens_within most count (token ∷ tokens) lexemes none short within =
    let size = length (spelling token) in
    let long : length (spelling token ++ tokens_text (tokens ++ semicolon ∷ [])) ≡ size + length (tokens_text (tokens ++ semicolon ∷ [])) = length-append (spelling token) (tokens_text (tokens ++ semicolon ∷ [])) in (
      omega (arith, long, short),
      subst (λ (x : ℕ). AreStatementsWithin most x (canonical_lexemes (tokens ++ semicolon ∷ []) ++ lexemes)) (sym (behind token size count none.0))
          (tokens_within most (count + size) tokens lexemes none.1 (omega (arith, long, short)) within),
    )

-- the token bytes of a canonical line are the length of its text
pub statement_within : (most : ℕ) (st : Statement) (lexemes : List Lexeme) → length (statement_text st) ≤ most → AreStatementsWithin most 0 lexemes → AreStatementsWithin most 0 (statement_lexemes st ++ lexemes)
statement_within most st lexemes short within =
    subst (λ (x : List Token). AreStatementsWithin most 0 (canonical_lexemes x ++ lexemes)) (sym (statement-ends st))
    (let whole : length (tokens_text (unended st ++ semicolon ∷ [])) ≤ most = subst (λ (x : List Token). length (tokens_text x) ≤ most) (statement-ends st) short in
    tokens_within most 0 (unended st) lexemes (unended-no_semicolon st) (omega (arith, whole)) within)

pub statements_within : (most : ℕ) (sts : List Statement) → Each (λ (st : Statement). length (statement_text st) ≤ most) sts → AreStatementsWithin most 0 (flat_map statement_lexemes sts)
statements_within most [] short = tt
statements_within most (st ∷ sts) short = statement_within most st (flat_map statement_lexemes sts) short.0 (statements_within most sts short.1)
