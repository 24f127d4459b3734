-- The end of the bytes, by the histories that are stood for.
use Rattle.std.proofs.Common.{◌≡◌, ◌≢◌, ◌+◌, ℕ, List, [], ◌∷◌, ◌++◌, length, Some, None, Ok, Err, inl, inr, refl, sym, ap, subst, ◌∙◌, length-append, arith}
use Rattle.std.proofs.lemmas.List.{append-nil}
use Rattle.p21_spec_exchange.proofs.Semicolons.{statements-end}
use Rattle.p21_spec_exchange.specs.Laying.{Laid, LaidAs, Lexeme, tokens_in}
use Rattle.p21_spec_exchange.specs.OpenNesting.{EndsWithSemicolon}
use Rattle.p21_spec_exchange.specs.Statement.{Statement}
use Rattle.p21_spec_exchange.specs.Structure.{statements}
use Rattle.p21_spec_exchange.specs.Token.{Spells, Token, semicolon}
use Rattle.p21_spec_syntax.proofs.NoFiles.{no-tree, unlaid-none}
use Rattle.p21_spec_syntax.specs.FileWithin.{IsNoFile}
use Rattle.p21_grammar.specs.Histories as grammar
use Rattle.p21_grammar.specs.declared.fault.GrammarFault.{GrammarFault}
use Rattle.p21_stream_statements.specs.Fault.{fault_of_grammar, fault_of_token}
use Rattle.p21_stream_statements.specs.declared.fault.Fault.{Fault}
use Rattle.p21_stream_statements.specs.declared.fault.Fault.TheVariants.{NoMemory}
use Rattle.p21_stream_statements.specs.StatementReader.{Held, IsLive, AreWholeStatements, StatementHistory}
use Rattle.p21_tokens.specs.Histories as tokens
use Rattle.p21_tokens.specs.Histories.{TokenHistory, AreGivenAtOnce}
use Rattle.p21_tokens.specs.Token.{meant}
use Rattle.p21_tokens.specs.declared.fault.TokenFault.{TokenFault}
use Rattle.p21_tokens.specs.declared.fault.TokenFault.TheVariants as token_fault
use Rattle.p21_tokens.specs.declared.token.Token.{Token as TokenRead}

-- what the end owes that refuses
abbrev pub OwesEnd : Held → Fault → Type 0
OwesEnd held fault = fault ≢ NoMemory → (reading : StatementHistory) → IsLive held reading → reading.seen ≡ None → IsNoFile reading.taken

seen-none : (held : Held) (reading : StatementHistory) (live : IsLive held reading) → reading.seen ≡ None → live.history.seen ≡ None
seen-none held reading live none = live.seen_is ∙ none

-- ---- a refusal of the lexer

unlaid : (held : Held) (fault : TokenFault) (history : TokenHistory) → fault ≢ token_fault.NoMemory
    → tokens.FinishGives held.lexer (Err fault) → tokens.Stands held.lexer history → history.seen ≡ None → history.refusal ≡ None
    → (found : List Token) → Laid history.taken found → ⊥
unlaid held token_fault.NoMemory history other gives stands seen open_ = absurd (other refl)
unlaid held token_fault.BadByte history other gives stands seen open_ = (gives history stands seen open_).1
unlaid held token_fault.OpenString history other gives stands seen open_ = (gives history stands seen open_).1
unlaid held token_fault.OpenComment history other gives stands seen open_ = (gives history stands seen open_).1
unlaid held token_fault.BadDirective history other gives stands seen open_ = (gives history stands seen open_).1
unlaid held token_fault.BadCodePoint history other gives stands seen open_ = (gives history stands seen open_).1
unlaid held token_fault.NotUtf8 history other gives stands seen open_ = (gives history stands seen open_).1
unlaid held token_fault.BadNumber history other gives stands seen open_ = (gives history stands seen open_).1
unlaid held token_fault.NumberRange history other gives stands seen open_ = (gives history stands seen open_).1
unlaid held token_fault.BadBinary history other gives stands seen open_ = (gives history stands seen open_).1
unlaid held token_fault.NameRange history other gives stands seen open_ = (gives history stands seen open_).1
unlaid held token_fault.BadName history other gives stands seen open_ = (gives history stands seen open_).1
unlaid held token_fault.NotOneParameter history other gives stands seen open_ = (gives history stands seen open_).1
unlaid held token_fault.RecordTooLong history other gives stands seen open_ = (gives history stands seen open_).1
unlaid held token_fault.FileTooLong history other gives stands seen open_ = (gives history stands seen open_).1
unlaid held token_fault.EndsEarly history other gives stands seen open_ = (gives history stands seen open_).1
unlaid held (token_fault.LeftOut absent) history other gives stands seen open_ = (gives history stands seen open_).1

pub lexer-refused : (held : Held) (fault : TokenFault) → tokens.FinishGives held.lexer (Err fault) → OwesEnd held (fault_of_token fault)
lexer-refused held fault gives other reading live seen =
    unlaid-none reading.taken (λ found laid.
    unlaid held fault live.history (λ is. other (ap fault_of_token is)) gives live.lexer (seen-none held reading live seen) live.lexer_open
    found (subst (λ (l : List ℕ). Laid l found) (sym live.taken_are) laid))

-- ---- no last token

pub laid-whole : (held : Held) → tokens.FinishGives held.lexer (Ok None) → (reading : StatementHistory) (live : IsLive held reading)
    → reading.seen ≡ None → Laid reading.taken live.parsing.taken
laid-whole held gives reading live seen =
    let laid = (gives live.history live.lexer (seen-none held reading live seen)).1 in
    subst (λ (l : List ℕ). Laid l live.parsing.taken) live.taken_are
    (subst (λ (ts : List Token). Laid live.history.taken ts) (append-nil live.history.given ∙ sym live.tokens_are) laid)

pub parser-refused : (held : Held) (fault : GrammarFault) → tokens.FinishGives held.lexer (Ok None)
    → grammar.FinishGives held.parser (Err fault) → OwesEnd held (fault_of_grammar fault)
parser-refused held fault gives ends other reading live seen =
    let none = (ends live.parsing live.parser live.parser_open).1 in
    no-tree reading.taken live.parsing.taken (laid-whole held gives reading live seen)
    (λ structure text is same. none structure text is same)

pub whole : (held : Held) → tokens.FinishGives held.lexer (Ok None) → grammar.FinishGives held.parser (Ok tt) → (reading : StatementHistory)
    → IsLive held reading → reading.seen ≡ None → AreWholeStatements reading.taken reading.given
whole held gives ends reading live seen = record {
  found = live.parsing.taken;
  laid = laid-whole held gives reading live seen;
  whole = subst (λ (g : List Statement). grammar.IsWholeFile live.parsing.taken g) live.given_are (ends live.parsing live.parser).1;
}

-- ---- a last token, which is none that is whole at once

last-semicolon : (front : List Token) (last : Token) → EndsWithSemicolon (front ++ last ∷ []) → last ≡ semicolon
last-semicolon [] last ends = ends
last-semicolon (a ∷ []) last ends = ends
last-semicolon (a ∷ b ∷ front) last ends = last-semicolon (b ∷ front) last ends

none-laid : (lexemes : List Lexeme) (front : List Token) → tokens_in lexemes ≡ front ++ semicolon ∷ [] → LaidAs [] lexemes → ⊥
none-laid [] [] same laid = cc
none-laid [] (t ∷ front) same laid = cc
none-laid (lexeme ∷ lexemes) [] same (gap, spelling, rest, is, blank, spells, size, followed, laid) =
    let token : lexeme.token ≡ semicolon = cc in
    no-front gap spelling rest is (subst (λ (t : Token). Spells t spelling) token spells)
  where
    no-front : (gap spelling rest : List ℕ) → [] ≡ gap ++ (spelling ++ rest) → Spells semicolon spelling → ⊥
    no-front [] [] rest is spells = cc
    no-front [] (x ∷ spelling) rest is spells = cc
    no-front (x ∷ gap) spelling rest is spells = cc
none-laid (lexeme ∷ lexemes) (t ∷ front) same (gap, spelling, rest, is, blank, spells, size, followed, laid) =
    none-laid lexemes front (cc) (subst (λ (l : List ℕ). LaidAs l lexemes) (no-rest gap spelling rest is) laid)
  where
    no-rest : (gap spelling rest : List ℕ) → [] ≡ gap ++ (spelling ++ rest) → rest ≡ []
    no-rest [] [] rest is = sym is
    no-rest [] (x ∷ spelling) rest is = cc
    no-rest (x ∷ gap) spelling rest is = cc

at-once : (history : TokenHistory) → AreGivenAtOnce history → Laid history.taken (history.given ++ semicolon ∷ []) → ⊥
at-once history once laid =
    let (more, is) = once history.taken [] history.given semicolon (sym (append-nil history.taken)) laid tt in
    let sizes : length history.given ≡ length ((history.given ++ semicolon ∷ []) ++ more) = ap length is in
    let one : length ((history.given ++ semicolon ∷ []) ++ more) ≡ length (history.given ++ semicolon ∷ []) + length more =
    length-append (history.given ++ semicolon ∷ []) more in
    let two : length (history.given ++ semicolon ∷ []) ≡ length history.given + length (semicolon ∷ []) =
    length-append history.given (semicolon ∷ []) in
    omega (arith, sizes, one, two)

not-semicolon : (held : Held) (reading : StatementHistory) (live : IsLive held reading)
    → Laid live.history.taken (live.history.given ++ semicolon ∷ []) → ⊥
not-semicolon held reading live laid = elim live.answered [
  | inl none ↦ (let own : Laid [] ([] ++ semicolon ∷ []) =
      subst (λ (h : TokenHistory). Laid h.taken (h.given ++ semicolon ∷ [])) none laid in none-laid own.lexemes [] own.tokens_are own.laid)
  | inr answers ↦ at-once live.history answers.given_at_once laid
]

pub last-refused : (held : Held) (token : TokenRead) (fault : Fault) → tokens.FinishGives held.lexer (Ok (Some token)) → OwesEnd held fault
last-refused held token fault gives other reading live seen =
    let laid = (gives live.history live.lexer (seen-none held reading live seen)).1 in
    no-tree reading.taken (live.history.given ++ meant token ∷ [])
    (subst (λ (l : List ℕ). Laid l (live.history.given ++ meant token ∷ [])) live.taken_are laid) (λ structure text is same.
    let ends : EndsWithSemicolon (live.history.given ++ meant token ∷ []) =
    subst EndsWithSemicolon same (statements-end (statements structure)) in
    let last : meant token ≡ semicolon = last-semicolon live.history.given (meant token) ends in
    not-semicolon held reading live (subst (λ (t : Token). Laid live.history.taken (live.history.given ++ t ∷ [])) last laid))
