-- Statements that end in the bytes taken are checked.
use Rattle.std.proofs.Common.{◌≡◌, ℕ, List, [], ◌∷◌, ◌++◌, inl, inr, refl, sym, ap, subst, ◌∙◌}
use Rattle.std.specs.List.{flat_map, AllByRecursion as Each}
use Rattle.p21_spec_basics.proofs.Members.{Each-mapped, Each-member, Each-weaker}
use Rattle.p21_spec_basics.specs.Limits.{Limits}
use Rattle.p21_spec_laws.proofs.OneReading.{one_lexemes}
use Rattle.p21_spec_laws.specs.CompleteFile.{Entry, entries_in, written_in}
use Rattle.p21_spec_laws.specs.Taken.{BeginsWith}
use Rattle.p21_spec_laws.specs.UnrefusedStatements.{IsFitting, IsFound}
use Rattle.p21_spec_laws.specs.Keeping.{Kept}
use Rattle.p21_spec_exchange.specs.Laying.{Laid, Lexeme, tokens_in}
use Rattle.p21_spec_exchange.specs.OpenNesting.{IsNoSemicolon}
use Rattle.p21_spec_exchange.specs.Record.{Record}
use Rattle.p21_spec_exchange.specs.Statement.{header, statement_tokens}
use Rattle.p21_spec_exchange.specs.Token.{Token, semicolon}
use Rattle.p21_spec_schema.specs.Schema.{Schema}
use Rattle.p21_stream_statements.specs.StatementReader as statements
use Rattle.p21_stream_statements.specs.StatementReader.{StatementHistory}
use Rattle.p21_stream_statements.proofs.Within.{nothing-taken, tokens-given}
use Rattle.p21_stream.specs.Checked.{ChecksStatements, IsMeaningful}
use Rattle.p21_stream.specs.Session.{IsLive}

-- ---- tokens that end with a `;`

no-end : (tokens more : List Token) → [] ≡ (tokens ++ semicolon ∷ []) ++ more → ⊥
no-end [] more is = cc
no-end (t ∷ ts) more is = cc

-- they stand in front of an open statement
before-open : (ended opened tokens more : List Token) → Each IsNoSemicolon opened → ended ++ opened ≡ (tokens ++ semicolon ∷ []) ++ more
    → BeginsWith (tokens ++ semicolon ∷ []) ended
before-open [] [] [] more none is = cc
before-open [] (x ∷ xs) [] more none is = let same : x ≡ semicolon = cc in absurd (none.0 same)
before-open [] [] (t ∷ ts) more none is = cc
before-open [] (x ∷ xs) (t ∷ ts) more none is = let (rest, same) = before-open [] xs ts more none.1 cc in absurd (no-end ts rest same)
before-open (e ∷ es) opened [] more none is = let same : e ≡ semicolon = cc in (es, ap (λ (x : Token). x ∷ es) same)
before-open (e ∷ es) opened (t ∷ ts) more none is =
    let same : e ≡ t = cc in
    let (rest, is_rest) = before-open es opened ts more none cc in
    (rest, ap (λ (x : Token). x ∷ es) same ∙ ap (λ (l : List Token). t ∷ l) is_rest)

-- no such tokens are laid in no bytes
none-laid : (front rest : List ℕ) (tokens : List Token) → [] ≡ front ++ rest → Laid front (tokens ++ semicolon ∷ []) → ⊥
none-laid [] rest tokens is laid =
    let same : [] ≡ laid.lexemes = one_lexemes [] [] laid.lexemes ([], tt, refl) laid.laid in
    no-end tokens [] (subst (λ (ls : List Lexeme). tokens_in ls ≡ (tokens ++ semicolon ∷ []) ++ []) (sym same)
    (laid.tokens_are ∙ sym (nothing-more (tokens ++ semicolon ∷ []))))
  where
    nothing-more : (l : List Token) → l ++ [] ≡ l
    nothing-more [] = refl
    nothing-more (x ∷ xs) = ap (λ (ts : List Token). x ∷ ts) (nothing-more xs)
none-laid (x ∷ xs) rest tokens is laid = cc

-- where they are laid in a prefix of the bytes taken, they are the first of the statements given
tokens-ended : (held : statements.Held) (reading : StatementHistory) (live : statements.IsLive held reading) (front rest : List ℕ)
    (tokens : List Token) → reading.taken ≡ front ++ rest → Laid front (tokens ++ semicolon ∷ [])
    → BeginsWith (tokens ++ semicolon ∷ []) (flat_map statement_tokens reading.given)
tokens-ended held reading live front rest tokens is laid = elim live.answered [
  | inl none ↦ absurd (none-laid front rest tokens (sym (nothing-taken held reading live none) ∙ is) laid)
  | inr answers ↦ (let (more, given) = answers.given_at_once front rest tokens semicolon (live.taken_are ∙ is) laid tt in
      before-open (flat_map statement_tokens reading.given) live.ended_by.depth_is.opened tokens more
      live.ended_by.depth_is.open_statement.no_semicolon (sym (tokens-given held reading live) ∙ given))
]

-- ---- what was checked of them

pub records-mean : (s : Schema) (limits : Limits) (entries : List Entry) → Each (IsFound s limits) entries
    → Each (λ (i : ℕ × Record). IsMeaningful s i.1) (written_in entries)
records-mean s limits entries found =
    Each-mapped (λ (i : ℕ × Record). IsMeaningful s i.1) (λ (e : Entry). (e.name, e.record_)) entries
    (Each-weaker (IsFound s limits) (λ (e : Entry). IsMeaningful s e.record_) (λ e is. (is.meant.kinds, e.meaning, is.meant.means)) entries
    found)

pub checks-statements : (s : Schema) (limits : Limits) (held : statements.Held) (kept : Kept) (reading : StatementHistory)
    → IsLive s limits held kept reading → ChecksStatements s reading.taken
checks-statements s limits held kept reading live front rest tokens is laid =
    let unrefused = live.keeps.unrefused in
    record {
      statements = reading.given;
      tokens_begin = tokens-ended held reading live.reads front rest tokens is laid;
      of_file = live.reads.of_file;
      names_differ = unrefused.names_differ;
      records_mean = subst (λ (is : List (ℕ × Record)). Each (λ (i : ℕ × Record). IsMeaningful s i.1) is) (sym unrefused.instances_are)
          (records-mean s limits (entries_in live.keeps.groups) unrefused.found);
      schema_named = λ part chars among is_schema. (Each-member (IsFitting s limits) reading.given (header part) unrefused.fitting among).1
          chars is_schema;
    }
