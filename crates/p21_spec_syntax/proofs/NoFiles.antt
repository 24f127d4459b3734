-- Bytes that are no tree, and bytes that begin none.
use Rattle.std.proofs.Common.{◌≡◌, ◌≤◌, ◌<◌, ◌+◌, ℕ, List, [], ◌∷◌, ◌++◌, length, length-append, append_assoc, sym, subst, arith}
use Rattle.std.specs.List.{AllByRecursion as Each}
use Rattle.p21_spec_basics.proofs.Members.{Each-append}
use Rattle.p21_spec_basics.specs.Digits.{IsByte}
use Rattle.p21_spec_basics.specs.Limits.{Limits}
use Rattle.p21_spec_exchange.specs.Grammar.{IsFile}
use Rattle.p21_spec_exchange.specs.Laying.{Laid, Lexeme, open_bytes}
use Rattle.p21_spec_exchange.specs.Pending.{IsTokenByte, LaidUpTo, Tail, tail_size}
use Rattle.p21_spec_exchange.specs.Structure.{Structure, tokens_of}
use Rattle.p21_spec_exchange.specs.Token.{Token}
use Rattle.p21_spec_syntax.proofs.FullStatements.{full-unlaid}
use Rattle.p21_spec_laws.specs.Taken.{AreTokensTaken, BeginsWith}
use Rattle.p21_tokens_automaton.proofs.Theorems.{one-laying}
use Rattle.p21_spec_syntax.specs.FileWithin.{BeginsNoFile, IsFileWithin, IsNoFile}
use Rattle.p21_spec_syntax.specs.Laws.{IllFormedStays, NoFileBeginsIllFormed, NoFileIsDead, NoFileIsIllFormed, NoFileIsRefused}
use Rattle.p21_spec_syntax.specs.WellFormedFile.{IsWellFormedFile}

-- ---- what is known of them

pub no_file-dead : NoFileIsDead
no_file-dead s limits bytes none more are (m, means) =
    none more are means.reads.structure means.reads.schema_text (record { in_grammar = means.reads.in_grammar; file_within = means.file_within; statements_within = means.statements_within })

pub no_file-refused : NoFileIsRefused
no_file-refused s limits bytes none (m, means) = none means.reads.structure means.reads.schema_text means.reads.in_grammar

pub no_file-begins : NoFileBeginsIllFormed
no_file-begins limits bytes none more are structure schema is = none more are structure is.schema_text is.file

pub no_file-ill_formed : NoFileIsIllFormed
no_file-ill_formed limits bytes none structure schema is = none structure is.schema_text is.file.in_grammar

pub ill_formed-further : IllFormedStays
ill_formed-further limits bytes more are none later are_later structure schema is =
    none (more ++ later) (Each-append IsByte more later are are_later) structure schema (subst (λ (x : List ℕ). IsWellFormedFile limits x structure schema) (append_assoc bytes more later) is)

-- ---- why there is none

-- no tokens are laid in bytes that begin so
pub none-laid : (limits : Limits) (bytes : List ℕ) → ((more : List ℕ) (tokens : List Token) → Laid (bytes ++ more) tokens → ⊥) → BeginsNoFile limits bytes
none-laid limits bytes none more are structure schema is = none more (tokens_of structure) is.in_grammar.laid

pub unlaid-none : (bytes : List ℕ) → ((tokens : List Token) → Laid bytes tokens → ⊥) → IsNoFile bytes
unlaid-none bytes none structure schema is = none (tokens_of structure) is.laid

-- the tokens laid are those of no tree
pub no-tree : (bytes : List ℕ) (tokens : List Token) → Laid bytes tokens → ((structure : Structure) (text : List ℕ) → IsFile structure text → tokens_of structure ≡ tokens → ⊥) → IsNoFile bytes
no-tree bytes tokens laid none structure schema is = none structure schema is.is_file (one-laying bytes (tokens_of structure) tokens is.laid laid)

-- no tree's tokens begin so
pub none-begins : (limits : Limits) (bytes : List ℕ) (given : List Token) → AreTokensTaken bytes given → ((structure : Structure) (text : List ℕ) → IsFile structure text → BeginsWith given (tokens_of structure) → ⊥) → BeginsNoFile limits bytes
none-begins limits bytes given first none more are structure schema is = none structure schema is.in_grammar.is_file (first more are (tokens_of structure) is.in_grammar.laid)

-- they are too many
pub too-long : (limits : Limits) (bytes : List ℕ) → limits.file_source < length bytes → BeginsNoFile limits bytes
too-long limits bytes long more are structure schema is =
    let size : length (bytes ++ more) ≡ length bytes + length more = length-append bytes more in
    let within = is.file_within in
    omega (arith, size, within, long)

-- a statement has as many token bytes as it may have, and one more
pub statement-full : (limits : Limits) (bytes : List ℕ) (lexemes : List Lexeme) (tail : Tail) (byte : ℕ) → LaidUpTo bytes lexemes tail → IsTokenByte tail byte → limits.record_source ≤ open_bytes 0 lexemes + tail_size tail → BeginsNoFile limits (bytes ++ byte ∷ [])
statement-full limits bytes lexemes tail byte laid counts full more are structure schema is =
    full-unlaid limits.record_source bytes lexemes tail byte laid counts full more is.in_grammar.laid.lexemes is.in_grammar.laid.laid is.statements_within
