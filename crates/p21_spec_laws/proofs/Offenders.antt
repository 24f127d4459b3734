-- Bytes are dead where the lexer, the parser or a statement refuses them.
use Rattle.std.specs.Prelude.{◌≡◌, ◌+◌, ℕ, List, [], ◌∷◌, ◌++◌, length, refl, Contains}
use Rattle.std.proofs.Common.{arith, ap, length-append}
use Rattle.std.proofs.lemmas.List.Elements.{Contains-append_right}
use Rattle.p21_spec_basics.proofs.Members.{Contains-first}
use Rattle.p21_spec_laws.proofs.Dead.{broken-rule, long-header, long-instance, long-section_line, name-again, other-schema, section-again, section-other_schema}
use Rattle.p21_spec_laws.proofs.TokenPrefixes.{prefix-taken, no-front, no-laying}
use Rattle.p21_spec_laws.proofs.LongFiles.{long-file}
use Rattle.p21_spec_laws.specs.SizeLaws.{framing}
use Rattle.p21_spec_laws.proofs.Growing.{framing-append, canonical_size-append}
use Rattle.p21_spec_laws.proofs.Growth.{canonical_size-of_unrefused}
use Rattle.p21_spec_laws.specs.UnrefusedStatements.{canonical_size}
use Rattle.p21_spec_laws.specs.OffenderLaws.{GivenStatementsAreTaken, UnrefusedHaveFileSize, NoFilePrefixIsDead, OffendingStatementIsDead, UnlayableIsDead}
use Rattle.p21_spec_laws.specs.Offending.{IsTextOf, broken, long_file, long_line, name_again, other_schema, section_again, section_of_other_schema}
use Rattle.p21_spec_exchange.specs.CanonicalText.{statement_text}
use Rattle.p21_spec_exchange.specs.Statement.{Statement, data_start, header, instance, section}
use Rattle.p21_spec_file.specs.CanonicalTexts.{HaveCanonicalSize}
use Rattle.p21_spec_schema.specs.Schema.{Schema}

-- ---- the lexer and the parser

pub given-taken : GivenStatementsAreTaken
given-taken bytes tokens given first ended = prefix-taken bytes tokens given (λ more are all laid. first more all laid) ended

pub unlaid-dead : UnlayableIsDead
unlaid-dead s limits bytes none = no-laying s limits bytes (λ more are tokens laid. none more tokens laid)

pub no-file_dead : NoFilePrefixIsDead
no-file_dead s limits bytes tokens first none = no-front s limits bytes tokens (λ more are all laid. first more all laid) none

-- ---- a statement

pub unrefused-has_size : UnrefusedHaveFileSize
unrefused-has_size s limits given groups unrefused = (canonical_size given groups, canonical_size-of_unrefused s limits given groups unrefused, refl)

pub last-among : {X : Type 0} (xs : List X) (x : X) → Contains (xs ++ (x ∷ [])) x
last-among xs x = Contains-append_right xs (x ∷ []) x (Contains-first x [])

-- the canonical bytes of one statement: those of its text, and an LF
record IsKeptAlone (s : Schema) (statement : Statement) (text : List ℕ) : Type 0 where
  kept : ℕ
  are : HaveCanonicalSize s (statement ∷ []) kept
  size : kept + framing (statement ∷ []) ≡ length text + 1

kept-alone : (s : Schema) (statement : Statement) (text : List ℕ) → IsTextOf s statement text → IsKeptAlone s statement text
kept-alone s (section line_) text is =
    let same = ap length is in
    let long = length-append (statement_text (section line_)) (10 ∷ []) in
    record { kept = 0; are = refl; size = omega (arith, same, long) }
kept-alone s (header part) text is =
    let same = ap length is in
    record { kept = length (statement_text (header part)); are = (0, omega arith, refl); size = omega (arith, same) }
kept-alone s (instance n r) text is = record { kept = length text; are = (text, 0, omega arith, is, refl); size = omega arith }

pub offender-dead : OffendingStatementIsDead
offender-dead s formed limits bytes given size has statement number front (other_schema part chars is other) = other-schema s limits bytes (given ++ (header part ∷ [])) front part chars (last-among given (header part)) is other
offender-dead s formed limits bytes given size has statement number front (section_of_other_schema heading other) = section-other_schema s limits bytes (given ++ (section (data_start heading) ∷ [])) front heading (last-among given (section (data_start heading))) other
offender-dead s formed limits bytes given size has statement number front (section_again name text among) = section-again s limits bytes given name text front among
offender-dead s formed limits bytes given size has statement number front (name_again n r among) = name-again s limits bytes given n r front among
offender-dead s formed limits bytes given size has statement number front (broken n r _ breaks) = broken-rule s formed limits bytes (given ++ (instance n r ∷ [])) front n r number (last-among given (instance n r)) breaks
offender-dead s formed limits bytes given size has statement number front (long_line (section line_) text is long) =
    let same = ap length is in
    long-section_line s limits bytes (given ++ (section line_ ∷ [])) front line_ (last-among given (section line_)) (omega (arith, same, long))
offender-dead s formed limits bytes given size has statement number front (long_line (header part) text is long) =
    let same = ap length is in
    long-header s limits bytes (given ++ (header part ∷ [])) front part (last-among given (header part)) (omega (arith, same, long))
offender-dead s formed limits bytes given size has statement number front (long_line (instance n r) text is long) = long-instance s formed limits bytes (given ++ (instance n r ∷ [])) front n r text (last-among given (instance n r)) is long
offender-dead s formed limits bytes given size (kept, are, size_is) statement number front (long_file _ text is long) =
    let alone = kept-alone s statement text is in
    let framed = framing-append given (statement ∷ []) in
    let one = alone.size in
    long-file s formed limits bytes (given ++ (statement ∷ [])) front (kept + alone.kept) (canonical_size-append s given (statement ∷ []) kept alone.kept are alone.are) (omega (arith, framed, one, size_is, long))
