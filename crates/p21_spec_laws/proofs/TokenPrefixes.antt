-- The statements with which a tree begins, from the tokens with which it begins.
use Rattle.std.specs.Prelude.{◌≡◌, ◌+◌, ℕ, List, [], ◌∷◌, ◌++◌, length, refl}
use Rattle.std.specs.List.{flat_map, AllByRecursion as Each}
use Rattle.std.proofs.Common.{arith, ap, sym, subst, ◌∙◌, append_assoc, length-append}
use Rattle.p21_spec_exchange.proofs.OneTree.{one_front}
use Rattle.p21_spec_exchange.proofs.Semicolons.{unended, statement-ends, unended-no_semicolon}
use Rattle.p21_spec_exchange.specs.DataSection.{unnamed, named}
use Rattle.p21_spec_basics.specs.Digits.{IsByte}
use Rattle.p21_spec_exchange.specs.Grammar.{InGrammar}
use Rattle.p21_spec_exchange.specs.Laying.{AreStatementsWithin, Lexeme, count_behind}
use Rattle.p21_spec_exchange.specs.OpenNesting.{IsNoSemicolon}
use Rattle.p21_spec_exchange.specs.Statement.{Statement, section, header, instance, begin, header_start, section_end, data_start, finish, statement_tokens}
use Rattle.p21_spec_exchange.specs.Structure.{Structure, AreFirstStatements, statements, tokens_of}
use Rattle.p21_spec_exchange.specs.Token.{Token, semicolon}
use Rattle.p21_spec_laws.specs.SizeLaws.{LongLexemesAreDead, LongSourceIsDead, LongStatementIsDead}
use Rattle.p21_spec_laws.specs.TakenLaws.{DeadStaysDead, PrefixIsTaken, NoTreePrefixIsDead, NoLayingIsDead, FirstStatementsAreEnded, TakenStaysTaken}
use Rattle.p21_spec_file.specs.Accepted.{IsAccepted}
use Rattle.p21_spec_laws.specs.Taken.{BeginsWith}
use Rattle.p21_spec_basics.proofs.Members.{Each-append}

-- ---- statements by their `;`

to-semicolon : (a b x y : List Token) → Each IsNoSemicolon a → Each IsNoSemicolon b → a ++ semicolon ∷ x ≡ b ++ semicolon ∷ y → (a ≡ b) × (x ≡ y)
to-semicolon [] [] x y none none_ same = (refl, cc)
to-semicolon [] (t ∷ b) x y none none_ same = absurd (none_.0 (let h : semicolon ≡ t = cc in sym h))
to-semicolon (t ∷ a) [] x y none none_ same = absurd (none.0 (cc))
to-semicolon (t ∷ a) (u ∷ b) x y none none_ same =
    let first : t ≡ u = cc in
    let rest : a ++ semicolon ∷ x ≡ b ++ semicolon ∷ y = cc in
    let both = to-semicolon a b x y none.1 none_.1 rest in
    (ap (λ (z : Token). z ∷ a) first ∙ ap (λ (zs : List Token). u ∷ zs) both.0, both.1)

-- tokens that begin with those of a statement begin so with those of no other
first-statement : (v w : Statement) (x y : List Token) → statement_tokens v ++ x ≡ statement_tokens w ++ y → (statement_tokens v ≡ statement_tokens w) × (x ≡ y)
first-statement v w x y same =
    let split : (z : Statement) (more : List Token) → statement_tokens z ++ more ≡ unended z ++ semicolon ∷ more =
    λ z more. ap (λ (tokens : List Token). tokens ++ more) (statement-ends z) ∙ append_assoc (unended z) (semicolon ∷ []) more in
    let both = to-semicolon (unended v) (unended w) x y (unended-no_semicolon v) (unended-no_semicolon w) (sym (split v x) ∙ same ∙ split w y) in
    (statement-ends v ∙ ap (λ (z : List Token). z ++ (semicolon ∷ [])) both.0 ∙ sym (statement-ends w), both.1)

no-tokens : (v : Statement) (x : List Token) → [] ≡ statement_tokens v ++ x → ⊥
no-tokens (section begin) x same = cc
no-tokens (section header_start) x same = cc
no-tokens (section section_end) x same = cc
no-tokens (section (data_start unnamed)) x same = cc
no-tokens (section (data_start (named chars schema))) x same = cc
no-tokens (section finish) x same = cc
no-tokens (header part) x same = cc
no-tokens (instance n r) x same = cc

-- statements whose tokens begin with those of others have a front of the tokens of these
front-tokens : (taken all : List Statement) (rest : List Token) → flat_map statement_tokens all ≡ flat_map statement_tokens taken ++ rest
    → (front later : List Statement) × (all ≡ front ++ later) × (flat_map statement_tokens taken ≡ flat_map statement_tokens front)
front-tokens [] all rest same = ([], all, refl, refl)
front-tokens (v ∷ taken) [] rest same = absurd (no-tokens v (flat_map statement_tokens taken ++ rest) (same ∙ append_assoc (statement_tokens v) (flat_map statement_tokens taken) rest))
front-tokens (v ∷ taken) (w ∷ all) rest same =
    let both = first-statement w v (flat_map statement_tokens all) (flat_map statement_tokens taken ++ rest) (same ∙ append_assoc (statement_tokens v) (flat_map statement_tokens taken) rest) in
    let (front, later, is, tokens) = front-tokens taken all rest both.1 in
    (w ∷ front, later, ap (λ (zs : List Statement). w ∷ zs) is, ap (λ (z : List Token). z ++ flat_map statement_tokens taken) (sym both.0) ∙ ap (λ (z : List Token). statement_tokens w ++ z) tokens)

pub begins-statements : (taken : List Statement) (first structure : Structure) (rest : List Token) → AreFirstStatements taken first → tokens_of structure ≡ flat_map statement_tokens taken ++ rest → BeginsWith taken (statements structure)
begins-statements taken first structure rest are same =
    let (front, later, is, tokens) = front-tokens taken (statements structure) rest same in
    let one : taken ≡ front = one_front taken front first structure are (later, is) tokens in
    (later, is ∙ ap (λ (zs : List Statement). zs ++ later) (sym one))

pub prefix-taken : PrefixIsTaken
prefix-taken bytes given taken are ended more are_bytes structure text in_ = ended structure text in_.is_file (are more are_bytes (tokens_of structure) in_.laid)

pub statements-ended : FirstStatementsAreEnded
statements-ended taken first opened are structure text is_file (rest, is) = begins-statements taken first structure (opened ++ rest) are (is ∙ append_assoc (flat_map statement_tokens taken) opened rest)

pub taken-further : TakenStaysTaken
taken-further bytes more taken are_bytes front rest are_rest structure text in_ =
    let P : List ℕ → Type 0 = λ x. InGrammar x structure text in
    front (more ++ rest) (Each-append IsByte more rest are_bytes are_rest) structure text (subst P (append_assoc bytes more rest) in_)

-- ---- bytes that begin nothing

pub no-laying : NoLayingIsDead
no-laying s limits bytes none more are (m, means) = none more are (tokens_of means.reads.structure) means.reads.in_grammar.laid

pub no-front : NoTreePrefixIsDead
no-front s limits bytes given are none more are_bytes (m, means) =
    none means.reads.structure means.reads.schema_text means.reads.in_grammar.is_file (are more are_bytes (tokens_of means.reads.structure) means.reads.in_grammar.laid)

pub dead-further : DeadStaysDead
dead-further s limits bytes more are dead later are_later accepted =
    dead (more ++ later) (Each-append IsByte more later are are_later) (subst (λ (x : List ℕ). IsAccepted s limits x) (append_assoc bytes more later) accepted)

-- ---- sizes of the source

pub long-source : LongSourceIsDead
long-source s limits bytes long more are (m, means) =
    let size : length (bytes ++ more) ≡ length bytes + length more = length-append bytes more in
    let within = means.file_within in
    omega (arith, size, within, long)

pub long-statement : LongStatementIsDead
long-statement s limits bytes none more are (m, means) = none more are means.reads.in_grammar.laid.lexemes means.reads.in_grammar.laid.laid means.statements_within

within-front : (most count : ℕ) (front rest : List Lexeme) → AreStatementsWithin most count (front ++ rest) → AreStatementsWithin most count front
within-front most count [] rest within = tt
within-front most count (lexeme ∷ front) rest within = (within.0, within-front most (count_behind count lexeme) front rest within.1)

pub long-lexemes : LongLexemesAreDead
long-lexemes s limits bytes given begins over = long-statement s limits bytes (λ more are lexemes laid within.
    let (rest, is) = begins more are lexemes laid in
    let P : List Lexeme → Type 0 = λ x. AreStatementsWithin limits.record_source 0 x in
    over (within-front limits.record_source 0 given rest (subst P is within)))
