-- Where the next statement begins.
use Rattle.std.proofs.Common.{◌≡◌, ◌<◌, ◌+◌, ◌^◌, ℕ, List, [], ◌∷◌, ◌++◌, length, inl, inr, refl, sym, ap, subst, ◌∙◌, append_assoc}
use Rattle.std.proofs.Common.{length-append, arith}
use Rattle.std.specs.Prelude.{codes}
use Rattle.p21_spec_basics.proofs.Members.{head_is}
use Rattle.p21_spec_exchange.proofs.OneGap.{HasNoSeparator, gap-one}
use Rattle.p21_spec_exchange.specs.Laying.{LaidAs, Lexeme, tokens_in}
use Rattle.p21_spec_exchange.specs.Name.{SpellsName}
use Rattle.p21_spec_exchange.specs.Record.{Record}
use Rattle.p21_spec_exchange.specs.Separator.{IsSeparatorText, blank, comment}
use Rattle.p21_spec_exchange.specs.Statement.{instance}
use Rattle.p21_spec_exchange.specs.Token.{Spells, Token}
use Rattle.p21_spec_exchange.specs.Token as token
use Rattle.p21_spec_survey.specs.Survey.{AreStatement, BeginsAt, BeginsWithEnd, Reading}
use Rattle.p21_stream_log.specs.Broken.{BeginsIn}
use Rattle.p21_stream_log.specs.Log.{Held, IsFileOf, Known}
use Rattle.p21_stream_log.specs.Opening.{IsBegun, OpensAs}
use Rattle.p21_stream_log.specs.declared.opening.Opening.TheVariants as opening

-- in each file, by bytes that tell it
pub begins-each : (known : Known) (held : Held) (read : Reading) (bytes : List ℕ) (begins : ℕ) → BeginsIn held bytes begins
    → held.start ≡ length read.bytes → held.start + length bytes < 2 ^ 64
    → ((file : List ℕ) → IsFileOf known file → (rest : List ℕ) × (file ≡ read.bytes ++ (bytes ++ rest))) → IsBegun bytes → (file : List ℕ)
    → IsFileOf known file → BeginsAt file read begins
begins-each known held read bytes begins in_ start low file_is begun file of =
    let (rest, is) = file_is file of in
    let size = length-append read.bytes bytes in
    in_ file rest read start (omega (arith, size, start, low)) is (inl begun)

-- a byte that begins no separator
no-blank : (byte : ℕ) (rest : List ℕ) → 32 < byte → byte < 127 → (byte ≡ 47 → ⊥) → HasNoSeparator (byte ∷ rest)
no-blank byte rest low high slash (blank b) more (inl under) same = let h : byte ≡ b = head_is byte b _ _ same in
    omega (arith, h, under, low)
no-blank byte rest low high slash (blank b) more (inr delete) same = let h : byte ≡ b = head_is byte b _ _ same in
    omega (arith, h, delete, high)
no-blank byte rest low high slash (comment inside) more is same = slash (head_is byte 47 _ _ same)

-- ENDSEC begins something
pub end-begun : (bytes : List ℕ) → BeginsWithEnd bytes → IsBegun bytes
end-begun bytes (gap, rest, separates, is) = record {
  gap = gap;
  rest = codes "ENDSEC" ++ rest;
  bytes_are = is;
  separates = separates;
  no_more = λ more. no-blank 69 _ (omega arith) (omega arith) (λ same. omega (arith, same));
}

-- `#` begins a statement that isn't ENDSEC
sign-opens : (gap behind : List ℕ) → IsSeparatorText gap → OpensAs (gap ++ (35 ∷ behind)) opening.Statement
sign-opens gap behind separates = (
  record {
    gap = gap;
    rest = 35 ∷ behind;
    bytes_are = refl;
    separates = separates;
    no_more = λ more. no-blank 35 (behind ++ more) (omega arith) (omega arith) (λ same. omega (arith, same));
  },
  λ more ends.
      let (other, rest, other_separates, is) = ends in
      let whole : gap ++ (35 ∷ (behind ++ more)) ≡ other ++ (codes "ENDSEC" ++ rest) = sym (append_assoc gap (35 ∷ behind) more) ∙ is in
      let same : 35 ∷ (behind ++ more) ≡ codes "ENDSEC" ++ rest =
      gap-one gap other (35 ∷ (behind ++ more)) (codes "ENDSEC" ++ rest) separates other_separates
      (no-blank 35 (behind ++ more) (omega arith) (omega arith) (λ h. omega (arith, h)))
      (no-blank 69 _ (omega arith) (omega arith) (λ h. omega (arith, h))) whole in
      let clash : 35 ≡ 69 = head_is 35 69 _ _ same in
      omega (arith, clash),
)

first-is : (x y : Token) (xs ys : List Token) → x ∷ xs ≡ y ∷ ys → x ≡ y
first-is x y xs ys same = cc

laid-opens : (bytes : List ℕ) (lexemes : List Lexeme) (n : ℕ) (tokens : List Token) → tokens_in lexemes ≡ token.name n ∷ tokens
    → LaidAs bytes lexemes → OpensAs bytes opening.Statement
laid-opens bytes [] n tokens are laid = absurd cc
laid-opens bytes (lexeme ∷ lexemes) n tokens are (gap, spelling, rest, is, separates, spells, size, followed, laid) =
    let token_is : lexeme.token ≡ token.name n = first-is lexeme.token (token.name n) (tokens_in lexemes) tokens are in
    let spelled : SpellsName spelling n = subst (λ (t : Token). Spells t spelling) token_is spells in
    let begins : bytes ≡ gap ++ (35 ∷ (spelled.form.digits ++ rest)) = is
    ∙ ap (λ (l : List ℕ). gap ++ (l ++ rest)) spelled.form.bytes_are in
    subst (λ (l : List ℕ). OpensAs l opening.Statement) (sym begins) (sign-opens gap (spelled.form.digits ++ rest) separates)

-- so an instance begins a statement
pub instance-opens : (bytes : List ℕ) (n : ℕ) (record_ : Record) → AreStatement bytes (instance n record_) → OpensAs bytes opening.Statement
instance-opens bytes n record_ are = laid-opens bytes are.laid.lexemes n _ are.laid.tokens_are are.laid.laid
