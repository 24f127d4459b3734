-- The line of an instance, by its record.
use Rattle.std.proofs.Common.{◌≡◌, ℕ, ◌<◌, false, eqb, List, [], ◌∷◌, ◌++◌, length, refl, ap, sym, ◌∙◌, arith, append-nil, append_assoc, inl, inr}
use Rattle.std.proofs.lemmas.Bool.{ne_eqb}
use Rattle.std.specs.List.{flat_map, AllByRecursion as Each}
use Rattle.p21_spec_basics.proofs.Members.{Each-front, Each-apart}
use Rattle.p21_spec_basics.proofs.PlainDigits.{plain_are_digits, plain_digits_are}
use Rattle.p21_spec_basics.specs.Digits.{AllDigits, plain_digits}
use Rattle.p21_spec_exchange.specs.CanonicalText.{tokens_text}
use Rattle.p21_spec_exchange.specs.Record.{Part, Record, simple, complex, part_tokens, record_tokens}
use Rattle.p21_spec_exchange.specs.Spelling.{name_spelling}
use Rattle.p21_spec_exchange.specs.Statement.{instance, statement_tokens}
use Rattle.p21_spec_exchange.specs.Token as token
use Rattle.p21_spec_exchange.specs.Token.{IsSpelled, Token}
use Rattle.p21_spec_file.specs.CanonicalTexts.{IsInstanceText}
use Rattle.p21_spec_file.specs.Meaning.{MeansByMapping, Typed}
use Rattle.p21_spec_file.specs.Reference.{EntitySets}
use Rattle.p21_spec_laws.proofs.CanonicalLaid.{laid-each_spelled}
use Rattle.p21_spec_laws.proofs.ParamTexts.{tokens_text-append}
use Rattle.p21_spec_schema.specs.Schema.{Schema}
use Rattle.p21_model.specs.Left.{IsRecordText, NoKeywordFirst, parts_text}
use Rattle.p21_model.specs.Line.{behind_equals}

-- ---- behind the name

digits-behind : (digits rest : List ℕ) → AllDigits digits → behind_equals (digits ++ (61 ∷ rest)) ≡ rest
digits-behind [] rest are = refl
digits-behind (digit ∷ digits) rest are =
    let h = are.0 in
    let other : eqb digit 61 ≡ false = ne_eqb digit 61 (λ e. omega (arith, h, e)) in
    rw other (digits-behind digits rest are.1)

pub name-behind : (n : ℕ) (line rest : List ℕ) → line ≡ name_spelling n ++ (61 ∷ rest) → behind_equals line ≡ rest
name-behind n line rest is = ap behind_equals is ∙ digits-behind (plain_digits n) rest
    (plain_are_digits (plain_digits n) (plain_digits_are n).0)

-- ---- the record

semicolon-ends : NoKeywordFirst (59 ∷ [])
semicolon-ends (inl h) = omega (arith, h)
semicolon-ends (inr h) = omega (arith, h)

right-ends : NoKeywordFirst (41 ∷ 59 ∷ [])
right-ends (inl h) = omega (arith, h)
right-ends (inr h) = omega (arith, h)

parts-are : (parts : List Part) → tokens_text (flat_map part_tokens parts) ≡ parts_text parts
parts-are [] = refl
parts-are (part ∷ parts) = tokens_text-append (part_tokens part) (flat_map part_tokens parts)
    ∙ ap (λ (xs : List ℕ). tokens_text (part_tokens part) ++ xs) (parts-are parts)

-- a record of external mapping has a simple record
abbrev HasSomeParts : Record → Type 0
HasSomeParts (simple part) = Unit {0}
HasSomeParts (complex parts) = 0 < length parts

some-parts : (s : Schema) (kinds : EntitySets) (record_ : Record) (meaning : Typed) → MeansByMapping s kinds record_ meaning
    → HasSomeParts record_
some-parts s kinds (simple part) meaning means = tt
some-parts s kinds (complex parts) meaning means = means.some_parts

record-text : (record_ : Record) → HasSomeParts record_ → Each IsSpelled (record_tokens record_ ++ (token.semicolon ∷ []))
    → IsRecordText record_ (tokens_text (record_tokens record_ ++ (token.semicolon ∷ [])))
record-text (simple part) some spelled = record {
  written = (Each-front IsSpelled (part_tokens part) (token.semicolon ∷ []) spelled, tt);
  bytes_are = tokens_text-append (part_tokens part) (token.semicolon ∷ [])
      ∙ ap (λ (xs : List ℕ). xs ++ (59 ∷ [])) (sym (append-nil (tokens_text (part_tokens part))));
  ends = semicolon-ends;
}
record-text (complex parts) some spelled =
    let inside = flat_map part_tokens parts in
    let front : Each IsSpelled (inside ++ (token.right ∷ [])) =
    Each-front IsSpelled (inside ++ (token.right ∷ [])) (token.semicolon ∷ []) spelled.1 in (
      tokens_text ((inside ++ (token.right ∷ [])) ++ (token.semicolon ∷ [])),
      refl,
      record {
        written = Each-apart IsSpelled part_tokens parts (Each-front IsSpelled inside (token.right ∷ []) front);
        bytes_are =
            tokens_text-append (inside ++ (token.right ∷ [])) (token.semicolon ∷ [])
            ∙ ap (λ (xs : List ℕ). xs ++ (59 ∷ [])) (tokens_text-append inside (token.right ∷ [])
            ∙ ap (λ (xs : List ℕ). xs ++ (41 ∷ [])) (parts-are parts))
            ∙ append_assoc (parts_text parts) (41 ∷ []) (59 ∷ []);
        ends = right-ends;
      },
      some,
    )

-- behind its name a line has its record
pub record IsCutAt (s : Schema) (n : ℕ) (record_ : Record) (text : List ℕ) : Type 0 where
  pub rest : List ℕ
  pub line_is : text ≡ name_spelling n ++ (61 ∷ rest)
  pub is_text : IsRecordText record_ rest

pub line-cut : (s : Schema) (n : ℕ) (record_ : Record) (text : List ℕ) (stated : IsInstanceText s n record_ text)
    → IsCutAt s n stated.canonical text
line-cut s n record_ text stated =
    let spelled : Each IsSpelled (statement_tokens (instance n stated.canonical)) =
    laid-each_spelled text (statement_tokens (instance n stated.canonical)) stated.laid in
    record {
      rest = tokens_text (record_tokens stated.canonical ++ (token.semicolon ∷ []));
      line_is = stated.text_is;
      is_text = record-text stated.canonical (some-parts s stated.kinds stated.canonical stated.canonical_meaning
          stated.canonical_means.means) spelled.1.1;
    }
