-- The canonical text of an instance, and what is kept of it.
use Rattle.std.proofs.Common.{◌≡◌, ℕ, pos, negsuc, List, [], ◌∷◌, refl, sym, subst, arith, inl, inr}
use Rattle.std.specs.Prelude.{codes}
use Rattle.std.specs.List.{AllByRecursion as Each}
use Rattle.p21_spec_file.specs.CanonicalRecord.{HasOneLeaf, IsCanonicalRecord}
use Rattle.p21_spec_exchange.specs.CanonicalText.{statement_text}
use Rattle.p21_spec_basics.specs.Digits.{IsDigit}
use Rattle.p21_spec_file.specs.CanonicalTexts.{IsInstanceText, HaveCanonicalSize}
use Rattle.p21_spec_exchange.specs.Laying.{Lexeme, LaidAs, tokens_in}
use Rattle.p21_spec_exchange.specs.Number.{Decimal, IsReduced}
use Rattle.p21_spec_exchange.specs.Parameter.{dollar, real, no_params, param, key_of}
use Rattle.p21_spec_exchange.specs.Record.{Record, simple}
use Rattle.p21_spec_exchange.specs.Statement.{instance, statement_tokens}
use Rattle.p21_spec_schema.specs.Supertype.{IsA}
use Rattle.p21_spec_exchange.specs.Token as token
use Rattle.p21_spec_exchange.specs.Token.{Token, name, equals, keyword, MayFollow, Spells}
use Rattle.p21_spec_file.specs.Value as value
use Rattle.p21_spec_exchange.proofs.CanonicalLaying.{Laying, put, put_left, put_right, put_comma, put_semicolon, no_dash_left}
use Rattle.p21_spec_exchange.proofs.Laying.{keyword_by, left_ends_words}
use Rattle.p21_spec_file.proofs.MeaningExamples.{point_record, point_set, point_values, point_meaning, point-is, point-means}
use Rattle.p21_spec_basics.proofs.Members.{Each-member}
use Rattle.p21_spec_schema.proofs.OrderExamples.{demo-is_a}
use Rattle.p21_spec_file.proofs.SameFiles.{SameTyped-reflexive}
use Rattle.p21_spec_schema.proofs.TestSchemas.{demo, point}
use Rattle.p21_spec_exchange.proofs.LayingExamples.{one, one-spelled}
use Rattle.p21_spec_exchange.proofs.HeldExamples.{two-spelled}

pub equals_ends_digits : IsDigit 61 → ⊥
equals_ends_digits digit = omega (arith, digit)

pub comma_ends_one : MayFollow (token.real one) (codes "1.") 44
comma_ends_one = (λ digit. omega (arith, digit), λ h e. omega (arith, e))

pub right_ends_one : MayFollow (token.real one) (codes "1.") 41
right_ends_one = (λ digit. omega (arith, digit), λ h e. omega (arith, e))

-- `#2=POINT($,1.,1.);`
abbrev laying : Laying
laying =
    put (name 2) (codes "#2") two-spelled
    (put equals (codes "=") refl
    (put (keyword (codes "POINT")) (codes "POINT") (refl, keyword_by (codes "POINT") tt)
    (put_left (put token.dollar (codes "$") refl
    (put_comma (put (token.real one) (codes "1.") one-spelled
    (put_comma (put (token.real one) (codes "1.") one-spelled (put_right (put_semicolon (record { bytes = []; lexemes = []; laid = ([], tt, refl) }))) right_ends_one)) comma_ends_one)) tt))
    (left_ends_words, no_dash_left)) tt)
    equals_ends_digits

pub point-leaf : HasOneLeaf demo point_set
point-leaf = (
  1,
  ((0, omega arith, refl), λ f among below. Each-member (λ g. IsA demo g 1 → g ≡ 1) point_set f (λ h. refl, (λ h. elim (demo-is_a 0 1 (omega arith) h) [ inl e ↦ absurd (omega (arith, e)) | inr e ↦ absurd (omega (arith, e)) ], tt)) among below),
  λ f leaf. sym (leaf.1 1 (0, omega arith, refl) (point-is f leaf.0)),
)

pub point-canonical : IsCanonicalRecord demo point_record point_meaning
point-canonical = record {
  form = point-leaf;
  params = (
    1,
    (codes "POINT", (point, refl, refl), refl),
    (
      (value.missing, (value.value value.missing value.no_values, (1, omega arith, refl), refl), tt),
      ((value.real one, (point_values, (0, omega arith, refl), refl), tt), ((value.real one, (point_values, (0, omega arith, refl), refl), tt), tt)),
    ),
  );
}

-- of a point with no label and the coordinates 1 and 1 this is the canonical text, of 18 bytes
point_text : IsInstanceText demo 2 point_record (codes "#2=POINT($,1.,1.);")
point_text = record {
  kinds = [];
  meaning = point_meaning;
  means = point-means [];
  canonical = point_record;
  canonical_meaning = point_meaning;
  canonical_means = point-means [];
  same = SameTyped-reflexive point_meaning;
  is_canonical = point-canonical;
  text_is = refl;
  laid = record { lexemes = laying.lexemes; tokens_are = refl; laid = laying.laid };
}

point_kept : HaveCanonicalSize demo (instance 2 point_record ∷ []) 18
point_kept = (codes "#2=POINT($,1.,1.);", 0, refl, point_text, refl)

-- a real in a text is reduced
abbrev IsReducedToken : Token → Type 0
IsReducedToken (token.real d) = IsReduced d
IsReducedToken other = Unit {0}

laid-reduced : (lexemes : List Lexeme) (bytes : List ℕ) → LaidAs bytes lexemes → Each IsReducedToken (tokens_in lexemes)
laid-reduced [] bytes laid = tt
laid-reduced (lexeme ∷ lexemes) bytes (gap, spelling, rest, is, separates, spells, size, followed, laid) = (by lexeme.token spelling spells, laid-reduced lexemes rest laid)
  where
    by : (t : Token) (spelling : List ℕ) → Spells t spelling → IsReducedToken t
    by (token.real d) spelling spells = spells.is_reduced
    by other spelling spells = tt

-- so ten tenths, which would be spelled `1.0`, are in no canonical text
abbrev tenths : Decimal
tenths = record { significand = pos 10; exponent = negsuc 0 }

abbrev tenths_record : Record
tenths_record = simple (record { key = key_of (codes "POINT"); params = param dollar (param (real tenths) (param (real one) no_params)) })

tenths_spelled : statement_text (instance 2 tenths_record) ≡ codes "#2=POINT($,1.0,1.);"
tenths_spelled = refl

tenths_in_no_text : (text : List ℕ) (x : IsInstanceText demo 2 point_record text) → x.canonical ≡ tenths_record → ⊥
tenths_in_no_text text x same =
    let tokens : Each IsReducedToken (statement_tokens (instance 2 x.canonical)) = subst (λ (ts : List Token). Each IsReducedToken ts) x.laid.tokens_are (laid-reduced x.laid.lexemes text x.laid.laid) in
    let P : Record → Type 0 = λ r. Each IsReducedToken (statement_tokens (instance 2 r)) in
    let reduced : Each IsReducedToken (statement_tokens (instance 2 tenths_record)) = subst P same tokens in
    let nought : pos 10 ≡ pos 0 = (reduced.1.1.1.1.1.1.0 refl).0 in
    cc
