-- A FILE_SCHEMA text names one schema at most; examples.
use Rattle.std.proofs.Common.{◌≡◌, ℕ, ◌≤◌, List, [], ◌∷◌, ◌++◌, map, refl, ap, sym, ◌∙◌, arith, inl, inr, lit≤}
use Rattle.std.specs.Prelude.{codes}
use Rattle.std.specs.List.{AllByRecursion as Each}
use Rattle.p21_spec_schema.specs.Express.{IsIdentifierByte, upper}
use Rattle.p21_spec_schema.specs.SchemaName.{NamesSchema}

abbrev Stops : List ℕ → Type 0
Stops rest = (char : ℕ) (more : List ℕ) → rest ≡ char ∷ more → IsIdentifierByte char → ⊥

one_prefix : (a b rest rest_ : List ℕ) → Each IsIdentifierByte a → Each IsIdentifierByte b → Stops rest → Stops rest_ → a ++ rest ≡ b ++ rest_ → a ≡ b
one_prefix [] [] rest rest_ first second stops stops_ same = refl
one_prefix [] (char ∷ b) rest rest_ first second stops stops_ same = absurd (stops char (b ++ rest_) same second.0)
one_prefix (char ∷ a) [] rest rest_ first second stops stops_ same = absurd (stops_ char (a ++ rest) (sym same) first.0)
one_prefix (char ∷ a) (char_ ∷ b) rest rest_ first second stops stops_ same =
    let heads : char ≡ char_ = cc in
    let tails : a ++ rest ≡ b ++ rest_ = cc in
    ap (λ z. z ∷ a) heads ∙ ap (λ z. char_ ∷ z) (one_prefix a b rest rest_ first.1 second.1 stops stops_ tails)

pub one_schema_name : (chars name name_ : List ℕ) → NamesSchema chars name → NamesSchema chars name_ → name ≡ name_
one_schema_name chars name name_ one two =
    sym one.name_is
    ∙ ap (map upper) (one_prefix one.prefix two.prefix one.rest two.rest one.prefix_is two.prefix_is one.longest two.longest (sym one.chars_are ∙ two.chars_are))
    ∙ two.name_is

large : (char : ℕ) → 65 ≤ char → char ≤ 90 → IsIdentifierByte char
large char low high = inl (inl (low, high))

small : (char : ℕ) → 97 ≤ char → char ≤ 122 → IsIdentifierByte char
small char low high = inl (inr (low, high))

not_space : (char : ℕ) → char ≡ 32 → IsIdentifierByte char → ⊥
not_space char is (inl (inl h)) = omega (arith, h)
not_space char is (inl (inr h)) = omega (arith, h)
not_space char is (inr (inl h)) = omega (arith, h)
not_space char is (inr (inr h)) = omega (arith, h)

-- a text with an object identifier behind the name, and one in small letters
demo_with_identifier : NamesSchema (codes "DEMO { 1 0 10303 214 1 1 1 1 }") (codes "DEMO")
demo_with_identifier = record {
  prefix = codes "DEMO";
  rest = codes " { 1 0 10303 214 1 1 1 1 }";
  chars_are = refl;
  prefix_is = (large 68 (lit≤ tt) (lit≤ tt), (large 69 (lit≤ tt) (lit≤ tt), (large 77 (lit≤ tt) (lit≤ tt), (large 79 (lit≤ tt) (lit≤ tt), tt))));
  longest = λ char more is. not_space char (cc);
  name_is = refl;
}

pub demo_large : NamesSchema (codes "DEMO") (codes "DEMO")
demo_large = record {
  prefix = codes "DEMO";
  rest = [];
  chars_are = refl;
  prefix_is = (large 68 (lit≤ tt) (lit≤ tt), (large 69 (lit≤ tt) (lit≤ tt), (large 77 (lit≤ tt) (lit≤ tt), (large 79 (lit≤ tt) (lit≤ tt), tt))));
  longest = λ char more is. cc;
  name_is = refl;
}

pub demo_small : NamesSchema (codes "demo") (codes "DEMO")
demo_small = record {
  prefix = codes "demo";
  rest = [];
  chars_are = refl;
  prefix_is = (small 100 (lit≤ tt) (lit≤ tt), (small 101 (lit≤ tt) (lit≤ tt), (small 109 (lit≤ tt) (lit≤ tt), (small 111 (lit≤ tt) (lit≤ tt), tt))));
  longest = λ char more is. cc;
  name_is = refl;
}

-- `DEMO_X` names another schema, since the name is the longest prefix
demo_longer : NamesSchema (codes "DEMO_X") (codes "DEMO_X")
demo_longer = record {
  prefix = codes "DEMO_X";
  rest = [];
  chars_are = refl;
  prefix_is = (large 68 (lit≤ tt) (lit≤ tt), (large 69 (lit≤ tt) (lit≤ tt), (large 77 (lit≤ tt) (lit≤ tt), (large 79 (lit≤ tt) (lit≤ tt), (inr (inr refl), (large 88 (lit≤ tt) (lit≤ tt), tt))))));
  longest = λ char more is. cc;
  name_is = refl;
}

demo_longer_is_not : NamesSchema (codes "DEMO_X") (codes "DEMO") → ⊥
demo_longer_is_not named = let same : codes "DEMO_X" ≡ codes "DEMO" = one_schema_name (codes "DEMO_X") (codes "DEMO_X") (codes "DEMO") demo_longer named in cc

-- and `OTHER` names OTHER
pub other_name : NamesSchema (codes "OTHER") (codes "OTHER")
other_name = record {
  prefix = codes "OTHER";
  rest = [];
  chars_are = refl;
  prefix_is = (large 79 (lit≤ tt) (lit≤ tt), (large 84 (lit≤ tt) (lit≤ tt), (large 72 (lit≤ tt) (lit≤ tt), (large 69 (lit≤ tt) (lit≤ tt), (large 82 (lit≤ tt) (lit≤ tt), tt)))));
  longest = λ char more is. cc;
  name_is = refl;
}

-- a space in front leaves no name
space_first : NamesSchema (codes " DEMO") (codes "DEMO") → ⊥
space_first named = let same : [] ≡ codes "DEMO" = one_schema_name (codes " DEMO") [] (codes "DEMO") none named in cc
  where
    none : NamesSchema (codes " DEMO") []
    none = record { prefix = []; rest = codes " DEMO"; chars_are = refl; prefix_is = tt; longest = λ char more is. not_space char (cc); name_is = refl }

-- no letter past ASCII belongs to a name: `DEMO` and U+00E9 name DEMO, and U+212A, the sign of kelvin, does not name K
not_past_ascii : (char : ℕ) → 128 ≤ char → IsIdentifierByte char → ⊥
not_past_ascii char high (inl (inl h)) = omega (arith, h, high)
not_past_ascii char high (inl (inr h)) = omega (arith, h, high)
not_past_ascii char high (inr (inl h)) = omega (arith, h, high)
not_past_ascii char high (inr (inr h)) = omega (arith, h, high)

demo_accent : NamesSchema (68 ∷ 69 ∷ 77 ∷ 79 ∷ 0xE9 ∷ []) (codes "DEMO")
demo_accent = record {
  prefix = codes "DEMO";
  rest = 0xE9 ∷ [];
  chars_are = refl;
  prefix_is = (large 68 (lit≤ tt) (lit≤ tt), (large 69 (lit≤ tt) (lit≤ tt), (large 77 (lit≤ tt) (lit≤ tt), (large 79 (lit≤ tt) (lit≤ tt), tt))));
  longest = λ char more is. let e : 0xE9 ≡ char = cc in not_past_ascii char (omega (arith, e));
  name_is = refl;
}

kelvin_sign : NamesSchema (0x212A ∷ []) (codes "K") → ⊥
kelvin_sign named = let same : [] ≡ codes "K" = one_schema_name (0x212A ∷ []) [] (codes "K") none named in cc
  where
    none : NamesSchema (0x212A ∷ []) []
    none = record { prefix = []; rest = 0x212A ∷ []; chars_are = refl; prefix_is = tt; longest = λ char more is. let e : 0x212A ≡ char = cc in not_past_ascii char (omega (arith, e)); name_is = refl }
