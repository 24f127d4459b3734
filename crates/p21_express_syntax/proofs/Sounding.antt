-- What holds of what was read, if anything was: one thing behind another.
use Rattle.std.proofs.Common.{◌≡◌, ℕ, ◌≤◌, Bool, true, false, nat_le, inl, inr, List, [], ◌∷◌, ◌==◌, Option, Some, None, refl, ap, sym, subst, ◌∙◌, arith}
use Rattle.std.specs.Str.{bytes_eq}
use Rattle.std.proofs.lemmas.Bool.{cases_Bool, eqb-true, both_ways, or_left, or_right, or_cases, false_from_ne_true}
use Rattle.std.proofs.lemmas.Bool.Decides.{nat_tests}
use Rattle.std.proofs.lemmas.Slice.Eq.{bytes_eq-Decides}
use Rattle.std.proofs.Common.{◌<◌, zero, suc, length, get_or}
use Rattle.std.specs.List.{Contains}
use Rattle.p21_spec_schema.specs.Express.{Lexeme, identifier, digits, simple_string, encoded_string, symbol}
use Rattle.p21_spec_schema.specs.ReservedWord.{reserved_words, IsName}
use Rattle.p21_spec_schema.specs.WrittenType.{optional_word}
use Rattle.p21_express_lexemes.specs.Taking.{Items, put, take_symbol, take_word, take_simple_string, take_digits, take_name}
use Rattle.p21_express_lexemes.specs.Words.{is_among, is_reserved}
use Rattle.p21_express_syntax.specs.DataTypes.{bind, choose, guard, flag_of}
use Rattle.p21_spec_basics.proofs.Members.{some_is, some_pair_is}

-- if something was read, this holds of it
abbrev pub OfSome : {A : Type 0} → Option A → (A → Type 0) → Type 0
OfSome None claim = Unit {0}
OfSome (Some x) claim = claim x

pub of_some : {A : Type 0} (o : Option A) (claim : A → Type 0) → OfSome o claim → (x : A) → o ≡ Some x → claim x
of_some {A} o claim h x e = subst (λ (v : Option A). OfSome v claim) e h

pub of_bind : {A B : Type 0} (o : Option A) (go : A → Option B) (claim : B → Type 0) → ((x : A) → o ≡ Some x → OfSome (go x) claim) → OfSome (bind o go) claim
of_bind None go claim h = tt
of_bind (Some x) go claim h = h x refl

pub of_choose : {B : Type 0} (o : Option Items) (go : Items → Option B) (other : Option B) (claim : B → Type 0) → ((r : Items) → o ≡ Some r → OfSome (go r) claim) → (o ≡ None → OfSome other claim) → OfSome (choose o go other) claim
of_choose None go other claim h k = k refl
of_choose (Some r) go other claim h k = h r refl

pub of_guard : {A : Type 0} (test : Bool) (x : A) (claim : A → Type 0) → (test ≡ true → claim x) → OfSome (guard test x) claim
of_guard true x claim h = h refl
of_guard false x claim h = tt

pub some_of : {A : Type 0} (o : Option A) (claim : A → Type 0) → ((x : A) → o ≡ Some x → claim x) → OfSome o claim
some_of None claim h = tt
some_of (Some x) claim h = h x refl

-- ---- what was taken

pub symbol_taken : (byte : ℕ) (items rest : Items) → take_symbol byte items ≡ Some rest → items ≡ Some (symbol byte) ∷ rest
unfolding take_symbol
symbol_taken byte [] rest e = cc
symbol_taken byte (None ∷ items) rest e = cc
symbol_taken byte (Some (symbol other) ∷ items) rest e = elim (cases_Bool (other == byte)) [
  | inl h ↦ let f : Some items ≡ Some rest = rw h at e in let p : other ≡ byte = eqb-true other byte h in let q : items ≡ rest = some_is items rest f in cc
  | inr n ↦ let f : None ≡ Some rest = rw n at e in cc
]
symbol_taken byte (Some (identifier name) ∷ items) rest e = cc
symbol_taken byte (Some (digits ds) ∷ items) rest e = cc
symbol_taken byte (Some (simple_string inside) ∷ items) rest e = cc
symbol_taken byte (Some (encoded_string inside) ∷ items) rest e = cc

pub word_taken : (name : List ℕ) (items rest : Items) → take_word name items ≡ Some rest → items ≡ Some (identifier name) ∷ rest
unfolding take_word
word_taken name [] rest e = cc
word_taken name (None ∷ items) rest e = cc
word_taken name (Some (identifier other) ∷ items) rest e = elim (cases_Bool (bytes_eq other name)) [
  | inl h ↦ let f : Some items ≡ Some rest = rw h at e in let p : other ≡ name = (bytes_eq-Decides other name).0 h in let q : items ≡ rest = some_is items rest f in cc
  | inr n ↦ let f : None ≡ Some rest = rw n at e in cc
]
word_taken name (Some (symbol other) ∷ items) rest e = cc
word_taken name (Some (digits ds) ∷ items) rest e = cc
word_taken name (Some (simple_string inside) ∷ items) rest e = cc
word_taken name (Some (encoded_string inside) ∷ items) rest e = cc

pub string_taken : (items rest : Items) → take_simple_string items ≡ Some rest → (inside : List ℕ) × (items ≡ Some (simple_string inside) ∷ rest)
unfolding take_simple_string
string_taken [] rest e = cc
string_taken (None ∷ items) rest e = cc
string_taken (Some (simple_string inside) ∷ items) rest e = (inside, let q : items ≡ rest = some_is items rest e in cc)
string_taken (Some (identifier other) ∷ items) rest e = cc
string_taken (Some (symbol other) ∷ items) rest e = cc
string_taken (Some (digits ds) ∷ items) rest e = cc
string_taken (Some (encoded_string inside) ∷ items) rest e = cc

pub digits_taken : (items : Items) (ds : List ℕ) (rest : Items) → take_digits items ≡ Some (ds, rest) → items ≡ Some (digits ds) ∷ rest
unfolding take_digits
digits_taken [] ds rest e = cc
digits_taken (None ∷ items) ds rest e = cc
digits_taken (Some (digits other) ∷ items) ds rest e = let p = some_pair_is other ds items rest e in let a : other ≡ ds = p.0 in let b : items ≡ rest = p.1 in cc
digits_taken (Some (symbol other) ∷ items) ds rest e = cc
digits_taken (Some (identifier name) ∷ items) ds rest e = cc
digits_taken (Some (simple_string inside) ∷ items) ds rest e = cc
digits_taken (Some (encoded_string inside) ∷ items) ds rest e = cc

contains_among : (words : List (List ℕ)) (name : List ℕ) (k : ℕ) → k < length words → get_or words k name ≡ name → is_among words name ≡ true
contains_among [] name k lt e = absurd (omega arith)
contains_among (w ∷ words) name zero lt e = or_left (bytes_eq name w) (is_among words name) ((bytes_eq-Decides name w).1 (sym e))
contains_among (w ∷ words) name (suc k) lt e = or_right (bytes_eq name w) (is_among words name) (contains_among words name k (omega arith) e)

is_name : (name : List ℕ) → is_reserved name ≡ false → IsName name
unfolding is_reserved
is_name name n = λ c. both_ways (is_among reserved_words name) n (contains_among reserved_words name c.0 c.1 c.2)

none_is : (x : List ℕ × Items) → None ≡ Some x → ⊥
none_is x q = cc

pub name_taken : (items : Items) (name : List ℕ) (rest : Items) → take_name items ≡ Some (name, rest) → (items ≡ Some (identifier name) ∷ rest) × IsName name
unfolding take_name
name_taken [] name rest e = cc
name_taken (None ∷ items) name rest e = cc
name_taken (Some (identifier other) ∷ items) name rest e = elim (cases_Bool (is_reserved other)) [
  | inl h ↦ absurd (none_is (name, rest) (rw h at e))
  | inr n ↦
      let f : ◌≡◌ {A = Option (List ℕ × Items)} (Some (other, items)) (Some (name, rest)) = rw n at e in
      let p = some_pair_is {X = List ℕ} other name items rest f in
      (ap (λ (x : List ℕ). Some (identifier x) ∷ items) p.0 ∙ ap (λ (x : Items). Some (identifier name) ∷ x) p.1, subst (λ (x : List ℕ). IsName x) p.0 (is_name other n))
]
name_taken (Some (symbol other) ∷ items) name rest e = cc
name_taken (Some (digits ds) ∷ items) name rest e = cc
name_taken (Some (simple_string inside) ∷ items) name rest e = cc
name_taken (Some (encoded_string inside) ∷ items) name rest e = cc

among_contains : (words : List (List ℕ)) (name : List ℕ) → is_among words name ≡ true → Contains words name
among_contains [] name h = cc
among_contains (w ∷ words) name h = elim (or_cases (bytes_eq name w) (is_among words name) h) [
  | inl e ↦ (0, omega arith, sym ((bytes_eq-Decides name w).0 e))
  | inr e ↦ let k = among_contains words name e in (suc k.0, (let l = k.1 in omega arith), k.2)
]

pub not_reserved : (name : List ℕ) → IsName name → is_reserved name ≡ false
unfolding is_reserved
not_reserved name is = false_from_ne_true (is_among reserved_words name) (λ h. is (among_contains reserved_words name h))

pub name_apart : (name w : List ℕ) → Contains reserved_words w → IsName name → bytes_eq name w ≡ false
name_apart name w among is = false_from_ne_true (bytes_eq name w) (λ h. is (subst (λ (x : List ℕ). Contains reserved_words x) (sym ((bytes_eq-Decides name w).0 h)) among))

pub name_read : (name : List ℕ) (more : Items) → IsName name → ◌≡◌ {A = Option (List ℕ × Items)} (take_name (Some (identifier name) ∷ more)) (Some (name, more))
unfolding take_name
name_read name more is = rw (not_reserved name is) refl

-- ---- flags and numbers

pub flag_is : (name : List ℕ) (items : Items) → items ≡ put (optional_word (flag_of name items).0 name) (flag_of name items).1
flag_is name items = by (take_word name items) refl
  where
    by : (o : Option Items) → take_word name items ≡ o → items ≡ put (optional_word (choose {A = Bool × Items} o (λ rest. (true, rest)) (false, items)).0 name) (choose {A = Bool × Items} o (λ rest. (true, rest)) (false, items)).1
    by None e = refl
    by (Some rest) e = word_taken name items rest e

pub le_of : (a b : ℕ) → nat_le a b ≡ true → a ≤ b
le_of a b h = grind (arith, nat_tests)

pub of_le : (a b : ℕ) → a ≤ b → nat_le a b ≡ true
of_le a b h = grind (arith, nat_tests)

-- ---- what was read, as it is written

-- what was read and kept stands there as it is written
pub record Written {A K : Type 0} (lexemes : A → List Lexeme) (is : A → Type 0) (kept : A → K) (value : K) (items rest : Items) : Type 0 where
  pub tree : A
  pub stands : items ≡ put (lexemes tree) rest
  pub is_one : is tree
  pub same : kept tree ≡ value
