-- Values that are near, part by part.
use Rattle.std.proofs.Common.{◌≡◌, ◌↔◌, ℕ, ◌<◌, ◌≤◌, is_none, is_some, not, Bool, true, false, IsTrue, List, [], ◌∷◌, ◌++◌, length}
use Rattle.std.proofs.Common.{Option, None, Some, inl, inr}
use Rattle.std.proofs.Common.{refl, ap, sym, subst, ◌∙◌, arith, length-append}
use Rattle.std.proofs.lemmas.Bool.{true≢false}
use Rattle.std.specs.Prelude.{codes}
use Rattle.p21_spec_exchange.specs.CanonicalText.{param_text, tokens_text}
use Rattle.p21_spec_exchange.specs.Number.{Ratio}
use Rattle.p21_spec_exchange.specs.Parameter.{Key, Param, Params, key_of, key_token, list, more_tokens, no_params, param}
use Rattle.p21_spec_exchange.specs.Parameter.{params_tokens, real, typed}
use Rattle.p21_spec_exchange.specs.Token as token
use Rattle.p21_spec_exchange.specs.Spelling.{spelling}
use Rattle.p21_spec_laws.proofs.LaidTexts.{one-text}
use Rattle.p21_spec_laws.proofs.ParamTexts.{tokens_text-append, typed-is}
use Rattle.p21_model_values.proofs.Handing.{first-of}
use Rattle.p21_model_values.specs.Written.{AreElements, AreLeft, HandsOut, IsTextOf}
use Rattle.p21_model_values.specs.declared.value.Value.{Value}
use Rattle.p21_tolerance.specs.NearValues.{AreInside, AreLists, AreNearLists, AreNearValues, AreTypedAlike, IsList, IsReal, IsTyped}
use Rattle.p21_tolerance.specs.NearValues.{IsTypedAs}
use Rattle.p21_tolerance.specs.Numbers.{AreNumbersWithin, AreNumbersWithinShare, number_in}

-- ---- values with a keyword

own-key : (key : Key) → key.user ≡ false → key ≡ key_of key.word
own-key key plain = ap (λ (b : Bool). let k : Key = record { user = b; word = key.word } in k) plain

pub inside-found : (bytes word inner : List ℕ) (p : Param) → IsTyped p → IsTextOf bytes p
    → ((w : List ℕ) (q : Param) → IsTextOf bytes (typed (key_of w) q) → (word ≡ w) × IsTextOf inner q) → IsTypedAs p word inner
inside-found bytes word inner (typed key p) plain text found =
    let same = own-key key plain in
    let parts = found key.word p (subst (λ k. IsTextOf bytes (typed k p)) same text) in
    (same ∙ ap key_of (sym parts.0), parts.1)
inside-found bytes word inner p plain text found = absurd plain

pub inside-none : (bytes : List ℕ) (p : Param) → IsTyped p → IsTextOf bytes p
    → ((w : List ℕ) (q : Param) → IsTextOf bytes (typed (key_of w) q) → ⊥) → ⊥
inside-none bytes (typed key p) plain text none = none key.word p (subst (λ k. IsTextOf bytes (typed k p)) (own-key key plain) text)
inside-none bytes p plain text none = absurd plain

pub both-inside : (p q : Param) (word other one two : List ℕ) → word ≡ other → IsTypedAs p word one → IsTypedAs q other two
    → AreInside p q one two
both-inside (typed key p) (typed other_key q) word other one two same first second =
    (first.0 ∙ ap key_of same ∙ sym second.0, ap (λ (k : Key). k.user) first.0, first.1, second.1)
both-inside (typed key p) q word other one two same first second = absurd second
both-inside p q word other one two same first second = absurd first

pub first-typed : (p q : Param) → AreTypedAlike p q → IsTyped p
first-typed (typed key p) (typed other q) alike = alike.1
first-typed p q alike = absurd alike

pub second-typed : (p q : Param) → AreTypedAlike p q → IsTyped q
second-typed (typed key p) (typed other q) alike = sym (ap (λ (k : Key). k.user) alike.0) ∙ alike.1
second-typed p q alike = absurd alike

pub one-word : (p q : Param) (word other one two : List ℕ) → AreTypedAlike p q → IsTypedAs p word one → IsTypedAs q other two → word ≡ other
one-word (typed key p) (typed other_key q) word other one two alike first second = ap (λ (k : Key). k.word) (sym first.0 ∙ alike.0
    ∙ second.0)
one-word p q word other one two alike first second = absurd alike

pub inside-shorter : (p q : Param) (bytes word one : List ℕ) → AreTypedAlike p q → IsTextOf bytes p → IsTypedAs p word one
    → length one < length bytes
inside-shorter (typed key p) (typed other q) bytes word one alike text inner =
    let front = spelling (key_token key) in
    let whole : length bytes ≡ length (front ++ (codes "(" ++ (param_text p ++ codes ")"))) = ap length (text.bytes_are ∙ typed-is key p) in
    let length_inner : length one ≡ length (param_text p) = ap length inner.1.bytes_are in
    omega (
      arith,
      whole,
      length_inner,
      length-append front (codes "(" ++ (param_text p ++ codes ")")),
      length-append (param_text p)
          (codes ")"),
    )
inside-shorter p q bytes word one alike text inner = absurd alike

-- what stands inside tells whether both are near
pub near-inside : (t : Ratio) (p q : Param) (one two : List ℕ) (r : Bool) → AreInside p q one two
    → ((a b : Param) → IsTextOf one a → IsTextOf two b → IsTrue r ↔ AreNearValues t a b) → IsTrue r ↔ AreNearValues t p q
near-inside t (typed key p) (typed other q) one two r inner near =
    let same = near p q inner.2 inner.3 in
    let plain = inner.1 in
    (λ yes. (inner.0, λ user. absurd (true≢false (sym user ∙ plain)), λ _. same.0 yes), λ is_near. same.1 (is_near.2 plain))
near-inside t p q one two r inner near = absurd inner

-- ---- values that are neither aggregates nor stand with one keyword

pub reals-near : (p q : Param) (t : Ratio) (result first second : Bool) → IsReal p → IsReal q
    → first ≡ false → result ≡ second → IsTrue first ↔ AreNumbersWithin (number_in p) (number_in q) t
    → IsTrue second ↔ AreNumbersWithinShare (number_in p) (number_in q) t
    → IsTrue result ↔ AreNearValues t p q
reals-near (real d) (real e) t result first second p_real q_real other is within share = (
  λ so. inr (share.0 (sym is ∙ so)),
  λ near. elim near [ inl n ↦ absurd (true≢false (sym (within.1 n) ∙ other)) | inr n ↦ is ∙ share.1 n ],
)
reals-near (real d) q t result first second p_real q_real other is within share = absurd q_real
reals-near p q t result first second p_real q_real other is within share = absurd p_real

pub within-near : (p q : Param) (t : Ratio) (result first : Bool) → IsReal p → IsReal q → first ≡ true → result ≡ true
    → IsTrue first ↔ AreNumbersWithin (number_in p) (number_in q) t → IsTrue result ↔ AreNearValues t p q
within-near (real d) (real e) t result first p_real q_real so is within = (λ _. inl (within.0 so), λ _. is)
within-near (real d) q t result first p_real q_real so is within = absurd q_real
within-near p q t result first p_real q_real so is within = absurd p_real

pub others-near : (p q : Param) (t : Ratio) → (IsReal p → IsReal q → ⊥) → (AreLists p q → ⊥) → (AreTypedAlike p q → ⊥)
    → (p ≡ q) ↔ AreNearValues t p q
others-near (real d) (real e) t reals lists alike = absurd (reals tt tt)
others-near (list ps) (list qs) t reals lists alike = absurd (lists (tt, tt))
others-near (typed key p) (typed other q) t reals lists alike = (
  λ e. (
    let keys : key ≡ other = cc in keys,
    λ _. (let inner : p ≡ q = cc in inner),
    λ plain. absurd (alike
        ((let keys : key ≡ other = cc in keys), plain)),
  ),
  λ near. by_user key.user refl near,
)
  where
    by_user : (b : Bool) → key.user ≡ b → (key ≡ other) × (key.user ≡ true → p ≡ q) × (key.user ≡ false → AreNearValues t p q)
        → typed key p ≡ typed other q
    by_user true user near = let keys = near.0 in let inner = near.1 user in cc
    by_user false plain near = absurd (alike (near.0, plain))
others-near p q t reals lists alike = (λ e. e, λ e. e)

pub texts-same : (p q : Param) (one two : List ℕ) → IsTextOf one p → IsTextOf two q → (one ≡ two) ↔ (p ≡ q)
texts-same p q one two first second = (
  λ e. one-text p q first.written second.written (sym first.bytes_are ∙ e ∙ second.bytes_are),
  λ e. first.bytes_are ∙ ap param_text e ∙ sym second.bytes_are,
)

-- ---- aggregates

-- of two lists these values are left, those before being near
pub record AreLeftToCompare (t : Ratio) (ps qs : Params) (ones others : List ℕ) (size : ℕ) : Type 0 where
  pub first : Params
  pub second : Params
  pub first_left : AreLeft first [] ones
  pub second_left : AreLeft second [] others
  pub same : AreNearLists t ps qs ↔ AreNearLists t first second
  pub shorter : length ones < size

list-shorter : (ps : Params) (one ones : List ℕ) → IsTextOf one (list ps) → AreElements ps ones → length ones < length one
list-shorter ps one ones text elements =
    let whole : length one ≡ length (40 ∷ (tokens_text (params_tokens ps) ++ codes ")")) =
    ap length (text.bytes_are ∙ ap (λ (xs : List ℕ). 40 ∷ xs) (tokens_text-append (params_tokens ps) (token.right ∷ []))) in
    let rest = ap length elements.bytes_are in
    omega (arith, whole, rest)

pub none-compared : (t : Ratio) (ps qs : Params) (one ones others : List ℕ) → IsTextOf one (list ps) → AreElements ps ones
    → AreElements qs others
    → AreLeftToCompare t ps qs ones others (length one)
none-compared t ps qs one ones others text first second = record {
  first = ps;
  second = qs;
  first_left = first;
  second_left = second;
  same = (λ n. n, λ n. n);
  shorter = list-shorter ps one ones text first;
}

element-short : (first : Params) (ones rest : List ℕ) (one : Value) → AreLeft first [] ones → HandsOut first [] (Some one) rest
    → length one.text.now ≤ length ones
element-short no_params ones rest one left handed = absurd handed
element-short (param p ps) ones rest one left handed =
    let front = first-of ones p ps [] left in
    let whole = ap length front.bytes_are in
    let inner = ap length handed.0.bytes_are in
    omega (arith, whole, inner, length-append (param_text p) (tokens_text (more_tokens ps) ++ (41 ∷ [])))

-- an element is shorter than its list
pub one-shorter : (t : Ratio) (ps qs : Params) (ones others rest : List ℕ) (size : ℕ) (one : Value)
    (s : AreLeftToCompare t ps qs ones others size)
    → HandsOut s.first [] (Some one) rest → length one.text.now < size
one-shorter t ps qs ones others rest size one s handed = omega (arith, s.shorter, element-short s.first ones rest one s.first_left handed)

-- one list ends before the other one
pub ends-early : (t : Ratio) (ps qs : Params) (ones others rest rest_ : List ℕ) (size : ℕ) (one : Value)
    (s : AreLeftToCompare t ps qs ones others size)
    → HandsOut s.first [] (Some one) rest → HandsOut s.second [] None rest_ → AreNearLists t ps qs → ⊥
ends-early t ps qs ones others rest rest_ size one s first second near = by_parts s.first s.second first second (s.same.0 near)
  where
    by_parts : (ms ns : Params) → HandsOut ms [] (Some one) rest → HandsOut ns [] None rest_ → AreNearLists t ms ns → ⊥
    by_parts no_params ns first second near = first
    by_parts (param m ms) no_params first second near = near
    by_parts (param m ms) (param n ns) first second near = second

-- two elements that aren't near
pub not-near : (t : Ratio) (ps qs : Params) (ones others rest rest_ : List ℕ) (size : ℕ) (one other : Value) (r : Bool)
    (s : AreLeftToCompare t ps qs ones others size) → HandsOut s.first [] (Some one) rest → HandsOut s.second [] (Some other) rest_
    → ((a b : Param) → IsTextOf one.text.now a → IsTextOf other.text.now b → IsTrue r ↔ AreNearValues t a b) → r ≡ false
    → AreNearLists t ps qs → ⊥
not-near t ps qs ones others rest rest_ size one other r s first second same other_r near = by_parts s.first s.second first second
    (s.same.0 near)
  where
    by_parts : (ms ns : Params) → HandsOut ms [] (Some one) rest → HandsOut ns [] (Some other) rest_ → AreNearLists t ms ns → ⊥
    by_parts no_params ns first second near = first
    by_parts (param m ms) no_params first second near = near
    by_parts (param m ms) (param n ns) first second near = true≢false (sym ((same m n first.0 second.0).1 near.0) ∙ other_r)

-- two elements that are near
pub one-compared : (t : Ratio) (ps qs : Params) (ones others rest rest_ : List ℕ) (size : ℕ) (one other : Value) (r : Bool)
    (s : AreLeftToCompare t ps qs ones others size) → HandsOut s.first [] (Some one) rest → HandsOut s.second [] (Some other) rest_
    → ((a b : Param) → IsTextOf one.text.now a → IsTextOf other.text.now b → IsTrue r ↔ AreNearValues t a b) → r ≡ true
    → length rest < length ones → AreLeftToCompare t ps qs rest rest_ size
one-compared t ps qs ones others rest rest_ size one other r s first second same is_r less = by_parts s.first s.second first second s.same
  where
    by_parts : (ms ns : Params) → HandsOut ms [] (Some one) rest → HandsOut ns [] (Some other) rest_
        → AreNearLists t ps qs ↔ AreNearLists t ms ns → AreLeftToCompare t ps qs rest rest_ size
    by_parts no_params ns first second all = absurd first
    by_parts (param m ms) no_params first second all = absurd second
    by_parts (param m ms) (param n ns) first second all = record {
      first = ms;
      second = ns;
      first_left = first.1;
      second_left = second.1;
      same = (λ near. (all.0 near).1, λ near. all.1 ((same m n first.0 second.0).0 is_r, near));
      shorter = omega (arith, less, s.shorter);
    }

none-by : (found : Option Value) (r : Bool) → is_some found ≡ not r → r ≡ is_none found
none-by None true e = refl
none-by None false e = cc
none-by (Some value) true e = cc
none-by (Some value) false e = refl

-- nothing is left of one list
pub all-compared : (t : Ratio) (ps qs : Params) (ones others rest rest_ : List ℕ) (size : ℕ) (found : Option Value) (r : Bool)
    (s : AreLeftToCompare t ps qs ones others size) → HandsOut s.first [] None rest → HandsOut s.second [] found rest_
    → is_some found ≡ not r → IsTrue r ↔ AreNearLists t ps qs
all-compared t ps qs ones others rest rest_ size found r s first second is = by_parts s.first s.second found first second
    (none-by found r is) s.same
  where
    by_parts : (ms ns : Params) (found : Option Value) → HandsOut ms [] None rest → HandsOut ns [] found rest_ → r ≡ is_none found
        → AreNearLists t ps qs ↔ AreNearLists t ms ns → IsTrue r ↔ AreNearLists t ps qs
    by_parts no_params no_params None first second is all = (λ _. all.1 tt, λ _. is)
    by_parts no_params no_params (Some value) first second is all = absurd second
    by_parts no_params (param n ns) None first second is all = absurd second
    by_parts no_params (param n ns) (Some value) first second is all = (
      λ so. absurd (true≢false (sym so
          ∙ is)),
      λ near. absurd (all.0 near),
    )
    by_parts (param m ms) ns found first second is all = absurd first

pub as-lists : (t : Ratio) (p q : Param) (one two : List ℕ) (r : Bool) → IsList p → IsList q → IsTextOf one p → IsTextOf two q
    → ((ps qs : Params) → IsTextOf one (list ps) → IsTextOf two (list qs) → IsTrue r ↔ AreNearLists t ps qs)
    → IsTrue r ↔ AreNearValues t p q
as-lists t (list ps) (list qs) one two r p_list q_list first second near = near ps qs first second
as-lists t (list ps) q one two r p_list q_list first second near = absurd q_list
as-lists t p q one two r p_list q_list first second near = absurd p_list
