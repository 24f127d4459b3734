-- Values one by one.
use Rattle.std.proofs.Common.{◌≡◌, ℕ, true, false, List, [], ◌∷◌, ◌++◌, Some, None, length, take, drop, refl, ap, sym, subst, ◌∙◌, append_assoc, inl, inr}
use Rattle.std.proofs.Math.Seq.{drop-append_seam, take-append_seam}
use Rattle.std.specs.List.{AllByRecursion as Each}
use Rattle.p21_spec_basics.proofs.Members.{Each-front, Each-back}
use Rattle.p21_spec_exchange.specs.CanonicalText.{param_text, tokens_text}
use Rattle.p21_spec_exchange.specs.Parameter.{Param, Params, no_params, param, param_tokens, params_tokens, more_tokens, list}
use Rattle.p21_spec_exchange.specs.Token as token
use Rattle.p21_spec_exchange.specs.Token.{Token, IsSpelled}
use Rattle.p21_spec_laws.proofs.ParamTexts.{tokens_text-append}
use Rattle.p21_spec_laws.specs.Written.{IsWritten}
use Rattle.p21_model_values.proofs.FirstBytes.{param-first}
use Rattle.p21_model_values.specs.declared.value.Value.{Value}
use Rattle.p21_model_values.specs.Ends.{behind_comma, is_at_end}
use Rattle.p21_model_values.specs.Written.{AreElements, AreLeft, EndsValue, HandsOut, IsTextOf}

-- the first of parameters, and what stands behind it
pub record IsFirst (bytes : List ℕ) (p : Param) (ps : Params) (after : List ℕ) : Type 0 where
  pub written : IsWritten p
  pub bytes_are : bytes ≡ param_text p ++ (tokens_text (more_tokens ps) ++ (41 ∷ after))
  pub ends : EndsValue (tokens_text (more_tokens ps) ++ (41 ∷ after))
  pub others : AreLeft ps after (behind_comma (tokens_text (more_tokens ps) ++ (41 ∷ after)))

more-end : (ps : Params) (after : List ℕ) → EndsValue (tokens_text (more_tokens ps) ++ (41 ∷ after))
more-end no_params after = inr refl
more-end (param p ps) after = inl refl

more-left : (ps : Params) (after : List ℕ) → Each IsSpelled (more_tokens ps)
    → AreLeft ps after (behind_comma (tokens_text (more_tokens ps) ++ (41 ∷ after)))
more-left no_params after written = record { written = tt; bytes_are = refl }
more-left (param p ps) after written = record { written = written.1; bytes_are = refl }

pub first-of : (bytes : List ℕ) (p : Param) (ps : Params) (after : List ℕ) → AreLeft (param p ps) after bytes → IsFirst bytes p ps after
first-of bytes p ps after left = record {
  written = Each-front IsSpelled (param_tokens p) (more_tokens ps) left.written;
  bytes_are = left.bytes_are ∙ ap (λ (xs : List ℕ). xs ++ (41 ∷ after)) (tokens_text-append (param_tokens p) (more_tokens ps))
      ∙ append_assoc (param_text p) (tokens_text (more_tokens ps)) (41 ∷ after);
  ends = more-end ps after;
  others = more-left ps after (Each-back IsSpelled (param_tokens p) (more_tokens ps) left.written);
}

-- where nothing is left, nothing is handed out
pub none-left : (ps : Params) (after bytes : List ℕ) → AreLeft ps after bytes → is_at_end bytes ≡ true → HandsOut ps after None bytes
none-left no_params after bytes left at_end = left
none-left (param p ps) after bytes left at_end =
    let first = first-of bytes p ps after left in
    let none : is_at_end bytes ≡ false = ap is_at_end first.bytes_are
    ∙ param-first p first.written (tokens_text (more_tokens ps) ++ (41 ∷ after)) in
    cc

-- else the value up to its end is
pub some-left : (ps : Params) (after bytes : List ℕ) (value : Value) (rest : List ℕ) (size : ℕ) → AreLeft ps after bytes
    → is_at_end bytes ≡ false
    → ((p : Param) (more : List ℕ) → IsWritten p → EndsValue more → bytes ≡ param_text p ++ more → size ≡ length (param_text p))
    → value.text.now ≡ take size bytes → rest ≡ behind_comma (drop size bytes) → HandsOut ps after (Some value) rest
some-left no_params after bytes value rest size left at_end sized text_is rest_is = let yes : is_at_end bytes ≡ true =
    ap is_at_end left.bytes_are in cc
some-left (param p ps) after bytes value rest size left at_end sized text_is rest_is =
    let first = first-of bytes p ps after left in
    let more = tokens_text (more_tokens ps) ++ (41 ∷ after) in
    let size_is : size ≡ length (param_text p) = sized p more first.written first.ends first.bytes_are in
    let front : take size bytes ≡ param_text p = ap (λ n. take n bytes) size_is
    ∙ ap (λ (xs : List ℕ). take (length (param_text p)) xs) first.bytes_are ∙ take-append_seam (param_text p) more in
    let back : drop size bytes ≡ more = ap (λ n. drop n bytes) size_is
    ∙ ap (λ (xs : List ℕ). drop (length (param_text p)) xs) first.bytes_are ∙ drop-append_seam (param_text p) more in (
      record { written = first.written; bytes_are = text_is ∙ front },
      subst (AreLeft ps after) (sym (rest_is ∙ ap behind_comma back))
          first.others,
    )

-- the parameters of a list
pub list-left : (ps : Params) (first : ℕ) (rest bytes : List ℕ) → IsTextOf bytes (list ps) → bytes ≡ first ∷ rest → AreElements ps rest
list-left ps first rest bytes text is =
    let e : first ∷ rest ≡ 40 ∷ tokens_text (params_tokens ps ++ (token.right ∷ [])) = sym is ∙ text.bytes_are in
    let tail : rest ≡ tokens_text (params_tokens ps ++ (token.right ∷ [])) = cc in
    record {
      written = Each-front IsSpelled (params_tokens ps) (token.right ∷ []) text.written.1;
      bytes_are = tail ∙ tokens_text-append (params_tokens ps) (token.right ∷ []);
    }
