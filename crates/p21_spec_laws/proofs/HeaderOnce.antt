-- Header records that are the same are equal, since their reals are reduced, and so are those of one canonical line.
use Rattle.std.proofs.Common.{◌≡◌, ℕ, List, [], ◌∷◌, ap, subst, ◌∙◌, refl}
use Rattle.std.proofs.lemmas.List.{append_cancel_right}
use Rattle.std.specs.List.{AllZip, AllByRecursion as Each}
use Rattle.p21_spec_basics.proofs.Members.{Each-front}
use Rattle.p21_spec_laws.proofs.CanonicalLaid.{statement_laid}
use Rattle.p21_spec_laws.proofs.LaidTexts.{one-text}
use Rattle.p21_spec_laws.proofs.OfType.{AreWritten, params-written}
use Rattle.p21_spec_laws.proofs.RecordOnce.{part-same, part-written}
use Rattle.p21_spec_laws.specs.HeaderLaws.{LinesTellHeaderRecords, TextsTellHeaderParameters}
use Rattle.p21_spec_laws.specs.Written.{IsWritten, IsWrittenStatement}
use Rattle.p21_spec_exchange.specs.Token.{IsSpelled}
use Rattle.p21_spec_exchange.proofs.OneTree.{one_record}
use Rattle.p21_spec_exchange.proofs.ReducedDecimals.{reduced_once}
use Rattle.p21_spec_exchange.specs.CanonicalText.{param_text, statement_text}
use Rattle.p21_spec_exchange.specs.Laying.{Laid}
use Rattle.p21_spec_exchange.specs.Parameter as parameter
use Rattle.p21_spec_exchange.specs.Parameter.{Param, Params, param, param_tokens, params_tokens}
use Rattle.p21_spec_exchange.specs.Record.{Part, part_tokens, simple}
use Rattle.p21_spec_exchange.specs.Statement.{header, statement_tokens}
use Rattle.p21_spec_exchange.specs.Token as token
use Rattle.p21_spec_file.proofs.SameFiles.{SameParam-reflexive, SamePart-reflexive}
use Rattle.p21_spec_file.specs.SameFile.{SameParam, both_dollar, both_star, same_wholes, same_reals, same_texts, same_names, same_items, same_bits, same_lists, same_typed, SameParams, both_end, both_next, SamePart}
use Rattle.p21_tokens_automaton.proofs.Theorems.{one-laying}

mutual
  param-once : (p q : Param) → SameParam p q → IsWritten p → IsWritten q → p ≡ q
  param-once p q both_dollar written written_ = refl
  param-once p q both_star written written_ = refl
  param-once p q (same_wholes _) written written_ = refl
  param-once p q (same_reals a b ratio) written written_ = ap parameter.real (reduced_once a b written.0.1.is_reduced written_.0.1.is_reduced ratio)
  param-once p q (same_texts _) written written_ = refl
  param-once p q (same_names _) written written_ = refl
  param-once p q (same_items _) written written_ = refl
  param-once p q (same_bits _) written written_ = refl
  param-once p q (same_lists ps qs same) written written_ =
      ap parameter.list (params-once ps qs same (params-written ps (Each-front IsSpelled (params_tokens ps) (token.right ∷ []) written.1)) (params-written qs (Each-front IsSpelled (params_tokens qs) (token.right ∷ []) written_.1)))
  param-once p q (same_typed key a b same) written written_ =
      ap (parameter.typed key) (param-once a b same (Each-front IsSpelled (param_tokens a) (token.right ∷ []) written.1.1) (Each-front IsSpelled (param_tokens b) (token.right ∷ []) written_.1.1))

  params-once : (ps qs : Params) → SameParams ps qs → AreWritten ps → AreWritten qs → ps ≡ qs
  params-once ps qs both_end written written_ = refl
  params-once ps qs (both_next p q ps_ qs_ same more) written written_ = ap (λ (x : Param). param x ps_) (param-once p q same written.0 written_.0) ∙ ap (param q) (params-once ps_ qs_ more written.1 written_.1)

pub header-once : (xs ys : List Part) → AllZip SamePart xs ys → Each (λ (part : Part). Each IsSpelled (part_tokens part)) xs → Each (λ (part : Part). Each IsSpelled (part_tokens part)) ys → xs ≡ ys
header-once [] [] same written written_ = refl
header-once [] (y ∷ ys) same written written_ = absurd same
header-once (x ∷ xs) [] same written written_ = absurd same
header-once (x ∷ xs) (y ∷ ys) same written written_ =
    ap (λ (z : Part). z ∷ xs) (part-same x y same.0.0 (params-once x.params y.params same.0.1 (part-written x written.0) (part-written y written_.0)))
    ∙ ap (λ (zs : List Part). y ∷ zs) (header-once xs ys same.1 written.1 written_.1)

-- ---- by their texts

pub params-tell : TextsTellHeaderParameters
params-tell p q written written_ = (
  λ same. ap param_text (param-once p q same written written_),
  λ equal. let one : p ≡ q = one-text p q written written_ equal in subst (SameParam p) one (SameParam-reflexive p),
)

of-header : (part : Part) → IsWrittenStatement (header part) → Each IsSpelled (part_tokens part)
of-header part written = Each-front IsSpelled (part_tokens part) (token.semicolon ∷ []) written

-- header records of one line
line-once : (a b : Part) → IsWrittenStatement (header a) → IsWrittenStatement (header b) → statement_text (header a) ≡ statement_text (header b) → a ≡ b
line-once a b written written_ same =
    let P : List ℕ → Type 0 = λ bytes. Laid bytes (statement_tokens (header a)) in
    let tokens : statement_tokens (header a) ≡ statement_tokens (header b) =
    one-laying (statement_text (header b)) (statement_tokens (header a)) (statement_tokens (header b)) (subst P same (statement_laid (header a) written)) (statement_laid (header b) written_) in
    let one : simple a ≡ simple b = one_record (simple a) (simple b) (append_cancel_right (part_tokens a) (part_tokens b) (token.semicolon ∷ []) tokens) in
    cc

pub lines-tell : LinesTellHeaderRecords
lines-tell a b written written_ = (
  λ same. ap (λ (part : Part). statement_text (header part)) (part-same a b same.0 (params-once a.params b.params same.1 (part-written a (of-header a written)) (part-written b (of-header b written_)))),
  λ equal. subst (SamePart a) (line-once a b written written_ equal) (SamePart-reflexive a),
)
