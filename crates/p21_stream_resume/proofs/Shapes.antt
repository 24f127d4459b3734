-- One byte more of the bytes of an open signpost.
use Rattle.std.proofs.Common.{◌≡◌, ◌≢◌, ℕ, zero, suc, ◌+◌, ◌-◌, ◌*◌, ◌^◌, ◌<◌, ◌≤◌, inl, inr, Bool, true, false, cond, eqb, ltb, ◌&&◌, List, [], ◌∷◌, ◌++◌, length, take, refl, sym, ap, subst, ◌∙◌, append_assoc, append-nil, arith, codes, Option, Some, None, slice_get}
use Rattle.std.proofs.lemmas.Bool.{and_parts, cond_both, eqb-true, false≢true, ltb-false, ltb-true}
use Rattle.std.proofs.lemmas.List.{length_push, take_more, take_all}
use Rattle.std.proofs.lemmas.Option.{get_or_from_slice_get, slice_get_within}
use Rattle.p21_scan.proofs.DigitRuns.{number_push}
use Rattle.p21_spec_basics.proofs.Members.{Each-append}
use Rattle.p21_spec_basics.proofs.PlainDigits.{digits_append}
use Rattle.p21_spec_basics.specs.Digits.{IsDigit, number}
use Rattle.p21_spec_survey.specs.Landmark as landmark
use Rattle.p21_spec_survey.specs.Landmark.{IsBlank, IsSignpost, Signpost, signpost_bytes}
use Rattle.p21_stream_resume.proofs.Classes.{IsOfClass, class-is}
use Rattle.p21_stream_resume.proofs.Opening.{opened_in}
use Rattle.p21_stream_resume.specs.Reading.{size_in}
use Rattle.p21_stream_resume.specs.Shape.{Describes, HasDigits, HasShape, IsCount, IsNumeral, IsTooLong, IsWhole}
use Rattle.p21_stream_resume.specs.Step.{begun_word, behind_word, class_of, digits_step, due_step, grown, hash_step, name_gap_step, next_value, no_digits, one_more, other_word_step, outside, section_gap_step, step, with_digit, word_bytes}
use Rattle.p21_stream_resume.specs.declared.class.Class.{Class}
use Rattle.p21_stream_resume.specs.declared.class.Class.TheVariants as class
use Rattle.p21_stream_resume.specs.declared.mode.Mode.{Mode}
use Rattle.p21_stream_resume.specs.declared.mode.Mode.TheVariants as mode
use Rattle.p21_stream_resume.specs.declared.mode.Step.{Step}
use Rattle.p21_stream_resume.specs.declared.mode.Step.TheVariants.{Goes, Ends}
use Rattle.p21_stream_resume.specs.declared.mode.Word.{Word}
use Rattle.p21_stream_resume.specs.declared.mode.Word.TheVariants as word
use Rattle.p21_stream_resume.specs.declared.signpost.Numeral.{Numeral}
use Rattle.p21_stream_resume.specs.declared.signpost.Signpost as code
use Rattle.p21_stream_resume.specs.declared.signpost.Signpost.TheVariants as answer

-- how the next state follows: no signpost is open; the byte begins one; or it goes on in the one that is open
pub data Follows (m : Mode) (begun : List ℕ) (b : ℕ) (next : Mode) : Type 0 where
  stays_out : HasShape next [] → size_in next (length begun) ≡ 0 → Follows m begun b next
  begins_one : opened_in m ≡ true → HasShape next (b ∷ []) → size_in next (length begun) ≡ 1 → Follows m begun b next
  goes_on : begun ≢ [] → HasShape next (begun ++ b ∷ []) → size_in next (length begun) ≡ length begun + 1 → Follows m begun b next

-- the byte ends the signpost that is open
pub record IsEnded (begun : List ℕ) (b : ℕ) (own : code.Signpost) : Type 0 where
  pub some : begun ≢ []
  pub signpost : Signpost
  pub is_signpost : IsSignpost signpost
  pub describes : Describes own signpost
  pub bytes_are : begun ++ b ∷ [] ≡ signpost_bytes signpost

abbrev pub Fits : Mode → List ℕ → ℕ → Step → Type 0
Fits m begun b (Goes next) = Follows m begun b next
Fits m begun b (Ends own) = IsEnded begun b own

-- ---- counts and digits

count-more : (actual count : ℕ) → IsCount actual count → IsCount (actual + 1) (one_more count)
count-more actual count is low =
    let same : count ≡ actual = is (omega (arith, low)) in
    omega (arith, same, low)

pub numeral-none : IsNumeral [] no_digits
numeral-none = (λ _. record { count_is = λ _. refl; value_is = refl }, λ wrong. absurd (false≢true (sym wrong)))

numeral-grown : (digits : List ℕ) (b : ℕ) (name : Numeral) → IsWhole digits name → IsNumeral (digits ++ b ∷ []) (grown name (next_value name.value (b - 48)))
numeral-grown digits b name whole =
    let value : ℕ = name.value * 10 + (b - 48) in
    let same : number (digits ++ b ∷ []) ≡ value = number_push digits b ∙ ap (λ (v : ℕ). v * 10 + (b - 48)) (sym whole.value_is) in
    let P : Option ℕ → Type 0 = λ o. IsNumeral (digits ++ b ∷ []) (grown name o) in
    cond_both (ltb value (2 ^ 64)) (Some value) None P
    (λ low. (
      λ _. record {
        count_is = subst (λ (k : ℕ). IsCount k (one_more name.count)) (sym (length_push digits b))
            (count-more (length digits) name.count whole.count_is);
        value_is = sym same;
      },
      λ wrong. absurd (false≢true (sym wrong)),
    ))
    (λ high. (
      λ wrong. absurd (false≢true wrong),
      λ _. record {
        front = digits;
        digit = b;
        more = [];
        digits_are = refl;
        count_is = whole.count_is;
        value_is =
            whole.value_is;
        too_large = let above = ltb-false value (2 ^ 64) high in omega (arith, above, same);
      },
    ))

too_long-more : (digits : List ℕ) (b : ℕ) (name : Numeral) → IsTooLong digits name → IsTooLong (digits ++ b ∷ []) name
too_long-more digits b name long = record {
  front = long.front;
  digit = long.digit;
  more = long.more ++ b ∷ [];
  digits_are = ap (λ (bs : List ℕ). bs ++ b ∷ []) long.digits_are ∙ append_assoc long.front (long.digit ∷ long.more) (b ∷ []);
  count_is = long.count_is;
  value_is = long.value_is;
  too_large = long.too_large;
}

numeral-more : (digits : List ℕ) (b : ℕ) (name : Numeral) → IsNumeral digits name → IsNumeral (digits ++ b ∷ []) (with_digit name b)
numeral-more digits b name is =
    let P : Numeral → Type 0 = λ x. IsNumeral (digits ++ b ∷ []) x in
    cond_both name.fits (grown name (next_value name.value (b - 48))) name P (λ e. numeral-grown digits b name (is.0 e))
    (λ e. (λ f. absurd (false≢true (sym e ∙ f)), λ _. too_long-more digits b name (is.1 e)))

-- ---- bytes that belong to no signpost that has begun

begun_word-follows : (m : Mode) (begun : List ℕ) (b : ℕ) → opened_in m ≡ true → Follows m begun b (begun_word b)
begun_word-follows m begun b opened =
    let P : Mode → Type 0 = λ next. Follows m begun b next in
    let file : Mode = mode.Word word.FileBegin 1 in
    cond_both (eqb b 69) (mode.Word word.SectionEnd 1) (cond (eqb b 73) file mode.Closed) P
    (λ e. begins_one opened (ap (λ (c : ℕ). c ∷ []) (eqb-true b 69 e), omega arith, omega arith) refl)
    (λ _. cond_both (eqb b 73) file mode.Closed P
    (λ e. begins_one opened (ap (λ (c : ℕ). c ∷ []) (eqb-true b 73 e), omega arith, omega arith) refl) (λ _. stays_out refl refl))

outside-follows : (m : Mode) (begun : List ℕ) (b : ℕ) (opened : Bool) → (opened ≡ true → opened_in m ≡ true) → (kind : Class)
    → IsOfClass kind b → Follows m begun b (outside opened kind b)
outside-follows m begun b opened may class.Semicolon of = stays_out refl refl
outside-follows m begun b opened may class.Parenthesis of = stays_out refl refl
outside-follows m begun b opened may class.LineEnd of = stays_out refl refl
outside-follows m begun b true may class.Blank of = stays_out refl refl
outside-follows m begun b false may class.Blank of = stays_out refl refl
outside-follows m begun b true may class.Hash of = begins_one (may refl) (ap (λ (c : ℕ). c ∷ []) of) refl
outside-follows m begun b false may class.Hash of = stays_out refl refl
outside-follows m begun b true may class.Other of = begun_word-follows m begun b (may refl)
outside-follows m begun b false may class.Other of = stays_out refl refl
outside-follows m begun b opened may class.Digit of = stays_out refl refl
outside-follows m begun b opened may class.Equals of = stays_out refl refl

closed-follows : (m : Mode) (begun : List ℕ) (b : ℕ) (kind : Class) → IsOfClass kind b → Follows m begun b (outside false kind b)
closed-follows m begun b kind of = outside-follows m begun b false (λ wrong. absurd (false≢true wrong)) kind of

-- ---- names

blank-of : (b : ℕ) (kind : Class) → IsOfClass kind b → (kind ≡ class.LineEnd) → IsBlank b
blank-of b class.LineEnd (inl e) is = inl (omega (arith, e))
blank-of b class.LineEnd (inr e) is = inl (omega (arith, e))
blank-of b class.Digit of is = cc
blank-of b class.Hash of is = cc
blank-of b class.Equals of is = cc
blank-of b class.Semicolon of is = cc
blank-of b class.Parenthesis of is = cc
blank-of b class.Blank of is = cc
blank-of b class.Other of is = cc

digits-some : (begun : List ℕ) (name : Numeral) (digits gap : List ℕ) → HasDigits begun name digits gap → begun ≢ []
digits-some begun name digits gap has absent = let wrong : 35 ∷ (digits ++ gap) ≡ [] = sym has.bytes_are ∙ absent in cc

-- a digit more
digit-more : (begun : List ℕ) (b : ℕ) (name : Numeral) (digits : List ℕ) → HasDigits begun name digits [] → IsDigit b
    → HasDigits (begun ++ b ∷ []) (with_digit name b) (digits ++ b ∷ []) []
digit-more begun b name digits has is =
    let longer = length_push digits b in
    record {
      bytes_are = ap (λ (bs : List ℕ). bs ++ b ∷ []) has.bytes_are
          ∙ ap (λ (bs : List ℕ). 35 ∷ bs) (ap (λ (bs : List ℕ). bs ++ b ∷ []) (append-nil digits) ∙ sym (append-nil (digits ++ b ∷ [])));
      some = omega (arith, longer);
      are_digits = digits_append digits (b ∷ []) has.are_digits (is, tt);
      numeral = numeral-more digits b name has.numeral;
      blanks = tt;
    }

-- a blank more
blank-more : (begun : List ℕ) (b : ℕ) (name : Numeral) (digits gap : List ℕ) → HasDigits begun name digits gap → IsBlank b
    → HasDigits (begun ++ b ∷ []) name digits (gap ++ b ∷ [])
blank-more begun b name digits gap has is = record {
  bytes_are = ap (λ (bs : List ℕ). bs ++ b ∷ []) has.bytes_are ∙ ap (λ (bs : List ℕ). 35 ∷ bs) (append_assoc digits gap (b ∷ []));
  some = has.some;
  are_digits = has.are_digits;
  numeral = has.numeral;
  blanks = Each-append IsBlank gap (b ∷ []) has.blanks (is, tt);
}

gap-count : (gap : List ℕ) (b blanks : ℕ) → IsCount (length gap) blanks → IsCount (length (gap ++ b ∷ [])) (one_more blanks)
gap-count gap b blanks is = subst (λ (k : ℕ). IsCount k (one_more blanks)) (sym (length_push gap b)) (count-more (length gap) blanks is)

name-ended : (begun : List ℕ) (b : ℕ) (name : Numeral) (digits gap : List ℕ) (blanks : ℕ) → HasDigits begun name digits gap
    → IsCount (length gap) blanks → b ≡ 61 → IsEnded begun b (answer.Instance name blanks)
name-ended begun b name digits gap blanks has count is = record {
  some = digits-some begun name digits gap has;
  signpost = landmark.landmark (landmark.instance digits gap);
  is_signpost = (has.some, has.are_digits, has.blanks);
  describes = (has.numeral, count);
  bytes_are = ap (λ (bs : List ℕ). bs ++ b ∷ []) has.bytes_are
      ∙ (ap (λ (bs : List ℕ). 35 ∷ bs) (append_assoc digits gap (b ∷ [])) ∙ ap (λ (c : ℕ). 35 ∷ (digits ++ (gap ++ c ∷ []))) is);
}

digits-fits : (begun : List ℕ) (b : ℕ) (name : Numeral) → HasShape (mode.Digits name) begun → (kind : Class) → IsOfClass kind b
    → Fits (mode.Digits name) begun b (digits_step name kind b)
digits-fits begun b name (digits, has) class.Digit of =
    goes_on (digits-some begun name digits [] has) (digits ++ b ∷ [], digit-more begun b name digits has of) refl
digits-fits begun b name (digits, has) class.Equals of = name-ended begun b name digits [] 0 has (λ _. refl) of
digits-fits begun b name (digits, has) class.Blank of =
    goes_on (digits-some begun name digits [] has) (digits, b ∷ [], blank-more begun b name digits [] has of.0, λ _. refl) refl
digits-fits begun b name (digits, has) class.LineEnd of =
    goes_on (digits-some begun name digits [] has)
    (digits, b ∷ [], blank-more begun b name digits [] has (blank-of b class.LineEnd of refl), λ _. refl) refl
digits-fits begun b name (digits, has) class.Hash of = closed-follows (mode.Digits name) begun b class.Hash of
digits-fits begun b name (digits, has) class.Semicolon of = closed-follows (mode.Digits name) begun b class.Semicolon of
digits-fits begun b name (digits, has) class.Parenthesis of = closed-follows (mode.Digits name) begun b class.Parenthesis of
digits-fits begun b name (digits, has) class.Other of = closed-follows (mode.Digits name) begun b class.Other of

hash-fits : (begun : List ℕ) (b : ℕ) → begun ≡ 35 ∷ [] → (kind : Class) → IsOfClass kind b → Fits mode.Hash begun b (hash_step kind b)
hash-fits begun b is class.Digit of =
    goes_on (λ absent. let wrong : 35 ∷ [] ≡ [] = sym is ∙ absent in cc) (
      b ∷ [],
      record {
        bytes_are = ap (λ (bs : List ℕ). bs ++ b ∷ []) is;
        some = omega arith;
        are_digits = (of, tt);
        numeral =
            numeral-more [] b no_digits numeral-none;
        blanks = tt;
      },
    ) refl
hash-fits begun b is class.Equals of = closed-follows mode.Hash begun b class.Equals of
hash-fits begun b is class.Blank of = closed-follows mode.Hash begun b class.Blank of
hash-fits begun b is class.LineEnd of = closed-follows mode.Hash begun b class.LineEnd of
hash-fits begun b is class.Hash of = closed-follows mode.Hash begun b class.Hash of
hash-fits begun b is class.Semicolon of = closed-follows mode.Hash begun b class.Semicolon of
hash-fits begun b is class.Parenthesis of = closed-follows mode.Hash begun b class.Parenthesis of
hash-fits begun b is class.Other of = closed-follows mode.Hash begun b class.Other of

name_gap-fits : (begun : List ℕ) (b : ℕ) (name : Numeral) (blanks : ℕ) (opened : Bool) → HasShape (mode.NameGap name blanks opened) begun
    → (kind : Class) → IsOfClass kind b → Fits (mode.NameGap name blanks opened) begun b (name_gap_step name blanks opened kind b)
name_gap-fits begun b name blanks opened (digits, gap, has, count) class.Equals of = name-ended begun b name digits gap blanks has count of
name_gap-fits begun b name blanks opened (digits, gap, has, count) class.Blank of =
    goes_on (digits-some begun name digits gap has)
    (digits, gap ++ b ∷ [], blank-more begun b name digits gap has of.0, gap-count gap b blanks count) refl
name_gap-fits begun b name blanks opened (digits, gap, has, count) class.LineEnd of =
    goes_on (digits-some begun name digits gap has)
    (digits, gap ++ b ∷ [], blank-more begun b name digits gap has (blank-of b class.LineEnd of refl), gap-count gap b blanks count) refl
name_gap-fits begun b name blanks opened shape class.Digit of = outside-follows (mode.NameGap name blanks opened) begun b opened (λ e. e) class.Digit of
name_gap-fits begun b name blanks opened shape class.Hash of = outside-follows (mode.NameGap name blanks opened) begun b opened (λ e. e) class.Hash of
name_gap-fits begun b name blanks opened shape class.Semicolon of = outside-follows (mode.NameGap name blanks opened) begun b opened (λ e. e) class.Semicolon of
name_gap-fits begun b name blanks opened shape class.Parenthesis of = outside-follows (mode.NameGap name blanks opened) begun b opened (λ e. e) class.Parenthesis of
name_gap-fits begun b name blanks opened shape class.Other of = outside-follows (mode.NameGap name blanks opened) begun b opened (λ e. e) class.Other of

-- ---- words

section-some : (begun gap : List ℕ) → begun ≡ codes "ENDSEC" ++ gap → begun ≢ []
section-some begun gap is absent = let wrong : codes "ENDSEC" ++ gap ≡ [] = sym is ∙ absent in cc

section_gap-fits : (begun : List ℕ) (b : ℕ) (blanks : ℕ) (opened : Bool) → HasShape (mode.SectionGap blanks opened) begun → (kind : Class)
    → IsOfClass kind b → Fits (mode.SectionGap blanks opened) begun b (section_gap_step blanks opened kind b)
section_gap-fits begun b blanks opened (gap, is, are, count) class.Semicolon of = record {
  some = section-some begun gap is;
  signpost = landmark.landmark (landmark.section_end gap);
  is_signpost = are;
  describes = count;
  bytes_are = ap (λ (bs : List ℕ). bs ++ b ∷ []) is ∙ (append_assoc (codes "ENDSEC") gap (b ∷ []) ∙ ap (λ (c : ℕ). codes "ENDSEC" ++ (gap ++ c ∷ [])) of);
}
section_gap-fits begun b blanks opened (gap, is, are, count) class.Blank of =
    goes_on (section-some begun gap is) (
      gap ++ b ∷ [],
      ap (λ (bs : List ℕ). bs ++ b ∷ []) is
          ∙ append_assoc (codes "ENDSEC") gap (b ∷ []),
      Each-append IsBlank gap (b ∷ []) are (of.0, tt),
      gap-count gap b blanks count,
    ) refl
section_gap-fits begun b blanks opened (gap, is, are, count) class.LineEnd of =
    goes_on (section-some begun gap is) (
      gap ++ b ∷ [],
      ap (λ (bs : List ℕ). bs ++ b ∷ []) is
          ∙ append_assoc (codes "ENDSEC") gap (b ∷ []),
      Each-append IsBlank gap (b ∷ []) are (blank-of b class.LineEnd of refl, tt),
      gap-count gap b blanks count,
    ) refl
section_gap-fits begun b blanks opened shape class.Digit of = outside-follows (mode.SectionGap blanks opened) begun b opened (λ e. e) class.Digit of
section_gap-fits begun b blanks opened shape class.Hash of = outside-follows (mode.SectionGap blanks opened) begun b opened (λ e. e) class.Hash of
section_gap-fits begun b blanks opened shape class.Equals of = outside-follows (mode.SectionGap blanks opened) begun b opened (λ e. e) class.Equals of
section_gap-fits begun b blanks opened shape class.Parenthesis of = outside-follows (mode.SectionGap blanks opened) begun b opened (λ e. e) class.Parenthesis of
section_gap-fits begun b blanks opened shape class.Other of = outside-follows (mode.SectionGap blanks opened) begun b opened (λ e. e) class.Other of

take-some : (of : Word) (taken : ℕ) → 0 < taken → take taken (word_bytes of) ≡ [] → ⊥
take-some of zero some absent = omega (arith, some)
take-some word.SectionEnd (suc k) some absent = cc
take-some word.FileBegin (suc k) some absent = cc
take-some word.FileEnd (suc k) some absent = cc

-- one byte more of a word
word-more : (of : Word) (taken due b : ℕ) (begun : List ℕ) → begun ≡ take taken (word_bytes of)
    → slice_get (word_bytes of) taken ≡ Some due → b ≡ due → begun ++ b ∷ [] ≡ take (taken + 1) (word_bytes of)
word-more of taken due b begun is due_is same =
    let within = slice_get_within (word_bytes of) taken due due_is in
    ap (λ (bs : List ℕ). bs ++ b ∷ []) is ∙ (ap (λ (c : ℕ). take taken (word_bytes of) ++ c ∷ []) (same ∙ sym (get_or_from_slice_get
    (word_bytes of) taken due 0 due_is)) ∙ sym (take_more (word_bytes of) taken 0 within))

-- all of a word
word-ended : (of : Word) (begun : List ℕ) (b : ℕ) (taken : ℕ) → begun ≢ [] → begun ++ b ∷ [] ≡ word_bytes of → Fits (mode.Word of taken) begun b (behind_word of)
word-ended word.SectionEnd begun b taken some is =
    let longer = length_push begun b in
    let size : length (begun ++ b ∷ []) ≡ 6 = ap (λ (bs : List ℕ). length bs) is in
    goes_on some ([], is ∙ sym (append-nil (codes "ENDSEC")), tt, λ _. refl) (omega (arith, longer, size))
word-ended word.FileBegin begun b taken some is = record { some = some; signpost = landmark.file_begin; is_signpost = tt; describes = tt; bytes_are = is }
word-ended word.FileEnd begun b taken some is = record { some = some; signpost = landmark.file_end; is_signpost = tt; describes = tt; bytes_are = is }

other_word-fits : (of : Word) (taken : ℕ) (begun : List ℕ) (b : ℕ) → HasShape (mode.Word of taken) begun → (kind : Class)
    → IsOfClass kind b → Fits (mode.Word of taken) begun b (other_word_step of taken kind b)
other_word-fits word.SectionEnd taken begun b shape kind of =
    let m : Mode = mode.Word word.SectionEnd taken in
    let P : Step → Type 0 = λ s. Fits m begun b s in
    cond_both (eqb taken 3 && eqb b 45) (Goes (mode.Word word.FileEnd 4)) (Goes (outside false kind b)) P
    (λ e.
    let both = and_parts (eqb taken 3) (eqb b 45) e in
    let three : taken ≡ 3 = eqb-true taken 3 both.0 in
    let dash : b ≡ 45 = eqb-true b 45 both.1 in
    let is : begun ≡ 69 ∷ 78 ∷ 68 ∷ [] = shape.0 ∙ ap (λ (k : ℕ). take k (codes "ENDSEC")) three in
    let size : length begun ≡ 3 = ap (λ (bs : List ℕ). length bs) is in
    goes_on (λ absent. let wrong : 69 ∷ 78 ∷ 68 ∷ [] ≡ [] = sym is ∙ absent in cc)
    (ap (λ (bs : List ℕ). bs ++ b ∷ []) is ∙ ap (λ (c : ℕ). 69 ∷ 78 ∷ 68 ∷ c ∷ []) dash, omega arith, omega arith) (omega (arith, size)))
    (λ _. closed-follows m begun b kind of)
other_word-fits word.FileBegin taken begun b shape kind of = closed-follows (mode.Word word.FileBegin taken) begun b kind of
other_word-fits word.FileEnd taken begun b shape kind of = closed-follows (mode.Word word.FileEnd taken) begun b kind of

due-fits : (of : Word) (taken : ℕ) (begun : List ℕ) (b : ℕ) → HasShape (mode.Word of taken) begun → (kind : Class) → IsOfClass kind b
    → (due : Option ℕ) → slice_get (word_bytes of) taken ≡ due → Fits (mode.Word of taken) begun b (due_step of taken kind b due)
due-fits of taken begun b shape kind is None due_is = closed-follows (mode.Word of taken) begun b kind is
due-fits of taken begun b (begun_is, some, within) kind is (Some due) due_is =
    let m : Mode = mode.Word of taken in
    let P : Step → Type 0 = λ s. Fits m begun b s in
    let all : ℕ = length (word_bytes of) in
    let more : Step = Goes (mode.Word of (taken + 1)) in
    let begun_some : begun ≢ [] = λ absent. take-some of taken some (sym begun_is ∙ absent) in
    cond_both (eqb b due) (cond (ltb (taken + 1) all) more (behind_word of)) (other_word_step of taken kind b) P
    (λ e.
    let further = word-more of taken due b begun begun_is due_is (eqb-true b due e) in
    cond_both (ltb (taken + 1) all) more (behind_word of) P
    (λ low.
    let below = ltb-true (taken + 1) all low in
    let size : length begun ≡ taken = ap (λ (bs : List ℕ). length bs) begun_is ∙ length-take_within taken (word_bytes of) within in
    goes_on begun_some (further, omega arith, omega (arith, below)) (omega (arith, size)))
    (λ high. word-ended of begun b taken begun_some (further ∙ take_all (taken + 1) (word_bytes of) (ltb-false (taken + 1) all high))))
    (λ _. other_word-fits of taken begun b (begun_is, some, within) kind is)
  where
    length-take_within : (k : ℕ) (bs : List ℕ) → k ≤ length bs → length (take k bs) ≡ k
    length-take_within zero bs low = refl
    length-take_within (suc k) [] low = absurd (omega (arith, low))
    length-take_within (suc k) (c ∷ bs) low = let shorter = length-take_within k bs (omega (arith, low)) in omega (arith, shorter)

-- ---- a byte

pub step-fits : (m : Mode) (begun : List ℕ) (b : ℕ) → HasShape m begun → Fits m begun b (step m (class_of b) b)
step-fits mode.Closed begun b shape = closed-follows mode.Closed begun b (class_of b) (class-is b)
step-fits mode.Opened begun b shape = outside-follows mode.Opened begun b true (λ _. refl) (class_of b) (class-is b)
step-fits mode.Hash begun b shape = hash-fits begun b shape (class_of b) (class-is b)
step-fits (mode.Digits name) begun b shape = digits-fits begun b name shape (class_of b) (class-is b)
step-fits (mode.NameGap name blanks opened) begun b shape = name_gap-fits begun b name blanks opened shape (class_of b) (class-is b)
step-fits (mode.Word of taken) begun b shape = due-fits of taken begun b shape (class_of b) (class-is b) (slice_get (word_bytes of) taken) refl
step-fits (mode.SectionGap blanks opened) begun b shape = section_gap-fits begun b blanks opened shape (class_of b) (class-is b)
