-- What a seeker reads of bytes, and of the bytes of a signpost where one may begin.
use Rattle.std.proofs.Common.{◌≡◌, ℕ, suc, ◌+◌, inl, inr, Bool, true, false, List, [], ◌∷◌, ◌++◌, length, refl, sym, ap, subst, ◌∙◌, append_assoc, arith}
use Rattle.std.specs.List.{AllByRecursion as Each}
use Rattle.std.specs.Prelude.{IsTrue}
use Rattle.std.specs.Prelude.{◌↔◌}
use Rattle.std.proofs.lemmas.Bool.{false≢true}
use Rattle.std.proofs.lemmas.List.{length-append}
use Rattle.p21_spec_basics.specs.Digits.{AllDigits}
use Rattle.p21_spec_survey.specs.Landmark.{IsBlank, IsOpened, IsSignpost, Signpost, file_begin, file_end, instance, landmark, section_end, signpost_bytes}
use Rattle.p21_stream_resume.proofs.Classes.{blank-class, class-is, digit-class}
use Rattle.p21_stream_resume.proofs.Opened.{opened-further}
use Rattle.p21_stream_resume.proofs.Opening.{SaysOpened, opened_in, step-says}
use Rattle.p21_stream_resume.specs.Reading.{Ending, found, onward, open_at, read, size_in}
use Rattle.p21_stream_resume.specs.Step.{begun_word, class_of, no_digits, one_more, step, with_digit}
use Rattle.p21_stream_resume.specs.declared.class.Class.{Class}
use Rattle.p21_stream_resume.specs.declared.class.Class.TheVariants as class
use Rattle.p21_stream_resume.specs.declared.mode.Mode.{Mode}
use Rattle.p21_stream_resume.specs.declared.mode.Mode.TheVariants as mode
use Rattle.p21_stream_resume.specs.declared.mode.Step.{Step}
use Rattle.p21_stream_resume.specs.declared.mode.Step.TheVariants.{Goes, Ends}
use Rattle.p21_stream_resume.specs.declared.mode.Word.TheVariants as word
use Rattle.p21_stream_resume.specs.declared.signpost.Numeral.{Numeral}
use Rattle.p21_stream_resume.specs.declared.signpost.Signpost as code
use Rattle.p21_stream_resume.specs.declared.signpost.Signpost.TheVariants as answer

-- ---- byte by byte

pub read-nil : (m : Mode) (n : ℕ) → read m n [] ≡ open_at m n
unfolding read
read-nil m n = refl

read-byte : (m : Mode) (n b : ℕ) (bs : List ℕ) → read m n (b ∷ bs) ≡ onward (step m (class_of b) b) n bs (λ next size. read next size bs)
unfolding read
read-byte m n b bs = refl

pub read-goes : (m next : Mode) (n b : ℕ) (bs : List ℕ) → step m (class_of b) b ≡ Goes next → read m n (b ∷ bs) ≡ read next (size_in next n) bs
read-goes m next n b bs e = read-byte m n b bs ∙ ap (λ (s : Step). onward s n bs (λ next size. read next size bs)) e

pub read-ends : (m : Mode) (signpost : code.Signpost) (n b : ℕ) (bs : List ℕ) → step m (class_of b) b ≡ Ends signpost
    → read m n (b ∷ bs) ≡ found signpost (n + 1) bs
read-ends m signpost n b bs e = read-byte m n b bs ∙ ap (λ (s : Step). onward s n bs (λ next size. read next size bs)) e

-- with more bytes behind them
abbrev pub carried : Ending → List ℕ → Ending
carried (open_at m n) more = read m n more
carried (found signpost n rest) more = found signpost n (rest ++ more)

pub read-append : (m : Mode) (n : ℕ) (xs ys : List ℕ) → read m n (xs ++ ys) ≡ carried (read m n xs) ys
read-append m n [] ys = ap (λ (e : Ending). carried e ys) (sym (read-nil m n))
read-append m n (b ∷ xs) ys = read-byte m n b (xs ++ ys)
    ∙ (by-step (λ next. read-append next (size_in next n) xs ys) (step m (class_of b) b)
    ∙ ap (λ (e : Ending). carried e ys) (sym (read-byte m n b xs)))
  where
    by-step : ((next : Mode) → read next (size_in next n) (xs ++ ys) ≡ carried (read next (size_in next n) xs) ys) → (s : Step)
        → onward s n (xs ++ ys) (λ next size. read next size (xs ++ ys)) ≡ carried (onward s n xs (λ next size. read next size xs)) ys
    by-step further (Goes next) = further next
    by-step further (Ends signpost) = refl

-- ---- where a signpost may begin

-- behind bytes in which none is whole a state says whether one may begin
pub opened-behind : (xs : List ℕ) (m last : Mode) (n size : ℕ) (before : List ℕ) → (IsTrue (opened_in m) ↔ IsOpened before)
    → read m n xs ≡ open_at last size → IsTrue (opened_in last) ↔ IsOpened (before ++ xs)
opened-behind [] m last n size before known is =
    let same : m ≡ last = ap mode_in (sym (read-nil m n) ∙ is) in
    subst (λ (bs : List ℕ). IsTrue (opened_in last) ↔ IsOpened bs) (sym (append-none before))
    (subst (λ (x : Mode). IsTrue (opened_in x) ↔ IsOpened before) same known)
  where
    mode_in : Ending → Mode
    mode_in (open_at x k) = x
    mode_in (found s k rest) = mode.Closed

    append-none : (bs : List ℕ) → bs ++ [] ≡ bs
    append-none [] = refl
    append-none (c ∷ bs) = ap (λ (cs : List ℕ). c ∷ cs) (append-none bs)
opened-behind (b ∷ xs) m last n size before known is =
    by-step (λ next from read_on. opened-behind xs next last (size_in next n) size (before ++ b ∷ []) from read_on) (step m (class_of b) b)
    (step-says m b) (sym (read-byte m n b xs) ∙ is)
  where
    by-step : ((next : Mode) → (IsTrue (opened_in next) ↔ IsOpened (before ++ b ∷ [])) → read next (size_in next n) xs ≡ open_at last size
        → IsTrue (opened_in last) ↔ IsOpened ((before ++ b ∷ []) ++ xs))
        → (s : Step) → SaysOpened (opened_in m) (class_of b) s → onward s n xs (λ next size. read next size xs) ≡ open_at last size
        → IsTrue (opened_in last) ↔ IsOpened (before ++ b ∷ xs)
    by-step on (Goes next) says read_on =
        let further = opened-further before b (opened_in m) known (class_of b) (class-is b) in
        subst (λ (bs : List ℕ). IsTrue (opened_in last) ↔ IsOpened bs) (append_assoc before (b ∷ []) xs)
        (on next (subst (λ (o : Bool). IsTrue o ↔ IsOpened (before ++ b ∷ [])) (sym says) further) read_on)
    by-step on (Ends signpost) says read_on = cc

-- ---- the bytes of a signpost

digits-read : (ds : List ℕ) → AllDigits ds → (name : Numeral) (n : ℕ) (rest : List ℕ) → (last : Numeral)
    × (read (mode.Digits name) n (ds ++ rest) ≡ read (mode.Digits last) (n + length ds) rest)
digits-read [] are name n rest = (name, ap (λ (k : ℕ). read (mode.Digits name) k rest) (omega arith))
digits-read (d ∷ ds) are name n rest =
    let goes : step (mode.Digits name) (class_of d) d ≡ Goes (mode.Digits (with_digit name d)) =
    ap (λ (k : Class). step (mode.Digits name) k d) (digit-class d are.0) in
    let (last, on) = digits-read ds are.1 (with_digit name d) (n + 1) rest in
    let size : n + 1 + length ds ≡ n + suc (length ds) = omega arith in
    (last, read-goes (mode.Digits name) (mode.Digits (with_digit name d)) n d (ds ++ rest) goes ∙ (on ∙ ap (λ (k : ℕ). read (mode.Digits last) k rest) size))

gap-read : (bs : List ℕ) → Each IsBlank bs → (name : Numeral) (blanks : ℕ) (opened : Bool) (n : ℕ) (rest : List ℕ)
    → (signpost : code.Signpost) × (read (mode.NameGap name blanks opened) n (bs ++ 61 ∷ rest) ≡ found signpost (n + length bs + 1) rest)
gap-read [] are name blanks opened n rest = (
  answer.Instance name blanks,
  read-ends (mode.NameGap name blanks opened)
      (answer.Instance name blanks) n 61 rest refl ∙ ap (λ (k : ℕ). found (answer.Instance name blanks) k rest) (omega arith),
)
gap-read (b ∷ bs) are name blanks opened n rest =
    let size : n + 1 + length bs + 1 ≡ n + suc (length bs) + 1 = omega arith in
    let m : Mode = mode.NameGap name blanks opened in
    elim (blank-class b are.0) [
      | inl is ↦
          let next : Mode = mode.NameGap name (one_more blanks) opened in
          let (signpost, on) = gap-read bs are.1 name (one_more blanks) opened (n + 1) rest in
          (signpost, read-goes m next n b (bs ++ 61 ∷ rest) (ap (λ (k : Class). step m k b) is) ∙ (on ∙ ap (λ (k : ℕ). found signpost k rest) size))
      | inr is ↦
          let next : Mode = mode.NameGap name (one_more blanks) true in
          let (signpost, on) = gap-read bs are.1 name (one_more blanks) true (n + 1) rest in
          (signpost, read-goes m next n b (bs ++ 61 ∷ rest) (ap (λ (k : Class). step m k b) is) ∙ (on ∙ ap (λ (k : ℕ). found signpost k rest) size))
    ]

name-read : (bs : List ℕ) → Each IsBlank bs → (name : Numeral) (n : ℕ) (rest : List ℕ) → (signpost : code.Signpost)
    × (read (mode.Digits name) n (bs ++ 61 ∷ rest) ≡ found signpost (n + length bs + 1) rest)
name-read [] are name n rest = (
  answer.Instance name 0,
  read-ends (mode.Digits name) (answer.Instance name 0) n 61 rest refl ∙ ap (λ
      (k : ℕ). found (answer.Instance name 0) k rest) (omega arith),
)
name-read (b ∷ bs) are name n rest =
    let size : n + 1 + length bs + 1 ≡ n + suc (length bs) + 1 = omega arith in
    let m : Mode = mode.Digits name in
    elim (blank-class b are.0) [
      | inl is ↦
          let (signpost, on) = gap-read bs are.1 name 1 false (n + 1) rest in (
            signpost,
            read-goes m (mode.NameGap name 1 false) n b (bs ++ 61 ∷ rest) (ap (λ (k : Class). step m k b) is)
                ∙ (on ∙ ap (λ (k : ℕ). found signpost k rest) size),
          )
      | inr is ↦
          let (signpost, on) = gap-read bs are.1 name 1 true (n + 1) rest in (
            signpost,
            read-goes m (mode.NameGap name 1 true) n b (bs ++ 61 ∷ rest) (ap (λ (k : Class). step m k b) is)
                ∙ (on ∙ ap (λ (k : ℕ). found signpost k rest) size),
          )
    ]

section-read : (bs : List ℕ) → Each IsBlank bs → (blanks : ℕ) (opened : Bool) (n : ℕ) (rest : List ℕ) → (signpost : code.Signpost)
    × (read (mode.SectionGap blanks opened) n (bs ++ 59 ∷ rest) ≡ found signpost (n + length bs + 1) rest)
section-read [] are blanks opened n rest = (
  answer.SectionEnd blanks,
  read-ends (mode.SectionGap blanks opened)
      (answer.SectionEnd blanks) n 59 rest refl ∙ ap (λ (k : ℕ). found (answer.SectionEnd blanks) k rest) (omega arith),
)
section-read (b ∷ bs) are blanks opened n rest =
    let size : n + 1 + length bs + 1 ≡ n + suc (length bs) + 1 = omega arith in
    let m : Mode = mode.SectionGap blanks opened in
    elim (blank-class b are.0) [
      | inl is ↦
          let (signpost, on) = section-read bs are.1 (one_more blanks) opened (n + 1) rest in (
            signpost,
            read-goes m (mode.SectionGap (one_more blanks) opened) n b (bs ++ 59 ∷ rest) (ap (λ (k : Class). step m k b) is)
                ∙ (on ∙ ap (λ (k : ℕ). found signpost k rest) size),
          )
      | inr is ↦
          let (signpost, on) = section-read bs are.1 (one_more blanks) true (n + 1) rest in (
            signpost,
            read-goes m (mode.SectionGap (one_more blanks) true) n b (bs ++ 59 ∷ rest) (ap (λ (k : Class). step m k b) is)
                ∙ (on ∙ ap (λ (k : ℕ). found signpost k rest) size),
          )
    ]

-- where a signpost may begin, these bytes begin one
first-hash : (m : Mode) → opened_in m ≡ true → step m class.Hash 35 ≡ Goes mode.Hash
first-hash mode.Closed e = absurd (false≢true e)
first-hash mode.Opened e = refl
first-hash mode.Hash e = absurd (false≢true e)
first-hash (mode.Digits name) e = absurd (false≢true e)
first-hash (mode.NameGap name blanks opened) e = ap (λ (o : Bool). step (mode.NameGap name blanks o) class.Hash 35) e
first-hash (mode.Word of taken) e = absurd (false≢true e)
first-hash (mode.SectionGap blanks opened) e = ap (λ (o : Bool). step (mode.SectionGap blanks o) class.Hash 35) e

first-letter : (m : Mode) (b : ℕ) → opened_in m ≡ true → step m class.Other b ≡ Goes (begun_word b)
first-letter mode.Closed b e = absurd (false≢true e)
first-letter mode.Opened b e = refl
first-letter mode.Hash b e = absurd (false≢true e)
first-letter (mode.Digits name) b e = absurd (false≢true e)
first-letter (mode.NameGap name blanks opened) b e = ap (λ (o : Bool). step (mode.NameGap name blanks o) class.Other b) e
first-letter (mode.Word of taken) b e = absurd (false≢true e)
first-letter (mode.SectionGap blanks opened) b e = ap (λ (o : Bool). step (mode.SectionGap blanks o) class.Other b) e

section-word : (rest : List ℕ) → read (mode.Word word.SectionEnd 1) 1 (78 ∷ 68 ∷ 83 ∷ 69 ∷ 67 ∷ rest) ≡ read (mode.SectionGap 0 false) 6 rest
unfolding read
section-word rest = refl

begin-word : (rest : List ℕ) → read (mode.Word word.FileBegin 1) 1 (83 ∷ 79 ∷ 45 ∷ 49 ∷ 48 ∷ 51 ∷ 48 ∷ 51 ∷ 45 ∷ 50 ∷ 49 ∷ rest) ≡ found answer.FileBegin 12 rest
unfolding read
begin-word rest = refl

end-word : (rest : List ℕ) → read (mode.Word word.SectionEnd 1) 1
    (78 ∷ 68 ∷ 45 ∷ 73 ∷ 83 ∷ 79 ∷ 45 ∷ 49 ∷ 48 ∷ 51 ∷ 48 ∷ 51 ∷ 45 ∷ 50 ∷ 49 ∷ rest) ≡ found answer.FileEnd 16 rest
unfolding read
end-word rest = refl

-- a signpost is found, with as many bytes as it has
pub signpost-run : (m : Mode) (n : ℕ) (signpost : Signpost) (rest : List ℕ) → opened_in m ≡ true → IsSignpost signpost
    → (own : code.Signpost) × (read m n (signpost_bytes signpost ++ rest) ≡ found own (length (signpost_bytes signpost)) rest)
signpost-run m n (landmark (instance [] blanks)) rest opened (some, are, are_blanks) = absurd (omega (arith, some))
signpost-run m n (landmark (instance (d ∷ ds) blanks)) rest opened (some, are, are_blanks) =
    let behind : List ℕ = blanks ++ 61 ∷ rest in
    let flat : ((d ∷ ds) ++ (blanks ++ 61 ∷ [])) ++ rest ≡ (d ∷ ds) ++ behind = append_assoc (d ∷ ds) (blanks ++ 61 ∷ []) rest
    ∙ ap (λ (bs : List ℕ). (d ∷ ds) ++ bs) (append_assoc blanks (61 ∷ []) rest) in
    let first = read-goes m mode.Hash n 35 ((d ∷ ds) ++ behind) (first-hash m opened) in
    let digit : step mode.Hash (class_of d) d ≡ Goes (mode.Digits (with_digit no_digits d)) = ap (λ (k : Class). step mode.Hash k d) (digit-class d are.0) in
    let second = read-goes mode.Hash (mode.Digits (with_digit no_digits d)) 1 d (ds ++ behind) digit in
    let (name, third) = digits-read ds are.1 (with_digit no_digits d) 2 behind in
    let (own, last) = name-read blanks are_blanks name (2 + length ds) rest in
    let lengths = length-append ds (blanks ++ 61 ∷ []) in
    let more = length-append blanks (61 ∷ []) in
    let size : 2 + length ds + length blanks + 1 ≡ length (signpost_bytes (landmark (instance (d ∷ ds) blanks))) = omega (arith, lengths, more) in
    (own, ap (λ (bs : List ℕ). read m n (35 ∷ bs)) flat ∙ (first ∙ (second ∙ (third ∙ (last ∙ ap (λ (k : ℕ). found own k rest) size)))))
signpost-run m n (landmark (section_end blanks)) rest opened are_blanks =
    let behind : List ℕ = blanks ++ 59 ∷ rest in
    let flat : (blanks ++ 59 ∷ []) ++ rest ≡ behind = append_assoc blanks (59 ∷ []) rest in
    let first = read-goes m (mode.Word word.SectionEnd 1) n 69 (78 ∷ 68 ∷ 83 ∷ 69 ∷ 67 ∷ behind) (first-letter m 69 opened) in
    let (own, last) = section-read blanks are_blanks 0 false 6 rest in
    let more = length-append blanks (59 ∷ []) in
    let size : 6 + length blanks + 1 ≡ length (signpost_bytes (landmark (section_end blanks))) = omega (arith, more) in
    (own, ap (λ (bs : List ℕ). read m n (69 ∷ 78 ∷ 68 ∷ 83 ∷ 69 ∷ 67 ∷ bs)) flat ∙ (first ∙ (section-word behind ∙ (last ∙ ap (λ (k : ℕ). found own k rest) size))))
signpost-run m n file_begin rest opened is = (
  answer.FileBegin,
  read-goes m (mode.Word word.FileBegin 1) n 73 (83 ∷ 79 ∷ 45 ∷ 49 ∷ 48 ∷ 51 ∷ 48 ∷ 51 ∷ 45 ∷ 50 ∷ 49 ∷ rest)
      (first-letter m 73 opened) ∙ begin-word rest,
)
signpost-run m n file_end rest opened is = (
  answer.FileEnd,
  read-goes m (mode.Word word.SectionEnd 1) n 69
      (78 ∷ 68 ∷ 45 ∷ 73 ∷ 83 ∷ 79 ∷ 45 ∷ 49 ∷ 48 ∷ 51 ∷ 48 ∷ 51 ∷ 45 ∷ 50 ∷ 49 ∷ rest) (first-letter m 69 opened) ∙ end-word rest,
)
