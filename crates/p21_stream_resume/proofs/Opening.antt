-- A state says whether a signpost may begin.
use Rattle.std.proofs.Common.{◌≡◌, ℕ, ◌+◌, Bool, true, false, cond, eqb, ltb, ◌&&◌, length, refl, subst, sym, Option, Some, None, slice_get}
use Rattle.std.proofs.lemmas.Bool.{and_parts, cond_both, eqb-true}
use Rattle.std.specs.List.{AllByRecursion as Each}
use Rattle.p21_spec_basics.proofs.Members.{Each-at}
use Rattle.p21_stream_resume.proofs.Opened.{opened_after}
use Rattle.p21_stream_resume.specs.Step.{begun_word, behind_word, class_of, due_step, hash_step, other_word_step, outside, step, word_bytes}
use Rattle.p21_stream_resume.specs.declared.class.Class.{Class}
use Rattle.p21_stream_resume.specs.declared.class.Class.TheVariants as class
use Rattle.p21_stream_resume.specs.declared.mode.Mode.{Mode}
use Rattle.p21_stream_resume.specs.declared.mode.Mode.TheVariants as mode
use Rattle.p21_stream_resume.specs.declared.mode.Step.{Step}
use Rattle.p21_stream_resume.specs.declared.mode.Step.TheVariants.{Goes, Ends}
use Rattle.p21_stream_resume.specs.declared.mode.Word.{Word}
use Rattle.p21_stream_resume.specs.declared.mode.Word.TheVariants as word

abbrev pub opened_in : Mode → Bool
opened_in mode.Closed = false
opened_in mode.Opened = true
opened_in mode.Hash = false
opened_in (mode.Digits name) = false
opened_in (mode.NameGap name blanks opened) = opened
opened_in (mode.Word of taken) = false
opened_in (mode.SectionGap blanks opened) = opened

-- the next state says it rightly, where one comes
abbrev pub SaysOpened : Bool → Class → Step → Type 0
SaysOpened opened kind (Goes next) = opened_in next ≡ opened_after opened kind
SaysOpened opened kind (Ends signpost) = Unit {0}

begun-closed : (b : ℕ) → opened_in (begun_word b) ≡ false
begun-closed b =
    let P : Mode → Type 0 = λ m. opened_in m ≡ false in
    cond_both (eqb b 69) (mode.Word word.SectionEnd 1) (cond (eqb b 73) (mode.Word word.FileBegin 1) mode.Closed) P (λ _. refl)
    (λ _. cond_both (eqb b 73) (mode.Word word.FileBegin 1) mode.Closed P (λ _. refl) (λ _. refl))

outside-says : (opened : Bool) (kind : Class) (b : ℕ) → opened_in (outside opened kind b) ≡ opened_after opened kind
outside-says opened class.Semicolon b = refl
outside-says opened class.Parenthesis b = refl
outside-says opened class.LineEnd b = refl
outside-says true class.Blank b = refl
outside-says false class.Blank b = refl
outside-says true class.Hash b = refl
outside-says false class.Hash b = refl
outside-says true class.Other b = begun-closed b
outside-says false class.Other b = refl
outside-says opened class.Digit b = refl
outside-says opened class.Equals b = refl

-- no byte of a word opens
word-closed : (of : Word) → Each (λ (b : ℕ). opened_after false (class_of b) ≡ false) (word_bytes of)
word-closed word.SectionEnd = (refl, (refl, (refl, (refl, (refl, (refl, tt))))))
word-closed word.FileBegin = (refl, (refl, (refl, (refl, (refl, (refl, (refl, (refl, (refl, (refl, (refl, (refl, tt))))))))))))
word-closed word.FileEnd = (refl, (refl, (refl, (refl, (refl, (refl, (refl, (refl, (refl, (refl, (refl, (refl, (refl, (refl, (refl, (refl, tt))))))))))))))))

behind_word-says : (of : Word) (b : ℕ) → opened_after false (class_of b) ≡ false → SaysOpened false (class_of b) (behind_word of)
behind_word-says word.SectionEnd b closed = sym closed
behind_word-says word.FileBegin b closed = tt
behind_word-says word.FileEnd b closed = tt

other_word-says : (of : Word) (taken b : ℕ) → SaysOpened false (class_of b) (other_word_step of taken (class_of b) b)
other_word-says word.SectionEnd taken b =
    let P : Step → Type 0 = λ s. SaysOpened false (class_of b) s in
    cond_both (eqb taken 3 && eqb b 45) (Goes (mode.Word word.FileEnd 4)) (Goes (outside false (class_of b) b)) P
    (λ e. let is : b ≡ 45 = eqb-true b 45 (and_parts (eqb taken 3) (eqb b 45) e).1 in let Q : ℕ → Type 0 =
    λ c. false ≡ opened_after false (class_of c) in subst Q (sym is) refl)
    (λ _. outside-says false (class_of b) b)
other_word-says word.FileBegin taken b = outside-says false (class_of b) b
other_word-says word.FileEnd taken b = outside-says false (class_of b) b

due-says : (of : Word) (taken b : ℕ) (due : Option ℕ) → slice_get (word_bytes of) taken ≡ due → SaysOpened false (class_of b) (due_step of taken (class_of b) b due)
due-says of taken b None is = outside-says false (class_of b) b
due-says of taken b (Some due) is =
    let P : Step → Type 0 = λ s. SaysOpened false (class_of b) s in
    let more : Step = Goes (mode.Word of (taken + 1)) in
    let inside : Step = cond (ltb (taken + 1) (length (word_bytes of))) more (behind_word of) in
    cond_both (eqb b due) inside (other_word_step of taken (class_of b) b) P
    (λ e.
    let Q : ℕ → Type 0 = λ c. opened_after false (class_of c) ≡ false in
    let closed : opened_after false (class_of b) ≡ false = subst Q (sym (eqb-true b due e)) (Each-at Q (word_bytes of) taken due (word-closed of) is) in
    cond_both (ltb (taken + 1) (length (word_bytes of))) more (behind_word of) P (λ _. sym closed) (λ _. behind_word-says of b closed))
    (λ _. other_word-says of taken b)

hash-says : (kind : Class) (b : ℕ) → SaysOpened false kind (hash_step kind b)
hash-says class.Digit b = refl
hash-says class.Hash b = refl
hash-says class.Equals b = refl
hash-says class.Semicolon b = refl
hash-says class.Parenthesis b = refl
hash-says class.LineEnd b = refl
hash-says class.Blank b = refl
hash-says class.Other b = refl

pub step-says : (m : Mode) (b : ℕ) → SaysOpened (opened_in m) (class_of b) (step m (class_of b) b)
step-says m b = by-class m (class_of b) refl
  where
    by-class : (m : Mode) (kind : Class) → class_of b ≡ kind → SaysOpened (opened_in m) kind (step m kind b)
    by-class mode.Closed kind is = outside-says false kind b
    by-class mode.Opened kind is = outside-says true kind b
    by-class mode.Hash kind is = hash-says kind b
    by-class (mode.Word of taken) kind is = subst (λ (k : Class). SaysOpened false k (due_step of taken k b (slice_get
        (word_bytes of) taken))) is (due-says of taken b (slice_get (word_bytes of) taken) refl)
    by-class (mode.Digits name) class.Equals is = tt
    by-class (mode.Digits name) class.Digit is = refl
    by-class (mode.Digits name) class.Hash is = refl
    by-class (mode.Digits name) class.Semicolon is = refl
    by-class (mode.Digits name) class.Parenthesis is = refl
    by-class (mode.Digits name) class.LineEnd is = refl
    by-class (mode.Digits name) class.Blank is = refl
    by-class (mode.Digits name) class.Other is = refl
    by-class (mode.NameGap name blanks opened) class.Equals is = tt
    by-class (mode.NameGap name blanks opened) class.Blank is = refl
    by-class (mode.NameGap name blanks opened) class.LineEnd is = refl
    by-class (mode.NameGap name blanks opened) class.Digit is = outside-says opened class.Digit b
    by-class (mode.NameGap name blanks opened) class.Hash is = outside-says opened class.Hash b
    by-class (mode.NameGap name blanks opened) class.Semicolon is = refl
    by-class (mode.NameGap name blanks opened) class.Parenthesis is = refl
    by-class (mode.NameGap name blanks opened) class.Other is = outside-says opened class.Other b
    by-class (mode.SectionGap blanks opened) class.Semicolon is = tt
    by-class (mode.SectionGap blanks opened) class.Blank is = refl
    by-class (mode.SectionGap blanks opened) class.LineEnd is = refl
    by-class (mode.SectionGap blanks opened) class.Digit is = outside-says opened class.Digit b
    by-class (mode.SectionGap blanks opened) class.Hash is = outside-says opened class.Hash b
    by-class (mode.SectionGap blanks opened) class.Equals is = outside-says opened class.Equals b
    by-class (mode.SectionGap blanks opened) class.Parenthesis is = refl
    by-class (mode.SectionGap blanks opened) class.Other is = outside-says opened class.Other b
