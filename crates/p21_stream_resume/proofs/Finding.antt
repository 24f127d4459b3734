-- What a seeker answers is the first signpost that stands in the bytes.
use Rattle.std.proofs.Common.{◌≡◌, ℕ, suc, ◌+◌, Bool, true, false, List, [], ◌∷◌, ◌++◌, length, refl, sym, ap, subst, ◌∙◌, append_assoc, append-nil, arith}
use Rattle.std.specs.Prelude.{◌↔◌, ◌≢◌, ◌==◌, if◌then◌else◌, IsTrue}
use Rattle.std.proofs.lemmas.Bool.{eqb-true}
use Rattle.std.proofs.lemmas.List.{length-append}
use Rattle.p21_spec_survey.specs.Landmark.{BeginsNoSignpost, IsFirstSignpost, IsOpened, Signpost, StandsAt, signpost_bytes}
use Rattle.p21_stream_resume.proofs.Opening.{opened_in}
use Rattle.p21_stream_resume.proofs.Runs.{carried, opened-behind, read-append, read-ends, read-goes, read-nil, signpost-run}
use Rattle.p21_stream_resume.proofs.Shapes.{Fits, Follows, IsEnded, begins_one, goes_on, stays_out, step-fits}
use Rattle.p21_stream_resume.specs.Reading.{Ending, found, open_at, read, size_in, start}
use Rattle.p21_stream_resume.specs.Seeking.{Held, Seeks, begun_behind, held_behind}
use Rattle.p21_stream_resume.specs.Shape.{Describes, HasShape}
use Rattle.p21_stream_resume.specs.Step.{class_of, step}
use Rattle.p21_stream_resume.specs.declared.mode.Mode.{Mode}
use Rattle.p21_stream_resume.specs.declared.mode.Mode.TheVariants as mode
use Rattle.p21_stream_resume.specs.declared.mode.Step.{Step}
use Rattle.p21_stream_resume.specs.declared.mode.Step.TheVariants.{Goes, Ends}
use Rattle.p21_stream_resume.specs.declared.signpost.Signpost as code

-- ---- bytes in which no signpost is whole

start-opened : (opened : Bool) → opened_in (start opened) ≡ opened
start-opened true = refl
start-opened false = refl

-- at the front of such bytes no signpost is whole either
front-open : (m : Mode) (n : ℕ) (xs ys : List ℕ) (last : Mode) (size : ℕ) → read m n (xs ++ ys) ≡ open_at last size → (middle : Mode)
    × (k : ℕ) × (read m n xs ≡ open_at middle k)
front-open m n xs ys last size is = by-ending (read m n xs) refl (sym (read-append m n xs ys) ∙ is)
  where
    by-ending : (e : Ending) → read m n xs ≡ e → carried e ys ≡ open_at last size → (middle : Mode) × (k : ℕ) × (read m n xs ≡ open_at middle k)
    by-ending (open_at middle k) first rest = (middle, k, first)
    by-ending (found signpost k more) first rest = cc

abbrev size_of : Ending → ℕ
size_of (open_at m n) = n
size_of (found signpost n rest) = n

abbrev rest_of : Ending → List ℕ
rest_of (open_at m n) = []
rest_of (found signpost n rest) = rest

-- where a signpost stands the bytes up to it are open, and it is found
pub signpost-found : (before front bytes : List ℕ) (opened : Bool) (m : Mode) (n : ℕ) (signpost : Signpost)
    → (IsTrue opened ↔ IsOpened before) → read (start opened) 0 front ≡ open_at m n → (stands : StandsAt (before ++ front) bytes signpost)
    → (own : code.Signpost) × (read (start opened) 0 (front ++ bytes) ≡ found own (length (signpost_bytes signpost)) stands.rest)
signpost-found before front bytes opened m n signpost known is stands =
    let known_ : IsTrue (opened_in (start opened)) ↔ IsOpened before = subst (λ (o : Bool). IsTrue o ↔ IsOpened before) (sym (start-opened opened)) known in
    let may = opened-behind front (start opened) m 0 n before known_ is in
    let (own, run) = signpost-run m n signpost stands.rest (may.1 stands.opened) stands.is_signpost in
    (own, read-append (start opened) 0 front bytes ∙ (ap (λ (e : Ending). carried e bytes) is ∙ (ap (λ (bs : List ℕ). read m n bs) stands.bytes_are ∙ run)))

-- no signpost is whole in them
pub none-whole : (before passed : List ℕ) (held : Held) → Seeks before passed held → BeginsNoSignpost before passed []
none-whole before passed held seeks front back byte signpost are stands =
    let rest : List ℕ = byte ∷ (back ++ []) in
    let whole : passed ≡ front ++ rest = are ∙ ap (λ (bs : List ℕ). front ++ byte ∷ bs) (sym (append-nil back)) in
    let still : read (start seeks.opened) 0 (front ++ rest) ≡ open_at held.mode (length held.begun) =
    ap (λ (bs : List ℕ). read (start seeks.opened) 0 bs) (sym whole) ∙ seeks.reads in
    let (middle, k, first) = front-open (start seeks.opened) 0 front rest held.mode (length held.begun) still in
    let (own, ends) = signpost-found before front rest seeks.opened middle k signpost seeks.opens first stands in
    let wrong : open_at held.mode (length held.begun) ≡ found own (length (signpost_bytes signpost)) stands.rest = sym still ∙ ends in
    cc

-- ---- one byte more

flat : (xs ys zs : List ℕ) (b : ℕ) → (xs ++ ys) ++ b ∷ zs ≡ xs ++ ((ys ++ b ∷ []) ++ zs)
flat xs ys zs b = append_assoc xs ys (b ∷ zs) ∙ ap (λ (bs : List ℕ). xs ++ bs) (sym (append_assoc ys (b ∷ []) zs))

-- the bytes of the signpost that is open, where none is, the byte begins one, or it goes on
module _ (m next : Mode) (begun : List ℕ) (b : ℕ) where
  none-begun : (k : Mode) → size_in k (length begun) ≡ 0 → HasShape k [] → begun_behind k begun b ≡ []
  none-begun mode.Closed size shape = refl
  none-begun mode.Opened size shape = refl
  none-begun mode.Hash size shape = absurd (omega (arith, size))
  none-begun (mode.Word of taken) size shape = let some = shape.1 in absurd (omega (arith, size, some))
  none-begun (mode.Digits name) size shape = absurd (omega (arith, size))
  none-begun (mode.NameGap name blanks opened) size shape = absurd (omega (arith, size))
  none-begun (mode.SectionGap blanks opened) size shape = absurd (omega (arith, size))

  no-length : (xs : List ℕ) → length xs ≡ 0 → xs ≡ []
  no-length [] is = refl
  no-length (x ∷ xs) is = cc

  one-begun : (k : Mode) → size_in k (length begun) ≡ 1 → HasShape k (b ∷ []) → begun_behind k begun b ≡ b ∷ []
  one-begun mode.Closed size shape = absurd (omega (arith, size))
  one-begun mode.Opened size shape = absurd (omega (arith, size))
  one-begun mode.Hash size shape = refl
  one-begun (mode.Word of taken) size shape = rw size refl
  one-begun (mode.Digits name) size shape = ap (λ (l : List ℕ). l ++ b ∷ []) (no-length begun (omega (arith, size)))
  one-begun (mode.NameGap name blanks opened) size shape = ap (λ (l : List ℕ). l ++ b ∷ []) (no-length begun (omega (arith, size)))
  one-begun (mode.SectionGap blanks opened) size shape = ap (λ (l : List ℕ). l ++ b ∷ []) (no-length begun (omega (arith, size)))

  on-begun : (k : Mode) → begun ≢ [] → size_in k (length begun) ≡ length begun + 1 → begun_behind k begun b ≡ begun ++ b ∷ []
  on-begun mode.Closed some size = absurd (omega (arith, size))
  on-begun mode.Opened some size = absurd (omega (arith, size))
  on-begun mode.Hash some size = absurd (some (no-length begun (omega (arith, size))))
  on-begun (mode.Word of taken) some size = ap (λ (l : List ℕ). l ++ b ∷ []) (chosen (taken == 1) refl)
    where
      chosen : (one : Bool) → (taken == 1) ≡ one → (if one then [] else begun) ≡ begun
      chosen true is = let one : taken ≡ 1 = eqb-true taken 1 is in absurd (some (no-length begun (omega (arith, size, one))))
      chosen false is = refl
  on-begun (mode.Digits name) some size = refl
  on-begun (mode.NameGap name blanks opened) some size = refl
  on-begun (mode.SectionGap blanks opened) some size = refl

pub seeks-goes : (before passed : List ℕ) (held : Held) (next : Mode) (b : ℕ) → Seeks before passed held → step held.mode (class_of b) b ≡ Goes next → Seeks before (passed ++ b ∷ []) (held_behind held next b)
seeks-goes before passed held next b seeks is =
    by-follows (subst (λ (s : Step). Fits held.mode held.begun b s) is (step-fits held.mode held.begun b seeks.shape))
  where
    reads : read (start seeks.opened) 0 (passed ++ b ∷ []) ≡ open_at next (size_in next (length held.begun))
    reads =
        read-append (start seeks.opened) 0 passed (b ∷ [])
        ∙ (ap (λ (e : Ending). carried e (b ∷ [])) seeks.reads
        ∙ (read-goes held.mode next (length held.begun) b [] is ∙ read-nil next (size_in next (length held.begun))))

    known : IsTrue (opened_in (start seeks.opened)) ↔ IsOpened before
    known = subst (λ (o : Bool). IsTrue o ↔ IsOpened before) (sym (start-opened seeks.opened)) seeks.opens

    -- with these bytes of a signpost that is open
    With : List ℕ → Type 0
    With begun = Seeks before (passed ++ b ∷ []) (record { mode = next; begun = begun })

    by-follows : Follows held.mode held.begun b next → Seeks before (passed ++ b ∷ []) (held_behind held next b)
    by-follows (stays_out shape size_is) = subst With (sym (none-begun held.mode next held.begun b next size_is shape)) (record {
      opened = seeks.opened;
      opens = seeks.opens;
      skipped = passed ++ b ∷ [];
      passed_are = sym (append-nil (passed ++ b ∷ []));
      reads = reads ∙ ap (λ (k : ℕ). open_at next k) size_is;
      shape = shape;
      may_begin = λ some. absurd (some refl);
    })
    by-follows (begins_one may shape size_is) = subst With (sym (one-begun held.mode next held.begun b next size_is shape)) (record {
      opened = seeks.opened;
      opens = seeks.opens;
      skipped = passed;
      passed_are = refl;
      reads = reads ∙ ap (λ (k : ℕ). open_at next k) size_is;
      shape = shape;
      may_begin = λ _. (opened-behind passed (start seeks.opened) held.mode 0 (length held.begun) before known seeks.reads).0 may;
    })
    by-follows (goes_on some shape size_is) =
        let longer : length held.begun + 1 ≡ length (held.begun ++ b ∷ []) = sym (length-append held.begun (b ∷ [])) in
        subst With (sym (on-begun held.mode next held.begun b next some size_is)) (record {
          opened = seeks.opened;
          opens = seeks.opens;
          skipped = seeks.skipped;
          passed_are = ap (λ (bs : List ℕ). bs ++ b ∷ []) seeks.passed_are ∙ append_assoc seeks.skipped held.begun (b ∷ []);
          reads = reads ∙ ap (λ (k : ℕ). open_at next k) (size_is ∙ longer);
          shape = shape;
          may_begin = λ _. seeks.may_begin some;
        })

-- the byte ends the first signpost, whatever stands behind it
pub seeks-ends : (before passed : List ℕ) (held : Held) (own : code.Signpost) (b : ℕ) → Seeks before passed held
    → step held.mode (class_of b) b ≡ Ends own → (skipped : List ℕ) × (signpost : Signpost) × Describes own signpost
    × ((more : List ℕ) → IsFirstSignpost before (passed ++ b ∷ more) skipped signpost more) × (held.begun ++ b ∷ [] ≡ signpost_bytes signpost)
seeks-ends before passed held own b seeks is =
    let ended : IsEnded held.begun b own = subst (λ (s : Step). Fits held.mode held.begun b s) is (step-fits held.mode held.begun b seeks.shape) in
    (seeks.skipped, ended.signpost, ended.describes, λ more. first ended more, ended.bytes_are)
  where
    none-before : (ended : IsEnded held.begun b own) (more : List ℕ) → BeginsNoSignpost before seeks.skipped (signpost_bytes ended.signpost ++ more)
    none-before ended more front back byte signpost are stands =
        let tail : List ℕ = signpost_bytes ended.signpost ++ more in
        let rest : List ℕ = byte ∷ (back ++ tail) in
        let whole : front ++ rest ≡ passed ++ b ∷ more =
        sym (append_assoc front (byte ∷ back) tail)
        ∙ (ap (λ (bs : List ℕ). bs ++ tail) (sym are) ∙ (ap (λ (bs : List ℕ). seeks.skipped ++ (bs ++ more)) (sym ended.bytes_are)
        ∙ (sym (flat seeks.skipped held.begun more b) ∙ ap (λ (bs : List ℕ). bs ++ b ∷ more) (sym seeks.passed_are)))) in
        let still : read (start seeks.opened) 0 (front ++ ((byte ∷ back) ++ held.begun)) ≡ open_at held.mode (length held.begun) =
        ap (λ (bs : List ℕ). read (start seeks.opened) 0 bs) (sym (append_assoc front (byte ∷ back) held.begun)
        ∙ (ap (λ (bs : List ℕ). bs ++ held.begun) (sym are) ∙ sym seeks.passed_are)) ∙ seeks.reads in
        let (middle, k, first) = front-open (start seeks.opened) 0 front ((byte ∷ back) ++ held.begun) held.mode (length held.begun) still in
        let (other, ends) = signpost-found before front rest seeks.opened middle k signpost seeks.opens first stands in
        let known : read (start seeks.opened) 0 (passed ++ b ∷ more) ≡ found own (length held.begun + 1) more =
        read-append (start seeks.opened) 0 passed (b ∷ more)
        ∙ (ap (λ (e : Ending). carried e (b ∷ more)) seeks.reads ∙ read-ends held.mode own (length held.begun) b more is) in
        let same : found other (length (signpost_bytes signpost)) stands.rest ≡ found own (length held.begun + 1) more = sym ends
        ∙ (ap (λ (bs : List ℕ). read (start seeks.opened) 0 bs) whole ∙ known) in
        let size : length (signpost_bytes signpost) ≡ length held.begun + 1 = ap size_of same in
        let left : stands.rest ≡ more = ap rest_of same in
        let lengths : suc (length (back ++ tail)) ≡ length (signpost_bytes signpost) + length stands.rest =
        ap (λ (bs : List ℕ). length bs) stands.bytes_are ∙ length-append (signpost_bytes signpost) stands.rest in
        let behind = length-append back tail in
        let tails = length-append (signpost_bytes ended.signpost) more in
        let own_size : length held.begun + 1 ≡ length (signpost_bytes ended.signpost) = sym (length-append held.begun (b ∷ []))
        ∙ ap (λ (bs : List ℕ). length bs) ended.bytes_are in
        let equal : length stands.rest ≡ length more = ap (λ (bs : List ℕ). length bs) left in
        omega (arith, size, lengths, behind, tails, own_size, equal)

    first : (ended : IsEnded held.begun b own) (more : List ℕ) → IsFirstSignpost before (passed ++ b ∷ more) seeks.skipped ended.signpost more
    first ended more = record {
      bytes_are = ap (λ (bs : List ℕ). bs ++ b ∷ more) seeks.passed_are
          ∙ (flat seeks.skipped held.begun more b ∙ ap (λ (bs : List ℕ). seeks.skipped ++ (bs ++ more)) ended.bytes_are);
      stands = record { is_signpost = ended.is_signpost; opened = seeks.may_begin ended.some; rest = more; bytes_are = refl };
      none_before = none-before ended more;
    }
