-- How bytes behind a statement begin.
use Rattle.std.proofs.Common.{◌≡◌, ◌⊎◌, ◌+◌, ◌-◌, ◌<◌, ◌^◌, inl, inr, ℕ, Bool, not, true, false, IsTrue, List, [], ◌∷◌, ◌++◌, length, length-append, refl, sym, ap, subst, ◌∙◌, append_assoc, append-nil, arith, lit<}
use Rattle.std.specs.Prelude.{codes}
use Rattle.p21_spec_basics.proofs.Members.{head_is, tail_is}
use Rattle.p21_spec_exchange.proofs.OneGap.{HasNoSeparator, gap-one}
use Rattle.p21_spec_exchange.specs.Separator.{blank, comment}
use Rattle.p21_spec_survey.specs.Survey.{BeginsWithEnd}
use Rattle.p21_stream_log.specs.Broken.{BeginsIn}
use Rattle.p21_stream_log.specs.Log.{Held}
use Rattle.p21_stream_log.specs.Opening.{IsFrontOfAll, MayBecome, OpensAs}
use Rattle.p21_stream_log.specs.declared.opening.Opening.TheVariants.{SectionEnd, Statement, Untold}
use Rattle.p21_tokens_automaton.proofs.OnePending.{begins-no_separator}
use Rattle.p21_shorter_tokens.specs.Gaps.{PassesSeparators}

pub not-true : (let r : Bool = false in r) ≡ true → ⊥
not-true is = cc

pub not-both : (b : Bool) → IsTrue (not b) → IsTrue b → ⊥
not-both true differs holds = not-true differs
not-both false differs holds = not-true holds

-- of two fronts of the same bytes one is the front of the other
pub front-of-other : (xs ys us vs : List ℕ) → xs ++ ys ≡ us ++ vs → IsFrontOfAll us xs ⊎ IsFrontOfAll xs us
front-of-other [] ys us vs same = inr (us, refl)
front-of-other (x ∷ xs) ys [] vs same = inl (x ∷ xs, refl)
front-of-other (x ∷ xs) ys (u ∷ us) vs same =
    let first : x ≡ u = head_is x u _ _ same in
    elim (front-of-other xs ys us vs (tail_is x u _ _ same)) [
      | inl (more, is) ↦ inl (more, ap (λ (l : List ℕ). x ∷ l) is ∙ ap (λ (b : ℕ). b ∷ (us ++ more)) first)
      | inr (more, is) ↦ inr (more, ap (λ (l : List ℕ). u ∷ l) is ∙ ap (λ (b : ℕ). b ∷ (xs ++ more)) (sym first))
    ]

-- no separator stands in front of ENDSEC
pub end-first : (more : List ℕ) → HasNoSeparator (codes "ENDSEC" ++ more)
end-first more = begins-no_separator (codes "ENDSEC" ++ more) (lit< tt, λ e. omega (arith, e), λ e. omega (arith, e))

-- ---- ENDSEC

pub opens-end : (bytes rest : List ℕ) → PassesSeparators bytes rest → IsFrontOfAll (codes "ENDSEC") rest → OpensAs bytes SectionEnd
opens-end bytes rest passes (more, is) = (passes.gap, more, passes.is_gap, passes.bytes_are ∙ ap (λ (l : List ℕ). passes.gap ++ l) is)

no-end : (bytes rest : List ℕ) → PassesSeparators bytes rest → ¬ IsFrontOfAll (codes "ENDSEC") rest → ¬ BeginsWithEnd bytes
no-end bytes rest passes other (gap, more, is_gap, is) =
    other (
      more,
      gap-one passes.gap gap rest (codes "ENDSEC" ++ more) passes.is_gap is_gap passes.ends (end-first more)
          (sym passes.bytes_are ∙ is),
    )

-- ---- it isn't told

pub opens-untold : (bytes rest : List ℕ) → PassesSeparators bytes rest → ¬ IsFrontOfAll (codes "ENDSEC") rest → MayBecome rest
    → OpensAs bytes Untold
opens-untold bytes rest passes other may = (no-end bytes rest passes other, (rest, passes, may))

-- ---- a statement

-- where no separator stands first and no remark may begin, none stands first with more bytes behind
no-separator : (rest more : List ℕ) → HasNoSeparator rest → ¬ IsFrontOfAll rest (codes "/*") → ¬ IsFrontOfAll (codes "/*") rest
    → HasNoSeparator (rest ++ more)
no-separator [] more none short long separator behind is same = short (codes "/*", refl)
no-separator (b ∷ rest) more none short long (blank c) behind is same =
    none (blank c) rest is (ap (λ (x : ℕ). x ∷ rest) (head_is b c _ _ same))
no-separator (b ∷ []) more none short long (comment inside) behind is same =
    let first : b ≡ 47 = head_is b 47 _ _ same in short (42 ∷ [], ap (λ (x : ℕ). x ∷ 42 ∷ []) (sym first))
no-separator (b ∷ c ∷ rest) more none short long (comment inside) behind is same =
    let first : b ≡ 47 = head_is b 47 _ _ same in
    let second : c ≡ 42 = head_is c 42 _ _ (tail_is b 47 _ _ same) in
    long (rest, ap (λ (x : ℕ). x ∷ c ∷ rest) first ∙ ap (λ (x : ℕ). 47 ∷ x ∷ rest) second)

pub opens-statement : (bytes rest : List ℕ) → PassesSeparators bytes rest → ¬ IsFrontOfAll (codes "ENDSEC") rest → ¬ MayBecome rest
    → OpensAs bytes Statement
opens-statement bytes rest passes other not = (
  record { gap = passes.gap; rest = rest; bytes_are = passes.bytes_are; separates = passes.is_gap; no_more = none },
  λ more. no-end (bytes ++ more) (rest ++ more) (further more) (not-front more),
)
  where
    none : (more : List ℕ) → HasNoSeparator (rest ++ more)
    none more = no-separator rest more passes.ends (λ short. not (inr (inl short))) (λ long. not (inr (inr long)))

    further : (more : List ℕ) → PassesSeparators (bytes ++ more) (rest ++ more)
    further more = record {
      gap = passes.gap;
      bytes_are = ap (λ (l : List ℕ). l ++ more) passes.bytes_are
          ∙ append_assoc passes.gap rest more;
      is_gap = passes.is_gap;
      ends = none more;
    }

    not-front : (more : List ℕ) → ¬ IsFrontOfAll (codes "ENDSEC") (rest ++ more)
    not-front more (behind, is) = elim (front-of-other rest more (codes "ENDSEC") behind is)
        [ inl long ↦ other long | inr short ↦ not (inl short) ]

-- ---- where it begins

pub begins-in : (held : Held) (bytes rest : List ℕ) (begins : ℕ) → PassesSeparators bytes rest
    → (held.start + (length bytes - length rest) < 2 ^ 64 → begins ≡ held.start + (length bytes - length rest)) → BeginsIn held bytes begins
begins-in held bytes rest begins passes is file behind read start low file_is told = record {
  gap = passes.gap;
  rest = rest ++ behind;
  file_is = file_is ∙ ap (λ (l : List ℕ). read.bytes ++ l)
      (ap (λ (l : List ℕ). l ++ behind) passes.bytes_are ∙ append_assoc passes.gap rest behind);
  separates = passes.is_gap;
  no_more = elim told [
    | inl begun ↦ (
        let own : HasNoSeparator begun.rest = subst HasNoSeparator (append-nil begun.rest) (begun.no_more []) in
        let same : begun.rest ≡ rest = gap-one begun.gap passes.gap begun.rest rest begun.separates passes.is_gap own passes.ends
        (sym begun.bytes_are ∙ passes.bytes_are) in
        subst (λ (l : List ℕ). HasNoSeparator (l ++ behind)) same (begun.no_more behind))
    | inr none ↦ subst HasNoSeparator (sym (append-nil rest) ∙ ap (λ (l : List ℕ). rest ++ l) (sym none)) passes.ends
  ];
  begins_is =
      let sizes = ap length passes.bytes_are in
      let parts = length-append passes.gap rest in
      let front = length-append read.bytes passes.gap in
      let all = length-append read.bytes bytes in
      let within : held.start + (length bytes - length rest) < 2 ^ 64 = omega (arith, sizes, parts, all, low, start) in
      let begins_ = is within in
      omega (arith, begins_, sizes, parts, front, start);
}
