-- Bytes of which it isn't told how they begin are refused by no step: some file begins with them.
use Rattle.std.proofs.Common.{◌≡◌, ◌⊎◌, inl, inr, ℕ, true, List, [], ◌∷◌, ◌++◌, length, length-append, Ok, refl, sym, ap, subst, ◌∙◌, append_assoc, append-nil, arith, lit<}
use Rattle.std.proofs.lemmas.Bool.{cases_eq}
use Rattle.std.proofs.lemmas.Grind.{flat_map-append}
use Rattle.std.specs.List.{flat_map, AllByRecursion as Each}
use Rattle.std.specs.Prelude.{codes}
use Rattle.p21_grammar.proofs.Holding.{walk-append}
use Rattle.p21_grammar.proofs.Theorems.{whole_file}
use Rattle.p21_grammar.specs.Sound.{IsSound}
use Rattle.p21_grammar.specs.Stage.{is_in_data, walk}
use Rattle.p21_grammar.specs.declared.stage.Stage.{Stage}
use Rattle.p21_grammar.specs.declared.stage.Stage.TheVariants as stage
use Rattle.p21_spec_basics.proofs.Members.{Each-append, Each-back, head_is, tail_is}
use Rattle.p21_spec_basics.specs.Digits.{IsByte}
use Rattle.p21_spec_exchange.proofs.OneGap.{HasNoSeparator}
use Rattle.p21_spec_exchange.specs.Keyword.{IsKeywordByte}
use Rattle.p21_spec_exchange.specs.Laying.{LaidAs, Lexeme, tokens_in}
use Rattle.p21_spec_exchange.specs.Separator.{IsCommentText, IsSeparator, IsSeparatorText, comment, separator_bytes}
use Rattle.p21_spec_exchange.specs.Statement.{Statement, finish, section, section_end, statement_tokens}
use Rattle.p21_spec_exchange.specs.Token as token
use Rattle.p21_spec_exchange.specs.Token.{Token}
use Rattle.p21_spec_survey.specs.Whole.{AreWhole, BeginsNoneAlike, JoinedIsLaid}
use Rattle.p21_spec_syntax.specs.FileWithin.{IsNoFile}
use Rattle.p21_stream_log.proofs.Breaking.{none-begins}
use Rattle.p21_stream_log.proofs.GoingOn.{reader-leads, reader-sound}
use Rattle.p21_stream_log.proofs.InSection.{data-stage}
use Rattle.p21_stream_log.proofs.Taking.{tokens-append}
use Rattle.p21_stream_log.specs.Laws.{RefusedIsTold}
use Rattle.p21_stream_log.specs.Opening.{MayBecome}
use Rattle.p21_shorter_tokens.specs.Gaps.{PassesSeparators}

-- ---- a remark that isn't ended

text-nil : IsCommentText []
text-nil [] after same = sym (tail_is 47 47 _ _ (tail_is 42 42 _ _ same))
text-nil (x ∷ before) after same = let size = ap length same in let sum = length-append before (42 ∷ 47 ∷ after) in
    absurd (omega (arith, size, sum))

text-on : (b : ℕ) (bytes : List ℕ) → IsCommentText bytes → ((after : List ℕ) → b ∷ (bytes ++ (42 ∷ 47 ∷ [])) ≡ 42 ∷ 47 ∷ after → ⊥)
    → IsCommentText (b ∷ bytes)
text-on b bytes text other [] after same = absurd (other after same)
text-on b bytes text other (x ∷ before) after same = text before after (tail_is b x _ _ same)

first-of : (c : ℕ) (bytes before after rest : List ℕ) → c ∷ bytes ≡ before ++ (42 ∷ 47 ∷ after) → before ++ (42 ∷ 47 ∷ []) ≡ 47 ∷ rest
    → c ≡ 47
first-of c bytes [] after rest same begins = let h : 42 ≡ 47 = head_is 42 47 _ _ begins in absurd (omega (arith, h))
first-of c bytes (y ∷ before) after rest same begins = head_is c y _ _ same ∙ head_is y 47 _ _ begins

-- they end no remark, or the first one that they end is at their front
abbrev IsClosed : List ℕ → Type 0
IsClosed inside = IsCommentText inside ⊎ ((before : List ℕ) × (after : List ℕ) × IsCommentText before
    × (inside ≡ before ++ (42 ∷ 47 ∷ after)))

closed-on : (b c : ℕ) (bytes : List ℕ) → ((b ≡ 42) → (c ≡ 47) → ⊥) → IsClosed (c ∷ bytes) → IsClosed (b ∷ c ∷ bytes)
closed-on b c bytes not (inl text) = inl (text-on b (c ∷ bytes) text
    (λ after same. not (head_is b 42 _ _ same) (head_is c 47 _ _ (tail_is b 42 _ _ same))))
closed-on b c bytes not (inr (before, after, text, is)) =
    inr (
      b ∷ before,
      after,
      text-on b before text (λ rest same. not (head_is b 42 _ _ same)
          (first-of c bytes before after rest is (tail_is b 42 _ _ same))),
      ap (λ (l : List ℕ). b ∷ l) is,
    )

closed-by : (b c : ℕ) (bytes : List ℕ) → IsClosed (c ∷ bytes) → (b ≡ 42) ⊎ (b ≡ 42 → ⊥) → (c ≡ 47) ⊎ (c ≡ 47 → ⊥) → IsClosed (b ∷ c ∷ bytes)
closed-by b c bytes deeper (inl star) (inl slash) =
    inr ([], bytes, text-nil, ap (λ (x : ℕ). x ∷ c ∷ bytes) star ∙ ap (λ (x : ℕ). 42 ∷ x ∷ bytes) slash)
closed-by b c bytes deeper (inl star) (inr other) = closed-on b c bytes (λ is slash. other slash) deeper
closed-by b c bytes deeper (inr other) slash = closed-on b c bytes (λ star is. other star) deeper

closes : (inside : List ℕ) → IsClosed inside
closes [] = inl text-nil
closes (b ∷ []) = inl (text-on b [] text-nil (λ after same.
    (let h : 42 ≡ 47 = head_is 42 47 _ _ (tail_is b 42 _ _ same) in omega (arith, h))))
closes (b ∷ c ∷ bytes) = closed-by b c bytes (closes (c ∷ bytes)) (cases_eq b 42) (cases_eq c 47)

open-text : (inside : List ℕ) → HasNoSeparator (47 ∷ 42 ∷ inside) → IsCommentText inside
open-text inside none = elim (closes inside) [
  | inl text ↦ text
  | inr (before, after, text, is) ↦ absurd (none (comment before) after text
      (ap (λ (l : List ℕ). 47 ∷ 42 ∷ l) (is ∙ sym (append_assoc before (42 ∷ 47 ∷ []) after))))
]

-- ---- bytes that end the section and the file

abbrev end_bytes : List ℕ
end_bytes = codes "ENDSEC;END-ISO-10303-21;"

abbrev behind_end : List ℕ
behind_end = codes ";END-ISO-10303-21;"

word-bytes : Each IsByte (codes "ENDSEC")
word-bytes = (lit< tt, (lit< tt, (lit< tt, (lit< tt, (lit< tt, (lit< tt, tt))))))

behind-bytes : Each IsByte behind_end
behind-bytes = (
  lit< tt,
  (
    lit< tt,
    (
      lit< tt,
      (
        lit< tt,
        (
          lit< tt,
          (
            lit< tt,
            (
              lit< tt,
              (
                lit< tt,
                (
                  lit< tt,
                  (
                    lit< tt,
                    (
                      lit< tt,
                      (
                        lit< tt,
                        (
                          lit<
                              tt,
                          (lit< tt, (lit< tt, (lit< tt, (lit< tt, (lit< tt, tt))))),
                        ),
                      ),
                    ),
                  ),
                ),
              ),
            ),
          ),
        ),
      ),
    ),
  ),
)

end-are : Each IsByte end_bytes
end-are = Each-append IsByte (codes "ENDSEC") behind_end word-bytes behind-bytes

-- with more bytes they are separators, and these
record IsCompleted (bytes : List ℕ) : Type 0 where
  tail : List ℕ
  are : Each IsByte tail
  gap : List ℕ
  separates : IsSeparatorText gap
  is : bytes ++ tail ≡ gap ++ end_bytes

joined-gaps : (front other : List ℕ) → IsSeparatorText front → IsSeparatorText other → IsSeparatorText (front ++ other)
joined-gaps front other (us, are, is) (vs, are_, is_) = (
  us ++ vs,
  Each-append IsSeparator us vs are are_,
  ap (λ (x : List ℕ). x ++ other) is ∙ (ap (λ (x : List ℕ). flat_map separator_bytes us ++ x) is_
      ∙ sym (flat_map-append separator_bytes us vs)),
)

one-gap : (inside : List ℕ) → IsCommentText inside → IsSeparatorText (47 ∷ 42 ∷ (inside ++ (42 ∷ 47 ∷ [])))
one-gap inside text = (comment inside ∷ [], (text, tt), sym (append-nil (47 ∷ 42 ∷ (inside ++ (42 ∷ 47 ∷ [])))))

completed : (bytes rest : List ℕ) → PassesSeparators bytes rest → MayBecome rest → IsCompleted bytes
completed bytes rest passes (inl (left, is)) = record {
  tail = left ++ behind_end;
  are = Each-append IsByte left behind_end (Each-back IsByte rest left (subst (λ (l : List ℕ). Each IsByte l) is word-bytes)) behind-bytes;
  gap = passes.gap;
  separates = passes.is_gap;
  is =
      ap (λ (l : List ℕ). l ++ (left ++ behind_end)) passes.bytes_are
      ∙ (append_assoc passes.gap rest (left ++ behind_end)
      ∙ ap (λ (l : List ℕ). passes.gap ++ l) (sym (append_assoc rest left behind_end) ∙ ap (λ (l : List ℕ). l ++ behind_end) (sym is)));
}
completed bytes rest passes (inr (inl (left, is))) = record {
  tail = left ++ (42 ∷ 47 ∷ end_bytes);
  are = Each-append IsByte left (42 ∷ 47 ∷ end_bytes)
      (Each-back IsByte rest left (subst (λ (l : List ℕ). Each IsByte l) is (lit< tt, (lit< tt, tt)))) (lit< tt, (lit< tt, end-are));
  gap = passes.gap ++ (47 ∷ 42 ∷ 42 ∷ 47 ∷ []);
  separates = joined-gaps passes.gap (47 ∷ 42 ∷ 42 ∷ 47 ∷ []) passes.is_gap (one-gap [] text-nil);
  is =
      ap (λ (l : List ℕ). l ++ (left ++ (42 ∷ 47 ∷ end_bytes))) passes.bytes_are
      ∙ (append_assoc passes.gap rest (left ++ (42 ∷ 47 ∷ end_bytes))
      ∙ (ap (λ (l : List ℕ). passes.gap ++ l) (sym (append_assoc rest left (42 ∷ 47 ∷ end_bytes))
      ∙ ap (λ (l : List ℕ). l ++ (42 ∷ 47 ∷ end_bytes)) (sym is)) ∙ sym (append_assoc passes.gap (47 ∷ 42 ∷ 42 ∷ 47 ∷ []) end_bytes)));
}
completed bytes rest passes (inr (inr (inside, is))) =
    let text : IsCommentText inside = open-text inside (subst HasNoSeparator is passes.ends) in
    let remark : List ℕ = 47 ∷ 42 ∷ (inside ++ (42 ∷ 47 ∷ [])) in
    record {
      tail = 42 ∷ 47 ∷ end_bytes;
      are = (lit< tt, (lit< tt, end-are));
      gap = passes.gap ++ remark;
      separates = joined-gaps passes.gap remark passes.is_gap (one-gap inside text);
      is =
          ap (λ (l : List ℕ). l ++ (42 ∷ 47 ∷ end_bytes)) (passes.bytes_are ∙ ap (λ (l : List ℕ). passes.gap ++ l) is)
          ∙ (append_assoc passes.gap (47 ∷ 42 ∷ inside) (42 ∷ 47 ∷ end_bytes)
          ∙ (ap (λ (l : List ℕ). passes.gap ++ (47 ∷ 42 ∷ l)) (sym (append_assoc inside (42 ∷ 47 ∷ []) end_bytes))
          ∙ sym (append_assoc passes.gap remark end_bytes)));
    }

-- ---- their tokens

abbrev end_lexemes : List Lexeme
end_lexemes =
    record { token = token.keyword (codes "ENDSEC"); size = 6 } ∷ record { token = token.semicolon; size = 1 } ∷ record {
      token =
          token.finish;
      size = 16;
    } ∷ record { token = token.semicolon; size = 1 } ∷ []

abbrev ending : List Statement
ending = section section_end ∷ section finish ∷ []

no-gap : IsSeparatorText []
no-gap = ([], tt, refl)

not-keyword : IsKeywordByte 59 → ⊥
not-keyword (inl (inl upper)) = omega (arith, upper)
not-keyword (inl (inr line)) = omega (arith, line)
not-keyword (inr digit) = omega (arith, digit)

end-laid : (gap : List ℕ) → IsSeparatorText gap → LaidAs (gap ++ end_bytes) end_lexemes
end-laid gap separates = (
  gap,
  codes "ENDSEC",
  behind_end,
  refl,
  separates,
  (
    refl,
    (
      inl (omega arith, omega arith),
      (
        inl (inl (omega arith, omega arith)),
        (
          inl (inl (omega arith, omega arith)),
          (
            inl (inl (omega arith, omega arith)),
            (inl (inl (omega arith, omega arith)), (inl (inl (omega arith, omega arith)), tt)),
          ),
        ),
      ),
    ),
  ),
  refl,
  (not-keyword, λ same. omega (arith, same)),
  (
    [],
    codes ";",
    codes "END-ISO-10303-21;",
    refl,
    no-gap,
    refl,
    refl,
    tt,
    (
      [],
      codes "END-ISO-10303-21",
      codes ";",
      refl,
      no-gap,
      refl,
      refl,
      not-keyword,
      ([], codes ";", [], refl, no-gap, refl, refl, tt, no-gap),
    ),
  ),
)

-- ---- the file

ending-leads : (p : Stage) → is_in_data p ≡ true → walk ending p ≡ Ok stage.Ended
ending-leads stage.Unnamed here = refl
ending-leads stage.Named here = refl
ending-leads _ here = absurd cc

-- behind whole statements that leave a data section open
is-file : JoinedIsLaid → (kept gap : List ℕ) (lexemes : List Lexeme) (given : List Statement) (p : Stage) → AreWhole kept lexemes
    → tokens_in lexemes ≡ flat_map statement_tokens given → walk given stage.Start ≡ Ok p → is_in_data p ≡ true → Each IsSound given
    → IsSeparatorText gap
    → IsNoFile (kept ++ (gap ++ end_bytes)) → ⊥
is-file joined kept gap lexemes given p whole tokens_are leads here sound separates none =
    let all : List Statement = given ++ ending in
    let file = whole_file (flat_map statement_tokens all) all refl
    (walk-append given ending stage.Start p stage.Ended leads (ending-leads p here))
    (Each-append IsSound given ending sound (tt, (tt, tt))) in
    none file.structure file.text
    (record {
      laid = record {
        lexemes = lexemes ++ end_lexemes;
        tokens_are = tokens-append lexemes end_lexemes
            ∙ (ap (λ (ts : List Token). ts ++ tokens_in end_lexemes) tokens_are
            ∙ (sym (flat_map-append statement_tokens given ending) ∙ sym file.tokens_are));
        laid = joined kept (gap ++ end_bytes) lexemes end_lexemes whole (end-laid gap separates);
      };
      is_file = file.is_file;
    })

pub refused-told : BeginsNoneAlike → JoinedIsLaid → RefusedIsTold
refused-told alike joined s limits known point held piece more fault file refused ended ahead_is gone in_data of
    (no_end, (rest, passes, may)) =
    let logs = refused.logs in
    let whole = completed (held.buffer ++ piece) rest passes may in
    let none = none-begins alike s limits known point held piece more fault refused ahead_is gone file of whole.tail whole.are in
    let given : logs.history.given ≡ point.read.given = logs.given_are
    ∙ (ap (λ (sts : List Statement). point.read.given ++ sts) ended ∙ append-nil point.read.given) in
    let leads : walk point.read.given stage.Start ≡ Ok refused.before.parser.stage =
    subst (λ (sts : List Statement). walk sts stage.Start ≡ Ok refused.before.parser.stage) given
    (reader-leads refused.before logs.history logs.live) in
    is-file joined point.read.kept whole.gap logs.lexemes point.read.given refused.before.parser.stage logs.kept_whole logs.tokens_are leads
    (data-stage point.read.given refused.before.parser.stage in_data leads)
    (subst (λ (sts : List Statement). Each IsSound sts) given (reader-sound refused.before logs.history logs.live)) whole.separates
    (subst IsNoFile (append_assoc point.read.kept (held.buffer ++ piece) whole.tail ∙ ap (λ (l : List ℕ). point.read.kept ++ l) whole.is)
    none)
