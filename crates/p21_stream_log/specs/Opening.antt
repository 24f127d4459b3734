-- How bytes behind a statement begin, as far as they tell (this project's own, on the tokens of ISO 10303-21).
use Rattle.std.specs.Prelude.{◌≡◌, ◌⊎◌, ℕ, List, ◌++◌, codes}
use Rattle.p21_spec_exchange.proofs.OneGap.{HasNoSeparator}
use Rattle.p21_spec_exchange.specs.Separator.{IsSeparatorText}
use Rattle.p21_spec_survey.specs.Survey.{BeginsWithEnd}
use Rattle.p21_stream_log.specs.declared.opening.Opening.{Opening}
use Rattle.p21_stream_log.specs.declared.opening.Opening.TheVariants.{SectionEnd, Statement, Untold}
use Rattle.p21_shorter_tokens.specs.Gaps.{PassesSeparators}

-- behind separators something else begins, whatever stands behind the bytes
pub record IsBegun (bytes : List ℕ) : Type 0 where
  pub gap : List ℕ
  pub rest : List ℕ
  pub bytes_are : bytes ≡ gap ++ rest
  pub separates : IsSeparatorText gap
  pub no_more : (more : List ℕ) → HasNoSeparator (rest ++ more)

-- the first are the first bytes of the second
abbrev pub IsFrontOfAll : List ℕ → List ℕ → Type 0
IsFrontOfAll bytes all = (more : List ℕ) × (all ≡ bytes ++ more)

-- these bytes and more may be `ENDSEC`, or a remark
abbrev pub MayBecome : List ℕ → Type 0
MayBecome rest = IsFrontOfAll rest (codes "ENDSEC") ⊎ IsFrontOfAll rest (codes "/*") ⊎ IsFrontOfAll (codes "/*") rest

-- ENDSEC stands first; or it doesn't, whatever stands behind the bytes, and a statement has begun; or neither is told yet
abbrev pub OpensAs : List ℕ → Opening → Type 0
OpensAs bytes SectionEnd = BeginsWithEnd bytes
OpensAs bytes Statement = IsBegun bytes × ((more : List ℕ) → ¬ BeginsWithEnd (bytes ++ more))
OpensAs bytes Untold = ¬ BeginsWithEnd bytes × ((rest : List ℕ) × PassesSeparators bytes rest × MayBecome rest)
