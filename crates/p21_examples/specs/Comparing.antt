-- What is known of two readers that are compared, where their bytes are known, as those of memory are.
use Rattle.std.specs.Prelude.{◌≡◌, ◌↔◌, ◌⊎◌, ℕ, Bool, IsTrue, List, Option, Some}
use Rattle.std.specs.List.{AllByRecursion as Each}
use Rattle.p21_stream.specs.p21_spec_file.Accepted.{IsAccepted}
use Rattle.p21_stream.specs.p21_spec_laws.CanonicalLaws.{MeanTheSame}
use Rattle.p21_stream.specs.Claim.{IsFailure}
use Rattle.p21_stream.specs.p21_spec_basics.Digits.{IsByte}
use Rattle.p21_stream.specs.declared.Fault.{Fault}
use Rattle.p21_stream.specs.p21_spec_basics.Limits.{Limits}
use Rattle.p21_stream.specs.p21_spec_schema.Schema.{Schema}
use Rattle.p21_stream.specs.declared.comparing.Which.{Which}
use Rattle.p21_stream.specs.declared.comparing.Which.TheVariants.{First, Second}

-- the answer is whether the bytes of the one mean the same as those of the other
abbrev pub TellsSame : Schema → Limits → Option (List ℕ) → Option (List ℕ) → Bool → Type 0
TellsSame s limits first second same = (bytes others : List ℕ) → first ≡ Some bytes → second ≡ Some others → IsTrue same ↔ MeanTheSame s limits bytes others

-- memory or the reader failed, or its bytes aren't accepted
abbrev pub IsRefused : Schema → Limits → Option (List ℕ) → Fault → Type 0
IsRefused s limits reader fault = (bytes : List ℕ) → reader ≡ Some bytes → Each IsByte bytes → IsFailure fault ⊎ ¬ IsAccepted s limits bytes

-- the failure is that of the reader that is named
abbrev pub IsRefusedOf : Schema → Limits → Option (List ℕ) → Option (List ℕ) → Which → Fault → Type 0
IsRefusedOf s limits first second First fault = IsRefused s limits first fault
IsRefusedOf s limits first second Second fault = IsRefused s limits second fault
