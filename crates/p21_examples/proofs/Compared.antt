-- What a comparison says of readers whose bytes are known.
use Rattle.std.proofs.Common.{◌≡◌, ◌↔◌, ℕ, Bool, IsTrue, List, ◌++◌, Option, None, Some, sym, ap, ◌∙◌, append-nil, subst}
use Rattle.p21_examples.specs.Comparing.{IsRefused, IsRefusedOf, TellsSame}
use Rattle.p21_stream.specs.Answers.{Compares, FailsToCompare}
use Rattle.p21_stream.specs.Claim.{Claim}
use Rattle.p21_stream.specs.ReaderInput.{IsReadWhole, RefusesRead}
use Rattle.p21_stream.specs.declared.comparing.Which.{Which}
use Rattle.p21_stream.specs.declared.comparing.Which.TheVariants.{First, Second}
use Rattle.p21_stream.specs.p21_spec_basics.Limits.{Limits}
use Rattle.p21_stream.specs.p21_spec_laws.CanonicalLaws.{MeanTheSame}
use Rattle.p21_stream.specs.p21_spec_schema.Schema.{Schema}
use Rattle.p21_stream.specs.declared.Fault.{Fault}

-- a reader that was read to its end gave what it had
gave-all : (bytes : List ℕ) (new : Option (List ℕ)) (read : List ℕ) → IsReadWhole (Some bytes) new read → read ≡ bytes
gave-all bytes None read r = absurd r.consumed
gave-all bytes (Some rest) read r = sym (r.consumed ∙ ap (λ (left : List ℕ). read ++ left) r.at_end ∙ append-nil read)

all-read : (had old new : Option (List ℕ)) (bytes read : List ℕ) → old ≡ had → had ≡ Some bytes → IsReadWhole old new read → read ≡ bytes
all-read had old new bytes read is known r = gave-all bytes new read (subst (λ (o : Option (List ℕ)). IsReadWhole o new read) (is ∙ known) r)

pub tells-same : (s : Schema) (limits : Limits) (first second first_old first_new second_old second_new : Option (List ℕ)) (same : Bool) → first_old ≡ first → second_old ≡ second → Compares s limits first_old first_new second_old second_new same → TellsSame s limits first second same
tells-same s limits first second first_old first_new second_old second_new same is_first is_second c bytes others known known_others =
    subst (λ (b : List ℕ). IsTrue same ↔ MeanTheSame s limits b others) (all-read first first_old first_new bytes c.first.bytes is_first known c.first.read)
    (subst (λ (b : List ℕ). IsTrue same ↔ MeanTheSame s limits c.first.bytes b) (all-read second second_old second_new others c.second.bytes is_second known_others c.second.read) c.if_same)

refused : (s : Schema) (limits : Limits) → Claim s limits → (had old new : Option (List ℕ)) (fault : Fault) → old ≡ had → RefusesRead s limits old new fault → IsRefused s limits had fault
refused s limits claim had old new fault is refuses bytes known are = claim.refused_read bytes new fault are (subst (λ (o : Option (List ℕ)). RefusesRead s limits o new fault) (is ∙ known) refuses)

pub refused-of : (s : Schema) (limits : Limits) → Claim s limits → (first second first_old first_new second_old second_new : Option (List ℕ)) (which : Which) (fault : Fault) → first_old ≡ first → second_old ≡ second → FailsToCompare s limits first_old first_new second_old second_new which fault → IsRefusedOf s limits first second which fault
refused-of s limits claim first second first_old first_new second_old second_new First fault is_first is_second fails = refused s limits claim first first_old first_new fault is_first fails.0
refused-of s limits claim first second first_old first_new second_old second_new Second fault is_first is_second fails = refused s limits claim second second_old second_new fault is_second fails.1
