-- What the claim says of a session that refuses what a source gave.
use Rattle.std.proofs.Common.{◌≢◌, ◌⊎◌, ℕ, List, ◌++◌, append_assoc, Option, Err, inl, inr, subst, slice_index_or, Fits, w8}
use Rattle.p21_examples.specs.Receiving.{IsReceived}
use Rattle.p21_stream.specs.p21_spec_file.Accepted.{IsAccepted, IsDead}
use Rattle.p21_stream.specs.Claim.{Claim, IsFailure, IsOpen}
use Rattle.p21_stream.specs.declared.Fault.{Fault}
use Rattle.p21_stream.specs.declared.Fault.TheVariants.{NoMemory}
use Rattle.p21_stream.specs.Held.{SessionHeld}
use Rattle.p21_stream.specs.Histories.{FeedGives, FinishGives, SessionHistory}
use Rattle.p21_stream.specs.p21_spec_basics.Limits.{Limits}
use Rattle.p21_stream.specs.ReaderInput.{IsOfBytes, IsRefused}
use Rattle.p21_stream.specs.declared.Refusal.{Refusal}
use Rattle.p21_stream.specs.p21_spec_schema.Schema.{Schema}
use Rattle.p21_stream.proofs.Feeding.{each-byte}

-- a fault of bytes other than want of memory is no failure
no-failure : (P : Type 0) (fault : Fault) → IsOfBytes fault → fault ≢ NoMemory → IsFailure fault ⊎ P → P
no-failure P fault of other (inl (inl memory)) = absurd (other memory)
no-failure P fault of other (inl (inr (inl read))) = absurd (subst IsOfBytes read of)
no-failure P fault of other (inl (inr (inr write))) = absurd (subst IsOfBytes write of)
no-failure P fault of other (inr holds) = holds

pub dead-behind : (s : Schema) (limits : Limits) → Claim s limits → (before after : SessionHeld) (piece : List ℕ) (refusal : Refusal) (history : SessionHistory) → IsOpen s limits before history → ((i : ℕ) → Fits w8 (slice_index_or piece i 0))
    → FeedGives before piece (Err refusal) after → IsOfBytes refusal.fault → refusal.fault ≢ NoMemory → IsDead s limits (history.taken ++ piece)
dead-behind s limits claim before after piece refusal history is_open fits gives of other more are accepted =
    no-failure _ refusal.fault of other (claim.refused_piece before after history piece more refusal is_open gives (each-byte piece fits) are)
    (subst (IsAccepted s limits) (append_assoc history.taken piece more) accepted)

pub refused-end : (s : Schema) (limits : Limits) → Claim s limits → (start now : Option (List ℕ)) (session : SessionHeld) (refusal : Refusal) → IsReceived s limits start now session → FinishGives session (Err refusal) → IsOfBytes refusal.fault → refusal.fault ≢ NoMemory → IsRefused s limits start now
refused-end s limits claim start now session refusal r gives of other = record {
  bytes = r.fed.history.taken;
  consumed = r.fed.given;
  refused = inr (r.at_end, no-failure _ refusal.fault of other (claim.refused_end session r.fed.history refusal r.fed.is_open gives));
}
