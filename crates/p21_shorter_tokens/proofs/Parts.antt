-- Bytes that are appended one part behind the other.
use Rattle.std.proofs.Common.{◌≡◌, ℕ, Bool, true, false, List, [], ◌++◌, ap, sym, ◌∙◌, append_assoc, append-nil}
use Rattle.p21_values.specs.Canonical.{Continues}
use Rattle.p21_shorter_tokens.specs.Appending.{AppendsAllOrNone, AppendsAllOrSome}

-- a part that is known to be appended, and one that may be
pub part_behind : (r : Bool) (front bytes text old middle new : List ℕ) → text ≡ front ++ bytes → middle ≡ old ++ front → AppendsAllOrNone r bytes middle new → AppendsAllOrSome r text old new
part_behind true front bytes text old middle new e is h =
    h ∙ (ap (λ (x : List ℕ). x ++ bytes) is ∙ (append_assoc old front bytes ∙ ap (λ (x : List ℕ). old ++ x) (sym e)))
part_behind false front bytes text old middle new e is h = (front, h ∙ is)

pub part_alone : (r : Bool) (bytes text old new : List ℕ) → text ≡ bytes → AppendsAllOrNone r bytes old new → AppendsAllOrSome r text old new
part_alone r bytes text old new e h = part_behind r [] bytes text old old new e (sym (append-nil old)) h

-- ---- a text that goes on

pub goes-on : (old middle new more : List ℕ) → Continues old middle → new ≡ middle ++ more → Continues old new
goes-on old middle new more (tail, is) e = (tail ++ more, e ∙ (ap (λ (x : List ℕ). x ++ more) is ∙ append_assoc old tail more))

pub stays-behind : (old middle new : List ℕ) → Continues old middle → new ≡ middle → Continues old new
stays-behind old middle new (tail, is) e = (tail, e ∙ is)
