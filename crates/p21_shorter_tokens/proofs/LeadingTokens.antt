-- A token at the front in its canonical spelling, whose bytes are appended.
use Rattle.std.proofs.Common.{◌≡◌, ℕ, List, ◌++◌, length, length-append, take, drop, ap, sym, subst, ◌∙◌, arith}
use Rattle.std.proofs.Math.Seq.{take-append_seam, drop-append_seam}
use Rattle.p21_spec_exchange.specs.Spelling.{spelling}
use Rattle.p21_spec_exchange.specs.Token.{Token, IsFollowed, Spells}
use Rattle.p21_scan.specs.Word.{IsTokenAt}
use Rattle.p21_shorter_tokens.specs.LeadingToken.{AppendsToken, IsCanonicalLeadingToken}

pub copied : (bytes : List ℕ) (count : ℕ) (token : Token) (old new : List ℕ) → IsCanonicalLeadingToken bytes count token → new ≡ old ++ take count bytes → AppendsToken bytes count token old new
copied bytes count token old new h e = record { stands = h.stands; appended = e ∙ ap (λ (x : List ℕ). old ++ x) h.own }

-- a token that is scanned stands there
pub scanned : (bytes rest : List ℕ) (count : ℕ) (token : Token) → IsTokenAt bytes token rest → count ≡ length (spelling token) → IsCanonicalLeadingToken bytes count token
scanned bytes rest count token x e =
    let size = length (spelling token) in
    let front : take size bytes ≡ spelling token = ap (λ (b : List ℕ). take size b) x.bytes_are ∙ take-append_seam (spelling token) rest in
    let behind : drop size bytes ≡ rest = ap (λ (b : List ℕ). drop size b) x.bytes_are ∙ drop-append_seam (spelling token) rest in
    let own : IsCanonicalLeadingToken bytes size token = record {
      stands = record {
        within = omega (arith, ap (λ (b : List ℕ). length b) x.bytes_are, length-append (spelling token) rest);
        spells = subst (Spells token) (sym front) x.spells;
        followed = subst (λ (s : List ℕ). IsFollowed token s (drop size bytes)) (sym front) (subst (IsFollowed token (spelling token)) (sym behind) x.followed);
      };
      own = front;
    } in
    subst (λ (n : ℕ). IsCanonicalLeadingToken bytes n token) (sym e) own
