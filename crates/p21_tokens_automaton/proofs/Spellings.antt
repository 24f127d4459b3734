-- The canonical spelling of a token spells it, and is that of the same tokens alone.
use Rattle.std.proofs.Common.{◌≡◌, ◌↔◌, ℕ, List, [], ◌∷◌, length, refl, sym, ap, subst, append-nil}
use Rattle.p21_spec_exchange.proofs.ReducedDecimals.{reduced_once}
use Rattle.p21_spec_exchange.specs.Laying.{Laid}
use Rattle.p21_spec_exchange.specs.Spelling.{spelling}
use Rattle.p21_spec_exchange.specs.Token.{Token, real, Spells, IsSpelled}
use Rattle.p21_tokens_automaton.proofs.Theorems.{one-laying}
use Rattle.p21_tokens_automaton.specs.SameToken.{SameToken}
use Rattle.p21_spec_exchange.proofs.CanonicalSpellings.{spells-itself}

-- a spelling by itself is laid
laid-alone : (token : Token) (bytes : List ℕ) → Spells token bytes → Laid bytes (token ∷ [])
laid-alone token bytes s = record {
  lexemes = record { token = token; size = length bytes } ∷ [];
  tokens_are = refl;
  laid = ([], bytes, [], sym (append-nil bytes), ([], tt, refl), s, refl, tt, ([], tt, refl));
}

-- bytes spell one token
spelled-once : (token other : Token) (bytes : List ℕ) → Spells token bytes → Spells other bytes → token ≡ other
spelled-once token other bytes s t = let e = one-laying bytes (token ∷ []) (other ∷ []) (laid-alone token bytes s) (laid-alone other bytes t) in cc

same-itself : (token : Token) → SameToken token token
same-itself (real d) = refl
same-itself _ = refl

same-equal : (token other : Token) (bytes others : List ℕ) → Spells token bytes → Spells other others → SameToken token other → token ≡ other
same-equal (real d) (real e) bytes others s t same = ap real (reduced_once d e s.is_reduced t.is_reduced same)
same-equal (real d) _ bytes others s t same = same
same-equal _ other bytes others s t same = same

-- tokens are the same exactly where their canonical spellings are equal
pub same-spelling : (token other : Token) → IsSpelled token → IsSpelled other → SameToken token other ↔ (spelling token ≡ spelling other)
same-spelling token other spelled others = (
  λ same. ap spelling (same-equal token other spelled.0 others.0 spelled.1 others.1 same),
  λ e.
      let one = spelled-once token other (spelling token) (spells-itself token spelled.0 spelled.1) (subst (λ (x : List ℕ). Spells other x) (sym e) (spells-itself other others.0 others.1)) in
      subst (λ (x : Token). SameToken token x) one (same-itself token),
)
