-- Names of instances.
use Rattle.std.proofs.Common.{◌≡◌, ◌≢◌, ℕ, zero, suc, ◌-◌, ◌^◌, ◌<◌, ◌≤◌, List, [], ◌∷◌, ◌++◌, false, length, length-append, take, drop, get_or, ap, append_assoc, sym, subst, ◌∙◌, arith}
use Rattle.std.proofs.lemmas.List.{take_all}
use Rattle.std.proofs.Math.Seq.{take-append_seam}
use Rattle.p21_spec_basics.proofs.PlainDigits.{ArePlain, plain_digits-number}
use Rattle.p21_spec_basics.specs.Digits.{AllDigits, number, plain_digits}
use Rattle.p21_spec_exchange.proofs.Forms.{NoDigitFirst}
use Rattle.p21_spec_exchange.specs.Name.{SpellsName}
use Rattle.p21_spec_exchange.specs.Number.{signed}
use Rattle.p21_spec_exchange.specs.Spelling.{name_spelling, whole_spelling}
use Rattle.p21_spec_exchange.specs.Token.{IsFollowed, name}
use Rattle.p21_scan.proofs.NamesAt.{name-spells}
use Rattle.p21_scan.specs.Digits.{BeginsWithoutByte}
use Rattle.p21_scan.specs.Name.{IsNameAt}
use Rattle.p21_shorter_tokens.proofs.Splits.{behind-count}
use Rattle.p21_shorter_tokens.specs.LeadingToken.{AppendsToken}

-- digits with no zero in front of another one
pub plain-front : (bytes : List ℕ) (count : ℕ) → AllDigits (take count bytes) → 0 < count → count ≤ length bytes → (1 < count → get_or bytes 0 0 ≢ 48) → ArePlain (take count bytes)
plain-front [] count p some within first = absurd (omega arith)
plain-front (c ∷ bytes) zero p some within first = absurd (omega arith)
plain-front (c ∷ bytes) (suc zero) p some within first = p.0
plain-front (c ∷ []) (suc (suc count)) p some within first = absurd (omega arith)
plain-front (c ∷ d ∷ bytes) (suc (suc count)) p some within first = let other = first (omega arith) in (omega (arith, p.0, other), p)

plain : (digits : List ℕ) → AllDigits digits → 0 < length digits → (1 < length digits → get_or digits 0 0 ≢ 48) → ArePlain digits
plain digits p some first =
    let all : take (length digits) digits ≡ digits = take_all (length digits) digits (omega arith) in
    subst ArePlain all (plain-front digits (length digits) (subst AllDigits (sym all) p) some (omega arith) first)

followed-name : (n : ℕ) (spelling rest : List ℕ) → NoDigitFirst rest → IsFollowed (name n) spelling rest
followed-name n spelling [] h = tt
followed-name n spelling (byte ∷ rest) h = h

-- ---- a name at the front

pub name-front : (bytes digits rest : List ℕ) → IsNameAt bytes digits rest → (length bytes - length rest ≤ length bytes) × (take (length bytes - length rest) bytes ≡ 35 ∷ digits)
name-front bytes digits rest x =
    let count : length bytes - length rest ≡ length (35 ∷ digits) = omega (arith, ap (λ (b : List ℕ). length b) x.bytes_are, length-append digits rest) in
    (omega arith, ap (λ (n : ℕ). take n bytes) count ∙ (ap (λ (b : List ℕ). take (length (35 ∷ digits)) b) x.bytes_are ∙ take-append_seam (35 ∷ digits) rest))

-- its bytes are the canonical spelling, where no zero stands first
pub plain-name : (bytes digits : List ℕ) (count : ℕ) → take count bytes ≡ 35 ∷ digits → AllDigits digits → 0 < length digits → BeginsWithoutByte 48 digits
    → take count bytes ≡ name_spelling (number digits)
plain-name bytes [] count is p some first = absurd (omega arith)
plain-name bytes (digit ∷ digits) count is p some first =
    is ∙ ap (λ (ds : List ℕ). 35 ∷ ds) (sym (plain_digits-number (digit ∷ digits) (plain (digit ∷ digits) p some (λ more. first))))

-- else it is appended with the digits behind the zeros
pub padded-name : (digits old marked new : List ℕ) → marked ≡ old ++ 35 ∷ [] → new ≡ marked ++ whole_spelling (signed false (number (take (length digits) digits))) → new ≡ old ++ name_spelling (number digits)
padded-name digits old marked new mark is =
    let spelled : List ℕ = plain_digits (number (take (length digits) digits)) in
    is ∙ ap (λ (x : List ℕ). x ++ spelled) mark ∙ append_assoc old (35 ∷ []) spelled ∙ ap (λ (ds : List ℕ). old ++ 35 ∷ plain_digits (number ds)) (take_all (length digits) digits (omega arith))

pub name-appended : (bytes digits rest old new : List ℕ) (n : ℕ) → IsNameAt bytes digits rest → n ≡ number digits → number digits < 2 ^ 64 → new ≡ old ++ name_spelling (number digits)
    → AppendsToken bytes (length bytes - length rest) (name n) old new
name-appended bytes digits rest old new n x value small appended =
    let front = name-front bytes digits rest x in
    let behind : drop (length bytes - length rest) bytes ≡ rest = behind-count bytes (35 ∷ digits) rest x.bytes_are in
    record {
      stands = record {
        within = front.0;
        spells = subst (λ (s : List ℕ). SpellsName s n) (sym front.1) (subst (SpellsName (35 ∷ digits)) (sym value) (name-spells bytes digits rest x small));
        followed = subst (IsFollowed (name n) (take (length bytes - length rest) bytes)) (sym behind) (followed-name n (take (length bytes - length rest) bytes) rest x.ends);
      };
      appended = appended ∙ ap (λ (m : ℕ). old ++ name_spelling m) (sym value);
    }
