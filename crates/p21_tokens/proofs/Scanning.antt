-- Bytes of a piece, one after another and in runs.
use Rattle.std.proofs.Common.{◌≡◌, ℕ, ◌+◌, ◌-◌, ◌≤◌, ◌<◌, List, [], ◌∷◌, ◌++◌, length, get_or, take, drop, refl, sym, ap, ◌∙◌, subst, append_assoc, arith, length-append, length-drop, take_all, Some, None, Ok, Err}
use Rattle.std.specs.List.{slice_get, slice_range}
use Rattle.std.proofs.lemmas.List.{take_more}
use Rattle.std.proofs.lemmas.List.{get_or-drop}
use Rattle.std.proofs.lemmas.Option.{slice_get_within, slice_get-get_or, get_or_from_slice_get}
use Rattle.std.proofs.Math.Seq.{take-add}
use Rattle.p21_tokens.specs.Held.{Held}
use Rattle.p21_tokens.specs.Steps.{AreBlank, rest_of, SameLimits, RefusesAt, RefusesByte, Steps, TakesRun, Runs, Scans, ScansToken, Walks, gave, handed}
use Rattle.p21_tokens.specs.declared.fault.TokenFault.{TokenFault}
use Rattle.p21_tokens.specs.declared.step.Outcome.TheVariants.{Gave, Handed}
use Rattle.p21_tokens.specs.Token.{meant}
use Rattle.p21_tokens.specs.declared.token.Token.{Token}

pub limits-after : (u v w : Held) → SameLimits u v → SameLimits v w → SameLimits u w
limits-after u v w a b = record { statement_limit = b.statement_limit ∙ a.statement_limit; file_limit = b.file_limit ∙ a.file_limit; refused = b.refused ∙ a.refused }

run-none : (v : Held) → TakesRun v [] v
run-none v = record { file_is = omega arith; statement_is = refl; rest_is = λ rest. refl; gap = λ g _. g }

blank-parts : (a b : List ℕ) → AreBlank (a ++ b) → AreBlank a × AreBlank b
blank-parts [] b k = (tt, k)
blank-parts (x ∷ a) b k = let parts = blank-parts a b k.1 in ((k.0, parts.0), parts.1)

pub run-join : (u v w : Held) (a b : List ℕ) → TakesRun u a v → TakesRun v b w → TakesRun u (a ++ b) w
run-join u v w a b r s = record {
  file_is = omega (arith, r.file_is, s.file_is, length-append a b);
  statement_is = s.statement_is ∙ r.statement_is;
  rest_is = λ rest. ap (λ (x : List ℕ). rest_of u x) (append_assoc a b rest) ∙ (r.rest_is (b ++ rest) ∙ s.rest_is rest);
  gap = λ g k. let parts = blank-parts a b k in s.gap (r.gap g parts.0) parts.1;
}

-- so many bytes of the piece gave no token
pub record Along (old new : Held) (piece : List ℕ) (count : ℕ) : Type 0 where
  pub within : count ≤ length piece
  pub same : SameLimits old new
  pub run : TakesRun old (take count piece) new

pub along-none : (v : Held) (piece : List ℕ) → Along v v piece 0
along-none v piece = record { within = omega arith; same = record { statement_limit = refl; file_limit = refl; refused = refl }; run = run-none v }

take-byte : (piece : List ℕ) (n b : ℕ) → n < length piece → b ≡ get_or piece n 0 → take (n + 1) piece ≡ take n piece ++ b ∷ []
take-byte piece n b h e = take_more piece n 0 h ∙ ap (λ (c : ℕ). take n piece ++ c ∷ []) (sym e)

pub along-run : (v w u : Held) (piece : List ℕ) (n m : ℕ) → Along v w piece n → Runs w (drop n piece) (Ok m) u → Along v u piece (n + m)
along-run v w u piece n m a r =
    let short = r.0 in
    record {
      within = let k = length-drop n piece in let l = a.within in omega arith;
      same = limits-after v w u a.same r.1;
      run = subst (λ (x : List ℕ). TakesRun v x u) (sym (take-add n m piece)) (run-join v w u (take n piece) (take m (drop n piece)) a.run r.2);
    }

module _ (v w u : Held) (piece : List ℕ) (n b : ℕ) (h : n < length piece) (e : b ≡ get_or piece n 0) (a : Along v w piece n) where
  pub along-gave : (t : Token) → Steps w b (Ok (Gave t)) u → Scans v piece (Ok (n + 1, Some t)) u
  along-gave t s = (limits-after v w u a.same s.0, (omega arith, gave w (take n piece) b a.same a.run s.1 (take-byte piece n b h e)))

  found : slice_get piece n ≡ Some b
  found = slice_get-get_or piece n 0 h ∙ ap (λ (c : ℕ). Some c) (sym e)

  pub along-handed : (t : Token) → Steps w b (Ok (Handed t)) u → Scans v piece (Ok (n, Some t)) u
  along-handed t s = (limits-after v w u a.same s.0, (omega arith, handed w b a.same a.run s.1 found))

  pub along-refused : (x : TokenFault) → Steps w b (Err x) u → Scans v piece (Err x) u
  along-refused x s = (w, n, b, found, a.same, a.run, limits-after v w u a.same s.0, s.1, s.2)

-- ---- a run, or one byte

-- a run of no bytes
pub run-nothing : (v w : Held) (bytes : List ℕ) (m : ℕ) → m ≡ 0 → Runs v bytes (Ok m) w → Along v w bytes 0
run-nothing v w bytes m z r = let same : 0 + m ≡ 0 = omega arith in subst (λ (k : ℕ). Along v w bytes k) same (along-run v v w bytes 0 m (along-none v bytes) r)

pub walked-no_memory : (v u : Held) (bytes : List ℕ) (x : TokenFault) → 0 < length bytes → Runs v bytes (Err x) u → Walks v bytes (Err x) u
walked-no_memory v u bytes x h r =
    let a = along-none v bytes in
    (v, 0, get_or bytes 0 0, slice_get-get_or bytes 0 0 h, a.same, a.run, r.1, subst (λ (y : TokenFault). RefusesByte v (get_or bytes 0 0) y) (sym r.0) (λ g _. r.2 g), r.3)

-- ---- the bytes behind those that gave no token

pub behind-those : (piece : List ℕ) (n : ℕ) → n ≤ length piece → slice_range piece n (length piece) ≡ drop n piece
behind-those piece n h = take_all (length piece - n) (drop n piece) (simp length-drop (omega arith))

pub byte-behind : (piece : List ℕ) (n m byte : ℕ) → slice_get (drop n piece) m ≡ Some byte → slice_get piece (n + m) ≡ Some byte
byte-behind piece n m byte e =
    let within = slice_get_within (drop n piece) m byte e in
    let room : n + m < length piece = let l = length-drop n piece in omega arith in
    slice_get-get_or piece (n + m) 0 room ∙ ap (λ (b : ℕ). Some b) (sym (get_or-drop n piece m 0) ∙ get_or_from_slice_get (drop n piece) m byte 0 e)

module _ (v w u : Held) (piece : List ℕ) (n : ℕ) (a : Along v w piece n) where
  on : (middle : Held) (bytes : List ℕ) → TakesRun w bytes middle → TakesRun v (take n piece ++ bytes) middle
  on middle bytes run = run-join v w middle (take n piece) bytes a.run run

  pub along-blanks : (m : ℕ) → Runs w (slice_range piece n (length piece)) (Ok m) u → Along v u piece (n + m)
  along-blanks m r = along-run v w u piece n m a (subst (λ (x : List ℕ). Runs w x (Ok m) u) (behind-those piece n a.within) r)

  pub along-no_blanks : (m : ℕ) → m ≡ 0 → Runs w (slice_range piece n (length piece)) (Ok m) u → Along v u piece n
  along-no_blanks m z r = let same : n + m ≡ n = omega arith in subst (λ (k : ℕ). Along v u piece k) same (along-blanks m r)

  pub along-walked : (m : ℕ) → Walks w (slice_range piece n (length piece)) (Ok (m, None)) u → Along v u piece (n + m)
  along-walked m k = along-blanks m k.1

  pub along-token : (m : ℕ) (t : Token) → Walks w (slice_range piece n (length piece)) (Ok (m, Some t)) u → Scans v piece (Ok (n + m, Some t)) u
  along-token m t k = on_rest (subst (λ (x : List ℕ). Walks w x (Ok (m, Some t)) u) (behind-those piece n a.within) k)
    where
      token : ScansToken w (take m (drop n piece)) (slice_get (drop n piece) m) (meant t) u → ScansToken v (take (n + m) piece) (slice_get piece (n + m)) (meant t) u
      token (gave middle front byte same run gives is) =
          gave middle (take n piece ++ front) byte (limits-after v w middle a.same same) (on middle front run) gives
          (take-add n m piece ∙ (ap (λ (x : List ℕ). take n piece ++ x) is ∙ sym (append_assoc (take n piece) front (byte ∷ []))))
      token (handed middle byte same run hands is) =
          handed middle byte (limits-after v w middle a.same same) (subst (λ (x : List ℕ). TakesRun v x middle) (sym (take-add n m piece)) (on middle (take m (drop n piece)) run)) hands (byte-behind piece n m byte is)

      on_rest : Walks w (drop n piece) (Ok (m, Some t)) u → Scans v piece (Ok (n + m, Some t)) u
      on_rest r = (limits-after v w u a.same r.0, ((let l = length-drop n piece in let k = a.within in let short = r.1.0 in omega arith), token r.1.1))

  pub along-fault : (x : TokenFault) → Walks w (slice_range piece n (length piece)) (Err x) u → Scans v piece (Err x) u
  along-fault x k = on_rest (subst (λ (y : List ℕ). RefusesAt w y x u) (behind-those piece n a.within) k)
    where
      on_rest : RefusesAt w (drop n piece) x u → RefusesAt v piece x u
      on_rest (middle, m, byte, is, same, run, limits, refuses, pending) =
          (middle, n + m, byte, byte-behind piece n m byte is, limits-after v w middle a.same same, subst (λ (y : List ℕ). TakesRun v y middle) (sym (take-add n m piece)) (on middle (take m (drop n piece)) run), limits-after v w u a.same limits, refuses, pending)
