-- What is left behind the separators at the front of bytes, found byte by byte: a plain function between the code and the
-- definitions, which nobody has to believe.
use Rattle.std.specs.Prelude.{ℕ, zero, suc, ◌==◌, ◌&&◌, List, [], ◌∷◌, Option, Some, None, if◌then◌else◌}
use Rattle.p21_express_lexemes.specs.Bytes.{is_of, begins}
use Rattle.p21_express_lexemes.specs.declared.bytes.Class.TheVariants.{Blank}

-- between separators; at the second byte of a mark, which leads on so; in a tail remark; in an embedded remark with so many open ones in it
pub data Gap : Type 0 where
  between : Gap
  opened : ℕ → Gap
  closed : Gap
  dash : Gap
  line : Gap
  remark : ℕ → Gap

-- behind the first byte of a mark that closes
abbrev pub closing : ℕ → Gap
closing zero = closed
closing (suc inner) = opened inner

-- where a byte leads, if it belongs to a separator
abbrev pub step : Gap → ℕ → List ℕ → Option Gap
step between byte bytes =
    if byte == 40 && begins 42 bytes then Some (opened zero) else if byte == 45 && begins 45 bytes then Some dash else if is_of Blank byte then Some between else None
step (opened inner) byte bytes = Some (remark inner)
step closed byte bytes = Some between
step dash byte bytes = Some line
step line byte bytes = if byte == 10 then Some between else Some line
step (remark inner) byte bytes =
    if byte == 40 && begins 42 bytes then Some (opened (suc inner)) else if byte == 42 && begins 41 bytes then Some (closing inner) else Some (remark inner)

-- what is left at the end of the bytes
abbrev pub at_end : Gap → Option (List ℕ)
at_end between = Some []
at_end line = Some []
at_end other = None

abbrev pub skip_from : Option Gap → List ℕ → (Gap → Option (List ℕ)) → Option (List ℕ)
skip_from None bytes go = Some bytes
skip_from (Some gap) bytes go = go gap

-- what is left, unless a remark stays open
unfoldable pub skip : Gap → List ℕ → Option (List ℕ)
skip gap [] = at_end gap
skip gap (byte ∷ bytes) = skip_from (step gap byte bytes) (byte ∷ bytes) (λ next. skip next bytes)
