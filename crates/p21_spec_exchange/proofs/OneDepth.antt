-- The open statement of some tokens is one, and so is the nesting that it leaves open.
use Rattle.std.proofs.Common.{◌≡◌, ℕ, List, [], ◌∷◌, ◌++◌, ap, sym, subst, ◌∙◌}
use Rattle.std.specs.List.{AllByRecursion as Each}
use Rattle.p21_spec_exchange.specs.OpenNesting.{EndsWithSemicolon, IsNoSemicolon, IsOpenStatement, IsDepth, open_depth}
use Rattle.p21_spec_exchange.specs.Token.{Token}

EndsWithSemicolon-rest : (token : Token) (tokens : List Token) → EndsWithSemicolon (token ∷ tokens) → EndsWithSemicolon tokens
EndsWithSemicolon-rest token [] ended = tt
EndsWithSemicolon-rest token (next ∷ tokens) ended = ended

-- tokens that end with `;` do not begin an open statement
not_ended : (token : Token) (tokens opened : List Token) → EndsWithSemicolon (token ∷ tokens) → Each IsNoSemicolon (token ∷ (tokens ++ opened)) → ⊥
not_ended token [] opened ended none = none.0 ended
not_ended token (next ∷ tokens) opened ended none = not_ended next tokens opened ended none.1

one_split : (ended ended_ opened opened_ : List Token) → EndsWithSemicolon ended → EndsWithSemicolon ended_ → Each IsNoSemicolon opened → Each IsNoSemicolon opened_ → ended ++ opened ≡ ended_ ++ opened_ → opened ≡ opened_
one_split [] [] opened opened_ first second none none_ same = same
one_split [] (token ∷ tokens) opened opened_ first second none none_ same = absurd (not_ended token tokens opened_ second (subst (Each IsNoSemicolon) same none))
one_split (token ∷ tokens) [] opened opened_ first second none none_ same = absurd (not_ended token tokens opened first (subst (Each IsNoSemicolon) (sym same) none_))
one_split (token ∷ tokens) (token_ ∷ tokens_) opened opened_ first second none none_ same =
    one_split tokens tokens_ opened opened_ (EndsWithSemicolon-rest token tokens first) (EndsWithSemicolon-rest token_ tokens_ second) none none_ (cc)

pub one_open_statement : (given opened opened_ : List Token) → IsOpenStatement given opened → IsOpenStatement given opened_ → opened ≡ opened_
one_open_statement given opened opened_ one two =
    one_split one.ended two.ended opened opened_ one.ends two.ends one.no_semicolon two.no_semicolon (sym one.given_are ∙ two.given_are)

pub one_depth : (given : List Token) (depth depth_ : ℕ) → IsDepth given depth → IsDepth given depth_ → depth ≡ depth_
one_depth given depth depth_ one two = one.depth_is ∙ ap open_depth (one_open_statement given one.opened two.opened one.open_statement two.open_statement) ∙ sym two.depth_is
