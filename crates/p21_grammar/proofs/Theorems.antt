-- What a run from the start of a file says of the files that begin with the tokens taken.
use Rattle.std.proofs.Common.{◌≡◌, ℕ, List, [], ◌∷◌, ◌++◌, Option, Some, None, Ok, refl, ap, sym, ◌∙◌, append_assoc}
use Rattle.std.proofs.lemmas.List.{append-nil}
use Rattle.std.specs.List.{flat_map, AllByRecursion as Each}
use Rattle.std.proofs.lemmas.Grind.{flat_map-append}
use Rattle.p21_spec_exchange.specs.Grammar.{IsFile}
use Rattle.p21_spec_exchange.specs.Statement.{Statement, statement_tokens}
use Rattle.p21_spec_exchange.specs.Structure.{Structure, statements, tokens_of}
use Rattle.p21_spec_exchange.specs.Token.{Token}
use Rattle.p21_grammar.proofs.RunsStatements.{run-statements, with_first_statements-none, with_first_statements-append}
use Rattle.p21_grammar.proofs.Walks.{file-walk, file-sound, led-file, ended-file}
use Rattle.p21_grammar.specs.Histories.{AreGivenFirst, BeginsFile, IsWholeFile, BeginNoFile}
use Rattle.p21_grammar.specs.Runs.{RunOutcome, run_outcome, with_first_statements, moved, run}
use Rattle.p21_grammar.specs.Sound.{IsSound}
use Rattle.p21_grammar.specs.Machine.{Spot, idle, Move, go, emit, refuse, step}
use Rattle.p21_grammar.specs.Stage.{walk}
use Rattle.p21_grammar.specs.declared.fault.GrammarFault.{GrammarFault}
use Rattle.p21_grammar.specs.declared.stage.Stage.{Stage}
use Rattle.p21_grammar.specs.declared.stage.Stage.TheVariants.{Start, Ended}

abbrev pub chain : Option RunOutcome → List Token → Option RunOutcome
chain None ys = None
chain (Some (run_outcome es p sp)) ys = with_first_statements es (run ys p sp)

with_first_statements-chain : (es : List Statement) (o : Option RunOutcome) (ys : List Token) → with_first_statements es (chain o ys) ≡ chain (with_first_statements es o) ys
with_first_statements-chain es None ys = refl
with_first_statements-chain es (Some (run_outcome fs p sp)) ys = with_first_statements-append es fs _

moved-chain : (m : Move) (k l : Stage → Spot → Option RunOutcome) (ys : List Token) → ((p : Stage) (sp : Spot) → k p sp ≡ chain (l p sp) ys) → moved m k ≡ chain (moved m l) ys
moved-chain (go p sp) k l ys h = h p sp
moved-chain (emit s p) k l ys h = ap (with_first_statements (s ∷ [])) (h p idle) ∙ with_first_statements-chain (s ∷ []) (l p idle) ys
moved-chain (refuse why) k l ys h = refl

pub run-append : (xs ys : List Token) (p : Stage) (sp : Spot) → run (xs ++ ys) p sp ≡ chain (run xs p sp) ys
run-append [] ys p sp = sym (with_first_statements-none _)
run-append (t ∷ xs) ys p sp = moved-chain (step p sp t) (run (xs ++ ys)) (run xs) ys (run-append xs ys)

-- the run of a whole file
file-run : (t : Structure) (text : List ℕ) → IsFile t text → run (tokens_of t) Start idle ≡ Some (run_outcome (statements t) Ended idle)
file-run t text is =
    ap (λ z. run z Start idle) (sym (append-nil (tokens_of t)))
    ∙ run-statements (statements t) Start Ended [] (file-walk t text is) (file-sound t text is)
    ∙ ap (λ z. Some (run_outcome z Ended idle)) (append-nil (statements t))

some-none : (o : RunOutcome) → ◌≡◌ {A = Option RunOutcome} (Some o) None → ⊥
some-none o e = absurd cc

abbrev given_by : Option RunOutcome → List Statement
given_by None = []
given_by (Some (run_outcome es p sp)) = es

abbrev place_by : Option RunOutcome → Stage
place_by None = Start
place_by (Some (run_outcome es p sp)) = p

abbrev spot_by : Option RunOutcome → Spot
spot_by None = idle
spot_by (Some (run_outcome es p sp)) = sp

module _ (h : List Token) (es : List Statement) (p : Stage) (sp : Spot) (ran : run h Start idle ≡ Some (run_outcome es p sp)) where
  ran-on : (more : List Token) → run (h ++ more) Start idle ≡ with_first_statements es (run more p sp)
  ran-on more = run-append h more Start idle ∙ ap (λ z. chain z more) ran

  -- where there is no step, no file begins so
  pub no_file : (t : Token) (why : GrammarFault) → step p sp t ≡ refuse why → BeginNoFile (h ++ t ∷ [])
  no_file t why none structure text is (rest, begins) =
      let stuck : run (h ++ t ∷ rest) Start idle ≡ None = ran-on (t ∷ rest) ∙ ap (λ z. with_first_statements es (moved z (run rest))) none in
      some-none _ (sym (file-run structure text is) ∙ ap (λ z. run z Start idle) (begins ∙ append_assoc h (t ∷ []) rest) ∙ stuck)

  begins-at : (o : Option RunOutcome) (ss : List Statement) → with_first_statements es o ≡ Some (run_outcome ss Ended idle) → (later : List Statement) × (ss ≡ es ++ later)
  begins-at None ss e = absurd (some-none _ (sym e))
  begins-at (Some (run_outcome fs q sq)) ss e = (fs, sym (ap given_by e))

  -- the statements so far are the first of each file that begins so
  pub given_first : AreGivenFirst h es
  given_first structure text is (rest, begins) =
      begins-at (run rest p sp) (statements structure) (sym (ran-on rest) ∙ ap (λ z. run z Start idle) (sym begins) ∙ file-run structure text is)

  -- where the tokens are those of a file, it has ended
  pub at_end : (structure : Structure) (text : List ℕ) → IsFile structure text → tokens_of structure ≡ h → (p ≡ Ended) × (sp ≡ idle)
  at_end structure text is same =
      let e : Some (run_outcome es p sp) ≡ Some (run_outcome (statements structure) Ended idle) = sym ran ∙ ap (λ z. run z Start idle) (sym same) ∙ file-run structure text is in
      (ap place_by e, ap spot_by e)

-- the tokens of statements that lead somewhere begin those of a file
pub begin_file : (h : List Token) (es : List Statement) (p : Stage) → h ≡ flat_map statement_tokens es → walk es Start ≡ Ok p → Each IsSound es → BeginsFile h es
begin_file h es p same leads sound =
    let found = led-file es p leads sound in
    let f = found.1 in
    record {
      structure = f.structure;
      text = f.text;
      is_file = f.is_file;
      tokens_begin = (flat_map statement_tokens found.0, ap (flat_map statement_tokens) f.statements_are ∙ flat_map-append statement_tokens es found.0 ∙ ap (λ z. z ++ flat_map statement_tokens found.0) (sym same));
      are_first = (found.0, f.statements_are);
    }

-- and of those that lead to the end they are those of a file
pub whole_file : (h : List Token) (es : List Statement) → h ≡ flat_map statement_tokens es → walk es Start ≡ Ok Ended → Each IsSound es → IsWholeFile h es
whole_file h es same leads sound =
    let f = ended-file es leads sound in
    record {
      structure = f.structure;
      text = f.text;
      is_file = f.is_file;
      tokens_are = ap (flat_map statement_tokens) f.statements_are ∙ sym same;
      statements_are = f.statements_are;
    }
