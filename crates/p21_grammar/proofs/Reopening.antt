-- A parser that is taken back to where its last statement ended.
use Rattle.std.proofs.Common.{◌≡◌, ℕ, List, [], ◌∷◌, ◌++◌, Option, Some, None, Ok, refl, ap, sym, ◌∙◌, subst}
use Rattle.std.proofs.lemmas.List.{append-nil}
use Rattle.p21_spec_exchange.proofs.Semicolons.{statements-end}
use Rattle.p21_spec_exchange.specs.OpenNesting.{EndsWithSemicolon}
use Rattle.p21_spec_exchange.specs.Statement.{Statement, statement_tokens}
use Rattle.p21_spec_exchange.specs.Token.{Token, semicolon}
use Rattle.p21_grammar.proofs.Holding.{Reaches, held_at, stepped}
use Rattle.p21_grammar.specs.Held.{Held}
use Rattle.p21_grammar.specs.Machine.{Spot, idle, step, spot_of, depth_of, AnswersMove}
use Rattle.p21_grammar.specs.Reopening.{HoldsAsBetween, IsBetweenStatements, StaysOrEnds, between_statements}
use Rattle.p21_grammar.specs.Runs.{pending}
use Rattle.p21_grammar.specs.Statements.{statement_of}
use Rattle.p21_grammar.specs.declared.event.Event.{Event}
use Rattle.p21_grammar.specs.declared.fault.GrammarFault.{GrammarFault}
use Rattle.p21_grammar.specs.declared.machine.Machine.{Machine}
use Rattle.p21_grammar.specs.declared.stage.Stage.{Stage}

-- where the machine is at rest
pub between-idle : (p : Stage) (sp : Spot) (depth : ℕ) (refused : Option GrammarFault) → sp ≡ idle → depth ≡ 0 → refused ≡ None → IsBetweenStatements (held_at p sp depth refused)
between-idle p sp depth refused at_rest flat none = record { refused = none; pending = ap pending at_rest; depth = flat }

pub held-idle : (p stage : Stage) (sp : Spot) → p ≡ stage → sp ≡ idle → held_at p sp 0 None ≡ between_statements stage
held-idle p stage sp same at_rest = ap (λ (z : Stage). held_at z sp 0 None) same ∙ ap (λ (z : Spot). held_at stage z 0 None) at_rest

abbrev held_with : Stage → List Token → ℕ → Option GrammarFault → Held
held_with stage tokens depth refused = record { stage = stage; pending = tokens; depth = depth; refused = refused }

pub as-between : (stage : Stage) (new : Held) → new ≡ between_statements stage → HoldsAsBetween stage new
as-between stage new is earlier between at_stage =
    let same : held_with earlier.stage earlier.pending earlier.depth earlier.refused ≡ between_statements stage = rw (at_stage, between.pending, between.depth, between.refused) refl in
    is ∙ sym same

last-semicolon : (tokens : List Token) (t : Token) → EndsWithSemicolon (tokens ++ t ∷ []) → t ≡ semicolon
last-semicolon [] t e = e
last-semicolon (x ∷ []) t e = e
last-semicolon (x ∷ y ∷ tokens) t e = last-semicolon (y ∷ tokens) t e

statement-ended : (s : Statement) → EndsWithSemicolon (statement_tokens s)
statement-ended s = subst EndsWithSemicolon (append-nil (statement_tokens s)) (statements-end (s ∷ []))

-- a call that answered
pub stays-or-ends : (p : Stage) (sp : Spot) (depth : ℕ) (t : Token) (m : Machine) (event : Option Event) (depth_ : ℕ) (refused refused_ : Option GrammarFault) (held : Held) → held_at p sp depth refused ≡ held → Reaches p sp
    → AnswersMove (step p sp t) m event → depth_ ≡ depth_of (spot_of m) → refused_ ≡ None → StaysOrEnds held t (Ok event) (held_at m.stage (spot_of m) depth_ refused_)
stays-or-ends p sp depth t m None depth_ refused refused_ held same ran move flat none = (stepped p sp t m None ran move).1 ∙ ap (λ (v : Held). v.stage) same
stays-or-ends p sp depth t m (Some event) depth_ refused refused_ held same ran move flat none =
    let (at_rest, tokens_are, leads, sound) = stepped p sp t m (Some event) ran move in
    (last-semicolon (pending sp) t (subst EndsWithSemicolon (sym tokens_are) (statement-ended (statement_of event))), between-idle m.stage (spot_of m) depth_ refused_ at_rest (flat ∙ ap depth_of at_rest) none)
