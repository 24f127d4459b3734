-- A step of a parser, by what it holds and by the histories that it stands for.
use Rattle.std.proofs.Common.{arith, ◌≡◌, ℕ, ◌≤◌, List, [], ◌∷◌, ◌++◌, Option, Some, None, Result, Ok, Err, refl, ap, sym, ◌∙◌, append_assoc, subst}
use Rattle.std.proofs.lemmas.List.{append-nil}
use Rattle.std.specs.List.{flat_map, AllByRecursion as Each}
use Rattle.p21_spec_basics.specs.History.{empty, extended, first_refusal}
use Rattle.p21_spec_exchange.proofs.Semicolons.{Each-append, statements-end}
use Rattle.p21_spec_exchange.specs.OpenNesting.{IsDepth}
use Rattle.p21_spec_exchange.specs.Statement.{Statement, statement_tokens}
use Rattle.p21_spec_exchange.specs.Token.{Token}
use Rattle.p21_grammar.proofs.Depths.{pending-depth, depth-within}
use Rattle.p21_grammar.proofs.Led.{IsGood, Kept, step-kept, step-blamed, led}
use Rattle.p21_grammar.proofs.RunsStatements.{ok-same, run-statements}
use Rattle.p21_grammar.proofs.Shapes.{heading-is}
use Rattle.p21_grammar.proofs.Theorems.{chain, run-append, no_file, given_first, at_end, begin_file, whole_file}
use Rattle.p21_grammar.specs.Held.{Held}
use Rattle.p21_grammar.specs.Histories.{GrammarHistory, call_of, IsWholeFile, AreNoFile, Stands, GivesOfFile, HasHeadingForm, Answers, RefusalIsKnown, Refuses, RefusesToken, BeginNoFile}
use Rattle.p21_grammar.specs.Runs.{run_outcome, with_first_statements, moved, run, pending}
use Rattle.p21_grammar.specs.Sound.{IsSound}
use Rattle.p21_grammar.specs.Machine.{Spot, idle, go, emit, refuse, step, spot_of, depth_of, AnswersMove, RefusesMove}
use Rattle.p21_grammar.specs.Stage.{walk, then_walk, after}
use Rattle.p21_grammar.specs.HeadingShape.{HasHeadingShape}
use Rattle.p21_grammar.specs.Statements.{statement_of, statements_of}
use Rattle.p21_grammar.specs.declared.event.Event.{Event}
use Rattle.p21_grammar.specs.declared.event.Event.TheVariants.{Section, Named, Header, Instance}
use Rattle.p21_grammar.specs.declared.fault.GrammarFault.{GrammarFault}
use Rattle.p21_grammar.specs.declared.fault.GrammarFault.TheVariants as fault
use Rattle.p21_grammar.specs.declared.machine.Machine.{Machine}
use Rattle.p21_grammar.specs.declared.stage.Stage.{Stage}
use Rattle.p21_grammar.specs.declared.stage.Stage.TheVariants.{Start, Ended}

pub shaped-event : (event : Option Event) → HasHeadingShape event → HasHeadingForm event
shaped-event None is = tt
shaped-event (Some (Section l)) is = tt
shaped-event (Some (Named part)) is = heading-is _ is
shaped-event (Some (Header part)) is = tt
shaped-event (Some (Instance n r)) is = tt

-- the tokens that are held lead to where the machine is
abbrev pub Reaches : Stage → Spot → Type 0
Reaches p sp = run (pending sp) p idle ≡ Some (run_outcome [] p sp)

good : (p : Stage) (sp : Spot) → Reaches p sp → IsGood p sp
good p sp ran = (led (pending sp) p p [] sp ran).0

-- ---- a step

-- a step is a move on, at the stage, with the token held too; or a statement that ends with it
abbrev pub Steps : Stage → Spot → Token → Option Event → Stage → Spot → Type 0
Steps p sp t None q sq = (pending sp ++ t ∷ [] ≡ pending sq) × (q ≡ p) × Reaches q sq
Steps p sp t (Some event) q sq = (sq ≡ idle) × (pending sp ++ t ∷ [] ≡ statement_tokens (statement_of event)) × (after p (statement_of event) ≡ Ok q) × IsSound (statement_of event)

stepped-on : (p : Stage) (sp : Spot) (t : Token) (q : Stage) (sq : Spot) → Reaches p sp → step p sp t ≡ go q sq → Steps p sp t None q sq
stepped-on p sp t q sq ran e =
    let is : Kept p (pending sp ++ t ∷ []) (go q sq) = subst (Kept p (pending sp ++ t ∷ [])) e (step-kept p sp t (good p sp ran)) in
    let on : run (pending sp ++ t ∷ []) p idle ≡ Some (run_outcome [] q sq) =
    run-append (pending sp) (t ∷ []) p idle ∙ ap (λ z. chain z (t ∷ [])) ran ∙ ap (λ z. with_first_statements [] (moved z (run []))) e in
    (is.1, is.2, ap (λ z. run z q idle) (sym is.1) ∙ ap (λ z. run (pending sp ++ t ∷ []) z idle) is.2 ∙ on)

pub stepped : (p : Stage) (sp : Spot) (t : Token) (m : Machine) (event : Option Event) → Reaches p sp → AnswersMove (step p sp t) m event → Steps p sp t event m.stage (spot_of m)
stepped p sp t m None ran move = stepped-on p sp t m.stage (spot_of m) ran move
stepped p sp t m (Some event) ran move =
    let is : Kept p (pending sp ++ t ∷ []) (emit (statement_of event) m.stage) = subst (Kept p (pending sp ++ t ∷ [])) move.0 (step-kept p sp t (good p sp ran)) in
    (move.1, is.1, is.2, is.0)

pub step-reaches : (p : Stage) (sp : Spot) (t : Token) (event : Option Event) (q : Stage) (sq : Spot) → Steps p sp t event q sq → Reaches q sq
step-reaches p sp t None q sq steps = steps.2
step-reaches p sp t (Some event) q sq steps = subst (Reaches q) (sym steps.0) refl

pub reaches-within : (p : Stage) (sp : Spot) → Reaches p sp → depth_of sp ≤ 64
reaches-within p sp ran = depth-within sp (good p sp ran).fine

-- ---- histories

pub refusal-known : (held : Held) → RefusalIsKnown held
unfolding Stands
refusal-known held history stands = sym stands.0

-- the history leads there
pub history-ran : (p : Stage) (sp : Spot) → Reaches p sp → (taken : List Token) (given : List Statement) → taken ≡ flat_map statement_tokens given ++ pending sp → walk given Start ≡ Ok p → Each IsSound given
    → run taken Start idle ≡ Some (run_outcome given p sp)
history-ran p sp ran taken given same leads sound =
    ap (λ z. run z Start idle) same ∙ run-statements given Start p (pending sp) leads sound ∙ ap (with_first_statements given) ran ∙ ap (λ z. Some (run_outcome z p sp)) (append-nil given)

history-depth : (p : Stage) (sp : Spot) → Reaches p sp → (taken : List Token) (given : List Statement) → taken ≡ flat_map statement_tokens given ++ pending sp → IsDepth taken (depth_of sp)
history-depth p sp ran taken given same =
    let is = good p sp ran in
    record {
      opened = pending sp;
      open_statement = record { ended = flat_map statement_tokens given; given_are = same; ends = statements-end given; no_semicolon = is.open_still };
      depth_is = sym (pending-depth sp is.fine);
    }

pub walk-append : (es ss : List Statement) (p q r : Stage) → walk es p ≡ Ok q → walk ss q ≡ Ok r → walk (es ++ ss) p ≡ Ok r
walk-append [] ss p q r w a = ap (λ z. walk ss z) (ok-same p q w) ∙ a
walk-append (e ∷ es) ss p q r w a = by (λ next v. walk-append es ss next q r v a) (after p e) w where
  by : ((next : Stage) → walk es next ≡ Ok q → walk (es ++ ss) next ≡ Ok r) → (found : Result Stage GrammarFault) → then_walk (walk es) found ≡ Ok q → then_walk (walk (es ++ ss)) found ≡ Ok r
  by again (Ok next) v = again next v
  by again (Err why) v = absurd cc

flat_map-one : (es : List Statement) (s : Statement) → flat_map statement_tokens (es ++ s ∷ []) ≡ flat_map statement_tokens es ++ statement_tokens s
flat_map-one [] s = append-nil (statement_tokens s)
flat_map-one (e ∷ es) s = ap (λ z. statement_tokens e ++ z) (flat_map-one es s) ∙ sym (append_assoc (statement_tokens e) (flat_map statement_tokens es) (statement_tokens s))

-- what a step leaves of tokens and statements
pub record IsLed (taken : List Token) (given : List Statement) (p : Stage) (sp : Spot) : Type 0 where
  pub taken_are : taken ≡ flat_map statement_tokens given ++ pending sp
  pub leads : walk given Start ≡ Ok p
  pub sound : Each IsSound given

led-on : (p : Stage) (sp : Spot) (t : Token) (event : Option Event) (q : Stage) (sq : Spot) → Steps p sp t event q sq
    → (taken : List Token) (given : List Statement) → IsLed taken given p sp → IsLed (taken ++ t ∷ []) (given ++ statements_of event) q sq
led-on p sp t None q sq steps taken given is = record {
  taken_are =
      ap (λ z. z ++ t ∷ []) is.taken_are ∙ append_assoc (flat_map statement_tokens given) (pending sp) (t ∷ [])
      ∙ ap (λ z. flat_map statement_tokens given ++ z) steps.0 ∙ ap (λ z. flat_map statement_tokens z ++ pending sq) (sym (append-nil given));
  leads = ap (λ z. walk z Start) (append-nil given) ∙ is.leads ∙ ap Ok (sym steps.1);
  sound = subst (Each IsSound) (sym (append-nil given)) is.sound;
}
led-on p sp t (Some event) q sq steps taken given is = record {
  taken_are =
      ap (λ z. z ++ t ∷ []) is.taken_are ∙ append_assoc (flat_map statement_tokens given) (pending sp) (t ∷ [])
      ∙ ap (λ z. flat_map statement_tokens given ++ z) steps.1 ∙ sym (flat_map-one given (statement_of event))
      ∙ sym (append-nil (flat_map statement_tokens (given ++ statement_of event ∷ [])))
      ∙ ap (λ z. flat_map statement_tokens (given ++ statement_of event ∷ []) ++ pending z) (sym steps.0);
  leads = walk-append given (statement_of event ∷ []) Start p q is.leads (ap (then_walk (walk [])) steps.2);
  sound = Each-append IsSound given (statement_of event ∷ []) is.sound (steps.3, tt);
}

-- where a statement was given, there is such a file
of_file : (p : Stage) (sp : Spot) (t : Token) (event : Option Event) (q : Stage) (sq : Spot) → Steps p sp t event q sq → (history : GrammarHistory)
    → IsLed history.taken history.given q sq → GivesOfFile event history
of_file p sp t None q sq steps history is = tt
of_file p sp t (Some event) q sq steps history is =
    begin_file history.taken history.given q (is.taken_are ∙ ap (λ z. flat_map statement_tokens history.given ++ pending z) steps.0 ∙ append-nil (flat_map statement_tokens history.given)) is.leads is.sound

abbrev pub held_at : Stage → Spot → ℕ → Option GrammarFault → Held
held_at p sp depth refused = record { stage = p; pending = pending sp; depth = depth; refused = refused }

some-apart : (f : GrammarFault) → ◌≡◌ {A = Option GrammarFault} (Some f) None → ⊥
some-apart f e = cc

-- a call that answered
pub answers : (p : Stage) (sp : Spot) (depth : ℕ) (t : Token) (event : Option Event) (q : Stage) (sq : Spot) → Reaches p sp → Steps p sp t event q sq
    → (history : GrammarHistory) → Stands (held_at p sp depth None) history → (history.refusal ≡ None) × Answers (held_at q sq (depth_of sq) None) event (extended history (call_of t event))
unfolding Stands history-depth
answers p sp depth t event q sq ran steps history stands =
    let open_ : history.refusal ≡ None = sym stands.0 in
    let live = stands.2 open_ in
    let next : IsLed (history.taken ++ t ∷ []) (history.given ++ statements_of event) q sq =
    led-on p sp t event q sq steps history.taken history.given (record { taken_are = live.taken_are; leads = live.leads; sound = live.sound }) in
    let reached = step-reaches p sp t event q sq steps in
    let now_ran = history-ran q sq reached (history.taken ++ t ∷ []) (history.given ++ statements_of event) next.taken_are next.leads next.sound in
    let depth_now = history-depth q sq reached (history.taken ++ t ∷ []) (history.given ++ statements_of event) next.taken_are in (
      open_,
      record {
        stands = (sym (ap (λ z. first_refusal z None) open_), depth_now, λ none. record { taken_are = next.taken_are; leads = next.leads; sound = next.sound });
        given_first = given_first (history.taken ++ t ∷ []) (history.given ++ statements_of event) q sq now_ran;
        of_file = of_file p sp t event q sq steps (extended history (call_of t event)) next;
        depth_is = depth_now;
        ended_are = refl;
      },
    )

pub answers_with : (p : Stage) (sp : Spot) (depth : ℕ) (t : Token) (m : Machine) (event : Option Event) (depth_ : ℕ) (refused_ : Option GrammarFault) → Reaches p sp → AnswersMove (step p sp t) m event
    → depth_ ≡ depth_of (spot_of m) → refused_ ≡ None → (history : GrammarHistory) → Stands (held_at p sp depth None) history
    → (history.refusal ≡ None) × Answers (held_at m.stage (spot_of m) depth_ refused_) event (extended history (call_of t event))
answers_with p sp depth t m event depth_ refused_ ran move e none history stands =
    let found = answers p sp depth t event m.stage (spot_of m) ran (stepped p sp t m event ran move) history stands in
    let Goal : ℕ → Option GrammarFault → Type 0 = λ d r. Answers (held_at m.stage (spot_of m) d r) event (extended history (call_of t event)) in
    (found.0, subst (λ d. Goal d refused_) (sym e) (subst (Goal (depth_of (spot_of m))) (sym none) found.1))

refuses-by : (p : Stage) (sp : Spot) (t : Token) (why : GrammarFault) → Reaches p sp → (taken : List Token) (given : List Statement) → IsLed taken given p sp → RefusesMove (step p sp t) why → Refuses taken given t why
refuses-by p sp t why ran taken given is refused = by why refused where
  was_ran : run taken Start idle ≡ Some (run_outcome given p sp)
  was_ran = history-ran p sp ran taken given is.taken_are is.leads is.sound

  dead : (f : GrammarFault) → step p sp t ≡ refuse f → BeginNoFile (taken ++ t ∷ [])
  dead f e = no_file taken given p sp was_ran t f e

  by : (f : GrammarFault) → RefusesMove (step p sp t) f → Refuses taken given t f
  by fault.NoMemory e = tt
  by fault.EndsEarly e = step-blamed p sp t fault.EndsEarly (e (λ i. cc))
  by fault.Unexpected e = dead fault.Unexpected (e (λ i. cc))
  by fault.TooDeep e =
      let blamed = step-blamed p sp t fault.TooDeep (e (λ i. cc)) in
      let full : depth_of sp ≡ 64 = omega (arith, blamed.1, reaches-within p sp ran) in
      (dead fault.TooDeep (e (λ i. cc)), blamed.0, subst (IsDepth taken) full (history-depth p sp ran taken given is.taken_are))
  by fault.AfterEnd e =
      let blamed = step-blamed p sp t fault.AfterEnd (e (λ i. cc)) in (
        dead fault.AfterEnd (e (λ i. cc)),
        whole_file taken given (is.taken_are ∙ ap (λ z. flat_map statement_tokens given ++ pending z) blamed.1 ∙ append-nil (flat_map statement_tokens given)) (is.leads ∙ ap Ok blamed.0) is.sound,
      )
  by (fault.LeftOut absent) e = dead (fault.LeftOut absent) (e (λ i. cc))
  by fault.HeaderShape e = dead fault.HeaderShape (e (λ i. cc))
  by fault.SectionShape e = dead fault.SectionShape (e (λ i. cc))

-- a call that refused
pub refuses : (p : Stage) (sp : Spot) (depth : ℕ) (t : Token) (why : GrammarFault) (q : Stage) (sq : Spot) → Reaches p sp → RefusesMove (step p sp t) why
    → (history : GrammarHistory) → Stands (held_at p sp depth None) history → history.refusal ≡ None → RefusesToken history t why (held_at q sq depth (Some why))
unfolding Stands
refuses p sp depth t why q sq ran refused history stands open_ =
    let live = stands.2 open_ in
    record {
      refuses = refuses-by p sp t why ran history.taken history.given (record { taken_are = live.taken_are; leads = live.leads; sound = live.sound }) refused;
      stands = (
        sym (ap (λ z. first_refusal z (Some why)) open_),
        subst (λ z. IsDepth z depth) (sym (append-nil history.taken)) stands.1,
        λ none. absurd (some-apart why (sym (ap (λ z. first_refusal z (Some why)) open_) ∙ none)),
      );
    }

-- what was refused before
pub refused_before : (held : Held) (why : GrammarFault) (history : GrammarHistory) → held.refused ≡ Some why → Stands held history → history.refusal ≡ None → ⊥
unfolding Stands
refused_before held why history was stands open_ = some-apart why (sym was ∙ stands.0 ∙ open_)

pub stands_depth : (held : Held) (history : GrammarHistory) → Stands held history → IsDepth history.taken held.depth
unfolding Stands
stands_depth held history stands = stands.1

-- the end of the tokens
pub finished : (p : Stage) (sp : Spot) (depth : ℕ) → p ≡ Ended → sp ≡ idle → (history : GrammarHistory) → Stands (held_at p sp depth None) history → (history.refusal ≡ None) × IsWholeFile history.taken history.given
unfolding Stands
finished p sp depth over at_rest history stands =
    let open_ : history.refusal ≡ None = sym stands.0 in
    let live = stands.2 open_ in
    (open_, whole_file history.taken history.given (live.taken_are ∙ ap (λ z. flat_map statement_tokens history.given ++ pending z) at_rest ∙ append-nil (flat_map statement_tokens history.given)) (live.leads ∙ ap Ok over) live.sound)

pub unfinished : (p : Stage) (sp : Spot) (depth : ℕ) → Reaches p sp → ((p ≡ Ended) × (sp ≡ idle) → ⊥) → (history : GrammarHistory) → Stands (held_at p sp depth None) history → history.refusal ≡ None → AreNoFile history.taken
unfolding Stands
unfinished p sp depth ran apart history stands open_ structure text is same =
    let live = stands.2 open_ in
    apart (at_end history.taken history.given p sp (history-ran p sp ran history.taken history.given live.taken_are live.leads live.sound) structure text is same)

-- what is held where no refusal has come
pub not_refused : (p : Stage) (sp : Spot) (depth : ℕ) (refused : Option GrammarFault) (held : Held) → held_at p sp depth refused ≡ held → refused ≡ None → (history : GrammarHistory) → Stands held history → Stands (held_at p sp depth None) history
not_refused p sp depth refused held e none history stands = subst (λ v. Stands v history) (sym e ∙ ap (held_at p sp depth) none) stands

pub was_refused : (p : Stage) (sp : Spot) (depth : ℕ) (refused : Option GrammarFault) (held : Held) (why : GrammarFault) → held_at p sp depth refused ≡ held → refused ≡ Some why → (history : GrammarHistory) → Stands held history → history.refusal ≡ None → ⊥
was_refused p sp depth refused held why e is history stands open_ = refused_before held why history (ap (λ (v : Held). v.refused) (sym e) ∙ is) stands open_

pub reached-on : (p : Stage) (sp : Spot) (t : Token) (m : Machine) (event : Option Event) → Reaches p sp → AnswersMove (step p sp t) m event → Reaches m.stage (spot_of m)
reached-on p sp t m event ran move = step-reaches p sp t event m.stage (spot_of m) (stepped p sp t m event ran move)

-- a new parser
start-stands : Stands (held_at Start idle 0 None) empty
unfolding Stands
start-stands = (refl, history-depth Start idle refl [] [] refl, λ none. record { taken_are = refl; leads = refl; sound = tt })

pub new-stands : (p : Stage) (sp : Spot) → p ≡ Start → sp ≡ idle → Stands (held_at p sp 0 None) empty
new-stands p sp first at_rest = subst (λ z. Stands (held_at z sp 0 None) empty) (sym first) (subst (λ z. Stands (held_at Start z 0 None) empty) (sym at_rest) start-stands)
