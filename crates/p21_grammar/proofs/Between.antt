-- A parser that stands between two instances.
use Rattle.std.proofs.Common.{◌≡◌, ℕ, ◌<◌, Bool, true, false, List, [], ◌∷◌, ◌++◌, length, length-append, Option, Some, None, Ok, refl, ap, sym, ◌∙◌, subst, arith}
use Rattle.std.proofs.lemmas.List.{append-nil}
use Rattle.std.specs.Option.{is_some}
use Rattle.std.specs.Prelude.{◌↔◌, IsTrue}
use Rattle.std.specs.List.{flat_map, AllByRecursion as Each}
use Rattle.std.proofs.lemmas.Grind.{flat_map-append}
use Rattle.p21_spec_basics.specs.History.{first_refusal}
use Rattle.p21_spec_exchange.proofs.Semicolons.{Each-append, statements-end}
use Rattle.p21_spec_exchange.specs.DataSection.{unnamed, named}
use Rattle.p21_spec_exchange.specs.OpenNesting.{IsDepth}
use Rattle.p21_spec_exchange.specs.Parameter.{key_token, params_tokens}
use Rattle.p21_spec_exchange.specs.Record.{Record}
use Rattle.p21_spec_exchange.specs.Statement.{Statement, begin, header_start, section_end, data_start, finish, statement_tokens}
use Rattle.p21_spec_exchange.specs.Token.{Token, left}
use Rattle.p21_grammar.proofs.Holding.{held_at, history-ran, walk-append}
use Rattle.p21_grammar.proofs.Theorems.{given_first, begin_file}
use Rattle.p21_grammar.proofs.Walks.{unnamed-walk, named-walk, instances-sound}
use Rattle.p21_grammar.specs.Between.{IsBetweenInstances, instances_of, StandsForMore}
use Rattle.p21_grammar.specs.Held.{Held}
use Rattle.p21_grammar.specs.Histories.{Stands}
use Rattle.p21_grammar.specs.Reopening.{IsBetweenStatements}
use Rattle.p21_grammar.specs.Runs.{ready_tokens, head_tokens, opening_tokens, stack_tokens, row_tokens, pending}
use Rattle.p21_grammar.specs.Sound.{IsSound}
use Rattle.p21_grammar.specs.Machine.{Opening, part_row, list_row, typed_row, Open, open_at, Spot, idle, line, named as name_taken, equal, inside, keyed, next, word, behind, record_end, instance_end, depth_of}
use Rattle.p21_grammar.specs.Stage.{is_in_data, walk}
use Rattle.p21_grammar.specs.declared.fault.GrammarFault.{GrammarFault}
use Rattle.p21_grammar.specs.declared.stage.Stage.{Stage}
use Rattle.p21_grammar.specs.declared.stage.Stage.TheVariants.{Start, Unnamed, Named}

-- ---- where no token is held, no statement is open

opening-some : (o : Opening) → 0 < length (opening_tokens o)
opening-some (part_row h k) = let l = length-append (head_tokens h) (key_token k ∷ left ∷ []) in omega arith
opening-some list_row = omega arith
opening-some (typed_row k) = omega arith

row-some : (st : List Open) (o : Opening) (tokens : List Token) → stack_tokens st ++ (opening_tokens o ++ tokens) ≡ [] → ⊥
row-some st o tokens e =
    let l = ap length e in
    let m = length-append (stack_tokens st) (opening_tokens o ++ tokens) in
    let n = length-append (opening_tokens o) tokens in
    let some = opening-some o in
    omega arith

last-some : (tokens : List Token) (t : Token) → tokens ++ t ∷ [] ≡ [] → ⊥
last-some tokens t e = let l = ap length e in let m = length-append tokens (t ∷ []) in omega arith

pending-none : (sp : Spot) → pending sp ≡ [] → sp ≡ idle
pending-none idle e = refl
pending-none (line begin) e = cc
pending-none (line header_start) e = cc
pending-none (line section_end) e = cc
pending-none (line (data_start unnamed)) e = cc
pending-none (line (data_start (named name schema))) e = cc
pending-none (line finish) e = cc
pending-none (name_taken n) e = cc
pending-none (equal n) e = cc
pending-none (inside n parts) e = cc
pending-none (keyed h k) e = absurd (last-some (head_tokens h) (key_token k) e)
pending-none (next (open_at o ps) st) e = absurd (row-some st o (ready_tokens ps) e)
pending-none (word k row st) e = absurd (last-some (stack_tokens st ++ row_tokens row) (key_token k) e)
pending-none (behind (open_at o ps) st) e = absurd (row-some st o (params_tokens ps) e)
pending-none (record_end part) e = cc
pending-none (instance_end n r) e = cc

-- ---- instances more

instances-walk : (instances : List (ℕ × Record)) (p : Stage) → is_in_data p ≡ true → walk (instances_of instances) p ≡ Ok p
instances-walk instances Unnamed e = ap (λ z. walk z Unnamed) (sym (append-nil (instances_of instances))) ∙ unnamed-walk instances []
instances-walk instances Named e = ap (λ z. walk z Named) (sym (append-nil (instances_of instances))) ∙ named-walk instances []
instances-walk instances other e = absurd cc

stands-for-more : (held : Held) → IsBetweenInstances held → held.depth ≡ 0 → StandsForMore held
unfolding Stands
stands-for-more held is flat history instances stands are =
    let open_ : history.refusal ≡ None = sym stands.0 ∙ is.refused in
    let live = stands.2 open_ in
    let more : List Token = flat_map statement_tokens (instances_of instances) in
    let taken : List Token = history.taken ++ more in
    let given : List Statement = history.given ++ instances_of instances in
    let before : history.taken ≡ flat_map statement_tokens history.given = live.taken_are ∙ ap (λ z. flat_map statement_tokens history.given ++ z) is.pending ∙ append-nil (flat_map statement_tokens history.given) in
    let now : taken ≡ flat_map statement_tokens given = ap (λ z. z ++ more) before ∙ sym (flat_map-append statement_tokens history.given (instances_of instances)) in
    let behind_none : taken ≡ flat_map statement_tokens given ++ [] = now ∙ sym (append-nil (flat_map statement_tokens given)) in
    let leads : walk given Start ≡ Ok held.stage = walk-append history.given (instances_of instances) Start held.stage held.stage live.leads (instances-walk instances held.stage is.in_data) in
    let sound : Each IsSound given =
    Each-append IsSound history.given (instances_of instances) live.sound (subst (Each IsSound) (append-nil (instances_of instances)) (instances-sound instances [] are tt)) in
    let depth_now : IsDepth taken held.depth = record {
      opened = [];
      open_statement = record { ended = flat_map statement_tokens given; given_are = behind_none; ends = statements-end given; no_semicolon = tt };
      depth_is = flat;
    } in
    record {
      answers = record {
        stands = (
          is.refused ∙ sym (ap (λ z. first_refusal z None) open_),
          depth_now,
          λ none. record { taken_are = behind_none ∙ ap (λ z. flat_map statement_tokens given ++ z) (sym is.pending); leads = leads; sound = sound },
        );
        given_first = given_first taken given held.stage idle (history-ran held.stage idle refl taken given behind_none leads sound);
        of_file = tt;
        depth_is = depth_now;
        ended_are = refl;
      };
      of_file = begin_file taken given held.stage now leads sound;
    }

-- ---- what a parser answers

none-is : (refused : Option GrammarFault) → false ≡ is_some refused → refused ≡ None
none-is None e = refl
none-is (Some fault) e = absurd cc

some-is : (refused : Option GrammarFault) → true ≡ is_some refused → refused ≡ None → ⊥
some-is None e none = absurd cc
some-is (Some fault) e none = absurd cc

module _ (p : Stage) (sp : Spot) (depth : ℕ) (refused : Option GrammarFault) (held : Held) (same : held_at p sp depth refused ≡ held) where
  is-between : refused ≡ None → is_in_data p ≡ true → sp ≡ idle → IsBetweenInstances held
  is-between none in_data at_rest = subst IsBetweenInstances same (record { refused = none; in_data = in_data; pending = ap pending at_rest })

  between-is : IsBetweenInstances held → (refused ≡ None) × (is_in_data p ≡ true) × (sp ≡ idle)
  between-is is = let here = subst IsBetweenInstances (sym same) is in (here.refused, here.in_data, pending-none sp here.pending)

  pub refused-value : true ≡ is_some refused → IsTrue false ↔ IsBetweenInstances held
  refused-value some = (λ e. absurd cc, λ is. absurd (some-is refused some (between-is is).0))

  -- by what the machine has answered
  pub open-value : (answer : Bool) → false ≡ is_some refused → (IsTrue answer ↔ ((is_in_data p ≡ true) × (sp ≡ idle))) → IsTrue answer ↔ IsBetweenInstances held
  open-value answer open_ decides = (
    λ e. let here = decides.0 e in is-between (none-is refused open_) here.0 here.1,
    λ is. let here = between-is is in decides.1 (here.1, here.2),
  )

  pub open-stands : (answer : Bool) → false ≡ is_some refused → (IsTrue answer ↔ ((is_in_data p ≡ true) × (sp ≡ idle))) → (refused ≡ None → depth ≡ depth_of sp) → answer ≡ true → StandsForMore held
  open-stands answer open_ decides flat e =
      let none = none-is refused open_ in
      let here = decides.0 e in
      stands-for-more held (is-between none here.0 here.1) (ap (λ (v : Held). v.depth) (sym same) ∙ flat none ∙ ap depth_of here.1)

  pub open-between : (answer : Bool) → false ≡ is_some refused → (IsTrue answer ↔ ((is_in_data p ≡ true) × (sp ≡ idle))) → (refused ≡ None → depth ≡ depth_of sp) → answer ≡ true → IsBetweenStatements held
  open-between answer open_ decides flat e =
      let none = none-is refused open_ in
      let here = decides.0 e in
      subst IsBetweenStatements same (record { refused = none; pending = ap pending here.1; depth = flat none ∙ ap depth_of here.1 })
