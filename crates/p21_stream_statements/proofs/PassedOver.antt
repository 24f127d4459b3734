-- Bytes of whole instances, which a lexer with a parser behind it passes over.
use Rattle.std.proofs.Common.{◌≡◌, ℕ, List, ◌++◌, Option, None, inr, sym, ap, subst, ◌∙◌, length-append}
use Rattle.std.specs.List.{flat_map}
use Rattle.p21_spec_basics.specs.History.{extended, first_refusal}
use Rattle.p21_spec_exchange.proofs.Semicolons.{statements-end}
use Rattle.p21_spec_exchange.specs.Statement.{Statement, statement_tokens}
use Rattle.p21_spec_exchange.specs.Token.{Token}
use Rattle.p21_grammar.specs.Between.{StandsForMore, instances_call, instances_of}
use Rattle.p21_grammar.specs.Held as grammar_held
use Rattle.p21_grammar.specs.Histories as grammar
use Rattle.p21_grammar.specs.Histories.{GrammarHistory}
use Rattle.p21_grammar.specs.declared.fault.GrammarFault.{GrammarFault}
use Rattle.p21_stream_statements.proofs.Seen.{seen-none}
use Rattle.p21_stream_statements.proofs.Stepping.{of-given}
use Rattle.p21_stream_statements.specs.StatementReader.{Held, IsLive, IsSeenAt, StatementHistory}
use Rattle.p21_stream_statements.specs.PassingOver.{GivesPassed, IsAtRest, instance_tokens}
use Rattle.p21_tokens.specs.Held as tokens_held
use Rattle.p21_tokens.specs.Passing as passing
use Rattle.p21_tokens.specs.declared.fault.TokenFault.{TokenFault}

-- each history goes on: the lexer's by the bytes, and the parser's, which stays, by their tokens
gone-by : (old : Held) (count : ℕ) (lexer : tokens_held.Held) → ((reading : StatementHistory) → IsLive old reading → IsAtRest reading)
    → StandsForMore old.parser → passing.GivesPassed old.lexer count lexer
    → GivesPassed old count (record { lexer = lexer; parser = old.parser })
gone-by old count lexer rests stands gives reading live bytes instances size are =
    let found : List Token = instance_tokens instances in
    let answers = gives live.history bytes found live.lexer size are.laid (statements-end (instances_of instances)) in
    let passed = stands live.parsing instances live.parser are.of_data in
    let parsing : GrammarHistory = extended live.parsing (instances_call instances) in
    let unseen : live.history.seen ≡ None = live.seen_is ∙ (rests reading live).seen in
    let given : parsing.given ≡ reading.given ++ instances_of instances =
    ap (λ (g : List Statement). g ++ instances_of instances) live.given_are in
    record {
      live = record {
        history = extended live.history (passing.passing_call bytes found);
        lexer = answers.stands;
        answered = inr answers;
        lexer_open = ap (λ (r : Option TokenFault). first_refusal r None) live.lexer_open;
        taken_are = ap (λ (l : List ℕ). l ++ bytes) live.taken_are;
        seen_is = seen-none live.history.seen bytes (subst (λ (seen : Option ℕ). IsSeenAt seen bytes 0) (sym unseen) tt);
        parsing = parsing;
        parser = passed.answers.stands;
        parser_open = ap (λ (r : Option GrammarFault). first_refusal r None) live.parser_open;
        tokens_are = ap (λ (ts : List Token). ts ++ found) live.tokens_are;
        given_are = given;
        given_first = subst (λ (g : List Statement). grammar.AreGivenFirst parsing.taken g) given passed.answers.given_first;
        ended_by = record {
          depth_is = passed.answers.depth_is;
          ended_are = passed.answers.ended_are
              ∙ ap (λ (g : List Statement). flat_map statement_tokens g) given;
        };
        of_file = of-given parsing old.parser.depth (reading.given ++ instances_of instances) passed.of_file
            (record { depth_is = passed.answers.depth_is; ended_are = passed.answers.ended_are }) given;
      };
      more = length-append live.history.given found;
    }

-- the same, of what is held by the lexer and by the parser
pub passes-on : (lexer next : tokens_held.Held) (parser : grammar_held.Held) (old : Held) (count : ℕ)
    → record { lexer = lexer; parser = parser } ≡ old → ((reading : StatementHistory) → IsLive old reading → IsAtRest reading)
    → StandsForMore old.parser
    → passing.GivesPassed lexer count next → GivesPassed old count (record { lexer = next; parser = parser })
passes-on lexer next parser old count same =
    subst (λ (h : Held). ((reading : StatementHistory) → IsLive h reading → IsAtRest reading) → StandsForMore h.parser
    → passing.GivesPassed lexer count next → GivesPassed h count (record { lexer = next; parser = parser })) same
    (gone-by (record { lexer = lexer; parser = parser }) count next)
