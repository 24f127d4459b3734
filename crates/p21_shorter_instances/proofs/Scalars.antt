-- Scalars that stand at the front, at their types.
use Rattle.std.proofs.Common.{◌≡◌, ℕ, ℤ, Bool, true, false, List, length, Option, Contains, refl, sym, subst}
use Rattle.p21_spec_laws.specs.Needs.{with_whole, with_real, with_number, with_whole_number, with_boolean, with_logical, with_text, with_binary}
use Rattle.p21_spec_exchange.specs.Parameter as parameter
use Rattle.p21_spec_exchange.specs.Token as token
use Rattle.p21_express_graph.specs.declared.type_use.TypeUse as code
use Rattle.p21_express_graph.specs.Meaning.{type_use}
use Rattle.p21_spec_file.specs.Fits.{IsWithinWidth, boolean_items, logical_items}
use Rattle.p21_spec_file.specs.Value as meant
use Rattle.p21_spec_schema.specs.Schema as schema
use Rattle.p21_spec_schema.specs.Schema.{Width}
use Rattle.p21_shorter_tokens.specs.LeadingToken.{AppendsToken}
use Rattle.p21_shorter_tokens.specs.Numbers.{AppendsNumberToken, a_real, a_whole}
use Rattle.p21_shorter_instances.specs.TakenValues.{TakesScalar}

module _ (bytes : List ℕ) (count : ℕ) (old new : List ℕ) where
  pub whole-taken : (z : ℤ) → AppendsToken bytes count (token.whole z) old new → TakesScalar schema.whole bytes count old new
  whole-taken z h =
      record {
        token = token.whole z;
        parameter = parameter.whole z;
        value = meant.whole z;
        stands = h.stands;
        tokens_are = refl;
        flat =
            refl;
        fits = λ s. with_whole z;
        text_is = λ s. h.appended;
      }

  pub real-taken : AppendsNumberToken false bytes count old new → TakesScalar schema.real bytes count old new
  real-taken (a_real d h) =
      record {
        token = token.real d;
        parameter = parameter.real d;
        value = meant.real d;
        stands = h.stands;
        tokens_are = refl;
        flat =
            refl;
        fits = λ s. with_real d;
        text_is = λ s. h.appended;
      }
  real-taken (a_whole z d is _ _ _ _ _) = cc

  pub number-taken : AppendsNumberToken true bytes count old new → TakesScalar schema.number bytes count old new
  number-taken (a_real d h) =
      record {
        token = token.real d;
        parameter = parameter.real d;
        value = meant.number d;
        stands = h.stands;
        tokens_are = refl;
        flat =
            refl;
        fits = λ s. with_number d;
        text_is = λ s. h.appended;
      }
  number-taken (a_whole z d _ stands reduced_type range same text) =
      record {
        token = token.whole z;
        parameter = parameter.whole z;
        value = meant.number d;
        stands = stands;
        tokens_are = refl;
        flat =
            refl;
        fits = λ s. with_whole_number z d reduced_type range same;
        text_is = λ s. text;
      }

  pub boolean-taken : (word : List ℕ) → Contains boolean_items word → AppendsToken bytes count (token.item word) old new
      → TakesScalar schema.boolean bytes count old new
  boolean-taken word among h =
      record {
        token = token.item word;
        parameter = parameter.item word;
        value = meant.item word;
        stands = h.stands;
        tokens_are =
            refl;
        flat = refl;
        fits = λ s. with_boolean word among;
        text_is = λ s. h.appended;
      }

  pub logical-taken : (word : List ℕ) → Contains logical_items word → AppendsToken bytes count (token.item word) old new
      → TakesScalar schema.logical bytes count old new
  logical-taken word among h =
      record {
        token = token.item word;
        parameter = parameter.item word;
        value = meant.item word;
        stands = h.stands;
        tokens_are =
            refl;
        flat = refl;
        fits = λ s. with_logical word among;
        text_is = λ s. h.appended;
      }

  pub text-taken : (width : Option Width) (characters : List ℕ) → IsWithinWidth width (length characters)
      → AppendsToken bytes count (token.text characters) old new
      → TakesScalar (schema.text width) bytes count old new
  text-taken width characters within h =
      record {
        token = token.text characters;
        parameter = parameter.text characters;
        value = meant.text characters;
        stands =
            h.stands;
        tokens_are = refl;
        flat = refl;
        fits = λ s. with_text width characters within;
        text_is = λ s. h.appended;
      }

  pub binary-taken : (width : Option Width) (bits : List Bool) → IsWithinWidth width (length bits)
      → AppendsToken bytes count (token.bits bits) old new
      → TakesScalar (schema.bits width) bytes count old new
  binary-taken width bits within h =
      record {
        token = token.bits bits;
        parameter = parameter.bits bits;
        value = meant.bits bits;
        stands = h.stands;
        tokens_are =
            refl;
        flat = refl;
        fits = λ s. with_binary width bits within;
        text_is = λ s. h.appended;
      }

-- at a type that is known
pub at-type : (u known : code.TypeUse) (bytes : List ℕ) (count : ℕ) (old new : List ℕ) → u ≡ known
    → TakesScalar (type_use known) bytes count old new
    → TakesScalar (type_use u) bytes count old new
at-type u known bytes count old new is h = subst (λ (x : code.TypeUse). TakesScalar (type_use x) bytes count old new) (sym is) h
