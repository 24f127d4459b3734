use Rattle.std.proofs.Common.{sym, ◌∙◌, refl}
use Rattle.p21_spec_schema.specs.Express.{encoded_string}
use Rattle.p21_express_lexemes.specs.Bytes.{front}
use Rattle.p21_express_lexemes.specs.declared.bytes.Class.TheVariants.{Encoded}
use Rattle.p21_express_lexemes.proofs.Lexing.{encoded_there}
use Rattle.p21_express_lexemes.proofs.lexeme.encoded_string.Goals as goal

pub returns : goal.returns
returns c =
    let inside = front Encoded c.args.bytes.now in
    (encoded_string inside, rw (c.behind.ensures, ← c.split_of.ensures.behind) (encoded_there inside c.split_of.result.1.now (sym c.is_empty.ensures ∙ c.if-is_empty.false)), (inside, refl))
