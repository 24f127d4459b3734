use Rattle.std.proofs.Common.{arith}
use Rattle.p21_model_values.proofs.TypedValues.{typed-inside, typed-long, typed-once}
use Rattle.p21_model_values.proofs.value.Value.typed.Goals as goal

pub returns-then-behind-lt2 : goal.returns-then-behind-lt2
returns-then-behind-lt2 c word p text =
    let is = typed-once c.args.self.text.now word c.in_ok-word.word.now c.in_ok-word.behind.now p text c.in_ok-word.ensures.some in
    let long = typed-long word c.in_ok-word.word.now c.in_ok-word.behind.now p is in
    omega (arith, long, c.if-behind-lt2.true)

pub returns : goal.returns
returns c word p text = typed-inside word c.in_ok-word.word.now c.in_ok-word.behind.now p
    (typed-once c.args.self.text.now word c.in_ok-word.word.now c.in_ok-word.behind.now p text c.in_ok-word.ensures.some)
