use Rattle.std.proofs.Common.{◌<◌, arith}
use Rattle.p21_stream_resume.proofs.Digits.{digit-last, digit-zero, left-more}
use Rattle.p21_stream_resume.proofs.signpost.Numeral.digit.Goals as goal
use Rattle.p21_stream_resume.proofs.signpost.Numeral.digit.Goals.{then-loop-dropped-test+else-left-gt0, else-loop-dropped-test}

pub loop-dropped-preserved : goal.loop-dropped-preserved
loop-dropped-preserved c =
    let low = c.loop-dropped-test.true in (
      omega (arith, low),
      left-more c.args.self.now.count c.args.self.now.value c.loop-dropped.dropped c.loop-dropped.left
          (omega (arith, low)) c.loop-dropped.invariant.1,
    )

pub returns : goal.returns
returns c =
    let place_low : c.args.place < c.args.self.now.count = c.requires in
    let within = c.loop-dropped.invariant.0 in
    elim c.loop-dropped-test.branch [
      | then-loop-dropped-test+else-left-gt0 w ↦
          let low = w.loop-dropped-test.true in
          let none = w.if-left-gt0.false in
          digit-zero c.args.self.now.count c.args.self.now.value c.loop-dropped.dropped c.loop-dropped.left c.args.place
          (omega (arith, low, place_low)) (omega (arith, none)) c.loop-dropped.invariant.1
      | else-loop-dropped-test w ↦
          let high = w.loop-dropped-test.false in
          digit-last c.args.self.now.count c.args.self.now.value c.loop-dropped.dropped c.loop-dropped.left c.args.place
          (omega (arith, high, within, place_low)) c.loop-dropped.invariant.1
    ]
