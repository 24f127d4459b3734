use Rattle.std.proofs.Common.{◌+◌, refl, sym, arith}
use Rattle.p21_stream_output.proofs.Reading.{at-end, next-line, next-part}
use Rattle.p21_stream_output.proofs.cursor.Parts.next.Goals as goal

pub returns-then-cursor-last_line : goal.returns-then-cursor-last_line
returns-then-cursor-last_line c = record {
  part_is = c.requires;
  line_is = omega (arith, c.if-cursor-last_line.true, c.last_line.ensures);
  first = refl;
  rest = sym (next-line c.args.self.now c.args.cursor.part c.args.cursor.line);
}

pub returns-then-cursor-last : goal.returns-then-cursor-last
returns-then-cursor-last c = record {
  part_is = omega (arith, c.if-cursor-last.true, c.last.ensures.last);
  line_is = c.last.ensures.lines (c.args.cursor.part + 1) (omega (arith, c.if-cursor-last.true));
  first = refl;
  rest = sym (next-part c.args.self.now c.args.cursor.part c.args.cursor.line
      (omega (arith, c.if-cursor-last_line.false, c.last_line.ensures)));
}

pub returns : goal.returns
returns c =
    at-end c.args.self.now c.args.cursor.part c.args.cursor.line (omega (arith, c.if-cursor-last_line.false, c.last_line.ensures))
    (omega (arith, c.if-cursor-last.false, c.last.ensures.last))
