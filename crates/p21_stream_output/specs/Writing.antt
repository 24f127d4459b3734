-- A data section that is written, and the block that it is.
use Rattle.std.specs.Prelude.{◌≡◌, map}
use Rattle.p21_spec_laws.specs.CompleteFile.{Block, Line}
use Rattle.p21_spec_exchange.specs.CanonicalText.{statement_text}
use Rattle.p21_spec_exchange.specs.Statement.{data_start, section}
use Rattle.p21_stream_output.specs.Output.{WrittenSection}

-- its line begins the section, and its texts are those of the block's lines
pub record IsWrittenBlock (w : WrittenSection) (b : Block) : Type 0 where
  pub line_is : w.line ≡ statement_text (section (data_start b.heading))
  pub texts_are : w.texts ≡ map (λ (l : Line). l.1) b.lines
