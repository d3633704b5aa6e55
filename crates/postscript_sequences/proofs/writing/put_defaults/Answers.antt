use Rattle.std.proofs.Common.{arith}
use Rattle.postscript_sequences.specs.Text.{range_text}
use Rattle.postscript_sequences.proofs.Reading.{length_range}
use Rattle.postscript_sequences.proofs.Sizing.{table_length}
use Rattle.postscript_sequences.proofs.writing.put_defaults.Goals as goal

pub returns-clause-size : goal.returns-clause-size
returns-clause-size c =
    table_length 4 range_text length_range c.args.chars.now (grind arith) c.in_ok-long_of.field-0 c.args.out.now.items c.put32.new.out.items
    c.put_ranges.new.out.items c.in_ok-put32.ensures c.in_ok-put_ranges.ensures
