-- The header (Technical Note 5176, "Header"): four numbers of one byte, whose values are not checked.
use Rattle.postscript_base.specs.Tape.Outcome.{Reading, ◌>>=◌, pure}
use Rattle.postscript_base.specs.Numbers.{number}
use Rattle.postscript_base.specs.declared.compact1.header.Header.{Header}

unfoldable pub header : Reading Header
header = do
  major ← number 1
  minor ← number 1
  header_size ← number 1
  offset_size ← number 1
  pure (record { major = major; minor = minor; header_size = header_size; offset_size = offset_size })
