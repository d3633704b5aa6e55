use Rattle.std.proofs.Common.{◌∙◌, ap, subst, arith}
use Rattle.std.specs.Prelude.{MatchOption}
use Rattle.postscript_base.specs.Numbers.{big_endian}
use Rattle.postscript_sfnt.specs.Lent.{HasNoTable, IsTableOf}
use Rattle.postscript_files.proofs.Filing.{tag-back}
use Rattle.postscript_files.proofs.tables.table_of.Goals as goal

pub returns : goal.returns
returns c =
    subst (λ n. MatchOption c.table.result (HasNoTable c.args.file.now n) (λ table. IsTableOf c.args.file.now n table.now))
    (ap big_endian c.to_be_bytes.ensures ∙ tag-back c.args.tag (omega arith)) c.table.ensures
