use Rattle.std.proofs.Common.{◌≡◌, ◌/◌, inl, inr, length, arith}
use Rattle.postscript_text.proofs.Naming.{counted, joined}
use Rattle.postscript_text.specs.NameTables.{texts_at}
use Rattle.postscript_text.proofs.names.NameTable.table.Goals as goal
use Rattle.postscript_text.proofs.names.NameTable.table.Goals.{then-begin-gt65535-via-then-begin-gt65535, then-begin-gt65535-via-else-begin-gt65535+then-len-gt65535}

pub returns-then-begin-gt65535 : goal.returns-then-begin-gt65535
returns-then-begin-gt65535 c = λ records h.
    let all = counted _ _ _ h.stored in
    record {
      rows = c.args.self.now.records.items;
      texts = c.args.self.now.texts.items;
      stored = h.stored;
      large = elim c.then-begin-gt65535.branch [
        | then-begin-gt65535-via-then-begin-gt65535 w ↦ inl (omega (arith, all))
        | then-begin-gt65535-via-else-begin-gt65535+then-len-gt65535 w ↦ inr (omega arith)
      ];
    }

pub returns : goal.returns
returns c = λ records h.
    let all = counted _ _ _ h.stored in
    let begin : c.saturating_add-begin.result ≡ texts_at (length records) = omega (arith, all) in
    let count : c.len-2.result / 12 ≡ length records = omega (arith, all) in
    record {
      rows = c.args.self.now.records.items;
      texts = c.args.self.now.texts.items;
      stored = h.stored;
      few = omega (arith, begin);
      short = omega arith;
      is =
          joined (length records) _ _ _ _ _ _ _ _ _ _ c.in_ok-extend_from_slice-2.ensures.items c.in_ok-extend_from_slice.ensures.items
          c.in_ok-put_words.ensures c.new-table.ensures.items c.deref.ensures.value c.deref-2.ensures.value count begin;
    }
