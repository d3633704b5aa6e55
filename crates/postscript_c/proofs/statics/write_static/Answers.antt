use Rattle.postscript_c.proofs.statics.write_static.Goals as goal

pub returns : goal.returns
returns c = record {
  whole = c.is_set-whole.result;
  set = c.is_set-whole.ensures;
  file = c.instance_file.ensures.written;
  why = c.instance_file.ensures.within;
}
