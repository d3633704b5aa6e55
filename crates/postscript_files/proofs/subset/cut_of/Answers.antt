use Rattle.postscript_files.proofs.Subsetting.{some-named}
use Rattle.postscript_files.proofs.subset.cut_of.Goals as goal

pub returns-in-Ok-clause-font : goal.returns-in-Ok-clause-font
returns-in-Ok-clause-font c = record {
  drawn = c.in-Ok.ensures.drawn;
  same = c.in-Ok.ensures.same;
  written = c.in-Ok.ensures.written;
  kept = c.in-Ok.ensures.all;
  sound = record {
    whole = c.in-Ok.ensures.whole;
    once = c.in-Ok.ensures.once;
    ros = c.in-Ok.ensures.ros;
    selects = c.in-Ok.ensures.selects;
    short = c.in-Ok.ensures.short;
    small = c.in-Ok.ensures.small;
    lenient = c.in-Ok.ensures.lenient;
    one = c.in-Ok.ensures.one;
  };
  some = some-named c.args.named.now (λ e. let p = c.in-Ok.ensures.none e in absurd (cc));
  there = c.in-Ok.ensures.there;
}
