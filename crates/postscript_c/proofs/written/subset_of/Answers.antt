use Rattle.std.proofs.Common.{◌∙◌, sym}
use Rattle.postscript_c.proofs.written.subset_of.Goals as goal

pub returns-in-Ok : goal.returns-in-Ok
returns-in-Ok c =
    let is = c.in-Ok.ensures in record {
      retain = c.is_set-retain.result;
      retains = c.is_set-retain.ensures;
      written = is.written;
      drawn = is.drawn;
      same = is.same;
      kept = is.all;
      sound = record {
        whole = is.whole;
        once = is.once;
        ros = is.ros;
        selects = is.selects;
        short = is.short;
        small = is.small;
        lenient = is.lenient;
        one = is.one;
      };
      within = is.within;
      refused = tt;
      several = λ some others. absurd (let never = sym c.in-Ok.is ∙ c.subset_within.ensures.several some others in cc);
      there = is.there;
      some = λ none. absurd (let never = sym c.in-Ok.is ∙ c.subset_within.ensures.none none in cc);
    }
