use Rattle.std.proofs.Common.{refl, arith}
use Rattle.postscript_write.proofs.Making.{if_ok}
use Rattle.postscript_write.proofs.Unnamed.{all_there, gone_alone}
use Rattle.postscript_write.proofs.layout.without_private.Goals as goal

pub ros_first-requires : goal.ros_first-requires
ros_first-requires c = (0, omega arith, refl)

pub ros_first-requires-2 : goal.ros_first-requires-2
ros_first-requires-2 c = (0, omega arith, refl)

pub returns-then-is_cid_keyed-clause-unnamed : goal.returns-then-is_cid_keyed-clause-unnamed
returns-then-is_cid_keyed-clause-unnamed c =
    if_ok c.ros_first.result (λ out moved is. let new = moved c.args.font.now.dictionary is in
    (new.0, new.1, gone_alone c.args.font.now.dictionary new.0 new.2 (c.if-is_cid_keyed.ensures.0 refl))) c.ros_first.ensures.moved

pub returns-clause-unnamed : goal.returns-clause-unnamed
returns-clause-unnamed c =
    if_ok c.ros_first-2.result (λ out moved is. let new = moved c.args.font.now.dictionary is in
    (new.0, new.1, all_there c.args.font.now.dictionary new.0 new.2 (λ keyed. let never = c.if-is_cid_keyed.ensures.1 keyed in absurd (cc))))
    c.ros_first-2.ensures.moved
