use Rattle.std.proofs.Common.{[], refl}
use Rattle.postscript_write.proofs.Rests.{none_fit}
use Rattle.postscript_instance.proofs.layout.head.Goals as goal

pub put_index-requires-2 : goal.put_index-requires-2
put_index-requires-2 c = none_fit [] refl
