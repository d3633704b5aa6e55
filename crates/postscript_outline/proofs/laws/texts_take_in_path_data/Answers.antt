use Rattle.postscript_outline.proofs.Receiving.{text-received}
use Rattle.postscript_outline.specs.Svg.{segment}
use Rattle.postscript_outline.proofs.laws.texts_take_in_path_data.Goals as goal

pub returns : goal.returns
returns c = λ segments old new is. text-received segment segments old new is
