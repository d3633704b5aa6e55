use Rattle.std.proofs.Common.{rules}
use Rattle.postscript_drawing.specs.Outcome.{IsFront}
use Rattle.postscript_drawing.specs.Operators.{strokes}
use Rattle.postscript_drawing.proofs.ListLaws.{list-drawn, list-kept, list-refused}
use Rattle.postscript_drawing.proofs.pen.Pen.draw_operation.Goals as goal

pub returns-in-Ok-clause-exact : goal.returns-in-Ok-clause-exact
returns-in-Ok-clause-exact c =
    list-drawn (strokes c.args.operator c.args.operands.now) c.args.self.now c.draw_path.new.self c.args.segments.now.items
    c.draw_path.new.sink.items c.in-Ok.field-0 c.in-Ok.ensures

pub returns-in-Err-clause-exact : goal.returns-in-Err-clause-exact
returns-in-Err-clause-exact c =
    list-refused (strokes c.args.operator c.args.operands.now) c.args.self.now c.draw_path.new.self c.args.segments.now.items
    c.draw_path.new.sink.items c.in-Err.e c.from.result c.from.ensures c.in-Err.ensures

pub returns-in-Err-clause-unchanged : goal.returns-in-Err-clause-unchanged
returns-in-Err-clause-unchanged c =
    let kept : IsFront c.args.segments.now.items c.draw_path.new.sink.items =
    list-kept (strokes c.args.operator c.args.operands.now) c.args.self.now c.draw_path.new.self c.args.segments.now.items
    c.draw_path.new.sink.items c.draw_path.result c.draw_path.ensures in
    search rules steps 1000000
