use Rattle.std.proofs.Common.{inr, ℕ, List, drop, arith}
use Rattle.std.proofs.lemmas.Result.{err_from_is_err_and}
use Rattle.postscript_type2.proofs.Bytes.{number-missing}
use Rattle.postscript_type2.proofs.Pieces.{front-cut}
use Rattle.postscript_type2.proofs.Putting.{both-put, puts-number}
use Rattle.postscript_type2.proofs.program.routine.put_numbers.Goals as goal

pub returns-clause-puts : goal.returns-clause-puts
returns-clause-puts c =
    let looked = c.requires.stands in
    let code : List ℕ = c.args.code.now in
    let stack = c.args.stack.now.items in
    let number = puts-number code c.args.place stack c.args.first looked.0 c.in_ok-operand.operand c.in_ok-operand.behind looked.1
    c.requires.begins c.in_ok-operand.ensures.exact in
    both-put code c.args.place stack c.in_ok-operand.behind c.push.new.self.items c.in_ok-next.next c.put_short.new.stack.items
    (rw c.in_ok-push.ensures.items number.0) c.in_ok-next.ensures.puts

pub returns-clause-onward : goal.returns-clause-onward
returns-clause-onward c =
    let looked = c.requires.stands in
    let number = puts-number c.args.code.now c.args.place c.args.stack.now.items c.args.first looked.0 c.in_ok-operand.operand
    c.in_ok-operand.behind looked.1 c.requires.begins c.in_ok-operand.ensures.exact in
    let on = number.1 in
    let puts = c.in_ok-next.ensures.puts in
    let h = puts.1 in
    omega (arith, on, h)

pub returns-in_err-operand-clause-refused : goal.returns-in_err-operand-clause-refused
returns-in_err-operand-clause-refused c =
    let looked = c.requires.stands in
    let bytes : List ℕ = drop c.args.place c.args.code.now in
    let error = err_from_is_err_and c.from_residual.result c.from_residual.ensures.1 in
    let missing = number-missing c.args.code.now c.args.place _ c.in_err-operand.ensures.exact in
    rw (error.1, error.2) (inr (front-cut bytes looked.0 c.args.first _ looked.1 c.requires.begins missing))
