use Rattle.postscript_instance_file.proofs.instance.made_of.Goals as goal

pub returns-in-Err : goal.returns-in-Err
returns-in-Err c = c.error_of_table.ensures c.args.face.now c.in-Err.ensures
