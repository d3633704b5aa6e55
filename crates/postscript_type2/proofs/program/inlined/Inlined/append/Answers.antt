use Rattle.std.proofs.Common.{◌≡◌, rules, length}
use Rattle.postscript_type2.specs.Private.Machines.{said_of}
use Rattle.postscript_type2.proofs.Written.{stands-written}
use Rattle.postscript_type2.proofs.program.inlined.Inlined.append.Goals as goal

pub returns-in_ok-extend_from_slice-in-Stands-clause-ok : goal.returns-in_ok-extend_from_slice-in-Stands-clause-ok
returns-in_ok-extend_from_slice-in-Stands-clause-ok c =
    let is = c.in-Stands.ensures in
    let added = (c.in_ok-extend_from_slice-in-Stands.ensures).items in
    let all : c.len-self.result ≡ length c.extend_from_slice.new.self.items = search rules in
    stands-written c.args.self.now (record { code = c.extend_from_slice.new.self; whole = c.len-self.result }) c.in-Stands.bytes.now is.0
    (said_of c.args.said) added all is.1
