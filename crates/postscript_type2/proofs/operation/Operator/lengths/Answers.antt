use Rattle.std.proofs.Common.{lit<}
use Rattle.postscript_type2.proofs.Cases.{by_case}
use Rattle.postscript_type2.proofs.Suffixes.{exactly-row, some-row, groups-row, fours-row, no-row}
use Rattle.postscript_type2.proofs.operation.Operator.lengths.Goals as goal

pub returns : goal.returns
returns c = by_case c.args.self.now
    (λ e. rw e (groups-row 2 0 (lit< tt))) (λ e. rw e (groups-row 2 0 (lit< tt))) (λ e. rw e (exactly-row 1))
    (λ e. rw e (groups-row 2 0 (lit< tt))) (λ e. rw e some-row)
    (λ e. rw e some-row) (λ e. rw e (groups-row 6 0 (lit< tt))) (λ e. rw e no-row) (λ e. rw e no-row) (λ e. rw e no-row)
    (λ e. rw e (groups-row 2 0 (lit< tt)))
    (λ e. rw e (exactly-row 0)) (λ e. rw e (exactly-row 0)) (λ e. rw e (exactly-row 2)) (λ e. rw e (exactly-row 1))
    (λ e. rw e (groups-row 2 0 (lit< tt)))
    (λ e. rw e (groups-row 6 2 (lit< tt))) (λ e. rw e (groups-row 2 6 (lit< tt))) (λ e. rw e fours-row) (λ e. rw e fours-row)
    (λ e. rw e no-row) (λ e. rw e fours-row)
    (λ e. rw e fours-row) (λ e. rw e no-row) (λ e. rw e no-row) (λ e. rw e no-row) (λ e. rw e no-row) (λ e. rw e no-row)
    (λ e. rw e no-row) (λ e. rw e no-row)
    (λ e. rw e no-row) (λ e. rw e no-row) (λ e. rw e no-row) (λ e. rw e no-row) (λ e. rw e no-row) (λ e. rw e no-row) (λ e. rw e no-row)
    (λ e. rw e no-row)
    (λ e. rw e no-row) (λ e. rw e no-row) (λ e. rw e no-row) (λ e. rw e no-row) (λ e. rw e no-row) (λ e. rw e (exactly-row 7))
    (λ e. rw e (exactly-row 13))
    (λ e. rw e (exactly-row 9)) (λ e. rw e (exactly-row 11))
