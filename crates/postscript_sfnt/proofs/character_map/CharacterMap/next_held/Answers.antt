use Rattle.std.proofs.Common.{ℕ, List}
use Rattle.postscript_sfnt.specs.CharacterMap.{first4, last4, gives4, first12, last12, gives12}
use Rattle.postscript_sfnt.proofs.Searching.{lost}
use Rattle.postscript_sfnt.proofs.character_map.CharacterMap.next_held.Goals as goal

pub returns-in-Segments : goal.returns-in-Segments
returns-in-Segments c =
    let table : List ℕ = c.in-Segments.segments.table.now in
    let count : ℕ = c.in-Segments.segments.count in
    rw c.in-Segments.is (record {
      behind = c.next_held.ensures.behind;
      within = c.next_held.ensures.within;
      none = λ k from below. lost (first4 table count) (last4 table) (gives4 table count) count k (c.next_held.ensures.none k from below);
    })

pub returns-in-Groups : goal.returns-in-Groups
returns-in-Groups c =
    let table : List ℕ = c.in-Groups.groups.table.now in
    rw c.in-Groups.is (record {
      behind = c.next_held-in-Groups.ensures.behind;
      within = c.next_held-in-Groups.ensures.within;
      none = λ k from below. lost (first12 table) (last12 table) (gives12 table) c.in-Groups.groups.count k
          (c.next_held-in-Groups.ensures.none k from below);
    })
