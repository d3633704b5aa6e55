use Rattle.std.proofs.Common.{get_or}
use Rattle.postscript_sfnt.specs.Owners.{AreLinks, AreOwners, IsChain}
use Rattle.postscript_sfnt.proofs.character_map.owners.owners.Given as goal

abbrev pub invariant-loop-i : goal.invariant-loop-i
invariant-loop-i l = record {
  owners : AreOwners (λ k. get_or l.firsts k 0) (λ k. get_or l.lasts k 0) l.i l.owners.items;
  chain : IsChain l.links.items;
  links : AreLinks (λ k. get_or l.firsts k 0) (λ k. get_or l.lasts k 0) l.i 0 l.links.items;
}
