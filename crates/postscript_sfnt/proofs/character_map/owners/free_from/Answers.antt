use Rattle.std.proofs.Common.{ℕ, inl, inr, refl, get_or, arith}
use Rattle.std.proofs.lemmas.Bool.{cases_lt}
use Rattle.postscript_sfnt.proofs.Owning.{halved_chain, halved_links}
use Rattle.postscript_sfnt.proofs.character_map.owners.free_from.Goals as goal

pub loop-links-preserved : goal.loop-links-preserved
loop-links-preserved c =
    let links = c.loop-links.links in
    let char : ℕ = c.loop-links.char in
    let next : ℕ = get_or links char 0 in
    let i = c.loop-links.invariant in
    record {
      within = i.chain.within char i.within;
      behind = omega (arith, i.behind, i.chain.onward char i.within);
      chain = halved_chain links char next (get_or links next 0) i.chain i.within refl refl;
      links = λ first last count to are. halved_links links char next
          (get_or links next 0) i.chain i.within refl refl c.loop-links-test.true first last count to (i.links first last count to are);
      over = λ first last count to are k behind below. elim (cases_lt k char) [
        | inl before ↦ i.over first last count to are k behind before
        | inr past ↦ (i.links first last count to are).over char k i.within past below
      ];
    }

pub returns-clause-free : goal.returns-clause-free
returns-clause-free c = λ first last count to are. record {
  behind = c.loop-links.invariant.behind;
  over = c.loop-links.invariant.over first last count to are;
  none = λ there. (c.loop-links.invariant.links first last count to are).free c.loop-links.char there c.loop-links-test.false;
}
