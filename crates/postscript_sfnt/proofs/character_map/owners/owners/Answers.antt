use Rattle.std.proofs.Common.{◌≡◌, ◌+◌, ◌++◌, ℕ, List, sym, subst, get_or, length, take, drop, arith}
use Rattle.std.proofs.Math.Seq.{take-append_seam}
use Rattle.postscript_sfnt.specs.Owners.{AreLinks, AreOwners, IsChain}
use Rattle.postscript_sfnt.proofs.character_map.owners.owners.Goals as goal

-- a slice of a whole vector that is written back
back : (n : ℕ) (xs ys : List ℕ) → length xs ≡ n → xs ≡ take n (xs ++ ys)
back n xs ys all = subst (λ k. xs ≡ take k (xs ++ ys)) all (sym (take-append_seam xs ys))

pub loop-i-init : goal.loop-i-init
loop-i-init c =
    let firsts : ℕ → ℕ = λ k. get_or c.args.firsts.now k 0 in
    let lasts : ℕ → ℕ = λ k. get_or c.args.lasts.now k 0 in
    record {
      owners =
          c.in_ok-owners.ensures firsts lasts;
      chain = c.in_ok-links.ensures.chain;
      links = c.in_ok-links.ensures.links firsts lasts;
    }

pub paint-requires-clause-links : goal.paint-requires-clause-links
paint-requires-clause-links c =
    let firsts : ℕ → ℕ = λ k. get_or c.args.firsts.now k 0 in
    let lasts : ℕ → ℕ = λ k. get_or c.args.lasts.now k 0 in
    subst (λ (xs : List ℕ). AreLinks firsts lasts c.loop-i.i 0 xs) (sym c.deref_mut-in-loop-i.ensures.value) c.loop-i.invariant.links

pub loop-i-preserved : goal.loop-i-preserved
loop-i-preserved c =
    let firsts : ℕ → ℕ = λ k. get_or c.args.firsts.now k 0 in
    let lasts : ℕ → ℕ = λ k. get_or c.args.lasts.now k 0 in
    let old = c.loop-i in
    let new = c.paint in
    let owners = back old.owners.len new.new.owners (drop (length new.new.owners) old.owners.items)
    (omega (arith, new.ensures.owners.all, old.invariant.owners.all, old.owners.ok.0)) in
    let links = back old.links.len new.new.links (drop (length new.new.links) old.links.items)
    (omega (arith, new.ensures.chain.all, old.invariant.chain.all, old.links.ok.0)) in
    record {
      owners = subst (λ (xs : List ℕ). AreOwners firsts lasts (old.i + 1) xs) owners new.ensures.owners;
      chain = subst (λ (xs : List ℕ). IsChain xs) links new.ensures.chain;
      links = subst (λ (xs : List ℕ). AreLinks firsts lasts (old.i + 1) 0 xs) links new.ensures.links;
    }
