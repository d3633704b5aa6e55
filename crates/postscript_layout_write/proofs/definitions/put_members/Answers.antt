use Rattle.std.proofs.Common.{◌≡◌, ◌++◌, ◌∙◌, ◌≤◌, ap, sym, subst, ℕ, List, length, rules}
use Rattle.postscript_layout_write.specs.Holds.{Holds}
use Rattle.postscript_layout_write.specs.Text.{coverage_text}
use Rattle.postscript_layout_write.proofs.Holding.{holds-last}
use Rattle.postscript_layout_write.proofs.definitions.put_members.Goals as goal

pub returns-clause-done : goal.returns-clause-done
returns-clause-done c =
    let members = c.in_ok-members.members.items in
    let old = c.args.out.now.items in
    let few : length members ≤ 16380 = search rules in
    let text : c.put_coverage.new.out.items ≡ old ++ coverage_text members = c.in_ok-put_coverage.ensures ∙ ap (λ (xs : List ℕ). old ++ coverage_text xs) c.deref.ensures.value in
    record {
      more = coverage_text members;
      bytes = text;
      has = record {
        members = members;
        are = c.in_ok-members.ensures.exact;
        few = few;
        there = subst (λ (xs : List ℕ). Holds (coverage_text members) xs (length old)) (sym text) (holds-last old (coverage_text members));
      };
    }
