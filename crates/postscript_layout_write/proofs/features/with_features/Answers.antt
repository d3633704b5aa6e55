use Rattle.std.proofs.Common.{◌≡◌, ◌∙◌, [], ℕ, List, ap, subst, drop, length, arith}
use Rattle.postscript_layout.specs.Numbers.{word}
use Rattle.postscript_layout_write.specs.Features.{KeepsFeatures, KeepsScripts}
use Rattle.postscript_layout_write.specs.Records.{Puts, table_text}
use Rattle.postscript_layout_write.proofs.FeatureReading.{has-only}
use Rattle.postscript_layout_write.proofs.features.with_features.Goals as goal

pub returns-clause-kept : goal.returns-clause-kept
returns-clause-kept c =
    let table = c.args.table.now in
    let scripts = c.put_scripts.new.out.items in
    let features = c.put_features.new.out.items in
    let a : c.deref-5.result.now ≡ scripts = c.deref-5.ensures.value in
    let b : c.deref-6.result.now ≡ features = c.deref-6.ensures.value in
    let lookups = drop (word table 8) table in
    has-only table c.args.tags.now c.in_ok-kept.kept.items scripts features c.in_ok-new.new.items c.in_ok-kept.ensures.exact
    (let small = c.in_ok-new.ensures.small in omega (arith, small, ap length a, ap length b))
    (subst (λ (xs : List ℕ). Puts (KeepsScripts xs table (word table 4)) [] scripts) c.deref-2.ensures.value
    (subst (λ (xs : List ℕ). Puts (KeepsScripts c.deref-2.result.now table (word table 4)) xs scripts) c.new-scripts.ensures.items c.in_ok-put_scripts.ensures.done))
    (subst (λ (xs : List ℕ). Puts (KeepsFeatures xs table (word table 6)) [] features) c.deref-4.ensures.value
    (subst (λ (xs : List ℕ). Puts (KeepsFeatures c.deref-4.result.now table (word table 6)) xs features) c.new-features.ensures.items c.in_ok-put_features.ensures.done))
    (c.in_ok-new.ensures.text ∙ ap (λ (xs : List ℕ). table_text xs c.deref-6.result.now lookups) a ∙ ap (λ (xs : List ℕ). table_text scripts xs lookups) b)
