use Rattle.std.proofs.Common.{◌≡◌, ◌<◌, arith}
use Rattle.postscript_sfnt.specs.NameTable.{names_of}
use Rattle.postscript_sfnt.specs.declared.names.Name.TheVariants.{Utf16}
use Rattle.postscript_text.specs.Repetitions.{unicode}
use Rattle.postscript_text.proofs.Repeating.{above-unicode, decided, decided-roman, moved, only-unicode, other}
use Rattle.postscript_text.proofs.names.is_told_twice.Goals as goal

pub returns-then-is_of_windows : goal.returns-then-is_of_windows
returns-then-is_of_windows c =
    let platform = c.in-0-default-Utf16.is-0 in
    let identifier : c.word_of.result ≡ c.args.entry.now.identifier = omega arith in
    let is = moved c.args.table.now _ _ _ c.in-Some.best c.requires.same identifier c.in-Some.ensures in
    let windows = c.if-is_of_windows.ensures in
    let below : windows.0 < names_of c.args.table.now = omega (arith, windows.1, c.requires.all) in
    decided c.args.table.now c.args.entry.now (Utf16 c.args.entry.now.text) c.in-Some.best c.says_the_same.result is (unicode platform)
    (λ text. only-unicode _ text platform)
    (above-unicode c.args.table.now c.args.entry.now c.in-Some.best is platform (windows.0, below, windows.2))
    c.says_the_same.ensures

pub returns-in-1-eq0-Utf16 : goal.returns-in-1-eq0-Utf16
returns-in-1-eq0-Utf16 c =
    let arm = c.in-1-eq0-Utf16 in
    let identifier : c.word_of.result ≡ c.args.entry.now.identifier = omega arith in
    let is = moved c.args.table.now _ _ _ c.in-Some.best c.requires.same identifier c.in-Some.ensures in
    decided-roman c.args.table.now c.args.entry.now c.in-Some.best arm.field-0-2 c.says_the_same-in-1-eq0-Utf16.result arm.is-2 is arm.is-0 arm.is-1
    c.says_the_same-in-1-eq0-Utf16.ensures

pub returns-in_default-2-3 : goal.returns-in_default-2-3
returns-in_default-2-3 c =
    let platform = c.in_default-2.is-0 in
    other c.args.table.now c.args.entry.now (λ zero. omega arith) (λ one. c.in_default-2.is-1.1)

pub returns-in_default-2-4 : goal.returns-in_default-2-4
returns-in_default-2-4 c =
    other c.args.table.now c.args.entry.now c.in_default-2.is-0.0.1 (λ one. absurd (c.in_default-2.is-0.1 one))
