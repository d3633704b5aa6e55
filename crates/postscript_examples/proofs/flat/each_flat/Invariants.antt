use Rattle.std.proofs.Common.{◌≡◌, [], None, map, take}
use Rattle.postscript_type2.specs.Program.Routines.{subroutines, texts}
use Rattle.postscript_examples.specs.Glyphs.{drawn_by, first_refused_by}
use Rattle.postscript_examples.proofs.flat.each_flat.Given as goal

-- the codes so far
abbrev pub invariant-loop-code : goal.invariant-loop-code
invariant-loop-code l =
    (map (λ code. drawn_by (subroutines [] []) code.items) l.flat_codes.items ≡ map
    (λ code. drawn_by (subroutines l.fn.global l.fn.local) code.items) (take l.code-index l.codes))
    × (first_refused_by (subroutines l.fn.global l.fn.local) (texts (take l.code-index l.codes)) ≡ None)
