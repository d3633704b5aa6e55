-- Runs shown rule by rule, without the functions that compute them.
use Rattle.std.proofs.Common.{refl, ℕ, List, [], ◌∷◌, None, pos, neg_ℤ, lit<, lit≤}
use Rattle.postscript_type2.specs.declared.operation.Operator.TheVariants.{CallSubr, Return, EndChar, HMoveTo}
use Rattle.postscript_type2.specs.Program.States.{start, cleared}
use Rattle.postscript_type2.specs.Program.Meaning.{answer, in_outermost, IsRunOf, clears, calls, returns, finishes}
use Rattle.postscript_type2.specs.Number.{whole}
use Rattle.postscript_type2.specs.Program.Phrases.{small, operator, after_number}
use Rattle.postscript_type2.specs.Program.Routines.{Lists}
use Rattle.postscript_type2.specs.Program.Runs.{by, Finished, no_hints}

abbrev no_lists : Lists
no_lists = record { global = []; local = [] }

-- the end of the glyph alone
end_alone : IsRunOf no_lists (0x0e ∷ []) (record { answers = []; trace = by EndChar (0x0e ∷ []) ∷ []; end = Finished [] None })
end_alone = finishes 0 (0x0e ∷ []) [] [] EndChar start [] None (Finished [] None)
    (record { spelled = operator 0x0e EndChar (lit< tt) refl; does = refl }) (in_outermost [])

-- a subroutine that moves by one and returns
abbrev moving : List ℕ
moving = 0x8c ∷ 0x16 ∷ 0x0b ∷ []

-- a call of it, and the end: the number of the only subroutine is -107
call_and_end : IsRunOf (record { global = []; local = moving ∷ [] }) (0x20 ∷ 0x0a ∷ 0x0e ∷ []) (record {
  answers = answer HMoveTo (whole (pos 1) ∷ []) no_hints None ∷ [];
  trace = by CallSubr (0x20 ∷ 0x0a ∷ []) ∷ by HMoveTo (0x8c ∷ 0x16 ∷ []) ∷ by Return (0x0b ∷ []) ∷ by EndChar (0x0e ∷ []) ∷ [];
  end = Finished [] None;
})
call_and_end =
    calls 0 (0x20 ∷ 0x0a ∷ []) (0x0e ∷ []) (whole (neg_ℤ (pos 107)) ∷ []) CallSubr start moving [] _ _ (cleared 0 None start) _ _ _
    (record {
      spelled = after_number (0x20 ∷ []) (0x0a ∷ []) (whole (neg_ℤ (pos 107))) [] CallSubr (small 0x20 (lit≤ tt) (lit< tt))
          (operator 0x0a CallSubr (lit< tt) refl);
      does = refl;
    })
    (lit< tt)
    (clears 1 (0x8c ∷ 0x16 ∷ []) [] (0x0b ∷ []) (whole (pos 1) ∷ []) HMoveTo start (whole (pos 1) ∷ []) [] 0 None _ _ _
    (record {
      spelled = after_number (0x8c ∷ []) (0x16 ∷ []) (whole (pos 1)) [] HMoveTo (small 0x8c (lit≤ tt) (lit< tt))
          (operator 0x16 HMoveTo (lit< tt) refl);
      does = refl;
    })
    (returns 1 (0x0b ∷ []) [] [] Return (cleared 0 None start) (record { spelled = operator 0x0b Return (lit< tt) refl; does = refl })
    (lit< tt)))
    (finishes 0 (0x0e ∷ []) [] [] EndChar (cleared 0 None start) [] None (Finished [] None)
    (record { spelled = operator 0x0e EndChar (lit< tt) refl; does = refl }) (in_outermost []))
