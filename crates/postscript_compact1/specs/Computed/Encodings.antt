-- The predefined encodings (Technical Note 5176, Appendix B).
use Rattle.std.specs.Prelude.{ℕ, ◌+◌, ◌-◌, List, [], ◌∷◌, Option, Some, None, Bool, nat_le, nat_lt, ◌&&◌, if◌then◌else◌, codes}
use Rattle.std.specs.List.{list_all}
use Rattle.postscript_compact1.specs.declared.encoding.Encoding.{Encoding}
use Rattle.postscript_compact1.specs.declared.encoding.Encoding.TheVariants.{Standard, Expert}

-- A range of codes: the first code, the last code, and the SID of the first. Consecutive codes have consecutive SIDs.
abbrev pub Run : Type 0
Run = ℕ × ℕ × ℕ

abbrev pub runs_of : Encoding → List Run
runs_of Standard =
    (32, 126, 1) ∷ (161, 175, 96) ∷ (177, 180, 111) ∷ (182, 189, 115) ∷ (191, 191, 123) ∷ (193, 200, 124) ∷
    (202, 203, 132) ∷ (205, 208, 134) ∷ (225, 225, 138) ∷ (227, 227, 139) ∷ (232, 235, 140) ∷ (241, 241, 144) ∷
    (245, 245, 145) ∷ (248, 251, 146) ∷ []
runs_of Expert =
    (32, 32, 1) ∷ (33, 34, 229) ∷ (36, 43, 231) ∷ (44, 46, 13) ∷ (47, 47, 99) ∷ (48, 57, 239) ∷ (58, 59, 27) ∷
    (60, 63, 249) ∷ (65, 69, 253) ∷ (73, 73, 258) ∷ (76, 79, 259) ∷ (82, 84, 263) ∷ (86, 86, 266) ∷ (87, 88, 109) ∷
    (89, 91, 267) ∷ (93, 126, 270) ∷ (161, 163, 304) ∷ (166, 170, 307) ∷ (172, 172, 312) ∷ (175, 175, 313) ∷
    (178, 179, 314) ∷ (182, 184, 316) ∷ (188, 188, 158) ∷ (189, 189, 155) ∷ (190, 190, 163) ∷ (191, 197, 319) ∷
    (200, 200, 326) ∷ (201, 201, 150) ∷ (202, 202, 164) ∷ (203, 203, 169) ∷ (204, 255, 327) ∷ []

abbrev pub has_code : ℕ → Run → Bool
has_code code run = nat_le run.0 code && nat_le code run.1

-- the SID of a code in ranges; it is 0, for .notdef, if no range has the code
abbrev pub in_runs : List Run → ℕ → ℕ
in_runs [] code = 0
in_runs (run ∷ runs) code = if has_code code run then run.2 + (code - run.0) else in_runs runs code

-- the SID of a code of one byte
unfoldable pub identifier_of : Encoding → ℕ → Option ℕ
identifier_of encoding code = if nat_lt code 256 then Some (in_runs (runs_of encoding) code) else None

-- each SID in the ranges has a standard string
abbrev pub are_standard : List Run → Bool
are_standard runs = list_all (λ run. nat_lt (run.2 + (run.1 - run.0)) 391) runs

-- the name of a variant
abbrev pub name_of : Encoding → List ℕ
name_of Standard = codes "Standard"
name_of Expert = codes "Expert"
