-- The predefined charsets (Technical Note 5176, Appendix C).
use Rattle.std.specs.Prelude.{ℕ, ◌+◌, ◌-◌, List, [], ◌∷◌, ◌++◌, Option, None, Bool, true, false, ◌==◌, ◌&&◌, nat_le, nat_lt, slice_get, if◌then◌else◌, codes}
use Rattle.std.specs.List.{list_all, range_with_len}
use Rattle.std.specs.Option.{option_and_then}
use Rattle.postscript_compact1.specs.StandardStrings.{standard_string}
use Rattle.postscript_compact1.specs.declared.char_set.CharSet.{CharSet}
use Rattle.postscript_compact1.specs.declared.char_set.CharSet.TheVariants.{ISOAdobe, Expert, ExpertSubset, Format0, Format1, Format2}

abbrev pub is_predefined : CharSet → Bool
is_predefined ISOAdobe = true
is_predefined Expert = true
is_predefined ExpertSubset = true
is_predefined (Format0 set) = false
is_predefined (Format1 set) = false
is_predefined (Format2 set) = false

-- the name of a variant
abbrev pub name_of : CharSet → List ℕ
name_of ISOAdobe = codes "ISOAdobe"
name_of Expert = codes "Expert"
name_of ExpertSubset = codes "ExpertSubset"
name_of (Format0 set) = codes "Format0"
name_of (Format1 set) = codes "Format1"
name_of (Format2 set) = codes "Format2"

-- a range of SIDs: the first and the last
abbrev pub Run : Type 0
Run = ℕ × ℕ

abbrev pub runs_of : CharSet → List Run
runs_of ISOAdobe = (1, 228) ∷ []
runs_of Expert =
    (1, 1) ∷ (229, 238) ∷ (13, 15) ∷ (99, 99) ∷ (239, 248) ∷ (27, 28) ∷ (249, 266) ∷ (109, 110) ∷ (267, 318) ∷
    (158, 158) ∷ (155, 155) ∷ (163, 163) ∷ (319, 326) ∷ (150, 150) ∷ (164, 164) ∷ (169, 169) ∷ (327, 378) ∷ []
runs_of ExpertSubset =
    (1, 1) ∷ (231, 232) ∷ (235, 238) ∷ (13, 15) ∷ (99, 99) ∷ (239, 248) ∷ (27, 28) ∷ (249, 251) ∷ (253, 266) ∷
    (109, 110) ∷ (267, 270) ∷ (272, 272) ∷ (300, 302) ∷ (305, 305) ∷ (314, 315) ∷ (158, 158) ∷ (155, 155) ∷
    (163, 163) ∷ (320, 326) ∷ (150, 150) ∷ (164, 164) ∷ (169, 169) ∷ (327, 346) ∷ []
runs_of (Format0 set) = []
runs_of (Format1 set) = []
runs_of (Format2 set) = []

-- the SIDs of ranges, in order
abbrev pub identifiers : List Run → List ℕ
identifiers [] = []
identifiers (run ∷ runs) = range_with_len run.0 (run.1 - run.0 + 1) ++ identifiers runs

-- the SID of a glyph; the SIDs are in the order of the glyphs from glyph 1
unfoldable pub identifier_of : List Run → ℕ → Option ℕ
identifier_of runs glyph = if glyph == 0 then None else slice_get (identifiers runs) (glyph - 1)

-- the name of a glyph: the standard string of its SID
abbrev pub name_in_runs : List Run → ℕ → Option (List ℕ)
name_in_runs runs glyph = option_and_then standard_string (identifier_of runs glyph)

abbrev pub name_of_glyph : CharSet → ℕ → Option (List ℕ)
name_of_glyph set glyph = name_in_runs (runs_of set) glyph

-- no range ends before its first SID, and each ends before 391
abbrev pub are_runs : List Run → Bool
are_runs runs = list_all (λ run. nat_le run.0 run.1 && nat_lt run.1 391) runs
