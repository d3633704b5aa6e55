-- Headers of known tables and subtables.
use Rattle.std.proofs.Common.{refl, inl, ℕ, List, [], ◌∷◌, arith}
use Rattle.postscript_base.specs.Index.{number_at}
use Rattle.postscript_sfnt_write.specs.Headers.{HasHeader4, HasHeader12}
use Rattle.postscript_sfnt_write.specs.Records.{HasRecords}

-- By hand: U+0041 is glyph 1, so there are two segments. They have 4 bytes of searchRange, an entrySelector of 1 and a rangeShift of 0.
format4 : List ℕ
format4 =
    -- format 4, length, language, segCountX2, searchRange, entrySelector, rangeShift
    0 ∷ 4 ∷ 0 ∷ 32 ∷ 0 ∷ 0 ∷ 0 ∷ 4 ∷ 0 ∷ 4 ∷ 0 ∷ 1 ∷ 0 ∷ 0 ∷
    -- endCode, padding, startCode, idDelta, idRangeOffset
    0 ∷ 0x41 ∷ 0xff ∷ 0xff ∷ 0 ∷ 0 ∷ 0 ∷ 0x41 ∷ 0xff ∷ 0xff ∷ 0xff ∷ 0xc0 ∷ 0 ∷ 1 ∷ 0 ∷ 0 ∷ 0 ∷ 0 ∷ []

has_header4 : HasHeader4 format4 0
unfolding number_at format4
has_header4 = record {
  count = 2;
  format = refl;
  size = refl;
  language = refl;
  segments = refl;
  range = refl;
  selector = record { most = omega arith; least = omega arith };
  shift = refl;
  within = omega arith;
}

-- By hand: U+1F600 is glyph 1, in one group.
format12 : List ℕ
format12 =
    -- format 12, reserved, length, language, numGroups
    0 ∷ 12 ∷ 0 ∷ 0 ∷ 0 ∷ 0 ∷ 0 ∷ 28 ∷ 0 ∷ 0 ∷ 0 ∷ 0 ∷ 0 ∷ 0 ∷ 0 ∷ 1 ∷
    -- startCharCode, endCharCode, startGlyphID
    0 ∷ 1 ∷ 0xf6 ∷ 0 ∷ 0 ∷ 1 ∷ 0xf6 ∷ 0 ∷ 0 ∷ 0 ∷ 0 ∷ 1 ∷ []

has_header12 : HasHeader12 format12 0
unfolding number_at format12
has_header12 = record { count = 1; format = refl; reserved = refl; size = refl; language = refl; groups = refl; within = refl }

-- By hand: platform 0 with encoding 3, and platform 3 with encoding 1, with a subtable at offset 20. Of this only the format is listed.
table : List ℕ
table =
    -- version, numTables, and for each record platformID, encodingID, subtableOffset
    0 ∷ 0 ∷ 0 ∷ 2 ∷ 0 ∷ 0 ∷ 0 ∷ 3 ∷ 0 ∷ 0 ∷ 0 ∷ 20 ∷ 0 ∷ 3 ∷ 0 ∷ 1 ∷ 0 ∷ 0 ∷ 0 ∷ 20 ∷ 0 ∷ 4 ∷ []

has_records : HasRecords table
unfolding number_at table
has_records = record {
  version = refl;
  are = inl (record { counted = refl; unicode = (refl, refl, refl); windows = (refl, refl, refl) });
}
