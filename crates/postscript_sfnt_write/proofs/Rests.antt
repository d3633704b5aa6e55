-- The tables that a loop still goes over.
use Rattle.std.proofs.Common.{◌≡◌, ℕ, zero, suc, ◌+◌, ◌≤◌, ◌<◌, List, [], ◌∷◌, ◌++◌, length, drop, get_or}
use Rattle.std.proofs.lemmas.List.{at_drop_more, at_drop_all}
use Rattle.postscript_sfnt_write.specs.Checksum.{checksum}
use Rattle.postscript_sfnt_write.specs.Layout.{checksums, record_text, records_text, table_text, tables_text}
use Rattle.postscript_sfnt_write.specs.Tables.{IsGiven, in_file, room_of, rooms}
use Rattle.postscript_sfnt_write.specs.declared.file.Table.{Table}

-- a table of no bytes
abbrev pub empty : Table
empty = record { tag = 0; bytes = record { ref_ptr = (0, 0); now = [] } }

pub rooms_more : (tables : List Table) (i : ℕ) → i < length tables →
    rooms (drop i tables) ≡ room_of (length (get_or tables i empty).bytes.now) + rooms (drop (i + 1) tables)
unfolding rooms
rooms_more tables i h = at_drop_more rooms tables i empty h

pub rooms_done : (tables : List Table) (i : ℕ) → length tables ≤ i → rooms (drop i tables) ≡ 0
unfolding rooms
rooms_done tables i h = at_drop_all rooms tables i h

pub records_more : (place : ℕ) (tables : List Table) (i : ℕ) → i < length tables →
    records_text place (drop i tables) ≡ record_text place (get_or tables i empty) ++ records_text
    (place + room_of (length (get_or tables i empty).bytes.now)) (drop (i + 1) tables)
unfolding records_text
records_more place tables i h = at_drop_more (records_text place) tables i empty h

pub records_done : (place : ℕ) (tables : List Table) (i : ℕ) → length tables ≤ i → records_text place (drop i tables) ≡ []
unfolding records_text
records_done place tables i h = at_drop_all (records_text place) tables i h

pub sums_more : (tables : List Table) (i : ℕ) → i < length tables →
    checksums (drop i tables) ≡ checksum (in_file 0 (get_or tables i empty)) + checksums (drop (i + 1) tables)
unfolding checksums
sums_more tables i h = at_drop_more checksums tables i empty h

pub sums_done : (tables : List Table) (i : ℕ) → length tables ≤ i → checksums (drop i tables) ≡ 0
unfolding checksums
sums_done tables i h = at_drop_all checksums tables i h

pub tables_more : (n : ℕ) (tables : List Table) (i : ℕ) → i < length tables →
    tables_text n (drop i tables) ≡ table_text n (get_or tables i empty) ++ tables_text n (drop (i + 1) tables)
unfolding tables_text
tables_more n tables i h = at_drop_more (tables_text n) tables i empty h

pub tables_done : (n : ℕ) (tables : List Table) (i : ℕ) → length tables ≤ i → tables_text n (drop i tables) ≡ []
unfolding tables_text
tables_done n tables i h = at_drop_all (tables_text n) tables i h

pub given_is : (tables : List Table) (i : ℕ) (t d : Table) → IsGiven tables i t → get_or tables i d ≡ t
given_is [] i t d e = absurd (cc)
given_is (u ∷ us) zero t d e = cc
given_is (u ∷ us) (suc i) t d e = given_is us i t d e
