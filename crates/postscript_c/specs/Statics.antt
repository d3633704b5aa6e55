-- The static font file of a location of a variable font, for C.
use Rattle.std.specs.Prelude.{◌≡◌, ◌≤◌, ◌<◌, ◌/◌, ℕ, ℤ, pos, nat_lt, if◌then◌else◌, List, [], Bool, length, slice_get, Option, Some, None, Result, Ok, Err, IfOk, IfErr}
use Rattle.postscript_base.specs.Error.{code}
use Rattle.postscript_base.specs.Index.{number_at}
use Rattle.postscript_c.specs.Answers.{undrawn_code}
use Rattle.postscript_c.specs.Axes.{HasAxes}
use Rattle.postscript_c.specs.Files.{file_code}
use Rattle.postscript_c.specs.Placed.{IsUnplaced, unplaced_code, value_along}
use Rattle.postscript_c.specs.Texts.{HandsOver, Lent}
use Rattle.postscript_c.specs.VariedTold.{table_code}
use Rattle.postscript_c.specs.Written.{IsSet, refusal}
use Rattle.postscript_c.specs.declared.statics.NoStatic.{NoStatic}
use Rattle.postscript_c.specs.declared.statics.NoStatic.TheVariants.{NoFace, NoPlace, Unwritten}
use Rattle.postscript_c.specs.declared.written.PsfRefusal.{PsfRefusal}
use Rattle.postscript_instance.specs.declared.error.Error.{Error as CodeError}
use Rattle.postscript_instance.specs.declared.error.Error.TheVariants as code_errors
use Rattle.postscript_instance_file.specs.Instances.{IsInstanceFile}
use Rattle.postscript_instance_file.specs.Refusals.{NoInstanceFileWithin}
use Rattle.postscript_instance_file.specs.declared.error.Error.{Error}
use Rattle.postscript_instance_file.specs.declared.error.Error.TheVariants as errors
use Rattle.postscript_instance_file.specs.declared.error.GlyphError.{GlyphError}
use Rattle.postscript_instance_file.specs.declared.error.GlyphError.TheVariants as glyphs
use Rattle.postscript_instance_file.specs.declared.instance.StaticFont.{StaticFont}
use Rattle.postscript_sfnt.specs.Lent.{IsFaceOf}
use Rattle.postscript_sfnt.specs.Refusals as files
use Rattle.postscript_sfnt.specs.declared.file.FontFile.{FontFile}
use Rattle.postscript_sfnt_write.specs.declared.error.Error.{Error as FileError}
use Rattle.postscript_sfnt_write.specs.declared.error.Error.TheVariants as file_errors
use Rattle.postscript_variable_font.specs.declared.error.Error.{Error as PlaceError}
use Rattle.postscript_variable_font.specs.declared.error.Error.TheVariants as place_errors
use Rattle.postscript_variation.specs.Axes.{axis_at}
use Rattle.postscript_variation.specs.LentAxes.{axis_count, axis_place, bytes_of}
use Rattle.postscript_variation.specs.declared.axes.Axes.{Axes}
use Rattle.postscript_variation.specs.declared.coordinates.Setting.{Setting}
use Rattle.postscript_variation.specs.declared.error.Error.{Error as TableError}
use Rattle.postscript_variation.specs.declared.error.Error.TheVariants as table_errors

-- the tag of an axis with its value, in the order of the axes, or with its default if there are too few values
abbrev pub setting_of : Axes → (values : List ℤ) → (axis : ℕ) → Setting
setting_of axes values axis =
    let found = axis_at (bytes_of axes) (axis_place axes axis) in
    record { tag = found.tag; value = value_along found (slice_get values axis) }

-- the same for the first `count` axes
pub record AreSettingsAlong (axes : Axes) (values : List ℤ) (count : ℕ) (settings : List Setting) : Type 0 where
  pub counted : length settings ≡ count
  pub each : (axis : ℕ) → axis < count → slice_get settings axis ≡ Some (setting_of axes values axis)

-- the same for all axes, if there are not more values than axes
abbrev pub AreSettings : Option Axes → (values : List ℤ) → List Setting → Type 0
AreSettings None values settings = (values ≡ []) × (settings ≡ [])
AreSettings (Some axes) values settings = (length values ≤ axis_count axes) × AreSettingsAlong axes values (axis_count axes) settings

-- the settings of these values for a face
abbrev pub AreSettingsOf : FontFile → (values : List ℤ) → List Setting → Type 0
AreSettingsOf file values settings = (axes : Option Axes) × HasAxes file axes × AreSettings axes values settings

-- the same for a face of a file
pub record AreSettingsIn (bytes : List ℕ) (face : ℕ) (values : List ℤ) (settings : List Setting) : Type 0 where
  pub file : FontFile
  pub is : IsFaceOf bytes face file
  pub are : AreSettingsOf file values settings

-- The file of a face at the location of some settings, in whole units if `rounded` is not 0, or why it is not written. All glyphs together
-- may cost the limit, and one glyph what `static_font` allows with a twentieth of it.
pub record IsWrittenAt (bytes : List ℕ) (face : ℕ) (settings : List Setting) (rounded limit : ℕ) (answer : Result StaticFont Error) : Type 0 where
  pub whole : Bool
  pub set : IsSet rounded whole
  pub file : IfOk answer (λ made. IsInstanceFile whole bytes face settings made.file.items)
  pub why : IfErr answer (λ e. NoInstanceFileWithin (limit / 20) limit whole bytes face settings e)

-- The file at the location with these values, or why there is none. There is no such face, the values give no location, or the file is not
-- written.
abbrev pub IsStaticOf : (bytes : List ℕ) (face : ℕ) (values : List ℤ) (rounded limit : ℕ) → Result StaticFont NoStatic → Type 0
IsStaticOf bytes face values rounded limit (Ok made) =
    (settings : List Setting) × AreSettingsIn bytes face values settings × IsWrittenAt bytes face settings rounded limit (Ok made)
IsStaticOf bytes face values rounded limit (Err (NoFace e)) = files.NoFace e bytes face
IsStaticOf bytes face values rounded limit (Err (NoPlace e)) = (file : FontFile) × IsFaceOf bytes face file × IsUnplaced file values e
IsStaticOf bytes face values rounded limit (Err (Unwritten e)) =
    (settings : List Setting) × AreSettingsIn bytes face values settings × IsWrittenAt bytes face settings rounded limit (Err e)

-- the tag that a name spells
abbrev pub tag_of : (name : List ℕ) → ℕ
tag_of name = if nat_lt (length name) 4 then 0 else number_at name 0 4

-- the status of an error of a charstring or of a `CFF ` table
abbrev pub made_code : CodeError → ℕ
made_code (code_errors.Font e) = code e
made_code code_errors.TooManyOperands = 16
made_code code_errors.NoMove = 16
made_code code_errors.TooFar = 26
made_code (code_errors.NoGlyph glyph) = 31
made_code (code_errors.NoData number) = 69
made_code (code_errors.Advance glyph) = 8
made_code code_errors.OtherNames = 16
made_code code_errors.NotOneDictionary = 16
made_code code_errors.TooLarge = 45

-- the status of an error of a glyph: the limit, a missing Font DICT, or 40
abbrev pub glyph_code : GlyphError → ℕ
glyph_code glyphs.NoPart = 42
glyph_code (glyphs.TooLong limit) = 46
glyph_code (glyphs.Held limit) = 46
glyph_code (glyphs.Segments most) = 46
glyph_code glyphs.UsedUp = 46
glyph_code (glyphs.Advance advance) = 40
glyph_code (glyphs.Run e) = 40
glyph_code (glyphs.Undrawn e) = 40
glyph_code (glyphs.Unwritten e) = 40

-- with 40, the status of its cause
abbrev pub glyph_cause : GlyphError → ℤ
glyph_cause glyphs.NoPart = pos 0
glyph_cause (glyphs.TooLong limit) = pos 0
glyph_cause (glyphs.Held limit) = pos 0
glyph_cause (glyphs.Segments most) = pos 0
glyph_cause glyphs.UsedUp = pos 0
glyph_cause (glyphs.Advance advance) = pos 8
glyph_cause (glyphs.Run e) = pos (code e)
glyph_cause (glyphs.Undrawn e) = pos (undrawn_code e)
glyph_cause (glyphs.Unwritten e) = pos (made_code e)

-- the status of an error of a table of variations
abbrev pub variations_code : TableError → ℕ
variations_code table_errors.Cut = 73
variations_code table_errors.UnknownFormat = 75

-- the status of an error of a location
abbrev pub place_code : PlaceError → ℕ
place_code place_errors.Memory = 3
place_code (place_errors.MissingData number) = 69

-- the status of an error of a file that is written
abbrev pub file_written_code : FileError → ℕ
file_written_code file_errors.Memory = 3
file_written_code file_errors.Cut = 73
file_written_code file_errors.CharactersDoNotRise = 72
file_written_code file_errors.TagsDoNotRise = 72
file_written_code file_errors.TooManyTables = 45
file_written_code file_errors.TooLarge = 45

-- the status of an error
abbrev pub static_code : Error → ℕ
static_code errors.Memory = 3
static_code (errors.File e) = file_code e
static_code errors.NotVariable = 74
static_code (errors.NoTable name) = 36
static_code (errors.Cut name) = 73
static_code (errors.Variations name e) = variations_code e
static_code (errors.Font e) = table_code e
static_code (errors.Place e) = place_code e
static_code (errors.Heavy name) = 46
static_code (errors.Glyph gid e) = glyph_code e
static_code (errors.Table e) = made_code e
static_code errors.Names = 45
static_code (errors.Write e) = file_written_code e

-- the details of an error: the tag of its table, or its glyph with the cause
abbrev pub static_refusal : Error → PsfRefusal
static_refusal errors.Memory = refusal 0 (pos 0)
static_refusal (errors.File e) = refusal 0 (pos 0)
static_refusal errors.NotVariable = refusal 0 (pos 0)
static_refusal (errors.NoTable name) = refusal (tag_of name.now) (pos 0)
static_refusal (errors.Cut name) = refusal (tag_of name.now) (pos 0)
static_refusal (errors.Variations name e) = refusal (tag_of name.now) (pos 0)
static_refusal (errors.Font e) = refusal 0 (pos 0)
static_refusal (errors.Place e) = refusal 0 (pos 0)
static_refusal (errors.Heavy name) = refusal 0 (pos 0)
static_refusal (errors.Glyph gid e) = refusal gid (glyph_cause e)
static_refusal (errors.Table e) = refusal 0 (pos 0)
static_refusal errors.Names = refusal 0 (pos 0)
static_refusal (errors.Write e) = refusal 0 (pos 0)

abbrev pub no_static_code : NoStatic → ℕ
no_static_code (NoFace e) = file_code e
no_static_code (NoPlace e) = unplaced_code e
no_static_code (Unwritten e) = static_code e

abbrev pub no_static_refusal : NoStatic → PsfRefusal
no_static_refusal (NoFace e) = refusal 0 (pos 0)
no_static_refusal (NoPlace e) = refusal 0 (pos 0)
no_static_refusal (Unwritten e) = static_refusal e

-- On 0 the file is stored, and on 32 only its size. An error sets the details. The other outputs are unchanged.
abbrev pub TellsStatic : Result StaticFont NoStatic → (status : ℤ) → (old new : Lent ℕ) → (was told : PsfRefusal) → Type 0
TellsStatic (Ok made) status old new was told = HandsOver made.file.items status old new × (told ≡ was)
TellsStatic (Err e) status old new was told = (status ≡ pos (no_static_code e)) × (told ≡ no_static_refusal e) × (new ≡ old)

-- the status and the outputs for a location of a face of a file
abbrev pub TellsStaticOf : (bytes : List ℕ) (face : ℕ) (values : List ℤ) (rounded limit : ℕ) (status : ℤ) (old new : Lent ℕ)
    (was told : PsfRefusal) → Type 0
TellsStaticOf bytes face values rounded limit status old new was told =
    (answer : Result StaticFont NoStatic) × IsStaticOf bytes face values rounded limit answer × TellsStatic answer status old new was told
