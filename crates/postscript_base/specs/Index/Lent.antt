-- The items of an INDEX that are borrowed from the bytes of a font.
use Rattle.std.specs.Prelude.{◌≡◌, ℕ, ◌+◌, List, Result, Ok, Err}
use Rattle.postscript_base.specs.Tape.Outcome.{Outcome, Got, RefusedAs}
use Rattle.postscript_base.specs.declared.error.Error.{Error}
use Rattle.postscript_base.specs.Index.{count_at, size_at, items_at}
use Rattle.postscript_base.specs.Index.Wide.{wide_count_at, wide_size_at}
use Rattle.postscript_base.specs.declared.index.IndexView.{IndexView}

-- the bytes of each item
abbrev pub items_of : IndexView → List (List ℕ)
items_of items = items_at items.bytes.now items.start items.size items.count

-- the items of the INDEX at an offset
pub record AreLentFrom (font : List ℕ) (place : ℕ) (items : IndexView) : Type 0 where
  pub bytes : items.bytes.now ≡ font
  pub start : items.start ≡ place + 3
  pub size : items.size ≡ size_at font place
  pub count : items.count ≡ count_at font place

-- the items of the INDEX at an offset, if its count has four bytes
pub record AreWideLentFrom (font : List ℕ) (place : ℕ) (items : IndexView) : Type 0 where
  pub bytes : items.bytes.now ≡ font
  pub start : items.start ≡ place + 5
  pub size : items.size ≡ wide_size_at font place
  pub count : items.count ≡ wide_count_at font place

-- the items and the next offset are those in the outcome, or the error is
abbrev pub Opens : Result (IndexView × ℕ) Error → Outcome (List (List ℕ)) → Type 0
Opens (Ok read) outcome = outcome ≡ Got (items_of read.0) read.1
Opens (Err e) outcome = RefusedAs e outcome
