use Rattle.std.proofs.Common.{rules, arith, Bool, true, false, Ok, Result, refl, ltb-true, ◌≡◌, ◌+◌, ◌==◌, Some, position, length, take, subst, le_refl}
use Rattle.std.specs.Io.KnownBytes.{Consumes}
use Rattle.std.specs.Io.BufRead.{FillKeeps}
use Rattle.std.proofs.BufReadLemmas.{Consumes_shown}
use Rattle.psfont_session.proofs.Places.{All-position-None, All-position-Some, take-past-position, take-whole, goes_on}
use Rattle.postscript.specs.declared.error.Error.{Error}
use Rattle.psfont_session.specs.declared.lines.Piece.{Piece}
use Rattle.psfont_session.specs.declared.lines.Piece.TheVariants.{Line}
use Rattle.psfont_session.proofs.lines.read_piece.Goals as goal

-- a line tells what it tells
more_of : (more : Bool) → ◌≡◌ {A = Result Piece Error} (Ok (Line more)) (Ok (Line true)) → more ≡ true
more_of true is = refl
more_of false is = search (rules, is)

pub returns-in_ok-extend_from_slice-in-Some-clause-moved :
    goal.returns-in_ok-extend_from_slice-in-Some-clause-moved
returns-in_ok-extend_from_slice-in-Some-clause-moved g c =
    let shown = c.in-Ok.shown.now in
    let first = c.in-Some.length in
    let place : position (λ byte. byte == 10) shown ≡ Some first = search (rules, c.in-Some.ensures) in
    let past = take-past-position 10 shown first place in
    let rested = c.fill_buf.follows.lender-at-none in
    let filled = subst (FillKeeps _ (g.R.Read.remaining rested) (g.R.BufRead.consumable_len rested)) c.in-Ok.is
    c.fill_buf.follows.holds-at-none in
    let spent = Consumes_shown _ _ _ _ shown
    (first + 1) past.0 c.in-Ok.ensures.front c.in-Ok.ensures.end filled.0 filled.1 c.consume.ensures.bytes in (
      take first shown,
      search (rules, c.in_ok-extend_from_slice-in-Some.ensures.items),
      All-position-Some 10 shown first place,
      subst (Consumes _ _) past.1 spent.0,
    )

pub returns-in_ok-extend_from_slice-in-None-clause-moved :
    goal.returns-in_ok-extend_from_slice-in-None-clause-moved
returns-in_ok-extend_from_slice-in-None-clause-moved g c =
    let shown = c.in-Ok.shown.now in
    let rested = c.fill_buf.follows.lender-at-none in
    let filled = subst (FillKeeps _ (g.R.Read.remaining rested) (g.R.BufRead.consumable_len rested)) c.in-Ok.is
    c.fill_buf.follows.holds-at-none in
    let spent = Consumes_shown _ _ _ _ shown (length shown)
    (le_refl _) c.in-Ok.ensures.front c.in-Ok.ensures.end filled.0 filled.1 c.consume-in-None.ensures.bytes in (
      shown,
      search (rules, c.in_ok-extend_from_slice-in-None.ensures.items),
      All-position-None 10 shown (search (rules, c.in-None.ensures)),
      subst (Consumes _ _) (take-whole shown) spent.0,
    )

pub returns-in_ok-extend_from_slice-in-Some-clause-more :
    goal.returns-in_ok-extend_from_slice-in-Some-clause-more
returns-in_ok-extend_from_slice-in-Some-clause-more g c = λ is.
    let shown = c.in-Ok.shown.now in
    let first = c.in-Some.length in
    let below = ltb-true (first + 1) (length shown) (more_of _ is) in
    let rested = c.fill_buf.follows.lender-at-none in
    let filled = subst (FillKeeps _ (g.R.Read.remaining rested) (g.R.BufRead.consumable_len rested)) c.in-Ok.is
    c.fill_buf.follows.holds-at-none in
    let spent = Consumes_shown _ _ _ _ shown (first + 1)
    (omega (arith, below)) c.in-Ok.ensures.front c.in-Ok.ensures.end filled.0 filled.1 c.consume.ensures.bytes in
    goes_on _ _ shown (first + 1) below c.in-Ok.ensures.front spent.0
