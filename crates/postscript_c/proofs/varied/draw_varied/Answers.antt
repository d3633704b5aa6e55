use Rattle.postscript_c.proofs.varied.draw_varied.Goals as goal

pub returns-in-Ok-draw_within : goal.returns-in-Ok-draw_within
returns-in-Ok-draw_within c =
    (c.in_ok-font.font, c.in_ok-place.place, c.in_ok-font.ensures.found, c.in_ok-place.ensures.found, c.in-Ok-draw_within.ensures)

pub returns : goal.returns
returns c = (c.in_ok-font.font, c.in_ok-place.place, c.in_ok-font.ensures.found, c.in_ok-place.ensures.found, c.in-Err.ensures)
