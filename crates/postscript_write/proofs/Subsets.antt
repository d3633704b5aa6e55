-- Fonts that are made of glyphs that are named and of their components.
use Rattle.std.proofs.Common.{◌≡◌, sym, subst, ◌∙◌, inl, inr, ℕ, ◌<◌, List, Option, length, get_or, arith, true}
use Rattle.std.specs.Prelude.{◌⊎◌, ◌↔◌, Result, Ok, Err, IfOk, Vec}
use Rattle.std.specs.declared.alloc.Global.{Global}
use Rattle.postscript_view.specs.CharSets.{IsCharSetOf}
use Rattle.postscript_base.specs.declared.error.Error as causes
use Rattle.postscript_view.specs.Layout.{IsLaidOut}
use Rattle.postscript_view.specs.Contents.{View}
use Rattle.postscript_view.specs.Untold.{NoCharSet}
use Rattle.postscript_view.specs.Value.{view_shown}
use Rattle.postscript_view.specs.declared.font.FontView.{FontView}
use Rattle.postscript_drawing.specs.Components.{HasNoCharSet, glyphs_of}
use Rattle.postscript_write.specs.Costs.{Stops, StopsIn}
use Rattle.postscript_write.specs.Components.{AreClosed, AreKept, IsOpened, IsReached, IsSubset}
use Rattle.postscript_write.specs.Glyphs.{Sources}
use Rattle.postscript_write.specs.Making.{Making}
use Rattle.postscript_write.specs.Refusals.{FontRefusedBy, IsChoiceRefusedBy, IsFirstPast, IsRefusedBy, IsSubsetRefusedBy}
use Rattle.postscript_write.specs.RefusedGlyphs.{LacksSet}
use Rattle.postscript_write.specs.Sources.{AreThere, is_kept, kept_of}
use Rattle.postscript_write.specs.Steps.{IsNotChosen, IsNotClosed, IsNotOpened}
use Rattle.postscript_write.specs.declared.error.Error.{Error}
use Rattle.postscript_write.specs.declared.error.Error.TheVariants.{Refused, Glyph, SeveralFonts, MissingGlyph, MissingPart, MissingName, LongGlyph, NoGlyphs, TooLarge, TooLong}
use Rattle.postscript_write.proofs.Making.{is_refused}

abbrev pub Choice : Type 0
Choice = (closed : List ℕ) (glyphs : ℕ) → Sources

pub closed-so : (bytes named closed : List ℕ) (font : FontView) → IsOpened bytes font →
    ((glyph : ℕ) → (is_kept closed glyph ≡ true) ↔ IsReached font named glyph) → AreClosed bytes named closed
closed-so bytes named closed font opened all = record { font = font; opened = opened; all = all }

pub subset-made : (IsMade : Making) (choice : Choice) (font : FontView) (bytes named closed flat : List ℕ) (sources : Sources) →
    IsOpened bytes font → AreClosed bytes named closed → sources ≡ choice closed (length (view_shown font).char_strings) →
    (new : View) × IsLaidOut flat 0 new × IsMade sources font.bytes.now (view_shown font) flat new → IsSubset IsMade choice named bytes flat
subset-made IsMade choice font bytes named closed flat sources opened are same made = record {
  closed = closed;
  are = are;
  written = record {
    old = view_shown font;
    new = made.0;
    was = opened.laid;
    is = made.1;
    made = subst (λ (s : Sources). IsMade s bytes (view_shown font) flat made.0) same
        (subst (λ (bs : List ℕ). IsMade sources bs (view_shown font) flat made.0) opened.there made.2);
  };
}

-- a refusal that says something of the font that glyphs are taken from
of-closed : (named closed : List ℕ) (choice : Choice) (bytes : List ℕ) (e : Error) → AreClosed bytes named closed →
    IsRefusedBy (choice closed) bytes e → IsSubsetRefusedBy named choice bytes e
of-closed named closed choice bytes (Glyph glyph cause) are h = (closed, are, h)
of-closed named closed choice bytes (Refused cause) are h = h
of-closed named closed choice bytes SeveralFonts are h = h
of-closed named closed choice bytes (MissingGlyph glyph) are h = absurd h.2
of-closed named closed choice bytes (MissingPart glyph) are h = (closed, are, h)
of-closed named closed choice bytes (LongGlyph glyph) are h = (closed, are, h)
of-closed named closed choice bytes (MissingName glyph) are h = (closed, are, h)
of-closed named closed choice bytes NoGlyphs are h = absurd h.2
of-closed named closed choice bytes TooLarge are h = (closed, are, h)
of-closed named closed choice bytes TooLong are h = absurd h.2

pub subset-refused : (choice : Choice) (font : FontView) (bytes named closed : List ℕ) (sources : Sources) (e : Error) →
    IsOpened bytes font → AreClosed bytes named closed → sources ≡ choice closed (length (view_shown font).char_strings) →
    FontRefusedBy font.bytes.now (view_shown font) sources e → IsSubsetRefusedBy named choice bytes e
subset-refused choice font bytes named closed sources e opened are same h =
    of-closed named closed choice bytes e are (is_refused (choice closed) bytes (view_shown font) e opened.laid
    (subst (λ (s : Sources). FontRefusedBy bytes (view_shown font) s e) same
    (subst (λ (bs : List ℕ). FontRefusedBy bs (view_shown font) sources e) opened.there h)))

pub not-opened : (named : List ℕ) (choice : Choice) (bytes : List ℕ) (e : Error) → IsNotOpened bytes e →
    IsSubsetRefusedBy named choice bytes e
not-opened named choice bytes (Glyph glyph cause) h = absurd h
not-opened named choice bytes (Refused cause) h = λ n. inl (h n)
not-opened named choice bytes SeveralFonts h = h
not-opened named choice bytes (MissingGlyph glyph) h = absurd h
not-opened named choice bytes (MissingPart glyph) h = absurd h
not-opened named choice bytes (LongGlyph glyph) h = absurd h
not-opened named choice bytes (MissingName glyph) h = absurd h
not-opened named choice bytes NoGlyphs h = absurd h
not-opened named choice bytes TooLarge h = absurd h
not-opened named choice bytes TooLong h = absurd h

-- an opened font without a charset
lacks-set : (bytes : List ℕ) (font : FontView) (cause : causes.Error) → IsOpened bytes font → HasNoCharSet cause font →
    LacksSet bytes (view_shown font) cause
lacks-set bytes font cause opened none = record {
  none = λ has. none.none has.0 (subst (λ (bs : List ℕ). IsCharSetOf has.0 bs font.dictionary (glyphs_of font)) (sym opened.there) has.1);
  why = subst (λ (bs : List ℕ). NoCharSet cause bs font.dictionary (glyphs_of font)) opened.there none.why;
}

-- the font has no char set, or a glyph is named that it does not have
pub not-closed : (named : List ℕ) (choice : Choice) (bytes : List ℕ) (font : FontView) (e : Error) → IsOpened bytes font →
    IsNotClosed font named e → IsSubsetRefusedBy named choice bytes e
not-closed named choice bytes font (Refused cause) opened h =
    λ n. inr (view_shown font, opened.laid, inl (lacks-set bytes font cause opened (h n)))
not-closed named choice bytes font (MissingGlyph glyph) opened h = (view_shown font, opened.laid, h)
not-closed named choice bytes font (Glyph glyph cause) opened h = absurd h
not-closed named choice bytes font SeveralFonts opened h = absurd h
not-closed named choice bytes font (MissingPart glyph) opened h = absurd h
not-closed named choice bytes font (LongGlyph glyph) opened h = absurd h
not-closed named choice bytes font (MissingName glyph) opened h = absurd h
not-closed named choice bytes font NoGlyphs opened h = absurd h
not-closed named choice bytes font TooLarge opened h = absurd h
not-closed named choice bytes font TooLong opened h = absurd h

-- where all are there, none is past the end
not-past : (glyphs : List ℕ) (n glyph : ℕ) → AreThere glyphs n → IsFirstPast glyphs n glyph → ⊥
not-past glyphs n glyph there past =
    let less : get_or glyphs past.place 0 < n = there past.place past.there in
    let is : get_or glyphs past.place 0 ≡ glyph = past.is in
    let far = past.past in
    omega (arith, less, is, far)

pub not-chosen : (named closed : List ℕ) (choice : Choice) (bytes : List ℕ) (n : ℕ) (e : Error) → AreThere closed n →
    IsNotChosen closed n e → IsSubsetRefusedBy named choice bytes e
not-chosen named closed choice bytes n (Refused cause) there h = λ other. absurd (other h)
not-chosen named closed choice bytes n (MissingGlyph glyph) there h = absurd (not-past closed n glyph there h)
not-chosen named closed choice bytes n (Glyph glyph cause) there h = absurd h
not-chosen named closed choice bytes n SeveralFonts there h = absurd h
not-chosen named closed choice bytes n (MissingPart glyph) there h = absurd h
not-chosen named closed choice bytes n (LongGlyph glyph) there h = absurd h
not-chosen named closed choice bytes n (MissingName glyph) there h = absurd h
not-chosen named closed choice bytes n NoGlyphs there h = absurd h
not-chosen named closed choice bytes n TooLarge there h = absurd h
not-chosen named closed choice bytes n TooLong there h = absurd h

-- the glyphs that are kept, told
pub kept-so : (r : Result (Vec ℕ Global) Error) (bytes named closed : List ℕ) (font : FontView) → IsOpened bytes font →
    ((glyph : ℕ) → (is_kept closed glyph ≡ true) ↔ IsReached font named glyph) →
    (others : List ℕ) → others ≡ kept_of closed (glyphs_of font) → IfOk r (λ kept. kept.items ≡ others) → IfOk r
    (λ kept. AreKept named bytes kept.items)
kept-so (Ok kept) bytes named closed font opened h others same is =
    record { closed = closed; are = record { font = font; opened = opened; all = h }; all = is ∙ same }
kept-so (Err e) bytes named closed font opened h others same is = tt

pub choice-not-opened : (named bytes : List ℕ) (e : Error) → IsNotOpened bytes e → IsChoiceRefusedBy named bytes e
choice-not-opened named bytes (Glyph glyph cause) h = h
choice-not-opened named bytes (Refused cause) h = λ n. inl (h n)
choice-not-opened named bytes SeveralFonts h = h
choice-not-opened named bytes (MissingGlyph glyph) h = absurd h
choice-not-opened named bytes (MissingPart glyph) h = h
choice-not-opened named bytes (LongGlyph glyph) h = h
choice-not-opened named bytes (MissingName glyph) h = h
choice-not-opened named bytes NoGlyphs h = absurd h
choice-not-opened named bytes TooLarge h = h
choice-not-opened named bytes TooLong h = h

pub choice-not-closed : (named bytes : List ℕ) (font : FontView) (e : Error) → IsOpened bytes font → IsNotClosed font named e →
    IsChoiceRefusedBy named bytes e
choice-not-closed named bytes font (Refused cause) opened h =
    λ n. inr (view_shown font, opened.laid, lacks-set bytes font cause opened (h n))
choice-not-closed named bytes font (MissingGlyph glyph) opened h = (view_shown font, opened.laid, h)
choice-not-closed named bytes font (Glyph glyph cause) opened h = h
choice-not-closed named bytes font SeveralFonts opened h = absurd h
choice-not-closed named bytes font (MissingPart glyph) opened h = h
choice-not-closed named bytes font (LongGlyph glyph) opened h = h
choice-not-closed named bytes font (MissingName glyph) opened h = h
choice-not-closed named bytes font NoGlyphs opened h = absurd h
choice-not-closed named bytes font TooLarge opened h = h
choice-not-closed named bytes font TooLong opened h = h

pub choice-not-chosen : (named closed bytes : List ℕ) (n : ℕ) (e : Error) → AreThere closed n → IsNotChosen closed n e →
    IsChoiceRefusedBy named bytes e
choice-not-chosen named closed bytes n (Refused cause) there h = λ other. absurd (other h)
choice-not-chosen named closed bytes n (MissingGlyph glyph) there h = absurd (not-past closed n glyph there h)
choice-not-chosen named closed bytes n (Glyph glyph cause) there h = h
choice-not-chosen named closed bytes n SeveralFonts there h = absurd h
choice-not-chosen named closed bytes n (MissingPart glyph) there h = h
choice-not-chosen named closed bytes n (LongGlyph glyph) there h = h
choice-not-chosen named closed bytes n (MissingName glyph) there h = h
choice-not-chosen named closed bytes n NoGlyphs there h = absurd h
choice-not-chosen named closed bytes n TooLarge there h = h
choice-not-chosen named closed bytes n TooLong there h = h

-- the glyphs that are kept are not found
pub choice-not-found : (named bytes : List ℕ) (font : FontView) (limit : Option ℕ) (e : Error) → IsOpened bytes font →
    IsNotClosed font named e ⊎ Stops font named limit e → IsChoiceRefusedBy named bytes e ⊎ StopsIn bytes named limit e
choice-not-found named bytes font limit e opened (inl h) = inl (choice-not-closed named bytes font e opened h)
choice-not-found named bytes font limit e opened (inr stops) = inr (font, opened, stops)

pub not-found : (named : List ℕ) (choice : Choice) (bytes : List ℕ) (font : FontView) (limit : Option ℕ) (e : Error) → IsOpened bytes font →
    IsNotClosed font named e ⊎ Stops font named limit e → IsSubsetRefusedBy named choice bytes e ⊎ StopsIn bytes named limit e
not-found named choice bytes font limit e opened (inl h) = inl (not-closed named choice bytes font e opened h)
not-found named choice bytes font limit e opened (inr stops) = inr (font, opened, stops)
