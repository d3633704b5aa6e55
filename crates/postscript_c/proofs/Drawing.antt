-- What is drawn of a glyph and of what it names.
use Rattle.std.proofs.Common.{◌≡◌, ◌≢◌, ◌⊎◌, inl, inr, ℕ, ℤ, List, ◌++◌, length, [], Option, Some, None, Result, Ok, Err, refl, sym, ap, subst, ◌∙◌}
use Rattle.std.specs.Prelude.{IfErr, IsErrAnd, MatchOption, OnOk, option_map}
use denote.Ref.{Bor}
use Rattle.postscript_base.specs.Tape.Outcome.{Got, after}
use Rattle.postscript_c.specs.Glyphs.{index_at, program_of}
use Rattle.postscript_c.specs.Drawn.{AreNamed, ArePaid, DrawsWhole, IsFirst, IsNamedBy, IsNamedRefused, IsSpentOnNamed, IsUsedUp, IsWantingIn, IsWholeRefused, by_components, by_itself, unnamed, wanting, undrawn}
use Rattle.postscript_drawing.specs.Accents.{IsAccent}
use Rattle.postscript_drawing.specs.DrawnProgram.{DrawsProgram, IsProgramRefused, IsWanting}
use Rattle.postscript_drawing.specs.Drawn.{DrawsComponents, Takes, zero_point}
use Rattle.postscript_drawing.specs.Refused.{AreRefused}
use Rattle.postscript_drawing.specs.declared.accent.Accent.{Accent}
use Rattle.postscript_drawing.specs.Spending.{PaysComponents, SpendsOnRuns}
use Rattle.postscript_drawing.specs.declared.error.Error.{Error}
use Rattle.postscript_drawing.specs.declared.error.Error.TheVariants.{Font, Full, TooLong, NoSuchGlyph, NoCode, NoAccents, MissingComponent, NestedAccent}
use Rattle.postscript_outline.proofs.Receiving.{received-both}
use Rattle.postscript_outline.specs.declared.segment.Segment.{Segment}
use Rattle.postscript_type2.specs.Program.Evaluation.{run_of}
use Rattle.postscript_type2.specs.Program.Limit.{Spends}
use Rattle.postscript_type2.specs.Program.Programs.{Pending, begun}
use Rattle.postscript_type2.specs.Program.Routines.{lent}
use Rattle.postscript_type2.specs.Program.Runs.{Phrase, taken_by}
use Rattle.postscript_view.specs.declared.font.FontView.{FontView}

-- a refusal that is passed on
pub if-err : {A E : Type 0} (r : Result A E) (e : E) (P : E → Type 0) → IsErrAnd r (λ x. x ≡ e) → P e → IfErr r P
if-err (Ok x) e P same holds = tt
if-err (Err x) e P same holds = subst P (sym same) holds

-- the base and the accent that are named
pub named-drawn : {T : Type 0} (after : T → Segment → T → Type 0) (old new : T) (r : Result (Unit {0}) Error) (bytes : List ℕ)
    (named : Option Accent) (accent : Accent) (font : FontView) → named ≡ Some accent → IsFirst bytes font →
    OnOk r (Takes after old new (DrawsComponents font accent)) → OnOk r (Takes after old new (AreNamed bytes named))
named-drawn after old new (Ok done) bytes named accent font is first takes =
    (takes.0, subst (λ (a : Option Accent). AreNamed bytes a takes.0) (sym is) (font, first, takes.1), takes.2)
named-drawn after old new (Err e) bytes named accent font is first takes = tt

pub named-paid : (before left : ℕ) (r : Result (Unit {0}) Error) (bytes : List ℕ) (named : Option Accent) (accent : Accent)
    (font : FontView) → named ≡ Some accent → IsFirst bytes font →
    OnOk r (PaysComponents font accent before left) → OnOk r (ArePaid bytes named before left)
named-paid before left (Ok done) bytes named accent font is first pays =
    subst (λ (a : Option Accent). ArePaid bytes a before left) (sym is) (font, first, pays)
named-paid before left (Err e) bytes named accent font is first pays = tt

pub named-refused : (before left : ℕ) (r : Result (Unit {0}) Error) (bytes : List ℕ) (named : Option Accent) (accent : Accent)
    (font : FontView) → named ≡ Some accent → IsFirst bytes font → SpendsOnRuns font 2 before left →
    IfErr r (λ e. IsWanting left e ⊎ AreRefused font accent e) → IfErr r
    (λ e. (IsWanting left e × IsSpentOnNamed bytes before left) ⊎ IsNamedRefused bytes named e)
named-refused before left (Ok done) bytes named accent font is first spends why = tt
named-refused before left (Err e) bytes named accent font is first spends (inl want) = inl (want, inr (font, first, spends))
named-refused before left (Err e) bytes named accent font is first spends (inr why) =
    inr (subst (λ (a : Option Accent). IsNamedRefused bytes a e) (sym is) (inr (font, first, why)))

-- a program and what its glyph names
pub whole-drawn : {T : Type 0} (after : T → Segment → T → Type 0) (old middle new : T) (bytes : List ℕ) (program : Pending)
    (width : Option ℤ) (named : Option Accent) (limit left behind : ℕ) → DrawsProgram after zero_point old middle width program →
    IsNamedBy (taken_by program.end) named → Takes after middle new
    (AreNamed bytes named) → Spends limit program.trace left [] → ArePaid bytes named left behind → Takes after old new
    (λ segments. DrawsWhole limit bytes program segments width)
whole-drawn after old middle new bytes program width named limit left behind own names more spends rest = (
  own.segments ++ more.0,
  record {
    accent =
        named;
    own = own.segments;
    more = more.0;
    names = names;
    draws_own = own.drawn;
    draws_more = more.1;
    all = refl;
    width_is = own.width_is;
    left = left;
    behind = behind;
    pays_own = spends;
    pays_more = rest;
  },
  received-both after old middle new own.segments more.0 own.taken more.2,
)

own-wanting : (limit : ℕ) (left : ℕ) (bytes : List ℕ) (program : Pending) (e : Error) (rest : List Phrase) →
    Spends limit program.trace left rest → IsWanting left e → IsWantingIn limit bytes program e
own-wanting limit left bytes program (Font cause) rest spends want = want
own-wanting limit left bytes program Full rest spends want = tt
own-wanting limit left bytes program TooLong rest spends want = by_itself rest (subst (λ n. Spends limit program.trace n rest) want spends)
own-wanting limit left bytes program (NoSuchGlyph glyph) rest spends want = want
own-wanting limit left bytes program NoCode rest spends want = want
own-wanting limit left bytes program NoAccents rest spends want = want
own-wanting limit left bytes program (MissingComponent code) rest spends want = want
own-wanting limit left bytes program (NestedAccent code) rest spends want = want

pub by-program : (limit : ℕ) (left : ℕ) (bytes : List ℕ) (program : Pending) (e : Error) →
    (rest : List Phrase) × Spends limit program.trace left rest → IsProgramRefused zero_point program left e →
    IsWholeRefused limit bytes program e
by-program limit left bytes program e spends (inl want) = wanting (own-wanting limit left bytes program e spends.0 spends.1 want)
by-program limit left bytes program e spends (inr why) = undrawn why

named-used-up : (limit : ℕ) (before left : ℕ) (bytes : List ℕ) (program : Pending) → Spends limit program.trace before [] →
    IsSpentOnNamed bytes before left → left ≡ 0 → IsUsedUp limit bytes program
named-used-up limit before left bytes program own (inl same) none =
    by_itself [] (subst (λ n. Spends limit program.trace n []) (sym same ∙ none) own)
named-used-up limit before left bytes program own (inr (font, first, spends)) none =
    by_components font before first own (subst (λ n. SpendsOnRuns font 2 before n) none spends)

named-wanting : (limit : ℕ) (before left : ℕ) (bytes : List ℕ) (program : Pending) (e : Error) → Spends limit program.trace before [] →
    IsSpentOnNamed bytes before left → IsWanting left e → IsWantingIn limit bytes program e
named-wanting limit before left bytes program (Font cause) own spends want = want
named-wanting limit before left bytes program Full own spends want = tt
named-wanting limit before left bytes program TooLong own spends want = named-used-up limit before left bytes program own spends want
named-wanting limit before left bytes program (NoSuchGlyph glyph) own spends want = want
named-wanting limit before left bytes program NoCode own spends want = want
named-wanting limit before left bytes program NoAccents own spends want = want
named-wanting limit before left bytes program (MissingComponent code) own spends want = want
named-wanting limit before left bytes program (NestedAccent code) own spends want = want

pub by-named : (limit : ℕ) (before left : ℕ) (bytes : List ℕ) (program : Pending) (named : Option Accent) (e : Error) →
    Spends limit program.trace before [] → IsNamedBy (taken_by program.end) named →
    (IsWanting left e × IsSpentOnNamed bytes before left) ⊎ IsNamedRefused bytes named e → IsWholeRefused limit bytes program e
by-named limit before left bytes program named e own names (inl want) =
    wanting (named-wanting limit before left bytes program e own want.1 want.0)
by-named limit before left bytes program named e own names (inr why) = unnamed named names why

pub named-so : (named : Option Accent) (told taken : List ℤ) → told ≡ taken → MatchOption named (length told ≢ 4)
    (λ accent. IsAccent told accent) → IsNamedBy taken named
named-so None told taken same other = subst (λ (xs : List ℤ). length xs ≢ 4) same other
named-so (Some accent) told taken same is = subst (λ (xs : List ℤ). IsAccent xs accent) same is

-- the program of a code, where both INDEXes stand
pub program-there : (code : Option (Bor (List ℕ))) (there : Bor (List ℕ)) (global local : ℕ) (bytes : List ℕ)
    (globals locals : List (List ℕ)) (program : Pending) → code ≡ Some there →
    index_at global bytes 0 ≡ Got globals 0 → index_at local bytes 0 ≡ Got locals 0 → program ≡ begun
    (run_of (lent globals locals) there.now) →
    program_of (option_map (λ code. code.now) code) global local bytes 0 ≡ Got (Some program) 0
unfolding program_of
program-there code there global local bytes globals locals program is global_is local_is program_is =
    ap (λ (c : Option (Bor (List ℕ))). program_of (option_map (λ code. code.now) c) global local bytes 0) is
    ∙ ap (λ o. after o (λ globals at. after (index_at local bytes at)
    (λ locals next. Got (Some (begun (run_of (lent globals locals) there.now))) next))) global_is
    ∙ ap (λ o. after o (λ locals next. Got (Some (begun (run_of (lent globals locals) there.now))) next)) local_is
    ∙ ap (λ p. Got (Some p) 0) (sym program_is)
