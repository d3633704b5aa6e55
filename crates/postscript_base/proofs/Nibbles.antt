-- Texts of reals, nibble by nibble.
use Rattle.std.proofs.lemmas.List.{append-nil, drop-drop}
use Rattle.std.proofs.Common.{◌≡◌, ◌≢◌, refl, sym, ap, ◌∙◌, ℕ, suc, ◌+◌, ◌-◌, ◌/◌, ◌%◌, Bool, true, false, List, [], ◌∷◌, ◌++◌, length, take, drop, ◌==◌, Option, Some, None, append_assoc, length-drop, arith, if◌then◌else◌}
use Rattle.std.specs.Prelude.{flat_map}
use Rattle.std.specs.List.{prefix_len}
use Rattle.std.proofs.lemmas.Grind.{common_steps}
use Rattle.std.proofs.lemmas.Bool.Decides.{nat_tests}
use Rattle.postscript_base.specs.Refusal.{unexpected_eof, malformed_number}
use Rattle.postscript_base.specs.declared.error.Error.{Error}
use Rattle.postscript_base.specs.declared.error.Error.TheVariants.{Memory}
use Rattle.postscript_base.proofs.Outcomes.{refused_after}
use Rattle.postscript_base.specs.Tape.Outcome.{Outcome, Got, Fault, after, end, RefusedAs}
use Rattle.postscript_base.specs.Numbers.{slice, number}
use Rattle.postscript_base.specs.Private.Nibbles.{one_byte, one_nibble, step, then_low}
use Rattle.postscript_base.specs.Compact1.Nibbles.{ended_by, is_in_text, nibbles, symbols, text_of_real}

abbrev stepped : Option (Bool × List ℕ) → ℕ → (List ℕ → Outcome (List ℕ)) → Outcome (List ℕ)
stepped None next more = Fault malformed_number
stepped (Some step) next more = if step.0 then Got step.1 next else more step.1

-- the text that bytes spell behind a text
unfoldable pub text_behind : List ℕ → List ℕ → ℕ → Outcome (List ℕ)
text_behind text [] place = end
text_behind text (byte ∷ bytes) place = stepped (one_byte text byte) (place + 1) (λ more. text_behind more bytes (place + 1))

-- the text that nibbles spell behind a text
abbrev finished : List ℕ → List ℕ → ℕ → Outcome (List ℕ)
finished text all place =
    let count = prefix_len is_in_text all in
    ended_by (drop count all) (text ++ flat_map symbols (take count all)) (place + (count / 2 + 1))

pub byte_at : (bytes xs : List ℕ) (place b : ℕ) → b ∷ xs ≡ drop place bytes → number 1 bytes place ≡ Got b (place + 1)
unfolding number slice
byte_at bytes xs place b e =
    let long : length bytes - place ≡ suc (length xs) = sym (length-drop place bytes)
    ∙ ap length (sym e) in rw (← e, long) (grind (arith, common_steps, nat_tests))

pub byte_none : (bytes : List ℕ) (place : ℕ) → [] ≡ drop place bytes → number 1 bytes place ≡ Fault unexpected_eof
unfolding number slice
byte_none bytes place e = let long : length bytes - place ≡ 0 = sym (length-drop place bytes) ∙ ap length (sym e) in rw (long) refl

abbrev go_on : List ℕ → Bool × List ℕ → ℕ → Outcome (List ℕ)
go_on bytes r next = if r.0 then Got r.1 next else text_behind r.1 (drop next bytes) next

steps_by : (text bytes xs : List ℕ) (place : ℕ) → xs ≡ drop place bytes → text_behind text xs place ≡ after (step text bytes place)
    (go_on bytes)
unfolding step text_behind
steps_by text bytes [] place e = rw (byte_none bytes place e) refl
steps_by text bytes (b ∷ xs) place e =
    let there : xs ≡ drop (place + 1) bytes = ap (drop 1) e ∙ drop-drop 1 place bytes in
    rw (byte_at bytes xs place b e) (grind arith)

text_steps : (text bytes : List ℕ) (place : ℕ) → text_behind text (drop place bytes) place ≡ after (step text bytes place) (go_on bytes)
text_steps text bytes place = steps_by text bytes (drop place bytes) place refl

at_once : (text : List ℕ) (high low : ℕ) (rest : List ℕ) (place : ℕ) (more : List ℕ → Outcome (List ℕ)) → is_in_text high ≡ false →
    stepped (then_low (one_nibble text high) low) (place + 1) more ≡ finished text (high ∷ low ∷ rest) place
at_once text high low rest place more stops = grind (arith, append-nil, nat_tests)

within : (high : ℕ) → is_in_text high ≡ true → ((high == 15) ≡ false) × ((high == 13) ≡ false)
within high stays = (grind (arith, nat_tests), grind (arith, nat_tests))

in_low : (text : List ℕ) (high low : ℕ) (rest : List ℕ) (place : ℕ) (more : List ℕ → Outcome (List ℕ)) → is_in_text high ≡ true →
    is_in_text low ≡ false →
    stepped (then_low (one_nibble text high) low) (place + 1) more ≡ finished text (high ∷ low ∷ rest) place
in_low text high low rest place more stays stops = grind (arith, within, append-nil, nat_tests)

later : (text : List ℕ) (high low : ℕ) (rest : List ℕ) (place : ℕ) → is_in_text high ≡ true → is_in_text low ≡ true →
    finished ((text ++ symbols high) ++ symbols low) rest (place + 1) ≡ finished text (high ∷ low ∷ rest) place
later text high low rest place stays stays_low =
    let count = prefix_len is_in_text rest in
    let spelled = flat_map symbols (take count rest) in
    let two : 1 + (1 + count) ≡ suc (suc count) = omega arith in
    let next : place + 1 + (count / 2 + 1) ≡ place + (suc (suc count) / 2 + 1) = omega arith in
    let all : ((text ++ symbols high) ++ symbols low) ++ spelled ≡ text ++ (symbols high ++ (symbols low ++ spelled)) = simp append_assoc in
    rw (stays, stays_low, two, all, next) refl

-- the text that bytes spell, nibble by nibble
text_by : (text xs : List ℕ) (place : ℕ) → text_behind text xs place ≡ finished text (nibbles xs) place
unfolding text_behind
text_by text [] place = refl
text_by text (b ∷ xs) place = by (is_in_text (b / 16)) refl (is_in_text (b % 16)) refl (λ more. text_by more xs (place + 1))
  where
    by : (h : Bool) → is_in_text (b / 16) ≡ h → (l : Bool) → is_in_text (b % 16) ≡ l →
        ((more : List ℕ) → text_behind more xs (place + 1) ≡ finished more (nibbles xs) (place + 1)) →
        stepped (one_byte text b) (place + 1) (λ more. text_behind more xs (place + 1)) ≡ finished text (b / 16 ∷ b % 16 ∷ nibbles xs) place
    by h stops l e rest = grind (arith, at_once, in_low, within, later)

pub text_is : (text bytes : List ℕ) (place : ℕ) → text ≡ [] → text_of_real bytes place ≡ text_behind text (drop place bytes) place
unfolding text_of_real
text_is text bytes place none =
    sym (text_by [] (drop place bytes) place) ∙ ap (λ empty. text_behind empty (drop place bytes) place) (sym none)

-- what a loop over the bytes of a text has read so far, by the outcome of the whole text
pub goes_on : (whole : Outcome (List ℕ)) (text here bytes : List ℕ) (place : ℕ) (ended : Bool) (more : List ℕ) (next : ℕ) →
    whole ≡ text_behind text (drop place bytes) place → here ≡ bytes →
    ended ≡ false → step text here place ≡ Got (ended, more) next → whole ≡ text_behind more (drop next bytes) next
goes_on whole text here bytes place ended more next so_far same test e = grind (arith, text_steps)

pub ends : (whole : Outcome (List ℕ)) (text here bytes : List ℕ) (place : ℕ) (ended : Bool) (more : List ℕ) (next : ℕ) →
    whole ≡ text_behind text (drop place bytes) place → here ≡ bytes →
    ended ≡ true → step text here place ≡ Got (ended, more) next → whole ≡ Got more next
ends whole text here bytes place ended more next so_far same test e = grind (arith, text_steps)

pub refused : (whole : Outcome (List ℕ)) (text here bytes : List ℕ) (place : ℕ) (e : Error) →
    whole ≡ text_behind text (drop place bytes) place → here ≡ bytes →
    (e ≢ Memory → RefusedAs e (step text here place)) → e ≢ Memory → RefusedAs e whole
refused whole text here bytes place e so_far same h other = grind (arith, text_steps, refused_after)

pub byte_front : (bytes : List ℕ) (place b next : ℕ) → number 1 bytes place ≡ Got b next → take 1 (drop place bytes) ≡ b ∷ []
byte_front bytes place b next e = grind (arith, byte_none, byte_at)
