-- Texts at offsets.
use Rattle.std.proofs.Common.{◌≡◌, ◌≤◌, refl, sym, ap, ◌∙◌, ℕ, zero, suc, ◌+◌, ◌*◌, ◌<◌, List, [], ◌∷◌, ◌++◌, length, get_or, take, drop, length-append, append-nil, arith}
use Rattle.std.specs.Prelude.{nat_lt, false, if◌then◌else◌, Bool}
use Rattle.std.proofs.lemmas.Bool.{le-ltb}
use Rattle.std.proofs.lemmas.List.{append_assoc, length-take-le, take-append-drop}
use Rattle.std.proofs.lemmas.Nat.{from_be_bytes-to_be_bytes_2}
use Rattle.std.proofs.Math.Seq.{drop-append_seam, take-append_seam}
use Rattle.postscript_base.specs.Numbers.{big_endian}
use Rattle.postscript_base.specs.Index.{number_at}
use Rattle.postscript_layout.specs.Numbers.{word}
use Rattle.postscript_layout_write.specs.Holds.{Holds}
use Rattle.postscript_layout_write.specs.Text.{array_text, uint16}

pub holds-whole : (text : List ℕ) → Holds text text 0
holds-whole text = record { front = []; behind = []; is = sym (append-nil text); place = refl }

pub holds-on : {text bytes : List ℕ} {offset : ℕ} (more : List ℕ) → Holds text bytes offset → Holds text (bytes ++ more) offset
holds-on {text = text} more h = record {
  front = h.front;
  behind = h.behind ++ more;
  is = ap (λ xs. xs ++ more) h.is ∙ append_assoc h.front (text ++ h.behind) more ∙ ap (λ xs. h.front ++ xs) (append_assoc text h.behind more);
  place = h.place;
}

pub holds-after : {text bytes : List ℕ} {offset : ℕ} (before : List ℕ) → Holds text bytes offset → Holds text (before ++ bytes) (length before + offset)
holds-after {text = text} before h = record {
  front = before ++ h.front;
  behind = h.behind;
  is = ap (λ xs. before ++ xs) h.is ∙ sym (append_assoc before h.front (text ++ h.behind));
  place = length-append before h.front ∙ ap (λ n. length before + n) h.place;
}

pub holds-last : (bytes text : List ℕ) → Holds text (bytes ++ text) (length bytes)
holds-last bytes text = record { front = bytes; behind = []; is = ap (λ xs. bytes ++ xs) (sym (append-nil text)); place = refl }

pub holds-first : {bytes : List ℕ} {offset : ℕ} (a b : List ℕ) → Holds (a ++ b) bytes offset → Holds a bytes offset
holds-first a b h = record {
  front = h.front;
  behind = b ++ h.behind;
  is = h.is ∙ ap (λ xs. h.front ++ xs) (append_assoc a b h.behind);
  place = h.place;
}

pub holds-second : {bytes : List ℕ} {offset : ℕ} (a b : List ℕ) (n : ℕ) → length a ≡ n → Holds (a ++ b) bytes offset → Holds b bytes (offset + n)
holds-second a b n long h = record {
  front = h.front ++ a;
  behind = h.behind;
  is = h.is ∙ ap (λ xs. h.front ++ xs) (append_assoc a b h.behind) ∙ sym (append_assoc h.front a (b ++ h.behind));
  place = (let place = h.place in omega (arith, length-append h.front a, long, place));
}

-- a text in a text
pub holds-in : {text inner bytes : List ℕ} {offset at : ℕ} → Holds text bytes offset → Holds inner text at → Holds inner bytes (offset + at)
holds-in {text = text} {inner = inner} {bytes = bytes} {offset = offset} {at = at} h k = record {
  front = h.front ++ k.front;
  behind = k.behind ++ h.behind;
  is = h.is ∙ ap (λ xs. h.front ++ (xs ++ h.behind)) k.is ∙ ap (λ xs. h.front ++ xs) (append_assoc k.front (inner ++ k.behind) h.behind)
      ∙ sym (append_assoc h.front k.front ((inner ++ k.behind) ++ h.behind))
      ∙ ap (λ xs. (h.front ++ k.front) ++ xs) (append_assoc inner k.behind h.behind);
  place = (let a = h.place in let b = k.place in omega (arith, length-append h.front k.front, a, b));
}

-- numbers
pub length-uint16 : (n : ℕ) → length (uint16 n) ≡ 2
unfolding uint16
length-uint16 n = refl

value-uint16 : (n : ℕ) → n < 65536 → big_endian (uint16 n) ≡ n
unfolding uint16
value-uint16 n small = let e = from_be_bytes-to_be_bytes_2 n small in omega (arith, e)

pub holds-word : {bytes : List ℕ} {offset : ℕ} (n : ℕ) → n < 65536 → Holds (uint16 n) bytes offset → word bytes offset ≡ n
unfolding number_at
holds-word {bytes = bytes} {offset = offset} n small h =
    ap (λ (b : Bool). if b then 0 else number_at bytes offset 2) within
    ∙ ap (λ xs. big_endian (take 2 xs)) rest ∙ ap (λ k. big_endian (take k (uint16 n ++ h.behind))) (sym (length-uint16 n))
    ∙ ap big_endian (take-append_seam (uint16 n) h.behind) ∙ value-uint16 n small
  where
    within : nat_lt (length bytes) (offset + 2) ≡ false
    within = let a = ap length h.is in let b = h.place in
        le-ltb _ _ (omega (arith, a, b, length-append h.front (uint16 n ++ h.behind), length-append (uint16 n) h.behind, length-uint16 n))

    rest : drop offset bytes ≡ uint16 n ++ h.behind
    rest = ap (drop offset) h.is ∙ ap (λ k. drop k (h.front ++ (uint16 n ++ h.behind))) (sym h.place) ∙ drop-append_seam h.front (uint16 n ++ h.behind)

-- arrays
pub length-array : (ns : List ℕ) → length (array_text ns) ≡ length ns * 2
unfolding array_text
length-array [] = refl
length-array (n ∷ ns) = let e = length-append (uint16 n) (array_text ns) in let f = length-array ns in omega (arith, e, f, length-uint16 n)

pub holds-array : {bytes : List ℕ} (ns : List ℕ) (offset k : ℕ) → k < length ns → get_or ns k 0 < 65536 → Holds (array_text ns) bytes offset →
    word bytes (offset + k * 2) ≡ get_or ns k 0
unfolding array_text
holds-array [] offset k less small h = absurd (omega (arith, less))
holds-array {bytes = bytes} (n ∷ ns) offset zero less small h =
    ap (word bytes) (omega arith) ∙ holds-word n small (holds-first (uint16 n) (array_text ns) h)
holds-array {bytes = bytes} (n ∷ ns) offset (suc k) less small h =
    ap (word bytes) (omega arith)
    ∙ holds-array ns (offset + 2) k (omega (arith, less)) small (holds-second (uint16 n) (array_text ns) 2 (length-uint16 n) h)

-- bytes that are equal to a text
pub holds-part : (text bytes : List ℕ) (offset n : ℕ) → offset ≤ length bytes → take n (drop offset bytes) ≡ text → Holds text bytes offset
holds-part text bytes offset n within same = record {
  front = take offset bytes;
  behind = drop n (drop offset bytes);
  is = sym (take-append-drop offset bytes) ∙ ap (λ xs. take offset bytes ++ xs) (sym (take-append-drop n (drop offset bytes)))
      ∙ ap (λ xs. take offset bytes ++ (xs ++ drop n (drop offset bytes))) same;
  place = length-take-le offset bytes within;
}
