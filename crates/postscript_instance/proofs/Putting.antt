-- Operations as they are appended.
use Rattle.std.proofs.Common.{◌≡◌, sym, ap, ◌∙◌, ℕ, ◌/◌, ◌%◌, ◌<◌, List, [], ◌∷◌, ◌++◌, append_assoc, arith}
use Rattle.std.proofs.lemmas.List.{append-nil}
use Rattle.postscript_write.specs.Dictionaries.{escaped_text, integer_text, integers_text, operation_text}
use Rattle.postscript_write.specs.Texts.{number_text}

pub integer-bytes : (n : ℕ) →
    integer_text n ≡ 0x1d ∷ (n / 16777216 % 256) ∷ (n / 65536 % 256) ∷ (n / 256 % 256) ∷ (n % 256) ∷ []
unfolding number_text
integer-bytes n =
    let last : n / 1 ≡ n = omega arith in
    ap (λ m. 0x1d ∷ (n / 16777216 % 256) ∷ (n / 65536 % 256) ∷ (n / 256 % 256) ∷ (m % 256) ∷ []) last

one-byte : (n : ℕ) → n < 256 → number_text 1 n ≡ n ∷ []
unfolding number_text
one-byte n low = let same : n / 1 % 256 ≡ n = omega arith in ap (λ m. m ∷ []) same

pub put-one : (out mid new : List ℕ) (n code : ℕ) → mid ≡ out ++ integer_text n → new ≡ mid ++ code ∷ [] → code < 256 →
    new ≡ out ++ operation_text (n ∷ []) code
put-one out mid new n code first second low =
    second ∙ ap (λ t. t ++ code ∷ []) first ∙ append_assoc out (integer_text n) (code ∷ [])
    ∙ ap (λ t. out ++ (t ++ code ∷ [])) (sym (append-nil (integer_text n)))
    ∙ ap (λ t. out ++ (integers_text (n ∷ []) ++ t)) (sym (one-byte code low))

pub put-two : (out mid new : List ℕ) (n code : ℕ) → mid ≡ out ++ integer_text n → new ≡ mid ++ 0x0c ∷ code ∷ [] → code < 256 →
    new ≡ out ++ escaped_text (n ∷ []) code
put-two out mid new n code first second low =
    second ∙ ap (λ t. t ++ 0x0c ∷ code ∷ []) first ∙ append_assoc out (integer_text n) (0x0c ∷ code ∷ [])
    ∙ ap (λ t. out ++ (t ++ 0x0c ∷ code ∷ [])) (sym (append-nil (integer_text n)))
    ∙ ap (λ t. out ++ (integers_text (n ∷ []) ++ 0x0c ∷ t)) (sym (one-byte code low))
    ∙ ap (λ t. out ++ (integers_text (n ∷ []) ++ (t ++ number_text 1 code))) (sym (one-byte 0x0c (omega arith)))

pub put-both : (out mid on new : List ℕ) (a b code : ℕ) → mid ≡ out ++ integer_text a → on ≡ mid ++ integer_text b → new ≡ on ++ code ∷ [] →
    code < 256 → new ≡ out ++ operation_text (a ∷ b ∷ []) code
put-both out mid on new a b code first second third low =
    third ∙ ap (λ t. t ++ code ∷ []) (second ∙ ap (λ t. t ++ integer_text b) first ∙ append_assoc out (integer_text a) (integer_text b))
    ∙ append_assoc out (integer_text a ++ integer_text b) (code ∷ [])
    ∙ ap (λ t. out ++ ((integer_text a ++ t) ++ code ∷ [])) (sym (append-nil (integer_text b)))
    ∙ ap (λ t. out ++ (integers_text (a ∷ b ∷ []) ++ t)) (sym (one-byte code low))
