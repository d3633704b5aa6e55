-- Sums of fractions, and how far they are from others.
use Rattle.std.proofs.Common.{◌≡◌, ℕ, ◌+◌, ◌*◌, ◌≤◌, ℤ, pos, neg_ℤ, ◌+ℤ◌, ◌*ℤ◌, ◌≤ℤ◌, ap, sym, ◌∙◌, arith}
use Rattle.std.proofs.lemmas.Int.{ints}
use Rattle.std.proofs.Math.Nat.{mul-le-mul_right}
use borrow.Author.Differences.{up, down}

-- ---- products of whole numbers

pub opposite : (a : ℤ) (k : ℕ) → neg_ℤ a *ℤ pos k ≡ neg_ℤ (a *ℤ pos k)
opposite a k =
    let other : up (neg_ℤ a) + up a ≡ down (neg_ℤ a) + down a = omega (arith, ints) in
    let scaled-so = ap (λ n. n * k) other in
    omega (arith, ints, scaled-so)

pub distribute : (a b : ℤ) (k : ℕ) → (a +ℤ b) *ℤ pos k ≡ (a *ℤ pos k) +ℤ (b *ℤ pos k)
distribute a b k =
    let sum : up (a +ℤ b) + (down a + down b) ≡ down (a +ℤ b) + (up a + up b) = omega (arith, ints) in
    let scaled-so = ap (λ n. n * k) sum in
    omega (arith, ints, scaled-so)

pub associate : (a : ℤ) (j k : ℕ) → (a *ℤ pos j) *ℤ pos k ≡ a *ℤ pos (j * k)
associate a j k =
    let product : up (a *ℤ pos j) + down a * j ≡ down (a *ℤ pos j) + up a * j = omega (arith, ints) in
    let scaled-so = ap (λ n. n * k) product in
    omega (arith, ints, scaled-so)

pub times : (k : ℕ) (a b : ℤ) → a ≤ℤ b → (a *ℤ pos k) ≤ℤ (b *ℤ pos k)
times k a b h =
    let n : up a + down b ≤ up b + down a = omega (arith, ints, h) in
    let m : (up a + down b) * k ≤ (up b + down a) * k = mul-le-mul_right k n in
    omega (arith, ints, m)

-- ---- two fractions

wider : (a : ℤ) (c v w : ℕ) → (a *ℤ pos (c * v)) *ℤ pos w ≡ a *ℤ pos (c * (v * w))
wider a c v w = associate a (c * v) w ∙ ap (λ n. a *ℤ pos n) (omega arith)

pub exchange : (a : ℤ) (j k : ℕ) → (a *ℤ pos j) *ℤ pos k ≡ (a *ℤ pos k) *ℤ pos j
exchange a j k = associate a j k ∙ ap (λ n. a *ℤ pos n) (omega arith) ∙ sym (associate a k j)

pub above : (c d : ℕ) (a x b y : ℤ) (v w k l : ℕ) → (a *ℤ pos (c * v)) ≤ℤ ((x *ℤ pos d) +ℤ pos (k * v)) →
    (b *ℤ pos (c * w)) ≤ℤ ((y *ℤ pos d) +ℤ pos (l * w))
    → ((a +ℤ b) *ℤ pos (c * (v * w))) ≤ℤ ((((x *ℤ pos w) +ℤ (y *ℤ pos v)) *ℤ pos d) +ℤ pos ((k + l) * (v * w)))
above c d a x b y v w k l one other =
    let p = times w _ _ one in
    let q = times v _ _ other in
    let a-whole = wider a c v w in
    let same : w * v ≡ v * w = omega arith in
    let b-whole = wider b c w v ∙ ap (λ n. b *ℤ pos (c * n)) same in
    let sums = distribute a b (c * (v * w)) in
    let parts = distribute (x *ℤ pos w) (y *ℤ pos v) d in
    let x-part = exchange x d w in
    let y-part = exchange y d v in
    let x-more = distribute (x *ℤ pos d) (pos (k * v)) w in
    let y-more = distribute (y *ℤ pos d) (pos (l * w)) v in
    omega (arith, ints, p, q, a-whole, b-whole, sums, parts, x-part, y-part, x-more, y-more)

pub below : (c d : ℕ) (a x b y : ℤ) (v w k l : ℕ) → (x *ℤ pos d) ≤ℤ ((a *ℤ pos (c * v)) +ℤ pos (k * v)) →
    (y *ℤ pos d) ≤ℤ ((b *ℤ pos (c * w)) +ℤ pos (l * w))
    → (((x *ℤ pos w) +ℤ (y *ℤ pos v)) *ℤ pos d) ≤ℤ (((a +ℤ b) *ℤ pos (c * (v * w))) +ℤ pos ((k + l) * (v * w)))
below c d a x b y v w k l one other =
    let p = times w _ _ one in
    let q = times v _ _ other in
    let a-whole = wider a c v w in
    let same : w * v ≡ v * w = omega arith in
    let b-whole = wider b c w v ∙ ap (λ n. b *ℤ pos (c * n)) same in
    let sums = distribute a b (c * (v * w)) in
    let parts = distribute (x *ℤ pos w) (y *ℤ pos v) d in
    let x-part = exchange x d w in
    let y-part = exchange y d v in
    let a-more = distribute (a *ℤ pos (c * v)) (pos (k * v)) w in
    let b-more = distribute (b *ℤ pos (c * w)) (pos (l * w)) v in
    omega (arith, ints, p, q, a-whole, b-whole, sums, parts, x-part, y-part, a-more, b-more)
