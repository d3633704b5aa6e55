-- The headers of the subtables that were written.
use Rattle.std.proofs.Common.{◌≡◌, refl, sym, ap, subst, ◌∙◌, ℕ, ◌+◌, ◌-◌, ◌*◌, ◌^◌, ◌≤◌, ◌<◌, List, ◌++◌, length, length-append, arith}
use Rattle.postscript_base.specs.Index.{number_at}
use Rattle.postscript_sfnt_write.specs.Grouping.{format12_text, groups_text, head4_text, rows_text}
use Rattle.postscript_sfnt_write.specs.Headers.{HasHeader12, HasHeader4, IsLogarithm}
use Rattle.postscript_sfnt_write.specs.Numbers.{uint16, uint32}
use Rattle.postscript_sfnt_write.specs.declared.mapping.Group.{Group}
use Rattle.postscript_sfnt_write.proofs.Mapped.{length-groups_text}
use Rattle.postscript_sfnt_write.proofs.Mapped4.{length-rows_text}
use Rattle.postscript_sfnt_write.proofs.Standing.{Stands, length-uint16, stands_first, stands_second, stands_within, uint16_stands, uint32_stands}
use Rattle.postscript_sfnt_write.proofs.Sums.{length-uint32}

moved : (bytes : List ℕ) (size value from to : ℕ) → from ≡ to → number_at bytes from size ≡ value → number_at bytes to size ≡ value
moved bytes size value from to same is = subst (λ k. number_at bytes k size ≡ value) same is

length-head4 : (count selector : ℕ) → length (head4_text count selector) ≡ 14
unfolding head4_text uint16
length-head4 count selector = refl

pub headed4 : {cmap : List ℕ} (at selector : ℕ) (gs : List Group) → length gs < 8002 → IsLogarithm (length gs) selector → selector < 16 →
    Stands (head4_text (length gs) selector ++ rows_text gs) cmap at → HasHeader4 cmap at
unfolding head4_text
headed4 {cmap = cmap} at selector gs few log bits s =
    let n : ℕ = length gs in
    let r : ℕ = 2 ^ selector * 2 in
    let most : 2 ^ selector ≤ n = log.most in
    let f : List ℕ = uint16 (n * 2 - r) in
    let e : List ℕ = uint16 selector ++ f in
    let d : List ℕ = uint16 r ++ e in
    let c : List ℕ = uint16 (n * 2) ++ d in
    let b : List ℕ = uint16 0 ++ c in
    let a : List ℕ = uint16 (16 + n * 8) ++ b in
    let head = stands_first (head4_text n selector) (rows_text gs) s in
    let at2 = stands_second (uint16 4) a 2 (length-uint16 4) head in
    let at4 = stands_second (uint16 (16 + n * 8)) b 2 (length-uint16 (16 + n * 8)) at2 in
    let at6 = stands_second (uint16 0) c 2 (length-uint16 0) at4 in
    let at8 = stands_second (uint16 (n * 2)) d 2 (length-uint16 (n * 2)) at6 in
    let at10 = stands_second (uint16 r) e 2 (length-uint16 r) at8 in
    let at12 = stands_second (uint16 selector) f 2 (length-uint16 selector) at10 in
    let range : number_at cmap (at + 8) 2 ≡ r =
    moved cmap _ _ (at + 2 + 2 + 2 + 2) (at + 8) (omega arith) (uint16_stands r (omega (arith, most, few)) (stands_first (uint16 r) e at8)) in
    let logarithm : number_at cmap (at + 10) 2 ≡ selector = moved cmap _ _ (at + 2 + 2 + 2 + 2 + 2) (at + 10) (omega arith)
    (uint16_stands selector (omega (arith, bits)) (stands_first (uint16 selector) f at10)) in
    let shift : number_at cmap (at + 12) 2 ≡ n * 2 - r = moved cmap _ _ (at + 2 + 2 + 2 + 2 + 2 + 2) (at + 12) (omega arith)
    (uint16_stands (n * 2 - r) (omega (arith, few)) at12) in
    let long = length-append (head4_text n selector) (rows_text gs) in
    let first = length-head4 n selector in
    let second = length-rows_text gs in
    let within = stands_within (head4_text n selector ++ rows_text gs) s in
    record {
      count = n;
      format = uint16_stands 4 (omega arith) (stands_first (uint16 4) a head);
      size = uint16_stands (16 + n * 8) (omega (arith, few)) (stands_first (uint16 (16 + n * 8)) b at2);
      language = moved cmap _ _ (at + 2 + 2) (at + 4) (omega arith) (uint16_stands 0 (omega arith) (stands_first (uint16 0) c at4));
      segments = moved cmap _ _ (at + 2 + 2 + 2) (at + 6) (omega arith)
          (uint16_stands (n * 2) (omega (arith, few)) (stands_first (uint16 (n * 2)) d at6));
      range = range ∙ sym (ap (λ k. 2 ^ k * 2) logarithm);
      selector = subst (λ k. IsLogarithm n k) (sym logarithm) log;
      shift = omega (arith, shift, range, most);
      within = omega (arith, within, long, first, second);
    }

pub length-format12 : (gs : List Group) → length (format12_text gs) ≡ 16 + length gs * 12
unfolding format12_text uint16 uint32
length-format12 gs = let groups = length-groups_text gs in omega (arith, groups)

pub headed12 : {cmap : List ℕ} (at : ℕ) (gs : List Group) → 16 + length gs * 12 < 2 ^ 32 → Stands (format12_text gs) cmap at →
    length cmap ≡ at + (16 + length gs * 12) → HasHeader12 cmap at
unfolding format12_text
headed12 {cmap = cmap} at gs small s end =
    let n : ℕ = length gs in
    let size : ℕ = 16 + n * 12 in
    let d : List ℕ = uint32 n ++ groups_text gs in
    let c : List ℕ = uint32 0 ++ d in
    let b : List ℕ = uint32 size ++ c in
    let a : List ℕ = uint16 0 ++ b in
    let at2 = stands_second (uint16 12) a 2 (length-uint16 12) s in
    let at4 = stands_second (uint16 0) b 2 (length-uint16 0) at2 in
    let at8 = stands_second (uint32 size) c 4 (length-uint32 size) at4 in
    let at12 = stands_second (uint32 0) d 4 (length-uint32 0) at8 in
    record {
      count = n;
      format = uint16_stands 12 (omega arith) (stands_first (uint16 12) a s);
      reserved = uint16_stands 0 (omega arith) (stands_first (uint16 0) b at2);
      size = moved cmap _ _ (at + 2 + 2) (at + 4) (omega arith) (uint32_stands size small (stands_first (uint32 size) c at4));
      language = moved cmap _ _ (at + 2 + 2 + 4) (at + 8) (omega arith) (uint32_stands 0 (omega arith) (stands_first (uint32 0) d at8));
      groups = moved cmap _ _ (at + 2 + 2 + 4 + 4) (at + 12) (omega arith)
          (uint32_stands n (omega (arith, small)) (stands_first (uint32 n) (groups_text gs) at12));
      within = omega (arith, end);
    }
