-- The bytes of tables, and their room.
use Rattle.std.proofs.Common.{◌≡◌, sym, ap, ◌∙◌, ℕ, ◌+◌, ◌-◌, ◌^◌, ◌<◌, List, [], ◌∷◌, ◌++◌, length, length-drop, append_assoc, drop, Vec, arith}
use Rattle.std.specs.List.{concat, range_with_len}
use Rattle.std.specs.declared.alloc.Global.{Global}
use Rattle.std.proofs.lemmas.List.{length-map}
use Rattle.std.proofs.lemmas.List.FromFn.{length-range_with_len}
use Rattle.postscript_cff2.specs.declared.font.Font.{Font}
use Rattle.postscript_type2.specs.Program.Routines.{texts}
use Rattle.postscript_write.specs.ArrangedText.{tables_text}
use Rattle.postscript_write.specs.Index.{index_text}
use Rattle.postscript_write.proofs.Room.{index_most}
use Rattle.postscript_instance.specs.Encoded.{HasRoom, IsKeyedBytes, IsNamedBytes, IsSelectText, IsSetText, font_dicts, keyed_places, keyed_text, named_places, named_text}
use Rattle.postscript_instance.specs.Whole.{adobe, identity}
use Rattle.postscript_instance.specs.declared.layout.Places.{Places}
use Rattle.postscript_instance.specs.declared.naming.Identifiers.{Identifiers}
use Rattle.postscript_instance.proofs.Laying.{keyed-length, named-length, same-tables, tables-most}
use Rattle.postscript_instance.proofs.Sets.{select-length, set-most}

pub keyed-small : (font : Font) (name matrix : List ℕ) (codes privates : List (Vec ℕ Global)) (set select head : List ℕ) (p : Places) →
    HasRoom name matrix codes privates → IsSetText (range_with_len 1 (length codes - 1)) set → IsSelectText font (length codes) select →
    head ≡ tables_text (name ∷ []) (keyed_text matrix (length codes) p) (adobe ∷ identity ∷ []) →
    length head + length set + length select + length (index_text (texts codes)) + length (concat (texts privates)) < 2 ^ 31
keyed-small font name matrix codes privates set select head p room is_set is_select is =
    let few = room.few_codes in
    let small = room.small in
    let most = tables-most name (keyed_text matrix (length codes) p) (adobe ∷ identity ∷ []) in
    let long = keyed-length matrix (length codes) p in
    let sets = set-most (range_with_len 1 (length codes - 1)) set is_set in
    let many = length-range_with_len 1 (length codes - 1) in
    let selects = select-length font (length codes) select is_select in
    let index = index_most (texts codes) in
    let same = length-map codes (λ v. v.items) in
    omega (arith, few, small, most, long, sets, many, selects, index, same, ap length is)

pub named-small : (name matrix : List ℕ) (ids : Identifiers) (codes : List (Vec ℕ Global)) (private set head : List ℕ) (p : Places) →
    length codes < 2 ^ 16 → length ids.strings.items < 2 ^ 16 → length ids.numbers.items ≡ length codes →
    length name + length (concat (texts ids.strings.items)) + length (concat (texts codes)) + length private + length matrix < 2000000000 →
    IsSetText (drop 1 ids.numbers.items) set →
    head ≡ tables_text (name ∷ []) (named_text matrix (length private) p) (texts ids.strings.items) →
    length head + length set + length (index_text (texts codes)) + length private < 2 ^ 31
named-small name matrix ids codes private set head p few few_strings counted small is_set is =
    let most = tables-most name (named_text matrix (length private) p) (texts ids.strings.items) in
    let long = named-length matrix (length private) p in
    let sets = set-most (drop 1 ids.numbers.items) set is_set in
    let many = length-drop 1 ids.numbers.items in
    let index = index_most (texts codes) in
    let same = length-map codes (λ v. v.items) in
    let strings = length-map ids.strings.items (λ v. v.items) in
    omega (arith, few, few_strings, counted, small, most, long, sets, many, index, same, strings, ap length is)

five-behind : (o0 a b c d e o1 o2 o3 o4 o5 : List ℕ) → o1 ≡ o0 ++ a → o2 ≡ o1 ++ b → o3 ≡ o2 ++ c → o4 ≡ o3 ++ d → o5 ≡ o4 ++ e →
    o5 ≡ o0 ++ (a ++ (b ++ (c ++ (d ++ e))))
five-behind o0 a b c d e o1 o2 o3 o4 o5 first second third fourth fifth =
    fifth ∙ ap (λ xs. xs ++ e) (fourth ∙ ap (λ xs. xs ++ d) (third ∙ ap (λ xs. xs ++ c) (second ∙ ap (λ xs. xs ++ b) first)))
    ∙ simp append_assoc

three-behind : (o0 a b c o1 o2 o3 : List ℕ) → o1 ≡ o0 ++ a → o2 ≡ o1 ++ b → o3 ≡ o2 ++ c → o3 ≡ o0 ++ (a ++ (b ++ c))
three-behind o0 a b c o1 o2 o3 first second third =
    third ∙ ap (λ xs. xs ++ c) (second ∙ ap (λ xs. xs ++ b) first) ∙ simp append_assoc

pub keyed-bytes : (font : Font) (name matrix : List ℕ) (codes privates : List (Vec ℕ Global)) (set select cs ps draft : List ℕ) (start : ℕ)
    (none p : Places) (dicts : List (List ℕ)) (o0 o1 o2 o3 o4 o5 : List ℕ) →
    IsSetText (range_with_len 1 (length codes - 1)) set → IsSelectText font (length codes) select → cs ≡ index_text (texts codes) →
    ps ≡ concat (texts privates) → draft ≡ tables_text (name ∷ []) (keyed_text matrix (length codes) none) (adobe ∷ identity ∷ []) →
    start ≡ length draft → p ≡ keyed_places start set select cs ps →
    start + length set + length select + length (index_text (texts codes)) + length (concat (texts privates)) < 2 ^ 31 →
    dicts ≡ font_dicts (texts privates) p.private → o0 ≡ tables_text (name ∷ []) (keyed_text matrix (length codes) p) (adobe ∷ identity ∷ []) →
    o1 ≡ o0 ++ set → o2 ≡ o1 ++ select → o3 ≡ o2 ++ cs → o4 ≡ o3 ++ ps → o5 ≡ o4 ++ index_text dicts →
    IsKeyedBytes font name matrix codes privates o5
keyed-bytes font name matrix codes privates set select cs ps draft start none p dicts o0 o1 o2 o3 o4 o5 is_set is_select is_cs is_ps is_draft begins
    is_p small is_dicts is_head first second third fourth fifth =
    let n : ℕ = length codes in
    let strings : List (List ℕ) = adobe ∷ identity ∷ [] in
    let ics : List ℕ = index_text (texts codes) in
    let all : List ℕ = concat (texts privates) in
    let q : Places = keyed_places start set select ics all in
    let same : p ≡ q = is_p ∙ ap (λ xs. keyed_places start set select xs ps) is_cs ∙ ap (keyed_places start set select ics) is_ps in
    let whole = five-behind o0 set select cs ps (index_text dicts) o1 o2 o3 o4 o5 first second third fourth fifth in
    record {
      set = set;
      select = select;
      start = start;
      is_set = is_set;
      is_select = is_select;
      begins = begins ∙ ap length is_draft
          ∙ same-tables name (keyed_text matrix n none) (keyed_text matrix n q) strings
          (keyed-length matrix n none ∙ sym (keyed-length matrix n q));
      small = small;
      is = whole ∙ ap (λ xs. xs ++ (set ++ (select ++ (cs ++ (ps ++ index_text dicts))))) is_head
          ∙ ap (λ xs. tables_text (name ∷ []) (keyed_text matrix n p) strings ++ (set ++ (select ++ (xs ++ (ps ++ index_text dicts))))) is_cs
          ∙ ap (λ xs. tables_text (name ∷ []) (keyed_text matrix n p) strings ++ (set ++ (select ++ (ics ++ (xs ++ index_text dicts))))) is_ps
          ∙ ap (λ xs. tables_text (name ∷ []) (keyed_text matrix n p) strings ++ (set ++ (select ++ (ics ++ (all ++ index_text xs))))) is_dicts
          ∙ ap (λ (k : Places). tables_text (name ∷ []) (keyed_text matrix n k) strings
          ++ (set ++ (select ++ (ics ++ (all ++ index_text (font_dicts (texts privates) k.private)))))) same;
    }

pub named-bytes : (name matrix : List ℕ) (ids : Identifiers) (codes : List (Vec ℕ Global)) (private set cs draft : List ℕ) (start : ℕ)
    (none p : Places) (o0 o1 o2 o3 : List ℕ) → IsSetText (drop 1 ids.numbers.items) set → cs ≡ index_text (texts codes) →
    draft ≡ tables_text (name ∷ []) (named_text matrix (length private) none) (texts ids.strings.items) → start ≡ length draft →
    p ≡ named_places start set cs → start + length set + length (index_text (texts codes)) + length private < 2 ^ 31 →
    o0 ≡ tables_text (name ∷ []) (named_text matrix (length private) p) (texts ids.strings.items) →
    o1 ≡ o0 ++ set → o2 ≡ o1 ++ cs → o3 ≡ o2 ++ private → IsNamedBytes name matrix ids codes private o3
named-bytes name matrix ids codes private set cs draft start none p o0 o1 o2 o3 is_set is_cs is_draft begins is_p small is_head first second third =
    let size : ℕ = length private in
    let strings : List (List ℕ) = texts ids.strings.items in
    let ics : List ℕ = index_text (texts codes) in
    let q : Places = named_places start set ics in
    let same : p ≡ q = is_p ∙ ap (named_places start set) is_cs in
    let whole = three-behind o0 set cs private o1 o2 o3 first second third in
    record {
      set = set;
      start = start;
      is_set = is_set;
      begins = begins ∙ ap length is_draft
          ∙ same-tables name (named_text matrix size none) (named_text matrix size q) strings
          (named-length matrix size none ∙ sym (named-length matrix size q));
      small = small;
      is = whole ∙ ap (λ xs. xs ++ (set ++ (cs ++ private))) is_head
          ∙ ap (λ xs. tables_text (name ∷ []) (named_text matrix size p) strings ++ (set ++ (xs ++ private))) is_cs
          ∙ ap (λ (k : Places). tables_text (name ∷ []) (named_text matrix size k) strings ++ (set ++ (ics ++ private))) same;
    }
