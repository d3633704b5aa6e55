-- Rules that are written one after the other.
use Rattle.std.proofs.Common.{◌≡◌, sym, ap, subst, ◌∙◌, ℕ, ◌+◌, ◌*◌, ◌<◌, ◌≤◌, List, [], ◌∷◌, ◌++◌, Vec, Global, length, get_or, take, drop, arith}
use Rattle.std.specs.List.{All}
use Rattle.std.proofs.lemmas.List.{drop_all, drop_more, get_or-map, length-map, map-append, take_all, take_more}
use Rattle.std.proofs.lemmas.List.Elements.{All-append, All-cons, All-get_or, All-nil}
use Rattle.postscript_layout_write.specs.RuleSets.{AreOfType, IsLigature, IsShort, PlacesFit, are_ligatures, are_several, are_single, ligature_text, ligatures_text, lists, places_text}
use Rattle.postscript_layout_write.specs.Text.{array_text, uint16}

drop-item : (rules : List (Vec ℕ Global)) (i : ℕ) (rule : Vec ℕ Global) → i < length rules → rule ≡ get_or rules i rule → drop i rules ≡ rule ∷ drop (i + 1) rules
drop-item rules i rule less is = drop_more rules i rule less ∙ ap (λ (v : Vec ℕ Global). v ∷ drop (i + 1) rules) (sym is)

pub length-lists : (rules : List (Vec ℕ Global)) → length (lists rules) ≡ length rules
length-lists rules = length-map rules (λ (rule : Vec ℕ Global). rule.items)

-- a property of each rule
pub at-item : (P : List ℕ → Type 0) (rules : List (Vec ℕ Global)) (i : ℕ) (rule : Vec ℕ Global) → i < length rules → rule ≡ get_or rules i rule →
    All P (lists rules) → P rule.items
at-item P rules i rule less is all =
    let at : get_or (lists rules) i rule.items ≡ rule.items = get_or-map (λ (v : Vec ℕ Global). v.items) rules i rule rule.items less ∙ ap (λ (v : Vec ℕ Global). v.items) (sym is) in
    let within : i < length (lists rules) = (let many = length-lists rules in omega (arith, many, less)) in
    subst P at (All-get_or P (lists rules) i rule.items within all)

pub short-more : (rules : List (Vec ℕ Global)) (i : ℕ) (rule : Vec ℕ Global) → i < length rules → rule ≡ get_or rules i rule →
    All IsShort (lists (take i rules)) → length rule.items < 65536 → All IsShort (lists (take (i + 1) rules))
short-more rules i rule less is all short = subst (λ (xs : List (Vec ℕ Global)). All IsShort (lists xs))
    (sym (take_more rules i rule less ∙ ap (λ (v : Vec ℕ Global). take i rules ++ v ∷ []) (sym is)))
    (subst (λ (xs : List (List ℕ)). All IsShort xs) (sym (map-append (λ (v : Vec ℕ Global). v.items) (take i rules) (rule ∷ [])))
    (All-append IsShort (lists (take i rules)) (rule.items ∷ []) all (All-cons IsShort rule.items [] short (All-nil IsShort))))

pub short-all : (rules : List (Vec ℕ Global)) (i : ℕ) → length rules ≤ i → All IsShort (lists (take i rules)) → All IsShort (lists rules)
short-all rules i past all = subst (λ (xs : List (Vec ℕ Global)). All IsShort (lists xs)) (take_all i rules past) all

-- ligatures
pub ligatures-text-more : (rules : List (Vec ℕ Global)) (i : ℕ) (rule : Vec ℕ Global) → i < length rules → rule ≡ get_or rules i rule →
    ligatures_text (lists (drop i rules)) ≡ ligature_text rule.items ++ ligatures_text (lists (drop (i + 1) rules))
unfolding ligatures_text
ligatures-text-more rules i rule less is = ap (λ (xs : List (Vec ℕ Global)). ligatures_text (lists xs)) (drop-item rules i rule less is)

pub ligatures-text-done : (rules : List (Vec ℕ Global)) (i : ℕ) → length rules ≤ i → ligatures_text (lists (drop i rules)) ≡ []
unfolding ligatures_text
ligatures-text-done rules i past = ap (λ (xs : List (Vec ℕ Global)). ligatures_text (lists xs)) (drop_all i rules past)

pub ligature-parts : (rule : List ℕ) → 0 < length rule →
    ligature_text rule ≡ uint16 (get_or rule 0 0) ++ (uint16 (length rule) ++ array_text (drop 1 rule))
unfolding ligature_text
ligature-parts [] some = absurd (omega (arith, some))
ligature-parts (g ∷ gs) some = ap (λ n. uint16 g ++ (uint16 n ++ array_text gs)) {x = length gs + 1} {y = length (g ∷ gs)} (omega arith)

-- offsets of ligatures
pub places-more : (at : ℕ) (rules : List (Vec ℕ Global)) (i : ℕ) (rule : Vec ℕ Global) → i < length rules → rule ≡ get_or rules i rule →
    places_text at (lists (drop i rules)) ≡ uint16 at ++ places_text (at + 2 + length rule.items * 2) (lists (drop (i + 1) rules))
unfolding places_text
places-more at rules i rule less is = ap (λ (xs : List (Vec ℕ Global)). places_text at (lists xs)) (drop-item rules i rule less is)

pub places-done : (at : ℕ) (rules : List (Vec ℕ Global)) (i : ℕ) → length rules ≤ i → places_text at (lists (drop i rules)) ≡ []
unfolding places_text
places-done at rules i past = ap (λ (xs : List (Vec ℕ Global)). places_text at (lists xs)) (drop_all i rules past)

pub fit-more : (at : ℕ) (rules : List (Vec ℕ Global)) (i : ℕ) (rule : Vec ℕ Global) → i < length rules → rule ≡ get_or rules i rule → at < 65536 →
    PlacesFit (at + 2 + length rule.items * 2) (lists (drop (i + 1) rules)) → PlacesFit at (lists (drop i rules))
fit-more at rules i rule less is small rest = subst (λ (xs : List (Vec ℕ Global)). PlacesFit at (lists xs)) (sym (drop-item rules i rule less is)) (small, rest)

pub fit-done : (at : ℕ) (rules : List (Vec ℕ Global)) (i : ℕ) → length rules ≤ i → PlacesFit at (lists (drop i rules))
fit-done at rules i past = subst (λ (xs : List (Vec ℕ Global)). PlacesFit at (lists xs)) (sym (drop_all i rules past)) tt

-- the first rule of rules of a type
pub first-rule : (rules : List (Vec ℕ Global)) (rule : Vec ℕ Global) → 0 < length rules → rule ≡ get_or rules 0 rule →
    (rest : List (List ℕ)) × (lists rules ≡ rule.items ∷ rest)
first-rule [] rule some is = absurd (omega (arith, some))
first-rule (r ∷ rs) rule some is = (lists rs, ap (λ (v : Vec ℕ Global). v.items ∷ lists rs) (sym is))

pub single-rule : (type : ℕ) (rules : List (List ℕ)) (rule : List ℕ) (rest : List (List ℕ)) → AreOfType type rules → type ≡ 1 → rules ≡ rule ∷ rest →
    (0 < length rule) × (rules ≡ (get_or rule 0 0 ∷ []) ∷ [])
single-rule type rules rule rest (are_single result one e) is first =
    let same : rule ≡ result ∷ [] = cc in
    (subst (λ (xs : List ℕ). 0 < length xs) (sym same) (omega arith), e ∙ ap (λ (xs : List ℕ). (get_or xs 0 0 ∷ []) ∷ []) (sym same))
single-rule type rules rule rest (are_several other a b e all) is first = absurd (a is)
single-rule type rules rule rest (are_ligatures four all) is first = absurd (omega (arith, four, is))

pub several-rule : (type : ℕ) (rules : List (List ℕ)) (rule : List ℕ) (rest : List (List ℕ)) → AreOfType type rules → (type ≡ 1 → ⊥) → (type ≡ 4 → ⊥) →
    rules ≡ rule ∷ rest → (rules ≡ rule ∷ []) × All (λ glyph. glyph < 65536) rule
several-rule type rules rule rest (are_single result one e) a b first = absurd (a one)
several-rule type rules rule rest (are_several other c d e all) a b first =
    let same : other ≡ rule = cc in
    (e ∙ ap (λ (xs : List ℕ). xs ∷ []) same, subst (λ (xs : List ℕ). All (λ glyph. glyph < 65536) xs) same all)
several-rule type rules rule rest (are_ligatures four all) a b first = absurd (b four)

pub ligatures-are : (type : ℕ) (rules : List (List ℕ)) → AreOfType type rules → type ≡ 4 → All IsLigature rules
ligatures-are type rules (are_single result one e) is = absurd (omega (arith, one, is))
ligatures-are type rules (are_several other a b e all) is = absurd (b is)
ligatures-are type rules (are_ligatures four all) is = all
