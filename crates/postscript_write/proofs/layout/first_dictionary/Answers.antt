use Rattle.std.proofs.Common.{◌≡◌, ◌∙◌, sym, ap, subst, List, ℕ, Some, None}
use Rattle.std.specs.Prelude.{option_map}
use Rattle.std.proofs.lemmas.Result.{err_from_is_err_and}
use Rattle.postscript_base.specs.Compact1.DictionaryLaw.{IsDictionary}
use Rattle.postscript_base.specs.Index.{IsOpened}
use Rattle.postscript_base.specs.Index.Lent.{items_of}
use Rattle.postscript_write.proofs.Heads.{dictionaries_are, item_within, names_end}
use Rattle.postscript_write.proofs.layout.first_dictionary.Goals as goal

pub returns-in_err-_names-clause-refused : goal.returns-in_err-_names-clause-refused
returns-in_err-_names-clause-refused c =
    let error = err_from_is_err_and c.from_residual-in_err-_names.result c.from_residual-in_err-_names.ensures.1 in
    let at = c.in_ok-start.ensures.exact in
    rw error.1 (λ tables least are.
    c.in_err-_names.ensures.exact tables.names are.names_next
    (subst (λ p. IsOpened c.args.bytes.now p tables.names are.names_next) (sym at.1) are.are_names))

pub returns-in_err-dictionaries-clause-refused : goal.returns-in_err-dictionaries-clause-refused
returns-in_err-dictionaries-clause-refused c =
    let error = err_from_is_err_and c.from_residual-in_err-dictionaries.result c.from_residual-in_err-dictionaries.ensures.1 in
    let at = c.in_ok-start.ensures.exact in
    rw error.1 (λ tables least are.
    let behind = names_end c.args.bytes.now tables c.in_ok-start.start c.in_ok-_names.next
    (items_of c.in_ok-_names._names) are at.1 c.in_ok-_names.ensures.exact in
    c.in_err-dictionaries.ensures.exact are.dictionaries are.dictionaries_next
    (subst (λ p. IsOpened c.args.bytes.now p are.dictionaries are.dictionaries_next) (sym behind) are.are_dictionaries))

pub returns-in-Some-clause-is : goal.returns-in-Some-clause-is
returns-in-Some-clause-is c = λ tables are.
    let at = c.in_ok-start.ensures.exact in
    let first = dictionaries_are c.args.bytes.now tables c.in_ok-start.start c.in_ok-_names.next _ (items_of c.in_ok-_names._names)
    (items_of c.in_ok-dictionaries.dictionaries) are at.1 c.in_ok-_names.ensures.exact c.in_ok-dictionaries.ensures.exact in
    let both : Some c.in-Some.item.now ≡ Some are.item = sym (ap (option_map (λ item. item.now)) c.in-Some.is) ∙ c.get.ensures ∙ first in
    let same : are.item ≡ c.in-Some.item.now = cc in
    subst (λ (bs : List ℕ). IsDictionary bs 0 tables.dictionary) same are.is_dictionary

pub returns-in-None-clause-refused : goal.returns-in-None-clause-refused
returns-in-None-clause-refused c = λ tables least are.
    let at = c.in_ok-start.ensures.exact in
    let first = dictionaries_are c.args.bytes.now tables c.in_ok-start.start c.in_ok-_names.next _ (items_of c.in_ok-_names._names)
    (items_of c.in_ok-dictionaries.dictionaries) are at.1 c.in_ok-_names.ensures.exact c.in_ok-dictionaries.ensures.exact in
    let never : None ≡ Some are.item = sym (ap (option_map (λ item. item.now)) c.in-None.is) ∙ c.get.ensures ∙ first in
    absurd (cc)

pub returns-in-Some-clause-within : goal.returns-in-Some-clause-within
returns-in-Some-clause-within c =
    let items : List (List ℕ) = items_of c.in_ok-dictionaries.dictionaries in
    let at = sym (ap (option_map (λ item. item.now)) c.in-Some.is) ∙ c.get.ensures in
    item_within c.args.bytes.now c.in_ok-_names.next items c.in_ok-dictionaries._next 0 c.in-Some.item.now
    c.in_ok-dictionaries.ensures.exact (sym at)
