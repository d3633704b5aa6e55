use Rattle.std.proofs.Common.{◌≢◌, ℕ, List, Ok, Err, Result, rules, subst, sym}
use Rattle.std.specs.Prelude.{IfErr}
use Rattle.postscript_base.specs.Compact1.Dictionary.{Dictionary, dictionary}
use Rattle.postscript_base.specs.Compact1.DictionaryLaw.{IsDictionary, ReadsDictionaries}
use Rattle.postscript_base.specs.Tape.Outcome.{Answers, RefusedAs, same}
use Rattle.postscript_base.specs.declared.error.Error.{Error}
use Rattle.postscript_base.specs.declared.error.Error.TheVariants.{Memory}
use Rattle.postscript_examples.proofs.dictionaries.dictionary_of.Goals as goal

stands_nowhere : ReadsDictionaries → (r : Result Dictionary Error) (bytes : List ℕ) (place next : ℕ) →
    Answers same r next (dictionary bytes place) → IfErr r (λ e. e ≢ Memory → (map : Dictionary) → IsDictionary bytes place map → ⊥)
stands_nowhere reads (Ok map) bytes place next answers = tt
stands_nowhere reads (Err e) bytes place next answers = λ other map is. subst (RefusedAs e) (reads.all bytes place map is) (answers other)

pub returns-clause-only : goal.returns-clause-only
returns-clause-only c =
    rw (sym c.new-tape.ensures.inner, sym c.new-tape.ensures.position)
    (stands_nowhere c.read.ensures.law c.read.result _ _ _ (c.read.ensures.exact (search rules)).1)
