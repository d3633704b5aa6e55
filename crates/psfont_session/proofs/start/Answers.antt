use Rattle.std.proofs.Common.{rules, ◌≡◌, ap, map, inl, inr, string_bytes}
use Rattle.std.specs.Prelude.{codes}
use Rattle.psfont_session.proofs.Known.{of_two}
use Rattle.psfont_session.proofs.start.Goals as goal

pub returns-in-len2-clause-usage : goal.returns-in-len2-clause-usage
returns-in-len2-clause-usage g c = (
  λ is known. search (rules, is),
  λ unknown.
      let word = c.word-item.result in
      let path = c.path-item.result in
      let both = of_two c.args.words.now word path c.in-len2.len_at_least c.in-len2.len_below c.word-item.is c.path-item.is in
      let font : string_bytes word ≡ codes "font" = search (rules) in
      absurd (unknown (inr (string_bytes word, string_bytes path, inl font, ap (map string_bytes) both))),
)

pub returns-in-len2-2-clause-usage : goal.returns-in-len2-2-clause-usage
returns-in-len2-2-clause-usage g c = (
  λ is known. search (rules, is),
  λ unknown.
      let word = c.word-item-then-words-lt3.result in
      let path = c.path-item-then-words-lt3.result in
      let both = of_two c.args.words.now word path c.in-len2.len_at_least c.in-len2.len_below c.word-item-then-words-lt3.is
      c.path-item-then-words-lt3.is in
      let lenient : string_bytes word ≡ codes "lenient" = search (rules) in
      absurd (unknown (inr (string_bytes word, string_bytes path, inr lenient, ap (map string_bytes) both))),
)
