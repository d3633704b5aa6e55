-- The texts of items are those of UTF-8.
use Rattle.bstr.proofs.lemmas.EncodeLemmas.{lossy_chars-utf8}
use Rattle.bstr.proofs.lemmas.LossyLemmas.{lossy_chars-utf8_lossy}
use Rattle.postscript_compact1.specs.Texts.{text}
use Rattle.postscript_compact1.specs.TextsLaw.{KeepsUtf8, AgreesWithStd}

pub keeps_utf8 : KeepsUtf8
unfolding text
keeps_utf8 = lossy_chars-utf8

pub agrees_with_std : AgreesWithStd
unfolding text
agrees_with_std = lossy_chars-utf8_lossy
