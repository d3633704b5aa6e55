-- The names of the glyphs of the standard Macintosh set, in order (OpenType 1.9, "post", "Version 1.0").
use Rattle.std.specs.Prelude.{ℕ, List, [], ◌∷◌, Option, slice_get, codes}

-- names 0 to 257
abbrev pub macintosh_names : List (List ℕ)
macintosh_names =
    codes ".notdef" ∷ codes ".null" ∷ codes "nonmarkingreturn" ∷ codes "space" ∷ codes "exclam" ∷ codes "quotedbl" ∷ codes "numbersign" ∷
    codes "dollar" ∷ codes "percent" ∷ codes "ampersand" ∷ codes "quotesingle" ∷ codes "parenleft" ∷ codes "parenright" ∷
    codes "asterisk" ∷ codes "plus" ∷ codes "comma" ∷ codes "hyphen" ∷ codes "period" ∷ codes "slash" ∷ codes "zero" ∷ codes "one" ∷
    codes "two" ∷ codes "three" ∷ codes "four" ∷ codes "five" ∷ codes "six" ∷ codes "seven" ∷ codes "eight" ∷ codes "nine" ∷
    codes "colon" ∷ codes "semicolon" ∷ codes "less" ∷ codes "equal" ∷ codes "greater" ∷ codes "question" ∷ codes "at" ∷ codes "A" ∷
    codes "B" ∷ codes "C" ∷ codes "D" ∷ codes "E" ∷ codes "F" ∷ codes "G" ∷ codes "H" ∷ codes "I" ∷ codes "J" ∷ codes "K" ∷ codes "L" ∷
    codes "M" ∷ codes "N" ∷ codes "O" ∷ codes "P" ∷ codes "Q" ∷ codes "R" ∷ codes "S" ∷ codes "T" ∷ codes "U" ∷ codes "V" ∷ codes "W" ∷
    codes "X" ∷ codes "Y" ∷ codes "Z" ∷ codes "bracketleft" ∷ codes "backslash" ∷ codes "bracketright" ∷ codes "asciicircum" ∷
    codes "underscore" ∷ codes "grave" ∷ codes "a" ∷ codes "b" ∷ codes "c" ∷ codes "d" ∷ codes "e" ∷ codes "f" ∷ codes "g" ∷ codes "h" ∷
    codes "i" ∷ codes "j" ∷ codes "k" ∷ codes "l" ∷ codes "m" ∷ codes "n" ∷ codes "o" ∷ codes "p" ∷ codes "q" ∷ codes "r" ∷ codes "s" ∷
    codes "t" ∷ codes "u" ∷ codes "v" ∷ codes "w" ∷ codes "x" ∷ codes "y" ∷ codes "z" ∷ codes "braceleft" ∷ codes "bar" ∷
    codes "braceright" ∷ codes "asciitilde" ∷ codes "Adieresis" ∷ codes "Aring" ∷ codes "Ccedilla" ∷ codes "Eacute" ∷ codes "Ntilde" ∷
    codes "Odieresis" ∷ codes "Udieresis" ∷ codes "aacute" ∷ codes "agrave" ∷ codes "acircumflex" ∷ codes "adieresis" ∷ codes "atilde" ∷
    codes "aring" ∷ codes "ccedilla" ∷ codes "eacute" ∷ codes "egrave" ∷ codes "ecircumflex" ∷ codes "edieresis" ∷ codes "iacute" ∷
    codes "igrave" ∷ codes "icircumflex" ∷ codes "idieresis" ∷ codes "ntilde" ∷ codes "oacute" ∷ codes "ograve" ∷ codes "ocircumflex" ∷
    codes "odieresis" ∷ codes "otilde" ∷ codes "uacute" ∷ codes "ugrave" ∷ codes "ucircumflex" ∷ codes "udieresis" ∷ codes "dagger" ∷
    codes "degree" ∷ codes "cent" ∷ codes "sterling" ∷ codes "section" ∷ codes "bullet" ∷ codes "paragraph" ∷ codes "germandbls" ∷
    codes "registered" ∷ codes "copyright" ∷ codes "trademark" ∷ codes "acute" ∷ codes "dieresis" ∷ codes "notequal" ∷ codes "AE" ∷
    codes "Oslash" ∷ codes "infinity" ∷ codes "plusminus" ∷ codes "lessequal" ∷ codes "greaterequal" ∷ codes "yen" ∷ codes "mu" ∷
    codes "partialdiff" ∷ codes "summation" ∷ codes "product" ∷ codes "pi" ∷ codes "integral" ∷ codes "ordfeminine" ∷
    codes "ordmasculine" ∷ codes "Omega" ∷ codes "ae" ∷ codes "oslash" ∷ codes "questiondown" ∷ codes "exclamdown" ∷ codes "logicalnot" ∷
    codes "radical" ∷ codes "florin" ∷ codes "approxequal" ∷ codes "Delta" ∷ codes "guillemotleft" ∷ codes "guillemotright" ∷
    codes "ellipsis" ∷ codes "nonbreakingspace" ∷ codes "Agrave" ∷ codes "Atilde" ∷ codes "Otilde" ∷ codes "OE" ∷ codes "oe" ∷
    codes "endash" ∷ codes "emdash" ∷ codes "quotedblleft" ∷ codes "quotedblright" ∷ codes "quoteleft" ∷ codes "quoteright" ∷
    codes "divide" ∷ codes "lozenge" ∷ codes "ydieresis" ∷ codes "Ydieresis" ∷ codes "fraction" ∷ codes "currency" ∷
    codes "guilsinglleft" ∷ codes "guilsinglright" ∷ codes "fi" ∷ codes "fl" ∷ codes "daggerdbl" ∷ codes "periodcentered" ∷
    codes "quotesinglbase" ∷ codes "quotedblbase" ∷ codes "perthousand" ∷ codes "Acircumflex" ∷ codes "Ecircumflex" ∷ codes "Aacute" ∷
    codes "Edieresis" ∷ codes "Egrave" ∷ codes "Iacute" ∷ codes "Icircumflex" ∷ codes "Idieresis" ∷ codes "Igrave" ∷ codes "Oacute" ∷
    codes "Ocircumflex" ∷ codes "apple" ∷ codes "Ograve" ∷ codes "Uacute" ∷ codes "Ucircumflex" ∷ codes "Ugrave" ∷ codes "dotlessi" ∷
    codes "circumflex" ∷ codes "tilde" ∷ codes "macron" ∷ codes "breve" ∷ codes "dotaccent" ∷ codes "ring" ∷ codes "cedilla" ∷
    codes "hungarumlaut" ∷ codes "ogonek" ∷ codes "caron" ∷ codes "Lslash" ∷ codes "lslash" ∷ codes "Scaron" ∷ codes "scaron" ∷
    codes "Zcaron" ∷ codes "zcaron" ∷ codes "brokenbar" ∷ codes "Eth" ∷ codes "eth" ∷ codes "Yacute" ∷ codes "yacute" ∷ codes "Thorn" ∷
    codes "thorn" ∷ codes "minus" ∷ codes "multiply" ∷ codes "onesuperior" ∷ codes "twosuperior" ∷ codes "threesuperior" ∷
    codes "onehalf" ∷ codes "onequarter" ∷ codes "threequarters" ∷ codes "franc" ∷ codes "Gbreve" ∷ codes "gbreve" ∷ codes "Idotaccent" ∷
    codes "Scedilla" ∷ codes "scedilla" ∷ codes "Cacute" ∷ codes "cacute" ∷ codes "Ccaron" ∷ codes "ccaron" ∷ codes "dcroat" ∷ []

-- the name with an index, or `None` if the set has no such index
abbrev pub macintosh_name : ℕ → Option (List ℕ)
macintosh_name index = slice_get macintosh_names index
