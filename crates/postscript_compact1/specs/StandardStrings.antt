-- The standard strings (Technical Note 5176, Appendix A).
use Rattle.std.specs.Prelude.{ℕ, List, [], ◌∷◌, Option, slice_get, codes}

-- the strings of the SIDs from 0 to 390
abbrev pub standard_strings : List (List ℕ)
standard_strings =
    codes ".notdef" ∷ codes "space" ∷ codes "exclam" ∷ codes "quotedbl" ∷ codes "numbersign" ∷ codes "dollar" ∷
    codes "percent" ∷ codes "ampersand" ∷ codes "quoteright" ∷ codes "parenleft" ∷ codes "parenright" ∷
    codes "asterisk" ∷ codes "plus" ∷ codes "comma" ∷ codes "hyphen" ∷ codes "period" ∷ codes "slash" ∷ codes "zero" ∷
    codes "one" ∷ codes "two" ∷ codes "three" ∷ codes "four" ∷ codes "five" ∷ codes "six" ∷ codes "seven" ∷
    codes "eight" ∷ codes "nine" ∷ codes "colon" ∷ codes "semicolon" ∷ codes "less" ∷ codes "equal" ∷
    codes "greater" ∷ codes "question" ∷ codes "at" ∷ codes "A" ∷ codes "B" ∷ codes "C" ∷ codes "D" ∷ codes "E" ∷
    codes "F" ∷ codes "G" ∷ codes "H" ∷ codes "I" ∷ codes "J" ∷ codes "K" ∷ codes "L" ∷ codes "M" ∷ codes "N" ∷
    codes "O" ∷ codes "P" ∷ codes "Q" ∷ codes "R" ∷ codes "S" ∷ codes "T" ∷ codes "U" ∷ codes "V" ∷ codes "W" ∷
    codes "X" ∷ codes "Y" ∷ codes "Z" ∷ codes "bracketleft" ∷ codes "backslash" ∷ codes "bracketright" ∷
    codes "asciicircum" ∷ codes "underscore" ∷ codes "quoteleft" ∷ codes "a" ∷ codes "b" ∷ codes "c" ∷ codes "d" ∷
    codes "e" ∷ codes "f" ∷ codes "g" ∷ codes "h" ∷ codes "i" ∷ codes "j" ∷ codes "k" ∷ codes "l" ∷ codes "m" ∷
    codes "n" ∷ codes "o" ∷ codes "p" ∷ codes "q" ∷ codes "r" ∷ codes "s" ∷ codes "t" ∷ codes "u" ∷ codes "v" ∷
    codes "w" ∷ codes "x" ∷ codes "y" ∷ codes "z" ∷ codes "braceleft" ∷ codes "bar" ∷ codes "braceright" ∷
    codes "asciitilde" ∷ codes "exclamdown" ∷ codes "cent" ∷ codes "sterling" ∷ codes "fraction" ∷ codes "yen" ∷
    codes "florin" ∷ codes "section" ∷ codes "currency" ∷ codes "quotesingle" ∷ codes "quotedblleft" ∷
    codes "guillemotleft" ∷ codes "guilsinglleft" ∷ codes "guilsinglright" ∷ codes "fi" ∷ codes "fl" ∷
    codes "endash" ∷ codes "dagger" ∷ codes "daggerdbl" ∷ codes "periodcentered" ∷ codes "paragraph" ∷
    codes "bullet" ∷ codes "quotesinglbase" ∷ codes "quotedblbase" ∷ codes "quotedblright" ∷ codes "guillemotright" ∷
    codes "ellipsis" ∷ codes "perthousand" ∷ codes "questiondown" ∷ codes "grave" ∷ codes "acute" ∷
    codes "circumflex" ∷ codes "tilde" ∷ codes "macron" ∷ codes "breve" ∷ codes "dotaccent" ∷ codes "dieresis" ∷
    codes "ring" ∷ codes "cedilla" ∷ codes "hungarumlaut" ∷ codes "ogonek" ∷ codes "caron" ∷ codes "emdash" ∷
    codes "AE" ∷ codes "ordfeminine" ∷ codes "Lslash" ∷ codes "Oslash" ∷ codes "OE" ∷ codes "ordmasculine" ∷
    codes "ae" ∷ codes "dotlessi" ∷ codes "lslash" ∷ codes "oslash" ∷ codes "oe" ∷ codes "germandbls" ∷
    codes "onesuperior" ∷ codes "logicalnot" ∷ codes "mu" ∷ codes "trademark" ∷ codes "Eth" ∷ codes "onehalf" ∷
    codes "plusminus" ∷ codes "Thorn" ∷ codes "onequarter" ∷ codes "divide" ∷ codes "brokenbar" ∷ codes "degree" ∷
    codes "thorn" ∷ codes "threequarters" ∷ codes "twosuperior" ∷ codes "registered" ∷ codes "minus" ∷ codes "eth" ∷
    codes "multiply" ∷ codes "threesuperior" ∷ codes "copyright" ∷ codes "Aacute" ∷ codes "Acircumflex" ∷
    codes "Adieresis" ∷ codes "Agrave" ∷ codes "Aring" ∷ codes "Atilde" ∷ codes "Ccedilla" ∷ codes "Eacute" ∷
    codes "Ecircumflex" ∷ codes "Edieresis" ∷ codes "Egrave" ∷ codes "Iacute" ∷ codes "Icircumflex" ∷
    codes "Idieresis" ∷ codes "Igrave" ∷ codes "Ntilde" ∷ codes "Oacute" ∷ codes "Ocircumflex" ∷ codes "Odieresis" ∷
    codes "Ograve" ∷ codes "Otilde" ∷ codes "Scaron" ∷ codes "Uacute" ∷ codes "Ucircumflex" ∷ codes "Udieresis" ∷
    codes "Ugrave" ∷ codes "Yacute" ∷ codes "Ydieresis" ∷ codes "Zcaron" ∷ codes "aacute" ∷ codes "acircumflex" ∷
    codes "adieresis" ∷ codes "agrave" ∷ codes "aring" ∷ codes "atilde" ∷ codes "ccedilla" ∷ codes "eacute" ∷
    codes "ecircumflex" ∷ codes "edieresis" ∷ codes "egrave" ∷ codes "iacute" ∷ codes "icircumflex" ∷
    codes "idieresis" ∷ codes "igrave" ∷ codes "ntilde" ∷ codes "oacute" ∷ codes "ocircumflex" ∷ codes "odieresis" ∷
    codes "ograve" ∷ codes "otilde" ∷ codes "scaron" ∷ codes "uacute" ∷ codes "ucircumflex" ∷ codes "udieresis" ∷
    codes "ugrave" ∷ codes "yacute" ∷ codes "ydieresis" ∷ codes "zcaron" ∷ codes "exclamsmall" ∷
    codes "Hungarumlautsmall" ∷ codes "dollaroldstyle" ∷ codes "dollarsuperior" ∷ codes "ampersandsmall" ∷
    codes "Acutesmall" ∷ codes "parenleftsuperior" ∷ codes "parenrightsuperior" ∷ codes "twodotenleader" ∷
    codes "onedotenleader" ∷ codes "zerooldstyle" ∷ codes "oneoldstyle" ∷ codes "twooldstyle" ∷
    codes "threeoldstyle" ∷ codes "fouroldstyle" ∷ codes "fiveoldstyle" ∷ codes "sixoldstyle" ∷
    codes "sevenoldstyle" ∷ codes "eightoldstyle" ∷ codes "nineoldstyle" ∷ codes "commasuperior" ∷
    codes "threequartersemdash" ∷ codes "periodsuperior" ∷ codes "questionsmall" ∷ codes "asuperior" ∷
    codes "bsuperior" ∷ codes "centsuperior" ∷ codes "dsuperior" ∷ codes "esuperior" ∷ codes "isuperior" ∷
    codes "lsuperior" ∷ codes "msuperior" ∷ codes "nsuperior" ∷ codes "osuperior" ∷ codes "rsuperior" ∷
    codes "ssuperior" ∷ codes "tsuperior" ∷ codes "ff" ∷ codes "ffi" ∷ codes "ffl" ∷ codes "parenleftinferior" ∷
    codes "parenrightinferior" ∷ codes "Circumflexsmall" ∷ codes "hyphensuperior" ∷ codes "Gravesmall" ∷
    codes "Asmall" ∷ codes "Bsmall" ∷ codes "Csmall" ∷ codes "Dsmall" ∷ codes "Esmall" ∷ codes "Fsmall" ∷
    codes "Gsmall" ∷ codes "Hsmall" ∷ codes "Ismall" ∷ codes "Jsmall" ∷ codes "Ksmall" ∷ codes "Lsmall" ∷
    codes "Msmall" ∷ codes "Nsmall" ∷ codes "Osmall" ∷ codes "Psmall" ∷ codes "Qsmall" ∷ codes "Rsmall" ∷
    codes "Ssmall" ∷ codes "Tsmall" ∷ codes "Usmall" ∷ codes "Vsmall" ∷ codes "Wsmall" ∷ codes "Xsmall" ∷
    codes "Ysmall" ∷ codes "Zsmall" ∷ codes "colonmonetary" ∷ codes "onefitted" ∷ codes "rupiah" ∷
    codes "Tildesmall" ∷ codes "exclamdownsmall" ∷ codes "centoldstyle" ∷ codes "Lslashsmall" ∷ codes "Scaronsmall" ∷
    codes "Zcaronsmall" ∷ codes "Dieresissmall" ∷ codes "Brevesmall" ∷ codes "Caronsmall" ∷ codes "Dotaccentsmall" ∷
    codes "Macronsmall" ∷ codes "figuredash" ∷ codes "hypheninferior" ∷ codes "Ogoneksmall" ∷ codes "Ringsmall" ∷
    codes "Cedillasmall" ∷ codes "questiondownsmall" ∷ codes "oneeighth" ∷ codes "threeeighths" ∷
    codes "fiveeighths" ∷ codes "seveneighths" ∷ codes "onethird" ∷ codes "twothirds" ∷ codes "zerosuperior" ∷
    codes "foursuperior" ∷ codes "fivesuperior" ∷ codes "sixsuperior" ∷ codes "sevensuperior" ∷
    codes "eightsuperior" ∷ codes "ninesuperior" ∷ codes "zeroinferior" ∷ codes "oneinferior" ∷ codes "twoinferior" ∷
    codes "threeinferior" ∷ codes "fourinferior" ∷ codes "fiveinferior" ∷ codes "sixinferior" ∷
    codes "seveninferior" ∷ codes "eightinferior" ∷ codes "nineinferior" ∷ codes "centinferior" ∷
    codes "dollarinferior" ∷ codes "periodinferior" ∷ codes "commainferior" ∷ codes "Agravesmall" ∷
    codes "Aacutesmall" ∷ codes "Acircumflexsmall" ∷ codes "Atildesmall" ∷ codes "Adieresissmall" ∷
    codes "Aringsmall" ∷ codes "AEsmall" ∷ codes "Ccedillasmall" ∷ codes "Egravesmall" ∷ codes "Eacutesmall" ∷
    codes "Ecircumflexsmall" ∷ codes "Edieresissmall" ∷ codes "Igravesmall" ∷ codes "Iacutesmall" ∷
    codes "Icircumflexsmall" ∷ codes "Idieresissmall" ∷ codes "Ethsmall" ∷ codes "Ntildesmall" ∷ codes "Ogravesmall" ∷
    codes "Oacutesmall" ∷ codes "Ocircumflexsmall" ∷ codes "Otildesmall" ∷ codes "Odieresissmall" ∷ codes "OEsmall" ∷
    codes "Oslashsmall" ∷ codes "Ugravesmall" ∷ codes "Uacutesmall" ∷ codes "Ucircumflexsmall" ∷
    codes "Udieresissmall" ∷ codes "Yacutesmall" ∷ codes "Thornsmall" ∷ codes "Ydieresissmall" ∷ codes "001.000" ∷
    codes "001.001" ∷ codes "001.002" ∷ codes "001.003" ∷ codes "Black" ∷ codes "Bold" ∷ codes "Book" ∷
    codes "Light" ∷ codes "Medium" ∷ codes "Regular" ∷ codes "Roman" ∷ codes "Semibold" ∷ []

-- the standard string of an SID, if it has one
abbrev pub standard_string : ℕ → Option (List ℕ)
standard_string sid = slice_get standard_strings sid
