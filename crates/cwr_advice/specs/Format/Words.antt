-- The rules of advice in words.
use Rattle.std.specs.Prelude.{ℕ, List, codes}
use Rattle.cwr_advice.specs.declared.rules.AdviceRule.{AdviceRule}
use Rattle.cwr_advice.specs.declared.rules.AdviceRule.TheVariants.{A1a, A1b, A2a, A2b, A2c, A2d, A2e, A2f, A2g, A2h, A3a, A3b}
use Rattle.cwr_advice.specs.declared.rules.AdviceRule.TheVariants.{A3c, A3d, A3e, A4a, A4b, A4c, A4d, A5a, A6a, A6b, A6c, A7a}
use Rattle.cwr_advice.specs.declared.rules.AdviceRule.TheVariants.{A8a, A8b, A8c, A8d, A8e, A9a, A9b, A9c}

-- the name of a rule
abbrev pub rule_text : AdviceRule → List ℕ
rule_text A1a = codes "A1a"
rule_text A1b = codes "A1b"
rule_text A2a = codes "A2a"
rule_text A2b = codes "A2b"
rule_text A2c = codes "A2c"
rule_text A2d = codes "A2d"
rule_text A2e = codes "A2e"
rule_text A2f = codes "A2f"
rule_text A2g = codes "A2g"
rule_text A2h = codes "A2h"
rule_text A3a = codes "A3a"
rule_text A3b = codes "A3b"
rule_text A3c = codes "A3c"
rule_text A3d = codes "A3d"
rule_text A3e = codes "A3e"
rule_text A4a = codes "A4a"
rule_text A4b = codes "A4b"
rule_text A4c = codes "A4c"
rule_text A4d = codes "A4d"
rule_text A5a = codes "A5a"
rule_text A6a = codes "A6a"
rule_text A6b = codes "A6b"
rule_text A6c = codes "A6c"
rule_text A7a = codes "A7a"
rule_text A8a = codes "A8a"
rule_text A8b = codes "A8b"
rule_text A8c = codes "A8c"
rule_text A8d = codes "A8d"
rule_text A8e = codes "A8e"
rule_text A9a = codes "A9a"
rule_text A9b = codes "A9b"
rule_text A9c = codes "A9c"

-- what is wrong where it is broken, and what to do
abbrev pub advice_words : AdviceRule → List ℕ
advice_words A1a =
    codes
    "with this one more than 100 % of a right is collected in this territory: the collection shares of SPT and SWT add up to at most 100"
advice_words A1b = codes "this territory stands twice for one publisher or writer: leave one of them out"
advice_words A2a =
    codes
    "this chain of publishers begins with an administrator or a sub-publisher: put the original publisher (type E) before it"
advice_words A2b = codes "publishers (SPU) own shares of this work, and no SPT says where they collect: add the SPT records"
advice_words A2c = codes "no PWR says which publisher stands for this writer: add one after SWR"
advice_words A2d = codes "this writer owns shares, and no SWT says where they are collected: add one after SWR, or mend its record type where it is there"
advice_words A2e =
    codes "this writer owns nothing, and no SWT says that something is collected: fill in the shares or add SWT, or write OWR; if its last name is digits, it is an SWT that is mistyped"
advice_words A2f =
    codes "this one owns shares and has no IPI name number, by which societies know whom they pay: look it up and fill it in"
advice_words A2g = codes "a share in this right is owned, and no society is named for it: fill in its number, as 010"
advice_words A2h =
    codes "this one names another writer than the SWR or OWR before it: mend the number, or put the record after its writer"
advice_words A3a = codes "a publisher owns more than half of the performing right: most societies take at most 50 %"
advice_words A3b = codes "the writers own less than half of the performing right together: most societies ask for 50 % or more"
advice_words A3c =
    codes
    "no share of the performing right is filled in: fill in what writers and publishers own, or 00000 where they own nothing"
advice_words A3d =
    codes
    "no share of the mechanical right is filled in: fill in what writers and publishers own, or 00000 where they own nothing"
advice_words A3e =
    codes
    "no share of the synchronisation right is filled in: fill in what writers and publishers own, or 00000 where they own nothing"
advice_words A4a =
    codes "this is no IPI name number: it has eleven digits, of which the last two check the others; look it up again"
advice_words A4b =
    codes "this is no IPI base number: it is I, nine digits and a check digit, with hyphens between; eleven digits are a name number; look it up again"
advice_words A4c = codes "this is no ISRC: it has two letters, three letters or digits and seven digits, without hyphens"
advice_words A4d =
    codes "this is no EAN or UPC: it has at most 13 digits, of which the last one checks the others; look it up again"
advice_words A5a =
    codes
    "this work number stands in a work before: a submitter gives each work a number of its own; mend it, or leave one of the works out"
advice_words A6a =
    codes "the work has a composite type, and no COM names a work that is in it: add the COM records, or leave the type blank"
advice_words A6b = codes "COM names a work that is in this one, whose composite type is blank: fill in the type, or leave COM out"
advice_words A6c = codes "the work is a version (MOD), and no VER names its original: add a VER record, or write ORI"
advice_words A7a =
    codes
    "this text goes on into the next cell: blanks were lost in the line, and what follows stands too far to the left; fill up the cells"
advice_words A8a = codes "this is no number of a society: it has three digits, as 010"
advice_words A8b =
    codes
    "this is no number of a territory: those of countries are 0001 to 0999, those of groups begin with 21, as 2136 for the world"
advice_words A8c = codes "this is no code of a language: it has two letters, as EN"
advice_words A8d = codes "the duration is zero: fill it in, or leave it blank"
advice_words A8e =
    codes "this date is after the transmission date in HDR, and what it tells of has happened: mend it, or leave it blank"
advice_words A9a =
    codes
    "this text is in UTF-8, and HDR does not say so, or the other way: write UTF-8 in the character set of HDR, or mend the text"
advice_words A9b = codes "letters of this text were lost in a conversion: take it from an older file"
advice_words A9c = codes "HTML stands in the text: write the character itself, and look whether the cells behind were moved"
