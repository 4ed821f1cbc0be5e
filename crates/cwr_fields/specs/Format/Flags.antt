-- What a flag's cell holds, and that the flags meet the laws of cells.
use Rattle.std.proofs.Common.{◌≡◌, refl, sym, ap, ◌∙◌, ℕ, List, [], ◌∷◌, length, arith}
use Rattle.std.specs.Prelude.{codes, ◌==◌, if◌then◌else◌}
use Rattle.cwr_fields.specs.declared.cell_types.CellType.TheVariants as types
use Rattle.cwr_fields.specs.declared.flags.Flag.{Flag}
use Rattle.cwr_fields.specs.declared.flags.Flag.TheVariants.{Yes, No, Unknown, Blank}
use Rattle.cwr_fields.specs.Format.Cells.{Allows}

-- the text of a flag
abbrev pub flag_text : Flag → List ℕ
flag_text Yes = codes "Y"
flag_text No = codes "N"
flag_text Unknown = codes "U"
flag_text Blank = codes " "

pub flag_width : (x : Flag) → length (flag_text x) ≡ 1
flag_width Yes = refl
flag_width No = refl
flag_width Unknown = refl
flag_width Blank = refl

pub flag_fits : (x : Flag) → Allows types.Flag (flag_text x)
flag_fits Yes = (0, (omega arith, refl))
flag_fits No = (1, (omega arith, refl))
flag_fits Unknown = (2, (omega arith, refl))
flag_fits Blank = (3, (omega arith, refl))

flag_of : List ℕ → Flag
flag_of [] = Blank
flag_of (b ∷ rest) = if b == 89 then Yes else (if b == 78 then No else (if b == 85 then Unknown else Blank))

flag_of-text : (x : Flag) → flag_of (flag_text x) ≡ x
unfolding flag_of
flag_of-text Yes = refl
flag_of-text No = refl
flag_of-text Unknown = refl
flag_of-text Blank = refl

pub flag_equal : (x y : Flag) → flag_text x ≡ flag_text y → x ≡ y
flag_equal x y e = sym (flag_of-text x) ∙ ap flag_of e ∙ flag_of-text y
