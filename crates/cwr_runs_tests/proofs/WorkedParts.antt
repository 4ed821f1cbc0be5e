-- Parts that are created at another moment, on a worked HDR.
use Rattle.std.proofs.Common.{◌≡◌, ℕ, List, [], ◌++◌, refl}
use Rattle.std.specs.Prelude.{codes}
use Rattle.cwr_files.specs.Format.Stamps.{with_created}

-- HDR up to its creation date, and from behind its creation time on, with what may come then
abbrev front : List ℕ
front = codes "HDRPB123456789MUSIC HOUSE                                  01.10"

abbrev rest : List ℕ
rest = codes "20240103               \r\nGRHACK0000102.10"

-- the date and the time are those of the cells, and nothing else is another
of_another_moment : with_created (codes "20240229235958") (front ++ codes "20240102101500" ++ rest) ≡ front ++ codes "20240229235958" ++ rest
of_another_moment = refl

-- so it is of as much of HDR as there is
of_no_more : with_created (codes "20240229235958") (front ++ codes "20240102101") ≡ front ++ codes "20240229235"
of_no_more = refl

of_less : with_created (codes "20240229235958") front ≡ front
of_less = refl
