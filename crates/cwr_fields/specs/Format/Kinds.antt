-- The kinds of records, and the three bytes that name each.
use Rattle.std.specs.Prelude.{ℕ, Bool, true, false, List, [], ◌∷◌, codes, Option, find}
use Rattle.std.specs.Str.{bytes_eq}
use Rattle.cwr_fields.specs.declared.kinds.Kind.{Kind}
use Rattle.cwr_fields.specs.declared.kinds.Kind.TheVariants.{Hdr, Grh, Grt, Trl, Agr, Ter, Ipa, Nwr, Rev, Spu, Opu, Spt, Swr, Owr}
use Rattle.cwr_fields.specs.declared.kinds.Kind.TheVariants.{Swt, Pwr, Alt, Ewt, Ver, Per, Rec, Orn, Com, Ack, Msg, Opt, Owt, Npn}
use Rattle.cwr_fields.specs.declared.kinds.Kind.TheVariants.{Npr, Nwn, Npa, Net, Now, Nct, Nvt, Nat, Ins, Ind, Ari, Xrf}

-- every kind
abbrev pub all_kinds : List Kind
all_kinds =
    Hdr ∷ Grh ∷ Grt ∷ Trl ∷ Agr ∷ Ter ∷ Ipa ∷ Nwr ∷ Rev ∷ Spu ∷ Opu ∷ Spt ∷ Swr ∷ Owr ∷ Swt ∷ Pwr ∷ Alt ∷ Ewt ∷ Ver ∷ Per ∷ Rec
    ∷ Orn ∷ Com ∷ Ack ∷ Msg ∷ Opt ∷ Owt ∷ Npn ∷ Npr ∷ Nwn ∷ Npa ∷ Net ∷ Now ∷ Nct ∷ Nvt ∷ Nat ∷ Ins ∷ Ind ∷ Ari ∷ Xrf ∷ []

-- the record type that a line of the kind begins with
abbrev pub letters : Kind → List ℕ
letters Hdr = codes "HDR"
letters Grh = codes "GRH"
letters Grt = codes "GRT"
letters Trl = codes "TRL"
letters Agr = codes "AGR"
letters Ter = codes "TER"
letters Ipa = codes "IPA"
letters Nwr = codes "NWR"
letters Rev = codes "REV"
letters Spu = codes "SPU"
letters Opu = codes "OPU"
letters Spt = codes "SPT"
letters Swr = codes "SWR"
letters Owr = codes "OWR"
letters Swt = codes "SWT"
letters Pwr = codes "PWR"
letters Alt = codes "ALT"
letters Ewt = codes "EWT"
letters Ver = codes "VER"
letters Per = codes "PER"
letters Rec = codes "REC"
letters Orn = codes "ORN"
letters Com = codes "COM"
letters Ack = codes "ACK"
letters Msg = codes "MSG"
letters Opt = codes "OPT"
letters Owt = codes "OWT"
letters Npn = codes "NPN"
letters Npr = codes "NPR"
letters Nwn = codes "NWN"
letters Npa = codes "NPA"
letters Net = codes "NET"
letters Now = codes "NOW"
letters Nct = codes "NCT"
letters Nvt = codes "NVT"
letters Nat = codes "NAT"
letters Ins = codes "INS"
letters Ind = codes "IND"
letters Ari = codes "ARI"
letters Xrf = codes "XRF"

-- the kind that three bytes name
abbrev pub kind_of : List ℕ → Option Kind
kind_of text = find (λ kind. bytes_eq (letters kind) text) all_kinds

-- records of the kind stand in transactions
abbrev pub is_in_transaction : Kind → Bool
is_in_transaction Hdr = false
is_in_transaction Grh = false
is_in_transaction Grt = false
is_in_transaction Trl = false
is_in_transaction this_kind = true

-- records of the kind are carried as text: they may stand anywhere after the header of an agreement or a work
abbrev pub is_carried : Kind → Bool
is_carried Opt = true
is_carried Owt = true
is_carried Npn = true
is_carried Npr = true
is_carried Nwn = true
is_carried Npa = true
is_carried Net = true
is_carried Now = true
is_carried Nct = true
is_carried Nvt = true
is_carried Nat = true
is_carried Ins = true
is_carried Ind = true
is_carried Ari = true
is_carried Xrf = true
is_carried this_kind = false
