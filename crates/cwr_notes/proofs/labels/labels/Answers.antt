use Rattle.std.proofs.Common.{sym, ap}
use Rattle.std.specs.Fmt.{digits}
use Rattle.cwr_fields.specs.declared.kinds.Kind.{Kind}
use Rattle.cwr_fields.specs.Format.Layouts.{layout}
use Rattle.cwr_notes.specs.Steps.Labels.{labels_of}
use Rattle.cwr_notes.proofs.labels.labels.Goals as goal

pub returns-in-Hdr : goal.returns-in-Hdr
unfolding digits
returns-in-Hdr c = ap (λ (kind : Kind). labels_of (layout kind)) (sym c.in-Hdr.is)

pub returns-in-Grh : goal.returns-in-Grh
unfolding digits
returns-in-Grh c = ap (λ (kind : Kind). labels_of (layout kind)) (sym c.in-Grh.is)

pub returns-in-Grt : goal.returns-in-Grt
unfolding digits
returns-in-Grt c = ap (λ (kind : Kind). labels_of (layout kind)) (sym c.in-Grt.is)

pub returns-in-Trl : goal.returns-in-Trl
unfolding digits
returns-in-Trl c = ap (λ (kind : Kind). labels_of (layout kind)) (sym c.in-Trl.is)

pub returns-in-Agr : goal.returns-in-Agr
unfolding digits
returns-in-Agr c = ap (λ (kind : Kind). labels_of (layout kind)) (sym c.in-Agr.is)

pub returns-in-Ter : goal.returns-in-Ter
unfolding digits
returns-in-Ter c = ap (λ (kind : Kind). labels_of (layout kind)) (sym c.in-Ter.is)

pub returns-in-Ipa : goal.returns-in-Ipa
unfolding digits
returns-in-Ipa c = ap (λ (kind : Kind). labels_of (layout kind)) (sym c.in-Ipa.is)

pub returns-in-Nwr : goal.returns-in-Nwr
unfolding digits
returns-in-Nwr c = ap (λ (kind : Kind). labels_of (layout kind)) (sym c.in-Nwr.is)

pub returns-in-Rev : goal.returns-in-Rev
unfolding digits
returns-in-Rev c = ap (λ (kind : Kind). labels_of (layout kind)) (sym c.in-Rev.is)

pub returns-in-Spu : goal.returns-in-Spu
unfolding digits
returns-in-Spu c = ap (λ (kind : Kind). labels_of (layout kind)) (sym c.in-Spu.is)

pub returns-in-Opu : goal.returns-in-Opu
unfolding digits
returns-in-Opu c = ap (λ (kind : Kind). labels_of (layout kind)) (sym c.in-Opu.is)

pub returns-in-Spt : goal.returns-in-Spt
unfolding digits
returns-in-Spt c = ap (λ (kind : Kind). labels_of (layout kind)) (sym c.in-Spt.is)

pub returns-in-Swr : goal.returns-in-Swr
unfolding digits
returns-in-Swr c = ap (λ (kind : Kind). labels_of (layout kind)) (sym c.in-Swr.is)

pub returns-in-Owr : goal.returns-in-Owr
unfolding digits
returns-in-Owr c = ap (λ (kind : Kind). labels_of (layout kind)) (sym c.in-Owr.is)

pub returns-in-Swt : goal.returns-in-Swt
unfolding digits
returns-in-Swt c = ap (λ (kind : Kind). labels_of (layout kind)) (sym c.in-Swt.is)

pub returns-in-Pwr : goal.returns-in-Pwr
unfolding digits
returns-in-Pwr c = ap (λ (kind : Kind). labels_of (layout kind)) (sym c.in-Pwr.is)

pub returns-in-Alt : goal.returns-in-Alt
unfolding digits
returns-in-Alt c = ap (λ (kind : Kind). labels_of (layout kind)) (sym c.in-Alt.is)

pub returns-in-Ewt : goal.returns-in-Ewt
unfolding digits
returns-in-Ewt c = ap (λ (kind : Kind). labels_of (layout kind)) (sym c.in-Ewt.is)

pub returns-in-Ver : goal.returns-in-Ver
unfolding digits
returns-in-Ver c = ap (λ (kind : Kind). labels_of (layout kind)) (sym c.in-Ver.is)

pub returns-in-Per : goal.returns-in-Per
unfolding digits
returns-in-Per c = ap (λ (kind : Kind). labels_of (layout kind)) (sym c.in-Per.is)

pub returns-in-Rec : goal.returns-in-Rec
unfolding digits
returns-in-Rec c = ap (λ (kind : Kind). labels_of (layout kind)) (sym c.in-Rec.is)

pub returns-in-Orn : goal.returns-in-Orn
unfolding digits
returns-in-Orn c = ap (λ (kind : Kind). labels_of (layout kind)) (sym c.in-Orn.is)

pub returns-in-Com : goal.returns-in-Com
unfolding digits
returns-in-Com c = ap (λ (kind : Kind). labels_of (layout kind)) (sym c.in-Com.is)

pub returns-in-Ack : goal.returns-in-Ack
unfolding digits
returns-in-Ack c = ap (λ (kind : Kind). labels_of (layout kind)) (sym c.in-Ack.is)

pub returns-in-Msg : goal.returns-in-Msg
unfolding digits
returns-in-Msg c = ap (λ (kind : Kind). labels_of (layout kind)) (sym c.in-Msg.is)

pub returns-in-Opt : goal.returns-in-Opt
unfolding digits
returns-in-Opt c = ap (λ (kind : Kind). labels_of (layout kind)) (sym c.in-Opt.is)

pub returns-in-Owt : goal.returns-in-Owt
unfolding digits
returns-in-Owt c = ap (λ (kind : Kind). labels_of (layout kind)) (sym c.in-Owt.is)

pub returns-in-Npn : goal.returns-in-Npn
unfolding digits
returns-in-Npn c = ap (λ (kind : Kind). labels_of (layout kind)) (sym c.in-Npn.is)

pub returns-in-Npr : goal.returns-in-Npr
unfolding digits
returns-in-Npr c = ap (λ (kind : Kind). labels_of (layout kind)) (sym c.in-Npr.is)

pub returns-in-Nwn : goal.returns-in-Nwn
unfolding digits
returns-in-Nwn c = ap (λ (kind : Kind). labels_of (layout kind)) (sym c.in-Nwn.is)

pub returns-in-Npa : goal.returns-in-Npa
unfolding digits
returns-in-Npa c = ap (λ (kind : Kind). labels_of (layout kind)) (sym c.in-Npa.is)

pub returns-in-Net : goal.returns-in-Net
unfolding digits
returns-in-Net c = ap (λ (kind : Kind). labels_of (layout kind)) (sym c.in-Net.is)

pub returns-in-Now : goal.returns-in-Now
unfolding digits
returns-in-Now c = ap (λ (kind : Kind). labels_of (layout kind)) (sym c.in-Now.is)

pub returns-in-Nct : goal.returns-in-Nct
unfolding digits
returns-in-Nct c = ap (λ (kind : Kind). labels_of (layout kind)) (sym c.in-Nct.is)

pub returns-in-Nvt : goal.returns-in-Nvt
unfolding digits
returns-in-Nvt c = ap (λ (kind : Kind). labels_of (layout kind)) (sym c.in-Nvt.is)

pub returns-in-Nat : goal.returns-in-Nat
unfolding digits
returns-in-Nat c = ap (λ (kind : Kind). labels_of (layout kind)) (sym c.in-Nat.is)

pub returns-in-Ins : goal.returns-in-Ins
unfolding digits
returns-in-Ins c = ap (λ (kind : Kind). labels_of (layout kind)) (sym c.in-Ins.is)

pub returns-in-Ind : goal.returns-in-Ind
unfolding digits
returns-in-Ind c = ap (λ (kind : Kind). labels_of (layout kind)) (sym c.in-Ind.is)

pub returns-in-Ari : goal.returns-in-Ari
unfolding digits
returns-in-Ari c = ap (λ (kind : Kind). labels_of (layout kind)) (sym c.in-Ari.is)

pub returns-in-Xrf : goal.returns-in-Xrf
unfolding digits
returns-in-Xrf c = ap (λ (kind : Kind). labels_of (layout kind)) (sym c.in-Xrf.is)
