use Rattle.std.proofs.Common.{sym, ap, subst, ◌∙◌}
use Rattle.cwr_fields.specs.declared.kinds.Kind.{Kind}
use Rattle.cwr_fields.specs.Format.Layouts.{line_width}
use Rattle.cwr_lines.specs.Format.Records.{IsRecord}
use Rattle.cwr_lines.specs.Steps.Carried.{record_in}
use Rattle.cwr_lines.proofs.kind_cells.surely_carries.Goals as goal

pub hdr_fits-requires-clause-whole : goal.hdr_fits-requires-clause-whole
hdr_fits-requires-clause-whole c = c.requires.whole ∙ ap line_width c.in-Hdr.is

pub returns-in-Hdr : goal.returns-in-Hdr
returns-in-Hdr c = λ yes. subst (λ (k : Kind). IsRecord (record_in k c.args.line.now)) (sym c.in-Hdr.is) (c.hdr_fits.ensures yes)

pub grh_fits-requires-clause-whole : goal.grh_fits-requires-clause-whole
grh_fits-requires-clause-whole c = c.requires.whole ∙ ap line_width c.in-Grh.is

pub returns-in-Grh : goal.returns-in-Grh
returns-in-Grh c = λ yes. subst (λ (k : Kind). IsRecord (record_in k c.args.line.now)) (sym c.in-Grh.is) (c.grh_fits.ensures yes)

pub grt_fits-requires-clause-whole : goal.grt_fits-requires-clause-whole
grt_fits-requires-clause-whole c = c.requires.whole ∙ ap line_width c.in-Grt.is

pub returns-in-Grt : goal.returns-in-Grt
returns-in-Grt c = λ yes. subst (λ (k : Kind). IsRecord (record_in k c.args.line.now)) (sym c.in-Grt.is) (c.grt_fits.ensures yes)

pub trl_fits-requires-clause-whole : goal.trl_fits-requires-clause-whole
trl_fits-requires-clause-whole c = c.requires.whole ∙ ap line_width c.in-Trl.is

pub returns-in-Trl : goal.returns-in-Trl
returns-in-Trl c = λ yes. subst (λ (k : Kind). IsRecord (record_in k c.args.line.now)) (sym c.in-Trl.is) (c.trl_fits.ensures yes)

pub agr_fits-requires-clause-whole : goal.agr_fits-requires-clause-whole
agr_fits-requires-clause-whole c = c.requires.whole ∙ ap line_width c.in-Agr.is

pub returns-in-Agr : goal.returns-in-Agr
returns-in-Agr c = λ yes. subst (λ (k : Kind). IsRecord (record_in k c.args.line.now)) (sym c.in-Agr.is) (c.agr_fits.ensures yes)

pub ter_fits-requires-clause-whole : goal.ter_fits-requires-clause-whole
ter_fits-requires-clause-whole c = c.requires.whole ∙ ap line_width c.in-Ter.is

pub returns-in-Ter : goal.returns-in-Ter
returns-in-Ter c = λ yes. subst (λ (k : Kind). IsRecord (record_in k c.args.line.now)) (sym c.in-Ter.is) (c.ter_fits.ensures yes)

pub ipa_fits-requires-clause-whole : goal.ipa_fits-requires-clause-whole
ipa_fits-requires-clause-whole c = c.requires.whole ∙ ap line_width c.in-Ipa.is

pub returns-in-Ipa : goal.returns-in-Ipa
returns-in-Ipa c = λ yes. subst (λ (k : Kind). IsRecord (record_in k c.args.line.now)) (sym c.in-Ipa.is) (c.ipa_fits.ensures yes)

pub nwr_fits-requires-clause-whole : goal.nwr_fits-requires-clause-whole
nwr_fits-requires-clause-whole c = c.requires.whole ∙ ap line_width c.in-Nwr.is

pub returns-in-Nwr : goal.returns-in-Nwr
returns-in-Nwr c = λ yes. subst (λ (k : Kind). IsRecord (record_in k c.args.line.now)) (sym c.in-Nwr.is) (c.nwr_fits.ensures yes)

pub rev_fits-requires-clause-whole : goal.rev_fits-requires-clause-whole
rev_fits-requires-clause-whole c = c.requires.whole ∙ ap line_width c.in-Rev.is

pub returns-in-Rev : goal.returns-in-Rev
returns-in-Rev c = λ yes. subst (λ (k : Kind). IsRecord (record_in k c.args.line.now)) (sym c.in-Rev.is) (c.rev_fits.ensures yes)

pub spu_fits-requires-clause-whole : goal.spu_fits-requires-clause-whole
spu_fits-requires-clause-whole c = c.requires.whole ∙ ap line_width c.in-Spu.is

pub returns-in-Spu : goal.returns-in-Spu
returns-in-Spu c = λ yes. subst (λ (k : Kind). IsRecord (record_in k c.args.line.now)) (sym c.in-Spu.is) (c.spu_fits.ensures yes)

pub opu_fits-requires-clause-whole : goal.opu_fits-requires-clause-whole
opu_fits-requires-clause-whole c = c.requires.whole ∙ ap line_width c.in-Opu.is

pub returns-in-Opu : goal.returns-in-Opu
returns-in-Opu c = λ yes. subst (λ (k : Kind). IsRecord (record_in k c.args.line.now)) (sym c.in-Opu.is) (c.opu_fits.ensures yes)

pub spt_fits-requires-clause-whole : goal.spt_fits-requires-clause-whole
spt_fits-requires-clause-whole c = c.requires.whole ∙ ap line_width c.in-Spt.is

pub returns-in-Spt : goal.returns-in-Spt
returns-in-Spt c = λ yes. subst (λ (k : Kind). IsRecord (record_in k c.args.line.now)) (sym c.in-Spt.is) (c.spt_fits.ensures yes)

pub swr_fits-requires-clause-whole : goal.swr_fits-requires-clause-whole
swr_fits-requires-clause-whole c = c.requires.whole ∙ ap line_width c.in-Swr.is

pub returns-in-Swr : goal.returns-in-Swr
returns-in-Swr c = λ yes. subst (λ (k : Kind). IsRecord (record_in k c.args.line.now)) (sym c.in-Swr.is) (c.swr_fits.ensures yes)

pub owr_fits-requires-clause-whole : goal.owr_fits-requires-clause-whole
owr_fits-requires-clause-whole c = c.requires.whole ∙ ap line_width c.in-Owr.is

pub returns-in-Owr : goal.returns-in-Owr
returns-in-Owr c = λ yes. subst (λ (k : Kind). IsRecord (record_in k c.args.line.now)) (sym c.in-Owr.is) (c.owr_fits.ensures yes)

pub swt_fits-requires-clause-whole : goal.swt_fits-requires-clause-whole
swt_fits-requires-clause-whole c = c.requires.whole ∙ ap line_width c.in-Swt.is

pub returns-in-Swt : goal.returns-in-Swt
returns-in-Swt c = λ yes. subst (λ (k : Kind). IsRecord (record_in k c.args.line.now)) (sym c.in-Swt.is) (c.swt_fits.ensures yes)

pub pwr_fits-requires-clause-whole : goal.pwr_fits-requires-clause-whole
pwr_fits-requires-clause-whole c = c.requires.whole ∙ ap line_width c.in-Pwr.is

pub returns-in-Pwr : goal.returns-in-Pwr
returns-in-Pwr c = λ yes. subst (λ (k : Kind). IsRecord (record_in k c.args.line.now)) (sym c.in-Pwr.is) (c.pwr_fits.ensures yes)

pub alt_fits-requires-clause-whole : goal.alt_fits-requires-clause-whole
alt_fits-requires-clause-whole c = c.requires.whole ∙ ap line_width c.in-Alt.is

pub returns-in-Alt : goal.returns-in-Alt
returns-in-Alt c = λ yes. subst (λ (k : Kind). IsRecord (record_in k c.args.line.now)) (sym c.in-Alt.is) (c.alt_fits.ensures yes)

pub ewt_fits-requires-clause-whole : goal.ewt_fits-requires-clause-whole
ewt_fits-requires-clause-whole c = c.requires.whole ∙ ap line_width c.in-Ewt.is

pub returns-in-Ewt : goal.returns-in-Ewt
returns-in-Ewt c = λ yes. subst (λ (k : Kind). IsRecord (record_in k c.args.line.now)) (sym c.in-Ewt.is) (c.ewt_fits.ensures yes)

pub ver_fits-requires-clause-whole : goal.ver_fits-requires-clause-whole
ver_fits-requires-clause-whole c = c.requires.whole ∙ ap line_width c.in-Ver.is

pub returns-in-Ver : goal.returns-in-Ver
returns-in-Ver c = λ yes. subst (λ (k : Kind). IsRecord (record_in k c.args.line.now)) (sym c.in-Ver.is) (c.ver_fits.ensures yes)

pub per_fits-requires-clause-whole : goal.per_fits-requires-clause-whole
per_fits-requires-clause-whole c = c.requires.whole ∙ ap line_width c.in-Per.is

pub returns-in-Per : goal.returns-in-Per
returns-in-Per c = λ yes. subst (λ (k : Kind). IsRecord (record_in k c.args.line.now)) (sym c.in-Per.is) (c.per_fits.ensures yes)

pub rec_fits-requires-clause-whole : goal.rec_fits-requires-clause-whole
rec_fits-requires-clause-whole c = c.requires.whole ∙ ap line_width c.in-Rec.is

pub returns-in-Rec : goal.returns-in-Rec
returns-in-Rec c = λ yes. subst (λ (k : Kind). IsRecord (record_in k c.args.line.now)) (sym c.in-Rec.is) (c.rec_fits.ensures yes)

pub orn_fits-requires-clause-whole : goal.orn_fits-requires-clause-whole
orn_fits-requires-clause-whole c = c.requires.whole ∙ ap line_width c.in-Orn.is

pub returns-in-Orn : goal.returns-in-Orn
returns-in-Orn c = λ yes. subst (λ (k : Kind). IsRecord (record_in k c.args.line.now)) (sym c.in-Orn.is) (c.orn_fits.ensures yes)

pub com_fits-requires-clause-whole : goal.com_fits-requires-clause-whole
com_fits-requires-clause-whole c = c.requires.whole ∙ ap line_width c.in-Com.is

pub returns-in-Com : goal.returns-in-Com
returns-in-Com c = λ yes. subst (λ (k : Kind). IsRecord (record_in k c.args.line.now)) (sym c.in-Com.is) (c.com_fits.ensures yes)

pub ack_fits-requires-clause-whole : goal.ack_fits-requires-clause-whole
ack_fits-requires-clause-whole c = c.requires.whole ∙ ap line_width c.in-Ack.is

pub returns-in-Ack : goal.returns-in-Ack
returns-in-Ack c = λ yes. subst (λ (k : Kind). IsRecord (record_in k c.args.line.now)) (sym c.in-Ack.is) (c.ack_fits.ensures yes)

pub msg_fits-requires-clause-whole : goal.msg_fits-requires-clause-whole
msg_fits-requires-clause-whole c = c.requires.whole ∙ ap line_width c.in-Msg.is

pub returns-in-Msg : goal.returns-in-Msg
returns-in-Msg c = λ yes. subst (λ (k : Kind). IsRecord (record_in k c.args.line.now)) (sym c.in-Msg.is) (c.msg_fits.ensures yes)

pub opt_fits-requires-clause-whole : goal.opt_fits-requires-clause-whole
opt_fits-requires-clause-whole c = c.requires.whole ∙ ap line_width c.in-Opt.is

pub returns-in-Opt : goal.returns-in-Opt
returns-in-Opt c = λ yes. subst (λ (k : Kind). IsRecord (record_in k c.args.line.now)) (sym c.in-Opt.is) (c.opt_fits.ensures yes)

pub owt_fits-requires-clause-whole : goal.owt_fits-requires-clause-whole
owt_fits-requires-clause-whole c = c.requires.whole ∙ ap line_width c.in-Owt.is

pub returns-in-Owt : goal.returns-in-Owt
returns-in-Owt c = λ yes. subst (λ (k : Kind). IsRecord (record_in k c.args.line.now)) (sym c.in-Owt.is) (c.owt_fits.ensures yes)

pub npn_fits-requires-clause-whole : goal.npn_fits-requires-clause-whole
npn_fits-requires-clause-whole c = c.requires.whole ∙ ap line_width c.in-Npn.is

pub returns-in-Npn : goal.returns-in-Npn
returns-in-Npn c = λ yes. subst (λ (k : Kind). IsRecord (record_in k c.args.line.now)) (sym c.in-Npn.is) (c.npn_fits.ensures yes)

pub npr_fits-requires-clause-whole : goal.npr_fits-requires-clause-whole
npr_fits-requires-clause-whole c = c.requires.whole ∙ ap line_width c.in-Npr.is

pub returns-in-Npr : goal.returns-in-Npr
returns-in-Npr c = λ yes. subst (λ (k : Kind). IsRecord (record_in k c.args.line.now)) (sym c.in-Npr.is) (c.npr_fits.ensures yes)

pub nwn_fits-requires-clause-whole : goal.nwn_fits-requires-clause-whole
nwn_fits-requires-clause-whole c = c.requires.whole ∙ ap line_width c.in-Nwn.is

pub returns-in-Nwn : goal.returns-in-Nwn
returns-in-Nwn c = λ yes. subst (λ (k : Kind). IsRecord (record_in k c.args.line.now)) (sym c.in-Nwn.is) (c.nwn_fits.ensures yes)

pub npa_fits-requires-clause-whole : goal.npa_fits-requires-clause-whole
npa_fits-requires-clause-whole c = c.requires.whole ∙ ap line_width c.in-Npa.is

pub returns-in-Npa : goal.returns-in-Npa
returns-in-Npa c = λ yes. subst (λ (k : Kind). IsRecord (record_in k c.args.line.now)) (sym c.in-Npa.is) (c.npa_fits.ensures yes)

pub net_fits-requires-clause-whole : goal.net_fits-requires-clause-whole
net_fits-requires-clause-whole c = c.requires.whole ∙ ap line_width c.in-Net.is

pub returns-in-Net : goal.returns-in-Net
returns-in-Net c = λ yes. subst (λ (k : Kind). IsRecord (record_in k c.args.line.now)) (sym c.in-Net.is) (c.net_fits.ensures yes)

pub now_fits-requires-clause-whole : goal.now_fits-requires-clause-whole
now_fits-requires-clause-whole c = c.requires.whole ∙ ap line_width c.in-Now.is

pub returns-in-Now : goal.returns-in-Now
returns-in-Now c = λ yes. subst (λ (k : Kind). IsRecord (record_in k c.args.line.now)) (sym c.in-Now.is) (c.now_fits.ensures yes)

pub nct_fits-requires-clause-whole : goal.nct_fits-requires-clause-whole
nct_fits-requires-clause-whole c = c.requires.whole ∙ ap line_width c.in-Nct.is

pub returns-in-Nct : goal.returns-in-Nct
returns-in-Nct c = λ yes. subst (λ (k : Kind). IsRecord (record_in k c.args.line.now)) (sym c.in-Nct.is) (c.nct_fits.ensures yes)

pub nvt_fits-requires-clause-whole : goal.nvt_fits-requires-clause-whole
nvt_fits-requires-clause-whole c = c.requires.whole ∙ ap line_width c.in-Nvt.is

pub returns-in-Nvt : goal.returns-in-Nvt
returns-in-Nvt c = λ yes. subst (λ (k : Kind). IsRecord (record_in k c.args.line.now)) (sym c.in-Nvt.is) (c.nvt_fits.ensures yes)

pub nat_fits-requires-clause-whole : goal.nat_fits-requires-clause-whole
nat_fits-requires-clause-whole c = c.requires.whole ∙ ap line_width c.in-Nat.is

pub returns-in-Nat : goal.returns-in-Nat
returns-in-Nat c = λ yes. subst (λ (k : Kind). IsRecord (record_in k c.args.line.now)) (sym c.in-Nat.is) (c.nat_fits.ensures yes)

pub ins_fits-requires-clause-whole : goal.ins_fits-requires-clause-whole
ins_fits-requires-clause-whole c = c.requires.whole ∙ ap line_width c.in-Ins.is

pub returns-in-Ins : goal.returns-in-Ins
returns-in-Ins c = λ yes. subst (λ (k : Kind). IsRecord (record_in k c.args.line.now)) (sym c.in-Ins.is) (c.ins_fits.ensures yes)

pub ind_fits-requires-clause-whole : goal.ind_fits-requires-clause-whole
ind_fits-requires-clause-whole c = c.requires.whole ∙ ap line_width c.in-Ind.is

pub returns-in-Ind : goal.returns-in-Ind
returns-in-Ind c = λ yes. subst (λ (k : Kind). IsRecord (record_in k c.args.line.now)) (sym c.in-Ind.is) (c.ind_fits.ensures yes)

pub ari_fits-requires-clause-whole : goal.ari_fits-requires-clause-whole
ari_fits-requires-clause-whole c = c.requires.whole ∙ ap line_width c.in-Ari.is

pub returns-in-Ari : goal.returns-in-Ari
returns-in-Ari c = λ yes. subst (λ (k : Kind). IsRecord (record_in k c.args.line.now)) (sym c.in-Ari.is) (c.ari_fits.ensures yes)

pub xrf_fits-requires-clause-whole : goal.xrf_fits-requires-clause-whole
xrf_fits-requires-clause-whole c = c.requires.whole ∙ ap line_width c.in-Xrf.is

pub returns-in-Xrf : goal.returns-in-Xrf
returns-in-Xrf c = λ yes. subst (λ (k : Kind). IsRecord (record_in k c.args.line.now)) (sym c.in-Xrf.is) (c.xrf_fits.ensures yes)
