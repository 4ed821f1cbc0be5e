use Rattle.std.proofs.Common.{◌≡◌, ℕ, ◌-◌, List, length, drop, refl, ap, ◌∙◌, arith}
use Rattle.cwr_decode.proofs.lemmas.LastHeld.{filled_by, holds_less, length_end}
use Rattle.cwr_decode.proofs.last_bytes.LastBytes.shorten.Goals as goal

pub returns-clause-held : goal.returns-clause-held
returns-clause-held c = λ read h.
    let now = c.args.self.now.held.items in
    let end : c.line_end-end.result.items ≡ drop (length now - 1025) now =
    c.line_end-end.ensures ∙ ap (λ (l : List ℕ). drop (length l - 1025) l) c.as_slice.ensures.value in
    let held : c.try_extend_from_slice-fits.new.self.items ≡ drop (length now - 1025) now =
    filled_by c.try_extend_from_slice-fits.result c.truncate.new.self.items c.try_extend_from_slice-fits.new.self.items
    c.as_slice-2.result.now c.truncate.ensures.items
    (omega (arith, ap length c.as_slice-2.ensures.value, length_end now c.line_end-end.result.items 1025 end c.requires))
    c.try_extend_from_slice-fits.ensures.variant.1 c.try_extend_from_slice-fits.ensures.ok
    ∙ c.as_slice-2.ensures.value ∙ end in
    holds_less read c.args.self.now _ (length now - 1025) h held
    (omega (arith, length_end now c.try_extend_from_slice-fits.new.self.items 1025 held c.requires)) refl
