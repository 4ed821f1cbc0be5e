use Rattle.std.proofs.Common.{◌≡◌, Bool, List, ℕ, Option, ap, subst, sym}
use Rattle.std.specs.Prelude.{IfOk, IfSome}
use Rattle.std.specs.Io.KnownBytes.{IsAtEnd}
use Rattle.cwr_files.specs.Steps.Inputs.{remaining_of}
use Rattle.cwr_devices.specs.Steps.Sources.{ahead_of}
use Rattle.cwr_digests.specs.Format.Digests.{HasBytes}
use Rattle.cwr_endings.proofs.lemmas.StatusesOnTexts.{from_source}
use Rattle.cwr_summaries.specs.declared.summaries.Found.{Found}
use Rattle.cwr_summaries.specs.Format.Summed.{lines_of_summing}
use Rattle.cwr_summaries.specs.Steps.Rows.{IsFound}
use Rattle.cwr_summaries.proofs.lemmas.Counted.{ok_map}
use Rattle.cwr_summaries.proofs.lemmas.Ends.{bytes_known, found_bytes}
use Rattle.cwr_summaries.proofs.lemmas.Judged.{counted_at_store, found_so}
use Rattle.cwr_summaries.proofs.summaries.read_whole.Goals as goal

pub returns-clause-bytes : goal.returns-clause-bytes
returns-clause-bytes g c =
    let left = remaining_of g.S.Reader.Read.remaining g.I.Read.remaining in
    let mid = c.judge-judged.new.reader in
    let last = c.read_on-rest.new.reader in
    let digests = c.args.summing.now.digests in
    found_bytes digests (left c.args.input) c.judge-judged.result.1 c.read_on-rest.result c.end-input.result.1 c.end-input.result.2 _
    c.found_of-found.result c.found_of-found.ensures.judged
    (ok_map (λ (f : Found). (f.summed ≡ c.judge-judged.new.lines) × (f.bytes ≡ c.end-input.result.1) × (f.digest ≡ c.end-input.result.2))
    (λ f. (f.bytes ≡ c.end-input.result.1) × (f.digest ≡ c.end-input.result.2)) c.found_of-found.result (λ found kept. (kept.1, kept.2))
    c.found_of-found.ensures.kept) c.read_on-rest.ensures.end
    (λ end. subst (λ (w : Option (List ℕ)). HasBytes digests w c.end-input.result.1 c.end-input.result.2) c.requires.whole
    (bytes_known digests g.B.Whole.whole (ahead_of mid) (left mid.inner.inner) mid.inner.taken.text (ahead_of last) (left last.inner.inner)
    last.inner.taken.text c.end-input.result.1 c.end-input.result.2 mid.inner.read end last.inner.read
    (λ none. subst (λ (b : Bool). HasBytes b g.B.Whole.whole c.end-input.result.1 c.end-input.result.2) c.requires.asked
    (c.end-input.ensures.bytes (subst (λ d. IsAtEnd (left d.inner)) (sym c.end.ensures.reader) none)))))

pub returns-clause-found : goal.returns-clause-found
returns-clause-found g c =
    let left = remaining_of g.S.Reader.Read.remaining g.I.Read.remaining in
    let limits = c.args.summing.now.limits in
    let result = c.found_of-found.result in
    subst (λ (known : Option (List ℕ)). IfOk result (λ found. IfSome known (λ text. IsFound limits text found)))
    (ap left c.new-digested.ensures.inner)
    (from_source (λ (known : Option (List ℕ)). IfOk result (λ found. IfSome known (λ text. IsFound limits text found))) (λ d. left d.inner)
    c.new-digested.result c.new-reader.result.inner _ c.new-reader.ensures.inner c.new-reader.ensures.ahead
    (found_so _ limits _ _ c.judge-judged.new.lines c.judge-judged.result.1 c.read_on-rest.result result (λ given here. here.1)
    (c.judge-judged.ensures.stands lines_of_summing c.new-summed.ensures.stands) c.read_on-rest.ensures.rest c.found_of-found.ensures.judged
    (ok_map (λ (f : Found). (f.summed ≡ c.judge-judged.new.lines) × (f.bytes ≡ c.end-input.result.1) × (f.digest ≡ c.end-input.result.2))
    (λ f. f.summed ≡ c.judge-judged.new.lines) result (λ found kept. kept.0) c.found_of-found.ensures.kept)))

pub returns-clause-failures : goal.returns-clause-failures
returns-clause-failures g c =
    counted_at_store c.judge-judged.result.1 c.read_on-rest.result c.found_of-found.result _ _ _ _ _ c.new-reader.ensures.failures
    c.judge-judged.ensures.failures c.read_on-rest.ensures.failures c.found_of-found.ensures.judged c.end.ensures.failures
