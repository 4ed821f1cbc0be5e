use Rattle.std.proofs.Common.{sym, ap, subst, ◌∙◌}
use Rattle.cwr_files.specs.Format.Files.{put}
use Rattle.cwr_files.specs.Format.Parts.{cells_after, part_name}
use Rattle.cwr_files.specs.Format.Stamps.{created_by}
use Rattle.std.proofs.Common.{ℕ, List, ◌+◌, Option, Some, None}
use Rattle.cwr_files.specs.Steps.NumberedFiles.{FaultIsOfPart, created_of, fault_of, has_stopped, prefix_of}
use Rattle.cwr_files.proofs.lemmas.Counts.{fault_first}
use Rattle.cwr_files.proofs.lemmas.PartsInHand.{asked_last, finished, kept_bytes, of_file, stands_alike, stands_ends, stopped_stands}
use Rattle.cwr_files.proofs.numberings.Numbering.done.Goals as goal

pub returns-in-Ok-clause-named : goal.returns-in-Ok-clause-named
returns-in-Ok-clause-named g c =
    λ texts count failures text h has.
    let it = c.args.self.now in
    let new = c.keep.new.self in
    let contents = g.S.Writer.Write.contents in
    let taken = c.take_back-written.result.1 in
    let made = created_by (cells_after (created_of it) count) text in
    let next = put (part_name (prefix_of it) (count + 1)) (Some made) texts in
    let last = asked_last (has_stopped it) (prefix_of it) it.asked it.open_file (g.S.Store.making c.args.store.now)
    (g.S.Store.held c.args.store.now) (g.S.Store.failures c.args.store.now) texts count failures h c.in-Ok.ensures.kept in
    let cells = sym c.cells.ensures ∙ c.has_cells-is_own.ensures (c.unstamped.ensures.own c.in-Ok.ensures.whole)
    ∙ ap (cells_after (created_of it)) last in
    let whole = ap contents c.unstamped.ensures.writer
    ∙ of_file contents taken.writer text
    (kept_bytes _ _ text (c.take_back-written.ensures.whole (c.unstamped.ensures.whole c.in-Ok.ensures.whole)) has)
    ∙ ap (λ (o : Option (List ℕ)). Some (created_by o text)) cells in
    let r = c.in-Ok.ensures.named texts count failures made
    (stands_ends (has_stopped it) (prefix_of it) it.asked it.open_file (g.S.Store.making c.args.store.now)
    (g.S.Store.held c.args.store.now) (g.S.Store.failures c.args.store.now) texts count failures h) whole in
    stands_alike (has_stopped it) (has_stopped new) (prefix_of it) (prefix_of new) it.asked new.asked None new.open_file
    (g.S.Store.making c.keep.new.store) (g.S.Store.held c.keep.new.store) (g.S.Store.failures c.keep.new.store) next (count + 1) failures
    c.keep.ensures.stopped c.keep.ensures.prefix c.keep.ensures.asked c.keep.ensures.closed
    (finished (has_stopped it) (prefix_of it) it.asked it.open_file (g.S.Store.making c.args.store.now) (g.S.Store.making c.keep.new.store)
    (g.S.Store.held c.args.store.now) (g.S.Store.held c.keep.new.store) (g.S.Store.failures c.args.store.now)
    (g.S.Store.failures c.keep.new.store) texts next count failures h c.in-Ok.ensures.kept r)

pub returns-in-Err-clause-unnamed : goal.returns-in-Err-clause-unnamed
returns-in-Err-clause-unnamed g c =
    λ texts count failures h.
    let it = c.args.self.now in
    let last = c.count_failure-in-Err.new.self in
    stopped_stands (has_stopped last) (prefix_of c.keep.new.self) (prefix_of last) last.asked c.keep.new.self.open_file last.open_file
    (g.S.Store.making c.keep.new.store) (g.S.Store.held c.keep.new.store) (g.S.Store.failures c.keep.new.store) texts count failures
    c.count_failure-in-Err.ensures.stopped c.count_failure-in-Err.ensures.prefix c.count_failure-in-Err.ensures.made c.keep.ensures.closed
    (c.in-Err.ensures.unnamed texts count failures
    (stands_ends (has_stopped it) (prefix_of it) it.asked it.open_file (g.S.Store.making c.args.store.now)
    (g.S.Store.held c.args.store.now) (g.S.Store.failures c.args.store.now) texts count failures h))

pub returns-then-self-clause-unnamed : goal.returns-then-self-clause-unnamed
returns-then-self-clause-unnamed g c =
    λ texts count failures h.
    let it = c.args.self.now in
    let last = c.count_failure.new.self in
    stopped_stands (has_stopped last) (prefix_of c.discard.new.self) (prefix_of last) last.asked c.discard.new.self.open_file last.open_file
    (g.S.Store.making c.discard.new.store) (g.S.Store.held c.discard.new.store) (g.S.Store.failures c.discard.new.store) texts count failures
    c.count_failure.ensures.stopped c.count_failure.ensures.prefix c.count_failure.ensures.made c.discard.ensures.closed
    (c.discard.ensures.drops texts count failures
    (stands_ends (has_stopped it) (prefix_of it) it.asked it.open_file (g.S.Store.making c.args.store.now)
    (g.S.Store.held c.args.store.now) (g.S.Store.failures c.args.store.now) texts count failures h))

pub returns-then-self-clause-fault : goal.returns-then-self-clause-fault
returns-then-self-clause-fault g c =
    fault_first (g.S.Store.failures c.args.store.now) (g.S.Store.failures c.discard.new.store) (fault_of c.args.self.now)
    (fault_of c.count_failure.new.self) c.first_fault-fault.result
    (λ old on f. c.first_fault-fault.ensures old on (subst (FaultIsOfPart old on) (sym c.discard.ensures.fault) f))
    c.discard.ensures.failures c.count_failure.ensures.fault
