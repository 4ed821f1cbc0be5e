use Rattle.std.proofs.Common.{◌≡◌, List, Option, ℕ, map, sym, ap, subst, ◌∙◌}
use Rattle.std.specs.Prelude.{Ok, Err, IfOk, IfSome, Result}
use Rattle.cwr_files.specs.declared.faults.Fault.{Fault}
use Rattle.cwr_files.specs.declared.faults.Told.{Told}
use Rattle.cwr_files.specs.Format.Faults.{IfErr}
use Rattle.cwr_files.specs.Format.Files.{Turns}
use Rattle.cwr_endings.specs.declared.stops.Stop.{Stop}
use Rattle.cwr_endings.specs.declared.stops.Stop.TheVariants as stops
use Rattle.cwr_endings.specs.Format.Endings.{WritesOut}
use Rattle.cwr_endings.specs.Format.Failures.{FailsToJoin}
use Rattle.cwr_endings.proofs.lemmas.Outs.{settled_untold, turns_so}
use Rattle.cwr_transform.specs.declared.joins.Joined.{Joined}
use Rattle.cwr_transform.specs.Format.Joins.{IsTextOfJoin}
use Rattle.cwr_transform.specs.Steps.Joins.{CountsJoined, JudgesNamed, LeavesNamed, join_faults, keeps_file}
use Rattle.cwr_transform.proofs.lemmas.JoinFails.{join_fails}
use Rattle.cwr_transform.proofs.lemmas.JoinFiles.{join_leaves, status_of_join}
use Rattle.cwr_transform.proofs.joins.join_files.Goals as goal

pub returns-in-Ok-clause-status : goal.returns-in-Ok-clause-status
returns-in-Ok-clause-status g c =
    status_of_join c.args.union.now (g.S.Store.held c.args.store.now) (g.I.Read.remaining c.args.standard)
    (map (λ name. name.now) c.args.names.now) c.in-Ok-Some.joined c.ending.result
    (subst (λ (r : Result (Option (Joined × Option Told)) Fault). IfOk r (λ answer. IfSome answer
    (λ a. JudgesNamed c.args.union.now.limits c.args.union.now.wanted (g.S.Store.held c.args.store.now) (g.I.Read.remaining c.args.standard)
    (map (λ name. name.now) c.args.names.now) a.0))) (c.in-Ok-Some.is ∙ ap Ok c.in-Ok-Some.field-0-is) c.join_named.ensures.judged) c.ending.ensures

pub returns-in-Ok-clause-files : goal.returns-in-Ok-clause-files
returns-in-Ok-clause-files g c =
    λ none.
    let s0 = c.args.store.now in
    let s1 = c.join_named.new.store in
    let joined = c.in-Ok-Some.joined in
    let names : List (List ℕ) = map (λ name. name.now) c.args.names.now in
    let is : List ℕ → Type 0
    = IsTextOfJoin c.args.union.now.limits c.args.union.now.wanted (g.S.Store.held s0) (g.I.Read.remaining c.args.standard) names in
    let judged : JudgesNamed c.args.union.now.limits c.args.union.now.wanted (g.S.Store.held s0) (g.I.Read.remaining c.args.standard) names joined
    = subst (λ (r : Result (Option (Joined × Option Told)) Fault). IfOk r (λ answer. IfSome answer
    (λ a. JudgesNamed c.args.union.now.limits c.args.union.now.wanted (g.S.Store.held s0) (g.I.Read.remaining c.args.standard) names a.0)))
    (c.in-Ok-Some.is ∙ ap Ok c.in-Ok-Some.field-0-is) c.join_named.ensures.judged in
    turns_so (g.S.Store.held s0) (g.S.Store.held s1) _ _
    (λ texts new h. join_leaves c.args.union.now (g.S.Store.failures s0) (g.S.Store.failures s1) is texts new joined.outcome joined.found
    joined.after c.ending.result judged.2 c.ending.ensures h)
    (subst (λ (r : Result (Option (Joined × Option Told)) Fault). Turns (g.S.Store.held s0) (g.S.Store.held s1)
    (LeavesNamed c.args.union.now (g.S.Store.failures s0) (g.S.Store.failures s1) is r)) (c.in-Ok-Some.is ∙ ap Ok c.in-Ok-Some.field-0-is) (c.join_named.ensures.files none))

pub returns-in-Err-put-clause-files : goal.returns-in-Err-put-clause-files
returns-in-Err-put-clause-files g c =
    λ none.
    let s0 = c.args.store.now in
    let s1 = c.join_named.new.store in
    let out : List ℕ = c.args.union.now.out.now in
    let joined = c.in-Ok-Some.joined in
    let names : List (List ℕ) = map (λ name. name.now) c.args.names.now in
    let is : List ℕ → Type 0
    = IsTextOfJoin c.args.union.now.limits c.args.union.now.wanted (g.S.Store.held s0) (g.I.Read.remaining c.args.standard) names in
    let untold : c.in-Err-put.stop ≡ stops.Output
    = subst (λ (r : Result (Unit {0}) Stop). IfErr r (λ stop. stop ≡ stops.Output)) c.in-Err-put.is c.put_joined-lines.ensures in
    turns_so (g.S.Store.held s0) (g.S.Store.held s1) _ _
    (λ texts new h. subst
    (λ (s : Stop). WritesOut out (g.S.Store.failures s0) (g.S.Store.failures s1) is (Err s) texts new) (sym untold)
    (settled_untold out (g.S.Store.failures s0) (join_faults joined.outcome joined.after) (g.S.Store.failures s1) is
    (keeps_file c.args.union.now.wanted.whole joined) texts new h))
    (subst (λ (r : Result (Option (Joined × Option Told)) Fault). Turns (g.S.Store.held s0) (g.S.Store.held s1)
    (LeavesNamed c.args.union.now (g.S.Store.failures s0) (g.S.Store.failures s1) is r)) (c.in-Ok-Some.is ∙ ap Ok c.in-Ok-Some.field-0-is) (c.join_named.ensures.files none))

pub returns-in-Ok-clause-failed : goal.returns-in-Ok-clause-failed
returns-in-Ok-clause-failed g c =
    let s0 = c.args.store.now in
    let s1 = c.join_named.new.store in
    let joined = c.in-Ok-Some.joined in
    join_fails c.args.union.now (g.S.Store.making s0) (g.S.Store.held s0) (g.S.Store.held s1) (g.S.Store.failures s0) (g.S.Store.failures s1)
    joined.outcome joined.found joined.after c.ending.result c.ending.ensures
    (subst (λ (r : Result (Option (Joined × Option Told)) Fault). IfOk r (λ answer. IfSome answer
    (λ a. CountsJoined a.0.outcome a.0.after (g.S.Store.failures s0) (g.S.Store.failures s1))))
    (c.in-Ok-Some.is ∙ ap Ok c.in-Ok-Some.field-0-is) c.join_named.ensures.counted)

pub returns-in-Err-put-clause-failed : goal.returns-in-Err-put-clause-failed
returns-in-Err-put-clause-failed g c =
    let s0 = c.args.store.now in
    let s1 = c.join_named.new.store in
    let untold : c.in-Err-put.stop ≡ stops.Output
    = subst (λ (r : Result (Unit {0}) Stop). IfErr r (λ stop. stop ≡ stops.Output)) c.in-Err-put.is c.put_joined-lines.ensures in
    subst (λ (s : Stop). FailsToJoin c.args.union.now.out (g.S.Store.making s0) (g.S.Store.held s0) (g.S.Store.held s1) (Err s)
    (g.S.Store.failures s0) (g.S.Store.failures s1)) (sym untold) tt
