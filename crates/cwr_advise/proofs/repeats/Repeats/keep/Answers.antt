use Rattle.std.proofs.Common.{◌≡◌, ◌+◌, ◌++◌, ◌∷◌, [], refl, sym, ap, subst, ◌∙◌, nat_cmp}
use Rattle.std.specs.Prelude.{is_some}
use Rattle.std.specs.BTreeMap.{get}
use Rattle.std.specs.Cmp.Lexicographic.{slice_cmp}
use Rattle.cwr_advise.specs.declared.repeats.Repeats.{Repeats}
use Rattle.cwr_advise.specs.Steps.KeptWorks.{AreKeptOf}
use Rattle.cwr_advise.proofs.lemmas.WorksKept.{copied_some, kept_more, known_more, known_still, none_there, ok_given}
use Rattle.cwr_advise.proofs.repeats.Repeats.keep.Goals as goal
use Rattle.cwr_advise.proofs.repeats.Repeats.keep.Goals.{then-is_none+else-is_err, else-is_none}

pub returns-clause-kept : goal.returns-clause-kept
returns-clause-kept c = λ works h.
    let self = c.args.self.now in
    let found : is_some (get (slice_cmp nat_cmp) self.kept c.args.number) ≡ is_some c.get.result =
    ap is_some (sym c.get.ensures.value) ∙ copied_some c.get.result in
    elim c.if-is_none.branch [
      | then-is_none+else-is_err w ↦ subst (λ (s : Repeats). AreKeptOf
          (record { limit = s.limit; works = s.works + 1; kept = s.kept }) (works ++ (c.args.number, c.args.place) ∷ [])) (sym
          w.self-is)
          (kept_more self (record { limit = self.limit; works = self.works + 1; kept = w.insert.new.self }) works c.args.number
          c.args.place c.requires refl refl
          (λ known. known_more self.kept w.insert.new.self works c.args.number c.args.place known
          (none_there (get (slice_cmp nat_cmp) self.kept c.args.number) (found ∙ w.if-is_none.ensures))
          (ok_given w.insert.result _ (sym w.if-is_err.ensures.value) w.insert.ensures.updates)) h)
      | else-is_none w ↦ subst (λ (s : Repeats). AreKeptOf (record { limit = s.limit; works = s.works + 1; kept = s.kept })
          (works ++ (c.args.number, c.args.place) ∷ [])) (sym w.self-is)
          (kept_more self (record { limit = self.limit; works = self.works + 1; kept = self.kept }) works c.args.number
          c.args.place c.requires refl refl
          (λ known. known_still self.kept works c.args.number c.args.place known (found ∙ w.if-is_none.ensures)) h)
    ]
