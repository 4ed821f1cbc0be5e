use Rattle.std.proofs.Common.{◌≡◌, List, Bool, cond, ◌++◌, ◌∷◌, [], sym, ap, ap₂, ◌∙◌, rules}
use Rattle.std.specs.Prelude.{map}
use Rattle.std.specs.List.{list_any}
use Rattle.cwr_sent.specs.declared.facts.SentFacts.{SentFacts}
use Rattle.cwr_sent.specs.Format.GroupRows.{GroupRows, KeptFor}
use Rattle.cwr_sent.specs.Steps.Links.{counted, is_same}
use Rattle.cwr_sent.proofs.lemmas.ReplacedLinks.{none_counted}
use Rattle.cwr_sent.proofs.groups.SentGroup.keep.Goals as goal

abbrev chosen : Bool → List SentFacts → List KeptFor → List KeptFor → GroupRows
chosen b facts one other = record { facts = facts; answers = cond b one other }

pub returns-then-replace-clause-kept : goal.returns-then-replace-clause-kept
returns-then-replace-clause-kept c =
    let some = sym c.replace.ensures.found ∙ c.if-replace.true in
    ap₂ (λ (f : List SentFacts) (a : List KeptFor). record { facts = f; answers = a }) c.replace.ensures.facts c.replace.ensures.answers
    ∙ ap (λ (b : Bool). chosen b c.args.self.now.facts (map (counted c.args.files.now c.args.t c.args.new.now) c.args.self.now.answers)
    (c.args.self.now.answers ++ record { transaction = c.args.t; answer = c.args.new.now } ∷ [])) (sym some)

pub returns-in_err-append-clause-unchanged : goal.returns-in_err-append-clause-unchanged
returns-in_err-append-clause-unchanged c =
    let none = sym c.replace.ensures.found ∙ c.if-replace.false in
    let same = c.replace.ensures.answers ∙ none_counted c.args.files.now c.args.t c.args.new.now c.args.self.now.answers none in
    let back : c.replace.new.self ≡ c.args.self.now =
    ap₂ (λ (f : List SentFacts) (a : List KeptFor). record { facts = f; answers = a }) c.replace.ensures.facts same in
    let unchanged : c.append.new.self ≡ c.args.self.now = c.in_err-append.ensures.kept ∙ back in
    search rules

pub returns-clause-kept : goal.returns-clause-kept
returns-clause-kept c =
    let none = sym c.replace.ensures.found ∙ c.if-replace.false in
    let same = c.replace.ensures.answers ∙ none_counted c.args.files.now c.args.t c.args.new.now c.args.self.now.answers none in
    let back : c.replace.new.self ≡ c.args.self.now =
    ap₂ (λ (f : List SentFacts) (a : List KeptFor). record { facts = f; answers = a }) c.replace.ensures.facts same in
    c.in_ok-append.ensures.added
    ∙ ap (λ (g : GroupRows). record g { answers = g.answers ++ record { transaction = c.args.t; answer = c.args.new.now } ∷ [] }) back
    ∙ ap (λ (b : Bool). chosen b c.args.self.now.facts (map (counted c.args.files.now c.args.t c.args.new.now) c.args.self.now.answers)
    (c.args.self.now.answers ++ record { transaction = c.args.t; answer = c.args.new.now } ∷ [])) (sym none)
