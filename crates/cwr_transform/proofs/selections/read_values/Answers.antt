use Rattle.std.proofs.Common.{Bor, List, Option, ℕ, subst, sym}
use Rattle.std.specs.Prelude.{Some, option_map}
use Rattle.cwr_files.specs.Steps.Inputs.{standard_left}
use Rattle.cwr_transform.specs.Steps.Lists.{ReadsList, ReadsSaid}
use Rattle.cwr_transform.proofs.lemmas.SelectionsNamed.{listed_so, said_by}
use Rattle.cwr_transform.proofs.selections.read_values.Goals as goal

pub returns-in-Ok-list_of-clause-listed : goal.returns-in-Ok-list_of-clause-listed
returns-in-Ok-list_of-clause-listed g c =
    subst
    (λ (n : Option (Bor (List ℕ))). ReadsList g.T.PartialEq.eq g.T.Entry.reads (g.S.Store.held c.args.store.now)
    (standard_left g.I.Read.remaining c.args.standard.now) (option_map (λ m. m.now) n) (Some c.in-Ok-list_of.list.values))
    (sym c.in-Some.is)
    (listed_so g.T.PartialEq.eq g.T.Entry.reads (g.S.Store.held c.args.store.now) (standard_left g.I.Read.remaining c.args.standard.now) c.in-Some.name.now
    c.in-Ok.text.items c.in-Ok-list_of.list.values c.in-Ok.ensures.text c.in-Ok-list_of.ensures.says)

pub returns-in-Ok-list_of-clause-said : goal.returns-in-Ok-list_of-clause-said
returns-in-Ok-list_of-clause-said g c =
    subst
    (λ (n : Option (Bor (List ℕ))). ReadsSaid g.T.PartialEq.eq g.T.Entry.reads (g.S.Store.held c.args.store.now)
    (standard_left g.I.Read.remaining c.args.standard.now) (option_map (λ m. m.now) n) (Some c.in-Ok-list_of.list.values)
    (Some c.in-Ok-list_of.list.text.items))
    (sym c.in-Some.is)
    (said_by g.T.PartialEq.eq g.T.Entry.reads (g.S.Store.held c.args.store.now) (standard_left g.I.Read.remaining c.args.standard.now) c.in-Some.name.now
    c.in-Ok.text.items c.in-Ok-list_of.list.values c.in-Ok-list_of.list.text.items c.in-Ok.ensures.text c.in-Ok-list_of.ensures.says
    c.in-Ok-list_of.ensures.text)
