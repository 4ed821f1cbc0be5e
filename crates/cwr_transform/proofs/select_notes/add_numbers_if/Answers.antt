use Rattle.std.proofs.Common.{ℕ, List, Option, sym, ap, subst}
use Rattle.std.specs.Prelude.{IfSome, option_map}
use Rattle.std.specs.Str.{bytes_eq}
use Rattle.cwr_devices.proofs.lemmas.Adding.{adds_as, adds_nothing}
use Rattle.cwr_fields.specs.Format.Bytes.{trimmed}
use Rattle.cwr_transform.specs.declared.sought.SoughtNumbers.{SoughtNumbers}
use Rattle.cwr_transform.specs.Format.Lists.{number_in}
use Rattle.cwr_transform.specs.Format.Told.{number_lines, numbers_told, places_with, told_of}
use Rattle.cwr_transform.specs.Steps.TellingLists.{AreAllIn, KnowsNumbers}
use Rattle.cwr_transform.proofs.lemmas.ListsTold.{IsSaid, said_so, told_unsaid, told_unsought}
use Rattle.cwr_transform.proofs.select_notes.add_numbers_if.Goals as goal

pub returns-in-None : goal.returns-in-None
returns-in-None g c = λ values ps say within known.
    adds_as (told_unsought bytes_eq numbers_told values ps
    (subst (λ (o : Option SoughtNumbers). AreAllIn bytes_eq (option_map (λ s. s.listed.now) o) values) c.in-None.is within)) adds_nothing

pub returns-in_default : goal.returns-in_default
returns-in_default g c = λ values ps say within known.
    adds_as (told_unsaid number_in numbers_told values ps (option_map (λ t. t.now) c.args.text) (ap (option_map (λ t. t.now)) c.in_default.is) say)
    adds_nothing

pub returns-in-Some-sought : goal.returns-in-Some-sought
returns-in-Some-sought g c = λ values ps say within known.
    let h : IsSaid number_in bytes_eq values c.in-Some.text.now c.in-Some-sought.sought.listed.now =
    said_so number_in bytes_eq values (option_map (λ t. t.now) c.args.text) c.in-Some.text.now c.in-Some-sought.sought.listed.now
    (ap (option_map (λ t. t.now)) c.in-Some.is) say
    (subst (λ (o : Option SoughtNumbers). AreAllIn bytes_eq (option_map (λ s. s.listed.now) o) values) c.in-Some-sought.is within) in
    let k = subst (λ (o : Option SoughtNumbers). IfSome o (KnowsNumbers ps)) c.in-Some-sought.is known in
    adds_as (sym (ap (λ (o : Option (List (List ℕ))). told_of numbers_told o ps) h.are))
    (c.add_numbers.ensures h.said (λ number. number_lines (trimmed number) (places_with number ps)) h.read h.within k.can k.lines k.told)
