-- What is left of a run that writes a file, by how it came to its end.
use Rattle.std.proofs.Common.{◌≡◌, ℕ, ◌+◌, ◌≤◌, ◌<◌, Bool, true, false, List, [], ◌++◌, Option, Some, None, refl, ap, subst, ◌∙◌, arith, inl, inr, ltb, ltb-true, ltb-false}
use Rattle.std.specs.Prelude.{Result, Ok, Err}
use Rattle.std.specs.Io.KnownBytes.{Appends, Keeps}
use Rattle.std.proofs.lemmas.Option.{none-some}
use Rattle.cwr_devices.specs.Format.Failures.{most_failures}
use Rattle.cwr_files.specs.declared.faults.Fault.{Fault}
use Rattle.cwr_files.specs.declared.faults.Fault.TheVariants as faults
use Rattle.cwr_files.specs.declared.faults.Name.{Name}
use Rattle.cwr_files.specs.declared.new_files.NewFile.{NewFile}
use Rattle.cwr_files.specs.declared.outputs.Written.{Written}
use Rattle.cwr_files.specs.Format.Faults.{IsUnkept}
use Rattle.cwr_files.specs.Format.Files.{Same, Texts, Turns, counted_on}
use Rattle.cwr_files.specs.Format.NewFiles.{HoldsNew, LeavesAll}
use Rattle.cwr_files.specs.Format.Written.{is_whole, times_failed, writer_in}
use Rattle.cwr_files.specs.Steps.NewFiles.{EndsDropped, EndsKept, HasBegun, HasKeptCount, IsBegun, final_name}
use Rattle.cwr_files.proofs.lemmas.Outs.{holds_new, leaves_dropped, leaves_same}
use Rattle.cwr_endings.specs.declared.endings.Status.{Status}
use Rattle.cwr_endings.specs.declared.endings.Status.TheVariants as statuses
use Rattle.cwr_endings.specs.declared.stops.Stop.{Stop}
use Rattle.cwr_endings.specs.declared.stops.Stop.TheVariants as stops
use Rattle.cwr_endings.specs.Format.Endings.{SettlesOut, WritesOut}

-- texts that turn so turn so too, if that follows
pub turns_so : (held now : Option Texts) (how other : Texts → Texts → Type 0) → ((texts new : Texts) → how texts new → other texts new)
    → Turns held now how → Turns held now other
turns_so None now how other so h = tt
turns_so (Some texts) None how other so h = absurd h
turns_so (Some texts) (Some new) how other so h = so texts new h

-- more calls may have failed
pub leaves_more : (name : List ℕ) (most more failures : ℕ) (texts new : Texts) → (failures ≤ more → failures < most_failures → failures ≤ most)
    → LeavesAll name most failures texts new → LeavesAll name more failures texts new
leaves_more name most more failures texts new few h = record {
  others = h.others;
  all = λ le lt. h.all (few le lt) lt;
}

-- a stop leaves all as it was, unless a second call failed, and where memory was refused, unless one did
pub stops_so : (out : List ℕ) (old now : ℕ) (is : List ℕ → Type 0) (stop : Stop) (texts new : Texts) → LeavesAll out (old + 1) now texts new
    → LeavesAll out old now texts new → WritesOut out old now is (Err stop) texts new
stops_so out old now is stops.Output texts new h k = inr k
stops_so out old now is (stops.Fault (faults.Open name reason)) texts new h k = h
stops_so out old now is (stops.Fault (faults.Read told)) texts new h k = h
stops_so out old now is (stops.Fault (faults.Write told)) texts new h k = h
stops_so out old now is (stops.Fault (faults.Output name reason)) texts new h k = h
stops_so out old now is (stops.Fault (faults.IsInput name)) texts new h k = h
stops_so out old now is (stops.Fault (faults.IsThere name)) texts new h k = h
stops_so out old now is (stops.Fault (faults.IsTwice name)) texts new h k = h
stops_so out old now is (stops.Fault (faults.IsOther name)) texts new h k = k
stops_so out old now is (stops.Fault (faults.IsLate name)) texts new h k = h
stops_so out old now is (stops.Fault faults.Memory) texts new h k = k

-- nothing changed
pub out_same : (out : List ℕ) (old failures : ℕ) (is : List ℕ → Type 0) (stop : Stop) (held now : Option Texts) → Turns held now Same
    → Turns held now (WritesOut out old failures is (Err stop))
out_same out old failures is stop held now h =
    turns_so held now Same (WritesOut out old failures is (Err stop))
    (λ texts new same. stops_so out old failures is stop texts new (leaves_same out (old + 1) failures texts new same)
    (leaves_same out old failures texts new same)) h

-- ---- a file that was begun

-- it was, of what lies under names now
abbrev pub Begins : NewFile → Option (List ℕ) → Option Texts → Option Texts → Type 0
Begins made making held on = Turns held on (λ texts new. IsBegun made making texts new)

-- what follows from what is left of it, and how it was begun
pub ended_so : (made : NewFile) (making : Option (List ℕ)) (held on now : Option Texts) (how : Texts → Texts → Type 0)
    → Begins made making held on
    → ((texts : Texts) → HasBegun made making texts on → (new : Texts) → IsBegun made making texts new → Turns (Some texts) now how)
    → Turns held now how
ended_so made making None on now how b so = tt
ended_so made making (Some texts) None now how b so = absurd b
ended_so made making (Some texts) (Some new) now how b so = so texts b new b

-- it was dropped
pub out_dropped : (made : NewFile) (out : List ℕ) (making : Option (List ℕ)) (most more failures : ℕ) (held on now : Option Texts)
    → final_name made ≡ out → Begins made making held on
    → ((texts : Texts) → HasBegun made making texts on → EndsDropped made most failures texts now)
    → (failures ≤ more → failures < most_failures → failures ≤ most) → Turns held now (LeavesAll out more failures)
out_dropped made out making most more failures held on now e b ended few =
    ended_so made making held on now (LeavesAll out more failures) b
    (λ texts begun new is. turns_so (Some texts) now (LeavesAll out most failures) (LeavesAll out more failures)
    (λ t n h. leaves_more out most more failures t n few h)
    (leaves_dropped made out making most failures texts new now e is (ended texts begun)))

-- it has its name
pub out_kept : (A E : Type 0) (made : NewFile) (out text : List ℕ) (is : List ℕ → Type 0) (making : Option (List ℕ)) (old failures : ℕ) (a : A)
    (held on now : Option Texts) → final_name made ≡ out → Begins made making held on → is text
    → ((texts : Texts) → HasBegun made making texts on → EndsKept {A = A} {E = E} made text old failures (Ok a) texts now)
    → Turns held now (HoldsNew out is)
out_kept A E made out text is making old failures a held on now e b right ended =
    ended_so made making held on now (HoldsNew out is) b
    (λ texts begun new has. holds_new A E made out text is old failures a texts now e right (ended texts begun))

-- ---- what was written

-- what was appended to nothing, and kept, is all that there is
pub kept_whole : (a b c : Option (List ℕ)) (text : List ℕ) → a ≡ Some [] → Appends a b text → Keeps b c → c ≡ Some text
kept_whole None b c text e h k = absurd (none-some [] e)
kept_whole (Some xs) None c text e h k = absurd h
kept_whole (Some xs) (Some ys) None text e h k = absurd k
kept_whole (Some xs) (Some ys) (Some zs) text e h k =
    let empty : xs ≡ [] = cc e in
    ap Some (k ∙ h ∙ ap (λ (l : List ℕ). l ++ text) empty)

-- only what is known has to turn so
pub where_known : (held now : Option Texts) (how : Texts → Texts → Type 0) → ((texts : Texts) → held ≡ Some texts → Turns held now how)
    → Turns held now how
where_known None now how so = tt
where_known (Some texts) now how so = so texts refl

-- then a file that was made is empty
pub empty_so : (held now : Option Texts) (texts : Texts) (P : Type 0) (how : Texts → Texts → Type 0) → held ≡ Some texts
    → Turns held now (λ t n. how t n × P) → P
empty_so None now texts P how e h = absurd (none-some texts e)
empty_so (Some t) None texts P how e h = absurd h
empty_so (Some t) (Some n) texts P how e h = h.1

-- the file that couldn't be given its name
pub unkept_so : (out : List ℕ) (old now : ℕ) (is : List ℕ → Type 0) (name : Name) (fault : Fault) (texts new : Texts) → IsUnkept name fault
    → LeavesAll out (old + 1) now texts new → WritesOut out old now is (Err (stops.Fault fault)) texts new
unkept_so out old now is name (faults.Open of reason) texts new u h = absurd u
unkept_so out old now is name (faults.Read told) texts new u h = absurd u
unkept_so out old now is name (faults.Write told) texts new u h = absurd u
unkept_so out old now is name (faults.Output of reason) texts new u h = h
unkept_so out old now is name (faults.IsInput of) texts new u h = absurd u
unkept_so out old now is name (faults.IsThere of) texts new u h = absurd u
unkept_so out old now is name (faults.IsTwice of) texts new u h = absurd u
unkept_so out old now is name (faults.IsOther of) texts new u h = absurd u
unkept_so out old now is name (faults.IsLate of) texts new u h = absurd u
unkept_so out old now is name faults.Memory texts new u h = absurd u

-- ---- a file that is settled

-- it has its name and holds the text, or it was dropped
pub settles : {F : Type 0} (out : List ℕ) (is : List ℕ → Type 0) (contents : F → Option (List ℕ)) (written : Written F)
    (first : Option (List ℕ)) (made : NewFile) (making : Option (List ℕ)) (on most now : ℕ) (held begun_at after : Option Texts)
    (keeps : Bool) → final_name made ≡ out → Begins made making held begun_at
    → (now ≤ most → now < most_failures → now ≤ counted_on (times_failed written) on)
    → (keeps ≡ true → is_whole written ≡ true → first ≡ Some [] → (text : List ℕ) × (contents (writer_in written) ≡ Some text) × is text)
    → ((texts : Texts) → held ≡ Some texts → first ≡ Some []) → (keeps ≡ true → is_whole written ≡ true)
    → (keeps ≡ true → (texts : Texts) (text : List ℕ) → HasBegun made making texts begun_at → contents (writer_in written) ≡ Some text
    → EndsKept {A = Unit {0}} {E = Fault} made text on now (Ok tt) texts after)
    → (keeps ≡ false → (texts : Texts) → HasBegun made making texts begun_at
    → EndsDropped made (counted_on (times_failed written) on) now texts after)
    → Turns held after (SettlesOut out most now is keeps)
settles out is contents written first made making on most now held begun_at after true named begun few right empty whole kept dropped =
    where_known held after _
    (λ texts known. let text = right refl (whole refl) (empty texts known) in
    out_kept (Unit {0}) Fault made out text.0 is making on now tt held begun_at after named begun text.2
    (λ t b. kept refl t text.0 b text.1))
settles out is contents written first made making on most now held begun_at after false named begun few right empty whole kept dropped =
    out_dropped made out making (counted_on (times_failed written) on) most now held begun_at after named begun (dropped refl) few

-- more calls may have failed
pub leaves_fewer : (out : List ℕ) (old more now : ℕ) (texts new : Texts) → LeavesAll out (old + more) now texts new
    → LeavesAll out old now texts new
leaves_fewer out old more now texts new h = leaves_more out (old + more) old now texts new (λ le lt. omega (arith, le)) h

-- where it isn't told how the run ended
pub settled_untold : (out : List ℕ) (old more now : ℕ) (is : List ℕ → Type 0) (keeps : Bool) (texts new : Texts)
    → SettlesOut out (old + more) now is keeps texts new → WritesOut out old now is (Err stops.Output) texts new
settled_untold out old more now is true texts new h = inl h
settled_untold out old more now is false texts new h = inr (leaves_fewer out old more now texts new h)

-- ---- where calls failed before

-- fewer had
few_since : (before old most now : ℕ) → HasKeptCount before old → now ≤ before + most → now < most_failures → now ≤ old + most
few_since before old most now kept le lt = by (ltb old most_failures) refl where
  by : (b : Bool) → ltb old most_failures ≡ b → now ≤ old + most
  by true e = let less = kept (ltb-true old most_failures e) in omega (arith, less, le)
  by false e = let more = ltb-false old most_failures e in omega (arith, more, lt)

pub leaves_since : (out : List ℕ) (before old most now : ℕ) (texts new : Texts) → HasKeptCount before old
    → LeavesAll out (old + most) now texts new → LeavesAll out (before + most) now texts new
leaves_since out before old most now texts new kept h =
    leaves_more out (old + most) (before + most) now texts new (λ le lt. few_since before old most now kept le lt) h

pub settles_since : (out : List ℕ) (before old most now : ℕ) (is : List ℕ → Type 0) (keeps : Bool) (texts new : Texts)
    → HasKeptCount before old → SettlesOut out (old + most) now is keeps texts new → SettlesOut out (before + most) now is keeps texts new
settles_since out before old most now is true texts new kept h = h
settles_since out before old most now is false texts new kept h = leaves_since out before old most now texts new kept h

leaves_so : (out : List ℕ) (before old now : ℕ) (texts new : Texts) → HasKeptCount before old → LeavesAll out old now texts new
    → LeavesAll out before now texts new
leaves_so out before old now texts new kept h =
    leaves_more out old before now texts new (λ le lt. omega (arith, few_since before old 0 now kept (omega (arith, le)) lt)) h

pub writes_since : (out : List ℕ) (before old now : ℕ) (is : List ℕ → Type 0) (ending : Result Status Stop) (texts new : Texts)
    → HasKeptCount before old → WritesOut out old now is ending texts new → WritesOut out before now is ending texts new
writes_since out before old now is (Ok statuses.Good) texts new kept h = h
writes_since out before old now is (Ok statuses.Refused) texts new kept h = leaves_so out before old now texts new kept h
writes_since out before old now is (Ok statuses.CommandLine) texts new kept h = leaves_so out before old now texts new kept h
writes_since out before old now is (Ok statuses.Fault) texts new kept h = leaves_so out before old now texts new kept h
writes_since out before old now is (Err stops.Output) texts new kept h =
    elim h [
      | inl k ↦ inl k
      | inr k ↦ inr (leaves_so out before old now texts new kept k)
    ]
writes_since out before old now is (Err (stops.Fault (faults.Open name reason))) texts new kept h =
    leaves_since out before old 1 now texts new kept h
writes_since out before old now is (Err (stops.Fault (faults.Read told))) texts new kept h =
    leaves_since out before old 1 now texts new kept h
writes_since out before old now is (Err (stops.Fault (faults.Write told))) texts new kept h =
    leaves_since out before old 1 now texts new kept h
writes_since out before old now is (Err (stops.Fault (faults.Output name reason))) texts new kept h =
    leaves_since out before old 1 now texts new kept h
writes_since out before old now is (Err (stops.Fault (faults.IsInput name))) texts new kept h =
    leaves_since out before old 1 now texts new kept h
writes_since out before old now is (Err (stops.Fault (faults.IsThere name))) texts new kept h =
    leaves_since out before old 1 now texts new kept h
writes_since out before old now is (Err (stops.Fault (faults.IsTwice name))) texts new kept h =
    leaves_since out before old 1 now texts new kept h
writes_since out before old now is (Err (stops.Fault (faults.IsOther name))) texts new kept h = leaves_so out before old now texts new kept h
writes_since out before old now is (Err (stops.Fault (faults.IsLate name))) texts new kept h =
    leaves_since out before old 1 now texts new kept h
writes_since out before old now is (Err (stops.Fault faults.Memory)) texts new kept h = leaves_so out before old now texts new kept h

-- ---- where what lies under names stayed

pub stays : (held now : Option Texts) → now ≡ held → Turns held now Same
stays None now e = tt
stays (Some texts) None e = absurd (none-some texts e)
stays (Some texts) (Some new) e = λ n. let same : new ≡ texts = cc e in ap (λ (t : Texts). t n) same

-- so a run writes that begins where another one did nothing but count
pub writes_on : (held on now : Option Texts) (how : Texts → Texts → Type 0) → on ≡ held → Turns on now how → Turns held now how
writes_on held on now how e h = subst (λ (o : Option Texts). Turns o now how) e h

-- ---- where the text is more than that

holds_as : (out : List ℕ) (is other : List ℕ → Type 0) (texts new : Texts) → ((text : List ℕ) → is text → other text)
    → HoldsNew out is texts new → HoldsNew out other texts new
holds_as out is other texts new so h = (h.0, so h.0 h.1, h.2)

pub writes_as : (out : List ℕ) (old now : ℕ) (is other : List ℕ → Type 0) (ending : Result Status Stop) (texts new : Texts)
    → ((text : List ℕ) → is text → other text) → WritesOut out old now is ending texts new → WritesOut out old now other ending texts new
writes_as out old now is other (Ok statuses.Good) texts new so h = holds_as out is other texts new so h
writes_as out old now is other (Ok statuses.Refused) texts new so h = h
writes_as out old now is other (Ok statuses.CommandLine) texts new so h = h
writes_as out old now is other (Ok statuses.Fault) texts new so h = h
writes_as out old now is other (Err stops.Output) texts new so h =
    elim h [
      | inl k ↦ inl (holds_as out is other texts new so k)
      | inr k ↦ inr k
    ]
writes_as out old now is other (Err (stops.Fault (faults.Open name reason))) texts new so h = h
writes_as out old now is other (Err (stops.Fault (faults.Read told))) texts new so h = h
writes_as out old now is other (Err (stops.Fault (faults.Write told))) texts new so h = h
writes_as out old now is other (Err (stops.Fault (faults.Output name reason))) texts new so h = h
writes_as out old now is other (Err (stops.Fault (faults.IsInput name))) texts new so h = h
writes_as out old now is other (Err (stops.Fault (faults.IsThere name))) texts new so h = h
writes_as out old now is other (Err (stops.Fault (faults.IsTwice name))) texts new so h = h
writes_as out old now is other (Err (stops.Fault (faults.IsOther name))) texts new so h = h
writes_as out old now is other (Err (stops.Fault (faults.IsLate name))) texts new so h = h
writes_as out old now is other (Err (stops.Fault faults.Memory)) texts new so h = h

pub settles_as : (out : List ℕ) (most now : ℕ) (is other : List ℕ → Type 0) (keeps : Bool) (texts new : Texts)
    → ((text : List ℕ) → is text → other text) → SettlesOut out most now is keeps texts new → SettlesOut out most now other keeps texts new
settles_as out most now is other true texts new so h = holds_as out is other texts new so h
settles_as out most now is other false texts new so h = h
