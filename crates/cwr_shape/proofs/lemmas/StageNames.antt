-- The stage that the table comes to is the one that the symbols name.
use Rattle.std.proofs.Common.{◌≡◌, Bool, true, false, cond, not, ◌&&◌, ◌||◌, List, [], ◌∷◌, ◌++◌, Option, Some, None, refl, sym}
use Rattle.std.proofs.Common.{ap, subst, ◌∙◌, true≢false, append_assoc, append-nil}
use Rattle.std.specs.List.{list_all}
use Rattle.std.proofs.lemmas.Bool.{and_parts}
use Rattle.cwr_fields.specs.declared.codes.Role.TheVariants.{Assignor, Acquirer}
use Rattle.cwr_fields.specs.declared.codes.TransactionType.{TransactionType}
use Rattle.cwr_fields.specs.declared.codes.TransactionType.TheVariants.{Agreement, NewWork, RevisedWork, Acknowledgement}
use Rattle.cwr_shape.specs.declared.symbols.Symbol.{Symbol}
use Rattle.cwr_shape.specs.declared.stages.Stage.{Stage}
use Rattle.cwr_shape.specs.declared.stages.Stage.TheVariants as stages
use Rattle.cwr_shape.specs.Steps.NextStages.{next_stage}
use Rattle.cwr_shape.specs.Format.LastSymbols.{is_grh, latest, group_of}
use Rattle.cwr_shape.specs.Steps.Stages.{is_writer, stage_by, stage_of, stage_after}
use Rattle.cwr_shape.specs.Steps.Left.{is_stage}
use Rattle.cwr_shape.specs.Format.Shapes.{is_carried_symbol, without_carried}
use Rattle.cwr_shape.proofs.lemmas.Matcher.{without-snoc}
use Rattle.cwr_shape.proofs.lemmas.AllSymbols.{all_symbols, of_each}
use Rattle.cwr_shape.proofs.lemmas.StagePatterns.{next_is_stage}
use Rattle.cwr_shape.proofs.lemmas.StageRuns.{run, run_first}
use Rattle.cwr_shape.proofs.lemmas.OneMore.{latest-snoc, last_or-snoc}
use Rattle.cwr_shape.proofs.lemmas.SymbolsNameStages.{same_stage, same_stage_sound, same_bool, same_bool_sound, other_writer, side}
use Rattle.cwr_shape.proofs.lemmas.SymbolsNameStages.{name_of, named, type_next, writer_next, side_next, type_more, writer_more}
use Rattle.cwr_shape.proofs.lemmas.SymbolsNameStages.{side-snoc}
use Rattle.cwr_shape.proofs.lemmas.StagesKeepNames.{side_of, fits, agrees, stays, keeps, both_keep, all_keep, all_stages_keep}

-- ---- what a stage says of the symbols that stand there, without the carried ones

record Seen (xs : List Symbol) (stage : Stage) : Type 0 where
  pub name : stage ≡ stage_of xs
  pub fit : fits stage (group_of (latest is_grh xs)) (other_writer (latest is_writer xs)) ≡ true
  pub assignor : side Assignor xs ≡ side_of Assignor stage
  pub acquirer : side Acquirer xs ≡ side_of Acquirer stage

here : {X : Type 0} (test : X → Bool) (x : X) (xs : List X) → list_all test (x ∷ xs) ≡ true → test x ≡ true
here test x xs h = (and_parts (test x) (list_all test xs) h).0

there : {X : Type 0} (test : X → Bool) (x : X) (xs : List X) → list_all test (x ∷ xs) ≡ true → list_all test xs ≡ true
there test x xs h = (and_parts (test x) (list_all test xs) h).1

kept_by : (stage : Stage) (ty : TransactionType) (o : Bool) → both_keep stage ty ≡ true
    → list_all (keeps stage ty o) all_symbols ≡ true
kept_by stage ty true h = here (λ o. list_all (keeps stage ty o) all_symbols) true (false ∷ []) h
kept_by stage ty false h =
    here (λ o. list_all (keeps stage ty o) all_symbols) false []
    (there (λ o. list_all (keeps stage ty o) all_symbols) true (false ∷ []) h)

type_kept : (stage : Stage) (ty : TransactionType) → all_keep stage ≡ true → both_keep stage ty ≡ true
unfolding all_keep
type_kept stage Agreement h = here (both_keep stage) Agreement (NewWork ∷ RevisedWork ∷ Acknowledgement ∷ []) h
type_kept stage NewWork h =
    here (both_keep stage) NewWork (RevisedWork ∷ Acknowledgement ∷ [])
    (there (both_keep stage) Agreement (NewWork ∷ RevisedWork ∷ Acknowledgement ∷ []) h)
type_kept stage RevisedWork h =
    here (both_keep stage) RevisedWork (Acknowledgement ∷ [])
    (there (both_keep stage) NewWork (RevisedWork ∷ Acknowledgement ∷ [])
    (there (both_keep stage) Agreement (NewWork ∷ RevisedWork ∷ Acknowledgement ∷ []) h))
type_kept stage Acknowledgement h =
    here (both_keep stage) Acknowledgement []
    (there (both_keep stage) RevisedWork (Acknowledgement ∷ [])
    (there (both_keep stage) NewWork (RevisedWork ∷ Acknowledgement ∷ [])
    (there (both_keep stage) Agreement (NewWork ∷ RevisedWork ∷ Acknowledgement ∷ []) h)))

kept : (stage : Stage) (ty : TransactionType) (o : Bool) → all_keep stage ≡ true → list_all (keeps stage ty o) all_symbols ≡ true
kept stage ty o h = kept_by stage ty o (type_kept stage ty h)

if_not : (a b : Bool) → a ≡ true → (not a || b) ≡ true → b ≡ true
if_not true b e h = h
if_not false b e h = absurd (true≢false (sym e))

first_of : (c a b : Bool) → c ≡ true → cond c a b ≡ true → a ≡ true
first_of true a b e h = h
first_of false a b e h = absurd (true≢false (sym e))

second_of : (c a b : Bool) → c ≡ false → cond c a b ≡ true → b ≡ true
second_of true a b e h = absurd (true≢false e)
second_of false a b e h = h

-- a carried symbol leaves the stage as it is
stays_there : (stage to : Stage) (o : Option Stage) → o ≡ Some to → stays stage o ≡ true → to ≡ stage
unfolding stays
stays_there stage to None e h = absurd (none_is_some to e)
  where
    none_is_some : (x : Stage) → None ≡ Some x → ⊥
    none_is_some x k = cc k
stays_there stage to (Some at) e h = let same : at ≡ to = cc e in sym same ∙ same_stage_sound at stage h

pub carried_stays : (stage : Stage) (s : Symbol) (to : Stage) → is_stage stage ≡ true → is_carried_symbol s ≡ true
    → next_stage stage s ≡ Some to → to ≡ stage
unfolding keeps
carried_stays stage s to real e on =
    stays_there stage to (next_stage stage s) on (first_of (is_carried_symbol s) _ _ e
    (of_each (keeps stage Acknowledgement false) s (kept stage Acknowledgement false (all_stages_keep stage real))))

agreed : (stage : Stage) (ty : TransactionType) (o : Bool) (s : Symbol) → is_stage stage ≡ true → is_carried_symbol s ≡ false
    → fits stage ty o ≡ true
    → agrees (next_stage stage s) s (type_next s ty) (writer_next s o) (side_next Assignor s (side_of Assignor stage))
    (side_next Acquirer s (side_of Acquirer stage)) ≡ true
unfolding keeps
agreed stage ty o s real e fit =
    if_not (fits stage ty o) _ fit
    (second_of (is_carried_symbol s) _ _ e (of_each (keeps stage ty o) s (kept stage ty o (all_stages_keep stage real))))

-- what agreeing says
agrees_says : (op : Option Stage) (to : Stage) (s : Symbol) (ty : TransactionType) (o a b : Bool) → op ≡ Some to
    → agrees op s ty o a b ≡ true
    → (to ≡ name_of s ty o a b) × (fits to ty o ≡ true) × (a ≡ side_of Assignor to) × (b ≡ side_of Acquirer to)
unfolding agrees
agrees_says None to s ty o a b e h = absurd (none_is_some to e)
  where
    none_is_some : (x : Stage) → None ≡ Some x → ⊥
    none_is_some x k = cc k
agrees_says (Some at) to s ty o a b e h =
    let same : at ≡ to = cc e in
    let x =
    and_parts (same_stage at (name_of s ty o a b) && fits at ty o && same_bool a (side_of Assignor at))
    (same_bool b (side_of Acquirer at)) h in
    let y = and_parts (same_stage at (name_of s ty o a b) && fits at ty o) (same_bool a (side_of Assignor at)) x.0 in
    let z = and_parts (same_stage at (name_of s ty o a b)) (fits at ty o) y.0 in
    subst (λ (t : Stage). (t ≡ name_of s ty o a b) × (fits t ty o ≡ true) × (a ≡ side_of Assignor t) × (b ≡ side_of Acquirer t))
    same (
      same_stage_sound at (name_of s ty o a b) z.0,
      z.1,
      same_bool_sound a (side_of Assignor at) y.1,
      same_bool_sound b (side_of Acquirer at) x.1,
    )

stage-snoc : (xs : List Symbol) (s : Symbol) → stage_of (xs ++ s ∷ []) ≡ stage_by (Some s) (xs ++ s ∷ [])
stage-snoc xs s = ap (λ (l : Option Symbol). stage_by l (xs ++ s ∷ [])) (last_or-snoc None xs s)

-- one more symbol by the table, which isn't carried
seen_next : (xs : List Symbol) (stage : Stage) (s : Symbol) (to : Stage) → is_stage stage ≡ true → is_carried_symbol s ≡ false
    → next_stage stage s ≡ Some to → Seen xs stage → Seen (xs ++ s ∷ []) to
seen_next xs stage s to real ordered e seen =
    let ys : List Symbol = xs ++ s ∷ [] in
    let ty : group_of (latest is_grh ys) ≡ type_next s (group_of (latest is_grh xs)) =
    ap group_of (latest-snoc is_grh xs s) ∙ type_more s (latest is_grh xs) in
    let o : other_writer (latest is_writer ys) ≡ writer_next s (other_writer (latest is_writer xs)) =
    ap other_writer (latest-snoc is_writer xs s) ∙ writer_more s (latest is_writer xs) in
    let a : side Assignor ys ≡ side_next Assignor s (side_of Assignor stage) =
    side-snoc Assignor xs s ∙ ap (side_next Assignor s) seen.assignor in
    let b : side Acquirer ys ≡ side_next Acquirer s (side_of Acquirer stage) =
    side-snoc Acquirer xs s ∙ ap (side_next Acquirer s) seen.acquirer in
    let says =
    agrees_says (next_stage stage s) to s _ _ _ _ e
    (agreed stage (group_of (latest is_grh xs)) (other_writer (latest is_writer xs)) s real ordered seen.fit) in
    let named_so : stage_of ys
    ≡ name_of s (group_of (latest is_grh ys)) (other_writer (latest is_writer ys)) (side Assignor ys) (side Acquirer ys) =
    stage-snoc xs s ∙ named s ys in
    record {
      name = says.0 ∙ sym (named_so ∙ same_name s _ _ _ _ _ _ _ _ ty o a b);
      fit = fits_too to _ _ _ _ ty o says.1;
      assignor = a ∙ says.2;
      acquirer = b ∙ says.3;
    }
  where
    same_name : (s : Symbol) (ty ty' : TransactionType) (o o' a a' b b' : Bool) → ty ≡ ty' → o ≡ o' → a ≡ a' → b ≡ b'
        → name_of s ty o a b ≡ name_of s ty' o' a' b'
    same_name s ty ty' o o' a a' b b' p q r t = cc (p, q, r, t)

    fits_too : (to : Stage) (ty ty' : TransactionType) (o o' : Bool) → ty ≡ ty' → o ≡ o' → fits to ty' o' ≡ true
        → fits to ty o ≡ true
    fits_too to ty ty' o o' p q h = rw (p, q) h

-- and any symbol
seen_more : (xs : List Symbol) (stage : Stage) (s : Symbol) (to : Stage) (b : Bool) → is_carried_symbol s ≡ b
    → is_stage stage ≡ true → next_stage stage s ≡ Some to
    → Seen (without_carried xs) stage → Seen (without_carried (xs ++ s ∷ [])) to
seen_more xs stage s to true e real on seen =
    subst (Seen (without_carried (xs ++ s ∷ []))) (sym (carried_stays stage s to real e on))
    (subst (λ (ys : List Symbol). Seen ys stage) (sym (without-snoc xs s true e)) seen)
seen_more xs stage s to false e real on seen =
    subst (λ (ys : List Symbol). Seen ys to) (sym (without-snoc xs s false e))
    (seen_next (without_carried xs) stage s to real e on seen)

-- and so on to the end
seen_run : (front xs : List Symbol) (stage to : Stage) → is_stage stage ≡ true → run stage xs ≡ Some to
    → Seen (without_carried front) stage → Seen (without_carried (front ++ xs)) to
unfolding run
seen_run front [] stage to real e seen =
    let same : stage ≡ to = cc e in
    subst (Seen (without_carried (front ++ []))) same
    (subst (λ (ys : List Symbol). Seen (without_carried ys) stage) (sym (append-nil front)) seen)
seen_run front (s ∷ xs) stage to real e seen =
    let first = run_first stage s xs to e in
    let more = seen_more front stage s first.0 (is_carried_symbol s) refl real first.1 seen in
    subst (λ (ys : List Symbol). Seen (without_carried ys) to) (append_assoc front (s ∷ []) xs)
    (seen_run (front ++ s ∷ []) xs first.0 to (next_is_stage stage s first.0 real first.1) first.2 more)

-- the stage after a symbol that isn't carried is the one that it names
pub stage_after-snoc : (xs : List Symbol) (s : Symbol) → is_carried_symbol s ≡ false
    → stage_after (xs ++ s ∷ []) ≡ stage_by (Some s) (without_carried xs ++ s ∷ [])
stage_after-snoc xs s e = ap stage_of (without-snoc xs s false e) ∙ stage-snoc (without_carried xs) s

-- the stage to which the table comes is the one that the symbols name
pub run_names : (xs : List Symbol) (to : Stage) → run stages.Start xs ≡ Some to → to ≡ stage_after xs
run_names xs to e =
    (seen_run [] xs stages.Start to refl e (record { name = refl; fit = refl; assignor = refl; acquirer = refl })).name
