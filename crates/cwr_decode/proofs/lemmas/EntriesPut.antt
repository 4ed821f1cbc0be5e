-- The entries of records, with one more at the end.
use Rattle.std.proofs.Common.{◌≡◌, ℕ, ◌+◌, List, [], ◌∷◌, ◌++◌, length, map, take, drop, refl, sym, ap, subst, ◌∙◌, append_assoc}
use Rattle.std.proofs.Common.{append-nil, inl, inr, arith}
use Rattle.std.proofs.lemmas.List.{drop-set-lt, length-take-le, take_all}
use Rattle.std.proofs.lemmas.Grind.{take-set_at}
use Rattle.cwr_lines.specs.Format.Records.{RecordValue}
use Rattle.cwr_shape.specs.declared.symbols.Symbol.{Symbol}
use Rattle.cwr_values.specs.Format.Values.{symbol_of}
use Rattle.cwr_decode.specs.declared.indexing.IndexEntry.{IndexEntry}
use Rattle.cwr_decode.specs.Format.Entries.{AreEntriesOf, IsEntryOf}
use Rattle.cwr_decode.specs.Steps.TakenLines.{PutsAt}

records_more : (text : List ℕ) (before : List Symbol) (entries : List IndexEntry) (records more : List RecordValue)
    → AreEntriesOf text before entries records → AreEntriesOf text before entries (records ++ more)
unfolding AreEntriesOf
records_more text before [] records more h = tt
records_more text before (e ∷ entries) [] more h = absurd h
records_more text before (e ∷ entries) (r ∷ records) more h =
    (h.0, records_more text (before ++ symbol_of r ∷ []) entries records more h.1)

entry_more : (text : List ℕ) (before : List Symbol) (entries : List IndexEntry) (records : List RecordValue) (entry : IndexEntry)
    (r : RecordValue) → AreEntriesOf text before entries records → length entries ≡ length records
    → IsEntryOf text (before ++ map symbol_of records) entry r
    → AreEntriesOf text before (entries ++ entry ∷ []) (records ++ r ∷ [])
unfolding AreEntriesOf
entry_more text before [] [] entry r h same is =
    (subst (λ (b : List Symbol). IsEntryOf text b entry r) (append-nil before) is, tt)
entry_more text before [] (q ∷ records) entry r h same is = absurd (omega (arith, same))
entry_more text before (e ∷ entries) [] entry r h same is = absurd h
entry_more text before (e ∷ entries) (q ∷ records) entry r h same is = (
  h.0,
  entry_more text (before ++ symbol_of q ∷ []) entries records entry r h.1 (omega (arith, same))
      (subst (λ (b : List Symbol). IsEntryOf text b entry r)
      (sym (append_assoc before (symbol_of q ∷ []) (map symbol_of records))) is),
)

-- one more is put
pub put_more : (text : List ℕ) (count : ℕ) (old new : List IndexEntry) (records : List RecordValue) (entry : IndexEntry)
    (r : RecordValue) → count ≡ length records → AreEntriesOf text [] (take count old) records
    → IsEntryOf text (map symbol_of records) entry r → PutsAt count entry old new
    → AreEntriesOf text [] (take (count + 1) new) (records ++ r ∷ [])
put_more text count old new records entry r counted covered is (inl p) =
    let few : length (take count old) ≡ length records = length-take-le count old (omega (arith, p.0)) ∙ counted in
    let all : take (count + 1) new ≡ take count old ++ entry ∷ [] =
    ap (take (count + 1)) p.1 ∙ take-set_at old count (count + 1) entry refl p.0 in
    subst (λ (es : List IndexEntry). AreEntriesOf text [] es (records ++ r ∷ [])) (sym all)
    (entry_more text [] (take count old) records entry r covered few is)
put_more text count old new records entry r counted covered is (inr p) =
    let all : take (count + 1) new ≡ take count old =
    ap (take (count + 1)) p.1 ∙ take_all (count + 1) old (omega (arith, p.0)) ∙ sym (take_all count old p.0) in
    subst (λ (es : List IndexEntry). AreEntriesOf text [] es (records ++ r ∷ [])) (sym all)
    (records_more text [] (take count old) records (r ∷ []) covered)

-- what stands behind the place stays
pub rest_stays : {X : Type 0} (n : ℕ) (x : X) (old new : List X) → PutsAt n x old new → drop (n + 1) new ≡ drop (n + 1) old
rest_stays n x old new (inl p) = ap (drop (n + 1)) p.1 ∙ drop-set-lt (n + 1) old n x (omega arith)
rest_stays n x old new (inr p) = ap (drop (n + 1)) p.1
