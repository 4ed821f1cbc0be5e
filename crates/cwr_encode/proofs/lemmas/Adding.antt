-- An encoder with one record more.
use Rattle.std.proofs.Common.{◌≡◌, ℕ, Bool, true, false, true≢false, List, [], ◌∷◌, ◌++◌, map, Option, Some, None, refl, sym, ap}
use Rattle.std.proofs.Common.{subst, ◌∙◌, append-nil}
use Rattle.std.specs.Prelude.{◌↔◌, Result, Ok, Err, IfErr, is_err}
use Rattle.std.specs.List.{AllByRecursion, flat_map}
use Rattle.std.proofs.lemmas.List.{map-append}
use Rattle.std.proofs.lemmas.List.Concat.{flat_map-append}
use Rattle.cwr_fields.specs.declared.kinds.Kind.{Kind}
use Rattle.cwr_lines.specs.Format.Records.{RecordValue, IsRecord, row_of}
use Rattle.cwr_shape.specs.declared.symbols.Symbol.{Symbol}
use Rattle.cwr_shape.specs.declared.symbols.Symbol.TheVariants.{Plain}
use Rattle.cwr_shape.specs.declared.tallies.Bar.{Bar}
use Rattle.cwr_shape.specs.Format.Ranges.{LimitValues}
use Rattle.cwr_shape.specs.Format.Outlines.{IsWithin, Continues}
use Rattle.cwr_shape.specs.Steps.Tallies as tallies
use Rattle.cwr_shape.specs.Format.NextSymbols.{MayCome, Answers}
use Rattle.cwr_shape.proofs.lemmas.OneMore.{last_or-snoc}
use Rattle.cwr_shape.proofs.lemmas.WhatMayCome.{comes_unbarred}
use Rattle.cwr_values.specs.Format.Values.{symbol_of, symbol_by}
use Rattle.cwr_values.specs.Format.Rows.{canonical_line}
use Rattle.cwr_values.specs.Format.Begins.{numbers_after, row_after, rows_after, rows_so_far}
use Rattle.cwr_values.proofs.lemmas.RowAt.{rows_after-append}
use Rattle.cwr_encode.specs.declared.encoders.Encoder.{Encoder}
use Rattle.cwr_encode.specs.declared.encoders.Reached.TheVariants as reached_to
use Rattle.cwr_encode.specs.declared.encoders.EncodeFault.{EncodeFault}
use Rattle.cwr_encode.specs.declared.encoders.EncodeFault.TheVariants.{Writer}
use Rattle.cwr_devices.specs.Steps.Sinks.{HasWritten, Puts}
use Rattle.cwr_encode.specs.Format.Encoders.{part_of, reached, reached_by, JudgesCall}
use Rattle.cwr_encode.specs.Steps.Encoders.{Encodes, RepresentsMore, AddsRecords, bytes_written}

-- ---- the part grows by the rows of what comes

pub part-append : (records more : List RecordValue)
    → part_of (records ++ more) ≡ part_of records ++ flat_map canonical_line (rows_after records more)
part-append records more =
    ap (flat_map canonical_line) (rows_after-append [] records more)
    ∙ flat_map-append canonical_line (rows_so_far records) (rows_after records more)

pub part-snoc : (records : List RecordValue) (r : RecordValue)
    → part_of (records ++ r ∷ []) ≡ part_of records ++ canonical_line (row_after records r)
unfolding rows_after
part-snoc records r =
    part-append records (r ∷ []) ∙ ap (λ (l : List ℕ). part_of records ++ l) (append-nil (canonical_line (row_after records r)))

pub part_none : part_of [] ≡ []
unfolding rows_after
part_none = refl

pub all_more : (rs more : List RecordValue) → AllByRecursion IsRecord rs → AllByRecursion IsRecord more
    → AllByRecursion IsRecord (rs ++ more)
all_more [] more h k = k
all_more (q ∷ rs) more h k = (h.0, all_more rs more h.1 k)

pub symbols_more : (records : List RecordValue) (r : RecordValue) (s : Symbol) → symbol_of r ≡ s
    → map symbol_of (records ++ r ∷ []) ≡ map symbol_of records ++ s ∷ []
symbols_more records r s e = map-append symbol_of records (r ∷ []) ∙ ap (λ (t : Symbol). map symbol_of records ++ t ∷ []) e

pub reached-snoc : (xs : List Symbol) (s : Symbol) → reached (xs ++ s ∷ []) ≡ reached_by (Some s)
reached-snoc xs s = ap reached_by (last_or-snoc None xs s)

-- ---- what a call does that adds one record

encodes_more : {W : Type 0} (contents : W → Option (List ℕ)) (start : Option (List ℕ)) (records : List RecordValue)
    (r : RecordValue) (s : Symbol) (text : List ℕ) (old new : Encoder W) → symbol_of r ≡ s → IsRecord r
    → text ≡ canonical_line (row_after records r) → (reached_by (Some s) ≡ reached_to.Inside → ⊥)
    → ((xs : List Symbol) → tallies.IsTallyOf old.tally xs → tallies.IsTallyOf new.tally (xs ++ s ∷ []))
    → ((before : List ℕ) → HasWritten contents start before old.sink → HasWritten contents start (before ++ text) new.sink)
    → Encodes contents start records old → Encodes contents start (records ++ r ∷ []) new
encodes_more contents start records r s text old new symbol in_order line outside counts writes e = record {
  counted =
      subst (tallies.IsTallyOf new.tally) (sym (symbols_more records r s symbol)) (counts (map symbol_of records) e.counted);
  in_order = all_more records (r ∷ []) e.in_order (in_order, tt);
  between =
      λ inside. absurd
      (outside (sym (ap reached (symbols_more records r s symbol) ∙ reached-snoc (map symbol_of records) s) ∙ inside));
  written =
      subst (λ (l : List ℕ). HasWritten contents start l new.sink)
      (sym (part-snoc records r ∙ ap (λ (l : List ℕ). part_of records ++ l) (sym line))) (writes (part_of records) e.written);
}

pub adds_by : {W : Type 0} (contents : W → Option (List ℕ)) (failures : W → ℕ) (added : List RecordValue) (text : List ℕ)
    (old new : Encoder W) (result : Result (Unit {0}) EncodeFault) → RepresentsMore contents added old new
    → Puts contents failures text result old.sink new.sink → IfErr result (λ e. e ≡ Writer (bytes_written new))
    → AddsRecords contents failures added result old new
adds_by contents failures added text old new (Ok x) goes p f = (goes, p.failed, p.counts)
adds_by contents failures added text old new (Err e) goes p f =
    subst (λ (x : EncodeFault). AddsRecords contents failures added (Err x) old new) (sym f) (goes, p.failed, refl, p.counts)

pub adds_one : {W : Type 0} (contents : W → Option (List ℕ)) (failures : W → ℕ) (r q : RecordValue) (s : Symbol) (ns : List ℕ)
    (old new : Encoder W) (result : Result (Unit {0}) EncodeFault) → q ≡ r → symbol_of r ≡ s → IsRecord r
    → (reached_by (Some s) ≡ reached_to.Inside → ⊥)
    → ((xs : List Symbol) → tallies.IsTallyOf old.tally xs → ns ≡ numbers_after xs r.kind)
    → ((xs : List Symbol) → tallies.IsTallyOf old.tally xs → tallies.IsTallyOf new.tally (xs ++ s ∷ []))
    → Puts contents failures (canonical_line (row_of ns q)) result old.sink new.sink
    → IfErr result (λ e. e ≡ Writer (bytes_written new)) → AddsRecords contents failures (r ∷ []) result old new
adds_one contents failures r q s ns old new result same symbol in_order outside numbers counts p f =
    adds_by contents failures (r ∷ []) (canonical_line (row_of ns q)) old new result
    (λ start records e. encodes_more contents start records r s (canonical_line (row_of ns q)) old new symbol in_order
    (ap (λ (x : RecordValue). canonical_line (row_of ns x)) same ∙ ap (λ (l : List ℕ). canonical_line (row_of l r))
    (numbers (map symbol_of records) e.counted)) outside counts (p.written start) e) p f

-- ---- answers

pub judged_taken : {A comes right whole : Type 0} (limits : LimitValues) (xs added : List Symbol) (result : Result A EncodeFault)
    (n : ℕ) → IfErr result (λ e. e ≡ Writer n) → comes → right → whole
    → Continues (IsWithin limits) (xs ++ added) → JudgesCall comes right whole limits xs added result
judged_taken limits xs added (Ok x) n f c r w g = (c, r, w, g)
judged_taken {A = A} {comes = comes} {right = right} {whole = whole} limits xs added (Err e) n f c r w g =
    subst (λ (x : EncodeFault). JudgesCall {A = A} comes right whole limits xs added (Err x)) (sym f) (c, r, w, g)

pub admitted : (limits : LimitValues) (xs : List Symbol) (s : Symbol) (answer : Result (Unit {0}) Bar) (b : Bool)
    → b ≡ is_err answer → b ≡ false → Answers limits xs s answer → MayCome limits xs s
admitted limits xs s (Ok u) b e f a = a
admitted limits xs s (Err bar) b e f a = absurd (true≢false (sym e ∙ f))

pub refused : (limits : LimitValues) (xs : List Symbol) (s : Symbol) (answer : Result (Unit {0}) Bar) (b : Bool)
    → b ≡ is_err answer → b ≡ true → Answers limits xs s answer → ¬ MayCome limits xs s
refused limits xs s (Ok u) b e f a = absurd (true≢false (sym f ∙ e))
refused limits xs s (Err bar) b e f a = comes_unbarred limits xs s bar a

-- ---- the kind of what is given

pub wrong_kind : (r q : RecordValue) (kind : Kind) (b : Bool) → q ≡ r → (b ≡ true) ↔ (q.kind ≡ kind) → b ≡ false
    → ¬ (r.kind ≡ kind)
wrong_kind r q kind b same test f k = true≢false (sym (test.1 (ap (λ (x : RecordValue). x.kind) same ∙ k)) ∙ f)

pub right_kind : (r q : RecordValue) (kind : Kind) (b : Bool) → q ≡ r → (b ≡ true) ↔ (q.kind ≡ kind) → b ≡ true → r.kind ≡ kind
right_kind r q kind b same test t = ap (λ (x : RecordValue). x.kind) (sym same) ∙ test.0 t

-- a record of a kind that has one symbol
pub plain_symbol : (r : RecordValue) (kind : Kind) → r.kind ≡ kind → symbol_by kind r ≡ Plain kind → symbol_of r ≡ Plain kind
plain_symbol r kind e f = ap (λ (k : Kind). symbol_by k r) e ∙ f
