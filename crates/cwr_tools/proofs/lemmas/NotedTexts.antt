-- What is written of explained findings is what a check writes of them, with indented lines put in.
use Rattle.std.proofs.Common.{◌≡◌, ℕ, ◌+◌, List, [], ◌∷◌, ◌++◌, length, take, Option, Some, None, refl, ap, ap₂, ◌∙◌, inl, inr}
use Rattle.std.proofs.Common.{append-nil, false}
use Rattle.std.specs.Prelude.{count_by, slice_get}
use Rattle.std.specs.List.{after_last, enumerate_from, flat_map}
use Rattle.std.specs.Option.{option_to_list}
use Rattle.std.proofs.lemmas.Grind.{flat_map-append}
use Rattle.cwr_lines.specs.Format.Records.{RecordValue}
use Rattle.cwr_values.specs.declared.items.Item.{Item}
use Rattle.cwr_values.specs.declared.items.Item.TheVariants.{Transaction}
use Rattle.cwr_judge.specs.Format.Items.{records_in, opens_group, is_transaction}
use Rattle.cwr_findings.specs.declared.rules.Finding.{Finding}
use Rattle.cwr_findings.specs.Format.Findings.{findings}
use Rattle.cwr_findings.specs.Format.ReportLines.{finding_line}
use Rattle.cwr_tools.specs.declared.verdicts.Verdict.{Verdict}
use Rattle.cwr_notes.specs.Format.FindingNotes.{explained_finding, explained_findings, explained_in, explained_lines}
use Rattle.cwr_notes.specs.Format.FindingNotes.{finding_notes, notes_on}
use Rattle.cwr_tools.specs.Format.Texts.{check_lines, check_text, finding_lines, finding_lines_in, verdict_line}
use Rattle.cwr_tools.specs.Format.Reports.{lines_of_explained, text_on}
use Rattle.cwr_tools.specs.Format.Laws.{AreIndented, IsIndented, IsNoted}

-- the lines under a finding are indented
notes_indented : (n : ℕ) (t : List RecordValue) (f : Finding) → IsIndented (finding_notes false n t f)
unfolding finding_notes
notes_indented n t f = by (slice_get t f.rec)
  where
    by : (o : Option RecordValue) → IsIndented (flat_map (notes_on false n t f) (option_to_list o))
    by None = inl refl
    by (Some r) = inr refl

-- the line of each finding, and the lines under it
parts_of : ℕ → ℕ → ℕ → List RecordValue → List Finding → List (List ℕ × List ℕ)
parts_of group sequence n t [] = []
parts_of group sequence n t (f ∷ found) = (finding_line group sequence f, finding_notes false n t f) ∷ parts_of group sequence n t found

parts_whole : (group sequence n : ℕ) (t : List RecordValue) (found : List Finding)
    → flat_map (λ (p : List ℕ × List ℕ). p.0 ++ p.1) (parts_of group sequence n t found)
    ≡ flat_map (explained_finding false group sequence n t) found
unfolding parts_of
parts_whole group sequence n t [] = refl
parts_whole group sequence n t (f ∷ found) =
    ap (λ (l : List ℕ). explained_finding false group sequence n t f ++ l) (parts_whole group sequence n t found)

parts_without : (group sequence n : ℕ) (t : List RecordValue) (found : List Finding)
    → flat_map (λ (p : List ℕ × List ℕ). p.0) (parts_of group sequence n t found) ≡ flat_map (finding_line group sequence) found
unfolding parts_of
parts_without group sequence n t [] = refl
parts_without group sequence n t (f ∷ found) =
    ap (λ (l : List ℕ). finding_line group sequence f ++ l) (parts_without group sequence n t found)

parts_indented : (group sequence n : ℕ) (t : List RecordValue) (found : List Finding)
    → AreIndented (parts_of group sequence n t found)
unfolding parts_of
parts_indented group sequence n t [] = tt
parts_indented group sequence n t (f ∷ found) = (notes_indented n t f, parts_indented group sequence n t found)

-- ---- one text after another

both_indented : (xs ys : List (List ℕ × List ℕ)) → AreIndented xs → AreIndented ys → AreIndented (xs ++ ys)
both_indented [] ys h k = k
both_indented (x ∷ xs) ys h k = (h.0, both_indented xs ys h.1 k)

noted_join : (a b x y : List ℕ) → IsNoted a x → IsNoted b y → IsNoted (a ++ b) (x ++ y)
noted_join a b x y h k = record {
  parts = h.parts ++ k.parts;
  whole = flat_map-append (λ (p : List ℕ × List ℕ). p.0 ++ p.1) h.parts k.parts ∙ ap₂ (λ (l m : List ℕ). l ++ m) h.whole k.whole;
  without = flat_map-append (λ (p : List ℕ × List ℕ). p.0) h.parts k.parts ∙ ap₂ (λ (l m : List ℕ). l ++ m) h.without k.without;
  indented = both_indented h.parts k.parts h.indented k.indented;
}

noted_nothing : IsNoted [] []
noted_nothing = record { parts = []; whole = refl; without = refl; indented = tt }

-- a text as it is
noted_alone : (x : List ℕ) → IsNoted x x
noted_alone x =
    record
    { parts = (x, []) ∷ []; whole = append-nil (x ++ []) ∙ append-nil x; without = append-nil x; indented = (inl refl, tt) }

-- ---- of items

noted_in : (group sequence n : ℕ) (item : Item)
    → IsNoted (explained_in false group sequence n item) (finding_lines_in group sequence item)
noted_in group sequence n (Transaction t) = record {
  parts = parts_of group sequence n t (findings t);
  whole = parts_whole group sequence n t (findings t);
  without = parts_without group sequence n t (findings t);
  indented = parts_indented group sequence n t (findings t);
}
noted_in group sequence n item = noted_nothing

noted_all : (all : List Item) (ps : List (ℕ × Item))
    → IsNoted (flat_map (λ p. explained_findings false (take p.0 all) p.1) ps) (flat_map (λ p. finding_lines (take p.0 all) p.1) ps)
noted_all all [] = noted_nothing
noted_all all (p ∷ ps) =
    noted_join (explained_findings false (take p.0 all) p.1) (flat_map (λ q. explained_findings false (take q.0 all) q.1) ps)
    (finding_lines (take p.0 all) p.1) (flat_map (λ q. finding_lines (take q.0 all) q.1) ps)
    (noted_in (count_by opens_group (take p.0 all)) (count_by is_transaction (after_last opens_group (take p.0 all)))
    (length (records_in (take p.0 all)) + 1) p.1) (noted_all all ps)

pub explained_noted : (items : List Item) (verdict : Verdict)
    → IsNoted (text_on lines_of_explained items verdict) (check_text items verdict)
unfolding explained_lines check_lines
explained_noted items verdict =
    noted_join (explained_lines false items) (verdict_line verdict) (check_lines items) (verdict_line verdict)
    (noted_all items (enumerate_from 0 items)) (noted_alone (verdict_line verdict))
