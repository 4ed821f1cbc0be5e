-- The worked transmissions are transmissions, and what they spell is accepted.
use Rattle.std.proofs.Common.{ℕ, List, [], ◌∷◌, ◌++◌, refl, lit<, lit≤}
use Rattle.cwr_fields.specs.Format.Bytes.{digits}
use Rattle.cwr_fields.specs.declared.codes.TransactionType.TheVariants.{Acknowledgement}
use Rattle.cwr_fields.proofs.lemmas.CellTests.{holds_test, number_test, day_test, time_test, share_test}
use Rattle.cwr_fields.specs.declared.kinds.Kind.TheVariants as kinds
use Rattle.cwr_lines.proofs.lemmas.RecordTest.{record_sound}
use Rattle.cwr_shape.specs.declared.symbols.Symbol.TheVariants.{Plain}
use Rattle.cwr_shape.specs.declared.limits.Limits.{Limits}
use Rattle.cwr_shape.specs.Format.Shapes.{IsShape}
use Rattle.cwr_values.specs.Format.Values.{IsTransmission, FitsIn}
use Rattle.cwr_values.specs.Format.Rows.{canonical_text, rows}
use Rattle.cwr_judge.specs.Format.Ends.{IsAccepted}
use Rattle.cwr_judge.proofs.lemmas.Accepted.{canonical_accepted}
use Rattle.std.proofs.Common.{true, map, ◌≡◌}
use Rattle.std.specs.List.{list_all}
use Rattle.std.proofs.lemmas.Bool.{and_parts}
use Rattle.cwr_fields.specs.declared.codes.TransactionType.{TransactionType}
use Rattle.cwr_fields.specs.declared.codes.TransactionType.TheVariants.{Agreement, NewWork, RevisedWork}
use Rattle.cwr_lines.specs.Format.Records.{RecordValue, IsRecord}
use Rattle.cwr_lines.proofs.lemmas.RecordTest.{record_test}
use Rattle.cwr_shape.specs.Format.Shapes.{pattern_of}
use Rattle.cwr_shape.proofs.lemmas.Matcher.{accepts_sound, nullable, after, after_all}
use Rattle.cwr_values.specs.Format.Values.{IsTransaction, symbol_of}
use Rattle.std.specs.List.{AllByRecursion}
use Rattle.cwr_tools_tests.proofs.Samples

-- the largest limits
abbrev pub largest : Limits
largest = record { records = 99999999; groups = 99999; transaction = 999999 }

bare_acknowledgement : IsShape Acknowledgement (Plain kinds.Ack ∷ [])
unfolding nullable after after_all
bare_acknowledgement = accepts_sound _ (pattern_of Acknowledgement) refl

pub one_acknowledgement_whole : IsTransmission Samples.one_acknowledgement
unfolding digits holds_test number_test day_test time_test share_test
one_acknowledgement_whole = record {
  opening = (refl, record_sound Samples.h refl);
  some_group = lit< tt;
  each = (
    record {
      head = (refl, record_sound (Samples.gr "ACK") refl);
      some_transaction = lit< tt;
      each = (((record_sound Samples.a1 refl, tt), bare_acknowledgement), tt);
      foot = (refl, record_sound Samples.grt refl);
    },
    tt,
  );
}

pub one_acknowledgement_within : FitsIn largest Samples.one_acknowledgement
one_acknowledgement_within = (lit≤ tt, lit≤ tt, ((lit≤ tt, tt), tt))

one_acknowledgement_accepted : (more : List ℕ)
    → IsAccepted largest (canonical_text Samples.one_acknowledgement ++ more) Samples.one_acknowledgement 359
unfolding digits canonical_text rows
one_acknowledgement_accepted more =
    canonical_accepted largest Samples.one_acknowledgement more one_acknowledgement_whole one_acknowledgement_within

records_sound : (rs : List RecordValue) → list_all record_test rs ≡ true → AllByRecursion IsRecord rs
records_sound [] h = tt
records_sound (r ∷ rs) h =
    let p = and_parts (record_test r) (list_all record_test rs) h in (record_sound r p.0, records_sound rs p.1)

-- records that pass the tests are a transaction of the type
transaction_sound : (ty : TransactionType) (rs : List RecordValue) → list_all record_test rs ≡ true
    → nullable (after_all (map symbol_of rs) (pattern_of ty)) ≡ true → IsTransaction ty rs
transaction_sound ty rs h k = (records_sound rs h, accepts_sound (map symbol_of rs) (pattern_of ty) k)

pub one_work_whole : IsTransmission Samples.one_work
unfolding digits holds_test number_test day_test time_test share_test nullable after after_all
one_work_whole = record {
  opening = (refl, record_sound Samples.h refl);
  some_group = lit< tt;
  each = (
    record {
      head = (refl, record_sound (Samples.gr "NWR") refl);
      some_transaction = lit< tt;
      each = (transaction_sound NewWork Samples.long_work refl refl, tt);
      foot = (refl, record_sound Samples.grt refl);
    },
    tt,
  );
}

pub one_agreement_whole : IsTransmission Samples.one_agreement
unfolding digits holds_test number_test day_test time_test share_test nullable after after_all
one_agreement_whole = record {
  opening = (refl, record_sound Samples.h refl);
  some_group = lit< tt;
  each = (
    record {
      head = (refl, record_sound (Samples.gr "AGR") refl);
      some_transaction = lit< tt;
      each = (
        transaction_sound Agreement
            (Samples.ag1 ∷ Samples.te1 ∷ Samples.ipa_as ∷ Samples.ipa_ac ∷ Samples.te1 ∷ Samples.ipa_ac ∷ Samples.ipa_as ∷ []) refl
            refl,
        tt,
      );
      foot = (refl, record_sound Samples.grt refl);
    },
    tt,
  );
}

pub two_groups_whole : IsTransmission Samples.two_groups
unfolding digits holds_test number_test day_test time_test share_test nullable after after_all
two_groups_whole = record {
  opening = (refl, record_sound Samples.h refl);
  some_group = lit< tt;
  each = (
    record {
      head = (refl, record_sound (Samples.gr "NWR") refl);
      some_transaction = lit< tt;
      each = (transaction_sound NewWork (Samples.w1 ∷ Samples.s1 ∷ []) refl refl, tt);
      foot = (refl, record_sound Samples.grt refl);
    },
    (
      record {
        head = (refl, record_sound (Samples.gr "REV") refl);
        some_transaction = lit< tt;
        each = (
          transaction_sound RevisedWork (Samples.v1 ∷ Samples.s1 ∷ []) refl refl,
          (transaction_sound RevisedWork (Samples.v2 ∷ Samples.s1 ∷ []) refl refl, tt),
        );
        foot = (refl, record_sound Samples.grt refl);
      },
      tt,
    ),
  );
}

two_groups_within : FitsIn (record { records = 12; groups = 2; transaction = 2 }) Samples.two_groups
two_groups_within = (lit≤ tt, lit≤ tt, ((lit≤ tt, tt), ((lit≤ tt, (lit≤ tt, tt)), tt)))

two_groups_accepted : (more : List ℕ) → IsAccepted (record { records = 12; groups = 2; transaction = 2 })
    (canonical_text Samples.two_groups ++ more) Samples.two_groups 1599
unfolding digits canonical_text rows
two_groups_accepted more =
    canonical_accepted (record { records = 12; groups = 2; transaction = 2 }) Samples.two_groups more two_groups_whole
    two_groups_within
