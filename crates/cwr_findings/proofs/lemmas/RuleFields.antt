-- The fields that the rules read, in the kinds that carry them.
use Rattle.std.proofs.Common.{refl}
use Rattle.cwr_fields.specs.declared.kinds.Kind.TheVariants as kinds
use Rattle.cwr_findings.specs.Format.Fields.{IsField, HasSharesFrom}

pub iswc_of_nwr : IsField "iswc" kinds.Nwr 7 11
iswc_of_nwr = record { carried = refl; place = refl; width = refl }

pub iswc_of_rev : IsField "iswc" kinds.Rev 7 11
iswc_of_rev = record { carried = refl; place = refl; width = refl }

pub iswc_of_ewt : IsField "iswc" kinds.Ewt 5 11
iswc_of_ewt = record { carried = refl; place = refl; width = refl }

pub iswc_of_ver : IsField "iswc" kinds.Ver 5 11
iswc_of_ver = record { carried = refl; place = refl; width = refl }

pub iswc_of_com : IsField "iswc" kinds.Com 5 11
iswc_of_com = record { carried = refl; place = refl; width = refl }

pub number_of_spu : IsField "interested party number" kinds.Spu 5 9
number_of_spu = record { carried = refl; place = refl; width = refl }

pub number_of_swr : IsField "interested party number" kinds.Swr 4 9
number_of_swr = record { carried = refl; place = refl; width = refl }

pub number_of_spt : IsField "interested party number" kinds.Spt 4 9
number_of_spt = record { carried = refl; place = refl; width = refl }

pub number_of_swt : IsField "interested party number" kinds.Swt 4 9
number_of_swt = record { carried = refl; place = refl; width = refl }

pub publisher_of_pwr : IsField "publisher interested party number" kinds.Pwr 4 9
publisher_of_pwr = record { carried = refl; place = refl; width = refl }

pub designation_of_swr : IsField "designation" kinds.Swr 8 2
designation_of_swr = record { carried = refl; place = refl; width = refl }

pub designation_of_owr : IsField "designation" kinds.Owr 8 2
designation_of_owr = record { carried = refl; place = refl; width = refl }

pub excerpt_of_nwr : IsField "excerpt type" kinds.Nwr 16 3
excerpt_of_nwr = record { carried = refl; place = refl; width = refl }

pub excerpt_of_rev : IsField "excerpt type" kinds.Rev 16 3
excerpt_of_rev = record { carried = refl; place = refl; width = refl }

pub count_of_nwr : IsField "composite component count" kinds.Nwr 23 3
count_of_nwr = record { carried = refl; place = refl; width = refl }

pub count_of_rev : IsField "composite component count" kinds.Rev 23 3
count_of_rev = record { carried = refl; place = refl; width = refl }

pub start_of_agr : IsField "start date" kinds.Agr 7 8
start_of_agr = record { carried = refl; place = refl; width = refl }

pub end_of_agr : IsField "end date" kinds.Agr 8 8
end_of_agr = record { carried = refl; place = refl; width = refl }

pub role_of_ipa : IsField "agreement role" kinds.Ipa 4 2
role_of_ipa = record { carried = refl; place = refl; width = refl }

pub shares_of_spu : HasSharesFrom kinds.Spu 13
shares_of_spu = record {
  performing = record { carried = refl; place = refl; width = refl };
  mechanical = record { carried = refl; place = refl; width = refl };
  synchronization = record { carried = refl; place = refl; width = refl };
}

pub shares_of_opu : HasSharesFrom kinds.Opu 13
shares_of_opu = record {
  performing = record { carried = refl; place = refl; width = refl };
  mechanical = record { carried = refl; place = refl; width = refl };
  synchronization = record { carried = refl; place = refl; width = refl };
}

pub shares_of_swr : HasSharesFrom kinds.Swr 12
shares_of_swr = record {
  performing = record { carried = refl; place = refl; width = refl };
  mechanical = record { carried = refl; place = refl; width = refl };
  synchronization = record { carried = refl; place = refl; width = refl };
}

pub shares_of_owr : HasSharesFrom kinds.Owr 12
shares_of_owr = record {
  performing = record { carried = refl; place = refl; width = refl };
  mechanical = record { carried = refl; place = refl; width = refl };
  synchronization = record { carried = refl; place = refl; width = refl };
}

pub shares_of_ipa : HasSharesFrom kinds.Ipa 11
shares_of_ipa = record {
  performing = record { carried = refl; place = refl; width = refl };
  mechanical = record { carried = refl; place = refl; width = refl };
  synchronization = record { carried = refl; place = refl; width = refl };
}
