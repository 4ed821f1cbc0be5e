-- The words for what a transaction, a group, a transmission or limits refuse.
use Rattle.std.specs.Prelude.{ℕ, List, ◌++◌, codes, decimal}
use Rattle.cwr_values.specs.declared.groups.GroupFault.{GroupFault}
use Rattle.cwr_values.specs.declared.groups.GroupFault.TheVariants as group_faults
use Rattle.cwr_values.specs.declared.transactions.PushFault.{PushFault}
use Rattle.cwr_values.specs.declared.transactions.PushFault.TheVariants as push_faults
use Rattle.cwr_values.specs.declared.transmissions.TransmissionFault.{TransmissionFault}
use Rattle.cwr_values.specs.declared.transmissions.TransmissionFault.TheVariants as transmission_faults
use Rattle.cwr_values.specs.declared.transmissions.ValueFault.{ValueFault}
use Rattle.cwr_values.specs.declared.transmissions.ValueFault.TheVariants as value_faults

-- why a record wasn't added to a transaction
abbrev pub push_fault_text : PushFault → List ℕ
push_fault_text push_faults.Misplaced = codes "misplaced record"
push_fault_text push_faults.Memory = codes "out of memory"

-- why a transaction wasn't added to a group
abbrev pub group_fault_text : GroupFault → List ℕ
group_fault_text group_faults.WrongKind = codes "transaction of another kind"
group_fault_text group_faults.Incomplete = codes "incomplete transaction"
group_fault_text group_faults.Memory = codes "out of memory"

-- why a group wasn't added to a transmission
abbrev pub transmission_fault_text : TransmissionFault → List ℕ
transmission_fault_text transmission_faults.Empty = codes "group without transaction"
transmission_fault_text transmission_faults.Memory = codes "out of memory"

-- why a transmission doesn't fit limits
abbrev pub value_fault_text : ValueFault → List ℕ
value_fault_text value_faults.NoGroup = codes "no group"
value_fault_text value_faults.Records = codes "too many records"
value_fault_text value_faults.Groups = codes "too many groups"
value_fault_text (value_faults.Transaction group transaction) =
    codes "group " ++ decimal group ++ codes ", transaction " ++ decimal transaction ++ codes ": too many records"
