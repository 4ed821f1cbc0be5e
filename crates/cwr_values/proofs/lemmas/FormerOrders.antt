-- What is a transmission in an order whose members are all of today's is one today.
use Rattle.std.proofs.Common.{List}
use Rattle.cwr_fields.specs.declared.codes.TransactionType.{TransactionType}
use Rattle.cwr_lines.specs.Format.Records.{RecordValue}
use Rattle.cwr_shape.specs.declared.symbols.Symbol.{Symbol}
use Rattle.cwr_shape.specs.Format.Shapes.{IsShape}
use Rattle.cwr_shape.proofs.lemmas.UncarriedOrders.{all_follow}
use Rattle.cwr_values.specs.Format.FormerOrders.{Order, IsTransactionIn, IsGroupIn, IsTransmissionIn}
use Rattle.cwr_values.specs.Format.Values.{GroupValue, TransmissionValue, IsTransaction, IsGroup, IsTransmission, type_of}

module _ (order : Order) (kept : (ty : TransactionType) (xs : List Symbol) → order ty xs → IsShape ty xs) where
  transaction_kept : (ty : TransactionType) (records : List RecordValue) → IsTransactionIn order ty records
      → IsTransaction ty records
  transaction_kept ty records h = (h.0, kept ty _ h.1)

  group_kept : (g : GroupValue) → IsGroupIn order g → IsGroup g
  group_kept g h = record {
    head = h.head;
    some_transaction = h.some_transaction;
    each =
        all_follow (IsTransactionIn order (type_of g.head)) (IsTransaction (type_of g.head)) (transaction_kept (type_of g.head))
        g.transactions h.each;
    foot = h.foot;
  }

  pub transmission_kept : (v : TransmissionValue) → IsTransmissionIn order v → IsTransmission v
  transmission_kept v h = record {
    opening = h.opening;
    some_group = h.some_group;
    each = all_follow (IsGroupIn order) IsGroup group_kept v.groups h.each;
  }
