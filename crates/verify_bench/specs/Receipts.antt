-- Rules: the receipts that acts print.
use Rattle.{std.specs.{List.{filter_map}, Prelude.{List, None, Option, Some}}, verify_bench.specs.Common.{Act, Receipt}}
use Rattle.meter_model.specs.declared.act.Act.TheVariants as acts

-- the receipt of an act is the one that it prints, and none if it is of another kind
abbrev pub receipt_in : Act → Option Receipt
receipt_in (acts.Receipt receipt) = Some receipt
receipt_in _ = None

-- the receipts among acts are those that are printed, in order
abbrev pub receipts_in : List Act → List Receipt
receipts_in acts = filter_map receipt_in acts
