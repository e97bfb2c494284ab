-- Rules: the starts of two runs that are the same but for the digest of the seal and the tariff.
use Rattle.std.specs.Prelude.{ℕ, ◌≡◌, List, None, Result}
use Rattle.{tariff_compare.specs.Same.{AreSame}, same_tariffs.specs.{Alike.{AreStoresAlike}, Reached.{HoldGoesOn}}}
use Rattle.receipt_text.specs.{Receipts.{receipt_text}, SealParts.{part_of_seal}, TariffLine.{DifferInTariff}}
use Rattle.meter_run.specs.Deeds.{deed_text}
use Rattle.run_chains.specs.Common.{Deed, Does, Ended, Receipt, Seal, Start, after_deeds, changes_of, deeds_in}
use Rattle.run_chains.specs.Common.{drive_answer, drive_end, entries_of, run_answer, setting_in, texts}

-- two starts go by the same if their seals are equal but for the digest, and their tariffs are the same under the
-- sealed constant
pub record GoBySame (a b : Start) : Type 0 where
  pub seal : record a.seal { digest = b.seal.digest } ≡ b.seal
  pub tariffs : AreSame a.tree b.tree a.seal.params.constant

-- two starts are the same if they go by the same, and have one durable state, in which no trip is held
pub record AreSameStarts (a b : Start) : Type 0 where
  pub same : GoBySame a b
  pub durable : a.durable ≡ b.durable
  pub free : a.durable.hold ≡ None

-- two starts are alike if they go by the same, and have durable states that are alike, in which a trip that is held
-- goes on
pub record AreStartsAlike (a b : Start) : Type 0 where
  pub same : GoBySame a b
  pub durable : AreStoresAlike (setting_in a) (setting_in b) a.durable b.durable
  pub goes_on : HoldGoesOn (setting_in a).tariff a.durable.hold

-- the text of a deed is alike under two seals if it is the same, or that of a receipt, and differs in the line of the
-- tariff alone, in which each seal's digest stands
abbrev pub IsTextAlike : (a b : Seal) → Deed → Type 0
IsTextAlike a b (Does (Receipt receipt)) =
    DifferInTariff a.digest b.digest (receipt_text receipt (part_of_seal a)) (receipt_text receipt (part_of_seal b))
IsTextAlike a b deed = deed_text b deed ≡ deed_text a deed

-- two runs over a drive do the same if each answers with the texts of the first one's deeds under its own seal, whose
-- digest a receipt shows, and ends as the drive does, and they make the same entries
pub record DoTheSame (one other : Result Start Ended) (a b : Start) (drive : List ℕ) : Type 0 where
  pub first : run_answer one drive ≡ drive_answer (texts a.seal (deeds_in a drive)) (drive_end drive)
  pub second : run_answer other drive ≡ drive_answer (texts b.seal (deeds_in a drive)) (drive_end drive)
  pub entries : entries_of (changes_of (deeds_in b drive)) ≡ entries_of (changes_of (deeds_in a drive))

-- a start with the durable state that a run over a drive leaves is the same otherwise
abbrev pub start_after : Start → (drive : List ℕ) → Start
start_after start drive = record start { durable = after_deeds start.durable (deeds_in start drive) }
