-- Lawful acts keep the ranges of the store.
use Rattle.std.proofs.Common.{ℕ, ◌≡◌, All, List, get_or, subst, sym}
use Rattle.totals_record.proofs.Laws.{entries_keep_the_ranges, held_trips_keep_the_ranges}
use Rattle.meter_states.specs.Acts.{IsLawfulAct, KeepsRanges}
use Rattle.meter_states.specs.Common.{Act, Durable, Enter, Hold, IsDurable, Receipt, Refuse, Show, TableParts}

pub act-keeps : (tables : TableParts) (durable : Durable) (act : Act) → IsDurable durable
    → IsLawfulAct tables durable.number act → KeepsRanges durable act
act-keeps tables durable (Show d) range lawful = tt
act-keeps tables durable (Refuse why) range lawful = tt
act-keeps tables durable (Enter e) range lawful =
    entries_keep_the_ranges durable e range lawful.room lawful.range (λ roaming some. lawful.roaming roaming)
act-keeps tables durable (Hold t) range lawful = held_trips_keep_the_ranges durable t range lawful.room lawful.range
act-keeps tables durable (Receipt r) range lawful = tt

-- and so do all acts of an event
pub acts-keep : (tables : TableParts) (number : ℕ) (acts : List Act) → All (IsLawfulAct tables number) acts
    → (durable : Durable) → IsDurable durable → durable.number ≡ number → All (KeepsRanges durable) acts
acts-keep tables number acts lawful durable range same = λ k d below.
    act-keeps tables durable (get_or acts k d) range
    (subst (λ (n : ℕ). IsLawfulAct tables n (get_or acts k d)) (sym same) (lawful k d below))
