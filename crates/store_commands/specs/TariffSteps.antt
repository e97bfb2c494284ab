-- For proofs: why a text has no sealed tariff, and so no tables.
use Rattle.std.specs.Prelude.{ℕ, ◌≡◌, Err, List}
use Rattle.call_ends.specs.declared.ending.Ended.TheVariants.{WrongTariff}
use Rattle.store_commands.specs.Common.{BadTariff, Ended, NoMemory, ReadFault, tariff_in}
use Rattle.store_commands.specs.SealedTariff.{sealed_tariff}

-- a text has no tables if it is refused or memory ran out
abbrev pub IsNoTables : (text : List ℕ) → Ended → Type 0
IsNoTables text NoMemory = Unit {0}
IsNoTables text (BadTariff why) = tariff_in text ≡ Err why
IsNoTables text why = ⊥

-- no tables were made of a text that should be the sealed one if a read failed, memory ran out, or it is refused
abbrev pub AreNoTables : (digest text : List ℕ) → (read_failed : Type 0) → Ended → Type 0
AreNoTables digest text read_failed ReadFault = read_failed
AreNoTables digest text read_failed NoMemory = Unit {0}
AreNoTables digest text read_failed (BadTariff why) = sealed_tariff digest text ≡ Err (BadTariff why)
AreNoTables digest text read_failed (WrongTariff sealed own) = sealed_tariff digest text ≡ Err (WrongTariff sealed own)
AreNoTables digest text read_failed why = ⊥
