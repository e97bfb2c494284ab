-- Readings that were read, and why others weren't.
use Rattle.std.proofs.Common.{ℕ, ◌≡◌, Err, List, Ok, inl, inr, refl}
use Rattle.verify_bench.{specs.Readings.{IsReadAs}, proofs.Laws.{texts_have_one_reading}}
use Rattle.bench_commands.specs.{Bench.{ended_for_readings}, Common.{FailsOr, Reading, ReadingsFault, readings_in}}
use Rattle.bench_commands.specs.BenchSteps.{AreRefused}
use Rattle.verify_bench.specs.declared.reading.ReadingsFault.TheVariants as readings

pub readings_found : (decimals : ℕ) (text : List ℕ) (found : List Reading) → IsReadAs decimals text (Ok found)
    → readings_in decimals text ≡ Ok found
readings_found decimals text found h = (texts_have_one_reading decimals text (Ok found) (λ e. absurd cc)).1 h

pub fails-readings : (decimals : ℕ) (text : List ℕ) (fault : ReadingsFault) → IsReadAs decimals text (Err fault)
    → FailsOr (AreRefused decimals text) (ended_for_readings fault)
fails-readings decimals text readings.TooLong h = record {
  how = inr (inr (
    readings.TooLong,
    ((texts_have_one_reading decimals text (Err readings.TooLong) (λ e. absurd cc)).1 h, refl),
  ));
}
fails-readings decimals text (readings.BadRow row) h = record {
  how = inr (inr (
    readings.BadRow row,
    ((texts_have_one_reading decimals text (Err (readings.BadRow row)) (λ e. absurd cc)).1 h, refl),
  ));
}
fails-readings decimals text readings.NoMemory h = record { how = inr (inl refl) }
