use Rattle.std.proofs.{Common.{ℕ, ◌<◌, ◌∙◌, ◌≡◌, Err, List, Ok, inl, inr, length, refl, subst}, lemmas.Bool.{lt-ltb}}
use Rattle.verify_bench.specs.declared.reading.ReadingsFault.TheVariants.{TooLong}
use Rattle.bench_commands.specs.{Bench.{ended_for_readings}, BenchSteps.{AreRefused}}
use Rattle.bench_commands.{specs.Common.{FailsOr, readings_in}, proofs.JudgedReadings.{fails-readings, readings_found}}
use Rattle.bench_commands.proofs.judgement.readings_of_word.Goals as goal

pub returns-in-Ok-read_readings-clause-found : goal.returns-in-Ok-read_readings-clause-found
returns-in-Ok-read_readings-clause-found g c = λ tells.
    let found = c.in-Ok-read_readings.readings.items in
    subst (λ (x : List ℕ). readings_in c.args.decimals x ≡ Ok found)
    (c.as_slice.ensures.value ∙ c.in-Ok.ensures.whole tells)
    (readings_found c.args.decimals c.as_slice.result.now found c.in-Ok-read_readings.ensures.ok)

-- a text that is longer than readings may be is refused for that
long_refused : (decimals : ℕ) (text : List ℕ) → 1048576 < length text → readings_in decimals text ≡ Err TooLong
long_refused decimals text longer = rw (lt-ltb 1048576 (length text) longer) refl

pub returns-in-Err-TooLong-clause-refused : goal.returns-in-Err-TooLong-clause-refused
returns-in-Err-TooLong-clause-refused g c = λ tells. record {
  how = inr (inr (
    TooLong,
    (
      long_refused c.args.decimals (g.F.Files.rest c.args.files.now c.args.word) (c.read_text.ensures.too_long
          tells cc).longer,
      refl,
    ),
  ));
}

pub returns-in-Err-DeviceFailed-clause-refused : goal.returns-in-Err-DeviceFailed-clause-refused
returns-in-Err-DeviceFailed-clause-refused g c = λ tells. record { how = inl refl }

pub returns-in-Ok-clause-refused : goal.returns-in-Ok-clause-refused
returns-in-Ok-clause-refused g c = rw c.refused_readings.ensures (λ tells.
    subst (λ (x : List ℕ). FailsOr (AreRefused c.args.decimals x) (ended_for_readings c.in-Err.fault))
    (c.as_slice.ensures.value ∙ c.in-Ok.ensures.whole tells)
    (fails-readings c.args.decimals c.as_slice.result.now c.in-Err.fault c.in-Err.ensures.err))
