-- What a device that tells nothing leaves: nothing, at its one moment.
use Rattle.{std.proofs.Common.{ℕ, Err, List, Ok, OnOk, Result, arith, refl}, outside.specs.Disk.{Elapses}}

-- what is so is so where a call succeeded
pub on_ok : {T E P : Type 0} (result : Result T E) → P → OnOk result P
on_ok (Ok value) p = p
on_ok (Err fault) p = tt

pub untold_time : (outcome : List ℕ → List ℕ → Type 0) → Elapses 0 0 (λ start i x. ⊥) (λ start i x. ⊥) outcome
untold_time outcome = record {
  later = omega arith;
  nothing_else = λ start i x le left. absurd left;
  keeps = λ start i x le past. past;
}
