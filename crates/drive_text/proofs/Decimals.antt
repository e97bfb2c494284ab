-- Numbers that are written in decimal.
use Rattle.std.{specs.Fmt.{decimal}, proofs.Common.{ℕ, ◌<◌, ◌^◌, ◌≤◌, Err, IsOk, Ok, OnOk, Result, arith, length}}
use Rattle.std.proofs.lemmas.Fmt.{length-decimal-le_wide}

-- a number below 10^12 has at most 12 digits
pub decimal_short : (n : ℕ) → n < 10 ^ 12 → length (decimal n) ≤ 12
decimal_short n h = length-decimal-le_wide 12 n (omega arith) (omega arith) (omega arith)

-- what a call ensures if it succeeds, of one that does
pub where_ok : {T E : Type 0} (r : Result T E) (P : Type 0) → IsOk r → OnOk r P → P
where_ok (Ok x) P ok h = h
where_ok (Err e) P ok h = absurd (cc)
