-- The value of an answer that went well.
use Rattle.std.{specs.Result.{result_ok}, proofs.Common.{◌≡◌, Err, Ok, Result, Some}}

-- an answer of which a value is left was that value
pub was_ok : {T E : Type 0} (r : Result T E) (v : T) → Some v ≡ result_ok r → r ≡ Ok v
was_ok (Ok x) v is = cc
was_ok (Err why) v is = cc
