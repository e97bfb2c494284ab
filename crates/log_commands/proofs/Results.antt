-- What follows of an answer that is Ok.
use Rattle.std.{specs.{Prelude.{OnOk}, declared.result.Result.TheVariants.{Err, Ok}}, proofs.Common.{Result}}

pub both : {T E : Type 0} (A B : Type 0) (r : Result T E) → OnOk r A → OnOk r B → OnOk r (A × B)
both A B (Ok _) a b = (a, b)
both A B (Err _) a b = tt
