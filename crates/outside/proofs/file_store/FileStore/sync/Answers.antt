use Rattle.{std.proofs.Common.{Err, Ok, OnErr, Result, ap}, outside.specs.FileState.{is_lost}}
use Rattle.outside.proofs.file_store.FileStore.sync.Goals as goal

-- what is so is so if a call failed
on_err : {T E P : Type 0} (result : Result T E) → P → OnErr result P
on_err (Ok x) p = tt
on_err (Err e) p = p

pub returns-in_err-sync-in-Settled-clause-lost : goal.returns-in_err-sync-in-Settled-clause-lost
returns-in_err-sync-in-Settled-clause-lost g c =
    on_err c.from_residual.result (ap (λ state. is_lost state) c.replace.ensures.after)
