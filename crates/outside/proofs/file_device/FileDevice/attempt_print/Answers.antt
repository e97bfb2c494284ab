use Rattle.std.{specs.Result.{is_ok}, proofs.Common.{◌∙◌, ◌≡◌, Bool, Err, IsErr, IsTrue, Ok, Result, ap, rules, true}}
use Rattle.{std.proofs.lemmas.Bool.{false≢true}, outside.specs.FileState.{DeviceState, StaysLost}}
use Rattle.outside.proofs.file_device.FileDevice.attempt_print.Goals as goal

-- what is Ok is no Err
no_err : {T E : Type 0} (result : Result T E) → is_ok result ≡ true → IsErr result → ⊥
no_err (Ok x) ok err = false≢true err
no_err (Err e) ok err = false≢true ok

-- a device that has found its store wasn't lost
not_lost : {U T E : Type 0} {before inside now : Bool} (looked : Result U E) (printed : Result T E)
    → inside ≡ before → is_ok looked ≡ true → StaysLost inside now looked → StaysLost before now printed
not_lost {before = before} looked printed is found stays =
    let never : IsTrue before → ⊥ = λ lost. no_err looked found (stays.later (is ∙ lost)) in
    record { later = λ lost. absurd (never lost); kept = λ lost. absurd (never lost) }

pub returns-clause-stays : goal.returns-clause-stays
returns-clause-stays g c =
    let found : is_ok c.look.result ≡ true = search rules in
    not_lost c.look.result c.print_whole.result (ap (λ (d : DeviceState). d.lost) c.self.view_is) found
    c.look.ensures.stays
