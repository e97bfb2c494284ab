use Rattle.std.proofs.Common.{refl, sym}
use Rattle.tariff_check.proofs.early.early_fault.Goals as goal

pub returns-in-Some-default_fault : goal.returns-in-Some-default_fault
returns-in-Some-default_fault c =
    rw (c.requires.step, sym c.in_default.ensures, sym c.in-Some-default_fault.ensures) refl
