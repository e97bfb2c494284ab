use Rattle.std.proofs.{Common.{◌≡◌, List, map, refl, subst}, lemmas.Result.{err_from_is_err_and}}
use Rattle.tariff_check.specs.{Common.{NoMemory, TariffLine, line_of, tree_of}, Faults.{HasNone, faults_before_cuts}}
use Rattle.tariff_check.proofs.{FaultStages.{sound_if_none}, SoundParts.{sound_parts}}
use Rattle.tariff_check.proofs.checking.check.Goals as goal

pub invariant_of-result : goal.invariant_of-result
invariant_of-result c =
    let h = rw c.as_slice.ensures at c.in_ok-numbers.ensures.numbers in
    let parts = rw c.as_slice-2.ensures at c.in_ok-parts.ensures.parts in
    let t = tree_of c.args.tariff in
    (c.requires, h, parts, sound_parts t c.requires (sound_if_none t h.sound))

pub returns-clause-sound : goal.returns-clause-sound
returns-clause-sound c =
    let h = rw c.as_slice.ensures at c.in_ok-numbers.ensures.numbers in
    (refl, sound_if_none (tree_of c.args.tariff) h.sound)

pub returns-in_err-numbers-clause-memory : goal.returns-in_err-numbers-clause-memory
returns-in_err-numbers-clause-memory c =
    let p = err_from_is_err_and c.from_residual.result c.from_residual.ensures.1 in
    rw (p.1, p.2) (subst (λ (lines : List TariffLine). c.in_err-numbers.field-0.0 ≡ NoMemory
    → HasNone (faults_before_cuts (map line_of lines))) c.as_slice.ensures c.in_err-numbers.ensures.memory)

pub returns-in_err-parts-clause-memory : goal.returns-in_err-parts-clause-memory
returns-in_err-parts-clause-memory c =
    let p = err_from_is_err_and c.from_residual-in_err-parts.result c.from_residual-in_err-parts.ensures.1 in
    rw (p.1, p.2) (subst (λ (lines : List TariffLine). c.in_err-parts.field-0.0 ≡ NoMemory
    → HasNone (faults_before_cuts (map line_of lines))) c.as_slice-2.ensures (λ e. c.in_err-parts.ensures.memory))
