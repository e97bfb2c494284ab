use Rattle.std.proofs.Common.{◌∙◌, ◌≡◌, None, Ok, ap, sym}
use Rattle.{tariff_tree.specs.declared.tariff.Tariff.{Tariff}, call_ends.specs.Common.{tree_of}}
use Rattle.{tariff_check.proofs.Laws.{sound_tariffs_have_sound_parts-none}, call_ends.specs.Ending.{unsound_for}}
use Rattle.call_ends.proofs.Tariffs.{lines_of_starved, lines_of_tariff, sound_of, unsound-read, unsound_of}
use Rattle.call_ends.specs.declared.tariff.TextFault.TheVariants as TextFault
use Rattle.call_ends.proofs.tariff.tariff_of_text.Goals as goal

pub returns-in-Ok-check-clause-found : goal.returns-in-Ok-check-clause-found
returns-in-Ok-check-clause-found c =
    let t = c.in-Ok.tariff in
    sound_of c.args.text.now t None c.in-Ok.ensures.answer ((sound_tariffs_have_sound_parts-none (tree_of t)).1
    c.in-Ok-check.ensures.sound.1) ∙ ap (λ (x : Tariff). Ok (tree_of x)) (sym c.in-Ok-check.ensures.sound.0)

pub returns-in-Err-clause-refused : goal.returns-in-Err-clause-refused
returns-in-Err-clause-refused c = λ why e.
    let same : unsound_for c.in-Err.fault ≡ TextFault.Refused why = sym c.unsound.ensures ∙ cc in
    unsound_of c.args.text.now c.in-Ok.tariff c.in-Err.fault why c.in-Ok.ensures.answer c.in-Err.ensures.fault same

pub returns-in-Err-clause-read : goal.returns-in-Err-clause-read
returns-in-Err-clause-read c = λ e.
    let same : unsound_for c.in-Err.fault ≡ TextFault.ReadFault = sym c.unsound.ensures ∙ cc in
    unsound-read c.in-Err.fault same

pub returns-in-Err-clause-memory : goal.returns-in-Err-clause-memory
returns-in-Err-clause-memory c = λ e. lines_of_tariff c.args.text.now c.in-Ok.tariff c.in-Ok.ensures.answer

pub returns-in-Err-NoMemory-clause-memory : goal.returns-in-Err-NoMemory-clause-memory
returns-in-Err-NoMemory-clause-memory c = λ e.
    lines_of_starved c.args.text.now (rw c.in-Err-NoMemory.field-0-is at c.in-Err-NoMemory.ensures.answer)
