use Rattle.std.proofs.Common.{◌∙◌, ap}
use Rattle.slot_store.{specs.Verdicts.{content_of_open}, proofs.ScanAnswers.{open_held}}
use Rattle.slot_store.proofs.scanning.slot_content.Goals as goal

pub returns-in-Some : goal.returns-in-Some
returns-in-Some g c =
    ap content_of_open c.in-Some.ensures ∙ open_held g.T.Body.reads c.args.slot.now c.copy_from_slice.new.self
    c.told-slot c.if-slot-ne-OPEN.false c.copy_from_slice.ensures.after

pub returns-in-None : goal.returns-in-None
returns-in-None g c =
    ap content_of_open c.in-None.ensures ∙ open_held g.T.Body.reads c.args.slot.now c.copy_from_slice.new.self
    c.told-slot c.if-slot-ne-OPEN.false c.copy_from_slice.ensures.after
