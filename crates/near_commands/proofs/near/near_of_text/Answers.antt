use Rattle.{std.proofs.Common.{subst, sym}, call_ends.specs.Answer.{Answer}, near_commands.specs.Common.{IsMade}}
use Rattle.near_commands.proofs.NearTexts.{near_read, near_unparsed}
use Rattle.near_commands.proofs.near.near_of_text.Goals as goal

pub returns-in-Ok : goal.returns-in-Ok
returns-in-Ok c =
    subst (λ (a : Answer). IsMade a c.near_of_tariff.result)
    (sym (near_read c.args.text.now c.in-Ok.tariff c.in-Ok.ensures.answer)) c.near_of_tariff.ensures

pub returns-in-Err : goal.returns-in-Err
returns-in-Err c =
    rw c.unparsed.ensures (near_unparsed c.args.text.now c.in-Err.fault c.in-Err.ensures.answer)
