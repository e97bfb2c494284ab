use Rattle.{std.proofs.Common.{ap, inr, refl, sym}, tariff_commands.specs.Common.{shows}}
use Rattle.tariff_commands.proofs.form.form_of.Goals as goal

pub returns-in-Ok : goal.returns-in-Ok
returns-in-Ok c = inr (ap shows (sym c.in-Ok.ensures), refl)
