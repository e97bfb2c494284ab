use Rattle.std.proofs.Common.{◌∙◌, ap}
use Rattle.near_commands.{specs.{Common.{tree_of}, NearTariff.{numbers_of}}, proofs.RateNumbers.{numbers_are_rates}}
use Rattle.near_commands.proofs.near.text_by.Goals as goal

pub text_for-requires-clause-rates : goal.text_for-requires-clause-rates
text_for-requires-clause-rates c =
    ap numbers_of c.requires.rates ∙ numbers_are_rates (tree_of c.args.tariff.now).lines
