use Rattle.std.proofs.Common.{◌∙◌}
use Rattle.tariff_check.{specs.Common.{Initial, Minimum, Rate, tree_of}, proofs.ChoiceLaws.{in_force}}
use Rattle.tariff_check.proofs.checked.Checked.line_in_force.Goals as goal

pub returns-in-Rate : goal.returns-in-Rate
returns-in-Rate c =
    rw (
      c.in-Rate.is,
      ← in_force Rate (tree_of c.args.self.now).lines c.as_slice.result.now c.args.x.now
          (c.as_slice.ensures.value ∙ c.parts-parts.ensures.parts.choices Rate),
    ) c.line_of_first.ensures

pub returns-in-Initial : goal.returns-in-Initial
returns-in-Initial c =
    rw (
      c.in-Initial.is,
      ← in_force Initial (tree_of c.args.self.now).lines c.as_slice-in-Initial.result.now c.args.x.now
          (c.as_slice-in-Initial.ensures.value ∙ c.parts-parts.ensures.parts.choices Initial),
    ) c.line_of_first-in-Initial.ensures

pub returns-in-Minimum : goal.returns-in-Minimum
returns-in-Minimum c =
    rw (
      c.in-Minimum.is,
      ← in_force Minimum (tree_of c.args.self.now).lines c.as_slice-in-Minimum.result.now c.args.x.now
          (c.as_slice-in-Minimum.ensures.value ∙ c.parts-parts.ensures.parts.choices Minimum),
    ) c.line_of_first-in-Minimum.ensures
