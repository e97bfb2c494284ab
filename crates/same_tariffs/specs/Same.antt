-- Rules: when two settings are the same but for tariffs that are the same.
use Rattle.std.specs.Prelude.{◌≡◌}
use Rattle.{tariff_compare.specs.Same.{AreSame}, same_tariffs.specs.Contexts.{IsSettingInRange}}
use Rattle.same_tariffs.specs.Common.{Setting, Tree}

-- two settings of two tariffs are the same if both are in range, the tariffs are the same under the constant, and all
-- else is equal
pub record AreSameSettings (a b : Tree) (s t : Setting) : Type 0 where
  pub one : IsSettingInRange a s
  pub other : IsSettingInRange b t
  pub tariffs : AreSame a b s.constant
  pub others : record s { tariff = t.tariff } ≡ t
