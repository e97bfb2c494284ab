-- Rules: what the bench goes by.
use Rattle.{tariff_tree.specs.declared.tariff.Tariff.{Tariff}, meter_model.specs.Setting.{setting_by}}
use Rattle.verify_bench.specs.Common.{Params, Setting, tree_of}

-- a tariff under parameters gives the setting of the tariff's tree and of the parameters
abbrev pub setting_under : Tariff → Params → Setting
setting_under tariff params = setting_by (tree_of tariff) params
