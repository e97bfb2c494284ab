-- Rules: what the lines of a parameter text have said so far.
use Rattle.{std.specs.Prelude.{[], ℕ, ℤ, List, None, Option}, seal_record.specs.Common.{Mode}}

-- what lines have said so far is some of the parameters, and the offsets of the list up to the last line
pub record ParamsSoFar : Type 0 where
  pub taxi : Option (List ℕ)
  pub constant : Option ℕ
  pub mode : Option Mode
  pub hold_time : Option ℕ
  pub offsets : List (ℕ × ℤ)
  pub secured : Option ℤ

-- before the first line nothing has been said
abbrev pub no_params_yet : ParamsSoFar
no_params_yet = record { taxi = None; constant = None; mode = None; hold_time = None; offsets = []; secured = None }
