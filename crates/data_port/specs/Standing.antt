-- Rules: what contracts see of a port.
use Rattle.std.specs.Prelude.{[], ℕ, Bool, List, false}

-- a port keeps how many bytes it has taken, those of an unfinished request, and whether a bad place has come; once one
-- has come, `taken` is that place
pub record Standing : Type 0 where
  pub taken : ℕ
  pub part : List ℕ
  pub failed : Bool

-- a port is between two requests if it has taken `taken` bytes and no request is unfinished
abbrev pub between : ℕ → Standing
between taken = record { taken = taken; part = []; failed = false }
