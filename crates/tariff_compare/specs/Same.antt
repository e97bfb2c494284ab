-- Rules: when two tariffs are the same under a constant.
use Rattle.std.specs.Prelude.{ℕ, ◌≡◌, None, Some, is_some, true}
use Rattle.tariff_compare.specs.Common.{ChoiceKind, MeterContext, Tree, display_step, positions_of, supplement_of}
use Rattle.tariff_compare.specs.{Common.{zones_of}, Contexts.{IsFirst, IsMeterContext}}
pub use Rattle.tariff_compare.specs.Kinds.{cost_same, difference_at, rate_in}

-- two tariffs have the same frame if their decimals, display steps, roundings, positions, zones and supplements are
-- the same
pub record HasSameFrame (t u : Tree) : Type 0 where
  pub decimals : t.decimals ≡ u.decimals
  pub step : display_step t ≡ display_step u
  pub positions : positions_of t.lines ≡ positions_of u.lines
  pub zones : zones_of t.lines ≡ zones_of u.lines
  pub supplements : (number : ℕ) → supplement_of t.lines number ≡ supplement_of u.lines number

-- two tariffs are the same under a constant if they have the same frame, and differ in no context of a meter
pub record AreSame (t u : Tree) (k : ℕ) : Type 0 where
  pub frame : HasSameFrame t u
  pub contexts : (m : MeterContext) → IsMeterContext t m → difference_at t u k m ≡ None

-- a kind differs first between two tariffs, in a context of a meter, if their frames are the same, it is what differs
-- there, and nothing differs in an earlier context
pub record DiffersFirst (t u : Tree) (k : ℕ) (kind : ChoiceKind) (m : MeterContext) : Type 0 where
  pub frame : HasSameFrame t u
  pub there : difference_at t u k m ≡ Some kind
  pub first : IsFirst t (λ n. is_some (difference_at t u k n) ≡ true) m
