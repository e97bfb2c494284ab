-- The first context that the grid has is the first of the meter.
use Rattle.std.proofs.{Common.{ℕ, ◌∙◌, ◌≡◌, Bool, None, Option, Some, false, sym, true}, lemmas.Bool.{false≢true}}
use Rattle.tariff_compare.specs.Common.{MeterContext, Question, Tree, positions_of, tables_of, zones_of}
use Rattle.tariff_compare.specs.{Contexts.{HasTables, IsFirstOrNone, IsMeterContext, order_of}, Searches.{first_met}}
use Rattle.tariff_compare.{specs.Grids.{grid_of}, proofs.{Bridge.{met_is}, Covers.{IsCover, cover}}}
use Rattle.tariff_compare.{specs.Sides.{is_met, is_met_by, side_of}, proofs.Found.{IsFirstOf, IsOfGrid, grid_first}}
use Rattle.tariff_compare.proofs.{Carried.{StandsFor, met_carried}, GridIs.{is_ordered, of_grid}, Order.{le_before}}

-- two tariffs that are compared
pub record AreCompared (t u : Tree) (k : ℕ) : Type 0 where
  pub first : HasTables t k
  pub second : HasTables u k
  pub positions : positions_of t.lines ≡ positions_of u.lines
  pub zones : zones_of t.lines ≡ zones_of u.lines

-- a context of one is one of the other
pub other_context : (t u : Tree) (k : ℕ) (m : MeterContext) → AreCompared t u k → IsMeterContext t m
    → IsMeterContext u m
other_context t u k m are is = record {
  position = rw (← are.positions) is.position;
  zone = rw (← are.zones) is.zone;
  time = is.time;
  ticks = is.ticks;
  pulses = is.pulses;
}

-- if the answer is yes, it is yes in the context of the grid that stands for it
met_there : (t u : Tree) (k : ℕ) (question : Question) (n c : MeterContext) → AreCompared t u k → IsMeterContext t n
    → IsCover t u k n c → is_met t u k question n ≡ true → is_met_by (side_of t k) (side_of u k) question c ≡ true
met_there t u k question n c are is cover h =
    let t_is : StandsFor t k n c = record {
      has = are.first;
      first = is;
      second = cover.context;
      same = cover.first;
      ticks = cover.ticks;
      pulses = cover.pulses;
    } in
    let u_is : StandsFor u k n c = record {
      has = are.second;
      first = other_context t u k n are is;
      second = other_context t u k c are cover.context;
      same = cover.second;
      ticks = cover.ticks;
      pulses = cover.pulses;
    } in
    met_is t u k question c are.first are.second cover.context (other_context t u k c are cover.context)
    ∙ met_carried t u k question n c t_is u_is h

not_both : (b : Bool) → b ≡ true → b ≡ false → ⊥
not_both b is not = false≢true (sym not ∙ is)

first_by_cases : (t u : Tree) (k : ℕ) (question : Question) (r : Option MeterContext) → AreCompared t u k
    → IsFirstOf (is_met_by (side_of t k) (side_of u k) question) (IsOfGrid (grid_of (tables_of t k) (tables_of u k))) r
    → IsFirstOrNone t (λ m. is_met t u k question m ≡ true) r
first_by_cases t u k question None are found = λ n is h.
    let c = cover t u k n are.first are.second is in
    not_both _ (met_there t u k question n c.0 are is c.1 h) (found c.0 c.1.grid)
first_by_cases t u k question (Some m) are found =
    let context = of_grid t k (tables_of u k) m found.0 in
    record {
      context = context;
      has = sym (met_is t u k question m are.first are.second context (other_context t u k m are context)) ∙ found.1;
      none_earlier = λ n is earlier h.
          let c = cover t u k n are.first are.second is in
          not_both _ (met_there t u k question n c.0 are is c.1 h)
          (found.2 c.0 c.1.grid (le_before (order_of c.0) (order_of n) (order_of m) c.1.le earlier));
    }

-- the answer of the search is the first context of a meter in which the answer to the question is yes, or none
pub first_is_first : (t u : Tree) (k : ℕ) (question : Question) → AreCompared t u k
    → IsFirstOrNone t (λ m. is_met t u k question m ≡ true) (first_met t u k question)
first_is_first t u k question are =
    first_by_cases t u k question (first_met t u k question) are
    (grid_first (is_met_by (side_of t k) (side_of u k) question) (grid_of (tables_of t k) (tables_of u k))
    (is_ordered (tables_of t k) (tables_of u k)))
