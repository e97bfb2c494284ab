use Rattle.{std.specs.Option.{option_or}, tariff_check.specs.Common.{CheckFault, Line, TooManyCells, line_of}}
use Rattle.std.proofs.Common.{ℕ, ◌<◌, ◌^◌, ◌∙◌, ◌≡◌, ◌≤◌, List, None, Option, Some, ap, arith, inl, inr, map, refl}
use Rattle.std.proofs.{Common.{subst, sym}, lemmas.{Bool.{le-ltb, lt-ltb}, Result.{err_from_is_err_and}}}
use Rattle.tariff_check.specs.{Cells.{cells_of}, Measure.{measure_of}}
use Rattle.tariff_check.specs.{Faults.{faults_of, first_some}, Stages.{cut_fault, early_fault, late_fault}}
use Rattle.tariff_check.proofs.FaultStages.{cuts_are_first, early_is_first, early_no_memory, measured_if}
use Rattle.tariff_check.proofs.FaultStages.{none_before_cuts, staged, step_is_first, step_no_memory}
use Rattle.tariff_check.proofs.checking.numbers.Goals as goal

-- if no other fault is there, too many cells are
cells_are_last : (ls : List Line) (cells : ℕ) → None ≡ early_fault ls → measure_of ls ≤ 10 ^ 18 → cut_fault ls ≡ None
    → cells ≡ cells_of ls → 64512 < cells → first_some (faults_of ls) ≡ Some (TooManyCells cells)
cells_are_last ls cells early common cuts is many =
    let above : 64512 < cells_of ls = omega (arith, is, many) in
    staged ls ∙ (ap (λ (o : Option CheckFault). option_or o (late_fault ls)) (sym early)
    ∙ (rw (le-ltb (10 ^ 18) (measure_of ls) common, cuts, lt-ltb 64512 (cells_of ls) above) refl
    ∙ ap (λ (n : ℕ). Some (TooManyCells n)) (sym is)))

pub returns-in_err-step-clause-fault : goal.returns-in_err-step-clause-fault
returns-in_err-step-clause-fault c =
    let p = err_from_is_err_and c.from_residual.result c.from_residual.ensures.1 in
    rw (p.1, p.2)
    (inr (step_is_first (map line_of c.args.lines.now) c.in_err-step.field-0.0 c.in_err-step.ensures.fault))

pub returns-in_err-step-clause-memory : goal.returns-in_err-step-clause-memory
returns-in_err-step-clause-memory c =
    let p = err_from_is_err_and c.from_residual.result c.from_residual.ensures.1 in
    rw (p.1, p.2)
    (λ e. absurd (step_no_memory (map line_of c.args.lines.now) c.in_err-step.field-0.0 c.in_err-step.ensures.fault e))

pub returns-in-Some-clause-fault : goal.returns-in-Some-clause-fault
returns-in-Some-clause-fault c = inr (early_is_first (map line_of c.args.lines.now) c.in-Some.fault c.in-Some.ensures)

pub returns-in-Some-clause-memory : goal.returns-in-Some-clause-memory
returns-in-Some-clause-memory c =
    λ e. absurd (early_no_memory (map line_of c.args.lines.now) c.in-Some.fault (sym c.in-Some.ensures) e)

pub measure-requires : goal.measure-requires
measure-requires c = measured_if (map line_of c.args.lines.now) (sym c.in_default.ensures)

pub returns-in_err-counts-clause-fault : goal.returns-in_err-counts-clause-fault
returns-in_err-counts-clause-fault c =
    let p = err_from_is_err_and c.from_residual-in_err-counts.result c.from_residual-in_err-counts.ensures.1 in
    let common : measure_of (map line_of c.args.lines.now) ≤ 10 ^ 18 =
    subst (λ m. m ≤ 10 ^ 18) c.in-Some-measure.ensures.0 c.in-Some-measure.ensures.1 in
    rw (p.1, p.2) (elim c.in_err-counts.ensures.fault [
      | inl none ↦ inl none
      | inr fault ↦ inr
          (cuts_are_first (map line_of c.args.lines.now) c.in_err-counts.field-0.0 c.in_default.ensures common fault)
    ])

pub returns-in_err-counts-clause-memory : goal.returns-in_err-counts-clause-memory
returns-in_err-counts-clause-memory c =
    let common : measure_of (map line_of c.args.lines.now) ≤ 10 ^ 18 =
    subst (λ m. m ≤ 10 ^ 18) c.in-Some-measure.ensures.0 c.in-Some-measure.ensures.1 in
    let p = err_from_is_err_and c.from_residual-in_err-counts.result c.from_residual-in_err-counts.ensures.1 in
    rw (p.1, p.2) (λ e. none_before_cuts (map line_of c.args.lines.now) (sym c.in_default.ensures) common)

pub returns-then-cells-gt-MOST_CELLS-clause-fault : goal.returns-then-cells-gt-MOST_CELLS-clause-fault
returns-then-cells-gt-MOST_CELLS-clause-fault c =
    let lines = map line_of c.args.lines.now in
    let common : measure_of lines ≤ 10 ^ 18 =
    subst (λ m. m ≤ 10 ^ 18) c.in-Some-measure.ensures.0 c.in-Some-measure.ensures.1 in
    let has = c.in_ok-counts.ensures.counts in
    let cells : c.cells-cells.result ≡ cells_of lines = c.cells-cells.ensures ∙ rw (
      c.positions-positions.ensures,
      c.zones-zones.ensures,
      c.has_holidays.ensures,
      has.month_day.0,
      has.minute.0,
      has.distance.0,
      has.time.0,
    ) refl in
    inr (cells_are_last lines c.cells-cells.result c.in_default.ensures common c.in_ok-counts.ensures.none cells
    c.if-cells-gt-MOST_CELLS.true)
