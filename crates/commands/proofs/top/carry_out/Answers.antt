use Rattle.{std.proofs.Common.{arith}, call_ends.proofs.Laws.{carries-shut, carries-unread}}
use Rattle.{tariff_commands.specs.Check.{check_command}, store_commands.specs.Sealed.{sealed_command}}
use Rattle.store_commands.specs.{Mark.{mark_command}, Totals.{totals_command}}
use Rattle.drive_commands.specs.Generate.{gen_command}
use Rattle.commands.proofs.top.carry_out.Goals as goal

-- ---- commands that are given files and a board

pub returns-in-Tables : goal.returns-in-Tables
returns-in-Tables g c = rw c.in-Tables.is (record { carries = c.print_tables.ensures; comes = tt })

pub returns-in-Fare : goal.returns-in-Fare
returns-in-Fare g c = rw c.in-Fare.is (record { carries = c.fare.ensures; comes = tt })

pub returns-in-Seal : goal.returns-in-Seal
returns-in-Seal g c = rw c.in-Seal.is (record {
  carries = c.seal_store.ensures.carries;
  comes = c.seal_store.ensures.comes;
})

pub returns-in-Run : goal.returns-in-Run
returns-in-Run g c = rw c.in-Run.is (record { carries = c.run.ensures.carries; comes = c.run.ensures.runs })

pub returns-in-Bench : goal.returns-in-Bench
returns-in-Bench g c = rw c.in-Bench.is (record { carries = c.bench.ensures.carries; comes = tt })

pub returns-in-Port : goal.returns-in-Port
returns-in-Port g c = rw c.in-Port.is (record { carries = c.serve_requests.ensures; comes = tt })

pub returns-in-Offsets : goal.returns-in-Offsets
returns-in-Offsets g c = rw c.in-Offsets.is (record { carries = c.print_offsets.ensures; comes = tt })

pub returns-in-Shifts : goal.returns-in-Shifts
returns-in-Shifts g c = rw c.in-Shifts.is (record { carries = c.print_shifts.ensures; comes = tt })

pub returns-in-Form : goal.returns-in-Form
returns-in-Form g c = rw c.in-Form.is (record { carries = c.print_form.ensures; comes = tt })

pub returns-in-Lines : goal.returns-in-Lines
returns-in-Lines g c = rw c.in-Lines.is (record { carries = c.print_lines.ensures; comes = tt })

pub returns-in-Rates : goal.returns-in-Rates
returns-in-Rates g c = rw c.in-Rates.is (record { carries = c.print_rates.ensures; comes = tt })

pub returns-in-Explain : goal.returns-in-Explain
returns-in-Explain g c = rw c.in-Explain.is (record { carries = c.explain.ensures; comes = tt })

pub returns-in-Story : goal.returns-in-Story
returns-in-Story g c = rw c.in-Story.is (record { carries = c.tell_stories.ensures; comes = tt })

pub returns-in-Compare : goal.returns-in-Compare
returns-in-Compare g c = rw c.in-Compare.is (record { carries = c.print_comparison.ensures; comes = tt })

pub returns-in-Near : goal.returns-in-Near
returns-in-Near g c = rw c.in-Near.is (record { carries = c.print_near.ensures; comes = tt })

pub returns-in-Faults : goal.returns-in-Faults
returns-in-Faults g c = rw c.in-Faults.is (record { carries = c.print_faults.ensures; comes = tt })

-- ---- commands that are given no board, or no files

pub returns-in-Check : goal.returns-in-Check
returns-in-Check g c = rw c.in-Check.is (record {
  carries = carries-shut g.F.Files g.B.Printer check_command c.args.files.now c.check_tariff.new.files c.args.board.now
      c.args.steps.now c.check_tariff.result (λ none. none) (λ told. told) (λ h later le. omega (arith, le))
      (c.check_tariff.ensures (g.B.Printer.image c.args.board.now));
  comes = tt;
})

pub returns-in-Totals : goal.returns-in-Totals
returns-in-Totals g c = rw c.in-Totals.is (record {
  carries = carries-unread g.F.Files g.B.Printer totals_command _ _ _ _ _ _ (λ told. told) (λ later h. h)
      (c.print_store.ensures _);
  comes = tt;
})

pub returns-in-Gen : goal.returns-in-Gen
returns-in-Gen g c = rw (c.in-Gen.is, ← c.get.ensures.value) (record {
  carries = carries-unread g.F.Files g.B.Printer (gen_command c.in-Gen.seed c.get.result) _ _ _ _ _ _ (λ told. told)
      (λ later h. h) (c.generate.ensures _);
  comes = tt;
})

pub returns-in-Mark : goal.returns-in-Mark
returns-in-Mark g c = rw c.in-Mark.is (record {
  carries = carries-unread g.F.Files g.B.Printer (mark_command c.in-Mark.driver) _ _ _ _ _ _ (λ told. told)
      (λ later h. h) (c.print_mark.ensures _);
  comes = tt;
})

pub returns-in-Sealed : goal.returns-in-Sealed
returns-in-Sealed g c = rw c.in-Sealed.is (record {
  carries = carries-unread g.F.Files g.B.Printer sealed_command _ _ _ _ _ _ (λ told. told) (λ later h. h)
      (c.print_sealed.ensures _);
  comes = tt;
})
