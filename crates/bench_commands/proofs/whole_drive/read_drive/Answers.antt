use Rattle.std.proofs.Common.{◌++◌, ◌∙◌, ◌≡◌, All, List, Some, ap, refl, subst, sym}
use Rattle.{std.proofs.lemmas.List.Elements.{All-append}, bench_commands.proofs.WholeDrives.{whole_drive}}
use Rattle.call_ends.proofs.Laws.{ends_apart, no_fault, not_true, same_fault}
use Rattle.bench_commands.specs.{BenchSteps.{IsWholeDrive, fault_by}, Common.{IsRunInRange, Run, Stop}}
use Rattle.bench_commands.proofs.WholeDrives.{IsSoFar, no_drive, no_room, reads_part, smaller, so_far_more, stop_at}
use Rattle.drive_source.specs.declared.source.Stop.TheVariants as stops
use Rattle.call_ends.specs.declared.ending.Ended.TheVariants as ended
use Rattle.bench_commands.proofs.whole_drive.read_drive.Goals as goal

-- the runs that were there, and those of a part of the drive
grown_by : (runs part piece now : List Run) → now ≡ runs ++ piece → piece ≡ part → now ≡ runs ++ part
grown_by runs part piece now is same = is ∙ ap (λ (x : List Run). runs ++ x) same

pub returns-in-Err-clause-refused : goal.returns-in-Err-clause-refused
returns-in-Err-clause-refused g c = λ told.
    let rest = g.F.Files.rest in
    let word = c.args.word in
    let s = c.loop-source.invariant.so_far in
    no_room g.F.Files.tells c.loop-source.source (rest c.args.files.now word) (rest c.loop-source.files word)
    (rest c.next-stop.new.files word) c.loop-source.runs.items c.next-stop.new.runs.items s
    c.next-stop.new.self c.next-stop.result (λ none. c.next-stop.ensures.more none s.given s.stands)
    (λ x is. stop_at c.next-stop.result _ x is c.next-stop.ensures.stops s.given s.stands) told

pub returns-in-None-clause-whole : goal.returns-in-None-clause-whole
returns-in-None-clause-whole g c = λ told.
    let rest = g.F.Files.rest in
    let word = c.args.word in
    let s = c.loop-source.invariant.so_far in
    let runs = c.loop-source.runs.items in
    let part = c.next-stop.new.runs.items in
    let grown = grown_by runs part c.as_slice.result.now c.extend_from_slice.new.self.items c.in-Ok.ensures.items
    c.as_slice.ensures.value in
    subst (λ (x : List Run). IsWholeDrive (rest c.args.files.now word) (rest c.next-stop.new.files word) x) (sym grown)
    (whole_drive g.F.Files.tells c.loop-source.source (rest c.args.files.now word) (rest c.loop-source.files word)
    (rest c.next-stop.new.files word) runs part s
    c.in-Some.stop (sym c.fault_of.ensures ∙ c.in-None.is) (c.in-Some.ensures.stops s.given s.stands) told)

pub returns-in-None-clause-range : goal.returns-in-None-clause-range
returns-in-None-clause-range g c =
    let runs = c.loop-source.runs.items in
    let part = c.next-stop.new.runs.items in
    let grown = grown_by runs part c.as_slice.result.now c.extend_from_slice.new.self.items c.in-Ok.ensures.items
    c.as_slice.ensures.value in
    subst (All IsRunInRange) (sym grown)
    (All-append IsRunInRange runs part c.loop-source.invariant.range c.next-stop.ensures.range)

pub returns-in-Some-fault_of-clause-refused : goal.returns-in-Some-fault_of-clause-refused
returns-in-Some-fault_of-clause-refused g c = λ told.
    let rest = g.F.Files.rest in
    let word = c.args.word in
    let s = c.loop-source.invariant.so_far in
    no_drive g.F.Files.tells c.loop-source.source (rest c.args.files.now word) (rest c.loop-source.files word)
    (rest c.next-stop.new.files word) c.loop-source.runs.items c.next-stop.new.runs.items s
    c.in-Some.stop c.in-Some-fault_of.why (sym c.fault_of.ensures ∙ c.in-Some-fault_of.is)
    (c.in-Some.ensures.stops s.given s.stands) told

-- a read failed only if the reading stopped by that, and no board failed
stopped_by : (stop : Stop) → fault_by stop ≡ Some ended.ReadFault → stop ≡ stops.ReadFault
stopped_by stops.Whole e = absurd cc
stopped_by (stops.BadLine line) e = absurd cc
stopped_by stops.TooLong e = absurd cc
stopped_by stops.ReadFault e = refl

not_board : (stop : Stop) → fault_by stop ≡ Some ended.BoardFault → ⊥
not_board stops.Whole e = absurd cc
not_board (stops.BadLine line) e = absurd cc
not_board stops.TooLong e = absurd cc
not_board stops.ReadFault e = absurd cc

pub loop-source-smaller : goal.loop-source-smaller
loop-source-smaller g c =
    let rest = g.F.Files.rest in
    let word = c.args.word in
    let s = c.loop-source.invariant.so_far in
    smaller g.F.Files.tells c.loop-source.source (rest c.args.files.now word) (rest c.loop-source.files word)
    (rest c.next-stop.new.files word) c.loop-source.runs.items c.next-stop.new.runs.items s
    c.next-stop.new.self (c.next-stop.ensures.more c.in_default.is s.given s.stands)

pub loop-source-preserved : goal.loop-source-preserved
loop-source-preserved g c =
    let rest = g.F.Files.rest in
    let word = c.args.word in
    let s = c.loop-source.invariant.so_far in
    let runs = c.loop-source.runs.items in
    let part = c.next-stop.new.runs.items in
    let grown = grown_by runs part c.as_slice.result.now c.extend_from_slice.new.self.items c.in-Ok.ensures.items
    c.as_slice.ensures.value in
    record {
      so_far = subst (λ (x : List Run). IsSoFar g.F.Files.tells c.next-stop.new.self (rest c.args.files.now word)
          (rest c.next-stop.new.files word) x) (sym grown)
          (so_far_more g.F.Files.tells c.loop-source.source (rest c.args.files.now word) (rest c.loop-source.files word)
          (rest c.next-stop.new.files word) runs part s
          c.next-stop.new.self (c.next-stop.ensures.more c.in_default.is s.given s.stands));
      range = subst (All IsRunInRange) (sym grown)
          (All-append IsRunInRange runs part c.loop-source.invariant.range c.next-stop.ensures.range);
      read = (
        λ other differs. c.next-stop.ensures.others other differs ∙ c.loop-source.invariant.read.0 other differs,
        λ other. (c.next-stop.ensures.counts other).kept
            (not_true c.has_failed.result c.if-has_failed.false c.has_failed.ensures)
            ∙ c.loop-source.invariant.read.1 other,
      );
    }

-- ---- a read failed

pub returns-then-has_failed-clause-refused : goal.returns-then-has_failed-clause-refused
returns-then-has_failed-clause-refused g c = λ told.
    let rest = g.F.Files.rest in
    let word = c.args.word in
    let s = c.loop-source.invariant.so_far in
    no_drive g.F.Files.tells c.loop-source.source (rest c.args.files.now word) (rest c.loop-source.files word)
    (rest c.next-stop.new.files word)
    c.loop-source.runs.items c.next-stop.new.runs.items s stops.ReadFault ended.ReadFault refl
    (stop_at c.next-stop.result _ stops.ReadFault (c.has_failed.ensures.0 c.if-has_failed.true)
    c.next-stop.ensures.stops s.given s.stands) told

-- ---- what is read

pub returns-then-has_failed-clause-reads : goal.returns-then-has_failed-clause-reads
returns-then-has_failed-clause-reads g c =
    let failed = c.has_failed.ensures.0 c.if-has_failed.true in
    reads_part c.loop-source.files _ c.loop-source.invariant.read c.next-stop.ensures.others
    (λ not other. (c.next-stop.ensures.counts other).kept not) c.next-stop.ensures.read_fault (λ e. failed) (λ f. refl)
    (λ tells. tt) (λ e. ends_apart ended.ReadFault ended.BoardFault refl (same_fault _ _ _ refl e))

pub returns-in-Err-clause-reads : goal.returns-in-Err-clause-reads
returns-in-Err-clause-reads g c =
    let went = not_true c.has_failed.result c.if-has_failed.false c.has_failed.ensures in
    reads_part c.loop-source.files _ c.loop-source.invariant.read c.next-stop.ensures.others
    (λ not other. (c.next-stop.ensures.counts other).kept not) c.next-stop.ensures.read_fault
    (λ e. absurd (ends_apart ended.NoMemory ended.ReadFault refl (same_fault _ _ _ refl e))) (λ f. absurd (went f))
    (λ tells. tt) (λ e. ends_apart ended.NoMemory ended.BoardFault refl (same_fault _ _ _ refl e))

pub returns-in-None-clause-reads : goal.returns-in-None-clause-reads
returns-in-None-clause-reads g c =
    let went = not_true c.has_failed.result c.if-has_failed.false c.has_failed.ensures in
    reads_part c.loop-source.files _ c.loop-source.invariant.read c.next-stop.ensures.others
    (λ not other. (c.next-stop.ensures.counts other).kept not) c.next-stop.ensures.read_fault
    (λ e. absurd (no_fault _ _ _ refl e)) (λ f. absurd (went f))
    (λ tells. (returns-in-None-clause-whole g c tells).none_left) (no_fault _ _ _ refl)

pub returns-in-Some-fault_of-clause-reads : goal.returns-in-Some-fault_of-clause-reads
returns-in-Some-fault_of-clause-reads g c =
    let went = not_true c.has_failed.result c.if-has_failed.false c.has_failed.ensures in
    let is = sym c.fault_of.ensures ∙ c.in-Some-fault_of.is in
    reads_part c.loop-source.files _ c.loop-source.invariant.read c.next-stop.ensures.others
    (λ not other. (c.next-stop.ensures.counts other).kept not) c.next-stop.ensures.read_fault
    (λ e. c.in-Some.is
    ∙ ap Some (stopped_by c.in-Some.stop (is ∙ ap Some (same_fault _ _ _ refl e)))) (λ f. absurd (went f))
    (λ tells. tt) (λ e. not_board c.in-Some.stop (is ∙ ap Some (same_fault _ _ _ refl e)))
