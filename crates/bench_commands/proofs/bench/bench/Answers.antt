use Rattle.std.proofs.Common.{◌∙◌, ◌≡◌, Err, ap, arith, refl, sym}
use Rattle.call_ends.proofs.Laws.{as_found, as_refused, carries-looked, no_fault}
use Rattle.store_commands.proofs.Laws.{not_memory-barred}
use Rattle.bench_commands.{specs.Bench.{bench_command}, proofs.BenchEnds.{carries-bench, course-barred}}
use Rattle.call_ends.specs.declared.ending.Ended.TheVariants as ended
use Rattle.bench_commands.proofs.bench.bench.Goals as goal

-- there is no sealed store
pub returns-in-Err-clause-carries : goal.returns-in-Err-clause-carries
returns-in-Err-clause-carries g c =
    let rest = g.F.Files.rest c.args.files.now in
    let opened = c.open_sealed.ensures in
    carries-looked g.F.Files g.B.Printer bench_command c.args.files.now c.args.files.now c.args.board.now
    c.open_sealed.new.board c.args.steps.now c.open_sealed.new.steps c.in-Err.why tt (λ status w. w)
    (λ known. course-barred rest rest _ _ _ _ _ _ refl opened.opens.reads.text c.in-Err.why c.in-Err.ensures.barred
    (λ good. as_refused c.open_sealed.result _ c.in-Err.why ended.BoardFault c.in-Err.is good (opened.exact known.1))
    (λ f. opened.opens.cause (c.in-Err.is ∙ ap Err f)))
    (λ later le tells told. omega (arith, le, opened.steps))
    (λ e. absurd (c.in-Err.ensures.not_read e)) c.in-Err.ensures.cause (λ word not. refl)
    (λ known word never. refl) (λ read good word. refl) c.in-Err.ensures.looks

pub returns-clause-carries : goal.returns-clause-carries
returns-clause-carries g c =
    let opened = c.open_sealed.ensures in
    carries-bench g.F.Files g.B.Printer (no_fault c.open_sealed.result c.in-Ok.store ended.BoardFault c.in-Ok.is)
    opened.opens (g.met.B.Printer.only_now c.open_sealed.new.board) opened.steps
    (λ told. record {
      durable = c.in-Ok.store.0;
      is = as_found c.open_sealed.result _ c.in-Ok.store ended.BoardFault c.in-Ok.is (opened.exact told);
    })
    c.judgement.ensures.makes c.print_made.ensures

-- ---- memory ran out

pub returns-in-Err-clause-memory : goal.returns-in-Err-clause-memory
returns-in-Err-clause-memory g c = λ tells told e. absurd (not_memory-barred c.in-Err.why c.in-Err.ensures.barred e)

pub returns-clause-memory : goal.returns-clause-memory
returns-clause-memory g c = λ tells told e.
    let opened = c.open_sealed.ensures in
    let made = c.judgement.ensures.makes (g.B.Printer.image c.args.board.now) in
    let printed = c.print_made.ensures made.not_board in
    record {
      store = c.in-Ok.store;
      is = as_found c.open_sealed.result _ c.in-Ok.store ended.BoardFault c.in-Ok.is (opened.exact told);
      may = c.judgement.ensures.memory tells
          (sym (printed.ends (λ f. absurd (let same : ended.BoardFault ≡ ended.NoMemory = sym f ∙ e in cc))) ∙ e);
    }
