use Rattle.std.proofs.{Common.{[], ◌-◌, ◌∙◌, ◌≡◌, None, ap, arith, refl, rules, sym}, lemmas.List.{append-nil}}
use Rattle.{std.proofs.lemmas.Result.{err_from_is_err_and}, data_port.specs.Common.{BoardFault, TooLong}}
use Rattle.{outside.proofs.Laws.{keeps_none, keeps_then, may_rise_not, rises_not}, data_port.specs.Reading.{Standing}}
use Rattle.data_port.proofs.Pieces.{served_long, served_next, stopped, stopped_steps, stopped_whole, whole_steps}
use Rattle.data_port.proofs.serving.serve.Goals as goal

pub returns : goal.returns
returns g c = record {
  serves = served_long c.loop-left.invariant.so_far (omega (arith, c.loop-left-test.false));
  steps = search rules;
  others = c.loop-left.invariant.others;
  read_fault = search rules;
  board_fault = rises_not (λ same. absurd (let bad : TooLong ≡ BoardFault = cc in cc))
      c.loop-left.invariant.faults;
  counts = λ other. may_rise_not (c.loop-left.invariant.counts other);
  store = c.loop-left.invariant.store;
}

pub loop-left-init : goal.loop-left-init
loop-left-init g c = record {
  so_far = record {
    taken = [];
    stands = c.new-port.ensures.taken;
    going = ap (λ (s : Standing). s.failed) c.new-port.ensures.new;
    count = ap (λ (s : Standing). s.taken) c.new-port.ensures.new;
    room = omega arith;
    split = λ k. refl;
    shown = λ t. sym (append-nil (g.B.Printer.printed c.args.board.now));
    bounded = omega arith;
  };
  others = λ other ne. refl;
  counts = λ other. refl;
  faults = refl;
  store = keeps_none g.B.Printer c.args.board.now;
}

-- it stops
pub returns-in_err-next-clause-serves : goal.returns-in_err-next-clause-serves
returns-in_err-next-clause-serves g c =
    let p = err_from_is_err_and c.from_residual.result c.from_residual.ensures.1 in
    rw (p.1, p.2) (stopped c.loop-left.invariant.so_far c.in_err-next.field-0.0 c.serve_next.new.port
    (g.F.Files.rest c.serve_next.new.files c.args.word) (g.B.Printer.printed c.serve_next.new.board) c.min-most.result
    c.serve_next.new.steps (omega (arith, c.loop-left-test.true)) (omega (arith, c.min-most.ensures))
    c.in_err-next.ensures.stops)

pub returns-in_err-next-clause-steps : goal.returns-in_err-next-clause-steps
returns-in_err-next-clause-steps g c =
    stopped_steps c.loop-left.invariant.so_far c.in_err-next.field-0.0 c.serve_next.new.port
    (g.F.Files.rest c.serve_next.new.files c.args.word) (g.B.Printer.printed c.serve_next.new.board) c.min-most.result
    c.serve_next.new.steps c.in_err-next.ensures.stops

-- it has come to the end
pub returns-in-None-clause-serves : goal.returns-in-None-clause-serves
returns-in-None-clause-serves g c =
    stopped_whole c.loop-left.invariant.so_far c.serve_next.new.port
    (g.F.Files.rest c.serve_next.new.files c.args.word) (g.B.Printer.printed c.serve_next.new.board) c.min-most.result
    c.serve_next.new.steps (omega (arith, c.loop-left-test.true))
    (rw c.in-None.is at c.in_ok-next.ensures.stops)

pub returns-in-None-clause-steps : goal.returns-in-None-clause-steps
returns-in-None-clause-steps g c =
    whole_steps c.loop-left.invariant.so_far c.serve_next.new.port
    (g.F.Files.rest c.serve_next.new.files c.args.word) (g.B.Printer.printed c.serve_next.new.board) c.min-most.result
    c.serve_next.new.steps None (rw c.in-None.is at c.in_ok-next.ensures.stops)

-- it goes on
pub loop-left-preserved : goal.loop-left-preserved
loop-left-preserved g c =
    let more = rw c.in-Some.is at c.in_ok-next.ensures.more in
    record {
      so_far = served_next c.loop-left.invariant.so_far c.serve_next.new.port
          (g.F.Files.rest c.serve_next.new.files c.args.word) (g.B.Printer.printed c.serve_next.new.board)
          c.in-Some.count (c.loop-left.left - c.in-Some.count) c.serve_next.new.steps
          (omega (arith, more.0, c.min-most.ensures)) more.1;
      others = λ other ne. c.serve_next.ensures.others other ne ∙ c.loop-left.invariant.others other ne;
      counts = λ other. (c.in_ok-next.ensures.counts other).kept (λ no. absurd cc)
          ∙ c.loop-left.invariant.counts other;
      faults = c.in_ok-next.ensures.board_fault.kept (λ no. absurd cc) ∙ c.loop-left.invariant.faults;
      store = keeps_then g.B.Printer c.args.board.now c.loop-left.board c.serve_next.new.board
          c.loop-left.invariant.store c.serve_next.ensures.store;
    }
