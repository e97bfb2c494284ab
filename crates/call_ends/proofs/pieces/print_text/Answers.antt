use Rattle.std.proofs.Common.{ℕ, ◌++◌, ◌+◌, ◌<◌, ◌∙◌, ◌≡◌, ◌≤◌, List, ap, append_assoc, arith, drop, length, min, refl}
use Rattle.std.proofs.{Common.{rules, subst, sym, take, true}, lemmas.List.{take-append-drop}}
use Rattle.{outside.proofs.Laws.{begins_after, begins_more, keeps_print, keeps_then}, call_ends.specs.Common.{Begins}}
use Rattle.call_ends.specs.Pieces.{pieces_of}
use Rattle.call_ends.proofs.pieces.print_text.Goals as goal

-- a piece and what is left behind it
parted : (count : ℕ) (rest piece more : List ℕ) → piece ≡ take count rest → more ≡ drop count rest
    → rest ≡ piece ++ more
parted count rest piece more front back = sym (rw (front, back) (take-append-drop count rest))

moved : (text done rest piece more : List ℕ) → text ≡ done ++ rest → rest ≡ piece ++ more
    → text ≡ (done ++ piece) ++ more
moved text done rest piece more split parts =
    split ∙ ap (λ (xs : List ℕ). done ++ xs) parts ∙ sym (append_assoc done piece more)

-- a step for a piece of 512 bytes, or for the last one
one_piece : (steps before rest most more total start : ℕ) → steps ≡ before + 1 → most ≡ min rest 512
    → more + most ≡ rest → 0 < rest → before + pieces_of rest ≤ start + total
    → steps + pieces_of more ≤ start + total
one_piece steps before rest most more total start is least parts some so_far =
    omega (arith, is, least, parts, some, so_far)

pub returns-in_err-print-clause-begun : goal.returns-in_err-print-clause-begun
returns-in_err-print-clause-begun g c = λ told.
    let printed = g.B.Printer.printed in
    let inv = c.loop-rest.invariant in
    let rest = c.loop-rest.rest.now in
    let piece = c.split_at.result.0.now in
    let more = c.split_at.result.1.now in
    let parts : rest ≡ piece ++ more =
    parted c.min.result rest piece more c.split_at.ensures.front c.split_at.ensures.back in
    let whole = moved c.args.text.now inv.done rest piece more inv.split parts in
    subst (λ (x : List ℕ). Begins (printed c.args.board.now) (printed c.print.new.self) x) (sym whole)
    (begins_more (printed c.args.board.now) (printed c.print.new.self) (inv.done ++ piece) more
    (begins_after (printed c.args.board.now) (printed c.loop-rest.board) (printed c.print.new.self) inv.done piece
    (inv.printed told) (c.print.ensures.begun told)))

pub loop-rest-preserved : goal.loop-rest-preserved
loop-rest-preserved g c =
    let printed = g.B.Printer.printed in
    let inv = c.loop-rest.invariant in
    let rest = c.loop-rest.rest.now in
    let piece = c.split_at.result.0.now in
    let more = c.split_at.result.1.now in
    let parts : rest ≡ piece ++ more =
    parted c.min.result rest piece more c.split_at.ensures.front c.split_at.ensures.back in
    record {
      done = inv.done ++ piece;
      split = moved c.args.text.now inv.done rest piece more inv.split parts;
      printed = λ told.
          c.in_ok-print.ensures.whole told ∙ ap (λ (x : List ℕ). x ++ piece) (inv.printed told)
          ∙ append_assoc (printed c.args.board.now) inv.done piece;
      faults = c.in_ok-print.ensures.cause.kept (refl {a = true}) ∙ inv.faults;
      store = keeps_then g.B.Printer c.args.board.now c.loop-rest.board c.print.new.self inv.store
          (keeps_print g.B.Printer
          c.loop-rest.board c.print.new.self _ c.print.ensures.image c.print.ensures.flight c.print.ensures.time);
      steps = one_piece c.print.new.steps c.loop-rest.steps (length rest) c.min.result (length more)
          (pieces_of (length c.args.text.now)) c.args.steps.now
          c.print.ensures.step c.min.ensures c.split_at.ensures.back_len (search rules) inv.steps;
    }

pub returns-in_err-print-clause-store : goal.returns-in_err-print-clause-store
returns-in_err-print-clause-store g c =
    keeps_then g.B.Printer c.args.board.now c.loop-rest.board c.print.new.self c.loop-rest.invariant.store (keeps_print
    g.B.Printer c.loop-rest.board c.print.new.self _ c.print.ensures.image c.print.ensures.flight c.print.ensures.time)
