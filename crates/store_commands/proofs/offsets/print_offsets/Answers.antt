use Rattle.std.proofs.Common.{ℕ, ℤ, ◌∙◌, ◌≡◌, Err, List, ap, arith, refl, rules}
use Rattle.{offset_rules.specs.Pairs.{pairs_of}, store_commands.proofs.OffsetLines.{makes_offsets, no_rules, of_rules}}
use Rattle.call_ends.proofs.Laws.{carries-printed, done_not_board, prints-by, prints-none, reads-bad, reads-ok}
use Rattle.store_commands.specs.Common.{Rule}
use Rattle.store_commands.{specs.StoreEnds.{ended_for_rules}, proofs.ReadFaults.{not_board-rules, read_fault-rules}}
use Rattle.store_commands.proofs.offsets.print_offsets.Goals as goal

-- the pairs that were made for bounds are those for the years that the bounds are
made_for : (rule : Rule) (years bounds : ℕ × ℕ) (items pairs : List (ℕ × ℤ)) → items ≡ pairs
    → pairs ≡ pairs_of rule bounds.0 bounds.1 → bounds ≡ years → items ≡ pairs_of rule years.0 years.1
made_for rule years bounds items pairs same made are =
    same ∙ made ∙ ap (λ (y : ℕ × ℕ). pairs_of rule y.0 y.1) are

-- the rules weren't read
pub returns-in-Err : goal.returns-in-Err
returns-in-Err g c = let f = c.rules_of_word.ensures in let fault = c.in-Err.fault in
    rw c.refused_rules.ensures (carries-printed g.F.Files g.B.Printer (makes_offsets c.args.years) c.args.files.now
    c.rules_of_word.new.files c.args.board.now c.args.board.now c.args.steps.now c.args.steps.now
    (ended_for_rules fault)
    (λ image. no_rules c.args.years fault
    (reads-bad f.read_fault f.others f.counts ended_for_rules c.in-Err.is (read_fault-rules fault) refl
    (not_board-rules fault)) (λ why tells e. f.refused why tells (c.in-Err.is ∙ ap Err e)))
    (prints-none c.args.board.now c.args.steps.now (not_board-rules fault)) (λ quiet later le. omega (arith, le)))

-- the lines are printed
pub returns : goal.returns
returns g c =
    let f = c.rules_of_word.ensures in
    let p = c.print_pairs.ensures in
    rw c.ended_behind.ensures (carries-printed g.F.Files g.B.Printer (makes_offsets c.args.years) c.args.files.now
    c.rules_of_word.new.files c.args.board.now c.print_pairs.new.board c.args.steps.now c.print_pairs.new.steps _
    (λ image. of_rules c.args.years
    (reads-ok f.read_fault f.others f.counts c.in-Ok.ensures.ended c.in-Ok.is) c.in-Ok.rules c.as_slice.result.now
    c.in-Ok.ensures.found
    (made_for c.in-Ok.rules _ c.bounds-first.result c.as_slice.result.now _ c.as_slice.ensures.value
    c.pairs-pairs.ensures.value c.bounds-first.ensures.value) c.in-Ok.ensures.ended)
    (prints-by c.print_pairs.result p.whole p.begun p.cause p.steps p.store done_not_board)
    (λ quiet later le. search (rules, le)))
