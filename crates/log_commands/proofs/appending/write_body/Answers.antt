use Rattle.std.proofs.{Common.{ℕ, ◌+◌, ◌∙◌, ◌≡◌, ap, length, rules}, lemmas.Result.{on_ok_weaker}}
use Rattle.{outside.proofs.Laws.{leaves_wider}, log_commands.specs.Slots.{slot_at, slot_of, spelling}}
use Rattle.log_commands.{specs.Common.{MayLeave, OrWithin}, proofs.Results.{both}}
use Rattle.log_commands.{specs.Record.{Record}, proofs.Staged.{same_piece, write_ends, write_leaves, written_spells}}
use Rattle.log_commands.proofs.appending.write_body.Given as given
use Rattle.log_commands.proofs.appending.write_body.Goals as goal

-- what is written
bytes_are : (g : given.Over) (c : goal.After-write_and_sync g)
    → c.as_slice-2.result.now ≡ spelling (c.args.last + 1) c.args.it.now.text
bytes_are g c = c.as_slice-2.ensures.value ∙ c.spelled-bytes.ensures.items
    ∙ ap (spelling (c.args.last + 1)) (c.as_slice.ensures.value ∙ ap (λ (r : Record). r.text) c.it.view_is)

-- where, and how many
at_is : (g : given.Over) (c : goal.After-write_and_sync g)
    → c.next_at.result + 1 ≡ slot_at (slot_of (c.args.last + 1)) + 1
at_is g c = ap (λ (at : ℕ). at + 1) c.next_at.ensures.is

pub returns-clause-any_moment : goal.returns-clause-any_moment
returns-clause-any_moment g c told records shut =
    let long : length c.as_slice-2.result.now ≡ 511 = search rules in
    let image = g.G.Printer.image c.args.log.now in
    let in_flight = g.G.Printer.in_flight c.args.log.now in
    let printed = g.G.Printer.printed c.args.log.now in
    let count = length c.as_slice-2.result.now in
    leaves_wider g.G.Printer (MayLeave image (OrWithin in_flight (c.next_at.result + 1) count) printed) _ _ _
    (λ left text may_leave. (
      c.args.last,
      write_leaves _ left _ c.args.last records shut
          (same_piece _ _ left _ _ _ 511 (at_is g c) long may_leave.bytes),
    )) c.write_and_sync.ensures.any_moment

pub returns-clause-written : goal.returns-clause-written
returns-clause-written g c told =
    let long : length c.as_slice-2.result.now ≡ 511 = search rules in
    on_ok_weaker c.write_and_sync.result (λ done records shut.
    write_ends _ _ _ c.args.last records shut _ c.args.it.now (written_spells _ _ _ _ c.args.last _ c.args.it.now
    (at_is g c) long done.0 (bytes_are g c) c.requires.receipt c.requires.place)
    (same_piece _ _ _ _ _ _ 511 (at_is g c) long c.write_and_sync.ensures.beside.rest) done.1)
    (both _ _ c.write_and_sync.result (c.write_and_sync.ensures.written told) (c.write_and_sync.ensures.durable told))
