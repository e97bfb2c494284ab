use Rattle.std.proofs.Common.{◌+◌, ◌∙◌, ◌≡◌, None, if◌then◌else◌, sym}
use Rattle.totals_record.specs.{Entries.{closes}, Ranges.{newest_layout}}
use Rattle.totals_record.proofs.durable_state.Durable.after_entry.Goals.{else-closes, then-closes}
use Rattle.totals_record.proofs.durable_state.Durable.after_entry.Goals as goal

pub returns : goal.returns
returns c =
    let held : c.if-closes.hold ≡ (if closes c.args.entry.now then None else c.args.self.now.hold) =
    elim c.if-closes.branch [
      | then-closes w ↦ rw (sym c.closes.ensures ∙ w.if-closes.true) w.hold-is
      | else-closes w ↦ rw (sym c.closes.ensures ∙ w.if-closes.false) w.hold-is
    ] in
    c.next.ensures ∙ (λ i. record {
      number = c.args.self.now.number + 1;
      totals = c.with.ensures i;
      hold = held i;
      layout = newest_layout;
    })
