use Rattle.std.proofs.Common.{ℕ, ◌∙◌, ◌≡◌, ap, refl, sym}
use Rattle.verify_bench.specs.{Common.{InHired, Sums, charge_at, unit_of}, Groups.{is_in_stopped, is_rest}}
use Rattle.verify_bench.{specs.Gathered.{sums_with}, proofs.GatheredSums.{few_more, left_out, part_more, table_more}}
use Rattle.verify_bench.proofs.hiring.Hiring.add_hired.Goals as goal

pub returns-clause-trip : goal.returns-clause-trip
returns-clause-trip c = λ s hired x trip of price.
    let p = c.args.pulses in
    let part = InHired p x in
    let sums : Sums = record { pulses = p; ticks = 1; charge = c.args.price.charge } in
    let is : sums ≡ record { pulses = p; ticks = 1; charge = charge_at s x p } =
    ap (λ (n : ℕ). record { pulses = p; ticks = 1; charge = n }) price.charge in
    record {
      started = of.started;
      fees = of.fees;
      opening = of.opening;
      own_fees = of.own_fees;
      whole = c.with-self.ensures ∙ ap (λ (whole : Sums). sums_with whole sums) of.whole
          ∙ sym (part_more s trip.parts part sums is);
      rates = table_more s trip.parts p x sums is c.args.self.now.rates.items c.add_to_table.new.table.items
          c.args.price.place c.args.price.way price.place price.way c.in_ok-add_to_table.ensures.here
          c.in_ok-add_to_table.ensures.others of.rates;
      stopped = of.stopped ∙ sym (left_out s is_in_stopped trip.parts part refl);
      dropped = of.dropped ∙ sym (ap (λ (rest : Sums). rest.pulses) (left_out s is_rest trip.parts part refl));
      extras = of.extras;
      few = rw c.with-self.ensures (few_more c.args.self.now.whole.charge c.args.price.charge (unit_of s)
          c.args.self.now.whole.ticks of.few price.few);
    }
