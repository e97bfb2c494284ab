use Rattle.std.proofs.Common.{ℕ, ◌%◌, ◌+◌, ◌≡◌, Bool, None, arith, get_or, is_some, refl, rules, subst, sym}
use Rattle.log_commands.{specs.{Filings.{IsTailOf}, LogList.{StandsAt}}, proofs.NewestFound.{tail_found}}
use Rattle.log_commands.{specs.{LogScan.{IsEntry}, Slots.{slot_of}}, proofs.Scans.{not_bad}}
use Rattle.log_commands.proofs.finding.tail_of.Goals as goal

pub returns-then-not-is_row-clause-broken : goal.returns-then-not-is_row-clause-broken
returns-then-not-is_row-clause-broken g c err image are = record {
  none_bad = λ slot small. not_bad image slot (get_or c.args.entries.now slot None) (are slot small);
  no_list = λ records stands.
      let last_is = c.newest_place-last.ensures image stands.0 are (records, stands.1) in
      let told = c.if-not-is_row.ensures.stands image are (subst (StandsAt image) last_is (records, stands.1)) in
      absurd cc;
}

pub returns-in-Ok-clause-found : goal.returns-in-Ok-clause-found
returns-in-Ok-clause-found g c told still are =
    let image = g.G.Printer.image c.args.log.now in
    let last = c.newest_place-last.result in
    let entry = get_or c.args.entries.now (last % 256) None in
    let stands = c.if-not-is_row.ensures.row refl image are in
    let slot_is : last % 256 ≡ slot_of (last + 1) = omega arith in
    let known : IsEntry image (slot_of (last + 1)) entry =
    subst (λ (s : ℕ). IsEntry image s entry) slot_is (are (last % 256) (omega arith)) in
    let flying = g.G.Printer.in_flight c.read_newest.new.log in
    let open_is : c.is_some.result ≡ is_some entry = search rules in
    let newest = c.in-Ok.newest in (
      stands.0,
      (last, stands.1),
      subst (λ (open_now : Bool). IsTailOf image flying
          (record { last = last; is_open = open_now; newest = newest; filed = 0 }) stands.0) (sym open_is)
          (tail_found image (g.G.Printer.in_flight c.args.log.now) flying last entry newest stands.0 still
          c.read_newest.ensures.reads.flight stands.1 known (c.in-Ok.ensures.newest told stands.0 stands.1)),
    )
