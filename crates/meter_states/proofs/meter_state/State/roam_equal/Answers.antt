use Rattle.std.proofs.Common.{[], ◌*◌, ◌+◌, ◌≡◌, ◌≤◌, None, arith, subst, sym}
use Rattle.{tariff_compile.proofs.Laws.{tables_are_fit}, meter_states.specs.Core.{ComesToOutcome, CoreData}}
use Rattle.meter_states.specs.{Common.{roaming_between, run}, Equals.{intervals_of, roams}}
use Rattle.meter_states.proofs.{EqualIntervals.{hire-equal}, Settings.{modulus-some}}
use Rattle.meter_states.proofs.meter_state.State.roam_equal.Goals as goal

pub returns-clause-follows : goal.returns-clause-follows
returns-clause-follows c = λ tables seal on still s m is e.
    let core = c.args.self.now in
    let p = c.args.pulses in
    let n = c.most_times-n.result in
    let some = modulus-some s tables is.tariff (tables_are_fit tables on.compiled) in
    let none : core.trip ≡ None = rw c.requires.hire at on.on in
    let roam : c.self.inside.roam ≤ roaming_between = rw (← c.self.view_is) at c.requires.roam in
    let raw : c.self.inside.roam + n * c.roams-each.result ≤ roaming_between =
    omega (arith, c.most_times-n.ensures.room, roam) in
    let few : c.self.inside.roam + n * roams c.self.inside.number p ≤ roaming_between =
    rw c.roams-each.ensures.value at raw in
    let all = subst (λ (x : CoreData). x.roam + n * roams x.number p ≤ roaming_between → ComesToOutcome s
    (record x { roam = x.roam + n * roams x.number p }) [] [] (run s (intervals_of p n) m)) (sym c.self.view_is)
    (hire-equal s tables p n m core is.tariff some c.requires.pulses e c.requires.hire none still) few in
    rw c.roams-each.ensures.value all
