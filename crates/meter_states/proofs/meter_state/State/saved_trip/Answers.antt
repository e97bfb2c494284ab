use Rattle.std.proofs.{Common.{ℕ, ◌*◌, ◌+◌, ◌^◌, ◌∙◌, ◌≡◌, Bool, Some, ap, arith, subst, sym}, lemmas.Nat.{mul-le}}
use Rattle.{std.proofs.lemmas.Grind.{common_steps}, tariff_compile.proofs.Laws.{tables_are_fit}}
use Rattle.meter_model.specs.{Supply.{is_stopped}, Trip.{saved_at}}
use Rattle.meter_states.specs.Common.{CoreTrip, TableParts, roaming_amid}
use Rattle.meter_states.specs.{Core.{CoreData}, Fits.{Fits}, Lawful.{HasBegunBy, IsPowered, IsTripInRange}}
use Rattle.meter_states.proofs.TableSupplements.{counts-few, extras-few}
use Rattle.totals_record.specs.Ranges as store
use Rattle.meter_states.proofs.meter_state.State.saved_trip.Goals as goal

-- a trip of a powered core, as it is held, is in the ranges of the store
held-range : (p : TableParts) (core : CoreData) (stopped : Bool) (trip : CoreTrip)
    → IsPowered p 8639999 roaming_amid 1 core
    → core.trip ≡ Some trip
    → store.IsTripInItsRanges (core.number + 1) (saved_at core.clock stopped core.position core.zone trip)
held-range p core stopped trip on has =
    let beside = subst (IsTripInRange p (core.number + 1) 8639999) has on.trip in
    let begun = subst (HasBegunBy core.clock) has on.begun in
    let fit = tables_are_fit p on.compiled in
    let modulus = mul-le p.step p.measure (10 ^ 6) (2 * 10 ^ 23) fit.step.1 fit.measure.1 in
    let counts = counts-few p 8639999 trip beside.range in
    let amounts = extras-few p 8639999 trip beside.range in
    grind (arith, common_steps)

-- and it fits the tables
held-fits : (p : TableParts) (core : CoreData) (stopped : Bool) (trip : CoreTrip)
    → IsPowered p 8639999 roaming_amid 1 core
    → core.trip ≡ Some trip
    → Fits p (saved_at core.clock stopped core.position core.zone trip)
held-fits p core stopped trip on has =
    let beside = subst (IsTripInRange p (core.number + 1) 8639999) has on.trip in
    grind (arith, common_steps)

pub returns-clause-value : goal.returns-clause-value
returns-clause-value c =
    let t = c.args.trip.now in
    let now = c.args.self.now in
    let here = c.self.inside in
    c.saved_at.ensures
    ∙ ap (λ (n : ℕ). saved_at n c.is_stopped.result here.position here.zone t)
    (c.second.ensures ∙ ap (λ (p : CoreData). p.clock) c.self.view_is)
    ∙ ap (λ (b : Bool). saved_at now.clock b here.position here.zone t) c.is_stopped.ensures
    ∙ ap (λ (p : CoreData). saved_at now.clock (is_stopped now.operating) p.position p.zone t) c.self.view_is

pub returns-clause-range : goal.returns-clause-range
returns-clause-range c =
    let core = c.args.self.now in
    subst (store.IsTripInItsRanges (core.number + 1)) (sym (returns-clause-value c))
    (held-range c.requires.lawful.0 core
    (is_stopped core.operating) c.args.trip.now c.requires.lawful.1 c.requires.trip)

pub returns-clause-fits : goal.returns-clause-fits
returns-clause-fits c = λ tables on.
    let core = c.args.self.now in
    subst (Fits tables) (sym (returns-clause-value c)) (held-fits tables core
    (is_stopped core.operating) c.args.trip.now on c.requires.trip)
