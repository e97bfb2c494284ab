use Rattle.std.proofs.Common.{[], ◌∙◌, ◌∷◌, ◌≡◌, None, Option, Some, ap, sym}
use Rattle.log_commands.{specs.Reading.{Place}, proofs.{Causes.{may_rise_for, rises_for}, Rolls.{goes_further}}}
use Rattle.log_commands.specs.Record.{Record}
use Rattle.log_commands.proofs.roll.Roll.next.Goals as goal

no_record : (record_found : Record) → ◌≡◌ {A = Option Record} (Some record_found) None → ⊥
no_record record_found e = cc

pub returns-in-Some-clause-found : goal.returns-in-Some-clause-found
returns-in-Some-clause-found g c = λ told.
    goes_further c.args.self.now c.loop-record.self c.find.new.self _ _ _ [] (c.in-Some.record ∷ [])
    (c.loop-record.invariant.goes told) (c.in-Some.ensures.goes (g.F.Files.rest c.loop-record.files c.args.word))

pub returns-in-Some-clause-fault : goal.returns-in-Some-clause-fault
returns-in-Some-clause-fault g c =
    rises_for _ _ (λ fails. (c.in-Some.ensures.end ∙ fails.0, fails.1))
    (λ fails. (sym c.in-Some.ensures.end ∙ fails.0, fails.1))
    c.loop-record.invariant.fault

pub returns-in-Some-clause-again : goal.returns-in-Some-clause-again
returns-in-Some-clause-again g c = λ end over.
    let still = c.loop-record.invariant.again end over in
    let nothing = c.in-Some.ensures.nothing (ap (λ (p : Place). p.ahead) still.0 ∙ over.1) in
    absurd (no_record c.in-Some.record nothing.0)

pub returns-in-Some-clause-stays : goal.returns-in-Some-clause-stays
returns-in-Some-clause-stays g c = λ end was.
    let still = c.loop-record.invariant.stays end was in (c.in-Some.ensures.end ∙ still.0, still.1)

pub returns-in-Some-clause-counts : goal.returns-in-Some-clause-counts
returns-in-Some-clause-counts g c = λ other.
    may_rise_for _ _ (λ fails. (c.in-Some.ensures.end ∙ fails.0, fails.1)) (c.loop-record.invariant.counts other)
