use Rattle.std.proofs.Common.{[], ℕ, ◌++◌, ◌∙◌, ◌∷◌, ap}
use Rattle.{taxi_units.proofs.Laws.{appended_behind}, totals_record.specs.Bytes.{bit, eight, four}}
use Rattle.totals_record.proofs.table.put_course.Goals as goal

pub returns-clause-items : goal.returns-clause-items
returns-clause-items c =
    let start = c.args.out.now.items in let t = c.args.trip.now in
    let s1 = appended_behind start (eight t.started) (eight t.saved) _ _ (c.put_eight.ensures.items)
    c.put_eight-2.ensures.items in
    let s2 = appended_behind start ((eight t.started) ++ eight t.saved) (bit t.stopped ∷ []) _ _ (s1)
    (c.put_bytes.ensures.items ∙ ap (λ (b : ℕ). c.put_eight-2.new.out.items ++ b ∷ []) c.bit_of.ensures) in
    let s3 = appended_behind start (((eight t.started) ++ eight t.saved) ++ bit t.stopped ∷ []) (t.position ∷ []) _ _
    (s2) c.put_bytes-2.ensures.items in
    let s4 = appended_behind start ((((eight t.started) ++ eight t.saved) ++ bit t.stopped ∷ []) ++ t.position ∷ [])
    (t.zone ∷ []) _ _ (s3) c.put_bytes-3.ensures.items in
    let s5 = appended_behind start
    (((((eight t.started) ++ eight t.saved) ++ bit t.stopped ∷ []) ++ t.position ∷ []) ++ t.zone
    ∷ []) (four t.roam) _ _ (s4) c.put_four.ensures.items in
    let s6 = appended_behind start
    ((((((eight t.started) ++ eight t.saved) ++ bit t.stopped ∷ []) ++ t.position ∷ []) ++ t.zone ∷ []) ++ four t.roam)
    (eight t.pulses) _ _ (s5) c.put_eight-3.ensures.items in
    let s7 = appended_behind start
    (((((((eight t.started) ++ eight t.saved) ++ bit t.stopped ∷ []) ++ t.position ∷ []) ++ t.zone ∷ []) ++ four t.roam)
    ++ eight t.pulses) (four t.ticks) _ _ (s6) c.put_four-2.ensures.items in
    let s8 = appended_behind start
    ((((((((eight t.started) ++ eight t.saved) ++ bit t.stopped ∷ []) ++ t.position ∷ []) ++ t.zone
    ∷ []) ++ four t.roam) ++ eight t.pulses) ++ four t.ticks) (four t.initial) _ _ (s7) c.put_four-3.ensures.items in
    s8
