use Rattle.std.proofs.Common.{ℕ, ◌++◌, ◌∙◌, ◌≡◌, List, ap}
use Rattle.{taxi_units.proofs.Laws.{appended_behind}, drive_modes.specs.Distance.{millimetres_of}}
use Rattle.data_port.specs.Common.{eight, four, sixteen}
use Rattle.data_port.proofs.contents.put_trip.Goals as goal

-- seven parts, one after the other
seven : (start a b c d e f g l1 l2 l3 l4 l5 l6 l7 : List ℕ) → l1 ≡ start ++ a → l2 ≡ l1 ++ b → l3 ≡ l2 ++ c
    → l4 ≡ l3 ++ d → l5 ≡ l4 ++ e → l6 ≡ l5 ++ f → l7 ≡ l6 ++ g
    → l7 ≡ start ++ (a ++ (b ++ (c ++ (d ++ (e ++ (f ++ g))))))
seven start a b c d e f g l1 l2 l3 l4 l5 l6 l7 e1 e2 e3 e4 e5 e6 e7 =
    appended_behind start a (b ++ (c ++ (d ++ (e ++ (f ++ g))))) l1 l7 e1
    (appended_behind l1 b (c ++ (d ++ (e ++ (f ++ g)))) l2 l7 e2
    (appended_behind l2 c (d ++ (e ++ (f ++ g))) l3 l7 e3
    (appended_behind l3 d (e ++ (f ++ g)) l4 l7 e4
    (appended_behind l4 e (f ++ g) l5 l7 e5 (appended_behind l5 f g l6 l7 e6 e7)))))

pub returns-clause-items : goal.returns-clause-items
returns-clause-items c =
    let t = c.args.trip.now in
    let hired =
    c.put_sixteen.ensures.items ∙ ap (λ (m : ℕ). c.put_eight-2.new.line.items ++ sixteen m) c.millimetres.ensures in
    seven c.args.line.now.items (eight t.started) (eight t.saved) (sixteen (millimetres_of c.args.constant t.pulses))
    (four t.ticks) (eight t.extras_sum) (four t.initial) (eight t.meterage.steps_full)
    _ _ _ _ _ _ _ c.put_eight.ensures.items c.put_eight-2.ensures.items hired c.put_four.ensures.items
    c.put_eight-3.ensures.items c.put_four-2.ensures.items c.put_eight-4.ensures.items
