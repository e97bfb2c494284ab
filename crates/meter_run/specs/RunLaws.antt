-- For proofs: a run over one list of events behind another.
use Rattle.std.proofs.Common.{[], ℕ, ◌++◌, ◌∙◌, ◌∷◌, ◌≡◌, List, ap, append_assoc, refl, sym}
use Rattle.{totals_record.specs.States.{after_all}, meter_run.specs.Common.{after, run, step}}
use Rattle.meter_states.{specs.Pairs.{commits_of}, proofs.Laws.{runs_add_up, the_store_has_what_the_acts_commit-event}}
use Rattle.meter_run.specs.{Commits.{after_act, after_acts}, PointLaws.{after_joined, deeds_joined}}
use Rattle.meter_run.specs.Common.{Act, Durable, Enter, Event, Hold, Meter, Outcome, Receipt, Refuse, Setting, Show}
use Rattle.meter_run.specs.{Deeds.{after_deeds, deeds_of}, Texts.{shown_text, shown_texts}}
use Rattle.totals_record.specs.declared.change.Change.TheVariants as changes

pub run_next : (s : Setting) (m : Meter) (xs ys : List Event)
    → (run s (xs ++ ys) m).next ≡ (run s ys (run s xs m).next).next
run_next s m xs ys = ap (λ (o : Outcome). o.next) (runs_add_up s xs ys m)

pub run_acts : (s : Setting) (m : Meter) (xs ys : List Event)
    → (run s (xs ++ ys) m).acts ≡ (run s xs m).acts ++ (run s ys (run s xs m).next).acts
run_acts s m xs ys = ap (λ (o : Outcome). o.acts) (runs_add_up s xs ys m)

pub texts_append : (xs ys : List Act) → shown_texts (xs ++ ys) ≡ shown_texts xs ++ shown_texts ys
texts_append [] ys = refl
texts_append (x ∷ xs) ys =
    ap (λ (t : List ℕ). shown_text x ++ t) (texts_append xs ys)
    ∙ sym (append_assoc (shown_text x) (shown_texts xs) (shown_texts ys))

pub run_texts : (s : Setting) (m : Meter) (xs ys : List Event)
    → shown_texts (run s (xs ++ ys) m).acts
    ≡ shown_texts (run s xs m).acts ++ shown_texts (run s ys (run s xs m).next).acts
run_texts s m xs ys =
    ap shown_texts (run_acts s m xs ys) ∙ texts_append (run s xs m).acts (run s ys (run s xs m).next).acts

-- the durable state after acts is that after what they commit
pub after_is : (d : Durable) (acts : List Act) → after_acts d acts ≡ after_all d (commits_of acts)
after_is d [] = refl
after_is d (Show display ∷ acts) = after_is d acts
after_is d (Refuse why ∷ acts) = after_is d acts
after_is d (Enter entry ∷ acts) = after_is (after d (changes.Enter entry)) acts
after_is d (Hold trip ∷ acts) = after_is (after d (changes.Hold trip)) acts
after_is d (Receipt receipt ∷ acts) = after_is d acts

-- acts leave the same durable state as deeds
pub after_deeds_of : (d : Durable) (acts : List Act) → after_deeds d (deeds_of acts) ≡ after_acts d acts
after_deeds_of d [] = refl
after_deeds_of d (act ∷ acts) = after_deeds_of (after_act d act) acts

pub step_durable : (s : Setting) (event : Event) (m : Meter)
    → (step s event m).next.durable ≡ after_deeds m.durable (deeds_of (step s event m).acts)
step_durable s event m =
    the_store_has_what_the_acts_commit-event s event m ∙ sym (after_is m.durable (step s event m).acts)
    ∙ sym (after_deeds_of m.durable (step s event m).acts)

-- the store has what the deeds of a run commit
pub run_durable : (s : Setting) (events : List Event) (m : Meter)
    → (run s events m).next.durable ≡ after_deeds m.durable (deeds_of (run s events m).acts)
run_durable s [] m = refl
run_durable s (event ∷ events) m =
    let n = (step s event m).next in
    run_durable s events n
    ∙ ap (λ (d : Durable). after_deeds d (deeds_of (run s events n).acts)) (step_durable s event m)
    ∙ sym (after_joined m.durable (deeds_of (step s event m).acts) (deeds_of (run s events n).acts))
    ∙ ap (after_deeds m.durable) (sym (deeds_joined (step s event m).acts (run s events n).acts))
