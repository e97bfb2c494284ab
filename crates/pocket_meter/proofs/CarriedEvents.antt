-- Events that a meter carries out, one behind the other.
use Rattle.std.proofs.Common.{[], ℕ, ◌++◌, ◌+◌, ◌<◌, ◌∙◌, ◌∷◌, ◌≡◌, Err, IsErr, List, Ok, Result, add-one, ap}
use Rattle.std.proofs.{Common.{append_assoc, false, get_or, length, refl, subst, sym, take, true}, Math.Seq.{take-suc}}
use Rattle.outside.{specs.{Faults.{HasCause}, declared.printer.Printer.{Ghosts}}, proofs.Laws.{rose_behind}}
use Rattle.{seal_record.specs.declared.seal.Seal.{Seal}, tariff_compile.specs.Tables.{TableParts}}
use Rattle.{meter_model.specs.Meter.{Meter}, meter_run.specs.{Dry.{CarriesEvents}, declared.dry.DryMeter.{DryMeter}}}
use Rattle.meter_run.specs.{BetweenEvents.{StandsWith}, RunLaws.{run_next, run_texts}}
use Rattle.pocket_meter.specs.Common.{Event, IsSettingOf, Setting, first_state, opened, run, shown_texts}

-- the first events of a list, and the next one, are one more of them
one_more : (events : List Event) (i : ℕ) (d : Event) → i < length events
    → take (i + 1) events ≡ take i events ++ get_or events i d ∷ []
one_more events i d h = rw add-one (take-suc events i d h)

-- the count of faults after a call that failed behind others that went well is that of the call
pub fails_behind : {T E U F : Type 0} (before mid now : ℕ) (e : E) (r : Result U F) → IsErr r → mid ≡ before
    → HasCause {T = T} {E = E} mid now (Err e) → HasCause before now r
fails_behind before mid now e (Ok x) wrong first cause = absurd (let bad : false ≡ true = wrong in cc)
fails_behind before mid now e (Err fault) wrong first cause =
    record {
      kept = λ ok. absurd (let bad : false ≡ true = ok in cc);
      failed = λ err. rose_behind before mid now first (cause.failed refl);
    }

module _ {D L : Type 0} {N : ℕ} (B : Ghosts D N L) (tables : TableParts) (seal : Seal) where
  module _ (events : List Event) (i : ℕ) (d : Event) (h : i < length events) (y : DryMeter) (b : D) (z : DryMeter)
      (c : D) (next : CarriesEvents B tables seal y b (get_or events i d ∷ []) z c) (s : Setting)
      (is : IsSettingOf s tables seal) (stands : StandsWith s y.core.state y.durable
      (run s (take i events) (opened s first_state)).next) where
    -- a meter that stands for the state after some events stands for the one after the next event, too
    pub stands_more : StandsWith s z.core.state z.durable (run s (take (i + 1) events) (opened s first_state)).next
    stands_more =
        subst (λ (es : List Event). StandsWith s z.core.state z.durable (run s es (opened s first_state)).next)
        (sym (one_more events i d h))
        (subst (λ (n : Meter). StandsWith s z.core.state z.durable n)
        (sym (run_next s (opened s first_state) (take i events) (get_or events i d ∷ [])))
        (next.stands s (run s (take i events) (opened s first_state)).next is stands))

    -- and what is printed has the displays and refusals of the next event behind those of the events before
    pub printed_more : (before : List ℕ) → B.tells_text
        → B.printed b ≡ before ++ shown_texts (run s (take i events) (opened s first_state)).acts
        → B.printed c ≡ before ++ shown_texts (run s (take (i + 1) events) (opened s first_state)).acts
    printed_more before told printed =
        let m = opened s first_state in
        let es = take i events in
        let e = get_or events i d ∷ [] in
        next.printed told s (run s es m).next is stands
        ∙ ap (λ (p : List ℕ). p ++ shown_texts (run s e (run s es m).next).acts) printed
        ∙ append_assoc before (shown_texts (run s es m).acts) (shown_texts (run s e (run s es m).next).acts)
        ∙ ap (λ (p : List ℕ). before ++ p)
        (sym (run_texts s m es e)
        ∙ ap (λ (fs : List Event). shown_texts (run s fs m).acts) (sym (one_more events i d h)))
