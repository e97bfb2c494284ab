-- For proofs: events that a dry meter carries out, one behind the other.
use Rattle.std.proofs.{Common.{[], ℕ, ◌++◌, ◌∙◌, List, ap, append_assoc, subst, sym}, lemmas.List.{append-nil}}
use Rattle.outside.proofs.Laws.{begins_after, begins_more, keeps_none, keeps_then}
use Rattle.meter_run.specs.BetweenEvents.{StandsWith}
use Rattle.meter_run.specs.{Common.{Begins, Event, Ghosts, Meter, Seal, TableParts, run}, RunLaws.{run_next, run_texts}}
use Rattle.meter_run.specs.{Dry.{BreaksOff, CarriesEvents}, Texts.{shown_texts}, declared.dry.DryMeter.{DryMeter}}

module _ {D L : Type 0} {N : ℕ} (B : Ghosts D N L) (tables : TableParts) (seal : Seal) where
  pub carries_none : (a : DryMeter) (b : D) → CarriesEvents B tables seal a b [] a b
  carries_none a b =
      record {
        stands = λ s m is h. h;
        printed = λ told s m is h. sym (append-nil (B.printed b));
        store = keeps_none B b;
      }

  pub carries_then : (es fs : List Event) (x : DryMeter) (a : D) (y : DryMeter) (b : D) (z : DryMeter) (c : D)
      → CarriesEvents B tables seal x a es y b → CarriesEvents B tables seal y b fs z c
      → CarriesEvents B tables seal x a (es ++ fs) z c
  carries_then es fs x a y b z c first next = record {
    stands = λ s m is h. subst (λ (n : Meter). StandsWith s z.core.state z.durable n) (sym (run_next s m es fs))
        (next.stands s (run s es m).next is (first.stands s m is h));
    printed = λ told s m is h.
        next.printed told s (run s es m).next is (first.stands s m is h)
        ∙ ap (λ (p : List ℕ). p ++ shown_texts (run s fs (run s es m).next).acts) (first.printed told s m is h)
        ∙ append_assoc (B.printed a) (shown_texts (run s es m).acts) (shown_texts (run s fs (run s es m).next).acts)
        ∙ ap (λ (p : List ℕ). B.printed a ++ p) (sym (run_texts s m es fs));
    store = keeps_then B a b c first.store next.store;
  }

  pub breaks_later : (es fs : List Event) (x : DryMeter) (a : D) (y : DryMeter) (b c : D)
      → CarriesEvents B tables seal x a es y b → BreaksOff B tables seal y b fs c
      → BreaksOff B tables seal x a (es ++ fs) c
  breaks_later es fs x a y b c first next = record {
    begun = λ told s m is h. subst (λ (p : List ℕ). Begins (B.printed a) (B.printed c) p) (sym (run_texts s m es fs))
        (begins_after (B.printed a) (B.printed b) (B.printed c) (shown_texts (run s es m).acts)
        (shown_texts (run s fs (run s es m).next).acts)
        (first.printed told s m is h) (next.begun told s (run s es m).next is (first.stands s m is h)));
    store = keeps_then B a b c first.store next.store;
  }

  pub breaks_sooner : (es fs : List Event) (x : DryMeter) (a c : D) → BreaksOff B tables seal x a es c
      → BreaksOff B tables seal x a (es ++ fs) c
  breaks_sooner es fs x a c h = record {
    begun = λ told s m is st. subst (λ (p : List ℕ). Begins (B.printed a) (B.printed c) p) (sym (run_texts s m es fs))
        (begins_more (B.printed a) (B.printed c) (shown_texts (run s es m).acts)
        (shown_texts (run s fs (run s es m).next).acts) (h.begun told s m is st));
    store = h.store;
  }
