-- When a core shows a display.
use Rattle.std.proofs.Common.{[], ◌++◌, ◌↔◌, ◌∙◌, ◌∷◌, ◌≡◌, List, None, Option, Some, ap, append-nil, false, sym, true}
use Rattle.meter_model.{specs.Display.{same_display}, proofs.Laws.{displays_are_compared_by_their_fields-same}}
use Rattle.meter_states.specs.Common.{Act, Display, Meter, Setting, Show, TableParts, display_of, is_shown, shown}
use Rattle.meter_states.specs.{Core.{ComesToOutcome, CoreData, core_of}, Equals.{display_by}}
use Rattle.meter_states.proofs.Quiet.{same-self}

-- a display that is shown is the one that was shown last
shown_already : (old : Option Display) (new : Display) → is_shown old new ≡ true → old ≡ Some new
shown_already (Some old) new same = ap Some ((displays_are_compared_by_their_fields-same old new).0 same)
shown_already None new same = absurd (cc)

-- a core shows the display of its state if another was shown last
pub shown_anew : (s : Setting) (m : Meter) (core : CoreData) (display : Display) (before acts : List Act)
    → core ≡ core_of s m → display ≡ display_of s m → is_shown core.shown display ≡ false
    → acts ≡ before ++ Show display ∷ []
    → ComesToOutcome s (record core { shown = Some display }) before acts (shown s m)
shown_anew s m core display before acts stands is other pushed =
    let last : is_shown m.shown (display_of s m) ≡ false =
    ap (is_shown m.shown) (sym is) ∙ ap (λ (c : CoreData). is_shown c.shown display) (sym stands) ∙ other in
    record {
      state = ap (λ (c : CoreData). record c { shown = Some display }) stands
          ∙ ap (λ (d : Display). record (core_of s m) { shown = Some d }) is;
      done = rw last (pushed ∙ ap (λ (d : Display). before ++ Show d ∷ []) is);
    }

-- and stays if the same was
pub shown_still : (s : Setting) (m : Meter) (core : CoreData) (display : Display) (acts : List Act)
    → core ≡ core_of s m → display ≡ display_of s m → is_shown core.shown display ≡ true
    → ComesToOutcome s core acts acts (shown s m)
shown_still s m core display acts stands is same =
    let last : is_shown m.shown (display_of s m) ≡ true =
    ap (is_shown m.shown) (sym is) ∙ ap (λ (c : CoreData). is_shown c.shown display) (sym stands) ∙ same in
    record {
      state = stands ∙ ap (λ (d : Option Display). record (core_of s m) { shown = d })
          (shown_already m.shown (display_of s m) last);
      done = rw last (sym (append-nil acts));
    }

-- the display of a core is shown if it is the one that was shown last
pub shown_last : (tables : TableParts) (core : CoreData) (display : Display) → display ≡ display_by tables core
    → (is_shown core.shown display ≡ true) ↔ (core.shown ≡ Some (display_by tables core))
shown_last tables core display is = (
  λ same. shown_already core.shown display same ∙ ap Some is,
  λ last. ap (λ (old : Option Display). is_shown old display) last ∙ ap (same_display (display_by tables core)) is
      ∙ same-self (display_by tables core),
)
