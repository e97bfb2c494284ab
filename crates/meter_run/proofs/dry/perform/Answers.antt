use Rattle.std.proofs.Common.{[], ℕ, ◌++◌, ◌+◌, ◌∙◌, ◌≡◌, ◌≤◌, Ok, OnOk, Result, ap, refl, subst, sym}
use Rattle.{outside.proofs.Laws.{keeps_none}, meter_run.proofs.CarriedActs.{begins_as, silent, silent_begins, whole_as}}
use Rattle.meter_run.specs.{Commits.{IsFor, after_act}, Common.{Act, Begins, Durable, Ghosts, HasCause, KeepsStore}}
use Rattle.meter_run.{specs.PrintedText.{PrintsText}, proofs.EventLists.{no_more, one_more, went_well}}
use Rattle.meter_run.specs.Texts.{shown_text}
use Rattle.meter_run.proofs.dry.perform.Goals as goal

pub print_display-requires : goal.print_display-requires
print_display-requires g c = subst (IsFor c.args.durable.now) c.in-Show.is c.requires

pub after-requires : goal.after-requires
after-requires g c = subst (IsFor c.args.durable.now) c.in-Enter.is c.requires

pub after-requires-in-Hold : goal.after-requires-in-Hold
after-requires-in-Hold g c = subst (IsFor c.args.durable.now) c.in-Hold.is c.requires

-- what is said of an act that was carried out
module _ {D L : Type 0} {N : ℕ} (B : Ghosts D N L) (old new : Durable) (act is : Act) (same : act ≡ is) (a : D)
    (before : ℕ) (state : new ≡ after_act old is) where
  abbrev Performs : {T E : Type 0} → D → ℕ → Result T E → Type 0
  Performs b now r = record {
    durable : new ≡ after_act old act;
    whole : B.tells_text → OnOk r (B.printed b ≡ B.printed a ++ shown_text act);
    begun : B.tells_text → Begins (B.printed a) (B.printed b) (shown_text act);
    cause : HasCause (B.faults a) (B.faults b) r;
    steps : now ≤ before + 1;
    store : KeepsStore B a b;
  }

  performs : {T E : Type 0} (b : D) (now : ℕ) (r : Result T E) → PrintsText B a (shown_text is) b r → now ≤ before + 1
      → Performs b now r
  performs b now r printed few = record {
    durable = state ∙ sym (ap (after_act old) same);
    whole = λ told. whole_as r (B.printed a) (B.printed b) act is same (printed.whole told);
    begun = λ told. begins_as (B.printed a) (B.printed b) act is same (printed.begun told);
    cause = printed.cause;
    steps = few;
    store = printed.store;
  }

  -- without a text
  silently : {E : Type 0} → shown_text is ≡ [] → Performs {T = Unit {0}} {E = E} a before (Ok tt)
  silently none =
      let silence = ap shown_text same ∙ none in
      record {
        durable = state ∙ sym (ap (after_act old) same);
        whole = λ told. silent (B.printed a) act silence;
        begun = λ told. silent_begins (B.printed a) act silence;
        cause = went_well (B.faults a) (B.faults a) tt (no_more (B.faults a));
        steps = one_more before;
        store = keeps_none B a;
      }

pub returns-in-Show : goal.returns-in-Show
returns-in-Show g c = performs g.B.Printer c.args.durable.now _ c.args.act.now _ c.in-Show.is c.args.board.now
    c.args.steps.now refl c.print_display.new.board c.print_display.new.steps c.print_display.result
    c.print_display.ensures.printed c.print_display.ensures.steps

pub returns-in-Refuse : goal.returns-in-Refuse
returns-in-Refuse g c = performs g.B.Printer c.args.durable.now _ c.args.act.now _ c.in-Refuse.is c.args.board.now
    c.args.steps.now refl c.print_refusal.new.board c.print_refusal.new.steps c.print_refusal.result
    c.print_refusal.ensures.printed c.print_refusal.ensures.steps

pub returns-in-Enter : goal.returns-in-Enter
returns-in-Enter g c = silently g.B.Printer c.args.durable.now _ c.args.act.now _ c.in-Enter.is c.args.board.now
    c.args.steps.now c.after.ensures.state refl

pub returns-in-Hold : goal.returns-in-Hold
returns-in-Hold g c = silently g.B.Printer c.args.durable.now _ c.args.act.now _ c.in-Hold.is c.args.board.now
    c.args.steps.now c.after-in-Hold.ensures.state refl

pub returns-in-Receipt : goal.returns-in-Receipt
returns-in-Receipt g c = silently g.B.Printer c.args.durable.now _ c.args.act.now _ c.in-Receipt.is c.args.board.now
    c.args.steps.now refl refl
