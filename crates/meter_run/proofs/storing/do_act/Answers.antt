use Rattle.std.{specs.Option.{ForSome}, proofs.lemmas.{List.Elements.{All-head}, Result.{on_ok_weaker}}}
use Rattle.std.proofs.Common.{[], ℕ, ◌*◌, ◌++◌, ◌+◌, ◌∙◌, ◌∷◌, ◌≡◌, ◌≤◌, All, OnOk, Result, ap, refl, subst, sym}
use Rattle.meter_run.specs.{Commits.{IsFor, after_act, commits_in}, OnStore.{Agrees, MayDo, WritesTotals}}
use Rattle.meter_run.specs.Common.{Act, Change, Durable, Fits, Ghosts, HasCause, IsLawfulAct, Known, LeavesNow, Seal}
use Rattle.meter_run.specs.{Common.{TableParts, after}, Deeds.{Deed, Does, act_text, after_deed, changes_of}}
use Rattle.meter_run.{specs.InTurn.{Commits, CommitsInTurn}, proofs.BoardDeeds.{agrees_kept, beside_kept, print_point}}
use Rattle.meter_run.specs.Points.{GoesBy}
use Rattle.meter_run.{specs.PrintedText.{PrintsText}, proofs.{CommittedStates.{fits_after}, EventLists.{on_ok}}}
use Rattle.meter_run.proofs.ActsOnStore.{commit_steps, print_steps, prints_as, prints_none, turn_none, turn_one}
use Rattle.meter_run.proofs.storing.do_act.Goals as goal

-- what is said of an act that was carried out
module _ {D L : Type 0} {N : ℕ} (B : Ghosts D N L) (seal : Seal) (known : Known) (act is : Act) (same : act ≡ is)
    (a b : D) {T E : Type 0} (r : Result T E) (before now : ℕ) where
  abbrev IsDone : Known → Type 0
  IsDone left = record {
    durable : OnOk r (left.durable ≡ after_act known.durable act);
    agrees : (tables : TableParts) → MayDo B tables known a (act ∷ []) → OnOk r (Agrees B tables left b);
    whole : B.tells_text → OnOk r (B.printed b ≡ B.printed a ++ act_text seal act);
    points : B.tells_image → (tables : TableParts) → MayDo B tables known a (act ∷ [])
        → GoesBy B tables seal a b known.durable (Does act ∷ []);
    turn : B.tells_image → OnOk r (CommitsInTurn B known.durable (changes_of (Does act ∷ [])) a b);
    beside : B.tells_image → WritesTotals B a b;
    cause : HasCause (B.faults a) (B.faults b) r;
    steps : now ≤ before + 1 + 5 * commits_in (act ∷ []);
  }

  -- by a print
  prints : LeavesNow B a → after_act known.durable is ≡ known.durable → changes_of (Does is ∷ []) ≡ []
      → PrintsText B a (act_text seal is) b r → now ≤ before + 1 → IsDone known
  prints rest stays none printed few = record {
    durable = on_ok r _ (sym (ap (after_act known.durable) same ∙ stays));
    agrees = λ tables may. on_ok r _ (agrees_kept B tables known a b printed.store may.agrees);
    whole = λ told. prints_as seal r (B.printed a) (B.printed b) act is same (printed.whole told);
    points = λ told tables may. print_point B tables seal a b known.durable known.place (Does act) (act_text seal is)
        (ap (act_text seal) same) (may.agrees.settled told) may.agrees.fits printed.store printed.leaves printed.begun;
    turn = λ told. turn_none B r known.durable act is same a b none printed.store;
    beside = λ told. beside_kept B a b rest printed.store;
    cause = printed.cause;
    steps = print_steps act before now few;
  }

  -- by a commit, which is said of as the store says it
  commits : (left : Known) (change : Change) → after_act known.durable is ≡ after known.durable change
      → changes_of (Does is ∷ []) ≡ change ∷ [] → act_text seal is ≡ [] → commits_in (is ∷ []) ≡ 1
      → OnOk r (left.durable ≡ after known.durable change)
      → ((tables : TableParts) → ForSome (after known.durable change).hold (Fits tables)
      → OnOk r (Agrees B tables left b))
      → (B.tells_image → (tables : TableParts) (seal : Seal) (deed : Deed) → ForSome known.durable.hold (Fits tables)
      → ForSome (after known.durable change).hold (Fits tables)
      → after_deed known.durable deed ≡ after known.durable change
      → GoesBy B tables seal a b known.durable (deed ∷ []))
      → B.printed b ≡ B.printed a → (B.tells_image → OnOk r (Commits B known.durable change a b))
      → (B.tells_image → WritesTotals B a b) → HasCause (B.faults a) (B.faults b) r → now ≤ before + 6 → IsDone left
  commits left change state one silent single durable agrees points text turn beside cause few =
      let fitting : (tables : TableParts) → MayDo B tables known a (act ∷ []) → ForSome
      (after known.durable change).hold (Fits tables) = λ tables may.
      subst (λ (d : Durable). ForSome d.hold (Fits tables)) state (fits_after tables may.number known.durable (is ∷ [])
      may.agrees.fits (subst (λ (x : Act). All (IsLawfulAct tables may.number) (x ∷ [])) same may.lawful)) in
      record {
        durable = on_ok_weaker r (λ is. is ∙ sym (ap (after_act known.durable) same ∙ state)) durable;
        agrees = λ tables may. agrees tables (fitting tables may);
        whole = λ told. on_ok r _
            (prints_none (B.printed a) (B.printed b) (act_text seal act) (ap (act_text seal) same ∙ silent) text);
        points = λ told tables may. points told tables seal (Does act) may.agrees.fits (fitting tables may)
            (ap (after_act known.durable) same ∙ state);
        turn = λ told. turn_one B r known.durable act is same a b change one (turn told);
        beside = beside;
        cause = cause;
        steps = commit_steps act is before now same single few;
      }

pub returns-in-Show : goal.returns-in-Show
returns-in-Show g c = prints g.B.Printer c.args.seal.now c.args.known.now c.args.act.now _ c.in-Show.is c.args.board.now
    c.print_display.new.board c.print_display.result c.args.steps.now c.print_display.new.steps
    (g.met.B.Printer.only_now c.args.board.now) refl refl c.print_display.ensures.printed c.print_display.ensures.steps

pub returns-in-Refuse : goal.returns-in-Refuse
returns-in-Refuse g c = prints g.B.Printer c.args.seal.now c.args.known.now c.args.act.now _ c.in-Refuse.is
    c.args.board.now
    c.print_refusal.new.board c.print_refusal.result c.args.steps.now c.print_refusal.new.steps
    (g.met.B.Printer.only_now c.args.board.now) refl refl c.print_refusal.ensures.printed c.print_refusal.ensures.steps

pub returns-in-Receipt : goal.returns-in-Receipt
returns-in-Receipt g c = prints g.B.Printer c.args.seal.now c.args.known.now c.args.act.now _ c.in-Receipt.is
    c.args.board.now
    c.print_receipt.new.board c.print_receipt.result c.args.steps.now c.print_receipt.new.steps
    (g.met.B.Printer.only_now c.args.board.now) refl refl c.print_receipt.ensures.printed c.print_receipt.ensures.steps

pub returns-in-Enter : goal.returns-in-Enter
returns-in-Enter g c =
    let e = c.store.ensures in
    commits g.B.Printer c.args.seal.now c.args.known.now c.args.act.now _ c.in-Enter.is c.args.board.now
    c.store.new.board c.store.result c.args.steps.now c.store.new.steps c.store.new.known _ refl refl refl refl
    e.durable e.agrees e.points e.text e.turn e.beside e.cause e.steps

pub returns-in-Hold : goal.returns-in-Hold
returns-in-Hold g c =
    let e = c.store-in-Hold.ensures in
    commits g.B.Printer c.args.seal.now c.args.known.now c.args.act.now _ c.in-Hold.is c.args.board.now
    c.store-in-Hold.new.board c.store-in-Hold.result c.args.steps.now c.store-in-Hold.new.steps
    c.store-in-Hold.new.known _ refl refl refl refl
    e.durable e.agrees e.points e.text e.turn e.beside e.cause e.steps

pub print_display-requires : goal.print_display-requires
print_display-requires g c = subst (IsFor c.args.known.now.durable) c.in-Show.is c.requires.act

pub store-requires : goal.store-requires
store-requires g c = record {
  slot = c.requires.may.1.agrees.slot;
  settled = c.requires.may.1.agrees.settled;
  range = subst (IsFor c.args.known.now.durable) c.in-Enter.is c.requires.act;
}

pub store-requires-in-Hold : goal.store-requires-in-Hold
store-requires-in-Hold g c = record {
  slot = c.requires.may.1.agrees.slot;
  settled = c.requires.may.1.agrees.settled;
  range = subst (IsFor c.args.known.now.durable) c.in-Hold.is c.requires.act;
}

pub print_receipt-requires-clause-receipt : goal.print_receipt-requires-clause-receipt
print_receipt-requires-clause-receipt g c =
    let may = c.requires.may.1 in
    subst (IsLawfulAct c.requires.may.0 may.number) c.in-Receipt.is
    (All-head (IsLawfulAct c.requires.may.0 may.number) c.args.act.now [] may.lawful)

pub print_receipt-requires-clause-seal : goal.print_receipt-requires-clause-seal
print_receipt-requires-clause-seal g c = c.requires.seal
