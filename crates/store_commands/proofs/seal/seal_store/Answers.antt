use Rattle.{std.specs.Prelude.{is_err}, meter_store.{specs.Sealing.{FoundTotals}, proofs.Laws.{totals_are_found}}}
use Rattle.std.proofs.Common.{ℕ, ◌∙◌, ◌≡◌, Err, Ok, Option, ap, arith, inl, inr, refl, rules, subst, sym, ⊎_elim}
use Rattle.call_ends.{specs.{Call.{LeavesUnread}, Ending.{EndsOnDevices}}, proofs.Laws.{stops_at}}
use Rattle.call_ends.proofs.Laws.{as_found, as_refused, bytes-read, ends_apart, no_fault, not_status, same_fault}
use Rattle.store_commands.specs.Common.{Durable, Ended, Rose, line_of, old_seal, status_of}
use Rattle.store_commands.specs.Opening.{opening_in, store_ended}
use Rattle.store_commands.specs.{Seal.{HasSealed, Seals, seal_answer, seal_command, sealing_of}, SealSteps.{IsNoSeal}}
use Rattle.store_commands.proofs.Amid.{found-as, is_sealed, rests-no_seal, rests-placed, rests-refused, seals-over}
use Rattle.store_commands.proofs.Amid.{seals-read, settled-sealed, stays_beside}
use Rattle.store_commands.proofs.BarredEnds.{board_fault-store, not_read-store}
use Rattle.store_commands.proofs.EndsByStore.{course-barred as comes-barred_by_store, course-board}
use Rattle.store_commands.proofs.Sealings.{barred-fault, course-barred, course-no_seal, course-sealed, not_0-barred}
use Rattle.store_commands.proofs.Sealings.{not_0-no_seal, not_0-store, sealing-barred, sealing-made, unread-sealing}
use Rattle.store_commands.proofs.seal.seal_store.Goals.{After-place_seal, After-read_seal, In-Ok}
use Rattle.store_commands.proofs.seal.seal_store.Given as given
use Rattle.call_ends.specs.declared.ending.Ended.TheVariants as ended
use Rattle.store_commands.specs.declared.opening.StoreFault.TheVariants as stores
use Rattle.store_commands.proofs.seal.seal_store.Goals as goal

-- ---- the store can't be told

-- the board's fault is that of the opening
failed : (g : given.Over) (c : goal.After-refused_store g) → c.open_store.result ≡ Err stores.BoardFault
    → c.refused_store.result ≡ ended.BoardFault
failed g c e = c.refused_store.ensures ∙ ap store_ended (same_fault _ _ _ c.in-Err.is e)

-- the opening of the image
opened : (g : given.Over) (c : In-Ok g) → g.B.Printer.tells_image
    → opening_in (g.B.Printer.image c.args.board.now) ≡ Ok c.in-Ok.opening
opened g c tells = as_found _ _ _ stores.BoardFault c.in-Ok.is (c.open_store.ensures.exact tells)

-- what is left unread when the texts were read
unread : (g : given.Over) (c : After-read_seal g) → g.F.Files.tells × g.B.Printer.tells_image
    → LeavesUnread seal_command (g.F.Files.rest c.args.files.now) (g.F.Files.rest c.read_seal.new.files)
    (g.B.Printer.image c.args.board.now)
unread g c known = unread-sealing _ _ _ c.in-Ok.opening _ c.in-Ok-base_of.base
    (as_found _ _ _ stores.BoardFault c.in-Ok.is (c.open_store.ensures.exact known.1))
    c.in-Ok-base_of.is c.base_of.ensures.answer (c.read_seal.ensures.reads.unread known.0)

pub returns-in-Err-clause-carries : goal.returns-in-Err-clause-carries
returns-in-Err-clause-carries g c = record {
  ends = λ known. let read = known.0 in let tells = known.1 in
      let rest = g.F.Files.rest c.args.files.now in
      let image = g.B.Printer.image c.args.board.now in
      let printed = g.B.Printer.printed in
      let fault = c.in-Err.fault in
      subst (λ (end : Ended). EndsOnDevices g.F.Files g.B.Printer seal_command c.args.files.now c.args.files.now
      c.args.board.now c.open_store.new.board end) (sym c.refused_store.ensures)
      (comes-barred_by_store seal_command rest rest image _ _ g.B.Printer.tells_text (printed c.args.board.now)
      (printed c.open_store.new.board) refl c.open_store.ensures.reads.text
      (λ e. absurd cc) (λ e. absurd cc) (store_ended fault) (inr (fault, refl))
      (λ good. ap (λ r. seal_answer (sealing_of r (rest 1) (rest 2)))
      (as_refused c.open_store.result (opening_in image) fault stores.BoardFault c.in-Err.is
      (λ e. good (ap store_ended e)) (c.open_store.ensures.exact tells)))
      (λ e. c.open_store.ensures.cause (c.in-Err.is ∙ ap Err (board_fault-store fault e))));
  steps = λ later le. search (rules, le);
  read_fault = λ e. absurd (not_read-store c.in-Err.fault (sym c.refused_store.ensures ∙ e));
  board_fault = λ e. c.open_store.ensures.cause
      (c.in-Err.is ∙ ap Err (board_fault-store c.in-Err.fault (sym c.refused_store.ensures ∙ e)));
  others = λ word not. refl;
  unread = λ known word never. refl;
  count = λ good. c.open_store.ensures.count (λ e. good (failed g c e));
  counts = λ read good word. refl;
  kept = λ shut. absurd (shut tt);
  unwritten = λ not. bytes-read g.B.Printer c.args.board.now c.open_store.new.board c.open_store.ensures.reads;
  same = λ not good. c.open_store.ensures.same (λ e. good (failed g c e));
  fails = λ status w. inr refl;
  at_rest = λ known told opens good. c.open_store.ensures.settled told (λ e. good (failed g c e));
  looks = λ looks. absurd (looks.unwritten 8 (inr refl));
}

pub returns-in-Err-clause-comes : goal.returns-in-Err-clause-comes
returns-in-Err-clause-comes g c = λ read tells. record {
  seals = let rest = g.F.Files.rest c.args.files.now in
      let fault = c.in-Err.fault in
      seals-read g.B.Printer (rest 1) (rest 2)
      (c.open_store.result ≡ Err stores.BoardFault) c.args.board.now c.open_store.new.board _
      (λ z. not_0-store fault (ap status_of (sym c.refused_store.ensures) ∙ z))
      (λ e. ap status_of (failed g c e)) c.open_store.ensures.reads.image
      (c.open_store.ensures.synced tells);
  rests = λ good. let rest = g.F.Files.rest c.args.files.now in
      let went : ¬ (c.open_store.result ≡ Err stores.BoardFault) = λ e. good (failed g c e) in
      rests-refused g.B.Printer _ (store_ended c.in-Err.fault) (g.B.Printer.image c.args.board.now)
      (g.B.Printer.printed c.args.board.now) (line_of c.refused_store.result) c.open_store.new.board
      (ap (λ r. sealing_of r (rest 1) (rest 2)) (as_refused c.open_store.result
      (opening_in (g.B.Printer.image c.args.board.now)) c.in-Err.fault stores.BoardFault c.in-Err.is
      (λ e. good (c.refused_store.ensures ∙ ap store_ended e)) (c.open_store.ensures.exact tells)))
      (c.open_store.ensures.same went) (c.open_store.ensures.settled tells went);
}

-- ---- the store speaks against it

pub returns-in-Err-base_of-clause-carries : goal.returns-in-Err-base_of-clause-carries
returns-in-Err-base_of-clause-carries g c = record {
  ends = λ known. let read = known.0 in let tells = known.1 in
      let rest = g.F.Files.rest c.args.files.now in
      let image = g.B.Printer.image c.args.board.now in
      let opening_is = opened g (goal.at.returns-in-Err-base_of-clause-carries g c).In-Ok tells in
      course-barred rest rest image _ _ g.B.Printer.tells_text (g.B.Printer.printed c.args.board.now)
      (g.B.Printer.printed c.open_store.new.board) c.open_store.ensures.reads.text c.in-Err-base_of.ended
      (sealing-barred (opening_in image) c.in-Ok.opening c.base_of.result c.in-Err-base_of.ended (rest 1) (rest 2)
      opening_is c.in-Err-base_of.is c.base_of.ensures.answer)
      (c.base_of.ensures.refused c.in-Err-base_of.ended c.in-Err-base_of.is);
  steps = λ later le. search (rules, le);
  read_fault = λ e. absurd ((barred-fault _ (c.base_of.ensures.refused _ c.in-Err-base_of.is)).0 e);
  board_fault = λ e. absurd ((barred-fault _ (c.base_of.ensures.refused _ c.in-Err-base_of.is)).1 e);
  others = λ word not. refl;
  unread = λ known word never. refl;
  count = λ good. c.open_store.ensures.count (no_fault _ _ _ c.in-Ok.is);
  counts = λ read good word. refl;
  kept = λ shut. absurd (shut tt);
  unwritten = λ not. bytes-read g.B.Printer c.args.board.now c.open_store.new.board c.open_store.ensures.reads;
  same = λ not good. c.open_store.ensures.same (no_fault _ _ _ c.in-Ok.is);
  fails = λ status w. inr refl;
  at_rest = λ known told opens good. c.open_store.ensures.settled told (no_fault _ _ _ c.in-Ok.is);
  looks = λ looks. absurd (looks.unwritten 8 (inr refl));
}

pub returns-in-Err-base_of-clause-comes : goal.returns-in-Err-base_of-clause-comes
returns-in-Err-base_of-clause-comes g c = λ read tells. record {
  seals = let rest = g.F.Files.rest c.args.files.now in
      seals-read g.B.Printer (rest 1) (rest 2)
      (c.open_store.result ≡ Err stores.BoardFault) c.args.board.now c.open_store.new.board _
      (not_0-barred c.in-Err-base_of.ended (c.base_of.ensures.refused c.in-Err-base_of.ended c.in-Err-base_of.is))
      (λ e. absurd (no_fault _ _ _ c.in-Ok.is e)) c.open_store.ensures.reads.image
      (c.open_store.ensures.synced tells);
  rests = λ good. let rest = g.F.Files.rest c.args.files.now in
      let went : ¬ (c.open_store.result ≡ Err stores.BoardFault) = no_fault _ _ _ c.in-Ok.is in
      let image = g.B.Printer.image c.args.board.now in
      rests-refused g.B.Printer _ c.in-Err-base_of.ended image (g.B.Printer.printed c.args.board.now)
      (line_of c.in-Err-base_of.ended) c.open_store.new.board
      (sealing-barred (opening_in image) c.in-Ok.opening c.base_of.result c.in-Err-base_of.ended (rest 1) (rest 2)
      (opened g (goal.at.returns-in-Err-base_of-clause-comes g c).In-Ok tells)
      c.in-Err-base_of.is c.base_of.ensures.answer)
      (c.open_store.ensures.same went) (c.open_store.ensures.settled tells went);
}

-- ---- no seal is made

pub returns-in-Err-read_seal-clause-carries : goal.returns-in-Err-read_seal-clause-carries
returns-in-Err-read_seal-clause-carries g c = record {
  ends = λ known. let read = known.0 in let tells = known.1 in
      let rest = g.F.Files.rest in
      let faults = g.F.Files.faults in
      let image = g.B.Printer.image c.args.board.now in
      let base = c.in-Ok-base_of.base in
      let end = c.in-Err-read_seal.ended in
      course-no_seal (rest c.args.files.now) (rest c.read_seal.new.files) image
      (λ word. Rose (faults c.args.files.now word) (faults c.read_seal.new.files word)) _
      g.B.Printer.tells_text (g.B.Printer.printed c.args.board.now)
      (g.B.Printer.printed c.open_store.new.board) c.open_store.ensures.reads.text c.in-Ok.opening c.base_of.result base
      end (opened g (goal.at.returns-in-Err-read_seal-clause-carries g c).In-Ok tells) c.in-Ok-base_of.is
      c.base_of.ensures.answer
      (subst (λ (n : ℕ). IsNoSeal n base.decimals (rest c.args.files.now 1) (rest c.args.files.now 2)
      (λ word. Rose (faults c.args.files.now word) (faults c.read_seal.new.files word)) end)
      c.number_after-number.ensures.value (c.read_seal.ensures.refused end read c.in-Err-read_seal.is));
  steps = λ later le. search (rules, le);
  read_fault = λ e.
      ⊎_elim (λ one. stops_at 1 (inl refl) one.0 one.1)
      (λ two. record {
        word = 2;
        reads = inr refl;
        rose = two;
        behind = λ other lt. c.read_seal.ensures.reads.others other (λ is. absurd (omega (arith, lt, is)))
            (λ is. absurd (omega (arith, lt, is)));
      })
      (c.read_seal.ensures.reads.read_fault (c.in-Err-read_seal.is ∙ ap Err e));
  board_fault = λ e. absurd (c.read_seal.ensures.not_board (c.in-Err-read_seal.is ∙ ap Err e));
  others = λ word not. c.read_seal.ensures.reads.others word (λ e. not (inl e)) (λ e. not (inr e));
  unread = unread g (goal.at.returns-in-Err-read_seal-clause-carries g c).After-read_seal;
  count = λ good. c.open_store.ensures.count (no_fault _ _ _ c.in-Ok.is);
  counts = λ read good. c.read_seal.ensures.reads.counts (λ e. read
      (same_fault c.read_seal.result _ _ c.in-Err-read_seal.is e));
  kept = λ shut. absurd (shut tt);
  unwritten = λ not. bytes-read g.B.Printer c.args.board.now c.open_store.new.board c.open_store.ensures.reads;
  same = λ not good. c.open_store.ensures.same (no_fault _ _ _ c.in-Ok.is);
  fails = λ status w. inr refl;
  at_rest = λ known told opens good. c.open_store.ensures.settled told (no_fault _ _ _ c.in-Ok.is);
  looks = λ looks. absurd (looks.unwritten 8 (inr refl));
}

pub returns-in-Err-read_seal-clause-comes : goal.returns-in-Err-read_seal-clause-comes
returns-in-Err-read_seal-clause-comes g c = λ read tells. record {
  seals = let rest = g.F.Files.rest c.args.files.now in
      let faults = g.F.Files.faults in
      let end = c.in-Err-read_seal.ended in
      seals-read g.B.Printer (rest 1) (rest 2)
      (c.open_store.result ≡ Err stores.BoardFault) c.args.board.now c.open_store.new.board _
      (not_0-no_seal _ c.in-Ok-base_of.base.decimals (rest 1) (rest 2)
      (λ word. Rose (faults c.args.files.now word) (faults c.read_seal.new.files word)) end
      (c.read_seal.ensures.refused end read c.in-Err-read_seal.is))
      (λ e. absurd (no_fault _ _ _ c.in-Ok.is e)) c.open_store.ensures.reads.image
      (c.open_store.ensures.synced tells);
  rests = λ good. let rest = g.F.Files.rest c.args.files.now in
      let went : ¬ (c.open_store.result ≡ Err stores.BoardFault) = no_fault _ _ _ c.in-Ok.is in
      let faults = g.F.Files.faults in
      let image = g.B.Printer.image c.args.board.now in
      let base = c.in-Ok-base_of.base in
      let end = c.in-Err-read_seal.ended in
      rests-no_seal g.B.Printer (rest 1) (rest 2) image (g.B.Printer.printed c.args.board.now) c.in-Ok.opening
      c.base_of.result base
      (λ word. Rose (faults c.args.files.now word) (faults c.read_seal.new.files word)) c.open_store.new.board
      (opened g (goal.at.returns-in-Err-read_seal-clause-comes g c).In-Ok tells) c.in-Ok-base_of.is
      c.base_of.ensures.answer
      (c.open_store.ensures.same went) c.open_store.ensures.reads.text (c.open_store.ensures.settled tells went) end
      (subst (λ (n : ℕ). IsNoSeal n base.decimals (rest 1) (rest 2)
      (λ word. Rose (faults c.args.files.now word) (faults c.read_seal.new.files word)) end)
      c.number_after-number.ensures.value (c.read_seal.ensures.refused end read c.in-Err-read_seal.is));
}

-- ---- the seal is put in

pub place_seal-requires-clause-totals : goal.place_seal-requires-clause-totals
place_seal-requires-clause-totals g c = λ tells.
    subst (λ (t : Option Durable). FoundTotals g.B.Printer c.open_store.new.board t)
    (sym c.in-Ok-base_of.ensures.totals)
    (totals_are_found g.B.Printer c.open_store.new.board c.in-Ok.opening.totals (c.in-Ok.ensures.opened tells).totals)

pub place_seal-requires-clause-found : goal.place_seal-requires-clause-found
place_seal-requires-clause-found g c = λ tells. (
  old_seal c.in-Ok.opening.seal,
  found-as g.B.Printer c.open_store.new.board c.in-Ok.opening.seal c.in-Ok-base_of.base.found
      c.in-Ok-base_of.ensures.found (c.in-Ok.ensures.opened tells).seal,
)

-- the seal was put in, or the board failed amid it
placed : (g : given.Over) (c : After-place_seal g) (status : ℕ) → g.F.Files.tells → g.B.Printer.tells_image
    → (status ≡ 0 → HasSealed (Ok (record {
      totals = c.in-Ok-base_of.base.totals;
      old = old_seal c.in-Ok.opening.seal;
      new = c.in-Ok-read_seal.seal;
    }))
    (g.B.Printer.image c.args.board.now) (g.B.Printer.image c.place_seal.new.board))
    → Seals g.B.Printer (sealing_of (opening_in (g.B.Printer.image c.args.board.now))
    (g.F.Files.rest c.args.files.now 1) (g.F.Files.rest c.args.files.now 2))
    c.args.board.now c.place_seal.new.board status
placed g c status read tells sealed =
    seals-over g.B.Printer _ _ _ _ _ _ _ _ c.args.board.now c.open_store.new.board c.place_seal.new.board status
    c.in-Ok.is (c.open_store.ensures.exact tells) c.in-Ok-base_of.is c.base_of.ensures.answer
    c.number_after-number.ensures.value (c.in-Ok-read_seal.ensures.read read) c.in-Ok-base_of.ensures.found
    (c.in-Ok.ensures.opened tells).seal (c.open_store.ensures.same (no_fault _ _ _ c.in-Ok.is))
    (c.open_store.ensures.settled tells (no_fault _ _ _ c.in-Ok.is)) c.place_seal.ensures.beside
    c.open_store.ensures.reads.text (c.open_store.ensures.synced tells) (c.place_seal.ensures.any_moment tells) sealed

pub returns-in-Ok-place_seal-clause-carries : goal.returns-in-Ok-place_seal-clause-carries
returns-in-Ok-place_seal-clause-carries g c = record {
  ends = λ known. let read = known.0 in let tells = known.1 in
      let rest = g.F.Files.rest c.args.files.now in
      course-sealed rest (g.F.Files.rest c.read_seal.new.files)
      (g.B.Printer.image c.args.board.now) _ _ g.B.Printer.tells_text
      (g.B.Printer.printed c.args.board.now) (g.B.Printer.printed c.place_seal.new.board)
      (c.place_seal.ensures.beside.text ∙ c.open_store.ensures.reads.text) _ c.number_after-number.result
      (sealing-made (g.B.Printer.image c.args.board.now) (rest 1) (rest 2) _ _ _ _ _ _ c.in-Ok.is
      (c.open_store.ensures.exact tells) c.in-Ok-base_of.is c.base_of.ensures.answer
      c.number_after-number.ensures.value (c.in-Ok-read_seal.ensures.read read))
      c.in-Ok-read_seal.ensures.number (c.in-Ok-read_seal.ensures.tariff_ended read)
      (c.in-Ok-read_seal.ensures.params_ended read);
  steps = λ later le. search (rules, le);
  read_fault = λ e. absurd (ends_apart (ended.Sealed _) ended.ReadFault refl e);
  board_fault = λ e. absurd (ends_apart (ended.Sealed _) ended.BoardFault refl e);
  others = λ word not. c.read_seal.ensures.reads.others word (λ e. not (inl e)) (λ e. not (inr e));
  unread = unread g (goal.at.returns-in-Ok-place_seal-clause-carries g c).After-read_seal;
  count = λ good. c.in-Ok-place_seal.ensures.cause.kept refl ∙ c.open_store.ensures.count
      (no_fault _ _ _ c.in-Ok.is);
  counts = λ read good. c.read_seal.ensures.reads.counts (no_fault c.read_seal.result _ _ c.in-Ok-read_seal.is);
  kept = λ shut. absurd (shut tt);
  unwritten = λ not. absurd (not (inl refl));
  same = λ not good. absurd (not (inl refl));
  fails = λ status w. inr refl;
  at_rest =
      λ known told opens good. settled-sealed g.B.Printer c.in-Ok-base_of.base.totals _ c.open_store.new.board
      c.place_seal.new.board
      (c.open_store.ensures.settled told (no_fault _ _ _ c.in-Ok.is))
      c.place_seal.ensures.beside (c.in-Ok-place_seal.ensures.sealed told);
  looks = λ looks. absurd (looks.unwritten 8 (inr refl));
}

pub returns-in-Ok-place_seal-clause-comes : goal.returns-in-Ok-place_seal-clause-comes
returns-in-Ok-place_seal-clause-comes g c = λ read tells. record {
  seals = placed g (goal.at.returns-in-Ok-place_seal-clause-comes g c).After-place_seal 0 read tells
      (λ z. let went : ¬ (c.open_store.result ≡ Err stores.BoardFault) = no_fault _ _ _ c.in-Ok.is in (
        is_sealed g.B.Printer _ c.place_seal.new.board (c.in-Ok-place_seal.ensures.sealed tells),
        stays_beside g.B.Printer c.in-Ok-base_of.base.totals c.args.board.now c.open_store.new.board
            c.place_seal.new.board (c.open_store.ensures.same went) (c.open_store.ensures.settled tells went)
            c.place_seal.ensures.beside,
      ));
  rests = λ good. let rest = g.F.Files.rest c.args.files.now in
      let went : ¬ (c.open_store.result ≡ Err stores.BoardFault) = no_fault _ _ _ c.in-Ok.is in
      rests-placed g.B.Printer _ _ (g.B.Printer.image c.args.board.now) (g.B.Printer.printed c.args.board.now)
      (line_of (ended.Sealed c.number_after-number.result)) c.place_seal.new.board
      (sealing-made (g.B.Printer.image c.args.board.now) (rest 1) (rest 2) _ _ _ _ _ _ c.in-Ok.is
      (c.open_store.ensures.exact tells) c.in-Ok-base_of.is c.base_of.ensures.answer
      c.number_after-number.ensures.value (c.in-Ok-read_seal.ensures.read read))
      (c.in-Ok-place_seal.ensures.sealed tells)
      (stays_beside g.B.Printer c.in-Ok-base_of.base.totals c.args.board.now c.open_store.new.board
      c.place_seal.new.board (c.open_store.ensures.same went) (c.open_store.ensures.settled tells went)
      c.place_seal.ensures.beside)
      (settled-sealed g.B.Printer c.in-Ok-base_of.base.totals _ c.open_store.new.board c.place_seal.new.board
      (c.open_store.ensures.settled tells went) c.place_seal.ensures.beside (c.in-Ok-place_seal.ensures.sealed tells));
}

pub returns-in-Err-place_seal-clause-carries : goal.returns-in-Err-place_seal-clause-carries
returns-in-Err-place_seal-clause-carries g c = record {
  ends = λ known. let read = known.0 in let tells = known.1 in
      let rest = g.F.Files.rest in
      let image = g.B.Printer.image c.args.board.now in
      let printed = g.B.Printer.printed in
      course-board seal_command (rest c.args.files.now) (rest c.read_seal.new.files) image _ _ g.B.Printer.tells_text
      (printed c.args.board.now) (printed c.place_seal.new.board) refl
      (c.place_seal.ensures.beside.text ∙ c.open_store.ensures.reads.text)
      (omega (
        arith,
        c.place_seal.ensures.cause.failed (ap is_err c.in-Err-place_seal.is),
        c.open_store.ensures.count
            (no_fault _ _ _ c.in-Ok.is),
      ));
  steps = λ later le. search (rules, le);
  read_fault = λ e. absurd (ends_apart ended.BoardFault ended.ReadFault refl e);
  board_fault = λ e. omega (
    arith,
    c.place_seal.ensures.cause.failed (ap is_err c.in-Err-place_seal.is),
    c.open_store.ensures.count (no_fault _ _ _ c.in-Ok.is),
  );
  others = λ word not. c.read_seal.ensures.reads.others word (λ e. not (inl e)) (λ e. not (inr e));
  unread = unread g (goal.at.returns-in-Err-place_seal-clause-carries g c).After-read_seal;
  count = λ good. absurd (good refl);
  counts = λ read good. c.read_seal.ensures.reads.counts (no_fault c.read_seal.result _ _ c.in-Ok-read_seal.is);
  kept = λ shut. absurd (shut tt);
  unwritten = λ not. absurd (not (inr refl));
  same = λ not good. absurd (not (inr refl));
  fails = λ status w. inr refl;
  at_rest = λ known told opens good. absurd (good refl);
  looks = λ looks. absurd (looks.unwritten 8 (inr refl));
}

pub returns-in-Err-place_seal-clause-comes : goal.returns-in-Err-place_seal-clause-comes
returns-in-Err-place_seal-clause-comes g c = λ read tells. record {
  seals = placed g (goal.at.returns-in-Err-place_seal-clause-comes g c).After-place_seal 8 read tells
      (λ z. absurd (not_status ended.BoardFault 0 refl z));
  rests = λ good. absurd (good refl);
}
