-- A call, from how its command came to its last line, and that line.
use Rattle.std.proofs.Common.{ℕ, ◌∙◌, ◌≡◌, ◌≢◌, ◌⊎◌, List, ap, inl, inr, refl, subst, sym}
use Rattle.outside.specs.{Faults.{RisesOnlyIf, Rose}, declared.files.Files.{Ghosts as FileGhosts}}
use Rattle.call_ends.specs.{Call.{HasReadFault, IsEnd, LeavesUnread, MayLack, MayTake}, LastLine.{line_of, status_of}}
use Rattle.call_ends.specs.{Carried.{Carries}, Ending.{EndsOnDevices, HasCauseOn}}
use Rattle.call_ends.specs.Course.{Answered, BoardFailed, Course, NoMemory, ReadFailed, call_text, status_in}
use Rattle.call_ends.proofs.Laws.{bytes-kept, bytes-then, ends-with, finishes-later, may-then, rose_after, rose_before}
use Rattle.commands.specs.Common.{Command, Ended, Ghosts, IsAtRest, IsCall, KeepsStore, WritesNothing}
use Rattle.call_ends.specs.declared.ending.Ended.TheVariants as ended

module _ {E D L : Type 0} {N : ℕ} (F : FileGhosts E) (B : Ghosts D N L) (files files' : E) (old mid new : D)
    (end : Ended) (status : ℕ)
    (cause : HasCauseOn B old mid end) (later : RisesOnlyIf (status ≢ status_of end) (B.faults mid) (B.faults new))
    (finish : IsEnd B.tells_text (Rose (B.faults mid) (B.faults new)) (status_of end) (line_of end) status
    (B.printed mid) (B.printed new)) where
  pub call_from : (command : Command) → EndsOnDevices F B command files files' old mid end
      → LeavesUnread command (F.rest files) (F.rest files') (B.image old)
      → IsCall F B command files files' old new status
  call_from command h unread =
      let more : Rose (B.faults old) (B.faults mid) → Rose (B.faults old) (B.faults new) =
      rose_before B old mid new end status cause later finish in
      let after : Rose (B.faults mid) (B.faults new) → Rose (B.faults old) (B.faults new) =
      rose_after B old mid new end status cause later finish in
      record {
        course = h.course;
        may = may-then command (F.rest files) (F.rest files') (B.image old) _ (Rose (B.faults old) (B.faults mid))
            (Rose (B.faults old) (B.faults new)) more h.course h.may;
        ends = ends-with command (F.rest files) (F.rest files') (B.image old) _ (Rose (B.faults old) (B.faults mid))
            (Rose (B.faults old) (B.faults new)) B.tells_text
            (B.printed old) (B.printed mid) (B.printed new) end status h more
            (finishes-later B.tells_text (Rose (B.faults mid) (B.faults new))
            (Rose (B.faults old) (B.faults new)) end status (B.printed mid) (B.printed new) after finish);
        unread = unread;
      }

  pub call_course : (command : Command) (h : EndsOnDevices F B command files files' old mid end)
      (unread : LeavesUnread command (F.rest files) (F.rest files') (B.image old))
      → (call_from command h unread).course ≡ h.course
  unfolding call_from
  call_course command h unread = refl

  -- a status with which nothing is written
  status_before : (command : Command) → ((n : ℕ) → command.writes n → command.writes 8) → ¬ (command.writes status)
      → ¬ (command.writes (status_of end))
  status_before command fails not = by finish
    where
      by : IsEnd B.tells_text (Rose (B.faults mid) (B.faults new)) (status_of end) (line_of end) status (B.printed mid)
          (B.printed new) → ¬ (command.writes (status_of end))
      by (inl whole) w = not (subst (λ (n : ℕ). command.writes n) (sym whole.status_is) w)
      by (inr cut) w = not (subst (λ (n : ℕ). command.writes n) (sym cut.status_is) (fails (status_of end) w))

  no_board : status ≢ 8 → end ≢ ended.BoardFault
  no_board not_8 e = by finish
    where
      by : IsEnd B.tells_text (Rose (B.faults mid) (B.faults new)) (status_of end) (line_of end) status (B.printed mid)
          (B.printed new) → ⊥
      by (inl whole) = not_8 (whole.status_is ∙ ap status_of e)
      by (inr cut) = not_8 cut.status_is

  pub nothing_written : (command : Command) (before now : ℕ) → KeepsStore B mid new
      → Carries F B command files files' old mid before now end
      → ¬ (command.writes status) → WritesNothing B old new status
  nothing_written command before now kept carried not =
      let still = status_before command carried.fails not in
      record {
        bytes = bytes-then B old mid new (carried.unwritten still) (bytes-kept B mid new kept);
        same = λ not_8. kept.same ∙ carried.same still (no_board not_8);
      }

  pub rests_after : (command : Command) (before now : ℕ) → KeepsStore B mid new
      → Carries F B command files files' old mid before now end
      → command.told F.tells B.tells_image → B.tells_image → command.opens → status ≢ 8 → IsAtRest B new
  rests_after command before now kept carried known told opened not_8 place flies =
      carried.at_rest known told opened (no_board not_8) place (kept.flight place flies)

-- without a fault of the outside the status is that of the answer, unless memory ran out
module _ {E D L : Type 0} {N : ℕ} (F : FileGhosts E) (B : Ghosts D N L) (c : Command) (files files' : E)
    (old new : D) (status : ℕ)
    (read : ¬ (HasReadFault F c files files')) (calm : ¬ (Rose (B.faults old) (B.faults new))) where
  abbrev Completes : Type 0
  Completes = (status ≡ (c.answer (F.rest files) (B.image old)).status)
      ⊎ ((status ≡ 12) × MayLack c (F.rest files) (B.image old))

  abbrev EndsWith : ℕ → List ℕ → Type 0
  EndsWith ended text =
      IsEnd B.tells_text (Rose (B.faults old) (B.faults new)) ended text status (B.printed old) (B.printed new)

  status_whole : (ended : ℕ) (text : List ℕ) → EndsWith ended text → status ≡ ended
  status_whole ended text (inl whole) = whole.status_is
  status_whole ended text (inr cut) = absurd (calm cut.failed)

  by_course : (course : Course)
      → MayTake c (F.rest files) (F.rest files') (B.image old)
      (λ word. Rose (F.faults files word) (F.faults files' word)) (Rose (B.faults old) (B.faults new)) course
      → EndsWith (status_in c (F.rest files) (B.image old) course)
      (call_text c (F.rest files) (B.image old) course) → Completes
  by_course Answered may ends = inl (status_whole _ _ ends)
  by_course (ReadFailed word taken) may ends =
      absurd (read (record { word = word; reads = may.reads; rose = may.failed }))
  by_course NoMemory may ends = inr (status_whole _ _ ends, (may.taken, may.may))
  by_course (BoardFailed taken) may ends = absurd (calm may.failed)

  pub completes : IsCall F B c files files' old new status → Completes
  completes call = by_course call.course call.may call.ends
