-- What the counts of faults say of a command, from the calls that it made.
use Rattle.std.proofs.Common.{ℕ, ◌↔◌, ◌∙◌, ◌≡◌, ◌≢◌, ◌⊎◌, Bool, Err, None, Option, Result, Some, ap, arith, false, inl}
use Rattle.{std.proofs.Common.{inr, refl, subst, sym, true}, outside.specs.declared.files.Files.{Ghosts as FileGhosts}}
use Rattle.{outside.{specs.Faults.{RisesOnlyIf}, proofs.Laws.{rose_behind}}, call_ends.proofs.OneAnswer.{same_fault}}
use Rattle.call_ends.specs.{Call.{IsEnd, StopsReading}, Ending.{HasCauseOn, ended_for}, LastLine.{line_of, status_of}}
use Rattle.call_ends.{specs.Carried.{Carries}, proofs.{EndsApart.{done_not_board}, Rests.{board_or_not}}}
use Rattle.call_ends.specs.Common.{BoardFault, Done, Ended, Ghosts, LeavesOthers, ReadFault, Rose, TextFault}
use Rattle.call_ends.specs.Course.{Command}
use Rattle.call_ends.specs.declared.tariff.TextFault.TheVariants as texts

-- what is absent isn't there
pub not_some : {A : Type 0} (o : Option A) (x : A) → o ≡ None → o ≡ Some x → ⊥
not_some o x none some = by (sym none ∙ some)
  where
    by : None ≡ Some x → ⊥
    by bad = absurd cc

-- a fact that a test tells doesn't hold if the test fails
pub not_true : {P : Type 0} (test : Bool) → test ≡ false → ((test ≡ true) ↔ P) → P → ⊥
not_true test fails tells p = by (sym fails ∙ tells.1 p)
  where
    by : false ≡ true → ⊥
    by bad = absurd cc

-- a command that ended by the fault of a call, which wasn't of a read, left what the call left
pub unless_read : {T E P : Type 0} {ended : Ended} (r : Result T E) (fault read : E) (end : E → Ended) → r ≡ Err fault
    → ended ≡ end fault → end read ≡ ReadFault → (r ≢ Err read → P) → ended ≢ ReadFault → ended ≢ BoardFault → P
unless_read r fault read end is ended_is end_is left not_read not_board =
    left (λ failed. not_read (ended_is ∙ ap end (same_fault r fault read is failed) ∙ end_is))

-- a command that was carried out ended with its cause
pub cause_carried : {E D L : Type 0} {N : ℕ} {F : FileGhosts E} {B : Ghosts D N L} {c : Command} {files files' : E}
    {old new : D}
    {before now : ℕ} {ended : Ended} → Carries F B c files files' old new before now ended → HasCauseOn B old new ended
cause_carried h = record { count = h.count; failed = h.board_fault }

-- a command that is done left the count of the board's faults, and one that the board cut short raised it
pub cause_done : {D L : Type 0} {N : ℕ} {B : Ghosts D N L} {old new : D} → B.faults new ≡ B.faults old
    → HasCauseOn B old new Done
cause_done kept = record { count = λ good. kept; failed = λ e. absurd (done_not_board e) }

pub cause_board : {D L : Type 0} {N : ℕ} {B : Ghosts D N L} {old new : D} → Rose (B.faults old) (B.faults new)
    → HasCauseOn B old new BoardFault
cause_board rose = record { count = λ good. absurd (good refl); failed = λ e. rose }

-- ---- the word at which a call stopped reading

pub read_fault-text : (fault : TextFault) → ended_for fault ≡ ReadFault → fault ≡ texts.ReadFault
read_fault-text texts.ReadFault e = refl
read_fault-text (texts.Refused why) e = absurd cc
read_fault-text texts.NoMemory e = absurd cc

pub not_board-text : (fault : TextFault) → ended_for fault ≢ BoardFault
not_board-text texts.ReadFault e = absurd cc
not_board-text (texts.Refused why) e = absurd cc
not_board-text texts.NoMemory e = absurd cc

pub not_read-memory : texts.NoMemory ≢ texts.ReadFault
not_read-memory = λ e. absurd cc

-- a call stopped reading at a word if it read no other
pub stops_at : {E : Type 0} {F : FileGhosts E} {c : Command} {files files' : E} (word : ℕ) → c.reads word
    → Rose (F.faults files word) (F.faults files' word)
    → LeavesOthers F.rest word files files' → StopsReading F c files files'
stops_at {c = c} word reads rose others = record {
  word = word;
  reads = reads;
  rose = rose;
  behind = λ other lt. others other (λ e. absurd (omega (arith, lt, ap c.turn e)));
}

-- and so by the fault of the one function that read it
pub stops_by : {E T X : Type 0} {F : FileGhosts E} {c : Command} {files files' : E} {ended : Ended} (word : ℕ)
    (r : Result T X) (fault read : X) (end : X → Ended) → r ≡ Err fault → ended ≡ end fault
    → (end fault ≡ ReadFault → fault ≡ read) → c.reads word
    → (r ≡ Err read → Rose (F.faults files word) (F.faults files' word))
    → LeavesOthers F.rest word files files' → ended ≡ ReadFault
    → StopsReading F c files files'
stops_by word r fault read end is ended_is only reads rose others e =
    stops_at word reads (rose (is ∙ ap Err (only (sym ended_is ∙ e)))) others

-- ---- over the last line

module _ {D L : Type 0} {N : ℕ} (B : Ghosts D N L) (old mid new : D) (end : Ended) (status : ℕ)
    (cause : HasCauseOn B old mid end)
    (later : RisesOnlyIf (status ≢ status_of end) (B.faults mid) (B.faults new))
    (finish : IsEnd B.tells_text (Rose (B.faults mid) (B.faults new)) (status_of end) (line_of end) status
    (B.printed mid) (B.printed new)) where
  abbrev Finishes : Type 0
  Finishes = IsEnd B.tells_text (Rose (B.faults mid) (B.faults new)) (status_of end) (line_of end) status
      (B.printed mid) (B.printed new)

  abbrev FailsOrNot : Type 0
  FailsOrNot = (end ≡ BoardFault) ⊎ ((end ≢ BoardFault) × (status_of end ≢ 8))

  -- the last line leaves the count, unless it wasn't printed
  left : status ≡ status_of end → B.faults new ≡ B.faults mid
  left same = later.kept (λ differs. differs same)

  left_by : status ≡ status_of end → Rose (B.faults old) (B.faults mid) → Rose (B.faults old) (B.faults new)
  left_by same rose = subst (λ (count : ℕ). Rose (B.faults old) count) (sym (left same)) rose

  eighth : Finishes → status_of end ≡ 8 → status ≡ status_of end
  eighth (inl whole) is = whole.status_is
  eighth (inr cut) is = cut.status_is ∙ sym is

  risen : FailsOrNot → Finishes → status ≡ 8 → Rose (B.faults old) (B.faults new)
  risen (inl failed) h is = left_by (eighth h (ap status_of failed)) (cause.failed failed)
  risen (inr good) h is = rose_behind (B.faults old) (B.faults mid) (B.faults new) (cause.count good.0)
      (later.rose (λ same. good.1 (sym same ∙ is)))

  stayed : Finishes → status ≢ 8 → B.faults new ≡ B.faults old
  stayed (inl whole) not_8 =
      left whole.status_is ∙ cause.count (λ failed. not_8 (whole.status_is ∙ ap status_of failed))
  stayed (inr cut) not_8 = absurd (not_8 cut.status_is)

  -- the board's count rose exactly with the status 8
  pub board_counts : RisesOnlyIf (status ≡ 8) (B.faults old) (B.faults new)
  board_counts = record { kept = stayed finish; rose = risen (board_or_not end) finish }

  -- a count that rose before the last line, or at it, rose over both
  rose_early : FailsOrNot → Finishes → Rose (B.faults old) (B.faults mid) → Rose (B.faults old) (B.faults new)
  rose_early (inl failed) h rose = left_by (eighth h (ap status_of failed)) rose
  rose_early (inr good) (inl whole) rose = left_by whole.status_is rose
  rose_early (inr good) (inr cut) rose = risen (inr good) (inr cut) cut.status_is

  rose_late : FailsOrNot → Finishes → Rose (B.faults mid) (B.faults new) → Rose (B.faults old) (B.faults new)
  rose_late (inl failed) h rose = left_by (eighth h (ap status_of failed)) (cause.failed failed)
  rose_late (inr good) h rose =
      rose_behind (B.faults old) (B.faults mid) (B.faults new) (cause.count good.0) rose

  pub rose_before : Rose (B.faults old) (B.faults mid) → Rose (B.faults old) (B.faults new)
  rose_before = rose_early (board_or_not end) finish

  pub rose_after : Rose (B.faults mid) (B.faults new) → Rose (B.faults old) (B.faults new)
  rose_after = rose_late (board_or_not end) finish

  -- no file's count rose, unless a read or the board failed
  pub files_left : (counts count' : ℕ → ℕ)
      → (end ≢ ReadFault → end ≢ BoardFault → (word : ℕ) → count' word ≡ counts word)
      → status ≢ 7 → status ≢ 8 → (word : ℕ) → count' word ≡ counts word
  files_left counts count' stay not_7 not_8 = by finish
    where
      by : Finishes → (word : ℕ) → count' word ≡ counts word
      by (inl whole) = stay (λ failed. not_7 (whole.status_is ∙ ap status_of failed))
          (λ failed. not_8 (whole.status_is ∙ ap status_of failed))
      by (inr cut) = absurd (not_8 cut.status_is)
