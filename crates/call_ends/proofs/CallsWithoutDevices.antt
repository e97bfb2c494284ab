-- Commands that are given no files, or no board, carry out as ones that are given both.
use Rattle.std.proofs.Common.{[], ℕ, ◌++◌, ◌+◌, ◌≡◌, ◌≢◌, ◌≤◌, List, arith, inl, inr, refl, sym, ⊎_elim}
use Rattle.{std.proofs.lemmas.List.{append-nil}, outside.specs.declared.files.Files.{Ghosts as FileGhosts}}
use Rattle.{outside.proofs.Laws.{keeps_none}, call_ends.specs.Ending.{LeavesStoreUnwritten}}
use Rattle.call_ends.specs.{Call.{LeavesUnread, MayTake, StopsReading}, Common.{Ended, Ghosts, KeepsStore, Rose}}
use Rattle.call_ends.{specs.Carried.{Carries, no_board, no_files}, proofs.Unwritten.{bytes-kept}}
use Rattle.call_ends.specs.Course.{Answered, BoardFailed, Command, Course, NoMemory, ReadFailed}
use Rattle.call_ends.specs.Ending.{EndsByCourse, EndsOnDevices, EndsUnprinted, HasCauseOn, IsBrokenOff, IsDue}
use Rattle.call_ends.specs.declared.ending.Ended.TheVariants as ends

no-rise : ¬ (Rose 0 0)
no-rise rose = omega (arith, rose)

-- a command comes to an end if more is known of the faults and of the text
module _ (c : Command) (contents left : ℕ → List ℕ) (image : List ℕ) (read_failed read_failed' : ℕ → Type 0)
    (failed failed' : Type 0)
    (whole whole' begun begun' : List ℕ → Type 0) (read : (word : ℕ) → read_failed word → read_failed' word)
    (board : failed → failed')
    (all : (text : List ℕ) → whole text → whole' text)
    (some : (text : List ℕ) → failed → begun text → begun' text) where
  may-as : (course : Course) → MayTake c contents left image read_failed failed course
      → MayTake c contents left image read_failed' failed' course
  may-as Answered h = record { whole = h.whole; bad = h.bad }
  may-as (ReadFailed word taken) h =
      record { reads = h.reads; comes = h.comes; failed = read word h.failed; takes = h.takes }
  may-as NoMemory h = record { taken = h.taken; may = h.may; takes = h.takes }
  may-as (BoardFailed taken) h = record { failed = board h.failed; takes = h.takes }

  pub course-as : (ended : Ended) → EndsByCourse c contents left image read_failed failed whole begun ended
      → EndsByCourse c contents left image read_failed' failed' whole' begun' ended
  course-as ended h = record {
    course = h.course;
    may = may-as h.course h.may;
    stands = ⊎_elim
        (λ (d : IsDue c contents left image read_failed failed whole begun h.course ended).
        inl (record { status_is = d.status_is; line_is = d.line_is; shown = all _ d.shown }))
        (λ (b : IsBrokenOff c contents left image read_failed failed whole begun h.course ended).
        inr (record { ended_is = b.ended_is; failed = board b.failed; started = some _ b.failed b.started }))
        h.stands;
  }

module _ {E D L : Type 0} {N : ℕ} (F : FileGhosts E) (B : Ghosts D N L) (c : Command) where
  -- a command that only looks at the store
  pub carries-looked : (files files' : E) (old new : D) (before now : ℕ) (ended : Ended) → c.opens
      → ((status : ℕ) → ¬ (c.writes status))
      → (c.told F.tells B.tells_image → EndsOnDevices F B c files files' old new ended)
      → ((later : ℕ) → later ≤ now + 1
      → c.steps F.tells B.tells_image (F.rest files) (F.rest files') (B.image old) before later)
      → (ended ≡ ends.ReadFault → StopsReading F c files files') → HasCauseOn B old new ended
      → ((word : ℕ) → ¬ (c.reads word) → F.rest files' word ≡ F.rest files word)
      → (c.told F.tells B.tells_image → LeavesUnread c (F.rest files) (F.rest files') (B.image old))
      → (ended ≢ ends.ReadFault → ended ≢ ends.BoardFault → (word : ℕ) → F.faults files' word ≡ F.faults files word)
      → LeavesStoreUnwritten B old new ended → Carries F B c files files' old new before now ended
  carries-looked files files' old new _ _ ended opens none comes steps read cause others unread counts looked = record {
    ends = comes;
    steps = steps;
    read_fault = read;
    board_fault = cause.failed;
    others = others;
    unread = unread;
    count = cause.count;
    counts = counts;
    kept = λ shut. absurd (shut opens);
    unwritten = λ not. looked.bytes;
    same = λ not. looked.same;
    fails = λ status w. absurd (none status w);
    at_rest = λ known told opened good. (looked.looks told).settled good;
    looks = λ looks. looked.looks;
  }

  -- a command that doesn't open the store, and keeps it
  pub carries-kept : (files files' : E) (old new : D) (before now : ℕ) (ended : Ended) → ¬ c.opens
      → ((status : ℕ) → ¬ (c.writes status))
      → (c.told F.tells B.tells_image → EndsOnDevices F B c files files' old new ended)
      → ((later : ℕ) → later ≤ now + 1
      → c.steps F.tells B.tells_image (F.rest files) (F.rest files') (B.image old) before later)
      → (ended ≡ ends.ReadFault → StopsReading F c files files') → HasCauseOn B old new ended
      → ((word : ℕ) → ¬ (c.reads word) → F.rest files' word ≡ F.rest files word)
      → (c.told F.tells B.tells_image → LeavesUnread c (F.rest files) (F.rest files') (B.image old))
      → (ended ≢ ends.ReadFault → ended ≢ ends.BoardFault → (word : ℕ) → F.faults files' word ≡ F.faults files word)
      → KeepsStore B old new → Carries F B c files files' old new before now ended
  carries-kept files files' old new _ _ ended shut none comes steps read cause others unread counts kept = record {
    ends = comes;
    steps = steps;
    read_fault = read;
    board_fault = cause.failed;
    others = others;
    unread = unread;
    count = cause.count;
    counts = counts;
    kept = λ not. kept;
    unwritten = λ not. bytes-kept B old new kept;
    same = λ not good. kept.same;
    fails = λ status w. absurd (none status w);
    at_rest = λ known told opened. absurd (shut opened);
    looks = λ looks. absurd (shut looks.opens);
  }

  -- a command without files, whose bounds and whose answer need nothing of them
  pub carries-unread : (files : E) (old new : D) (before now : ℕ) (ended : Ended)
      → (c.told F.tells B.tells_image → c.told (Unit {0}) B.tells_image)
      → ((later : ℕ) → c.steps (Unit {0}) B.tells_image (F.rest files) (F.rest files) (B.image old) before later
      → c.steps F.tells B.tells_image (F.rest files) (F.rest files) (B.image old) before later)
      → Carries (no_files (F.rest files)) B c tt tt old new before now ended
      → Carries F B c files files old new before now ended
  carries-unread files old new before now ended known steps h = record {
    ends = λ told. course-as c (F.rest files) (F.rest files) (B.image old) (λ word. Rose 0 0)
        (λ word. Rose (F.faults files word) (F.faults files word)) _ _ _ _ _ _
        (λ word rose. absurd (no-rise rose)) (λ rose. rose) (λ text is. is) (λ text rose is. is) ended
        (h.ends (known told));
    steps = λ later le. steps later (h.steps later le);
    read_fault = λ e. absurd (no-rise (h.read_fault e).rose);
    board_fault = h.board_fault;
    others = λ word not. refl;
    unread = λ told word never. refl;
    count = h.count;
    counts = λ read board word. refl;
    kept = h.kept;
    unwritten = h.unwritten;
    same = h.same;
    fails = h.fails;
    at_rest = λ told. h.at_rest (known told);
    looks = h.looks;
  }

  -- a command without a board, which doesn't open the store, and whose bounds and whose answer need nothing of it
  pub carries-shut : (files files' : E) (board : D) (before : ℕ) (ended : Ended) → ¬ c.opens
      → (c.told F.tells B.tells_image → c.told F.tells (Unit {0}))
      → (((later : ℕ) → later ≤ 1 → c.steps F.tells (Unit {0}) (F.rest files) (F.rest files') (B.image board) 0 later)
      → (later : ℕ) → later ≤ before + 1
      → c.steps F.tells B.tells_image (F.rest files) (F.rest files') (B.image board) before later)
      → Carries F (no_board (B.image board)) c files files' tt tt 0 0 ended
      → Carries F B c files files' board board before before ended
  carries-shut files files' board before ended shut known steps h = record {
    ends = λ told. course-as c (F.rest files) (F.rest files') (B.image board) _ _ (Rose 0 0)
        (Rose (B.faults board) (B.faults board))
        (λ text. Unit {0} → [] ≡ [] ++ text) (λ text. B.tells_text → B.printed board ≡ B.printed board ++ text) _ _
        (λ word rose. rose) (λ rose. absurd (no-rise rose)) (λ text is tells. cc (is tt, append-nil (B.printed board)))
        (λ text rose. absurd (no-rise rose)) ended (h.ends (known told));
    steps = steps h.steps;
    read_fault = λ e. let fault = h.read_fault e in
        record { word = fault.word; reads = fault.reads; rose = fault.rose; behind = fault.behind };
    board_fault = λ e. absurd (no-rise (h.board_fault e));
    others = h.others;
    unread = λ told. h.unread (known told);
    count = λ good. refl;
    counts = h.counts;
    kept = λ not. keeps_none B board;
    unwritten = λ not. bytes-kept B board board (keeps_none B board);
    same = λ not good. refl;
    fails = h.fails;
    at_rest = λ known told opened. absurd (shut opened);
    looks = λ looks. absurd (shut looks.opens);
  }

-- no board keeps its store
shut-kept : (image : List ℕ) → KeepsStore (no_board image) tt tt
shut-kept image =
    record { same = refl; flight = λ place flies. flies; later = omega arith; before = λ start i x le left. inl left }

-- a command without a board, from what it says and what it does to its files
pub carries-said : {E : Type 0} (F : FileGhosts E) (image : List ℕ) (c : Command) (files files' : E) (ended : Ended)
    → ¬ c.opens → ((status : ℕ) → ¬ (c.writes status))
    → (c.told F.tells (Unit {0}) → EndsUnprinted c (F.rest files) (F.rest files') image
    (λ word. Rose (F.faults files word) (F.faults files' word)) ended)
    → ((later : ℕ) → later ≤ 1 → c.steps F.tells (Unit {0}) (F.rest files) (F.rest files') image 0 later)
    → (ended ≡ ends.ReadFault → StopsReading F c files files') → ended ≢ ends.BoardFault
    → ((word : ℕ) → ¬ (c.reads word) → F.rest files' word ≡ F.rest files word)
    → (c.told F.tells (Unit {0}) → LeavesUnread c (F.rest files) (F.rest files') image)
    → (ended ≢ ends.ReadFault → ended ≢ ends.BoardFault → (word : ℕ) → F.faults files' word ≡ F.faults files word)
    → Carries F (no_board image) c files files' tt tt 0 0 ended
carries-said F image c files files' ended shut none comes steps read not_board others unread counts =
    carries-kept F (no_board image) c files files' tt tt 0 0 ended shut none
    (λ told. course-as c (F.rest files) (F.rest files') image _ _ ⊥ (Rose 0 0) (λ text. text ≡ [])
    (λ text. Unit {0} → [] ≡ [] ++ text) _ _
    (λ word rose. rose) (λ none. absurd none) (λ text is tells. sym is) (λ text none. absurd none) ended (comes told))
    steps read (record { count = λ good. refl; failed = λ e. absurd (not_board e) }) others unread counts
    (shut-kept image)
