-- What a command has made, and how it ends once that is printed.
use Rattle.{std.{specs.Prelude.{OnOk}, proofs.lemmas.List.{append-nil}}, call_ends.specs.Carried.{Carries, no_board}}
use Rattle.std.proofs.Common.{[], ℕ, ◌&&◌, ◌++◌, ◌+◌, ◌∙◌, ◌≡◌, ◌≢◌, ◌≤◌, ◌⊎◌, Bool, Err, List, None, Ok, Option}
use Rattle.std.proofs.Common.{Result, ap, arith, eqb, false, inl, inr, length, not, refl, subst, sym, true, ⊎_elim}
use Rattle.{outside.specs.declared.files.Files.{Ghosts as FileGhosts}, call_ends.specs.declared.made.Made.{Made}}
use Rattle.{outside.proofs.Laws.{begins_more, begins_not, keeps_none, rose_behind}, call_ends.specs.Making.{text_made}}
use Rattle.call_ends.specs.{Answer.{Answer}, Call.{MayTake}, Pieces.{pieces_of}, Plan.{Last, Plan}}
use Rattle.call_ends.specs.Common.{Begins, Ended, Ghosts, HasCause, KeepsStore, Refusal, Rose, TextFault}
use Rattle.call_ends.specs.Course.{Answered, BoardFailed, Command, Course, NoMemory, ReadFailed, line_in, shown_in}
use Rattle.call_ends.specs.{Ending.{EndsByCourse, EndsUnprinted, IsBrokenOff, IsDue, ended_for}, Tariffs.{bad_tariff}}
use Rattle.call_ends.specs.{LastLine.{line_of, refused_as, status_of}, TextCommands.{text_command, word_command}}
use Rattle.call_ends.specs.Making.{EndsWithText, IsMade, Makes, Prints, answer_with, end_made, end_printed, is_plain}
use Rattle.call_ends.{specs.Reads.{FailsOr, GoesTo, ReadsWord}, proofs.CallsWithoutDevices.{carries-kept, carries-said}}
use Rattle.call_ends.{specs.Stream.{Stream, TakesBytes, bad_status}, proofs.{Endings.{may-then}, Rests.{board_or_not}}}
use Rattle.call_ends.proofs.{EndsApart.{board_not_read}, Following.{fails_as, goes-all, goes-none, goes-on, stops-with}}
use Rattle.call_ends.proofs.{OneAnswer.{no_fault}, Refusals.{ends-failing, ends-lacking, ends-refused, ends-unread}}
use Rattle.call_ends.specs.declared.ending.Ended.TheVariants as ended
use Rattle.call_ends.specs.declared.tariff.TextFault.TheVariants as texts

-- ---- printing

module _ {D L : Type 0} {N : ℕ} {B : Ghosts D N L} where
  -- a text was printed, or its print failed
  pub prints-by : {T E : Type 0} {text : List ℕ} {most : ℕ} {end : Ended} {old new : D} {before now : ℕ}
      (printed : Result T E) → (B.tells_text → OnOk printed (B.printed new ≡ B.printed old ++ text))
      → (B.tells_text → Begins (B.printed old) (B.printed new) text)
      → HasCause (B.faults old) (B.faults new) printed → now ≤ before + most → KeepsStore B old new
      → end ≢ ended.BoardFault → Prints B text most end old new before now (end_printed printed end)
  prints-by (Ok done) whole begun cause steps store not_board = record {
    ends = λ good. refl;
    whole = λ good tells. whole tells;
    begun = begun;
    cause = record { count = λ good. cause.kept refl; failed = λ e. absurd (not_board e) };
    steps = steps;
    store = store;
  }
  prints-by (Err failed) whole begun cause steps store not_board = record {
    ends = λ good. absurd (good refl);
    whole = λ good. absurd (good refl);
    begun = begun;
    cause = record { count = λ good. absurd (good refl); failed = λ e. cause.failed refl };
    steps = steps;
    store = store;
  }

  -- nothing was printed
  pub prints-none : {end : Ended} (board : D) (before : ℕ) → end ≢ ended.BoardFault
      → Prints B [] 0 end board board before before end
  prints-none board before not_board = record {
    ends = λ good. refl;
    whole = λ good tells. sym (append-nil (B.printed board));
    begun = λ tells. begins_not (B.printed board) (B.printed board) [] refl;
    cause = record { count = λ good. refl; failed = λ e. absurd (not_board e) };
    steps = omega arith;
    store = keeps_none B board;
  }

module _ (c : Command) (contents left : ℕ → List ℕ) (image : List ℕ) (read_failed : ℕ → Type 0) (text : List ℕ)
    (end : Ended) (h : EndsWithText c contents left image read_failed text end) where
  due : IsDue c contents left image read_failed ⊥ (λ shown. shown ≡ text) (λ shown. ⊥) h.course end
  due = ⊎_elim
      (λ (d : IsDue c contents left image read_failed ⊥ (λ shown. shown ≡ text) (λ shown. ⊥) h.course end). d)
      (λ (b : IsBrokenOff c contents left image read_failed ⊥ (λ shown. shown ≡ text) (λ shown. ⊥) h.course end).
      absurd b.failed)
      h.stands

  -- a command that comes to an end with a text, over the print of it
  pub ends-printed : {D L : Type 0} {N : ℕ} (B : Ghosts D N L) {most : ℕ} {old new : D} {before now : ℕ} {last : Ended}
      → Prints B text most end old new before now last
      → EndsByCourse c contents left image read_failed (Rose (B.faults old) (B.faults new))
      (λ shown. B.tells_text → B.printed new ≡ B.printed old ++ shown)
      (λ shown. B.tells_text → Begins (B.printed old) (B.printed new) shown) last
  ends-printed B {old = old} {new = new} {last = last} p = record {
    course = h.course;
    may = may-then c contents left image read_failed ⊥ _ (λ none. absurd none) h.course h.may;
    stands = ⊎_elim
        (λ (failed : last ≡ ended.BoardFault). inr (record {
          ended_is = failed;
          failed = p.cause.failed failed;
          started = λ tells.
              subst (λ (x : List ℕ). Begins (B.printed old) (B.printed new) (x ++ line_in c contents image h.course))
              (sym due.shown)
              (begins_more (B.printed old) (B.printed new) text (line_in c contents image h.course) (p.begun tells));
        }))
        (λ (good : (last ≢ ended.BoardFault) × (status_of last ≢ 8)). inl (record {
          status_is = ap status_of (p.ends good.0) ∙ due.status_is;
          line_is = ap line_of (p.ends good.0) ∙ due.line_is;
          shown = λ tells. p.whole good.0 tells ∙ ap (λ (x : List ℕ). B.printed old ++ x) (sym due.shown);
        }))
        (board_or_not last);
  }

  -- in as many steps as the answer has pieces, if nothing is shown before it
  shown_pieces : ((taken : List ℕ) → c.shown contents image taken ≡ []) → (course : Course)
      → MayTake c contents left image read_failed ⊥ course → shown_in c contents image course ≡ text
      → pieces_of (length text) ≤ pieces_of (length (c.answer contents image).shown)
  shown_pieces quiet Answered may is = subst (λ (x : List ℕ). pieces_of (length x)
      ≤ pieces_of (length (c.answer contents image).shown)) is (omega arith)
  shown_pieces quiet (ReadFailed word taken) may is = none (sym is ∙ quiet taken)
    where
      none : text ≡ [] → pieces_of (length text) ≤ pieces_of (length (c.answer contents image).shown)
      none e = rw e (omega arith)
  shown_pieces quiet NoMemory may is = none (sym is)
    where
      none : text ≡ [] → pieces_of (length text) ≤ pieces_of (length (c.answer contents image).shown)
      none e = rw e (omega arith)
  shown_pieces quiet (BoardFailed taken) may is = absurd may.failed

  pub few_pieces : ((taken : List ℕ) → c.shown contents image taken ≡ [])
      → pieces_of (length text) ≤ pieces_of (length (c.answer contents image).shown)
  few_pieces quiet = shown_pieces quiet h.course h.may due.shown

-- ---- commands that make a text

-- a command makes its text of files alone, and shows nothing before it
pub record MakesText (c : Command) : Type 1 where
  pub shut : ¬ c.opens
  pub unwritten : (status : ℕ) → ¬ c.writes status
  pub told : (files_tell image_told : Type 0) → c.told files_tell image_told → files_tell
  pub quiet : (contents : ℕ → List ℕ) (image taken : List ℕ) → c.shown contents image taken ≡ []
  pub all : (status : ℕ) → c.reads_all status → (status ≡ 0) ⊎ (status ≡ 11)
  pub bad : bad_status c.drive ≡ 3

pub text_is : (plan : Plan) (drive : Option Stream) (may_lack : (ℕ → List ℕ) → List ℕ → Type 0)
    (answer : (ℕ → List ℕ) → Answer) → bad_status drive ≡ 3 → MakesText (text_command plan drive may_lack answer)
text_is plan drive may_lack answer three = record {
  shut = λ none. none;
  unwritten = λ status none. none;
  told = λ files_tell image_told tells. tells;
  quiet = λ contents image taken. refl;
  all = λ status all. all;
  bad = three;
}

module _ {E D L : Type 0} {N : ℕ} (F : FileGhosts E) (B : Ghosts D N L) {c : Command} (is : MakesText c)
    (files files' : E) (old new : D) (before now : ℕ) (last : Ended) {text : List ℕ} {end : Ended}
    (makes : (image : List ℕ) → Makes F c image files files' text end) where
  -- what was made was printed in some steps
  pub carries-printed : {most : ℕ} → Prints B text most end old new before now last
      → (((taken : List ℕ) → c.shown (F.rest files) (B.image old) taken ≡ [])
      → (later : ℕ) → later ≤ now + 1
      → c.steps F.tells B.tells_image (F.rest files) (F.rest files') (B.image old) before later)
      → Carries F B c files files' old new before now last
  carries-printed p steps =
      let m = makes (B.image old) in
      let known = is.told F.tells B.tells_image in
      let read_only : last ≡ ended.ReadFault → end ≡ ended.ReadFault =
      λ e. sym (p.ends (λ f. board_not_read (sym f ∙ e))) ∙ e in
      carries-kept F B c files files' old new before now last is.shut is.unwritten
      (λ told. ends-printed c (F.rest files) (F.rest files') (B.image old) _ text end (m.comes (known told)) B p)
      (steps (is.quiet (F.rest files) (B.image old)))
      (λ e. m.follows.read_fault (read_only e)) p.cause m.follows.others (λ told. m.follows.unread (known told))
      (λ read good. m.follows.counts (λ e. read (p.ends good ∙ e))) p.store

  -- a step for each piece
  pub carries-made : ((contents left : ℕ → List ℕ) (image : List ℕ) (later : ℕ)
      → (F.tells → later ≤ before + 1 + pieces_of (length (c.answer contents image).shown))
      → c.steps F.tells B.tells_image contents left image before later)
      → (end ≢ ended.BoardFault → Prints B text (pieces_of (length text)) end old new before now last)
      → Carries F B c files files' old new before now last
  carries-made bound p =
      let m = makes (B.image old) in
      let printed = p m.not_board in
      carries-printed printed (λ quiet later le. bound (F.rest files) (F.rest files') (B.image old) later
      (λ tells. omega (
        arith,
        le,
        printed.steps,
        few_pieces c (F.rest files) (F.rest files') (B.image old) _ text end (m.comes tells) quiet,
      )))

-- a command without a board, that prints its last line alone
pub carries-line : {E : Type 0} (F : FileGhosts E) (image : List ℕ) {c : Command} (is : MakesText c) (files files' : E)
    (end : Ended) → (c.told F.tells (Unit {0}) → F.tells)
    → ((later : ℕ) → later ≤ 1 → c.steps F.tells (Unit {0}) (F.rest files) (F.rest files') image 0 later)
    → Makes F c image files files' [] end → Carries F (no_board image) c files files' tt tt 0 0 end
carries-line F image {c = c} is files files' end known steps m =
    carries-said F image c files files' end is.shut is.unwritten (λ told. m.comes (known told)) steps
    m.follows.read_fault m.not_board m.follows.others (λ told. m.follows.unread (known told))
    (λ read board. m.follows.counts read)

-- ---- how a text is made

-- a status by which a command refuses is none of 0, 3 and 11
abbrev pub is_refusal : (status : ℕ) → Bool
is_refusal status = not (eqb status 0) && (not (eqb status 3) && not (eqb status 11))

-- an answer refuses by an end
pub record Refuses (answer : Answer) (end : Ended) : Type 0 where
  pub is : answer ≡ refused_as end
  pub final : is_refusal (status_of end) ≡ true

-- a tariff is refused
pub refuses-bad : {answer : Answer} {why : Refusal} → answer ≡ bad_tariff why → Refuses answer (ended.BadTariff why)
refuses-bad e = record { is = e; final = refl }

-- what is made of a text without a tariff
pub made-bad : {answer : Answer} (fault : TextFault) → fault ≢ texts.ReadFault
    → ((why : Refusal) → fault ≡ texts.Refused why → answer ≡ bad_tariff why) → IsMade answer (Err (ended_for fault))
made-bad texts.ReadFault not_read answers = absurd (not_read refl)
made-bad (texts.Refused why) not_read answers = inr (answers why refl, refl)
made-bad texts.NoMemory not_read answers = inl refl

test_apart : (test : ℕ → Bool) (status other : ℕ) → test status ≡ true → test other ≡ false → status ≢ other
test_apart test status other passes fails e = by (sym fails ∙ (ap test (sym e) ∙ passes))
  where
    by : false ≡ true → ⊥
    by bad = absurd cc

-- a command that refuses comes to that end
pub ends-plain : {c : Command} (is : MakesText c) {contents left : ℕ → List ℕ} {image : List ℕ}
    {read_failed : ℕ → Type 0} {why : Ended} → Refuses (c.answer contents image) why
    → EndsUnprinted c contents left image read_failed why
ends-plain {c = c} is {contents = contents} {left = left} {image = image} {read_failed = read_failed} {why = why} h =
    ends-refused c contents left image read_failed why h.is
    (λ all. ⊎_elim (λ (z : status_of why ≡ 0). test_apart is_refusal (status_of why) 0 h.final refl z)
    (λ (z : status_of why ≡ 11). test_apart is_refusal (status_of why) 11 h.final refl z) (is.all _ all))
    (λ e. absurd (test_apart is_refusal (status_of why) 3 h.final refl (e ∙ is.bad)))

module _ {E : Type 0} {F : FileGhosts E} {c : Command} {image : List ℕ} {turn : ℕ} {files files' : E} where
  -- the answer is known
  pub makes-known : ((status : ℕ) → c.reads_all status → (status ≡ 0) ⊎ (status ≡ 11)) → bad_status c.drive ≡ 3
      → (text : List ℕ) (end : Ended) → GoesTo F c image F.tells turn files files' → is_plain (status_of end) ≡ true
      → (F.tells → c.answer (F.rest files) image ≡ answer_with text end)
      → (F.tells → (status_of end ≡ 0) ⊎ (status_of end ≡ 11) → (word : ℕ) → c.reads word → F.rest files' word ≡ [])
      → Makes F c image files files' text end
  makes-known all_read bad text end goes plain answer read = record {
    comes = λ tells.
        let at : (c.answer (F.rest files) image).status ≡ status_of end = ap (λ (a : Answer). a.status) (answer tells)
        in
        record {
          course = Answered;
          may = record {
            whole = λ all. read tells (subst (λ (s : ℕ). (s ≡ 0) ⊎ (s ≡ 11)) at (all_read _ all));
            bad = λ e. absurd (test_apart is_plain (status_of end) 3 plain refl (sym at ∙ (e ∙ bad)));
          };
          stands = inl (record {
            status_is = sym at;
            line_is = sym (ap (λ (a : Answer). a.line) (answer tells));
            shown = ap (λ (a : Answer). a.shown) (answer tells);
          });
        };
    follows = goes-all goes (λ e. test_apart is_plain (status_of end) 7 plain refl (ap status_of e));
    not_board = λ e. test_apart is_plain (status_of end) 8 plain refl (ap status_of e);
  }

  -- memory ran out
  pub makes-lacking : (taken : List ℕ) → GoesTo F c image F.tells turn files files'
      → (F.tells → TakesBytes c.drive (F.rest files) (F.rest files') taken)
      → (F.tells → c.may_lack (F.rest files) image taken)
      → Makes F c image files files' [] ended.NoMemory
  makes-lacking taken goes takes lacks = record {
    comes = λ tells.
        ends-lacking c (F.rest files) (F.rest files') image _ taken (takes tells) (lacks tells);
    follows = goes-all goes (λ e. absurd cc);
    not_board = λ e. absurd cc;
  }

  module _ {T : Type 0} {mid : E} {result : Result T Ended} {why : Ended} (word : ℕ) (taken : List ℕ)
      (goes : GoesTo F c image F.tells turn files mid) (read : ReadsWord F word mid files' result)
      (failed : result ≡ Err why) (order : turn ≤ c.turn word) (reads : c.reads word)
      (comes : F.tells → c.comes_to (F.rest files) image word taken)
      (takes : F.tells → TakesBytes c.drive (F.rest files) (F.rest files') taken)
      (quiet : c.shown (F.rest files) image taken ≡ []) where
    abbrev Ends : Ended → Type 0
    Ends end = EndsUnprinted c (F.rest files) (F.rest files') image
        (λ word. Rose (F.faults files word) (F.faults files' word)) end

    rose : why ≡ ended.ReadFault → Rose (F.faults files word) (F.faults files' word)
    rose e = rose_behind _ _ _ (goes.counts word) (read.read_fault (failed ∙ ap Err e))

    stopped : (F.tells → Ends why) → Makes F c image files files' [] why
    stopped ends = record {
      comes = ends;
      follows = stops-with word taken goes read order reads comes failed;
      not_board = λ e. read.not_board (failed ∙ ap Err e);
    }

    -- a word wasn't read
    pub makes-stopped : why ≡ ended.ReadFault → Makes F c image files files' [] why
    makes-stopped e = stopped (λ tells. subst (λ (end : Ended). Ends end) (sym e)
        (ends-unread c (F.rest files) (F.rest files') image _ taken (takes tells) word quiet reads (comes tells)
        (rose e)))

    -- a word gives nothing
    pub makes-nothing : (F.tells → c.may_lack (F.rest files) image taken)
        → (F.tells → FailsOr (λ (end : Ended). Ends end) why) → Makes F c image files files' [] why
    makes-nothing lacks refused = stopped (λ tells. ends-failing c (F.rest files) (F.rest files') image _ taken
        (takes tells) (lacks tells) word _ quiet reads (comes tells) rose (refused tells))

module _ {E : Type 0} {F : FileGhosts E} {c : Command} {image : List ℕ} (is : MakesText c) {turn : ℕ}
    {files files' : E} where
  -- so do the commands that make a text of files alone
  pub makes-answer : (text : List ℕ) (end : Ended) → GoesTo F c image F.tells turn files files'
      → is_plain (status_of end) ≡ true
      → (F.tells → c.answer (F.rest files) image ≡ answer_with text end)
      → (F.tells → (status_of end ≡ 0) ⊎ (status_of end ≡ 11) → (word : ℕ) → c.reads word → F.rest files' word ≡ [])
      → Makes F c image files files' text end
  makes-answer = makes-known is.all is.bad

  pub makes-none : (taken : List ℕ) → GoesTo F c image F.tells turn files files'
      → (F.tells → TakesBytes c.drive (F.rest files) (F.rest files') taken)
      → (F.tells → c.may_lack (F.rest files) image taken)
      → Makes F c image files files' [] ended.NoMemory
  makes-none = makes-lacking

  pub makes-failing : {T : Type 0} {mid : E} {result : Result T Ended} {why : Ended} (word : ℕ) (taken : List ℕ)
      → GoesTo F c image F.tells turn files mid → ReadsWord F word mid files' result → result ≡ Err why
      → turn ≤ c.turn word → c.reads word → (F.tells → c.comes_to (F.rest files) image word taken)
      → (F.tells → TakesBytes c.drive (F.rest files) (F.rest files') taken)
      → (F.tells → c.may_lack (F.rest files) image taken)
      → (F.tells → FailsOr (EndsUnprinted c (F.rest files) (F.rest files') image
      (λ word. Rose (F.faults files word) (F.faults files' word))) why)
      → Makes F c image files files' [] why
  makes-failing word taken goes read failed order reads comes takes lacks refused = makes-nothing word taken goes read
      failed order reads comes takes (is.quiet (F.rest files) image taken) lacks refused

-- ---- commands of one word

-- a command makes its text of the file of word 1 alone
pub record MakesOfWord (c : Command) (answer : List ℕ → Answer) : Type 1 where
  pub makes : MakesText c
  pub answers : (contents : ℕ → List ℕ) (image : List ℕ) → c.answer contents image ≡ answer (contents 1)
  pub only : (word : ℕ) → c.reads word → word ≡ 1
  pub reads : c.reads 1
  pub comes : (contents : ℕ → List ℕ) (image : List ℕ) → c.comes_to contents image 1 []
  pub takes : (contents left : ℕ → List ℕ) → TakesBytes c.drive contents left []
  pub lacks : (contents : ℕ → List ℕ) (image : List ℕ) → c.may_lack contents image []

pub word_is : (answer : List ℕ → Answer) → MakesOfWord (word_command answer) answer
word_is answer = record {
  makes = text_is (Last 1 (λ contents image taken. Unit {0})) None (λ contents taken. Unit {0})
      (λ contents. answer (contents 1)) refl;
  answers = λ contents image. refl;
  only = λ word reads. reads;
  reads = refl;
  comes = λ contents image. (refl, tt);
  takes = λ contents left. refl;
  lacks = λ contents image. tt;
}

module _ {E T : Type 0} {F : FileGhosts E} {c : Command} {answer : List ℕ → Answer} (is : MakesOfWord c answer)
    {image : List ℕ} {files files' : E} {result : Result T Ended} (read : ReadsWord F 1 files files' result) where
  goes : result ≢ Err ended.ReadFault → GoesTo F c image F.tells (c.turn 1) files files'
  goes good = goes-on 1 [] (goes-none files) read (omega arith) is.reads (λ tells. is.comes (F.rest files) image) good

  -- the text was read, and has an answer
  pub makes-read : {x : T} (text : List ℕ) (end : Ended) → result ≡ Ok x → is_plain (status_of end) ≡ true
      → (F.tells → answer (F.rest files 1) ≡ answer_with text end)
      → Makes F c image files files' text end
  makes-read {x = x} text end got plain same =
      makes-answer is.makes text end (goes (no_fault result x ended.ReadFault got)) plain
      (λ tells. is.answers (F.rest files) image ∙ same tells)
      (λ tells final word reads. ap (F.rest files') (is.only word reads) ∙ on_ok result x got (read.ended tells))
    where
      on_ok : {P : Type 0} (r : Result T Ended) (y : T) → r ≡ Ok y → OnOk r P → P
      on_ok (Ok z) y e p = p
      on_ok (Err why) y e p = absurd cc

  -- so is what was made of it
  pub makes-of : {x : T} {text : List ℕ} (made : Result Made Ended) → result ≡ Ok x → (F.tells → text ≡ F.rest files 1)
      → IsMade (answer text) made → Makes F c image files files' (text_made made) (end_made made)
  makes-of {x = x} made got same (inl e) =
      subst (λ (m : Result Made Ended). Makes F c image files files' (text_made m) (end_made m)) (sym e)
      (makes-none is.makes [] (goes (no_fault result x ended.ReadFault got))
      (λ tells. is.takes (F.rest files) (F.rest files')) (λ tells. is.lacks (F.rest files) image))
  makes-of made got same (inr h) =
      makes-read (text_made made) (end_made made) got h.1 (λ tells. ap answer (sym (same tells)) ∙ h.0)

  -- and wasn't
  pub makes-unread : {why : Ended} → result ≡ Err why → (F.tells → FailsOr (Refuses (answer (F.rest files 1))) why)
      → Makes F c image files files' [] why
  makes-unread failed refused = makes-failing is.makes 1 [] (goes-none files) read failed (omega arith) is.reads
      (λ tells. is.comes (F.rest files) image) (λ tells. is.takes (F.rest files) (F.rest files'))
      (λ tells. is.lacks (F.rest files) image)
      (λ tells. fails_as
      (λ h. ends-plain is.makes (record { is = is.answers (F.rest files) image ∙ h.is; final = h.final }))
      (refused tells))
