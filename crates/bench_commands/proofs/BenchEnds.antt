-- The command `bench`: why it judges nothing, what it judges, and how it comes to its last line.
use Rattle.std.specs.Prelude.{◌⊎◌}
use Rattle.std.proofs.Common.{[], ℕ, ◌++◌, ◌+◌, ◌∙◌, ◌≡◌, ◌≢◌, ◌≤◌, Bool, Err, List, Ok, Result, ap, ap₂, arith, false}
use Rattle.std.proofs.{Common.{flat_map, inl, inr, length, refl, subst, sym, true, ⊎_elim}, lemmas.List.{append-nil}}
use Rattle.outside.specs.{PrintedText.{Begins}, declared.{files.Files.{Ghosts as FileGhosts}, printer.Printer.{Ghosts}}}
use Rattle.{outside.{specs.Runs.{LeavesNow}, proofs.Laws.{keeps_then, rose_behind}}, drive_text.specs.Ending.{IsSplit}}
use Rattle.{drive_source.proofs.Laws.{begins_going}, call_ends.specs.Ending.{EndsByCourse, EndsUnprinted, IsRefusal}}
use Rattle.call_ends.specs.{LastLine.{status_of}, Making.{Prints, answer_with, is_plain}, Pieces.{pieces_of}}
use Rattle.{call_ends.specs.Reads.{GoesTo}, store_commands.specs.Opened.{IsBarred, OnlyOpens, also_told}}
use Rattle.call_ends.proofs.Laws.{board_not_read, bytes-kept, bytes-read, carries-looked, ends-failing, ends-lacking}
use Rattle.call_ends.proofs.Laws.{ends-printed, ends-refused, fails_as, few_pieces, goes-none, goes-on, makes-known}
use Rattle.call_ends.proofs.Laws.{makes-lacking, makes-nothing, no_fault, refusal_by, stops-with}
use Rattle.store_commands.specs.{Opening.{IsSealedIn}, SealedTariff.{sealed_tariff}, TariffSteps.{AreNoTables}}
use Rattle.store_commands.proofs.Laws.{course-board, course-refusal, owed-refused, reads-also, unwritten-kept}
use Rattle.bench_commands.specs.Bench.{HasTerms, Terms, bench_answer, bench_command, ended_for_readings, judged_ending}
use Rattle.bench_commands.specs.Bench.{passing_status, readings_answer, terms_of, terms_over, terms_with}
use Rattle.bench_commands.specs.BenchSteps.{AreRefused, IsNoDrive, IsSealedBy, IsWholeDrive, ended_with, judged_pass}
use Rattle.bench_commands.specs.BenchSteps.{judged_text}
use Rattle.bench_commands.specs.Common.{Answer, BadAt, Carries, Durable, Ended, Endless, Event, FailsOr, Makes, Reading}
use Rattle.bench_commands.specs.Common.{ReadingsFault, ReadsWord, Run, Seal, StreamEnd, Tree, Whole, drive_end}
use Rattle.bench_commands.specs.Common.{opening_in, readings_in, refused_as, run_events, store_of}
use Rattle.call_ends.specs.declared.ending.Ended.TheVariants as ended
use Rattle.verify_bench.specs.declared.reading.ReadingsFault.TheVariants as readings

-- the end after the report was printed
answer-passing : (pass : Bool) (text : List ℕ)
    → record { status = passing_status pass; shown = text; line = [] } ≡ answer_with text (ended_with pass)
answer-passing true text = refl
answer-passing false text = refl

plain-passing : (pass : Bool) → is_plain (status_of (ended_with pass)) ≡ true
plain-passing true = refl
plain-passing false = refl

-- ---- why there is nothing

refusal-readings : (fault : ReadingsFault) → IsRefusal (ended_for_readings fault)
refusal-readings readings.TooLong = refusal_by ended.LongReadings refl refl refl
refusal-readings (readings.BadRow row) = refusal_by (ended.BadReadings row) refl refl refl
refusal-readings readings.NoMemory = refusal_by ended.NoMemory refl refl refl

module _ (contents left : ℕ → List ℕ) (image : List ℕ) (read_failed : ℕ → Type 0) where
  abbrev Ends : Ended → Type 0
  Ends why = EndsUnprinted bench_command contents left image read_failed why

  abbrev answer : Answer
  answer = bench_answer (terms_of (opening_in image) (contents 1)) (contents 2) (contents 3)

  refused : (why : Ended) → answer ≡ refused_as why → IsRefusal why → Ends why
  refused why e is = ends-refused bench_command contents left image read_failed why e (⊎_elim is.not_0 is.not_11)
      (λ z. absurd (is.not_3 z))

  -- the tariff is
  fails-tariff : (seal : Seal) (read : Type 0) (why : Ended)
      → ((r : Result Tree Ended) → sealed_tariff seal.digest (contents 1) ≡ r
      → terms_of (opening_in image) (contents 1) ≡ terms_with seal r)
      → AreNoTables seal.digest (contents 1) read why → FailsOr Ends why
  fails-tariff seal read ended.ReadFault by h = record { how = inl refl }
  fails-tariff seal read ended.NoMemory by h = record { how = inr (inl refl) }
  fails-tariff seal read (ended.BadTariff why) by h = record {
    how = inr (inr (refused (ended.BadTariff why)
        (ap (λ (r : Result Terms Ended). bench_answer r (contents 2) (contents 3)) (by (Err (ended.BadTariff why)) h))
        (refusal_by (ended.BadTariff why) refl refl refl)));
  }
  fails-tariff seal read (ended.WrongTariff digest own) by h = record {
    how = inr (inr (refused (ended.WrongTariff digest own)
        (ap (λ (r : Result Terms Ended). bench_answer r (contents 2) (contents 3))
        (by (Err (ended.WrongTariff digest own)) h))
        (refusal_by (ended.WrongTariff digest own) refl refl refl)));
  }
  fails-tariff seal read why by h = absurd h

  -- under terms
  module _ (has : HasTerms image (contents 1)) where
    by_end : (reached : StreamEnd) → drive_end (contents 2) ≡ reached
        → answer ≡ judged_ending has.terms (contents 2) (contents 3) reached
    by_end reached e = ap (λ (r : Result Terms Ended). bench_answer r (contents 2) (contents 3)) has.are
        ∙ ap (judged_ending has.terms (contents 2) (contents 3)) e

    by_readings : (read : Result (List Reading) ReadingsFault) → drive_end (contents 2) ≡ Whole
        → readings_in has.terms.tree.decimals (contents 3) ≡ read
        → answer ≡ readings_answer has.terms (contents 2) read
    by_readings read whole e = by_end Whole whole ∙ ap (readings_answer has.terms (contents 2)) e

    not_3 : ¬ bench_command.reads_all 3
    not_3 (inl e) = absurd cc
    not_3 (inr e) = absurd cc

    -- the drive wasn't read
    course-no_drive : (why : Ended) → IsNoDrive (contents 2) (left 2) why
        → (why ≡ ended.ReadFault → read_failed 2) → Ends why
    course-no_drive ended.ReadFault h failed =
        ends-failing bench_command contents left image read_failed h.taken h.split (inr has) 2 ended.ReadFault refl
        (inr (inl refl)) (inr (inl (refl, record { terms = has.terms; are = has.are; going = h.stands })))
        (λ e. failed refl) (record { how = inl refl })
    course-no_drive (ended.BadDrive line) h failed =
        ends-refused bench_command contents left image read_failed (ended.BadDrive line) (by_end (BadAt line) h.0) not_3
        (λ e. h.1)
    course-no_drive ended.EndlessDrive h failed =
        ends-refused bench_command contents left image read_failed ended.EndlessDrive (by_end Endless h.0) not_3
        (λ e. h.1)
    course-no_drive ended.NoMemory h failed =
        ends-lacking bench_command contents left image read_failed h.taken h.split (inr has)
    course-no_drive why h failed = absurd h

    -- the readings are refused
    refused-readings : (why : Ended) → drive_end (contents 2) ≡ Whole
        → AreRefused has.terms.tree.decimals (contents 3) why → Ends why
    refused-readings why whole (fault, (e, is)) = subst Ends (sym is)
        (refused (ended_for_readings fault) (by_readings (Err fault) whole e) (refusal-readings fault))

-- ---- reading the words in turn

module _ {E : Type 0} (F : FileGhosts E) (image : List ℕ) (seal : Seal) where
  abbrev Told : Type 0
  Told = F.tells × IsSealedBy image seal

  abbrev Known : FileGhosts E
  Known = also_told F (IsSealedBy image seal)

  sealed_in : Told → IsSealedIn image
  sealed_in told = record { store = (told.1.durable, seal); is = told.1.is }

  comes-tariff : (files : E) → Told → bench_command.comes_to (F.rest files) image 1 []
  comes-tariff files told = inl (refl, (refl, sealed_in told))

  by_tariff : (files : E) → Told → (r : Result Tree Ended) → sealed_tariff seal.digest (F.rest files 1) ≡ r
      → terms_of (opening_in image) (F.rest files 1) ≡ terms_with seal r
  by_tariff files told r is =
      ap (λ (o : Result (Durable × Seal) Ended). terms_over o (F.rest files 1)) told.1.is ∙ ap (terms_with seal) is

  module _ {files first : E} where
    -- the tariff wasn't read
    pub no_tariff : {T : Type 0} (failed : Type 0) (why : Ended) → ReadsWord F {T = T} 1 files first (Err why)
        → (F.tells → AreNoTables seal.digest (F.rest files 1) failed why)
        → Makes Known bench_command image files first [] why
    no_tariff failed why own none = makes-nothing 1 [] (goes-none files) (reads-also _ own) refl (omega arith)
        (inl refl) (comes-tariff files)
        (λ told. record { bytes = sym (own.others 2 (λ e. absurd (omega (arith, e)))) }) refl
        (λ told. inl (refl, sealed_in told))
        (λ told. fails-tariff (F.rest files) (F.rest first) image _ seal failed why (by_tariff files told)
        (none told.0))

    -- it was read
    module _ {T : Type 0} {x : T} (t : Tree) (own : ReadsWord F {T = T} 1 files first (Ok x))
        (found : F.tells → sealed_tariff seal.digest (F.rest files 1) ≡ Ok t) where
      abbrev terms : Terms
      terms = record { seal = seal; tree = t }

      are : Told → terms_of (opening_in image) (F.rest files 1) ≡ Ok terms
      are told = by_tariff files told (Ok t) (found told.0)

      has : Told → HasTerms image (F.rest files 1)
      has told = record { terms = terms; are = are told }

      goes-tariff : GoesTo Known bench_command image Told 1 files first
      goes-tariff =
          goes-on 1 [] (goes-none files) (reads-also _ own) (omega arith) (inl refl) (comes-tariff files)
          (no_fault _ _ _ refl)

      comes-drive : Told → bench_command.comes_to (F.rest files) image 2 []
      comes-drive told = inr (inl (refl, record { terms = terms; are = are told; going = begins_going }))

      drive_is : F.rest first 2 ≡ F.rest files 2
      drive_is = own.others 2 (λ e. absurd (omega (arith, e)))

      module _ {U : Type 0} {second : E} where
        -- the drive wasn't read
        pub no_drive : (why : Ended) → ReadsWord F {T = U} 2 first second (Err why)
            → (F.tells → IsNoDrive (F.rest first 2) (F.rest second 2) why)
            → Makes Known bench_command image files second [] why
        no_drive why drive none = record {
          comes = λ told.
              course-no_drive (F.rest files) (F.rest second) image _ (has told) why
              (subst (λ (d : List ℕ). IsNoDrive d (F.rest second 2) why) drive_is (none told.0))
              (λ e. rose_behind _ _ _ (goes-tariff.counts 2) (drive.read_fault (ap Err e)));
          follows = stops-with 2 [] goes-tariff (reads-also _ drive) (omega arith) (inr (inl refl)) comes-drive refl;
          not_board = λ e. drive.not_board (ap Err e);
        }

        -- it was read
        module _ {y : U} (runs : List Run) (drive : ReadsWord F {T = U} 2 first second (Ok y))
            (was : F.tells → IsWholeDrive (F.rest first 2) (F.rest second 2) runs) where
          whole : Told → IsWholeDrive (F.rest files 2) (F.rest second 2) runs
          whole told = subst (λ (d : List ℕ). IsWholeDrive d (F.rest second 2) runs) drive_is (was told.0)

          goes-drive : GoesTo Known bench_command image Told 2 files second
          goes-drive = goes-on 2 [] goes-tariff (reads-also _ drive) (omega arith) (inr (inl refl)) comes-drive
              (no_fault _ _ _ refl)

          comes-readings : Told → bench_command.comes_to (F.rest files) image 3 (F.rest files 2)
          comes-readings told =
              inr (inr (refl, record { terms = terms; are = are told; whole = (whole told).end_is; all = refl }))

          text_is : F.rest second 3 ≡ F.rest files 3
          text_is =
              drive.others 3 (λ e. absurd (omega (arith, e))) ∙ own.others 3 (λ e. absurd (omega (arith, e)))

          module _ {V : Type 0} {third : E} {result : Result V Ended}
              (mine : ReadsWord F {T = V} 3 second third result) where
            left : Told → F.rest third 2 ≡ []
            left told = mine.others 2 (λ e. absurd (omega (arith, e))) ∙ (whole told).none_left

            taken : Told → IsSplit (F.rest files 2) (F.rest files 2) (F.rest third 2)
            taken told = record {
              bytes = sym (ap (λ (d : List ℕ). F.rest files 2 ++ d) (left told) ∙ append-nil (F.rest files 2));
            }

          module _ {V : Type 0} {third : E} where
            -- the readings weren't read
            pub no_readings : (why : Ended) → (mine : ReadsWord F {T = V} 3 second third (Err why))
                → (F.tells → FailsOr (AreRefused t.decimals (F.rest second 3)) why)
                → Makes Known bench_command image files third [] why
            unfolding has
            no_readings why mine none = makes-nothing 3 (F.rest files 2) goes-drive (reads-also _ mine) refl
                (omega arith) (inr (inr refl)) comes-readings (taken mine) refl (λ told. inr (has told))
                (λ told. fails_as (λ h. refused-readings (F.rest files) (F.rest third) image _ (has told) why
                (whole told).end_is (subst (λ (text : List ℕ). AreRefused t.decimals text why) text_is h))
                (none told.0))

            -- they were read
            module _ {z : V} (mine : ReadsWord F {T = V} 3 second third (Ok z)) where
              goes-readings : GoesTo Known bench_command image Told 3 files third
              goes-readings = goes-on 3 (F.rest files 2) goes-drive (reads-also _ mine) (omega arith)
                  (inr (inr refl)) comes-readings (no_fault _ _ _ refl)

              each_read : Told → (word : ℕ) → bench_command.reads word → F.rest third word ≡ []
              each_read told word (inl e) = ap (F.rest third) e ∙ (mine.others 1 (λ f. absurd (omega (arith, f)))
                  ∙ drive.others 1 (λ f. absurd (omega (arith, f))) ∙ own.ended told.0)
              each_read told word (inr (inl e)) = ap (F.rest third) e ∙ left mine told
              each_read told word (inr (inr e)) = ap (F.rest third) e ∙ mine.ended told.0

              -- there was no memory for the report
              pub no_report : Makes Known bench_command image files third [] ended.NoMemory
              no_report = makes-lacking (F.rest files 2) goes-readings (taken mine) (λ told. inr (has told))

              -- the readings are judged
              pub judged : (found : List Reading) (text : List ℕ) (end : Ended)
                  → (F.tells → readings_in t.decimals (F.rest second 3) ≡ Ok found)
                  → text ≡ judged_text terms (flat_map run_events runs) found
                  → end ≡ ended_with (judged_pass terms (flat_map run_events runs) found)
                  → Makes Known bench_command image files third text end
              unfolding has
              judged found text end read text_so end_so =
                  let pass = judged_pass terms (flat_map run_events runs) found in
                  makes-known (λ status all. all) refl text end goes-readings
                  (ap (λ (e : Ended). is_plain (status_of e)) end_so ∙ plain-passing pass)
                  (λ told.
                  let read_here : readings_in t.decimals (F.rest files 3) ≡ Ok found =
                  subst (λ (xs : List ℕ). readings_in t.decimals xs ≡ Ok found) text_is (read told.0) in
                  by_readings (F.rest files) (F.rest third) image (λ word. ⊥) (has told) (Ok found)
                  (whole told).end_is read_here
                  ∙ ap (λ (events : List Event). record {
                    status = passing_status (judged_pass terms events found);
                    shown = judged_text terms events found;
                    line = [];
                  }) (sym (whole told).events)
                  ∙ answer-passing pass _ ∙ ap₂ answer_with (sym text_so) (sym end_so))
                  (λ told final. each_read told)

-- ---- on the board

module _ (contents left : ℕ → List ℕ) (image : List ℕ) (read_failed : ℕ → Type 0) (failed told : Type 0)
    (before now : List ℕ) (untouched : left 2 ≡ contents 2) (still : now ≡ before) where
  abbrev Here : Ended → Type 0
  Here end = EndsByCourse bench_command contents left image read_failed failed (λ text. told → now ≡ before ++ text)
      (λ text. told → Begins before now text) end

  refused-store : (why : Ended) → (store_of (opening_in image) ≡ Err why) × IsRefusal why → Here why
  refused-store why h =
      course-refusal bench_command contents left image read_failed failed told before now
      (record { bytes = sym untouched }) still why
      (ap (λ (o : Result (Durable × Seal) Ended). bench_answer (terms_over o (contents 1)) (contents 2) (contents 3))
      h.0) (⊎_elim h.1.not_0 h.1.not_11) h.1.not_3

  -- the store bars the verification
  pub course-barred : (why : Ended) → IsBarred why → (why ≢ ended.BoardFault → store_of (opening_in image) ≡ Err why)
      → (why ≡ ended.BoardFault → failed) → Here why
  course-barred =
      owed-refused (λ (w : Ended). store_of (opening_in image) ≡ Err w) Here failed (refused-store ended.NotSealed)
      (λ slot. refused-store (ended.BadSlot slot)) (λ first second. refused-store (ended.SameNumber first second))
      (course-board bench_command contents left image read_failed failed told before now
      (record { bytes = sym untouched }) still)

module _ {E D L : Type 0} {N : ℕ} (F : FileGhosts E) (B : Ghosts D N L) {seal : Seal} {files files' : E}
    {old mid new : D} {before opened now : ℕ} {text : List ℕ} {end last : Ended} {fails : Type 0} (went : ¬ fails)
    (opens : OnlyOpens B fails old mid) (now_held : LeavesNow B mid) (six : opened ≤ before + 6)
    (seal_is : B.tells_image → IsSealedBy (B.image old) seal)
    (makes : (image : List ℕ) → Makes (also_told F (IsSealedBy image seal)) bench_command image files files' text
    end) where
  -- a text is printed behind the opening of the store
  behind : {most : ℕ} → Prints B text most end mid new opened now last
      → Prints B text (6 + most) end old new before now last
  behind p =
      let bytes = bytes-read B old mid opens.reads in
      record {
        ends = p.ends;
        whole = λ good tells. p.whole good tells ∙ ap (λ (x : List ℕ). x ++ text) opens.reads.text;
        begun = λ tells. subst (λ (x : List ℕ). Begins x (B.printed new) text) opens.reads.text (p.begun tells);
        cause = record {
          count = λ good. p.cause.count good ∙ opens.count went;
          failed = λ e. rose_behind _ _ _ (opens.count went) (p.cause.failed e);
        };
        steps = omega (arith, six, p.steps);
        store = keeps_then B old mid new (record {
          same = opens.same went;
          flight = bytes.flight;
          later = bytes.later;
          before = bytes.before;
        }) p.store;
      }

  pub carries-bench : (end ≢ ended.BoardFault → Prints B text (pieces_of (length text)) end mid new opened now last)
      → Carries F B bench_command files files' old new before now last
  carries-bench prints =
      let m = makes (B.image old) in
      let printed = prints m.not_board in
      let p = behind printed in
      carries-looked F B bench_command files files' old new before now last tt (λ status w. w)
      (λ known. ends-printed bench_command (F.rest files) (F.rest files') (B.image old) _ text end
      (m.comes (known.0, seal_is known.1)) B p)
      (λ later le tells told.
      let h = m.comes (tells, seal_is told) in
      omega (
        arith,
        le,
        p.steps,
        few_pieces bench_command (F.rest files) (F.rest files') (B.image old) _ text end h (λ taken. refl),
      ))
      (λ e. let s = m.follows.read_fault (sym (p.ends (λ f. board_not_read (sym f ∙ e))) ∙ e) in
      record { word = s.word; reads = s.reads; rose = s.rose; behind = s.behind })
      p.cause m.follows.others
      (λ known. m.follows.unread (known.0, seal_is known.1))
      (λ read good. m.follows.counts (λ e. read (p.ends good ∙ e)))
      (record {
        bytes = bytes-kept B old new p.store;
        same = λ good. p.store.same;
        looks = λ told. unwritten-kept B fails last old mid new went (opens.synced told) now_held
            (opens.settled told went) (opens.same went) printed.store;
      })
