-- Commands that show a text of a sealed store, or end because the store bars them.
use Rattle.std.proofs.Common.{[], ℕ, ◌++◌, ◌+◌, ◌∙◌, ◌≡◌, ◌≢◌, ◌≤◌, Err, List, Ok, Result, ap, arith, inl, refl, subst}
use Rattle.{std.proofs.Common.{sym}, outside.specs.{Runs.{LeavesNow}, declared.files.Files.{Ghosts as FileGhosts}}}
use Rattle.call_ends.{specs.{Ending.{HasCauseOn}, Stream.{TakesBytes}}, proofs.Laws.{makes-known, no_fault}}
use Rattle.{call_ends.specs.Making.{Prints}, store_commands.specs.Common.{store_command}}
use Rattle.call_ends.proofs.Laws.{as_found, as_refused, board_not_read, carries-looked, ends-printed, goes-none}
use Rattle.store_commands.specs.Common.{Answer, Begins, Carries, Command, Durable, Ended, EndsByCourse, Ghosts}
use Rattle.store_commands.specs.Common.{LeavesStoreUnwritten, Makes, Rose, Seal, no_files, refused_as, shows}
use Rattle.store_commands.{specs.Opened.{IsBarred, OnlyOpens, also_told}, proofs.ReadOnlyCalls.{unwritten-behind}}
use Rattle.store_commands.{specs.Opening.{opening_in, store_of}, proofs.EndsByStore.{course-barred}}
use Rattle.call_ends.specs.declared.ending.Ended.TheVariants as ended

-- a command looks at the sealed store: it opens it, never writes, refuses a store that bars it, and answers to another
pub record LooksAtSealed (c : Command) (answer : (ℕ → List ℕ) → Result (Durable × Seal) Ended → Answer) : Type 1 where
  pub opens : c.opens
  pub unwritten : (status : ℕ) → ¬ c.writes status
  pub answers : (contents : ℕ → List ℕ) (image : List ℕ)
      → c.answer contents image ≡ answer contents (store_of (opening_in image))
  pub refuses : (contents : ℕ → List ℕ) (why : Ended) → answer contents (Err why) ≡ refused_as why
  pub untouched : (contents : ℕ → List ℕ) → TakesBytes c.drive contents contents []
  pub all : (status : ℕ) → c.reads_all status → status ≡ 0
  pub told : (files_tell image_told : Type 0) → c.told files_tell image_told → image_told

-- the store that was opened is that of the image
pub store_known : {D L : Type 0} {N : ℕ} (B : Ghosts D N L) (old : D) {r : Result (Durable × Seal) Ended}
    {store : Durable × Seal}
    → (B.tells_image → ¬ (r ≡ Err ended.BoardFault) → r ≡ store_of (opening_in (B.image old))) → r ≡ Ok store
    → B.tells_image → store_of (opening_in (B.image old)) ≡ Ok store
store_known B old exact e told = as_found _ _ _ ended.BoardFault e (exact told)

-- over the boards before and behind the opening, and what was opened
module _ {E D L : Type 0} {N : ℕ} (F : FileGhosts E) (B : Ghosts D N L) {c : Command}
    {answer : (ℕ → List ℕ) → Result (Durable × Seal) Ended → Answer} (is : LooksAtSealed c answer) (files : E)
    {old mid : D} {r : Result (Durable × Seal) Ended}
    (exact : B.tells_image → ¬ (r ≡ Err ended.BoardFault) → r ≡ store_of (opening_in (B.image old)))
    (opens : OnlyOpens B (r ≡ Err ended.BoardFault) old mid) where
  -- the store bars the command
  pub carries-barred : {why : Ended} {before between : ℕ} → r ≡ Err why → IsBarred why → why ≢ ended.ReadFault
      → HasCauseOn B old mid why
      → LeavesStoreUnwritten B old mid why
      → ((later : ℕ) → later ≤ between + 1
      → c.steps F.tells B.tells_image (F.rest files) (F.rest files) (B.image old) before later)
      → Carries F B c files files old mid before between why
  carries-barred {why = why} {before = before} {between = between} e barred not_read cause looks steps =
      carries-looked F B c files files old mid before between why is.opens is.unwritten
      (λ told. course-barred c (F.rest files) (F.rest files) (B.image old) _ _ B.tells_text (B.printed old)
      (B.printed mid) (is.untouched (F.rest files)) opens.reads.text
      (λ all. absurd (omega (arith, is.all 4 all))) (λ all. absurd (omega (arith, is.all 5 all))) why barred
      (λ good. is.answers (F.rest files) (B.image old) ∙ ap (answer (F.rest files))
      (as_refused r _ why ended.BoardFault e good (exact (is.told F.tells B.tells_image told)))
      ∙ is.refuses (F.rest files) why)
      (λ failed. opens.cause (e ∙ ap Err failed)))
      steps (λ failed. absurd (not_read failed)) cause (λ word not. refl) (λ told word never. refl)
      (λ read board word. refl) looks

  module _ {store : Durable × Seal} (e : r ≡ Ok store) where
    went : ¬ (r ≡ Err ended.BoardFault)
    went = no_fault r store ended.BoardFault e

    abbrev Ends : E → D → Ended → (count : ℕ) → (printed : List ℕ) → Type 0
    Ends files' new last count printed = EndsByCourse c (F.rest files) (F.rest files') (B.image old)
        (λ word. Rose (F.faults files word) (F.faults files' word)) (Rose count (B.faults new))
        (λ shown. B.tells_text → B.printed new ≡ printed ++ shown)
        (λ shown. B.tells_text → Begins printed (B.printed new) shown) last

    -- behind the opening the command makes a text, and prints it
    pub carries-behind : {before between : ℕ} {known : Type 0} {files' : E} {text : List ℕ}
        {end last : Ended} {most : ℕ} {new : D} {now : ℕ}
        → LeavesNow B mid → (B.tells_image → known) → Makes (also_told F known) c (B.image old) files files' text end
        → Prints B text most end mid new between now last → (c.told F.tells B.tells_image → F.tells)
        → ((later : ℕ) → later ≤ now + 1
        → c.steps F.tells B.tells_image (F.rest files) (F.rest files') (B.image old) before later)
        → Carries F B c files files' old new before now last
    carries-behind {before = before} {files' = files'} {text = text} {end = end} {last = last}
        {new = new} {now = now} quiet knows m p told
        steps =
        carries-looked F B c files files' old new before now last is.opens is.unwritten
        (λ t. subst (λ (x : List ℕ). Ends files' new last (B.faults old) x) opens.reads.text
        (subst (λ (n : ℕ). Ends files' new last n (B.printed mid)) (opens.count went)
        (ends-printed c (F.rest files) (F.rest files') (B.image old) _ text end
        (m.comes (told t, knows (is.told F.tells B.tells_image t))) B p)))
        steps
        (λ failed. let s = m.follows.read_fault (sym (p.ends (λ f. board_not_read (sym f ∙ failed))) ∙ failed) in
        record { word = s.word; reads = s.reads; rose = s.rose; behind = s.behind })
        (record {
          count = λ good. p.cause.count good ∙ opens.count went;
          failed = λ failed. subst (λ (n : ℕ). Rose n (B.faults new)) (opens.count went) (p.cause.failed failed);
        })
        m.follows.others (λ t. m.follows.unread (told t, knows (is.told F.tells B.tells_image t)))
        (λ read good. m.follows.counts (λ f. read (p.ends good ∙ f)))
        (unwritten-behind B _ last old mid new went opens quiet p.store)

-- ---- commands that read no file

module _ (answer : Result (Durable × Seal) Ended → Answer) (refuses : (why : Ended) → answer (Err why) ≡ refused_as why)
  where
    looks : LooksAtSealed (store_command (λ image. answer (store_of (opening_in image)))) (λ contents. answer)
    looks = record {
      opens = tt;
      unwritten = λ status none. none;
      answers = λ contents image. refl;
      refuses = λ contents. refuses;
      untouched = λ contents. refl;
      all = λ status zero. zero;
      told = λ files_tell image_told told. told;
    }

    module _ (contents : ℕ → List ℕ) {D L : Type 0} {N : ℕ} (B : Ghosts D N L) {old mid : D} {before between : ℕ}
        {r : Result (Durable × Seal) Ended}
        (exact : B.tells_image → ¬ (r ≡ Err ended.BoardFault) → r ≡ store_of (opening_in (B.image old)))
        (opens : OnlyOpens B (r ≡ Err ended.BoardFault) old mid) (few : between ≤ before + 6) where
      pub shows-barred : {why : Ended} → r ≡ Err why → IsBarred why → why ≢ ended.ReadFault
          → HasCauseOn B old mid why → LeavesStoreUnwritten B old mid why
          → Carries (no_files contents) B (store_command (λ image. answer (store_of (opening_in image)))) tt tt old mid
          before between why
      shows-barred e barred not_read cause unwritten =
          carries-barred (no_files contents) B looks tt exact opens e barred not_read cause unwritten
          (λ later le. omega (arith, le, few))

      -- the text of a sealed store is shown
      pub shows-text : {store : Durable × Seal} {text : List ℕ} {last : Ended} {most : ℕ} {new : D} {now : ℕ}
          → r ≡ Ok store → LeavesNow B mid → answer (Ok store) ≡ shows text
          → Prints B text most ended.Done mid new between now last → most ≤ 58
          → Carries (no_files contents) B (store_command (λ image. answer (store_of (opening_in image)))) tt tt old new
          before now last
      shows-text {text = text} e quiet shown p small =
          carries-behind (no_files contents) B looks tt exact opens e quiet (λ told. told)
          (makes-known (λ status zero. inl zero) refl text ended.Done (goes-none tt) refl
          (λ tells. ap answer (store_known B old exact e tells.1) ∙ shown)
          (λ tells final word reads. absurd reads))
          p (λ told. tt) (λ later le. omega (arith, le, few, p.steps, small))
