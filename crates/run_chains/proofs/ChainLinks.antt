-- One run of a chain, from what holds of a call with the words of a run.
use Rattle.std.proofs.Common.{[], ℕ, ◌++◌, ◌+◌, ◌-◌, ◌∙◌, ◌∷◌, ◌≡◌, ◌≢◌, ◌⊎◌, Err, List, None, Ok, Option, Result, Some}
use Rattle.std.proofs.Common.{ap, arith, inl, inr, length, length-append, refl, subst, sym, take}
use Rattle.{std.proofs.{Math.Seq.{take-append_seam}, lemmas.List.{append-nil}}, outside.specs.Faults.{Rose}}
use Rattle.outside.specs.{PrintedText.{Begins}, declared.{files.Files.{Ghosts as FileGhosts}, printer.Printer.{Ghosts}}}
use Rattle.{outside.specs.Runs.{IsAtRest as NothingFlies}, slot_store.proofs.Laws.{one_body}}
use Rattle.{totals_record.{specs.Reading.{reads}, proofs.Laws.{changes_add_up}}, call_ends.specs.Call.{IsEnd, MayTake}}
use Rattle.{meter_store.specs.Stored.{state_number_of}, run_chains.specs.Common.{text_of, texts}}
use Rattle.meter_run.proofs.Laws.{changes_joined, deeds_follow, the_number_tells_the_commits-beginning}
use Rattle.call_ends.specs.Course.{Answered, BoardFailed, Course, NoMemory, ReadFailed, call_text, line_in, status_in}
use Rattle.{drive_commands.specs.Run.{StandsAfterRun, bytes_in, run_command}, commands.specs.declared.words.Row.{Row}}
use Rattle.{drive_commands.proofs.Laws.{found-held, same_outside, start_stands}, commands.specs.Command.{command_of}}
use Rattle.run_chains.specs.{Chain.{Ran}, ChainSteps.{HasLink}, Link.{IsLeftInside, call_of, deeds_from, text_before}}
use Rattle.run_chains.specs.Common.{BoardState, Change, Deed, Durable, Ended, FilesState, Fill, GrowsBy, HasState}
use Rattle.run_chains.specs.Common.{IsCutOfRun, IsOfTotals, IsRun, Prints, SameBut, Start, after_deeds, changes_of}
use Rattle.run_chains.specs.Common.{deeds_in, image_of, left_since_of, new_board, opening_in, rest_of, start_of}
use Rattle.commands.specs.declared.words.Row.TheVariants as rows

-- ---- what deeds commit

-- a line commits nothing
pub line_commits : (deeds : List Deed) (line : List ℕ) → changes_of (deeds ++ Prints line ∷ []) ≡ changes_of deeds
line_commits deeds line = changes_joined deeds (Prints line ∷ []) ∙ append-nil (changes_of deeds)

-- an image stands for one state
pub one_state : (image : List ℕ) (d e : Durable) → HasState image d → HasState image e → d ≡ e
one_state image d e = one_body reads state_number_of 0 image d e

-- ---- what a cut leaves of a run

-- an image has these commits of a list, from the first on
pub record KeepsCommits (d : Durable) (commits : List Change) (image : List ℕ) : Type 0 where
  pub found : Durable
  pub stands : HasState image found
  pub kept : List Change
  pub more : List Change
  pub split : commits ≡ kept ++ more
  pub follows : GrowsBy d found kept

module _ (image tariff : List ℕ) (d : Durable) (has : HasState image d) where
  -- the state that a run begins with is the image's
  pub begins_with : (s : Start) → start_of (opening_in image) tariff ≡ Ok s → s.durable ≡ d
  begins_with s e = one_state image s.durable d (start_stands image tariff s e).0 has

  pub keeps : (r : Result Start Ended) → start_of (opening_in image) tariff ≡ r → (bytes line i x : List ℕ)
      → IsCutOfRun (Unit {0}) image [] r bytes line i x
      → KeepsCommits d (changes_of (deeds_from r bytes)) i
  keeps (Err why) e bytes line i x m = record {
    found = d;
    stands = subst (λ (l : List ℕ). HasState l d) (sym m.0) has;
    kept = [];
    more = [];
    split = refl;
    follows = changes_add_up d [];
  }
  keeps (Ok s) e bytes line i x m =
      let cut = m.cut in
      let beginning = the_number_tells_the_commits-beginning _ s.seal (Unit {0}) s.durable []
      (deeds_in s bytes ++ Prints line ∷ []) i x cut in
      record {
        found = cut.found;
        stands = cut.stands;
        kept = changes_of cut.kept;
        more = changes_of beginning.0;
        split = sym (line_commits (deeds_in s bytes) line) ∙ ap changes_of beginning.1
            ∙ changes_joined cut.kept beginning.0;
        follows = subst (λ (b : Durable). GrowsBy b cut.found (changes_of cut.kept)) (begins_with s e) cut.follows;
      }

  -- the bytes of the seal
  pub seal_same : (r : Result Start Ended) → (bytes line i x : List ℕ) → IsCutOfRun (Unit {0}) image [] r bytes line i x
      → SameBut IsOfTotals image i
  seal_same (Err why) bytes line i x m = same_outside image i m.0
  seal_same (Ok s) bytes line i x m = m.seal_stays

  -- if the run was carried out the number is that after all its commits
  pub all_kept : (told : Type 0) (printed : List ℕ) (r : Result Start Ended) → start_of (opening_in image) tariff ≡ r
      → (bytes now : List ℕ) → StandsAfterRun told image printed r bytes now
      → (e : Durable) → HasState now e → e.number ≡ d.number + length (changes_of (deeds_from r bytes))
  all_kept told printed (Err why) f bytes now stands e found =
      let same : e ≡ d = one_state image e d (subst (λ (l : List ℕ). HasState l e) stands found) has in
      ap (λ (x : Durable). x.number) same ∙ omega arith
  all_kept told printed (Ok s) f bytes now stands e found =
      let same : e ≡ after_deeds s.durable (deeds_in s bytes) =
      one_state now e (after_deeds s.durable (deeds_in s bytes)) found stands.state in
      ap (λ (x : Durable). x.number) same ∙ (deeds_follow s.durable (deeds_in s bytes)).number
      ∙ ap (λ (x : Durable). x.number + length (changes_of (deeds_in s bytes))) (begins_with s f)

-- if the text is told, and nothing was printed before
pub told_pair : (told : Type 0) → told → (image printed : List ℕ) → printed ≡ []
    → (r : Result Start Ended) (bytes line i x : List ℕ)
    → IsCutOfRun told image printed r bytes line i x → IsCutOfRun (Unit {0}) image [] r bytes line i x
told_pair told t image printed e (Err why) bytes line i x m =
    (m.0, λ u. subst (λ (p : List ℕ). Begins p x line) e (m.1 t))
told_pair told t image printed e (Ok s) bytes line i x m = record {
  cut = record {
    done = m.cut.done;
    next = m.cut.next;
    left = m.cut.left;
    split = m.cut.split;
    one = m.cut.one;
    begun = λ u. subst (λ (p : List ℕ). Begins (p ++ texts s.seal m.cut.done) x (texts s.seal m.cut.next)) e
        (m.cut.begun t);
    kept = m.cut.kept;
    kept_is = m.cut.kept_is;
    found = m.cut.found;
    stands = m.cut.stands;
    scanned = m.cut.scanned;
    fits = m.cut.fits;
    follows = m.cut.follows;
    receipts = m.cut.receipts;
  };
  seal_stays = m.seal_stays;
}

-- what was left since moment 0 was left since a board's first moment
pub since_first : (since : ℕ → List ℕ → List ℕ → Type 0) (moment : ℕ) → moment ≡ 0 → (i text image opening : List ℕ)
    → opening ≡ image
    → since 0 i text ⊎ ((i ≡ image) × (text ≡ [])) → since moment i text ⊎ ((i ≡ opening) × (text ≡ []))
since_first since moment e i text image opening is (inl h) = inl (subst (λ (n : ℕ). since n i text) (sym e) h)
since_first since moment e i text image opening is (inr same) = inr (same.0 ∙ sym is, same.1)

-- the text of a run that ended whole
whole_text : (told board_failed : Type 0) (status : ℕ) (text : List ℕ) (ended : ℕ) (before now : List ℕ)
    → IsEnd told board_failed status text ended before now → told → before ≡ [] → ended ≢ 8 → now ≡ text
whole_text told board_failed status text ended before now (inl whole) t silent not_8 =
    whole.printed t ∙ ap (λ (l : List ℕ). l ++ text) silent
whole_text told board_failed status text ended before now (inr cut) t silent not_8 = absurd (not_8 cut.status_is)

-- ---- how far a run came

module _ (contents left : ℕ → List ℕ) (image : List ℕ) (read_failed : ℕ → Type 0) (board_failed told : Type 0)
    (text : List ℕ) (ended : ℕ) (before now : List ℕ) where
  abbrev Came : Course → Type 0
  Came course = MayTake run_command contents left image read_failed ⊥ course
      × (ended ≡ status_in run_command contents image course)

  pub came : (course : Course) → MayTake run_command contents left image read_failed board_failed course
      → IsEnd told board_failed (status_in run_command contents image course) text ended before now → ended ≢ 8
      → ended ≢ 12 → Came course
  came Answered may (inl whole) not_8 not_12 = (record { whole = may.whole; bad = may.bad }, whole.status_is)
  came Answered may (inr cut) not_8 not_12 = absurd (not_8 cut.status_is)
  came (ReadFailed word taken) may (inl whole) not_8 not_12 =
      (record { reads = may.reads; comes = may.comes; failed = may.failed; takes = may.takes }, whole.status_is)
  came (ReadFailed word taken) may (inr cut) not_8 not_12 = absurd (not_8 cut.status_is)
  came NoMemory may (inl whole) not_8 not_12 = absurd (not_12 whole.status_is)
  came NoMemory may (inr cut) not_8 not_12 = absurd (not_8 cut.status_is)
  came (BoardFailed taken) may (inl whole) not_8 not_12 = absurd (not_8 whole.status_is)
  came (BoardFailed taken) may (inr cut) not_8 not_12 = absurd (not_8 cut.status_is)

-- the words that a run doesn't read
pub not_read : (row : Option Row) → row ≡ Some rows.Run → (word : ℕ) → word ≢ 1 → word ≢ 2
    → ¬ ((command_of row).reads word)
not_read row is word not_1 not_2 reads = by (subst (λ (r : Option Row). (command_of r).reads word) is reads)
  where
    by : (word ≡ 1) ⊎ (word ≡ 2) → ⊥
    by (inl e) = not_1 e
    by (inr e) = not_2 e

-- ---- the run of a chain

-- what files in memory tell
abbrev files_told : FileGhosts FilesState
files_told = record { tells = Unit {0}; rest = rest_of; faults = λ files word. files.failed }

module _ {D L : Type 0} {N : ℕ} (B : Ghosts D N L) (files left : FilesState) (old new : D) (ended : ℕ)
    (run : IsRun files_told B files left old new ended)
    (told : B.tells_text) (silent : B.printed old ≡ []) (still : NothingFlies B old) (not_8 : ended ≢ 8)
    (not_12 : ended ≢ 12)
    (unread : (word : ℕ) → word ≢ 1 → word ≢ 2 → rest_of left word ≡ rest_of files word) where
  abbrev image : List ℕ
  image = B.image old

  abbrev begun : Result Start Ended
  begun = start_of (opening_in image) (rest_of files 1)

  abbrev bytes : List ℕ
  bytes = bytes_in run.call.course (rest_of files 2)

  abbrev line : List ℕ
  line = line_in run_command (rest_of files) image run.call.course

  abbrev IsLeft : List ℕ → List ℕ → Type 0
  IsLeft i x = IsCutOfRun (Unit {0}) image [] begun bytes line i x

  -- a pair that a cut might have left since the call's start
  left_pair : (i x : List ℕ) → B.left_since new (B.moment old) i x → IsLeft i x
  left_pair i x h =
      told_pair B.tells_text told image (B.printed old) silent begun bytes line i x ((run.settled still).each i x h)

  -- or the one with which it began
  first_pair : (i : List ℕ) → i ≡ image → IsLeft i []
  first_pair i same = found-held (Unit {0}) image [] (rest_of files 1) begun refl bytes line i [] same refl

  pub pair_of : (i text : List ℕ) → B.left_since new (B.moment old) i text ⊎ ((i ≡ image) × (text ≡ [])) → IsLeft i text
  pair_of i text (inl h) = left_pair i text h
  pair_of i text (inr same) = subst (λ (x : List ℕ). IsLeft i x) (sym same.1) (first_pair i same.0)

  -- the board of the run, as a board in memory
  module _ (board : BoardState) (prints : B.printed new ≡ text_of board)
      (since : (i x : List ℕ) → left_since_of board 0 i x → B.left_since new (B.moment old) i x) where
    pub linked : {ran : Ran} → ran files (new_board image []) left board ended
        → (d : Durable) → HasState image d → (cut : Option (ℕ × Fill)) (i : List ℕ)
        → B.left_since new (B.moment old) i (text_before cut board) ⊎ ((i ≡ image) × (text_before cut board ≡ []))
        → B.image new ≡ image_of board → (cut ≡ None → i ≡ image_of board)
        → ((fill : Fill) → cut ≡ Some (0, fill) → i ≡ image)
        → ((call : ℕ) (fill : Fill) → cut ≡ Some (call, fill) → call ≢ 0 → IsLeftInside board (call_of board call) i)
        → (number : ℕ) → ((e : Durable) → HasState i e → number ≡ e.number)
        → HasLink ran d image files left cut ended i number
    linked call d has cut i left_so image_is uncut none inside number number_is =
        let pair = pair_of i (text_before cut board) left_so in
        let whole : cut ≡ None → i ≡ B.image new = λ is. uncut is ∙ sym image_is in
        let k = keeps image (rest_of files 1) d has begun refl bytes line i (text_before cut board) pair in
        let commits : List Change = changes_of (deeds_from begun bytes) in
        let is_number : number ≡ k.found.number = number_is k.found k.stands in
        let more : k.found.number ≡ d.number + length k.kept = k.follows.number in
        let few : length commits ≡ length k.kept + length k.more = ap length k.split ∙ length-append k.kept k.more in
        let counted : number - d.number ≡ length k.kept = omega arith in
        let prefix : take (number - d.number) commits ≡ k.kept =
        ap (λ (n : ℕ). take n commits) counted ∙ ap (take (length k.kept)) k.split ∙ take-append_seam k.kept k.more in
        let how = came (rest_of files) (rest_of left) image (λ word. Rose files.failed left.failed)
        (Rose (B.faults old) (B.faults new)) B.tells_text _ ended (B.printed old) (B.printed new)
        run.call.course run.call.may run.call.ends not_8 not_12 in
        record {
          link = record {
            files = files;
            files_left = left;
            board = board;
            cut = cut;
            course = run.call.course;
            status = ended;
            image = i;
            found = k.found;
            number = number;
            text = text_before cut board;
          };
          is = record {
            may = how.0;
            status = how.1;
            memory = not_12;
            others = unread;
            unread = run.call.unread;
            least = omega arith;
            most = omega arith;
            stands = k.stands;
            number = is_number;
            follows = subst (λ (l : List Change). GrowsBy d k.found l) (sym prefix) k.follows;
            whole = λ uncut.
                is_number ∙ all_kept image (rest_of files 1) d has B.tells_text (B.printed old) begun refl bytes
                (B.image new) (run.stands not_8) k.found
                (subst (λ (l : List ℕ). HasState l k.found) (whole uncut) k.stands);
            none = λ fill first. (
              none fill first,
              is_number ∙ ap (λ (x : Durable). x.number) (one_state image k.found d
                  (subst (λ (l : List ℕ). HasState l k.found) (none fill first) k.stands) has),
            );
            printed = sym prints
                ∙ whole_text B.tells_text (Rose (B.faults old) (B.faults new)) (status_in run_command
                (rest_of files) image run.call.course) (call_text run_command (rest_of files) image run.call.course)
                ended (B.printed old) (B.printed new) run.call.ends told silent not_8;
            moments = λ j x h. left_pair j x (since j x h);
            text_is = refl;
            uncut = uncut;
            inside = inside;
            seal_stays = seal_same image (rest_of files 1) d has begun bytes line i (text_before cut board) pair;
            pair = pair;
          };
          call = call;
          files_are = refl;
          left_are = refl;
          cut_is = refl;
          status_is = refl;
          image_is = refl;
          number_is = refl;
        }
