-- What a call of `rows` comes to.
use Rattle.std.{specs.Prelude.{IsOk, OnOk, codes, is_err}, proofs.lemmas.{Bool.{false≢true}, List.{append-nil}}}
use Rattle.std.proofs.Common.{[], ℕ, ◌++◌, ◌+◌, ◌<◌, ◌∙◌, ◌∷◌, ◌≡◌, ◌≤◌, ◌⊎◌, Err, List, Ok, Option, Result, Some, ap}
use Rattle.std.proofs.Common.{append_assoc, arith, false, inl, inr, length, length-append, refl, subst, sym}
use Rattle.outside.{specs.declared.files.Files.{Ghosts as FileGhosts}, proofs.Laws.{begins_after, keeps_then}}
use Rattle.receipt_reading.specs.{Reading.{EndsBy, HasBegun, IsOver, IsReading, Place, ReadsOn}, Roll.{IsFirst}}
use Rattle.{receipt_reading.specs.ReceiptRows.{heading, row_of, rows_of}, log_commands.specs.BeforeLastLine.{IsTold}}
use Rattle.receipt_reading.specs.declared.roll.RollEnd.TheVariants.{ReadFault, TooLong, Whole}
use Rattle.receipt_reading.proofs.Laws.{beginning_first, receipts_so_far, receipts_taken}
use Rattle.log_commands.specs.{Calls.{MayHaveReadFault}, ListedRows.{IsListing, IsRowsBroken, IsRowsDue, RowsReachLine}}
use Rattle.log_commands.specs.Common.{AreOnRoll, Begins, BoardFault, Ended, Ghosts, KeepsStore, Printed, Reads}
use Rattle.log_commands.specs.{Common.{RisesOnlyIf, RollEnd, Rose, stream_limit}, RowsCalls.{rows_text}}
use Rattle.log_commands.specs.Endings.{line_of, status_of}
use Rattle.log_commands.specs.RowsCalls.{IsRowsCall, ListsShort, ListsWhole, MayEndSo, listed_of, listing_of, rows_end}
use Rattle.log_commands.specs.declared.ending.Ended.TheVariants as ended

-- ---- listings

rows-append : (a b : List Printed) → rows_of (a ++ b) ≡ rows_of a ++ rows_of b
rows-append [] b = refl
rows-append (it ∷ a) b =
    ap (λ (t : List ℕ). (row_of it ++ codes "\n") ++ t) (rows-append a b)
    ∙ sym (append_assoc (row_of it ++ codes "\n") (rows_of a) (rows_of b))

-- a listing goes on with a row
listing_more : (receipts : List Printed) (it : Printed)
    → listing_of (receipts ++ it ∷ []) ≡ listing_of receipts ++ (row_of it ++ codes "\n")
listing_more receipts it =
    ap (λ (t : List ℕ). heading ++ t) (rows-append receipts (it ∷ [])
    ∙ ap (λ (t : List ℕ). rows_of receipts ++ t) (append-nil (row_of it ++ codes "\n")))
    ∙ sym (append_assoc heading (rows_of receipts) (row_of it ++ codes "\n"))

pub listed_more : (old mid new : List ℕ) (receipts : List Printed) (it : Printed) (text : List ℕ)
    → text ≡ row_of it ++ codes "\n" → mid ≡ old ++ listing_of receipts → new ≡ mid ++ text
    → new ≡ old ++ listing_of (receipts ++ it ∷ [])
listed_more old mid new receipts it text is so_far more =
    more ∙ (ap (λ (t : List ℕ). t ++ text) so_far ∙ (append_assoc old (listing_of receipts) text
    ∙ ap (λ (t : List ℕ). old ++ t) (ap (λ (t : List ℕ). listing_of receipts ++ t) is
    ∙ sym (listing_more receipts it))))

pub begun_more : (old mid new : List ℕ) (receipts : List Printed) (it : Printed) (text : List ℕ)
    → text ≡ row_of it ++ codes "\n" → mid ≡ old ++ listing_of receipts → Begins mid new text
    → Begins old new (listing_of (receipts ++ it ∷ []))
begun_more old mid new receipts it text is so_far begins =
    subst (Begins old new) (ap (λ (t : List ℕ). listing_of receipts ++ t) is ∙ sym (listing_more receipts it))
    (begins_after old mid new (listing_of receipts) text so_far begins)

-- the heading is the listing of no receipts
pub listed_none : (old new text : List ℕ) → text ≡ heading → new ≡ old ++ text → new ≡ old ++ listing_of []
listed_none old new text is whole =
    whole ∙ ap (λ (t : List ℕ). old ++ t) (is ∙ sym (append-nil heading))

pub begun_none : (old new text : List ℕ) → text ≡ heading → Begins old new text → Begins old new (listing_of [])
begun_none old new text is begins = subst (Begins old new) (is ∙ sym (append-nil heading)) begins

-- ---- what a print answered

pub ok_of : {T E : Type 0} (r : Result T E) → is_err r ≡ false → IsOk r
ok_of (Ok x) is = refl
ok_of (Err e) is = absurd (false≢true (sym is))

pub on_ok_of : {T E P : Type 0} (r : Result T E) → is_err r ≡ false → OnOk r P → P
on_ok_of (Ok x) is p = p
on_ok_of (Err e) is p = absurd (false≢true (sym is))

-- ---- the end of a roll

pub rows_end_read : (end : RollEnd) → rows_end end ≡ ended.ReadFault → end ≡ ReadFault
rows_end_read Whole e = absurd cc
rows_end_read TooLong e = absurd cc
rows_end_read ReadFault e = refl

pub rows_end_board : (end : RollEnd) → rows_end end ≡ BoardFault → ⊥
rows_end_board Whole e = absurd cc
rows_end_board TooLong e = absurd cc
rows_end_board ReadFault e = absurd cc

-- if a read failed, the status is one at which it may
pub rows_end_reads : (end : RollEnd) → ◌≡◌ {A = Option RollEnd} (Some end) (Some ReadFault)
    → MayHaveReadFault (status_of (rows_end end))
rows_end_reads Whole e = absurd cc
rows_end_reads TooLong e = absurd cc
rows_end_reads ReadFault e = inr (inl refl)

-- ---- the heading

not_whole : (end : Option RollEnd) → end ≡ Some Whole → end ≡ Some ReadFault → ⊥
not_whole end whole fault = absurd cc

some_taken : (place : Place) → HasBegun place → place.end ≡ Some ReadFault → place.left ≡ stream_limit → ⊥
some_taken place (inl few) is left = omega (arith, few, left)
some_taken place (inr whole) is left = not_whole place.end whole is

-- behind a first reading the listing is shown, whatever the end
listed_begun : (place : Place) (end : RollEnd) (taken : List ℕ) (receipts : List Printed) → HasBegun place
    → place.end ≡ Some end → length taken + place.left ≡ stream_limit
    → listed_of end taken receipts ≡ listing_of receipts
listed_begun place Whole taken receipts begun is count = refl
listed_begun place TooLong taken receipts begun is count = refl
listed_begun place ReadFault [] receipts begun is count =
    absurd (some_taken place begun is (let left : place.left ≡ stream_limit = omega (arith, count) in left))
listed_begun place ReadFault (byte ∷ bytes) receipts begun is count = refl

-- and nothing is if the first reading failed
pub listed_not : (taken : List ℕ) → length taken ≡ 0 → listed_of ReadFault taken [] ≡ []
listed_not [] none = refl
listed_not (byte ∷ bytes) none = absurd (omega (arith, none))

pub still_begun : (old new : Place) → new.left ≤ old.left → (old.end ≡ Some Whole → new.end ≡ Some Whole)
    → HasBegun old → HasBegun new
still_begun old new less stays (inl few) = inl (omega (arith, few, less))
still_begun old new less stays (inr whole) = inr (stays whole)

-- ---- one list

both_first : (a b more more' : List Printed) → b ≡ a ++ more → a ≡ b ++ more' → a ≡ b
both_first a b more [] is is' = is' ∙ append-nil b
both_first a b more (it ∷ its) is is' =
    absurd (omega (arith, ap length is, ap length is', length-append a more, length-append b (it ∷ its)))

one_list : (roll : List ℕ) (a b : List Printed) → AreOnRoll a roll → AreOnRoll b roll → a ≡ b
one_list roll a b on on' =
    let first : IsFirst a b = beginning_first roll [] [] b a (subst (AreOnRoll b) (sym (append-nil roll)) on') on in
    let next : IsFirst b a = beginning_first roll [] [] a b (subst (AreOnRoll a) (sym (append-nil roll)) on) on' in
    both_first a b first.0 next.0 first.1 next.1

module _ {E D L : Type 0} {N : ℕ} (F : FileGhosts E) (B : Ghosts D N L) (files files' : E) (log log' : D) where
  -- ---- before the last line

  may_end : (place : Place) (receipts : List Printed) (end : RollEnd) (told : F.tells)
      (reading : IsReading F 1 files files' place receipts) → place.end ≡ Some end
      → MayEndSo end (reading.read told).taken (F.rest files' 1) (Rose (F.faults files 1) (F.faults files' 1))
  may_end place receipts Whole told reading is =
      subst (λ (e : Option RollEnd). EndsBy e (reading.read told).taken (F.rest files' 1)) is (reading.read told).ends
  may_end place receipts TooLong told reading is =
      subst (λ (e : Option RollEnd). EndsBy e (reading.read told).taken (F.rest files' 1)) is (reading.read told).ends
  may_end place receipts ReadFault told reading is = reading.fault.rose is

  -- the roll is gone through
  pub reaches_end : (place : Place) (receipts : List Printed) (end : RollEnd) (ended : Ended) (steps steps' : ℕ)
      (told : F.tells) → IsReading F 1 files files' place receipts → IsOver place end → ended ≡ rows_end end
      → ((taken : List ℕ) → length taken + place.left ≡ stream_limit → B.tells_text
      → B.printed log' ≡ B.printed log ++ listed_of end taken receipts) → steps' ≤ steps + 1 + length receipts
      → RowsReachLine F B files files' log log' ended steps steps'
  reaches_end place receipts end ended steps steps' told reading over is shown few =
      let read = reading.read told in record {
        taken = read.taken;
        receipts = receipts;
        roll_is = read.split.bytes;
        few = omega (arith, read.count);
        stands = inl (record {
          end = end;
          through = record {
            ends = may_end place receipts end told reading over.0;
            are = receipts_taken (F.rest files 1) place (F.rest files' 1) receipts read over.1;
          };
          ended_is = is;
          shown = shown read.taken read.count;
        });
        steps_few = few;
      }

  -- the board failed amid the listing
  pub reaches_broken : (place : Place) (receipts : List Printed) (steps steps' : ℕ) (told : F.tells)
      → IsReading F 1 files files' place receipts → Rose (B.faults log) (B.faults log')
      → (B.tells_text → Begins (B.printed log) (B.printed log') (listing_of receipts))
      → steps' ≤ steps + 1 + length receipts → RowsReachLine F B files files' log log' BoardFault steps steps'
  reaches_broken place receipts steps steps' told reading failed begun few =
      let read = reading.read told in record {
        taken = read.taken;
        receipts = receipts;
        roll_is = read.split.bytes;
        few = omega (arith, read.count);
        stands = inr (record {
          ended_is = refl;
          failed = failed;
          unread = place.ahead;
          reads = receipts_so_far (F.rest files 1) place (F.rest files' 1) receipts read;
          begun = begun;
        });
        steps_few = few;
      }

module _ {E D L : Type 0} {N : ℕ} (F : FileGhosts E) (B : Ghosts D N L) where
  -- the first reading failed
  pub reaches_unread : (files files' : E) (log : D) (place : Place) (steps : ℕ) (told : F.tells)
      → IsReading F 1 files files' place [] → IsOver place ReadFault → place.left ≡ stream_limit
      → RowsReachLine F B files files' log log (rows_end ReadFault) steps steps
  reaches_unread files files' log place steps told reading over left =
      reaches_end F B files files' log log place [] ReadFault (rows_end ReadFault) steps steps told reading over refl
      (λ taken count text. sym (append-nil (B.printed log))
      ∙ ap (λ (t : List ℕ). B.printed log ++ t) (sym (listed_not taken (omega (arith, count, left)))))
      (omega arith)

  -- the roll was read on, and is over
  pub reaches_over : (files mid files' : E) (log log' : D) (old new : Place) (end : RollEnd) (ended : Ended)
      (steps steps' : ℕ) (told : F.tells) → (listing : IsListing F B files mid log log' old steps steps')
      → ReadsOn F 1 mid files' old new [] → IsOver new end → new.left ≤ old.left
      → (old.end ≡ Some Whole → new.end ≡ Some Whole) → ended ≡ rows_end end
      → RowsReachLine F B files files' log log' ended steps steps'
  reaches_over files mid files' log log' old new end ended steps steps' told listing on over less stays is =
      reaches_end F B files files' log log' new listing.receipts end ended steps steps' told
      (subst (IsReading F 1 files files' new) (append-nil listing.receipts) (on files listing.receipts listing.reading))
      over is
      (λ taken count text. listing.printed text ∙ ap (λ (t : List ℕ). B.printed log ++ t)
      (sym (listed_begun new end taken listing.receipts (still_begun old new less stays listing.begun) over.0 count)))
      listing.few

  -- a row more is listed
  pub lists_on : (files mid files' : E) (log between log' : D) (old new : Place) (it : Printed) (text : List ℕ)
      (steps steps' steps'' : ℕ) → IsListing F B files mid log between old steps steps'
      → ReadsOn F 1 mid files' old new (it ∷ []) → new.left ≤ old.left
      → (old.end ≡ Some Whole → new.end ≡ Some Whole) → text ≡ row_of it ++ codes "\n"
      → (B.tells_text → B.printed log' ≡ B.printed between ++ text) → steps'' ≡ steps' + 1
      → IsListing F B files files' log log' new steps steps''
  lists_on files mid files' log between log' old new it text steps steps' steps'' listing on less stays is more one =
      record {
        receipts = listing.receipts ++ it ∷ [];
        reading = on files listing.receipts listing.reading;
        begun = still_begun old new less stays listing.begun;
        printed = λ told. listed_more (B.printed log) (B.printed between) (B.printed log') listing.receipts it text is
            (listing.printed told) (more told);
        few = omega (arith, listing.few, one, length-append listing.receipts (it ∷ []));
      }

  -- the board failed at a row
  pub breaks_off : (files mid files' : E) (log between log' : D) (old new : Place) (it : Printed) (text : List ℕ)
      (steps steps' steps'' : ℕ) (told : F.tells) → IsListing F B files mid log between old steps steps'
      → ReadsOn F 1 mid files' old new (it ∷ []) → text ≡ row_of it ++ codes "\n"
      → (B.tells_text → Begins (B.printed between) (B.printed log') text) → Rose (B.faults log) (B.faults log')
      → steps'' ≡ steps' + 1 → RowsReachLine F B files files' log log' BoardFault steps steps''
  breaks_off files mid files' log between log' old new it text steps steps' steps'' told listing on is begun failed
      one =
      reaches_broken F B files files' log log' new (listing.receipts ++ it ∷ []) steps steps'' told
      (on files listing.receipts listing.reading) failed
      (λ tells. begun_more (B.printed log) (B.printed between) (B.printed log') listing.receipts it text is
      (listing.printed tells) (begun tells))
      (omega (arith, listing.few, one, length-append listing.receipts (it ∷ [])))

  -- ---- the last line

  module _ (files files' : E) (log mid log' : D) (ended : Ended) (status : ℕ) (taken : List ℕ)
      (receipts : List Printed) where
    rows_ends : IsRowsDue F B files files' log mid ended taken receipts
        ⊎ IsRowsBroken F B files files' log mid ended taken receipts
        → IsTold B ended mid log' status → (line_of ended ≡ [] → (log' ≡ mid) × (status ≡ status_of ended))
        → RisesOnlyIf (status ≡ 8) (B.faults log) (B.faults log')
        → ListsWhole F B files files' log log' taken receipts status
        ⊎ ListsShort F B files files' log log' taken receipts status
    rows_ends (inl due) (inl (status_is, printed)) silent rises = inl (record {
      end = due.end;
      through = due.through;
      status_is = status_is ∙ ap status_of due.ended_is;
      printed = λ told. printed told ∙ (ap (λ (t : List ℕ). t ++ line_of ended) (due.shown told)
          ∙ (append_assoc (B.printed log) (listed_of due.end taken receipts) (line_of ended)
          ∙ ap (λ (e : Ended). B.printed log ++ (listed_of due.end taken receipts ++ line_of e)) due.ended_is));
    })
    rows_ends (inl due) (inr (status_is, rose, begun)) silent rises = inr (record {
      status_is = status_is;
      failed = rises.rose status_is;
      text = rows_text due.end taken receipts;
      of = inr (due.end, due.through, refl);
      begun = λ told. subst (λ (e : Ended).
          Begins (B.printed log) (B.printed log') (listed_of due.end taken receipts ++ line_of e)) due.ended_is
          (begins_after (B.printed log) (B.printed mid) (B.printed log') (listed_of due.end taken receipts)
          (line_of ended) (due.shown told) (begun told));
    })
    rows_ends (inr broken) told silent rises =
        let quiet = silent (ap line_of broken.ended_is) in
        let eight : status ≡ 8 = quiet.1 ∙ ap status_of broken.ended_is in
        inr (record {
          status_is = eight;
          failed = rises.rose eight;
          text = listing_of receipts;
          of = inl (broken.unread, broken.reads, refl);
          begun = λ tells. subst (λ (d : D). Begins (B.printed log) (B.printed d) (listing_of receipts)) (sym quiet.0)
              (broken.begun tells);
        })

  pub rows_told : (files files' : E) (log mid log' : D) (steps steps' steps'' : ℕ) (ended : Ended) (status : ℕ)
      → RowsReachLine F B files files' log mid ended steps steps' → KeepsStore B log mid → KeepsStore B mid log'
      → IsTold B ended mid log' status → (line_of ended ≡ [] → (log' ≡ mid) × (status ≡ status_of ended))
      → RisesOnlyIf (status ≡ 8) (B.faults log) (B.faults log') → steps'' ≤ steps' + 1
      → IsRowsCall F B files files' log log' steps steps'' status
  rows_told files files' log mid log' steps steps' steps'' ended status reaches first next told silent rises few =
      record {
        taken = reaches.taken;
        receipts = reaches.receipts;
        roll_is = reaches.roll_is;
        few = reaches.few;
        ends = rows_ends files files' log mid log' ended status reaches.taken reaches.receipts reaches.stands told
            silent rises;
        keeps = keeps_then B log mid log' first next;
        steps_few = omega (arith, reaches.steps_few, few);
      }

  -- ---- a call without a fault

  module _ (files files' : E) (log log' : D) (taken : List ℕ) (receipts : List Printed) (status : ℕ)
      (roll_is : F.rest files 1 ≡ taken ++ F.rest files' 1) (small : length (F.rest files 1) < stream_limit)
      (read : ¬ Rose (F.faults files 1) (F.faults files' 1)) where
    zero_by : (end : RollEnd) → status ≡ status_of (rows_end end)
        → MayEndSo end taken (F.rest files' 1) (Rose (F.faults files 1) (F.faults files' 1)) → status ≡ 0
    zero_by Whole is ends = is
    zero_by TooLong is ends =
        absurd (omega (arith, small, ends, ap length roll_is, length-append taken (F.rest files' 1)))
    zero_by ReadFault is ends = absurd (read ends)

  pub rows_whole : (files files' : E) (log log' : D) (steps steps' status : ℕ)
      → IsRowsCall F B files files' log log' steps steps' status → length (F.rest files 1) < stream_limit
      → ¬ Rose (F.faults files 1) (F.faults files' 1) → ¬ Rose (B.faults log) (B.faults log') → status ≡ 0
  rows_whole files files' log log' steps steps' status call small read board = elim call.ends [
    | inl whole ↦ zero_by files files' log log' call.taken call.receipts status call.roll_is small read whole.end
        whole.status_is whole.through.ends
    | inr short ↦ absurd (board short.failed)
  ]

  -- ---- what a call has listed

  -- the receipts gone through are the first of the roll's
  pub rows_first : (files files' : E) (log log' : D) (steps steps' status : ℕ) (all : List Printed)
      → AreOnRoll all (F.rest files 1)
      → (call : IsRowsCall F B files files' log log' steps steps' status) → IsFirst call.receipts all
  rows_first files files' log log' steps steps' status all on call = elim call.ends [
    | inl whole ↦ first [] whole.through.are
    | inr short ↦ elim short.of [
      | inl so_far ↦ first so_far.0 so_far.1
      | inr through ↦ first [] through.1.are
    ]
  ]
    where
      first : (unread : List ℕ) → Reads call.taken call.receipts unread → IsFirst call.receipts all
      first unread reads = beginning_first call.taken (F.rest files' 1) unread all call.receipts
          (subst (AreOnRoll all) call.roll_is on) reads

  zero_is : (end : RollEnd) → 0 ≡ status_of (rows_end end) → end ≡ Whole
  zero_is Whole e = refl
  zero_is TooLong e = absurd (omega (arith, e))
  zero_is ReadFault e = absurd (omega (arith, e))

  nothing_left : (taken rest : List ℕ) (failed : Type 0) (end : RollEnd) → end ≡ Whole
      → MayEndSo end taken rest failed → rest ≡ []
  nothing_left taken rest failed end is ends =
      let over : MayEndSo Whole taken rest failed = subst (λ (e : RollEnd). MayEndSo e taken rest failed) is ends in over

  -- and all of them if it ends with 0
  pub rows_all : (files files' : E) (log log' : D) (steps steps' : ℕ) (all : List Printed)
      → AreOnRoll all (F.rest files 1) → IsRowsCall F B files files' log log' steps steps' 0
      → B.tells_text → B.printed log' ≡ B.printed log ++ listing_of all
  rows_all files files' log log' steps steps' all on call tells = elim call.ends [
    | inl whole ↦ by whole (zero_is whole.end whole.status_is)
    | inr short ↦ absurd (omega (arith, short.status_is))
  ]
    where
      by : (whole : ListsWhole F B files files' log log' call.taken call.receipts 0) → whole.end ≡ Whole
          → B.printed log' ≡ B.printed log ++ listing_of all
      by whole is =
          let over = nothing_left call.taken (F.rest files' 1) (Rose (F.faults files 1) (F.faults files' 1))
          whole.end is whole.through.ends in
          let roll_is : F.rest files 1 ≡ call.taken =
          call.roll_is ∙ (ap (λ (t : List ℕ). call.taken ++ t) over ∙ append-nil call.taken) in
          let same_list : call.receipts ≡ all = one_list (F.rest files 1) call.receipts all
          (subst (AreOnRoll call.receipts) (sym roll_is) whole.through.are) on in
          whole.printed tells ∙ ap (λ (t : List ℕ). B.printed log ++ t)
          (ap (λ (e : RollEnd). rows_text e call.taken call.receipts) is
          ∙ (append-nil (listing_of call.receipts) ∙ ap listing_of same_list))
