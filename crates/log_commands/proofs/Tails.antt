-- How the end of the log goes on when receipts are filed.
use Rattle.{std.{specs.Prelude.{nat_lt}, proofs.Math.Seq.{take-append-add}}, log_commands.proofs.Staged.{still_leaves}}
use Rattle.std.proofs.Common.{[], ℕ, ◌++◌, ◌+◌, ◌-◌, ◌<◌, ◌∙◌, ◌∷◌, ◌≡◌, ◌≤◌, Bool, List, None, Option, Some, ap}
use Rattle.std.proofs.Common.{append_assoc, arith, drop, inl, inr, length, length-append, length-drop, refl, subst, suc}
use Rattle.std.proofs.{Common.{sym, take, zero, ⊎_elim}, lemmas.List.{append-nil, drop-drop, take-append-le}}
use Rattle.{outside.proofs.Laws.{leaves_none, leaves_then, leaves_wider}, log_commands.proofs.OtherSlots.{kept_and_new}}
use Rattle.log_commands.specs.{Appends.{IsListKept, IsReady, IsStep}, Common.{Ghosts, LeavesOnly, SameBut}}
use Rattle.log_commands.specs.{Filed.{Files, IsNewer, IsOlder}, LogList.{RiseFrom, StandsFor, StandsForLast, last_ones}}
use Rattle.log_commands.specs.{Filed.Files.{appended, over, passed}, Record.{IsRecord, Record}}
use Rattle.log_commands.specs.Filings.{FilesTo, IsLast, IsTailOf, LeavesSome, StandsForSome, newest_after, newest_of}
use Rattle.log_commands.{specs.declared.tail.Tail.{Tail}, proofs.FiledLaws.{files_on}}

-- ---- the newest of a list

newest_append : (n : Option Record) (xs : List Record) (it : Record) → newest_after n (xs ++ it ∷ []) ≡ Some it
newest_append n [] it = refl
newest_append n (x ∷ xs) it = newest_append (Some x) xs it

newest_any : (n m : Option Record) (xs : List Record) → 0 < length xs → newest_after n xs ≡ newest_after m xs
newest_any n m [] some = absurd (omega arith)
newest_any n m (x ∷ xs) some = refl

newest_drop : (k : ℕ) (n : Option Record) (xs : List Record) → k < length xs
    → newest_after n (drop k xs) ≡ newest_after n xs
newest_drop zero n xs few = refl
newest_drop (suc k) n [] few = absurd (omega arith)
newest_drop (suc k) n (x ∷ xs) few = newest_drop k n xs (omega arith) ∙ newest_any n (Some x) xs (omega arith)

-- the last of a list have its newest
pub newest_last : (xs : List Record) → newest_of (last_ones 256 xs) ≡ newest_of xs
newest_last [] = refl
newest_last (x ∷ xs) = newest_drop (length (x ∷ xs) - 256) None (x ∷ xs) (omega arith)

-- ---- numbers rise

rise_more : (a : ℕ) (n : Option Record) (xs : List Record) (it : Record) → RiseFrom a xs → (xs ≡ [] → a < it.number)
    → ((m : Record) → newest_after n xs ≡ Some m → m.number < it.number) → RiseFrom a (xs ++ it ∷ [])
rise_more a n [] it rise alone above = (alone refl, tt)
rise_more a n (x ∷ xs) it rise alone above = (
  rise.0,
  rise_more x.number (Some x) xs it rise.1
      (λ none. above x (ap (λ (ys : List Record). newest_after (Some x) ys) none)) above,
)

number_of : (it : Record) → IsRecord it → 1 ≤ it.number
number_of it h = omega (arith, h.number_is, h.is.receipt_is.number.0)

rise_newer : (xs : List Record) (newest : Option Record) (it : Record) → RiseFrom 0 (last_ones 256 xs)
    → newest_of xs ≡ newest → IsNewer newest it → IsRecord it → RiseFrom 0 (last_ones 256 xs ++ it ∷ [])
rise_newer xs newest it rise is newer h =
    rise_more 0 None (last_ones 256 xs) it rise (λ none. number_of it h) (λ m e.
    let than : IsNewer (Some m) it =
    subst (λ (o : Option Record). IsNewer o it) (sym is ∙ (sym (newest_last xs) ∙ e)) newer in
    than.1)

-- the next place is at most the new record's number
pub place_below : (last : ℕ) (newest : Option Record) (it : Record) → IsLast last newest → IsNewer newest it
    → IsRecord it → last < it.number
place_below last None it is newer h = omega (arith, is, number_of it h)
place_below last (Some n) it is newer h = omega (arith, is.1, newer.1)

-- ---- the last ones

fewer_last : (xs : List Record) → last_ones 255 (last_ones 256 xs) ≡ last_ones 255 xs
fewer_last xs =
    let k = length xs - 256 in
    let n = length (drop k xs) - 255 in
    drop-drop n k xs
    ∙ ap (λ (m : ℕ). drop m xs) (let e : k + n ≡ length xs - 255 = omega (arith, length-drop k xs) in e)

last_new : (xs : List Record) (it : Record)
    → last_ones 256 (last_ones 256 xs ++ it ∷ []) ≡ last_ones 256 (xs ++ it ∷ [])
last_new xs it = kept_and_new (last_ones 256 xs) it
    ∙ (ap (λ (ys : List Record). ys ++ it ∷ []) (fewer_last xs) ∙ sym (kept_and_new xs it))

-- ---- what a cut may leave

some_kept : (records filed : List Record) (image : List ℕ) → IsListKept (last_ones 256 records) image
    → StandsForSome records filed image
some_kept records filed image kept = record {
  count = 0;
  within = omega arith;
  stands = subst (λ (xs : List Record). StandsForLast xs image) (sym (append-nil records))
      (⊎_elim (λ stands. inl stands)
      (λ stands. inr (subst (λ (xs : List Record). StandsFor xs image) (fewer_last records) stands)) kept);
}

some_step : (records : List Record) (it : Record) (image : List ℕ) → IsStep (last_ones 256 records) it image
    → StandsForSome records (it ∷ []) image
some_step records it image step =
    ⊎_elim (λ kept. some_kept records (it ∷ []) image kept)
    (λ stands. record {
      count = 1;
      within = omega arith;
      stands = inl (subst (λ (xs : List Record). StandsFor xs image) (last_new records it) stands);
    }) step

some_before : (records filed more : List Record) (image : List ℕ) → StandsForSome records filed image
    → StandsForSome records (filed ++ more) image
some_before records filed more image h = record {
  count = h.count;
  within = omega (arith, h.within, length-append filed more);
  stands = subst (λ (xs : List Record). StandsForLast (records ++ xs) image)
      (sym (take-append-le h.count filed more h.within)) h.stands;
}

some_behind : (records filed more : List Record) (image : List ℕ) → StandsForSome (records ++ filed) more image
    → StandsForSome records (filed ++ more) image
some_behind records filed more image h = record {
  count = length filed + h.count;
  within = omega (arith, h.within, length-append filed more);
  stands = subst (λ (xs : List Record). StandsForLast xs image) (append_assoc records filed (take h.count more)
      ∙ ap (λ (xs : List Record). records ++ xs) (sym (take-append-add filed more h.count))) h.stands;
}

-- ---- receipts filed one after another

module _ {D L : Type 0} {N : ℕ} (B : Ghosts D N L) (told : Type 0) where
  -- what is filed behind others leaves what either leaves
  pub moments_then : (old mid new : D) (first last : Tail) (receipts filed more : List Record) → FilesTo B told old mid
      first last receipts filed → LeavesSome B told mid new last more → LeavesSome B told old new first (filed ++ more)
  moments_then old mid new first last receipts filed more to then is records at =
      let kind = λ (image text : List ℕ). StandsForSome records (filed ++ more) image in
      leaves_then B kind old mid new
      (leaves_wider B _ kind old mid (λ image text some. some_before records filed more image some)
      (to.moments is records at))
      (leaves_wider B _ kind mid new (λ image text some. some_behind records filed more image some)
      (then is (records ++ filed) (to.stands is records at)))

  pub files_then : (old mid new : D) (first then last : Tail) (receipts others filed more : List Record)
      → FilesTo B told old mid first then receipts filed → FilesTo B told mid new then last others more
      → FilesTo B told old new first last (receipts ++ others) (filed ++ more)
  files_then old mid new first then last receipts others filed more a b = record {
    files = files_on first.newest then.newest last.newest receipts others filed more a.files b.files;
    count = omega (arith, a.count, b.count, length-append filed more);
    stands = λ is records at. subst (IsTailOf (B.image new) (B.in_flight new) last) (append_assoc records filed more)
        (b.stands is (records ++ filed) (a.stands is records at));
    moments = moments_then old mid new first then receipts filed more a b.moments;
  }

  -- nothing is done
  module _ (board : D) (tail : Tail) (only_now : told → (image text : List ℕ)
      → B.left_since board (B.moment board) image text → SameBut (B.in_flight board) (B.image board) image) where
    pub moments_none : (filed : List Record) → LeavesSome B told board board tail filed
    moments_none filed is records at =
        leaves_none B (λ image text. StandsForSome records filed image) board (λ image text left.
        some_kept records filed image (still_leaves (B.image board) image (B.in_flight board) tail.last tail.is_open
        (last_ones 256 records) at.ready (only_now is image text left)))

    pub files_none : FilesTo B told board board tail tail [] []
    files_none = record {
      files = over tail.newest;
      count = omega arith;
      stands = λ is records at. subst (IsTailOf (B.image board) (B.in_flight board) tail) (sym (append-nil records)) at;
      moments = moments_none [];
    }

    pub files_passed : (it : Record) → IsOlder tail.newest it → FilesTo B told board board tail tail (it ∷ []) []
    files_passed it older = record {
      files = passed tail.newest tail.newest it [] [] older (over tail.newest);
      count = omega arith;
      stands = λ is records at. subst (IsTailOf (B.image board) (B.in_flight board) tail) (sym (append-nil records)) at;
      moments = moments_none [];
    }

  -- one is appended
  module _ (old new : D) (tail last : Tail) (it : Record) (receipt : IsRecord it) (newer : IsNewer tail.newest it) where
    pub moments_one : (told → (records : List Record) → IsReady (B.image old) (B.in_flight old) tail.last tail.is_open
        records → RiseFrom 0 (records ++ it ∷ []) → LeavesOnly B old new (λ image text. IsStep records it image))
        → LeavesSome B told old new tail (it ∷ [])
    moments_one leaves is records at =
        leaves_wider B _ (λ image text. StandsForSome records (it ∷ []) image) old new
        (λ image text step. some_step records it image step)
        (leaves is (last_ones 256 records) at.ready
        (rise_newer records tail.newest it at.ready.ends.rise at.newest newer receipt))

    pub files_appended : (told → (records : List Record)
        → IsReady (B.image old) (B.in_flight old) tail.last tail.is_open records → RiseFrom 0 (records ++ it ∷ [])
        → LeavesOnly B old new (λ image text. IsStep records it image))
        → (told → (records : List Record) → IsReady (B.image old) (B.in_flight old) tail.last tail.is_open records
        → RiseFrom 0 (records ++ it ∷ [])
        → IsReady (B.image new) (B.in_flight new) (tail.last + 1) (nat_lt 254 tail.last)
        (last_ones 256 (records ++ it ∷ [])))
        → last.last ≡ tail.last + 1 → last.is_open ≡ nat_lt 254 tail.last → last.newest ≡ Some it
        → last.filed ≡ tail.filed + 1
        → FilesTo B told old new tail last (it ∷ []) (it ∷ [])
    files_appended leaves ready place opened newest count = record {
      files = appended tail.newest last.newest it [] [] newer
          (subst (λ (n : Option Record). Files (Some it) [] [] n) (sym newest) (over (Some it)));
      count = omega (arith, count);
      stands = λ is records at. record {
        ready = subst (λ (xs : List Record). IsReady (B.image new) (B.in_flight new) last.last last.is_open xs)
            (last_new records it)
            (subst (λ (n : ℕ). IsReady (B.image new) (B.in_flight new) n last.is_open
            (last_ones 256 (last_ones 256 records ++ it ∷ []))) (sym place)
            (subst (λ (b : Bool). IsReady (B.image new) (B.in_flight new) (tail.last + 1) b
            (last_ones 256 (last_ones 256 records ++ it ∷ []))) (sym opened)
            (ready is (last_ones 256 records) at.ready
            (rise_newer records tail.newest it at.ready.ends.rise at.newest newer receipt))));
        newest = newest_append None records it ∙ sym newest;
      };
      moments = moments_one leaves;
    }
