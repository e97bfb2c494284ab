-- What a call leaves of the meanings of a board in memory: it is kept and done, kept and failed, or refused.
use Rattle.std.{specs.Prelude.{OnErr, OnOk, Result, cond, count_by, get_or}, proofs.lemmas.List.Sums.{sum_by-append}}
use Rattle.std.{specs.declared.result.Result.TheVariants.{Err, Ok}, proofs.Common.{subst, sym, take, true, ⊎_elim}}
use Rattle.std.proofs.Common.{[], ℕ, ◌++◌, ◌+◌, ◌∙◌, ◌∷◌, ◌≡◌, ◌≤◌, ◌⊎◌, List, ap, arith, drop, false, inl, inr, length}
use Rattle.{std.proofs.lemmas.Bool.{false≢true}, outside.proofs.Laws.{begins_not, begins_whole}}
use Rattle.{outside.specs.PrintedText.{Begins}, memory_devices.specs.MemoryBoard.{left_since_of, moment_of, refused_on}}
use Rattle.memory_devices.specs.Calls.{Call, CallOutcome, Contents, IsInSome, Print, Read, Sync, Write, begun, done}
use Rattle.memory_devices.specs.{Calls.{opened}, Moments.{Leaves, LeavesAmid}}
use Rattle.memory_devices.specs.Common.{AreBytes, Elapses, HasCause, IsImage, IsWithin, MayLeaveAmid, SameBut}
use Rattle.memory_devices.specs.MemoryBoard.{BoardState, IsListedCall, contents_of, done_on, failed_on, faults_of}
use Rattle.memory_devices.proofs.OneMoreCall.{LeavesIn, after_pushed, elapses_not, elapses_pushed, elapses_weaker}
use Rattle.memory_devices.proofs.Overwriting.{overwrite_bytes, overwrite_same, overwrite_size, overwrite_written}

-- the contents are those of a call that was done, or that failed, or as they were
abbrev pub Became : Contents → Contents → Call → Type 0
Became old new call = (new ≡ done old call) ⊎ ((new ≡ begun old call) ⊎ (new ≡ old))

abbrev TimeIs : BoardState → Call → BoardState → Type 0
TimeIs old call new = Elapses (moment_of old) (moment_of new) (left_since_of old) (left_since_of new)
    (LeavesIn (contents_of old) call (contents_of new))

count_pushed : (calls : List CallOutcome) (kept : CallOutcome) → count_by (λ k. k.failed) (calls ++ kept ∷ [])
    ≡ count_by (λ k. k.failed) calls + count_by (λ k. k.failed) (kept ∷ [])
count_pushed calls kept = sum_by-append (λ (k : CallOutcome). cond k.failed 1 0) calls (kept ∷ [])

module _ {T E : Type 0} (old new : BoardState) (call : Call) where
  pub became : (result : Result T E) → OnOk result ((¬ IsListedCall old) × (new ≡ done_on old call))
      → OnErr result ((IsListedCall old × (new ≡ failed_on old call)) ⊎ (new ≡ refused_on old))
      → Became (contents_of old) (contents_of new) call
  became (Ok _) kept _ =
      inl (ap contents_of kept.1 ∙ after_pushed (opened old.start) old.calls (record { call = call; failed = false }))
  became (Err _) _ (inl failed) = inr (inl
      (ap contents_of failed.1 ∙ after_pushed (opened old.start) old.calls (record { call = call; failed = true })))
  became (Err _) _ (inr refused) = inr (inr (ap contents_of refused))

  pub became_done : (result : Result T E) → OnOk result ((¬ IsListedCall old) × (new ≡ done_on old call))
      → OnOk result (contents_of new ≡ done (contents_of old) call)
  became_done (Ok _) kept =
      ap contents_of kept.1 ∙ after_pushed (opened old.start) old.calls (record { call = call; failed = false })
  became_done (Err _) _ = tt

  pub time_is : (result : Result T E) → OnOk result ((¬ IsListedCall old) × (new ≡ done_on old call))
      → OnErr result ((IsListedCall old × (new ≡ failed_on old call)) ⊎ (new ≡ refused_on old)) → TimeIs old call new
  time_is (Ok _) kept _ = subst (TimeIs old call) (sym kept.1)
      (elapses_pushed (opened old.start) old.calls (record { call = call; failed = false }))
  time_is (Err _) _ (inl failed) = subst (TimeIs old call) (sym failed.1)
      (elapses_pushed (opened old.start) old.calls (record { call = call; failed = true }))
  time_is (Err _) _ (inr refused) =
      subst (TimeIs old call) (sym refused) (elapses_not (moment_of old) (left_since_of old) _)

  pub cause_is : (result : Result T E) → OnOk result ((¬ IsListedCall old) × (new ≡ done_on old call))
      → OnErr result ((IsListedCall old × (new ≡ failed_on old call)) ⊎ (new ≡ refused_on old))
      → HasCause (faults_of old) (faults_of new) result
  cause_is (Ok _) kept _ = record {
    kept = λ _. ap faults_of kept.1 ∙ omega (arith, count_pushed old.calls (record { call = call; failed = false }));
    failed = λ no. absurd (false≢true no);
  }
  cause_is (Err _) _ (inl failed) = record {
    kept = λ no. absurd (false≢true no);
    failed = λ _. ap faults_of failed.1
        ∙ omega (arith, count_pushed old.calls (record { call = call; failed = true }));
  }
  cause_is (Err _) _ (inr refused) = record {
    kept = λ no. absurd (false≢true no);
    failed = λ _. ap faults_of refused ∙ omega arith;
  }

pub on_ok : {T E : Type 0} {P : Type 0} (result : Result T E) → P → OnOk result P
on_ok (Ok _) p = p
on_ok (Err _) p = tt

-- nothing changed
pub same_but : (places : ℕ → Type 0) (old new : List ℕ) → new ≡ old → SameBut places old new
same_but places old new e = record { size = ap length e; rest = λ place _. ap (λ (l : List ℕ). get_or l place 0) e }

-- the clauses of a read
module _ (old new : Contents) where
  pub read_same : Became old new Read → new ≡ old
  read_same (inl e) = e
  read_same (inr (inl e)) = e
  read_same (inr (inr e)) = e

-- the clauses of a write
module _ (old new : Contents) (at : ℕ) (bytes : List ℕ) where
  pub write_image : at + length bytes ≤ length old.image → Became old new (Write at bytes)
      → SameBut (IsWithin at (length bytes)) old.image new.image
  write_image fits (inl e) = subst (λ (h : Contents). SameBut (IsWithin at (length bytes)) old.image h.image) (sym e)
      (overwrite_same at bytes old.image fits)
  write_image fits (inr (inl e)) = same_but _ old.image new.image (ap (λ (h : Contents). h.image) e)
  write_image fits (inr (inr e)) = same_but _ old.image new.image (ap (λ (h : Contents). h.image) e)

  pub write_is_image : (size : ℕ) → IsImage size old.image → at + length bytes ≤ size → AreBytes bytes
      → Became old new (Write at bytes) → IsImage size new.image
  write_is_image size is fits small (inl e) = subst (λ (h : Contents). IsImage size h.image) (sym e) (record {
    long = overwrite_size at bytes old.image (omega (arith, fits, is.long)) ∙ is.long;
    small = overwrite_bytes at bytes old.image is.small small;
  })
  write_is_image size is fits small (inr (inl e)) = subst (λ (h : Contents). IsImage size h.image) (sym e) is
  write_is_image size is fits small (inr (inr e)) = subst (λ (h : Contents). IsImage size h.image) (sym e) is

  pub write_flight : Became old new (Write at bytes) → (place : ℕ) → IsInSome new.ranges place
      → IsInSome old.ranges place ⊎ IsWithin at (length bytes) place
  write_flight (inl e) place h = subst (λ (c : Contents). IsInSome c.ranges place) e h
  write_flight (inr (inl e)) place h = subst (λ (c : Contents). IsInSome c.ranges place) e h
  write_flight (inr (inr e)) place h = inl (subst (λ (c : Contents). IsInSome c.ranges place) e h)

  pub write_text : Became old new (Write at bytes) → new.text ≡ old.text
  write_text (inl e) = ap (λ (h : Contents). h.text) e
  write_text (inr (inl e)) = ap (λ (h : Contents). h.text) e
  write_text (inr (inr e)) = ap (λ (h : Contents). h.text) e

-- the clauses of a sync
module _ (old new : Contents) where
  pub sync_image : Became old new Sync → new.image ≡ old.image
  sync_image (inl e) = ap (λ (h : Contents). h.image) e
  sync_image (inr (inl e)) = ap (λ (h : Contents). h.image) e
  sync_image (inr (inr e)) = ap (λ (h : Contents). h.image) e

  pub sync_flight : Became old new Sync → (place : ℕ) → IsInSome new.ranges place → IsInSome old.ranges place
  sync_flight (inl e) place h = absurd (subst (λ (c : Contents). IsInSome c.ranges place) e h)
  sync_flight (inr (inl e)) place h = subst (λ (c : Contents). IsInSome c.ranges place) e h
  sync_flight (inr (inr e)) place h = subst (λ (c : Contents). IsInSome c.ranges place) e h

  pub sync_text : Became old new Sync → new.text ≡ old.text
  sync_text (inl e) = ap (λ (h : Contents). h.text) e
  sync_text (inr (inl e)) = ap (λ (h : Contents). h.text) e
  sync_text (inr (inr e)) = ap (λ (h : Contents). h.text) e

-- the clauses of a print
module _ (old new : Contents) (bytes : List ℕ) where
  pub print_image : Became old new (Print bytes) → new.image ≡ old.image
  print_image (inl e) = ap (λ (h : Contents). h.image) e
  print_image (inr (inl e)) = ap (λ (h : Contents). h.image) e
  print_image (inr (inr e)) = ap (λ (h : Contents). h.image) e

  pub print_ranges : Became old new (Print bytes) → new.ranges ≡ old.ranges
  print_ranges (inl e) = ap (λ (h : Contents). h.ranges) e
  print_ranges (inr (inl e)) = ap (λ (h : Contents). h.ranges) e
  print_ranges (inr (inr e)) = ap (λ (h : Contents). h.ranges) e

  pub print_text : Became old new (Print bytes) → Begins old.text new.text bytes
  print_text (inl e) = begins_whole old.text new.text bytes (ap (λ (h : Contents). h.text) e)
  print_text (inr (inl e)) = begins_not old.text new.text bytes (ap (λ (h : Contents). h.text) e)
  print_text (inr (inr e)) = begins_not old.text new.text bytes (ap (λ (h : Contents). h.text) e)

  -- what a cut inside it or after it leaves is what one amid its bytes does
  print_leaves : Became old new (Print bytes) → (i x : List ℕ) → LeavesIn old (Print bytes) new i x
      → MayLeaveAmid new.image (IsInSome new.ranges) old.text bytes i x
  print_leaves b i x (inl amid) = record {
    bytes = subst (λ (l : List ℕ). SameBut (IsInSome new.ranges) l i) (sym (print_image b))
        (subst (λ (r : List (ℕ × ℕ)). SameBut (IsInSome r) old.image i) (sym (print_ranges b)) amid.bytes);
    small = amid.small;
    text = amid.text;
  }
  print_leaves b i x (inr now) = record {
    bytes = now.bytes;
    small = now.small;
    text = subst (λ (t : List ℕ). Begins old.text t bytes) (sym now.text) (print_text b);
  }

-- of those that succeed
pub print_whole : {T E : Type 0} (old new : Contents) (bytes : List ℕ) (result : Result T E)
    → OnOk result (new ≡ done old (Print bytes)) → OnOk result (new.text ≡ old.text ++ bytes)
print_whole old new bytes (Ok _) e = ap (λ (h : Contents). h.text) e
print_whole old new bytes (Err _) _ = tt

pub sync_durable : {T E : Type 0} (old new : Contents) (result : Result T E) → OnOk result (new ≡ done old Sync)
    → OnOk result ((place : ℕ) → ¬ IsInSome new.ranges place)
sync_durable old new (Ok _) e = λ place h. subst (λ (c : Contents). IsInSome c.ranges place) e h
sync_durable old new (Err _) _ = tt

pub write_written : {T E : Type 0} (old new : Contents) (at : ℕ) (bytes : List ℕ) (result : Result T E)
    → at + length bytes ≤ length old.image
    → OnOk result (new ≡ done old (Write at bytes)) → OnOk result (take (length bytes) (drop at new.image) ≡ bytes)
write_written old new at bytes (Ok _) fits e = subst (λ (h : Contents). take (length bytes) (drop at h.image) ≡ bytes)
    (sym e) (overwrite_written at bytes old.image fits)
write_written old new at bytes (Err _) fits _ = tt

-- the clause on time
module _ (old new : BoardState) (call : Call) where
  -- of a call that prints nothing
  pub time_of_call : ((i x : List ℕ) → ¬ LeavesAmid (contents_of old) call i x) → TimeIs old call new
      → Elapses (moment_of old) (moment_of new) (left_since_of old) (left_since_of new) (Leaves (contents_of new))
  time_of_call none h = elapses_weaker _ (Leaves (contents_of new)) h
      (λ i x left. ⊎_elim (λ amid. absurd (none i x amid)) (λ now. now) left)

pub time_of_print : (old new : BoardState) (bytes : List ℕ) → Became (contents_of old) (contents_of new) (Print bytes)
    → TimeIs old (Print bytes) new
    → Elapses (moment_of old) (moment_of new) (left_since_of old) (left_since_of new)
    (MayLeaveAmid (contents_of new).image (IsInSome (contents_of new).ranges) (contents_of old).text bytes)
time_of_print old new bytes b h = elapses_weaker _ _ h (print_leaves (contents_of old) (contents_of new) bytes b)
