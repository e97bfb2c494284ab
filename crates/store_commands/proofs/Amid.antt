-- The command `seal`: what it leaves of the store.
use Rattle.std.{specs.Prelude.{◌==◌, Bool, false, if◌then◌else◌, is_some, true}, proofs.lemmas.List.{ext_get_or}}
use Rattle.std.proofs.Common.{[], ℕ, ◌<◌, ◌∙◌, ◌≡◌, ◌≢◌, ◌≤◌, ◌⊎◌, Err, List, None, Ok, Option, Result, Some, ap, arith}
use Rattle.std.proofs.{Common.{get_or, inl, inr, refl, subst, sym, ⊎_elim}, lemmas.Bool.{cases_lt}}
use Rattle.outside.specs.{Disk.{IsWithin, MayLeaveAmid, SameBut}, Runs.{IsAtRest as NothingFlies}}
use Rattle.{outside.proofs.Laws.{leaves_wider}, slot_store.specs.Writes.{LeavesBeside, OrWithin, WritesIn}}
use Rattle.slot_store.specs.{Scan.{IsAnswer}, Sizes.{pair_size}, Slots.{IsSettled, StandsFor}}
use Rattle.slot_store.proofs.Laws.{answer_is, at_stands, from_sync_as, goes_on, same_at, settled_already}
use Rattle.meter_store.specs.Sealing.{FoundSeal, HoldsSealing, IsAmid, IsSealed, LeavesSealing, ScannedSeal, ShowsSeal}
use Rattle.meter_store.specs.Sealing.{StillHas, first_written, places_written, seal_found, sealed_totals, seals_at}
use Rattle.{meter_store.{specs.Sealing.{totals_found}, proofs.Laws.{seal_is_found}}, call_ends.specs.Call.{IsEnd}}
use Rattle.{call_ends.proofs.Laws.{board_or_not, no_fault}, store_commands.proofs.Sealings.{sealing-made, sealing-over}}
use Rattle.store_commands.specs.Common.{Base, Begins, Blank, Durable, Ended, Found, Ghosts, IsAsHeld, KeepsStore}
use Rattle.store_commands.specs.Common.{Latest, LeavesFromSync, LeavesOnly, MayHold, Opening, Place, Seal, Sealing}
use Rattle.store_commands.specs.Common.{SlotFault, StoreFault, found_at, found_number, last_seal_number, line_of}
use Rattle.store_commands.specs.Common.{next_number, old_seal, sealed_line, status_of}
use Rattle.store_commands.specs.{Opening.{opening_by, opening_in}, SealSteps.{IsNoSeal, RestsAmid}}
use Rattle.store_commands.specs.Seal.{HasSealed, MayLeaveSealing, Seals, ShowsByteOf, StaysBeside, TotalsStay}
use Rattle.store_commands.specs.Seal.{over_seal, over_totals, seal_read, sealing_of, sealing_over, sealing_with}
use Rattle.store_commands.proofs.SealLines.{no_memory_other, not_shown, other_line, read_fault_other}
use Rattle.totals_record.specs.Reading as totals
use Rattle.meter_store.specs.Stored as states
use Rattle.seal_record.specs.Decoding as seals
use Rattle.call_ends.specs.declared.ending.Ended.TheVariants as ended
use Rattle.store_commands.specs.declared.opening.StoreFault.TheVariants as stores

-- ---- a cut may leave the opening image

-- what a sealing begins with is what was found
with_found : (old : Option Seal) (base : Base) (r : Result Seal Ended) (s : Sealing) → sealing_with old base r ≡ Ok s
    → (base.totals ≡ s.totals) × (old ≡ s.old)
with_found old base (Err end) s e = absurd cc
with_found old base (Ok seal) s e = let same : sealing_with old base (Ok seal) ≡ Ok s = e in (cc, cc)

base_seal : (t : Option Durable) (seal : Found Seal) (base : Base) → over_seal t seal ≡ Ok base → t ≡ base.totals
base_seal t Blank base e = cc
base_seal t (Latest place seal) base e = by (seal.seal_number == last_seal_number) e
  where
    by : (last : Bool) → (if last then Err ended.SealEnded
        else Ok (record { totals = t; found = Some (place, seal.seal_number); decimals = Some seal.decimals }))
        ≡ Ok base → t ≡ base.totals
    by true f = absurd cc
    by false f = cc

base_found : (found : Found Durable) (seal : Found Seal) (base : Base) → over_totals found seal ≡ Ok base
    → totals_found found ≡ base.totals
base_found Blank seal base e = base_seal None seal base e
base_found (Latest place durable) seal base e = by (is_some durable.hold) e
  where
    by : (held : Bool) → (if held then Err ended.TripHeld else over_seal (Some durable) seal) ≡ Ok base
        → Some durable ≡ base.totals
    by true f = absurd cc
    by false f = base_seal (Some durable) seal base f

over_found : (old : Option Seal) (b : Result Base Ended) (tariff params : List ℕ) (s : Sealing)
    → sealing_over old b tariff params ≡ Ok s
    → (base : Base) × (b ≡ Ok base) × (base.totals ≡ s.totals) × (old ≡ s.old)
over_found old (Err end) tariff params s e = absurd cc
over_found old (Ok base) tariff params s e = let both = with_found old base _ s e in (base, refl, both.0, both.1)

-- what an image shows is what was found in it
shows_totals : (image : List ℕ) (found : Found Durable)
    → IsAnswer totals.reads states.state_number_of 0 image (Ok found) → StillHas (totals_found found) image
shows_totals image Blank is = inl is
shows_totals image (Latest place durable) is = at_stands totals.reads states.state_number_of 0 place image durable is

shows_seal : (image : List ℕ) (found : Found Seal) → IsAnswer seals.reads seals.seal_number_of 1024 image (Ok found)
    → ShowsSeal image (old_seal found)
shows_seal image Blank is = is
shows_seal image (Latest place seal) is = at_stands seals.reads seals.seal_number_of 1024 place image seal is

amid_found : (image tariff params : List ℕ) (t : Result (Found Durable) SlotFault)
    (l : Result (Found Seal) SlotFault) (s : Sealing)
    → IsAnswer totals.reads states.state_number_of 0 image t → IsAnswer seals.reads seals.seal_number_of 1024 image l
    → sealing_of (opening_by t l) tariff params ≡ Ok s → IsAmid s image
amid_found image tariff params (Err fault) l s one two e = absurd cc
amid_found image tariff params (Ok found) (Err fault) s one two e = absurd cc
amid_found image tariff params (Ok found) (Ok seal) s one two e =
    let over = over_found (old_seal seal) (over_totals found seal) tariff params s e in
    let totals_are : totals_found found ≡ s.totals = base_found found seal over.0 over.1 ∙ over.2 in
    record {
      totals = subst (λ (t : Option Durable). StillHas t image) totals_are (shows_totals image found one);
      seal = inl (subst (λ (o : Option Seal). ShowsSeal image o) over.3 (shows_seal image seal two));
    }

-- the found totals have their bytes in the image itself
totals_same : (found : Option Durable) (image : List ℕ) → TotalsStay found image image
totals_same None image = tt
totals_same (Some durable) image = record { size = refl; rest = λ place none. refl }

-- and in one that differs from it only where a sealing writes
totals_left : (found : Option Durable) (image mid left : List ℕ) (flying : ℕ → Type 0) → mid ≡ image
    → ((place : ℕ) → ¬ (flying place)) → SameBut (OrWithin flying (first_written found) (places_written found)) mid left
    → TotalsStay found image left
totals_left None image mid left flying same quiet beside = tt
totals_left (Some durable) image mid left flying same quiet beside =
    subst (λ (i : List ℕ). SameBut (IsWithin seals_at pair_size) i left) same
    (record { size = beside.size; rest = λ place apart. beside.rest place (⊎_elim (quiet place) apart) })

-- so it may be left, with a text in which no byte of the line stands
cut_already : (image tariff params printed text : List ℕ)
    → ((number : ℕ) → ¬ (ShowsByteOf (sealed_line number) printed text))
    → MayLeaveSealing (sealing_of (opening_in image) tariff params) image printed image text
cut_already image tariff params printed text unseen = by (sealing_of (opening_in image) tariff params) refl
  where
    by : (r : Result Sealing Ended) → sealing_of (opening_in image) tariff params ≡ r
        → MayLeaveSealing r image printed image text
    by (Err end) is = refl
    by (Ok s) is = record {
      amid =
          amid_found image tariff params (found_at totals.reads states.state_number_of 0 image)
          (found_at seals.reads seals.seal_number_of 1024 image) s
          ((answer_is totals.reads states.state_number_of 0 image
          (found_at totals.reads states.state_number_of 0 image)).0 refl)
          ((answer_is seals.reads seals.seal_number_of 1024 image
          (found_at seals.reads seals.seal_number_of 1024 image)).0 refl)
          is;
      beside = totals_same s.totals image;
      behind = λ shown. absurd (unseen s.new.seal_number shown);
    }

cut_still : (image tariff params printed : List ℕ)
    → MayLeaveSealing (sealing_of (opening_in image) tariff params) image printed image printed
cut_still image tariff params printed =
    cut_already image tariff params printed printed (λ number. not_shown number printed printed refl)

-- ---- the store

-- a pair of which nothing is in flight stands in what a cut leaves
stays_settled : {T : Type 0} (reads : List ℕ → Option T) (number_of : T → ℕ) (at : ℕ) (place : Place)
    (image left : List ℕ) (flying : ℕ → Type 0) (body : T)
    → IsSettled reads number_of at place image flying body → SameBut flying image left
    → StandsFor reads number_of at left body
stays_settled reads number_of at place image left flying body h same =
    at_stands reads number_of at place left body
    (same_at reads number_of at place image left body h.is_at
    (record { size = same.size; bytes = λ byte within. same.rest byte (h.quiet byte within) }))

module _ {D L : Type 0} {N : ℕ} (B : Ghosts D N L) where
  -- what a cut may leave of a sealing that began on the old board
  abbrev Amid : Result Sealing Ended → D → List ℕ → List ℕ → Type 0
  Amid sealing old i x = MayLeaveSealing sealing (B.image old) (B.printed old) i x

  -- the sealing of the old board's image with a tariff's text and a parameter text
  abbrev Made : D → (tariff params : List ℕ) → Result Sealing Ended
  Made old tariff params = sealing_of (opening_in (B.image old)) tariff params

  -- nothing was written
  stays_read : (sealing : Result Sealing Ended) (flying : ℕ → Type 0) (image now : List ℕ) → SameBut flying image now
      → StaysBeside sealing flying image now
  stays_read (Err end) flying image now same = same
  stays_read (Ok s) flying image now same =
      record { size = same.size; rest = λ place apart. same.rest place (λ flies. apart (inl flies)) }

  pub seals-read : (tariff params : List ℕ) (fails : Type 0) (old new : D) (status : ℕ) → status ≢ 0
      → (fails → status ≡ 8) → SameBut (B.in_flight old) (B.image old) (B.image new)
      → LeavesFromSync B fails old new (IsAsHeld B old) → Seals B (Made old tariff params) old new status
  seals-read tariff params fails old new status not_0 failed same synced = record {
    sealed = λ z. absurd (not_0 z);
    stays = stays_read (Made old tariff params) (B.in_flight old) (B.image old) (B.image new) same;
    leaves = from_sync_as B (IsAsHeld B old) (Amid (Made old tariff params) old) fails (status ≡ 8) old new failed
        (λ i x held. rw (held.image, held.text) (cut_still (B.image old) tariff params (B.printed old))) synced;
  }

  same_left : (image left : List ℕ) (new : D) → B.image new ≡ image → NothingFlies B new
      → MayHold (B.image new) (B.in_flight new) left → left ≡ image
  same_left image left new same settled held =
      ext_get_or 0 left (B.image new) held.bytes.size (λ place lt. held.bytes.rest place (settled place)) ∙ same

  -- a cut while another line is printed, and while one is printed and nothing is sealed
  rests-read : (tariff params image printed line : List ℕ) (new : D) → B.image new ≡ image → B.printed new ≡ printed
      → NothingFlies B new → get_or line 0 0 ≢ 83
      → RestsAmid B (sealing_of (opening_in image) tariff params) image printed line new
  rests-read tariff params image printed line new same text settled other left x held begun =
      let is : left ≡ image = same_left image left new same settled held in
      rw is (cut_already image tariff params printed x (λ number. other_line line other number printed x
      (subst (λ (p : List ℕ). Begins p x line) text begun)))

  pub rests-refused : (sealing : Result Sealing Ended) (why : Ended) (image printed line : List ℕ) (new : D)
      → sealing ≡ Err why → B.image new ≡ image → NothingFlies B new
      → RestsAmid B sealing image printed line new
  rests-refused sealing why image printed line new e same settled left x held begun =
      subst (λ (r : Result Sealing Ended). MayLeaveSealing r image printed left x) (sym e)
      (same_left image left new same settled held)

  -- no seal was made of the texts
  pub rests-no_seal : (tariff params image printed : List ℕ) (opening : Opening) (b : Result Base Ended) (base : Base)
      (read_failed : ℕ → Type 0) (new : D)
      → opening_in image ≡ Ok opening → b ≡ Ok base → b ≡ over_totals opening.totals opening.seal
      → B.image new ≡ image → B.printed new ≡ printed
      → NothingFlies B new → (end : Ended)
      → IsNoSeal (next_number (found_number base.found)) base.decimals tariff params read_failed end
      → RestsAmid B (sealing_of (opening_in image) tariff params) image printed (line_of end) new
  rests-no_seal tariff params image printed opening b base read_failed new e is answer same text settled = by
    where
      refused : (end : Ended) → seal_read (next_number (found_number base.found)) base.decimals tariff params ≡ Err end
          → RestsAmid B (sealing_of (opening_in image) tariff params) image printed (line_of end) new
      refused end h =
          rests-refused (sealing_of (opening_in image) tariff params) end image printed (line_of end) new
          (sealing-over (opening_in image) opening base tariff params (Err end) e (sym answer ∙ is) h) same settled

      by : (end : Ended) → IsNoSeal (next_number (found_number base.found)) base.decimals tariff params read_failed end
          → RestsAmid B (sealing_of (opening_in image) tariff params) image printed (line_of end) new
      by ended.ReadFault h =
          rests-read tariff params image printed (line_of ended.ReadFault) new same text settled read_fault_other
      by ended.NoMemory h =
          rests-read tariff params image printed (line_of ended.NoMemory) new same text settled no_memory_other
      by (ended.BadTariff why) h = refused (ended.BadTariff why) h
      by (ended.OtherDecimals one own) h = refused (ended.OtherDecimals one own) h
      by (ended.BadParams fault) h = refused (ended.BadParams fault) h
      by end h = absurd h

  -- the seal that was found, as a sealing is given it
  pub found-as : (board : D) (seal : Found Seal) (latest : Option (Place × ℕ)) → latest ≡ seal_found seal
      → ScannedSeal B board seal → FoundSeal B board latest (old_seal seal)
  found-as board seal latest e is =
      subst (λ (f : Option (Place × ℕ)). FoundSeal B board f (old_seal seal)) (sym e) (seal_is_found B board seal is)

  -- what was written over a settled board lies where the sealing writes
  stays_placed : (s : Sealing) (old mid new : D) → B.image mid ≡ B.image old → NothingFlies B mid
      → WritesIn B (first_written s.totals) (places_written s.totals) mid new
      → StaysBeside (Ok s) (B.in_flight old) (B.image old) (B.image new)
  stays_placed s old mid new same settled writes =
      subst (λ (image : List ℕ). SameBut (OrWithin (B.in_flight old) (first_written s.totals)
      (places_written s.totals)) image (B.image new)) same
      (record {
        size = writes.rest.size;
        rest = λ place apart. writes.rest.rest place (⊎_elim (settled place) (λ within. apart (inr within)));
      })

  -- the seal was put in, or the board failed amid it
  seals-placed : (tariff params : List ℕ) (s : Sealing) (fails : Type 0) (old mid new : D) (status : ℕ)
      → Made old tariff params ≡ Ok s → ¬ fails → B.image mid ≡ B.image old → NothingFlies B mid
      → WritesIn B (first_written s.totals) (places_written s.totals) mid new
      → B.printed mid ≡ B.printed old → LeavesFromSync B fails old mid (IsAsHeld B old) → LeavesSealing B s mid new
      → (status ≡ 0 → IsSealed s (B.image new) × TotalsStay s.totals (B.image old) (B.image new))
      → Seals B (Made old tariff params) old new status
  seals-placed tariff params s fails old mid new status e went same settled writes text synced placed is =
      let sealing = Made old tariff params in
      record {
        sealed = λ z. subst (λ (r : Result Sealing Ended). HasSealed r (B.image old) (B.image new)) (sym e) (is z);
        stays = subst (λ (r : Result Sealing Ended). StaysBeside r (B.in_flight old) (B.image old) (B.image new))
            (sym e) (stays_placed s old mid new same settled writes);
        leaves = goes_on B (IsAsHeld B old) (Amid sealing old) fails (status ≡ 8) old mid new went
            (λ i x held. rw (held.image, held.text) (cut_still (B.image old) tariff params (B.printed old))) synced
            (leaves_wider B (LeavesBeside (B.image mid) (B.in_flight mid) (B.printed mid) (first_written s.totals)
            (places_written s.totals) (IsAmid s))
            (Amid sealing old) mid new (λ i x h. subst (λ (r : Result Sealing Ended). MayLeaveSealing r (B.image old)
            (B.printed old) i x) (sym e)
            (record {
              amid = h.stands;
              beside = totals_left s.totals (B.image old) (B.image mid) i (B.in_flight mid) same settled h.beside.bytes;
              behind = λ shown. absurd
                  (not_shown s.new.seal_number (B.printed old) x (h.beside.text ∙ text) shown);
            })) placed.leaves);
      }

  -- the same of what was opened, its base and the seal that was read
  pub seals-over : (tariff params : List ℕ) (r : Result Opening StoreFault) (opening : Opening) (b : Result Base Ended)
      (base : Base) (number : ℕ) (seal : Seal) (old mid new : D) (status : ℕ)
      → r ≡ Ok opening → (¬ (r ≡ Err stores.BoardFault) → r ≡ opening_in (B.image old)) → b ≡ Ok base
      → b ≡ over_totals opening.totals opening.seal → number ≡ next_number (found_number base.found)
      → seal_read number base.decimals tariff params ≡ Ok seal → base.found ≡ seal_found opening.seal
      → ScannedSeal B mid opening.seal → B.image mid ≡ B.image old → NothingFlies B mid
      → WritesIn B (first_written base.totals) (places_written base.totals) mid new
      → B.printed mid ≡ B.printed old → LeavesFromSync B (r ≡ Err stores.BoardFault) old mid (IsAsHeld B old)
      → ((found : Option Seal) → FoundSeal B mid base.found found
      → LeavesSealing B (record { totals = base.totals; old = found; new = seal }) mid new)
      → (status ≡ 0 → IsSealed (record { totals = base.totals; old = old_seal opening.seal; new = seal }) (B.image new)
      × TotalsStay base.totals (B.image old) (B.image new))
      → Seals B (Made old tariff params) old new status
  seals-over tariff params r opening b base number seal old mid new status is exact based answer counted read latest
      scanned same settled writes text synced placed sealed =
      seals-placed tariff params (record { totals = base.totals; old = old_seal opening.seal; new = seal })
      (r ≡ Err stores.BoardFault) old mid new status
      (sealing-made (B.image old) tariff params r opening b base number seal is exact based answer counted read)
      (no_fault r opening stores.BoardFault is) same settled writes text synced
      (placed (old_seal opening.seal) (found-as mid opening.seal base.found latest scanned)) sealed

  -- the store stands for what the sealing says, also behind a cut
  sealed_left : (s : Sealing) (board : D) → HoldsSealing B s.totals s.new board → (image : List ℕ)
      → SameBut (B.in_flight board) (B.image board) image → IsSealed s image
  sealed_left s board h image same = record {
    totals = stays_settled totals.reads states.state_number_of 0 h.totals.0 (B.image board) image (B.in_flight board)
        (sealed_totals s.totals) h.totals.1 same;
    seal = stays_settled seals.reads seals.seal_number_of 1024 h.seal_is.0 (B.image board) image
        (B.in_flight board) s.new h.seal_is.1 same;
  }

  pub is_sealed : (s : Sealing) (board : D) → HoldsSealing B s.totals s.new board → IsSealed s (B.image board)
  is_sealed s board h = sealed_left s board h (B.image board) (record { size = refl; rest = λ place none. refl })

  -- what is written over found totals lies within the pair of seals
  pub stays_beside : (found : Option Durable) (old mid new : D) → B.image mid ≡ B.image old → NothingFlies B mid
      → WritesIn B (first_written found) (places_written found) mid new → TotalsStay found (B.image old) (B.image new)
  stays_beside found old mid new same settled writes =
      totals_left found (B.image old) (B.image mid) (B.image new) (B.in_flight mid) same settled writes.rest

  kept_totals : (found : Option Durable) (image : List ℕ) → states.HasState image (sealed_totals found)
      → StillHas found image
  kept_totals None image h = inr h
  kept_totals (Some durable) image h = h

  pub rests-placed : (sealing : Result Sealing Ended) (s : Sealing) (image printed line : List ℕ) (new : D)
      → sealing ≡ Ok s → HoldsSealing B s.totals s.new new → TotalsStay s.totals image (B.image new)
      → NothingFlies B new → RestsAmid B sealing image printed line new
  rests-placed sealing s image printed line new e h stays settled left x held begun =
      let is = sealed_left s new h left held.bytes in
      subst (λ (r : Result Sealing Ended). MayLeaveSealing r image printed left x) (sym e)
      (record {
        amid = record { totals = kept_totals s.totals left is.totals; seal = inr is };
        beside = subst (λ (i : List ℕ). TotalsStay s.totals image i)
            (sym (same_left (B.image new) left new refl settled held)) stays;
        behind = λ shown. is;
      })

  -- nothing flies if both pairs are settled and nothing flew beside what was written
  pub settled-sealed : (found : Option Durable) (seal : Seal) (mid new : D) → NothingFlies B mid
      → WritesIn B (first_written found) (places_written found) mid new
      → HoldsSealing B found seal new → NothingFlies B new
  settled-sealed found seal mid new settled writes h place flies =
      ⊎_elim (settled place) (by found) (writes.flight place flies)
    where
      either : place < 2048 → ⊥
      either below = ⊎_elim
          (λ (lt : place < 1024). h.totals.1.quiet place (record { low = omega arith; high = omega (arith, lt) }) flies)
          (λ (le : 1024 ≤ place). h.seal_is.1.quiet place (record { low = le; high = omega (arith, below) }) flies)
          (cases_lt place 1024)

      by : (f : Option Durable) → IsWithin (first_written f) (places_written f) place → ⊥
      by None within = either (omega (arith, within.high))
      by (Some durable) within = either (omega (arith, within.high))

  -- the last line, which is none if the board had failed
  finished : (sealing : Result Sealing Ended) (old mid new : D) (end : Ended) (status : ℕ)
      → (status_of end ≡ 8 → status ≡ 8)
      → LeavesFromSync B (status_of end ≡ 8) old mid (Amid sealing old)
      → (end ≢ ended.BoardFault → RestsAmid B sealing (B.image old) (B.printed old) (line_of end) mid)
      → LeavesOnly B mid new (MayLeaveAmid (B.image mid) (B.in_flight mid) (B.printed mid) (line_of end))
      → (line_of end ≡ [] → new ≡ mid)
      → (end ≡ ended.BoardFault) ⊎ ((end ≢ ended.BoardFault) × (status_of end ≢ 8))
      → LeavesFromSync B (status ≡ 8) old new (Amid sealing old)
  finished sealing old mid new end status eight leaves rests line silent (inl is) =
      subst (λ (board : D). LeavesFromSync B (status ≡ 8) old board (Amid sealing old)) (sym (silent (ap line_of is)))
      (from_sync_as B (Amid sealing old) (Amid sealing old) (status_of end ≡ 8) (status ≡ 8) old mid eight
      (λ i x h. h) leaves)
  finished sealing old mid new end status eight leaves rests line silent (inr (good, not_8)) =
      goes_on B (Amid sealing old) (Amid sealing old) (status_of end ≡ 8) (status ≡ 8) old mid new not_8 (λ i x h. h)
      leaves
      (leaves_wider B (MayLeaveAmid (B.image mid) (B.in_flight mid) (B.printed mid) (line_of end)) (Amid sealing old)
      mid new
      (λ i x amid. rests good i x (record { bytes = amid.bytes; small = amid.small }) amid.text) line)

  pub seals-finished : (sealing : Result Sealing Ended) (old mid new : D) (end : Ended) (status : ℕ)
      (told failed : Type 0) (before now : List ℕ)
      → Seals B sealing old mid (status_of end)
      → (end ≢ ended.BoardFault → RestsAmid B sealing (B.image old) (B.printed old) (line_of end) mid)
      → KeepsStore B mid new
      → LeavesOnly B mid new (MayLeaveAmid (B.image mid) (B.in_flight mid) (B.printed mid) (line_of end))
      → (line_of end ≡ [] → new ≡ mid)
      → IsEnd told failed (status_of end) (line_of end) status before now → Seals B sealing old new status
  seals-finished sealing old mid new end status told failed before now h rests kept line silent ends = record {
    sealed = λ z. subst (λ (image : List ℕ). HasSealed sealing (B.image old) image) (sym kept.same)
        (h.sealed (zero z ends));
    stays = subst (λ (image : List ℕ). StaysBeside sealing (B.in_flight old) (B.image old) image) (sym kept.same)
        h.stays;
    leaves = finished sealing old mid new end status (eight ends) h.leaves rests line silent (board_or_not end);
  }
    where
      zero : status ≡ 0 → IsEnd told failed (status_of end) (line_of end) status before now → status_of end ≡ 0
      zero z (inl whole) = sym whole.status_is ∙ z
      zero z (inr cut) = let eight = cut.status_is in absurd cc

      eight : IsEnd told failed (status_of end) (line_of end) status before now → status_of end ≡ 8 → status ≡ 8
      eight (inl whole) z = whole.status_is ∙ z
      eight (inr cut) z = cut.status_is

  -- if nothing was in flight before the call
  pub seals-settled : (tariff params : List ℕ) (old new : D) (status : ℕ) → NothingFlies B old
      → Seals B (sealing_of (opening_in (B.image old)) tariff params) old new status
      → LeavesOnly B old new (Amid (sealing_of (opening_in (B.image old)) tariff params) old)
  seals-settled tariff params old new status settled h =
      settled_already B (Amid (sealing_of (opening_in (B.image old)) tariff params) old) (status ≡ 8) old new settled
      (cut_still (B.image old) tariff params (B.printed old)) h.leaves
