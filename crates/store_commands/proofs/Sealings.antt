-- The command `seal`: what it answers.
use Rattle.std.{specs.Prelude.{◌==◌}, proofs.Common.{false, if◌then◌else◌, inl, inr, refl, subst, sym, true, ⊎_elim}}
use Rattle.std.proofs.Common.{[], ℕ, ◌++◌, ◌∙◌, ◌≡◌, ◌≢◌, ◌⊎◌, Bool, Err, List, None, Ok, Option, Result, Some, ap}
use Rattle.{sha2.specs.Sha256.{sha256}, seal_record.specs.Reading.{params_read}, call_ends.specs.Call.{LeavesUnread}}
use Rattle.call_ends.{specs.Course.{NoMemory, ReadFailed}, proofs.Laws.{as_found, not_status, same_fault}}
use Rattle.store_commands.specs.Common.{Answer, Answered, Base, Begins, Ended, EndsByCourse, Opening, Refusal, Seal}
use Rattle.store_commands.specs.Common.{Sealing, StoreFault, Tree, found_number, next_number, old_seal, sealed_line}
use Rattle.store_commands.specs.{Common.{status_of, tariff_in}, Seal.{where_decimals, with_params}}
use Rattle.store_commands.{specs.Opening.{opening_in, store_ended}, proofs.EndsByStore.{course-refusal, none}}
use Rattle.store_commands.specs.Seal.{HasDecimals, IsSealable, are_decimals, base_in, over_totals, seal_answer}
use Rattle.store_commands.specs.Seal.{seal_command, seal_read, seal_with_tariff, sealing_of, sealing_over, sealing_with}
use Rattle.store_commands.specs.SealSteps.{IsNoSeal, IsNoTariff}
use Rattle.call_ends.specs.declared.ending.Ended.TheVariants as ended
use Rattle.store_commands.specs.declared.opening.StoreFault.TheVariants as stores

-- ---- the texts

-- a tariff that is refused makes no seal
pub no_seal-tariff : (number : ℕ) (found : Option ℕ) (tariff params : List ℕ) (read_failed : ℕ → Type 0) (end : Ended)
    → IsNoTariff found tariff end
    → IsNoSeal number found tariff params read_failed end
no_seal-tariff number found tariff params read_failed ended.NoMemory h = tt
no_seal-tariff number found tariff params read_failed (ended.BadTariff why) h =
    ap (λ (r : Result Tree Refusal). seal_with_tariff number found (sha256 tariff) r (params_read params)) h
no_seal-tariff number found tariff params read_failed (ended.OtherDecimals one own) h =
    ap (λ (r : Result Tree Refusal). seal_with_tariff number found (sha256 tariff) r (params_read params)) h.1
    ∙ ap (λ (r : Result (Unit {0}) Ended). where_decimals r
    (with_params number (sha256 tariff) h.0.decimals (params_read params))) h.2
no_seal-tariff number found tariff params read_failed end h = absurd h

-- a refused tariff is no fault of a read or of the board
pub no_tariff-fault : (found : Option ℕ) (tariff : List ℕ) (end : Ended) → IsNoTariff found tariff end
    → (end ≢ ended.ReadFault) × (end ≢ ended.BoardFault)
no_tariff-fault found tariff end h = (
  λ e. subst (λ (x : Ended). IsNoTariff found tariff x) e h,
  λ e. subst (λ (x : Ended). IsNoTariff found tariff x) e h,
)

-- a tariff of other decimals than were found is refused for them
pub no_tariff-decimals : (found : Option ℕ) (tariff : List ℕ) (t : Tree) (end : Ended) → tariff_in tariff ≡ Ok t
    → are_decimals found t.decimals ≡ Err end
    → IsNoTariff found tariff end
no_tariff-decimals None tariff t end sound h = absurd cc
no_tariff-decimals (Some own) tariff t end sound h = by (own == t.decimals) refl h
  where
    answer : Bool → Result (Unit {0}) Ended
    answer same = if same then Ok tt else Err (ended.OtherDecimals own t.decimals)

    by : (same : Bool) → same ≡ (own == t.decimals) → answer same ≡ Err end → IsNoTariff (Some own) tariff end
    by true is h = absurd cc
    by false is h =
        subst (λ (x : Ended). IsNoTariff (Some own) tariff x)
        (same_fault (answer false) (ended.OtherDecimals own t.decimals) end refl h)
        (t, sound, ap answer (sym is))

-- ---- the answer

-- the store speaks against a sealing
pub sealing-barred : (r : Result Opening StoreFault) (opening : Opening) (b : Result Base Ended) (end : Ended)
    (tariff text : List ℕ) → r ≡ Ok opening → b ≡ Err end → b ≡ over_totals opening.totals opening.seal
    → sealing_of r tariff text ≡ Err end
sealing-barred r opening b end tariff text e barred answer =
    ap (λ (x : Result Opening StoreFault). sealing_of x tariff text) e
    ∙ ap (λ (b : Result Base Ended). sealing_over (old_seal opening.seal) b tariff text) (sym answer ∙ barred)

-- or it goes over what was found, with what the texts say
pub sealing-over : (r : Result Opening StoreFault) (opening : Opening) (base : Base) (tariff text : List ℕ)
    (s : Result Seal Ended) → r ≡ Ok opening
    → over_totals opening.totals opening.seal ≡ Ok base
    → seal_read (next_number (found_number base.found)) base.decimals tariff text ≡ s
    → sealing_of r tariff text ≡ sealing_with (old_seal opening.seal) base s
sealing-over r opening base tariff text s e f g =
    ap (λ (x : Result Opening StoreFault). sealing_of x tariff text) e
    ∙ ap (λ (b : Result Base Ended). sealing_over (old_seal opening.seal) b tariff text) f
    ∙ ap (sealing_with (old_seal opening.seal) base) g

-- what was opened, its base and the seal that was read make a sealing
pub sealing-made : (image tariff text : List ℕ) (r : Result Opening StoreFault) (opening : Opening)
    (b : Result Base Ended) (base : Base) (number : ℕ) (seal : Seal) → r ≡ Ok opening
    → (¬ (r ≡ Err stores.BoardFault) → r ≡ opening_in image) → b ≡ Ok base → b ≡ over_totals opening.totals opening.seal
    → number ≡ next_number (found_number base.found)
    → seal_read number base.decimals tariff text ≡ Ok seal → sealing_of (opening_in image) tariff text
    ≡ Ok (record { totals = base.totals; old = old_seal opening.seal; new = seal })
sealing-made image tariff text r opening b base number seal is exact based answer counted read =
    sealing-over (opening_in image) opening base tariff text (Ok seal)
    (as_found r (opening_in image) opening stores.BoardFault is exact) (sym answer ∙ based)
    (subst (λ (n : ℕ). seal_read n base.decimals tariff text ≡ Ok seal) counted read)

-- the statuses of refusals
pub not_0-barred : (end : Ended) → (end ≡ ended.TripHeld) ⊎ (end ≡ ended.SealEnded) → status_of end ≢ 0
not_0-barred end (inl is) = rw is (λ z. absurd cc)
not_0-barred end (inr is) = rw is (λ z. absurd cc)

pub barred-fault : (end : Ended) → (end ≡ ended.TripHeld) ⊎ (end ≡ ended.SealEnded)
    → (end ≢ ended.ReadFault) × (end ≢ ended.BoardFault)
barred-fault end (inl is) = rw is (λ e. absurd cc, λ e. absurd cc)
barred-fault end (inr is) = rw is (λ e. absurd cc, λ e. absurd cc)

pub not_0-no_seal : (number : ℕ) (found : Option ℕ) (tariff text : List ℕ) (read_failed : ℕ → Type 0) (end : Ended)
    → IsNoSeal number found tariff text read_failed end → status_of end ≢ 0
not_0-no_seal number found tariff text read_failed ended.ReadFault h = λ z. absurd cc
not_0-no_seal number found tariff text read_failed ended.NoMemory h = λ z. absurd cc
not_0-no_seal number found tariff text read_failed (ended.BadTariff why) h = λ z. absurd cc
not_0-no_seal number found tariff text read_failed (ended.OtherDecimals one own) h = λ z. absurd cc
not_0-no_seal number found tariff text read_failed (ended.BadParams fault) h = λ z. absurd cc
not_0-no_seal number found tariff text read_failed end h = absurd h

pub not_0-store : (fault : StoreFault) → status_of (store_ended fault) ≢ 0
not_0-store (stores.BadSlot slot) = λ z. absurd cc
not_0-store (stores.SameNumber first second) = λ z. absurd cc
not_0-store stores.BoardFault = λ z. absurd cc

-- what is left unread if the store may be sealed
pub unread-sealing : (contents left : ℕ → List ℕ) (image : List ℕ) (opening : Opening) (b : Result Base Ended)
    (base : Base) → opening_in image ≡ Ok opening → b ≡ Ok base → b ≡ over_totals opening.totals opening.seal
    → ((other : ℕ) → other ≢ 1 → ¬ ((other ≡ 2) × HasDecimals base.decimals (contents 1)) → left other ≡ contents other)
    → LeavesUnread seal_command contents left image
unread-sealing contents left image opening b base e is answer read word never =
    let based : base_in (opening_in image) ≡ Ok base = ap base_in e ∙ sym answer ∙ is in
    read word (λ is. never [] (inl (is, record { base = base; is = based })))
    (λ h. never [] (inr (h.0, record { base = base; is = based; fits = h.1 })))

module _ (contents left : ℕ → List ℕ) (image : List ℕ) (read_failed : ℕ → Type 0) (failed told : Type 0)
    (before now : List ℕ) (still : now ≡ before) where
  abbrev Ends : Ended → Type 0
  Ends end = EndsByCourse seal_command contents left image read_failed failed (λ text. told → now ≡ before ++ text)
      (λ text. told → Begins before now text) end

  refuses-with : (end : Ended) → sealing_of (opening_in image) (contents 1) (contents 2) ≡ Err end → status_of end ≢ 0
      → status_of end ≢ 3 → Ends end
  refuses-with end e not_0 not_3 =
      course-refusal seal_command contents left image read_failed failed told before now refl still end
      (ap seal_answer e) not_0 not_3

  -- the store speaks against it
  pub course-barred : (end : Ended) → sealing_of (opening_in image) (contents 1) (contents 2) ≡ Err end
      → (end ≡ ended.TripHeld) ⊎ (end ≡ ended.SealEnded) → Ends end
  course-barred end e (inl is) =
      rw is (refuses-with ended.TripHeld (e ∙ ap Err is) (not_status ended.TripHeld 0 refl)
      (not_status ended.TripHeld 3 refl))
  course-barred end e (inr is) =
      rw is (refuses-with ended.SealEnded (e ∙ ap Err is) (not_status ended.SealEnded 0 refl)
      (not_status ended.SealEnded 3 refl))

  -- no seal was made of the texts
  pub course-no_seal : (opening : Opening) (b : Result Base Ended) (base : Base) (end : Ended)
      → opening_in image ≡ Ok opening → b ≡ Ok base → b ≡ over_totals opening.totals opening.seal
      → IsNoSeal (next_number (found_number base.found)) base.decimals (contents 1)
      (contents 2) read_failed end → Ends end
  course-no_seal opening b base end e is answer = by end
    where
      over : over_totals opening.totals opening.seal ≡ Ok base
      over = sym answer ∙ is

      based : base_in (opening_in image) ≡ Ok base
      based = ap base_in e ∙ over

      may : IsSealable image
      may = record { base = base; is = based }

      refusal : (end : Ended)
          → seal_read (next_number (found_number base.found)) base.decimals (contents 1) (contents 2) ≡ Err end
          → sealing_of (opening_in image) (contents 1) (contents 2) ≡ Err end
      refusal end g = sealing-over (opening_in image) opening base (contents 1) (contents 2) (Err end) e over g

      by : (end : Ended) → IsNoSeal (next_number (found_number base.found)) base.decimals (contents 1)
          (contents 2) read_failed end → Ends end
      by ended.ReadFault (inl h) = record {
        course = ReadFailed 1 [];
        may = record { reads = inl refl; comes = inl (refl, may); failed = h; takes = refl };
        stands = inl (record {
          status_is = refl;
          line_is = refl;
          shown = λ t. none seal_command contents left image read_failed failed told before now refl still [] refl;
        });
      }
      by ended.ReadFault (inr (fits, h)) = record {
        course = ReadFailed 2 [];
        may = record {
          reads = inr refl;
          comes = inr (refl, record { base = base; is = based; fits = fits });
          failed = h;
          takes = refl;
        };
        stands = inl (record {
          status_is = refl;
          line_is = refl;
          shown = λ t. none seal_command contents left image read_failed failed told before now refl still [] refl;
        });
      }
      by ended.NoMemory h = record {
        course = NoMemory;
        may = record { taken = []; may = may; takes = refl };
        stands = inl (record {
          status_is = refl;
          line_is = refl;
          shown = λ t. none seal_command contents left image read_failed failed told before now refl still [] refl;
        });
      }
      by (ended.BadTariff why) h = refuses-with (ended.BadTariff why) (refusal (ended.BadTariff why) h)
          (not_status (ended.BadTariff why) 0 refl) (not_status (ended.BadTariff why) 3 refl)
      by (ended.OtherDecimals one own) h = refuses-with (ended.OtherDecimals one own)
          (refusal (ended.OtherDecimals one own) h)
          (not_status (ended.OtherDecimals one own) 0 refl) (not_status (ended.OtherDecimals one own) 3 refl)
      by (ended.BadParams fault) h = refuses-with (ended.BadParams fault) (refusal (ended.BadParams fault) h)
          (not_status (ended.BadParams fault) 0 refl) (not_status (ended.BadParams fault) 3 refl)
      by end h = absurd h

  -- the store was sealed
  pub course-sealed : (s : Sealing) (number : ℕ) → sealing_of (opening_in image) (contents 1) (contents 2) ≡ Ok s
      → s.new.seal_number ≡ number
      → left 1 ≡ [] → left 2 ≡ [] → Ends (ended.Sealed number)
  course-sealed s number e is one two =
      let a : seal_command.answer contents image ≡ seal_answer (Ok s) = ap seal_answer e in
      let status : (seal_command.answer contents image).status ≡ 0 = ap (λ (a : Answer). a.status) a in
      record {
        course = Answered;
        may = record {
          whole = λ zero word. ⊎_elim (λ (w : word ≡ 1). ap left w ∙ one) (λ (w : word ≡ 2). ap left w ∙ two);
          bad = λ z. absurd (three _ status z);
        };
        stands = inl (record {
          status_is = sym status;
          line_is = sym (ap (λ (a : Answer). a.line) a ∙ ap sealed_line is);
          shown = λ t. none seal_command contents left image read_failed failed told before now refl still _
              (ap (λ (a : Answer). a.shown) a);
        });
      }
    where
      three : (n : ℕ) → n ≡ 0 → n ≢ 3
      three n e f = absurd cc
