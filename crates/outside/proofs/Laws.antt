-- The laws that the public empty functions state.
use Rattle.std.proofs.Common.{[], ℕ, ◌++◌, ◌+◌, ◌<◌, ◌∙◌, ◌∷◌, ◌≡◌, List, ap, append_assoc, arith, drop, get_or, inl}
use Rattle.std.proofs.Common.{inr, length, length-append, length-drop, length-take, refl, subst, suc, sym, take, zero}
use Rattle.{std.proofs.{Common.{⊎_elim}, Math.Seq.{take-append-add}}, outside.specs.Common.{AreBytes}}
use Rattle.std.proofs.lemmas.List.{append-nil, ext_get_or, get_or-drop, get_or-take, take-append-le, take_all}
use Rattle.outside.specs.{Disk.{IsWithin, MayLeave, MayLeaveAmid, SameBut}, declared.printer.Printer.{Ghosts}}
use Rattle.outside.specs.{PrintedText.{Begins}, Runs.{KeepsStore, LeavesNow, LeavesOnly, MayHold, PrintTakes}}
pub use Rattle.outside.proofs.Rises.{cause_behind, left_by_ok, may_rise_behind, may_rise_more, may_rise_not, on_failed}
pub use Rattle.outside.proofs.Rises.{rises_behind, rises_by, rises_not, rose_behind}

-- a text that was printed whole is a beginning of itself
pub begins_whole : (old new text : List ℕ) → new ≡ old ++ text → Begins old new text
begins_whole old new text h = record {
  count = length text;
  within = omega arith;
  printed = h ∙ ap (λ (l : List ℕ). old ++ l) (sym (take_all (length text) text (omega arith)));
}

-- nothing of a text is a beginning of it
pub begins_not : (old new text : List ℕ) → new ≡ old → Begins old new text
begins_not old new text h = record { count = 0; within = omega arith; printed = h ∙ sym (append-nil old) }

-- a beginning of a text is a beginning of that text with more behind it
pub begins_more : (old new text more : List ℕ) → Begins old new text → Begins old new (text ++ more)
begins_more old new text more h = record {
  count = h.count;
  within = omega (arith, h.within, length-append text more);
  printed = h.printed ∙ ap (λ (l : List ℕ). old ++ l) (sym (take-append-le h.count text more h.within));
}

-- a text that was printed whole, and then a beginning of the text behind it
pub begins_after : (old mid new text more : List ℕ) → mid ≡ old ++ text → Begins mid new more
    → Begins old new (text ++ more)
begins_after old mid new text more whole h = record {
  count = length text + h.count;
  within = omega (arith, h.within, length-append text more);
  printed = h.printed ∙ ap (λ (l : List ℕ). l ++ take h.count more) whole ∙ append_assoc old text (take h.count more)
      ∙ ap (λ (l : List ℕ). old ++ l) (sym (take-append-add text more h.count));
}

-- a slice that has none of the places is the same
pub same_slice : (places : ℕ → Type 0) (old new : List ℕ) (start count : ℕ) → SameBut places old new
    → ((place : ℕ) → IsWithin start count place → ¬ places place)
    → take count (drop start new) ≡ take count (drop start old)
same_slice places old new start count same none = ext_get_or 0 _ _ sizes (λ i lt.
    let inside : i < count = omega (arith, length-take count (drop start new)) in
    get_or-take count (drop start new) i 0 inside ∙ get_or-drop start new i 0
    ∙ same.rest (start + i) (none (start + i) (record { low = omega arith; high = omega arith }))
    ∙ sym (get_or-take count (drop start old) i 0 inside ∙ get_or-drop start old i 0))
  where
    sizes : length (take count (drop start new)) ≡ length (take count (drop start old))
    sizes = omega (
      arith,
      length-take count (drop start new),
      length-take count (drop start old),
      length-drop start new,
      length-drop start old,
      same.size,
    )

take_bytes : (count : ℕ) (list : List ℕ) → AreBytes list → (place : ℕ) → get_or (take count list) place 0 < 256
take_bytes zero list small place = omega arith
take_bytes (suc count) [] small place = omega arith
take_bytes (suc count) (byte ∷ list) small zero = small 0
take_bytes (suc count) (byte ∷ list) small (suc place) = take_bytes count list (λ k. small (suc k)) place

-- a slice of bytes has bytes
pub slice_bytes : (image : List ℕ) (start count : ℕ) → AreBytes image → AreBytes (take count (drop start image))
slice_bytes image start count small = take_bytes count (drop start image)
    (λ place. subst (λ (byte : ℕ). byte < 256) (sym (get_or-drop start image place 0)) (small (start + place)))

-- a store that is the same, with nothing more in flight, may be left so by an earlier cut
held_before : (now old left : List ℕ) (flying flown : ℕ → Type 0) → now ≡ old
    → ((place : ℕ) → flying place → flown place) → SameBut flying now left → SameBut flown old left
held_before now old left flying flown same fewer h = record {
  size = h.size ∙ ap length same;
  rest = λ place grounded. h.rest place (λ flies. grounded (fewer place flies))
      ∙ ap (λ (bytes : List ℕ). get_or bytes place 0) same;
}

module _ {D L : Type 0} {N : ℕ} (B : Ghosts D N L) where
  -- a run that calls nothing
  pub leaves_none : (kind : List ℕ → List ℕ → Type 0) (board : D) → ((left_image left_text : List ℕ)
      → B.left_since board (B.moment board) left_image left_text → kind left_image left_text)
      → LeavesOnly B board board kind
  leaves_none kind board is = record { later = omega arith; each = is; before = λ start i x le was. inl was }

  pub keeps_none : (board : D) → KeepsStore B board board
  keeps_none board =
      record { same = refl; flight = λ place h. h; later = omega arith; before = λ start i x le h. inl h }

  -- one run after another
  pub leaves_then : (kind : List ℕ → List ℕ → Type 0) (old mid new : D) → LeavesOnly B old mid kind
      → LeavesOnly B mid new kind → LeavesOnly B old new kind
  leaves_then kind old mid new first next = record {
    later = omega (arith, first.later, next.later);
    each = λ i x left. ⊎_elim (first.each i x) (λ is. is) (next.before (B.moment old) i x first.later left);
    before = λ start i x le left. ⊎_elim (first.before start i x le) (λ is. inr is)
        (next.before start i x (omega (arith, le, first.later)) left);
  }

  pub keeps_then : (old mid new : D) → KeepsStore B old mid → KeepsStore B mid new → KeepsStore B old new
  keeps_then old mid new first next = record {
    same = next.same ∙ first.same;
    flight = λ place h. first.flight place (next.flight place h);
    later = omega (arith, first.later, next.later);
    before = λ start i x le h. ⊎_elim (first.before start i x le)
        (λ held. inr (record {
          bytes = held_before (B.image mid) (B.image old) i (B.in_flight mid)
              (B.in_flight old) first.same first.flight held.bytes;
          small = held.small;
        }))
        (next.before start i x (omega (arith, le, first.later)) h);
  }

  -- a wider kind
  pub leaves_wider : (kind wider : List ℕ → List ℕ → Type 0) (old new : D)
      → ((left_image left_text : List ℕ) → kind left_image left_text → wider left_image left_text)
      → LeavesOnly B old new kind → LeavesOnly B old new wider
  leaves_wider kind wider old new more run = record {
    later = run.later;
    each = λ i x left. more i x (run.each i x left);
    before = λ start i x le left. ⊎_elim (λ was. inl was) (λ is. inr (more i x is)) (run.before start i x le left);
  }

  -- a print, as a run of its own
  module _ (old new : D) (piece : List ℕ) (same : B.image new ≡ B.image old)
      (flight : (place : ℕ) → B.in_flight new place → B.in_flight old place)
      (time : PrintTakes B old new piece) where
    amid_old : (i x : List ℕ) → MayLeaveAmid (B.image new) (B.in_flight new) (B.printed old) piece i x
        → MayLeaveAmid (B.image old) (B.in_flight old) (B.printed old) piece i x
    amid_old i x amid = record {
      bytes = held_before (B.image new) (B.image old) i (B.in_flight new) (B.in_flight old) same flight amid.bytes;
      small = amid.small;
      text = amid.text;
    }

    not_begun : (i x : List ℕ) → MayLeave (B.image old) (B.in_flight old) (B.printed old) i x
        → MayLeaveAmid (B.image old) (B.in_flight old) (B.printed old) piece i x
    not_begun i x now =
        record { bytes = now.bytes; small = now.small; text = begins_not (B.printed old) x piece now.text }

    pub leaves_print : LeavesNow B old
        → LeavesOnly B old new (MayLeaveAmid (B.image old) (B.in_flight old) (B.printed old) piece)
    leaves_print only_now = record {
      later = time.later;
      each = λ i x left. ⊎_elim (λ was. not_begun i x (only_now i x was)) (amid_old i x)
          (time.nothing_else (B.moment old) i x (omega arith) left);
      before = λ start i x le left. ⊎_elim (λ was. inl was) (λ is. inr (amid_old i x is))
          (time.nothing_else start i x le left);
    }

    pub keeps_print : KeepsStore B old new
    keeps_print = record {
      same = same;
      flight = flight;
      later = time.later;
      before = λ start i x le left. ⊎_elim (λ was. inl was)
          (λ (is : MayLeaveAmid (B.image new) (B.in_flight new) (B.printed old) piece i x).
          inr (record { bytes = (amid_old i x is).bytes; small = is.small }))
          (time.nothing_else start i x le left);
    }

  -- a run that keeps the store leaves what its old state might leave of it
  pub leaves_kept : (old new : D) → LeavesNow B old → KeepsStore B old new
      → LeavesOnly B old new (λ left_image left_text. MayHold (B.image old) (B.in_flight old) left_image)
  leaves_kept old new only_now kept = record {
    later = kept.later;
    each = λ i x left. ⊎_elim (λ was. let now = only_now i x was in record { bytes = now.bytes; small = now.small })
        (λ is. is) (kept.before (B.moment old) i x (omega arith) left);
    before = λ start i x le left. kept.before start i x le left;
  }
