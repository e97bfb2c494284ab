-- How the reader of a roll goes on.
use Rattle.std.proofs.Common.{[], ℕ, ◌++◌, ◌+◌, ◌-◌, ◌<◌, ◌∙◌, ◌∷◌, ◌≡◌, ◌≤◌, Bool, IfSome, List, None, Option, Some}
use Rattle.std.proofs.Common.{ap, append_assoc, arith, drop, false, is_some, length, length-append, option_to_list}
use Rattle.std.proofs.{Common.{refl, subst, suc, sym, take, true, zero}, lemmas.List.{append-nil, drop-drop, drop-take}}
use Rattle.receipt_reading.specs.{Common.{stream_limit}, Printed.{Printed}, Roll.{Reads, Reads.{over}}}
use Rattle.receipt_reading.specs.{Reading.{EndsBy, GoesOn, HasRead, Place}, ReceiptSearch.{IsReceiptSearch, MayFollow}}
use Rattle.receipt_reading.{specs.declared.roll.RollEnd.{RollEnd}, proofs.RollLaws.{read_on, reads_bytes}}

-- ---- lists

-- what is left of a part of a window when some of its front was passed
pub ahead_after : (from to count : ℕ) (window : List ℕ) → from + count ≤ to
    → take (to - (from + count)) (drop (from + count) window) ≡ drop count (take (to - from) (drop from window))
ahead_after from to count window fits =
    let left = to - (from + count) in
    let e : to - from ≡ count + left = omega arith in
    ap (take left) (sym (drop-drop count from window))
    ∙ (sym (drop-take count left (drop from window)) ∙ ap (λ (k : ℕ). drop count (take k (drop from window))) (sym e))

-- ---- the reader

-- nothing may always follow
pub none_follows : (ended : Bool) → MayFollow ended []
none_follows true = refl
none_follows false = tt

pub starts : (roll : List ℕ) (place : Place) → place.ahead ≡ [] → place.left ≡ stream_limit → place.end ≡ None
    → HasRead roll place roll []
starts roll place none left going = record {
  taken = [];
  split = record { bytes = refl };
  count = omega (arith, left);
  reads = λ more may. subst (λ (t : List ℕ). Reads more [] (t ++ more)) (sym none) (over more);
  ends = subst (λ (e : Option RollEnd). EndsBy e [] roll) (sym going) tt;
}

-- one after the other
pub goes_further : (a b c : Place) (x y z : List ℕ) (first second : List Printed) → GoesOn a b x y first
    → GoesOn b c y z second → GoesOn a c x z (first ++ second)
goes_further a b c x y z first second g h = λ roll receipts read.
    subst (HasRead roll c z) (append_assoc receipts first second) (h roll (receipts ++ first) (g roll receipts read))

-- more bytes were taken
pub goes_filled : (old new : Place) (rest rest' fed : List ℕ) → old.end ≡ None → new.end ≡ None → new.ahead
    ≡ old.ahead ++ fed → length fed + new.left ≡ old.left → rest ≡ fed ++ rest' → GoesOn old new rest rest' []
goes_filled old new rest rest' fed going still ahead count passes = λ roll receipts h.
    subst (HasRead roll new rest') (sym (append-nil receipts)) (record {
      taken = h.taken ++ fed;
      split = record {
        bytes = h.split.bytes ∙ (ap (λ (t : List ℕ). h.taken ++ t) passes ∙ sym (append_assoc h.taken fed rest'));
      };
      count = omega (arith, h.count, count, length-append h.taken fed);
      reads = λ more may.
          let any : MayFollow (is_some old.end) (fed ++ more) =
          subst (λ (e : Option RollEnd). MayFollow (is_some e) (fed ++ more)) (sym going) tt in
          subst (λ (t : List ℕ). Reads ((h.taken ++ fed) ++ more) receipts t)
          (sym (append_assoc old.ahead fed more) ∙ ap (λ (t : List ℕ). t ++ more) (sym ahead))
          (subst (λ (t : List ℕ). Reads t receipts (old.ahead ++ (fed ++ more))) (sym (append_assoc h.taken fed more))
          (h.reads (fed ++ more) any));
      ends = subst (λ (e : Option RollEnd). EndsBy e (h.taken ++ fed) rest') (sym still) tt;
    })

-- what is ahead was looked through
pub goes_looked : (old new : Place) (count : ℕ) (those : List Printed) → IsReceiptSearch (is_some old.end) old.ahead
    count those → new.ahead ≡ drop count old.ahead → new.left ≡ old.left → new.end ≡ old.end
    → (rest : List ℕ) → GoesOn old new rest rest those
goes_looked old new count those looks ahead left end rest = λ roll receipts h. record {
  taken = h.taken;
  split = h.split;
  count = omega (arith, h.count, left);
  reads = λ more may.
      let may_old : MayFollow (is_some old.end) more =
      subst (λ (e : Option RollEnd). MayFollow (is_some e) more) end may in
      subst (λ (t : List ℕ). Reads (h.taken ++ more) (receipts ++ those) (t ++ more)) (sym ahead)
      (read_on (h.taken ++ more) (old.ahead ++ more) (drop count old.ahead ++ more) receipts those
      (h.reads more may_old) (looks.reads more may_old));
  ends = subst (λ (e : Option RollEnd). EndsBy e h.taken rest) (sym end) h.ends;
}

-- fewer bytes are left behind a receipt
pub fewer_ahead : (ended : Bool) (ahead : List ℕ) (count : ℕ) (r : Printed) → IsReceiptSearch ended ahead count (r ∷ [])
    → length (drop count ahead) < length ahead
fewer_ahead ended ahead count r looks =
    let reads = subst (λ (t : List ℕ). Reads t (r ∷ []) (drop count ahead ++ [])) (append-nil ahead)
    (looks.reads [] (none_follows ended)) in
    omega (arith, reads_bytes ahead (drop count ahead ++ []) (r ∷ []) reads, length-append (drop count ahead) [])

pub fewer_looked : (ended : Bool) (ahead left : List ℕ) (count : ℕ) (receipt : Option Printed)
    → IsReceiptSearch ended ahead count (option_to_list receipt) → left ≡ drop count ahead
    → IfSome receipt (λ x. length left < length ahead)
fewer_looked ended ahead left count None looks is = tt
fewer_looked ended ahead left count (Some r) looks is =
    omega (arith, fewer_ahead ended ahead count r looks, ap length is)

none_there : (receipt : Option Printed) (n : ℕ) (bytes : List ℕ) → bytes ≡ [] → IfSome receipt (λ x. n < length bytes)
    → receipt ≡ None
none_there None n bytes none fewer = refl
none_there (Some r) n bytes none fewer = absurd (omega (arith, ap length none, fewer))

drop_none : (n : ℕ) → drop {A = ℕ} n [] ≡ []
drop_none zero = refl
drop_none (suc n) = refl

-- if nothing is ahead, looking finds none, and the reader stays as it is
pub nothing_looked : (ended : Bool) (old new : Place) (count : ℕ) (receipt : Option Printed)
    → IsReceiptSearch ended old.ahead count (option_to_list receipt)
    → new.ahead ≡ drop count old.ahead → new.left ≡ old.left → new.end ≡ old.end → old.ahead ≡ []
    → (receipt ≡ None) × (new ≡ old)
nothing_looked ended old new count receipt looks ahead left end none =
    let still : new.ahead ≡ old.ahead = ahead ∙ (ap (drop count) none ∙ (drop_none count ∙ sym none)) in (
      none_there receipt (length new.ahead) old.ahead none
          (fewer_looked ended old.ahead new.ahead count receipt looks ahead),
      λ i. record { ahead = still i; left = left i; end = end i },
    )

-- ---- how often it still goes round

abbrev pub rounds : Option RollEnd → (left : ℕ) → ℕ
rounds None left = left + 1
rounds (Some end) left = 0
