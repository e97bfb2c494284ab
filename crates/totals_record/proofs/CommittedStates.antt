-- The state after a list of commits, and after one list and then another.
use Rattle.std.{specs.List.{All}, proofs.lemmas.List.Elements.{All-append, All-cons, All-nil}}
use Rattle.std.proofs.Common.{[], ℕ, ◌++◌, ◌+◌, ◌∙◌, ◌∷◌, ◌≡◌, Bool, List, None, Option, Some, ap, append_assoc, arith}
use Rattle.std.proofs.Common.{false, if◌then◌else◌, inl, inr, length, length-append, refl, subst, sym, true}
use Rattle.totals_record.specs.{Common.{Change, Durable, Enter, Entry, Hold, Totals, Trip}, States.{layout_after}}
use Rattle.totals_record.{specs.Entries.{AddsUp, closes, totals_of}, proofs.EntrySums.{adds_then, adds_up}}
use Rattle.totals_record.specs.{Ranges.{newest_layout}, Sums.{GrowsBy}}
use Rattle.totals_record.specs.States.{IsHeldAfter, IsLast, IsRoaming, after, after_all, entries_of, held_after}

number_after : (opening : Durable) (changes : List Change)
    → (after_all opening changes).number ≡ opening.number + length changes
number_after opening [] = omega arith
number_after opening (change ∷ changes) = omega (arith, number_after (after opening change) changes)

layout_is : (opening : Durable) (changes : List Change)
    → (after_all opening changes).layout ≡ layout_after opening.layout changes
layout_is opening [] = refl
layout_is opening (change ∷ changes) = layout_is (after opening change) changes ∙ newest changes
  where
    newest : (changes : List Change) → layout_after newest_layout changes ≡ newest_layout
    newest [] = refl
    newest (change ∷ changes) = refl

totals_are : (opening : Durable) (changes : List Change)
    → (after_all opening changes).totals ≡ totals_of opening.totals (entries_of changes)
totals_are opening [] = refl
totals_are opening (Enter entry ∷ changes) = totals_are (after opening (Enter entry)) changes
totals_are opening (Hold trip ∷ changes) = totals_are (after opening (Hold trip)) changes

-- the last commit stays the last behind one more
last_of : (change last : Change) (changes : List Change) → IsLast changes last → IsLast (change ∷ changes) last
last_of change last changes is = record {
  earlier = change ∷ is.earlier;
  later = is.later;
  split = ap (λ (l : List Change). change ∷ l) is.split;
  roaming = is.roaming;
}

first_is : (change : Change) (changes : List Change) → All IsRoaming changes → IsLast (change ∷ changes) change
first_is change changes roaming = record { earlier = []; later = changes; split = refl; roaming = roaming }

-- what is held after a first commit and the others
held_first : (opening : Option Trip) (change : Change) (changes : List Change) (held : Option Trip)
    → IsHeldAfter (held_after opening change) changes held → IsHeldAfter opening (change ∷ changes) held
held_first opening change changes (Some trip) (inl last) = inl (last_of change (Hold trip) changes last)
held_first opening (Hold first) changes (Some trip) (inr stood) = inl (subst
    (λ (t : Trip). IsLast (Hold first ∷ changes) (Hold t)) (same stood.1) (first_is (Hold first) changes stood.0))
  where
    same : Some first ≡ Some trip → first ≡ trip
    same is = cc
held_first opening (Enter entry) changes (Some trip) (inr stood) = by (closes entry) refl stood.1
  where
    by : (b : Bool) → closes entry ≡ b → (if b then None else opening) ≡ Some trip
        → IsHeldAfter opening (Enter entry ∷ changes) (Some trip)
    by true closing is = absurd cc
    by false roaming is = inr (All-cons IsRoaming (Enter entry) changes roaming stood.0, is)
held_first opening change changes None (inl closing) =
    inl (closing.0, (closing.1.0, last_of change closing.0 changes closing.1.1))
held_first opening (Hold first) changes None (inr stood) = absurd (none stood.1)
  where
    none : Some first ≡ None → ⊥
    none is = absurd cc
held_first opening (Enter entry) changes None (inr stood) = by (closes entry) refl stood.1
  where
    by : (b : Bool) → closes entry ≡ b → (if b then None else opening) ≡ None
        → IsHeldAfter opening (Enter entry ∷ changes) None
    by true closing is = inl (Enter entry, (closing, first_is (Enter entry) changes stood.0))
    by false roaming is = inr (All-cons IsRoaming (Enter entry) changes roaming stood.0, is)

held_is : (opening : Durable) (changes : List Change)
    → IsHeldAfter opening.hold changes (after_all opening changes).hold
held_is opening [] = stood opening.hold
  where
    stood : (held : Option Trip) → IsHeldAfter held [] held
    stood None = inr (All-nil IsRoaming, refl)
    stood (Some trip) = inr (All-nil IsRoaming, refl)
held_is opening (change ∷ changes) = held_first opening.hold change changes (after_all opening (change ∷ changes)).hold
    (held_is (after opening change) changes)

pub follows : (opening : Durable) (changes : List Change) → GrowsBy opening (after_all opening changes) changes
follows opening changes = record {
  number = number_after opening changes;
  layout = layout_is opening changes;
  totals = subst (λ (t : Totals). AddsUp opening.totals t (entries_of changes)) (sym (totals_are opening changes))
      (adds_up opening.totals (entries_of changes));
  held = held_is opening changes;
}

-- ---- one list of commits after another

-- the entries of both
entries_joined : (xs ys : List Change) → entries_of (xs ++ ys) ≡ entries_of xs ++ entries_of ys
entries_joined [] ys = refl
entries_joined (Enter entry ∷ xs) ys = ap (λ (l : List Entry). entry ∷ l) (entries_joined xs ys)
entries_joined (Hold trip ∷ xs) ys = entries_joined xs ys

last_more : (xs ys : List Change) (change : Change) → IsLast ys change → IsLast (xs ++ ys) change
last_more xs ys change h = record {
  earlier = xs ++ h.earlier;
  later = h.later;
  split = ap (λ (l : List Change). xs ++ l) h.split ∙ sym (append_assoc xs h.earlier (change ∷ h.later));
  roaming = h.roaming;
}

last_behind : (xs ys : List Change) (change : Change) → IsLast xs change → All IsRoaming ys → IsLast (xs ++ ys) change
last_behind xs ys change h roaming = record {
  earlier = h.earlier;
  later = h.later ++ ys;
  split = ap (λ (l : List Change). l ++ ys) h.split ∙ append_assoc h.earlier (change ∷ h.later) ys;
  roaming = All-append IsRoaming h.later ys h.roaming roaming;
}

held_as : (opening : Option Trip) (xs ys : List Change) (held : Option Trip) → All IsRoaming ys
    → IsHeldAfter opening xs held → IsHeldAfter opening (xs ++ ys) held
held_as opening xs ys (Some trip) roaming (inl last) = inl (last_behind xs ys (Hold trip) last roaming)
held_as opening xs ys (Some trip) roaming (inr first) = inr (All-append IsRoaming xs ys first.0 roaming, first.1)
held_as opening xs ys None roaming (inl closed) =
    inl (closed.0, (closed.1.0, last_behind xs ys closed.0 closed.1.1 roaming))
held_as opening xs ys None roaming (inr first) = inr (All-append IsRoaming xs ys first.0 roaming, first.1)

held_then : (opening mid held : Option Trip) (xs ys : List Change) → IsHeldAfter opening xs mid
    → IsHeldAfter mid ys held → IsHeldAfter opening (xs ++ ys) held
held_then opening mid (Some trip) xs ys first (inl last) = inl (last_more xs ys (Hold trip) last)
held_then opening mid (Some trip) xs ys first (inr kept) =
    held_as opening xs ys (Some trip) kept.0 (subst (λ (m : Option Trip). IsHeldAfter opening xs m) kept.1 first)
held_then opening mid None xs ys first (inl closed) = inl (closed.0, (closed.1.0, last_more xs ys closed.0 closed.1.1))
held_then opening mid None xs ys first (inr kept) =
    held_as opening xs ys None kept.0 (subst (λ (m : Option Trip). IsHeldAfter opening xs m) kept.1 first)

layout_then : (opening : ℕ) (xs ys : List Change)
    → layout_after opening (xs ++ ys) ≡ layout_after (layout_after opening xs) ys
layout_then opening [] ys = refl
layout_then opening (x ∷ xs) [] = refl
layout_then opening (x ∷ xs) (y ∷ ys) = refl

-- a state that follows one that follows another
pub follows_then : (a b c : Durable) (xs ys : List Change) → GrowsBy a b xs → GrowsBy b c ys → GrowsBy a c (xs ++ ys)
follows_then a b c xs ys first next = record {
  number = omega (arith, first.number, next.number, length-append xs ys);
  layout = next.layout ∙ ap (λ (n : ℕ). layout_after n ys) first.layout ∙ sym (layout_then a.layout xs ys);
  totals = subst (λ (l : List Entry). AddsUp a.totals c.totals l) (sym (entries_joined xs ys))
      (adds_then a.totals b.totals c.totals (entries_of xs) (entries_of ys) first.totals next.totals);
  held = held_then a.hold b.hold c.hold xs ys first.held next.held;
}
