-- What a cut inside a call leaves.
use Rattle.std.{specs.List.{All}, proofs.{Common.{refl, subst, suc, sym, take, true, zero}, lemmas.List.{ext_get_or}}}
use Rattle.std.proofs.Common.{[], ℕ, ◌<◌, ◌∙◌, ◌∷◌, ◌≡◌, ◌≤◌, Bool, List, ap, arith, false, get_or, inl, inr, length}
use Rattle.memory_devices.specs.Calls.{Call, CallOutcome, Contents, IsInSome, Print, Read, Sync, Write, after}
use Rattle.memory_devices.specs.{Calls.{after_all, begun, done, overwrite}, Common.{AreBytes, IsWithin, SameBut}}
use Rattle.memory_devices.specs.{MemoryBoard.{inside}, Moments.{Leaves, LeftBy}}
use Rattle.memory_devices.{specs.Replays.{IsInStore, call_end}, proofs.Overwriting.{overwrite_same, overwrite_size}}

abbrev kept_of : Call → Bool → CallOutcome
kept_of call failed = record { call = call; failed = failed }

-- a call that writes in the store leaves the size of the image
after_size : (store : ℕ) (held : Contents) (call : Call) (failed : Bool) → length held.image ≡ store
    → call_end call ≤ store → length (after held (kept_of call failed)).image ≡ store
after_size store held Read true size fits = size
after_size store held Read false size fits = size
after_size store held (Write at bytes) true size fits = size
after_size store held (Write at bytes) false size fits =
    overwrite_size at bytes held.image (omega (arith, size, fits)) ∙ size
after_size store held Sync true size fits = size
after_size store held Sync false size fits = size
after_size store held (Print bytes) true size fits = size
after_size store held (Print bytes) false size fits = size

-- what a cut may leave now is among what one at these calls might have left
pub left_first : (held : Contents) (calls : List CallOutcome) (i x : List ℕ) → Leaves held i x → LeftBy held calls i x
left_first held [] i x now = now
left_first held (kept ∷ more) i x now = inl now

-- what a cut may leave inside the first call, which has begun, is among what one at these calls might have left
left_begun : (store : ℕ) (held : Contents) (call : Call) (failed : Bool) (more : List CallOutcome) (i : List ℕ)
    → AreBytes i → length held.image ≡ store → call_end call ≤ store
    → SameBut (IsInSome (begun held call).ranges) (begun held call).image i
    → LeftBy held (kept_of call failed ∷ more) i (begun held call).text
left_begun store held Read failed more i small size fits left =
    inl (record { bytes = left; small = small; text = refl })
left_begun store held (Write at bytes) true more i small size fits left = inr (inr
    (left_first (begun held (Write at bytes)) more i held.text (record { bytes = left; small = small; text = refl })))
left_begun store held (Write at bytes) false more i small size fits left =
    inr (inr (left_first (done held (Write at bytes)) more i held.text (record {
      bytes = record {
        size = left.size ∙ sym put.size;
        rest = λ place none. left.rest place none ∙ sym (put.rest place (λ r. none (inr r)));
      };
      small = small;
      text = refl;
    })))
  where
    put : SameBut (IsWithin at (length bytes)) held.image (overwrite at bytes held.image)
    put = overwrite_same at bytes held.image (omega (arith, size, fits))
left_begun store held Sync failed more i small size fits left =
    inl (record { bytes = left; small = small; text = refl })
left_begun store held (Print bytes) failed more i small size fits left =
    inl (record { bytes = left; small = small; text = refl })

-- what a cut inside a call may leave is what one at some moment might have left
pub left_inside : (store : ℕ) (held : Contents) (calls : List CallOutcome) (number : ℕ) (i : List ℕ) → AreBytes i
    → length held.image ≡ store → All (IsInStore store) calls
    → SameBut (IsInSome (inside held calls number).ranges) (inside held calls number).image i
    → LeftBy held calls i (inside held calls number).text
left_inside store held calls zero i small size fits left =
    left_first held calls i held.text (record { bytes = left; small = small; text = refl })
left_inside store held [] (suc number) i small size fits left = record { bytes = left; small = small; text = refl }
left_inside store held (kept ∷ more) (suc zero) i small size fits left =
    left_begun store held kept.call kept.failed more i small size (fits 0 kept (omega arith)) left
left_inside store held (kept ∷ more) (suc (suc number)) i small size fits left =
    inr (inr (left_inside store (after held kept) more (suc number) i small (after_size store held kept.call kept.failed
    size (fits 0 kept (omega arith))) (λ k d below. fits (suc k) d (omega (arith, below))) left))

-- what a cut inside a call finds is what the calls before it leave, with the call begun
pub inside_is : (held : Contents) (calls : List CallOutcome) (number : ℕ) (kept : CallOutcome) → number < length calls
    → kept ≡ get_or calls number kept
    → inside held calls (suc number) ≡ begun (after_all held (take number calls)) kept.call
inside_is held [] number kept below is = absurd (omega (arith, below))
inside_is held (first ∷ more) zero kept below is = ap (λ (k : CallOutcome). begun held k.call) (sym is)
inside_is held (first ∷ more) (suc number) kept below is =
    inside_is (after held first) more number kept (omega (arith, below)) is

-- if nothing is in flight, one image alone may be left
pub settled_is : (held : Contents) (i : List ℕ) → held.ranges ≡ [] → SameBut (IsInSome held.ranges) held.image i
    → i ≡ held.image
settled_is held i none left = ext_get_or 0 i held.image left.size
    (λ place _. left.rest place (λ h. subst (λ (r : List (ℕ × ℕ)). IsInSome r place) none h))
