-- One more call joins those that a board in memory keeps.
use Rattle.std.proofs.Common.{[], ℕ, ◌++◌, ◌∷◌, ◌≡◌, ◌≤◌, ◌⊎◌, List, arith, inl, inr, length, length-append, refl, suc}
use Rattle.{std.proofs.Common.{zero, ⊎_elim}, memory_devices.specs.Moments.{Leaves, LeavesAmid, LeftBy, LeftSince}}
use Rattle.memory_devices.specs.{Calls.{Call, CallOutcome, Contents, after, after_all}, Common.{Elapses}}

pub after_pushed : (held : Contents) (calls : List CallOutcome) (kept : CallOutcome)
    → after_all held (calls ++ kept ∷ []) ≡ after (after_all held calls) kept
after_pushed held [] kept = refl
after_pushed held (first ∷ more) kept = after_pushed (after held first) more kept

-- what a cut inside a call, or after it, leaves
abbrev pub LeavesIn : Contents → Call → Contents → List ℕ → List ℕ → Type 0
LeavesIn old call new i x = LeavesAmid old call i x ⊎ Leaves new i x

by_from : (held : Contents) (calls : List CallOutcome) (kept : CallOutcome) (i x : List ℕ)
    → LeftBy held (calls ++ kept ∷ []) i x
    → LeftBy held calls i x ⊎ LeavesIn (after_all held calls) kept.call (after_all held (calls ++ kept ∷ [])) i x
by_from held [] kept i x (inl now) = inl now
by_from held [] kept i x (inr later) = inr later
by_from held (first ∷ more) kept i x (inl now) = inl (inl now)
by_from held (first ∷ more) kept i x (inr (inl amid)) = inl (inr (inl amid))
by_from held (first ∷ more) kept i x (inr (inr later)) =
    ⊎_elim (λ was. inl (inr (inr was))) (λ is. inr is) (by_from (after held first) more kept i x later)

by_to : (held : Contents) (calls : List CallOutcome) (kept : CallOutcome) (i x : List ℕ) → LeftBy held calls i x
    → LeftBy held (calls ++ kept ∷ []) i x
by_to held [] kept i x now = inl now
by_to held (first ∷ more) kept i x (inl now) = inl now
by_to held (first ∷ more) kept i x (inr (inl amid)) = inr (inl amid)
by_to held (first ∷ more) kept i x (inr (inr later)) = inr (inr (by_to (after held first) more kept i x later))

since_from : (held : Contents) (calls : List CallOutcome) (kept : CallOutcome) (t : ℕ) (i x : List ℕ) → t ≤ length calls
    → LeftSince held (calls ++ kept ∷ []) t i x
    → LeftSince held calls t i x ⊎ LeavesIn (after_all held calls) kept.call (after_all held (calls ++ kept ∷ [])) i x
since_from held calls kept zero i x le left = by_from held calls kept i x left
since_from held [] kept (suc t) i x le left = absurd (omega arith)
since_from held (first ∷ more) kept (suc t) i x le left =
    since_from (after held first) more kept t i x (omega arith) left

since_to : (held : Contents) (calls : List CallOutcome) (kept : CallOutcome) (t : ℕ) (i x : List ℕ) → t ≤ length calls
    → LeftSince held calls t i x → LeftSince held (calls ++ kept ∷ []) t i x
since_to held calls kept zero i x le left = by_to held calls kept i x left
since_to held [] kept (suc t) i x le left = absurd (omega arith)
since_to held (first ∷ more) kept (suc t) i x le left = since_to (after held first) more kept t i x (omega arith) left

-- time goes on by one more call
pub elapses_pushed : (held : Contents) (calls : List CallOutcome) (kept : CallOutcome)
    → Elapses (length calls) (length (calls ++ kept ∷ [])) (LeftSince held calls) (LeftSince held (calls ++ kept ∷ []))
    (LeavesIn (after_all held calls) kept.call (after_all held (calls ++ kept ∷ [])))
elapses_pushed held calls kept = record {
  later = omega (arith, length-append calls (kept ∷ []));
  nothing_else = λ t i x le left. since_from held calls kept t i x le left;
  keeps = λ t i x le left. since_to held calls kept t i x le left;
}

-- time stands still, or goes on in some other way
pub elapses_not : (now : ℕ) (past : ℕ → List ℕ → List ℕ → Type 0) (outcome : List ℕ → List ℕ → Type 0)
    → Elapses now now past past outcome
elapses_not now past outcome = record {
  later = omega arith;
  nothing_else = λ t i x le left. inl left;
  keeps = λ t i x le left. left;
}

-- the same with more outcomes
pub elapses_weaker : {before now : ℕ} {past since : ℕ → List ℕ → List ℕ → Type 0} (few many : List ℕ → List ℕ → Type 0)
    → Elapses before now past since few
    → ((i x : List ℕ) → few i x → many i x) → Elapses before now past since many
elapses_weaker few many h more = record {
  later = h.later;
  nothing_else = λ t i x le left. ⊎_elim (λ was. inl was) (λ is. inr (more i x is)) (h.nothing_else t i x le left);
  keeps = h.keeps;
}
