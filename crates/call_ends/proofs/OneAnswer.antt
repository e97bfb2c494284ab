-- What one answer says of itself, and of another that it is equal to.
use Rattle.std.proofs.Common.{◌∙◌, ◌≡◌, ◌≢◌, Err, Ok, Result, sym}

-- one answer has one fault, and a good one none
pub same_fault : {T E : Type 0} (r : Result T E) (a b : E) → r ≡ Err a → r ≡ Err b → a ≡ b
same_fault r a b e f = cc

pub no_fault : {T E : Type 0} (r : Result T E) (x : T) (e : E) → r ≡ Ok x → ¬ (r ≡ Err e)
no_fault r x e is = λ bad. absurd cc

-- what an answer says of another that it is equal to, unless it is one fault
pub as_found : {T E : Type 0} (r s : Result T E) (x : T) (e : E) → r ≡ Ok x → (¬ (r ≡ Err e) → r ≡ s) → s ≡ Ok x
as_found r s x e is exact = sym (exact (no_fault r x e is)) ∙ is

pub as_refused : {T E : Type 0} (r s : Result T E) (a e : E) → r ≡ Err a → a ≢ e → (¬ (r ≡ Err e) → r ≡ s) → s ≡ Err a
as_refused r s a e is other exact = sym (exact (λ f. other (same_fault r a e is f))) ∙ is
