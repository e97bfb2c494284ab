-- What is read one part behind the other.
use Rattle.std.{specs.Prelude.{IfSome}, proofs.Common.{◌≡◌, None, Option, Some, refl}}
use Rattle.offset_rules.specs.Common.{◌>>=◌, Gives}

-- a part that was found, and one that wasn't
pub found_then : {A B : Type 0} (found : Option A) (f : A → Option B) (a : A) (x : Option B) → found ≡ Some a → f a ≡ x
    → found >>= f ≡ x
found_then found f a x is rest = rw is rest

pub not_found : {A B : Type 0} (found : Option A) (f : A → Option B) → found ≡ None → found >>= f ≡ None
not_found found f none = rw none refl

-- nothing is given if nothing is found
pub gives_none : {X Y : Type 0} (view : X → Y) (r : Option X) (read : Option Y) → r ≡ None → read ≡ None
    → Gives view r read
gives_none view (Some x) read none is = absurd (let bad : Some x ≡ None = none in cc)
gives_none view None read none is = is

pub none_in_range : {X : Type 0} (P : X → Type 0) (r : Option X) → r ≡ None → IfSome r P
none_in_range P (Some x) none = absurd (let bad : Some x ≡ None = none in cc)
none_in_range P None none = tt
