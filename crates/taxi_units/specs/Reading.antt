-- Rules: reading from the front of a text, which gives what is found there and what stands after it. The law
-- words_are_read_by_their_text says what `word_at` gives.
use Rattle.std.specs.{Prelude.{ℕ, ◌≡◌, List, None, Option, Some, drop, if◌then◌else◌, length, take}, Str.{bytes_eq}}

-- reading goes on with what was found, and finds nothing if nothing was found before
infixl 10 ◌>>=◌
abbrev pub ◌>>=◌ : {A B : Type 0} → Option A → (A → Option B) → Option B
(Some x) >>= f = f x
None >>= f = None

-- a result gives what reading does if it is the same as what was read, seen through `view`, and None exactly if
-- reading finds nothing
abbrev pub Gives : {X Y : Type 0} → (X → Y) → Option X → Option Y → Type 0
Gives view (Some x) read = read ≡ Some (view x)
Gives view None read = read ≡ None

-- a result gives what reading does, as it is
abbrev pub GivesSame : {X : Type 0} → Option X → Option X → Type 0
GivesSame result read = Gives (λ x. x) result read

-- a text that begins with a word gives what stands after it, and another text gives nothing
unfoldable pub word_at : List ℕ → List ℕ → Option (List ℕ)
word_at word bytes = if bytes_eq (take (length word) bytes) word then Some (drop (length word) bytes) else None
