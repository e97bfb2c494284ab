-- What an unfinished request is like, and what a byte that may follow makes of it.
use Rattle.std.proofs.Common.{[], ℕ, ◌&&◌, ◌++◌, ◌+◌, ◌-◌, ◌<◌, ◌==◌, ◌∙◌, ◌∷◌, ◌≡◌, ◌≤◌, ◌⊎◌, Bool, List, ap}
use Rattle.std.proofs.Common.{append_assoc, arith, false, get_or, inl, inr, length, length-append, nat_le, nat_lt, refl}
use Rattle.std.proofs.{Common.{subst, suc, sym, true, zero}, lemmas.Bool.{cond-false, cond-true, eqb-false, eqb-true}}
use Rattle.taxi_units.specs.Test.{◌&◌, at_most, less, within}
use Rattle.data_port.specs.{Items.{item_count}, ReadingStages.{follows, follows_codes, has_all, last_code, request_in}}
use Rattle.data_port.specs.{Requests.{IsRequest, Rise, request_bytes}, declared.request.Request.{Request}}
use Rattle.data_port.specs.Streams.{IsUnfinished}

-- ---- codes

-- the last of codes, or this number if there is none
abbrev pub last_from : ℕ → List ℕ → ℕ
last_from above [] = above
last_from above (code ∷ codes) = last_from code codes

last_at : (above code : ℕ) (codes : List ℕ) → last_from above (code ∷ codes) ≡ get_or (code ∷ codes) (length codes) 0
last_at above code [] = refl
last_at above code (next ∷ codes) = last_at code next codes

pub last_is : (codes : List ℕ) → last_code codes ≡ last_from 0 codes
last_is [] = refl
last_is (code ∷ codes) =
    let place : length (code ∷ codes) - 1 ≡ length codes = omega arith in
    ap (λ (n : ℕ). get_or (code ∷ codes) n 0) place ∙ sym (last_at 0 code codes)

pub last_push : (above code : ℕ) (codes : List ℕ) → last_from above (codes ++ code ∷ []) ≡ code
last_push above code [] = refl
last_push above code (other ∷ codes) = last_push other code codes

rise_push : (above code : ℕ) (codes : List ℕ) → Rise above codes → last_from above codes < code → code ≤ item_count
    → Rise above (codes ++ code ∷ [])
rise_push above code [] rise low high = (low, (high, tt))
rise_push above code (other ∷ codes) rise low high = (rise.0, (rise.1.0, rise_push other code codes rise.1.1 low high))

-- a number of codes directly above another
abbrev up : ℕ → ℕ → List ℕ
up above zero = []
up above (suc count) = suc above ∷ up (suc above) count

up_long : (above count : ℕ) → length (up above count) ≡ count
up_long above zero = refl
up_long above (suc count) = ap suc (up_long (suc above) count)

up_rise : (above count : ℕ) → above + count ≤ item_count → Rise above (up above count)
up_rise above zero few = tt
up_rise above (suc count) few = (omega arith, (omega arith, up_rise (suc above) count (omega arith)))

rise_up : (above : ℕ) (codes : List ℕ) (count : ℕ) → Rise above codes → last_from above codes + count ≤ item_count
    → Rise above (codes ++ up (last_from above codes) count)
rise_up above [] count rise few = up_rise above count few
rise_up above (code ∷ codes) count rise few = (rise.0, (rise.1.0, rise_up code codes count rise.1.1 few))

-- ---- an unfinished request

pub data Shaped : List ℕ → Type 0 where
  nothing : Shaped []
  start : Shaped (2 ∷ [])
  codes : (count : ℕ) (cs : List ℕ) → 1 ≤ count → count ≤ item_count → Rise 0 cs → length cs ≤ count
      → last_from 0 cs + count ≤ length cs + item_count → Shaped (2 ∷ (count ∷ cs))

-- a byte ends the request
pub record Ends (part : List ℕ) (byte : ℕ) : Type 0 where
  pub all : has_all part ≡ true
  pub good : IsRequest (request_in part)
  pub bytes_are : part ++ byte ∷ [] ≡ request_bytes (request_in part)

-- or belongs to it
pub record Grows (part : List ℕ) (byte : ℕ) : Type 0 where
  pub open_still : has_all part ≡ false
  pub shaped : Shaped (part ++ byte ∷ [])

codes_end : (count : ℕ) (cs : List ℕ) (byte : ℕ) → 1 ≤ count → Rise 0 cs → (length cs == count) ≡ true
    → follows_codes count cs byte ≡ true → Ends (2 ∷ (count ∷ cs)) byte
codes_end count cs byte low rise all fits =
    let last : byte ≡ 3 = eqb-true byte 3 (sym (cond-true (length cs == count) (byte == 3)
    (nat_lt (last_code cs) byte && nat_le (byte + count) (length cs + (item_count + 1))) all) ∙ fits) in
    let same : length cs ≡ count = eqb-true (length cs) count all in
    record {
      all = all;
      good = record { some = omega (arith, same, low); rise = rise };
      bytes_are = λ i. 2 ∷ (sym same i ∷ (cs ++ last i ∷ []));
    }

codes_grow : (count : ℕ) (cs : List ℕ) (byte : ℕ) → 1 ≤ count → count ≤ item_count → Rise 0 cs → length cs ≤ count
    → (length cs == count) ≡ false → follows_codes count cs byte ≡ true → Grows (2 ∷ (count ∷ cs)) byte
codes_grow count cs byte low high rise few left fits =
    let both : (nat_lt (last_code cs) byte && nat_le (byte + count) (length cs + (item_count + 1))) ≡ true =
    sym (cond-false (length cs == count) (byte == 3)
    (nat_lt (last_code cs) byte && nat_le (byte + count) (length cs + (item_count + 1))) left) ∙ fits in
    let parts = (less (last_code cs) byte & at_most (byte + count) (length cs + (item_count + 1))).decides.0 both in
    let room = parts.1 in
    let other = eqb-false (length cs) count left in
    let fewer : length cs < count = omega (arith, other, few) in
    record {
      open_still = left;
      shaped = codes count (cs ++ byte ∷ []) low high
          (rise_push 0 byte cs rise (omega (arith, parts.0, last_is cs)) (omega (arith, room, fewer)))
          (omega (arith, fewer, length-append cs (byte ∷ [])))
          (omega (arith, room, last_push 0 byte cs, length-append cs (byte ∷ [])));
    }

step_codes : (count : ℕ) (cs : List ℕ) (byte : ℕ) → 1 ≤ count → count ≤ item_count → Rise 0 cs → length cs ≤ count
    → (all : Bool) → (length cs == count) ≡ all → follows_codes count cs byte ≡ true
    → Ends (2 ∷ (count ∷ cs)) byte ⊎ Grows (2 ∷ (count ∷ cs)) byte
step_codes count cs byte low high rise few true is fits = inl (codes_end count cs byte low rise is fits)
step_codes count cs byte low high rise few false is fits = inr (codes_grow count cs byte low high rise few is fits)

step_start : (byte : ℕ) → (nat_le 1 byte && nat_le byte item_count) ≡ true → Grows (2 ∷ []) byte
step_start byte fits =
    let range = (within 1 byte item_count).decides.0 fits in
    record { open_still = refl; shaped = codes byte [] range.0 range.1 tt (omega arith) (omega (arith, range)) }

step_nothing : (byte : ℕ) → (byte == 2) ≡ true → Grows [] byte
step_nothing byte fits =
    record { open_still = refl; shaped = subst (λ (b : ℕ). Shaped (b ∷ [])) (sym (eqb-true byte 2 fits)) start }

pub step : (part : List ℕ) (byte : ℕ) → Shaped part → follows part byte ≡ true → Ends part byte ⊎ Grows part byte
step part byte nothing fits = inr (step_nothing byte fits)
step part byte start fits = inr (step_start byte fits)
step part byte (codes count cs low high rise few room) fits =
    step_codes count cs byte low high rise few (length cs == count) refl fits

-- it has few bytes
pub few_bytes : (part : List ℕ) → Shaped part → length part ≤ item_count + 2
few_bytes part nothing = omega arith
few_bytes part start = omega arith
few_bytes part (codes count cs low high rise few room) = omega (arith, high, few)

-- ---- some request begins so

one : Request
one = record { items = record { items = 1 ∷ [] } }

one_good : IsRequest one
unfolding one
one_good = record { some = omega arith; rise = (omega arith, (omega arith, tt)) }

pub unfinished : (part : List ℕ) → Shaped part → IsUnfinished part
unfolding one
unfinished part nothing =
    record { request = one; rest = 2 ∷ (1 ∷ (1 ∷ (3 ∷ []))); good = one_good; some = omega arith; bytes_are = refl }
unfinished part start =
    record { request = one; rest = 1 ∷ (1 ∷ (3 ∷ [])); good = one_good; some = omega arith; bytes_are = refl }
unfinished part (codes count cs low high rise few room) =
    let more = up (last_from 0 cs) (count - length cs) in
    let long : length (cs ++ more) ≡ count =
    omega (arith, length-append cs more, up_long (last_from 0 cs) (count - length cs), few) in
    let rises : Rise 0 (cs ++ more) = rise_up 0 cs (count - length cs) rise (omega (arith, room, few)) in
    let request : Request = record { items = record { items = cs ++ more } } in
    record {
      request = request;
      rest = more ++ 3 ∷ [];
      good = record { some = omega (arith, long, low); rise = rises };
      some = omega (arith, length-append more (3 ∷ []));
      bytes_are = λ i. 2 ∷ (sym long i ∷ sym (append_assoc cs more (3 ∷ [])) i);
    }
