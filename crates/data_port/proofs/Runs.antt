-- What bytes make of a standing, one after the other.
use Rattle.{std.specs.List.{All}, data_port.specs.{Items.{item_count}, ReadingStages.{has_all, last_code, request_in}}}
use Rattle.std.proofs.Common.{[], ℕ, ◌&&◌, ◌++◌, ◌+◌, ◌<◌, ◌==◌, ◌∙◌, ◌∷◌, ◌≡◌, ◌≤◌, ◌⊎◌, Bool, List, ap, append_assoc}
use Rattle.std.proofs.Common.{arith, cond, false, inl, inr, length, length-append, nat_le, nat_lt, refl, subst, suc}
use Rattle.std.proofs.{Common.{sym, take, true}, lemmas.Bool.{cond-false, cond-true, eq-eqb, ne_eqb}}
use Rattle.std.proofs.lemmas.{Grind.{flat_map-append}, List.{append-nil, Elements.{All-head, All-push, All-tail}}}
use Rattle.taxi_units.specs.Test.{◌&◌, at_most, less, within}
use Rattle.data_port.specs.{Reading.{Standing, between}, declared.request.Request.{Request}}
use Rattle.data_port.specs.ReadingStages.{after_byte, after_bytes, after_good, ended_by, ended_in, failed_at, follows}
use Rattle.data_port.{specs.Requests.{IsRequest, Rise, codes_of, request_bytes, stream_bytes}, proofs.Bodies.{rise_few}}
use Rattle.data_port.proofs.Shapes.{Ends, Grows, Shaped, last_from, last_is, last_push, nothing, step}

-- ---- one byte

two_tests : {X : Type 0} (a b : Bool) (x y z : X) → a ≡ false → b ≡ true → cond a x (cond b y z) ≡ y
two_tests a b x y z e f = cond-false a x (cond b y z) e ∙ cond-true b y z f

not_second : {X : Type 0} (a b : Bool) (x y z : X) → a ≡ false → b ≡ false → cond a x (cond b y z) ≡ z
not_second a b x y z e f = cond-false a x (cond b y z) e ∙ cond-false b y z f

-- the request that ends
abbrev ended_good : Standing → List Request
ended_good s = cond (has_all s.part) (request_in s.part ∷ []) []

pub good_byte : (s : Standing) (byte : ℕ) → s.failed ≡ false → follows s.part byte ≡ true
    → after_byte s byte ≡ after_good s byte
good_byte s byte going fits =
    two_tests s.failed (follows s.part byte) s (after_good s byte) (failed_at s.taken) going fits

good_ended : (s : Standing) (byte : ℕ) → s.failed ≡ false → follows s.part byte ≡ true → ended_by s byte ≡ ended_good s
good_ended s byte going fits = two_tests s.failed (follows s.part byte) [] (ended_good s) [] going fits

pub bad_byte : (s : Standing) (byte : ℕ) → s.failed ≡ false → follows s.part byte ≡ false
    → after_byte s byte ≡ failed_at s.taken
bad_byte s byte going bad =
    not_second s.failed (follows s.part byte) s (after_good s byte) (failed_at s.taken) going bad

pub bad_ended : (s : Standing) (byte : ℕ) → s.failed ≡ false → follows s.part byte ≡ false → ended_by s byte ≡ []
bad_ended s byte going bad = not_second s.failed (follows s.part byte) [] (ended_good s) [] going bad

abbrev grown : Standing → ℕ → Standing
grown s byte = record { taken = s.taken + 1; part = s.part ++ byte ∷ []; failed = false }

whole_byte : (s : Standing) (byte : ℕ) → s.failed ≡ false → follows s.part byte ≡ true → has_all s.part ≡ true
    → after_byte s byte ≡ between (s.taken + 1)
whole_byte s byte going fits all =
    good_byte s byte going fits ∙ cond-true (has_all s.part) (between (s.taken + 1)) (grown s byte) all

whole_ended : (s : Standing) (byte : ℕ) → s.failed ≡ false → follows s.part byte ≡ true → has_all s.part ≡ true
    → ended_by s byte ≡ request_in s.part ∷ []
whole_ended s byte going fits all =
    good_ended s byte going fits ∙ cond-true (has_all s.part) (request_in s.part ∷ []) [] all

part_byte : (s : Standing) (byte : ℕ) → s.failed ≡ false → follows s.part byte ≡ true → has_all s.part ≡ false
    → after_byte s byte ≡ grown s byte
part_byte s byte going fits left =
    good_byte s byte going fits ∙ cond-false (has_all s.part) (between (s.taken + 1)) (grown s byte) left

part_ended : (s : Standing) (byte : ℕ) → s.failed ≡ false → follows s.part byte ≡ true → has_all s.part ≡ false
    → ended_by s byte ≡ []
part_ended s byte going fits left =
    good_ended s byte going fits ∙ cond-false (has_all s.part) (request_in s.part ∷ []) [] left

-- ---- bytes behind others

pub after-append : (s : Standing) (a b : List ℕ) → after_bytes s (a ++ b) ≡ after_bytes (after_bytes s a) b
after-append s [] b = refl
after-append s (x ∷ a) b = after-append (after_byte s x) a b

pub ended-append : (s : Standing) (a b : List ℕ) → ended_in s (a ++ b) ≡ ended_in s a ++ ended_in (after_bytes s a) b
ended-append s [] b = refl
ended-append s (x ∷ a) b =
    ap (λ (l : List Request). ended_by s x ++ l) (ended-append (after_byte s x) a b)
    ∙ sym (append_assoc (ended_by s x) (ended_in (after_byte s x) a) (ended_in (after_bytes (after_byte s x) a) b))

-- bytes lead from one standing to another, and end these requests
pub record Reads (s : Standing) (bytes : List ℕ) (s' : Standing) (requests : List Request) : Type 0 where
  pub after : after_bytes s bytes ≡ s'
  pub ended : ended_in s bytes ≡ requests

pub reads_same : (s : Standing) (bytes : List ℕ) (one other : Standing) (rs qs : List Request) → Reads s bytes one rs
    → one ≡ other → rs ≡ qs → Reads s bytes other qs
reads_same s bytes one other rs qs h e f = record { after = h.after ∙ e; ended = h.ended ∙ f }

reads_cons : (s m s' : Standing) (byte : ℕ) (bytes : List ℕ) (es rs : List Request) → after_byte s byte ≡ m
    → ended_by s byte ≡ es → Reads m bytes s' rs → Reads s (byte ∷ bytes) s' (es ++ rs)
reads_cons s m s' byte bytes es rs e f h = record {
  after = ap (λ (x : Standing). after_bytes x bytes) e ∙ h.after;
  ended = (λ i. f i ++ ended_in (e i) bytes) ∙ ap (λ (l : List Request). es ++ l) h.ended;
}

pub reads_then : (s m s' : Standing) (a b : List ℕ) (es rs : List Request) → Reads s a m es → Reads m b s' rs
    → Reads s (a ++ b) s' (es ++ rs)
reads_then s m s' a b es rs first next = record {
  after = after-append s a b ∙ (ap (λ (x : Standing). after_bytes x b) first.after ∙ next.after);
  ended = ended-append s a b
      ∙ ((λ i. first.ended i ++ ended_in (first.after i) b) ∙ ap (λ (l : List Request). es ++ l) next.ended);
}

-- behind a bad place nothing changes
pub stuck : (s : Standing) (bytes : List ℕ) → s.failed ≡ true → Reads s bytes s []
stuck s [] failed = record { after = refl; ended = refl }
stuck s (byte ∷ bytes) failed =
    reads_cons s s s byte bytes [] []
    (cond-true s.failed s (cond (follows s.part byte) (after_good s byte) (failed_at s.taken)) failed)
    (cond-true s.failed [] (cond (follows s.part byte) (ended_good s) []) failed) (stuck s bytes failed)

-- ---- whole requests

abbrev request_of : List ℕ → Request
request_of codes = record { items = record { items = codes } }

-- within a request
abbrev inside : (taken count : ℕ) → List ℕ → Standing
inside taken count codes = record { taken = taken; part = 2 ∷ (count ∷ codes); failed = false }

last_byte : (taken count : ℕ) (done : List ℕ) → length done + 0 ≡ count
    → Reads (inside taken count done) (3 ∷ []) (between (taken + 0 + 1)) (request_of (done ++ []) ∷ [])
last_byte taken count done long =
    let s = inside taken count done in
    let all : (length done == count) ≡ true = eq-eqb (length done) count (omega (arith, long)) in
    let fits : follows s.part 3 ≡ true = cond-true (length done == count) (3 == 3)
    (nat_lt (last_code done) 3 && nat_le (3 + count) (length done + (item_count + 1))) all in
    let next : taken + 1 ≡ taken + 0 + 1 = omega arith in
    record {
      after = whole_byte s 3 refl fits all ∙ ap between next;
      ended = append-nil (ended_by s 3)
          ∙ (whole_ended s 3 refl fits all ∙ ap (λ (codes : List ℕ). request_of codes ∷ []) (sym (append-nil done)));
    }

code_fits : (count code : ℕ) (done codes : List ℕ) → length done + length (code ∷ codes) ≡ count
    → Rise (last_from 0 done) (code ∷ codes) → follows (2 ∷ (count ∷ done)) code ≡ true
code_fits count code done codes long rise =
    let left : (length done == count) ≡ false = ne_eqb (length done) count (λ e. omega (arith, e, long)) in
    let low : last_code done < code = omega (arith, last_is done, rise.0) in
    let high : code + count ≤ length done + (item_count + 1) =
    omega (arith, long, rise_few code codes rise.1.1 rise.1.0) in
    cond-false (length done == count) (code == 3)
    (nat_lt (last_code done) code && nat_le (code + count) (length done + (item_count + 1))) left
    ∙ (less (last_code done) code & at_most (code + count) (length done + (item_count + 1))).decides.1 (low, high)

reads_codes : (taken count : ℕ) (done codes : List ℕ) → length done + length codes ≡ count
    → Rise (last_from 0 done) codes
    → Reads (inside taken count done) (codes ++ 3 ∷ []) (between (taken + length codes + 1))
    (request_of (done ++ codes) ∷ [])
reads_codes taken count done [] long rise = last_byte taken count done long
reads_codes taken count done (code ∷ codes) long rise =
    let s = inside taken count done in
    let left : (length done == count) ≡ false = ne_eqb (length done) count (λ e. omega (arith, e, long)) in
    let fits = code_fits count code done codes long rise in
    let more : length (done ++ code ∷ []) + length codes ≡ count =
    omega (arith, long, length-append done (code ∷ [])) in
    let rises : Rise (last_from 0 (done ++ code ∷ [])) codes =
    subst (λ (n : ℕ). Rise n codes) (sym (last_push 0 code done)) rise.1.1 in
    let next : taken + 1 + length codes + 1 ≡ taken + length (code ∷ codes) + 1 = omega arith in
    reads_same s (code ∷ (codes ++ 3 ∷ [])) (between (taken + 1 + length codes + 1))
    (between (taken + length (code ∷ codes) + 1)) (request_of ((done ++ code ∷ []) ++ codes) ∷ [])
    (request_of (done ++ code ∷ codes) ∷ [])
    (reads_cons s (inside (taken + 1) count (done ++ code ∷ [])) (between (taken + 1 + length codes + 1)) code
    (codes ++ 3 ∷ []) [] (request_of ((done ++ code ∷ []) ++ codes) ∷ [])
    (part_byte s code refl fits left) (part_ended s code refl fits left)
    (reads_codes (taken + 1) count (done ++ code ∷ []) codes more rises))
    (ap between next) (ap (λ (xs : List ℕ). request_of xs ∷ []) (append_assoc done (code ∷ []) codes))

reads_request : (taken : ℕ) (request : Request) → IsRequest request
    → Reads (between taken) (request_bytes request) (between (taken + length (request_bytes request))) (request ∷ [])
reads_request taken request good =
    let codes = codes_of request in
    let count = length codes in
    let few : count ≤ item_count = omega (arith, rise_few 0 codes good.rise (omega arith)) in
    let begun : Standing = record { taken = taken + 1; part = 2 ∷ []; failed = false } in
    let fits : follows begun.part count ≡ true =
    (within 1 count item_count).decides.1 (omega (arith, good.some), few) in
    let end : taken + 1 + 1 + count + 1 ≡ taken + length (request_bytes request) =
    omega (arith, length-append codes (3 ∷ [])) in
    let zero_done : length {A = ℕ} [] + length codes ≡ count = omega arith in
    reads_same (between taken) (request_bytes request) (between (taken + 1 + 1 + count + 1))
    (between (taken + length (request_bytes request))) (request ∷ []) (request ∷ [])
    (reads_cons (between taken) begun (between (taken + 1 + 1 + count + 1)) 2 (count ∷ (codes ++ 3 ∷ [])) []
    (request ∷ []) refl refl
    (reads_cons begun (inside (taken + 1 + 1) count []) (between (taken + 1 + 1 + count + 1)) count (codes ++ 3 ∷ []) []
    (request ∷ [])
    (part_byte begun count refl fits refl) (part_ended begun count refl fits refl)
    (reads_codes (taken + 1 + 1) count [] codes zero_done good.rise)))
    (ap between end) refl

pub reads_stream : (taken : ℕ) (requests : List Request) → All IsRequest requests
    → Reads (between taken) (stream_bytes requests) (between (taken + length (stream_bytes requests))) requests
reads_stream taken [] good =
    let same : taken ≡ taken + 0 = omega arith in
    record { after = ap between same; ended = refl }
reads_stream taken (request ∷ requests) good =
    let one = request_bytes request in
    let end : taken + length one + length (stream_bytes requests) ≡ taken + length (one ++ stream_bytes requests) =
    omega (arith, length-append one (stream_bytes requests)) in
    reads_same (between taken) (one ++ stream_bytes requests)
    (between (taken + length one + length (stream_bytes requests)))
    (between (taken + length (one ++ stream_bytes requests))) (request ∷ requests) (request ∷ requests)
    (reads_then (between taken) (between (taken + length one))
    (between (taken + length one + length (stream_bytes requests))) one (stream_bytes requests) (request ∷ []) requests
    (reads_request taken request (All-head IsRequest request requests good))
    (reads_stream (taken + length one) requests (All-tail IsRequest request requests good)))
    (ap between end) refl

-- ---- where a port stands

-- it has taken these bytes, of which these are the whole requests, and no bad place came
pub record Stands (s : Standing) (bytes : List ℕ) (requests : List Request) : Type 0 where
  pub going : s.failed ≡ false
  pub count : s.taken ≡ length bytes
  pub bytes_are : bytes ≡ stream_bytes requests ++ s.part
  pub shaped : Shaped s.part
  pub good : All IsRequest requests

stands_at : (one other : Standing) (bytes : List ℕ) (rs qs : List Request) → one ≡ other → rs ≡ qs
    → Stands other bytes qs → Stands one bytes rs
stands_at one other bytes rs qs e f h =
    subst (λ (s : Standing). Stands s bytes rs) (sym e) (subst (λ (xs : List Request). Stands other bytes xs) (sym f) h)

pub stream_push : (requests : List Request) (request : Request)
    → stream_bytes (requests ++ request ∷ []) ≡ stream_bytes requests ++ request_bytes request
stream_push requests request =
    flat_map-append request_bytes requests (request ∷ [])
    ∙ ap (λ (l : List ℕ). stream_bytes requests ++ l) (append-nil (request_bytes request))

stands_more : (s : Standing) (byte : ℕ) (bytes : List ℕ) (requests : List Request) → Stands s bytes requests
    → follows s.part byte ≡ true → Stands (after_byte s byte) (bytes ++ byte ∷ []) (requests ++ ended_by s byte)
stands_more s byte bytes requests h fits = either (step s.part byte h.shaped fits)
  where
    counted : s.taken + 1 ≡ length (bytes ++ byte ∷ [])
    counted = omega (arith, h.count, length-append bytes (byte ∷ []))

    longer : bytes ++ byte ∷ [] ≡ stream_bytes requests ++ (s.part ++ byte ∷ [])
    longer = ap (λ (l : List ℕ). l ++ byte ∷ []) h.bytes_are ∙ append_assoc (stream_bytes requests) s.part (byte ∷ [])

    either : Ends s.part byte ⊎ Grows s.part byte
        → Stands (after_byte s byte) (bytes ++ byte ∷ []) (requests ++ ended_by s byte)
    either (inl ends) =
        let request = request_in s.part in
        stands_at (after_byte s byte) (between (s.taken + 1)) (bytes ++ byte ∷ []) (requests ++ ended_by s byte)
        (requests ++ request ∷ [])
        (whole_byte s byte h.going fits ends.all)
        (ap (λ (l : List Request). requests ++ l) (whole_ended s byte h.going fits ends.all))
        (record {
          going = refl;
          count = counted;
          bytes_are = longer ∙ (ap (λ (l : List ℕ). stream_bytes requests ++ l) ends.bytes_are
              ∙ (sym (stream_push requests request) ∙ sym (append-nil (stream_bytes (requests ++ request ∷ [])))));
          shaped = nothing;
          good = All-push IsRequest requests request h.good ends.good;
        })
    either (inr grows) =
        stands_at (after_byte s byte) (grown s byte) (bytes ++ byte ∷ []) (requests ++ ended_by s byte) requests
        (part_byte s byte h.going fits grows.open_still) (ap (λ (l : List Request). requests ++ l)
        (part_ended s byte h.going fits grows.open_still) ∙ append-nil requests)
        (record { going = refl; count = counted; bytes_are = longer; shaped = grows.shaped; good = h.good })

-- a bad place comes among further bytes
pub record FailsIn (s : Standing) (bytes more : List ℕ) (requests : List Request) : Type 0 where
  pub place : ℕ
  pub within : place < length more
  pub stands : Stands (after_bytes s (take place more)) (bytes ++ take place more)
      (requests ++ ended_in s (take place more))
  pub fails : after_bytes s (take (suc place) more) ≡ failed_at (length bytes + place)
  pub same : after_bytes s more ≡ failed_at (length bytes + place)
  pub ended : ended_in s more ≡ ended_in s (take place more)

abbrev pub Runs : Standing → List ℕ → List ℕ → List Request → Type 0
Runs s bytes more requests =
    Stands (after_bytes s more) (bytes ++ more) (requests ++ ended_in s more) ⊎ FailsIn s bytes more requests

same_stands : (s : Standing) (one other : List ℕ) (rs qs : List Request) → one ≡ other → rs ≡ qs → Stands s one rs
    → Stands s other qs
same_stands s one other rs qs e f h =
    subst (λ (b : List ℕ). Stands s b qs) e (subst (λ (xs : List Request). Stands s one xs) f h)

longer_stands : (s : Standing) (byte : ℕ) (bytes more : List ℕ) (requests : List Request)
    → Stands (after_bytes (after_byte s byte) more) ((bytes ++ byte ∷ []) ++ more)
    ((requests ++ ended_by s byte) ++ ended_in (after_byte s byte) more)
    → Stands (after_bytes (after_byte s byte) more) (bytes ++ byte ∷ more)
    (requests ++ (ended_by s byte ++ ended_in (after_byte s byte) more))
longer_stands s byte bytes more requests h =
    same_stands (after_bytes (after_byte s byte) more) ((bytes ++ byte ∷ []) ++ more) (bytes ++ byte ∷ more)
    ((requests ++ ended_by s byte) ++ ended_in (after_byte s byte) more)
    (requests ++ (ended_by s byte ++ ended_in (after_byte s byte) more)) (append_assoc bytes (byte ∷ []) more)
    (append_assoc requests (ended_by s byte) (ended_in (after_byte s byte) more)) h

runs_good : (s : Standing) (byte : ℕ) (bytes more : List ℕ) (requests : List Request) → Runs (after_byte s byte)
    (bytes ++ byte ∷ []) more (requests ++ ended_by s byte) → Runs s bytes (byte ∷ more) requests
runs_good s byte bytes more requests (inl h) = inl (longer_stands s byte bytes more requests h)
runs_good s byte bytes more requests (inr f) =
    let place : length (bytes ++ byte ∷ []) + f.place ≡ length bytes + suc f.place =
    omega (arith, length-append bytes (byte ∷ [])) in
    inr (record {
      place = suc f.place;
      within = omega (arith, f.within);
      stands = longer_stands s byte bytes (take f.place more) requests f.stands;
      fails = f.fails ∙ ap failed_at place;
      same = f.same ∙ ap failed_at place;
      ended = ap (λ (l : List Request). ended_by s byte ++ l) f.ended;
    })

runs_bad : (s : Standing) (byte : ℕ) (bytes more : List ℕ) (requests : List Request) → Stands s bytes requests
    → follows s.part byte ≡ false → Runs s bytes (byte ∷ more) requests
runs_bad s byte bytes more requests h bad =
    let failed = bad_byte s byte h.going bad in
    let behind = stuck (failed_at s.taken) more refl in
    let place : s.taken ≡ length bytes + 0 = omega (arith, h.count) in
    inr (record {
      place = 0;
      within = omega arith;
      stands = same_stands s bytes (bytes ++ []) requests (requests ++ []) (sym (append-nil bytes))
          (sym (append-nil requests)) h;
      fails = failed ∙ ap failed_at place;
      same = ap (λ (x : Standing). after_bytes x more) failed ∙ (behind.after ∙ ap failed_at place);
      ended = (λ i. bad_ended s byte h.going bad i ++ ended_in (failed i) more) ∙ behind.ended;
    })

runs_byte : (s : Standing) (byte : ℕ) (bytes more : List ℕ) (requests : List Request) → Stands s bytes requests
    → ((t : Standing) (b : List ℕ) (rs : List Request) → Stands t b rs → Runs t b more rs) → (fits : Bool)
    → follows s.part byte ≡ fits → Runs s bytes (byte ∷ more) requests
runs_byte s byte bytes more requests h next true is = runs_good s byte bytes more requests (next (after_byte s byte)
    (bytes ++ byte ∷ []) (requests ++ ended_by s byte) (stands_more s byte bytes requests h is))
runs_byte s byte bytes more requests h next false is = runs_bad s byte bytes more requests h is

pub runs : (more : List ℕ) (s : Standing) (bytes : List ℕ) (requests : List Request) → Stands s bytes requests
    → Runs s bytes more requests
runs [] s bytes requests h = inl
    (same_stands s bytes (bytes ++ []) requests (requests ++ []) (sym (append-nil bytes)) (sym (append-nil requests)) h)
runs (byte ∷ more) s bytes requests h =
    runs_byte s byte bytes more requests h (λ t b rs g. runs more t b rs g) (follows s.part byte) refl
