-- What a part of a piece, and then a piece, changes of a reader.
use Rattle.std.proofs.Common.{[], ℕ, ◌++◌, ◌+◌, ◌-◌, ◌<◌, ◌∙◌, ◌∷◌, ◌≡◌, ◌≢◌, ◌≤◌, ◌⊎◌, All, Err, IsOk, List}
use Rattle.std.proofs.Common.{MatchOption, None, Option, Result, Some, ap, append_assoc, arith, drop, false, inl, inr}
use Rattle.std.proofs.{Common.{length, length-append, refl, subst, suc, sym, take, true, zero}, lemmas.Bool.{cases_lt}}
use Rattle.{std.proofs.Math.Seq.{drop-append_seam, take-append_seam}, drive_text.specs.Part.{FailsIn, TakesPart}}
use Rattle.std.proofs.lemmas.List.{append-nil, take-append-le, Elements.{All-append, All-nil, All-take}}
use Rattle.drive_text.specs.{Drive.{first_bad, runs_after, runs_in}, Ranges.{IsRunInRange}, declared.run.Run.{Run}}
use Rattle.drive_text.{specs.Fields.{line_runs}, proofs.Parts.{no_runs}}
use Rattle.drive_text.specs.{Lines.{IsOneLine, is_too_long}, Reading.{BreaksIn, HasFailed, HasTaken, Reading, TakesTo}}
use Rattle.drive_text.proofs.{Cuts.{runs_in-append_bad}, ReaderPlaces.{line_number_of, line_too_long, number_small}}
use Rattle.drive_text.proofs.ReaderPlaces.{bad_gives_none, failed_at, failed_stays, goes_on, line_is_bad}

-- ---- a part

quiet_line : (b l : List ℕ) (count : ℕ) → IsOneLine l → count < length (l ++ 10 ∷ [])
    → runs_in (b ++ take count (l ++ 10 ∷ [])) ≡ runs_in b
quiet_line b l count one few =
    let short : count ≤ length l = omega (arith, length-append l (10 ∷ [])) in
    ap (λ (x : List ℕ). runs_in (b ++ x)) (take-append-le count l (10 ∷ []) short)
    ∙ no_runs b (take count l) (All-take (λ c. c ≢ 10) count l one)

-- a line with its LF
pub takes_line : (old new : Reading) (l : List ℕ) (before after rs : List Run) → IsOneLine l → after ≡ before ++ rs
    → All IsRunInRange rs → new.failed ≡ false → new.begun ≤ old.begun + 1
    → ((b : List ℕ) → HasTaken old b → HasTaken new (b ++ (l ++ 10 ∷ [])))
    → ((b : List ℕ) → HasTaken old b → runs_in (b ++ (l ++ 10 ∷ [])) ≡ runs_in b ++ rs)
    → TakesPart old new (l ++ 10 ∷ []) [] before after
takes_line old new l before after rs one added range going counted reader read = record {
  part = l ++ 10 ∷ [];
  split = sym (append-nil (l ++ 10 ∷ []));
  some = omega (arith, length-append l (10 ∷ []));
  going = going;
  counted = counted;
  reader = reader;
  runs = rs;
  added = added;
  in_range = range;
  read = read;
  quiet = λ b count few. quiet_line b l count one few;
}

-- bytes of a line
pub takes_bytes : (old new : Reading) (p : List ℕ) → IsOneLine p → 0 < length p → new.failed ≡ false
    → new.begun ≤ old.begun + 1
    → ((b : List ℕ) → HasTaken old b → HasTaken new (b ++ p)) → (runs : List Run) → TakesPart old new p [] runs runs
takes_bytes old new p one some going counted reader runs = record {
  part = p;
  split = sym (append-nil p);
  some = some;
  going = going;
  counted = counted;
  reader = reader;
  runs = [];
  added = sym (append-nil runs);
  in_range = All-nil IsRunInRange;
  read = λ b h. no_runs b p one ∙ sym (append-nil (runs_in b));
  quiet = λ b count few. no_runs b (take count p) (All-take (λ c. c ≢ 10) count p one);
}

-- if a line is bad
pub fails_line : (old new : Reading) (l : List ℕ) (number line : ℕ) → IsOneLine l → line_runs (old.kept ++ l) ≡ None
    → old.failed ≡ false → old.comment ≡ false → number ≡ line_number_of old → line ≡ number → HasFailed new number
    → FailsIn old new (l ++ 10 ∷ []) line
fails_line old new l number line one bad going plain is same failed = record {
  failed = failed.failed;
  number = failed.begun ∙ sym same;
  counted = omega (arith, failed.begun, is, number_small old);
  reader = λ b h. line_is_bad old new b l one going plain bad (subst (HasFailed new) is failed) h;
  read = λ b h. bad_gives_none old b l one going plain bad h;
}

-- or too long
pub fails_bytes : (old new : Reading) (p : List ℕ) (number line : ℕ) → IsOneLine p → is_too_long (old.kept ++ p) ≡ true
    → old.failed ≡ false → old.comment ≡ false → number ≡ line_number_of old → line ≡ number → HasFailed new number
    → FailsIn old new p line
fails_bytes old new p number line one long going plain is same failed = record {
  failed = failed.failed;
  number = failed.begun ∙ sym same;
  counted = omega (arith, failed.begun, is, number_small old);
  reader = λ b h. line_too_long old new b p one long going plain (subst (HasFailed new) is failed) h;
  read = λ b h. no_runs b p one;
}

-- a text that finds no room
pub refused_many : {T E : Type 0} (r : Result T E) (e : E) (n : ℕ) → r ≡ Err e → (n ≤ 81 → IsOk r) → 81 < n
refused_many r e n is fits = either (cases_lt 81 n)
  where
    either : (81 < n) ⊎ (n ≤ 81) → 81 < n
    either (inl many) = many
    either (inr few) = let ok : IsOk r = fits few in absurd (cc)

-- a piece that was parted at an LF
pub split_of : {R : Type 0} (now : R → List ℕ) (piece line : List ℕ) (found : Option R) (rest : R) → found ≡ Some rest
    → MatchOption found (piece ≡ line) (λ r. piece ≡ line ++ 10 ∷ now r) → piece ≡ line ++ 10 ∷ now rest
split_of now piece line (Some r) rest is h = h ∙ ap (λ (x : List ℕ). line ++ 10 ∷ x) (ap now (cc))
split_of now piece line None rest is h = absurd (cc)

pub fails_before : (old new : Reading) (part piece rest : List ℕ) (line : ℕ) → piece ≡ part ++ rest
    → FailsIn old new part line → FailsIn old new piece line
fails_before old new part piece rest line is h = record {
  failed = h.failed;
  number = h.number;
  counted = h.counted;
  reader = λ b t. subst (HasTaken new) (sym (whole b)) (failed_stays new (b ++ part) rest (h.reader b t) h.failed);
  read = λ b t. ap runs_in (whole b) ∙ (runs_in-append_bad (b ++ part) rest new.begun
      (failed_at new (b ++ part) (h.reader b t) h.failed) ∙ h.read b t);
}
  where
    whole : (b : List ℕ) → b ++ piece ≡ (b ++ part) ++ rest
    whole b = ap (λ (x : List ℕ). b ++ x) is ∙ sym (append_assoc b part rest)

-- what is left of a piece behind a part is shorter
pub shorter : {old new : Reading} {piece rest : List ℕ} {before after : List Run}
    → TakesPart old new piece rest before after → length rest < length piece
shorter {old} {new} {piece} {rest} t = omega (arith, t.some, ap length t.split, length-append t.part rest)

-- ---- a piece

-- the reader has taken the front of a piece
pub record Feeds (first now : Reading) (piece rest : List ℕ) (old new : List Run) : Type 0 where
  pub done : List ℕ
  pub split : piece ≡ done ++ rest
  pub going : now.failed ≡ false
  pub counted : now.begun + length rest ≤ first.begun + length piece
  pub reader : (b : List ℕ) → HasTaken first b → HasTaken now (b ++ done)
  pub runs : List Run
  pub added : new ≡ old ++ runs
  pub in_range : All IsRunInRange runs
  pub read : (b : List ℕ) → HasTaken first b → runs_in (b ++ done) ≡ runs_in b ++ runs
  pub none_yet : length done ≡ 0 → new ≡ old
  pub not_before : (b : List ℕ) (sooner : ℕ) → HasTaken first b → sooner < length done
      → length (old ++ runs_after b (take sooner done)) < 64

-- nothing of it
pub feeds_none : (r : Reading) (piece : List ℕ) (old : List Run) → r.failed ≡ false → Feeds r r piece piece old old
feeds_none r piece old going = record {
  done = [];
  split = refl;
  going = going;
  counted = omega arith;
  reader = λ b h. subst (HasTaken r) (sym (append-nil b)) h;
  runs = [];
  added = sym (append-nil old);
  in_range = All-nil IsRunInRange;
  read = λ b h. ap runs_in (append-nil b) ∙ sym (append-nil (runs_in b));
  none_yet = λ none. refl;
  not_before = λ b sooner h few. absurd (omega arith);
}

added_runs : (b c : List ℕ) (rs : List Run) → runs_in (b ++ c) ≡ runs_in b ++ rs → runs_after b c ≡ rs
added_runs b c rs e = ap (drop (length (runs_in b))) e ∙ drop-append_seam (runs_in b) rs

take_past : (n : ℕ) (xs ys : List ℕ) → length xs ≤ n → take n (xs ++ ys) ≡ xs ++ take (n - length xs) ys
take_past n [] ys h = ap (λ (k : ℕ). take k ys) (omega arith)
take_past zero (x ∷ xs) ys h = absurd (omega arith)
take_past (suc n) (x ∷ xs) ys h =
    let less : suc n - length (x ∷ xs) ≡ n - length xs = omega arith in
    ap (λ (zs : List ℕ). x ∷ zs) (take_past n xs ys (omega arith) ∙ ap (λ (k : ℕ). xs ++ take k ys) (sym less))

module _ {first now : Reading} {piece rest : List ℕ} {old mid : List Run} (f : Feeds first now piece rest old mid) where
  -- with one part more
  pub feeds_more : {after : Reading} {left : List ℕ} {new : List Run} → length mid < 64
      → TakesPart now after rest left mid new → Feeds first after piece left old new
  feeds_more {after} {left} {new} room t = record {
    done = f.done ++ t.part;
    split = f.split ∙ (ap (λ (x : List ℕ). f.done ++ x) t.split ∙ sym (append_assoc f.done t.part left));
    going = t.going;
    counted = omega (arith, f.counted, t.counted, t.some, ap length t.split, length-append t.part left);
    reader = λ b h. subst (HasTaken after) (append_assoc b f.done t.part) (t.reader (b ++ f.done) (f.reader b h));
    runs = f.runs ++ t.runs;
    added = t.added ∙ (ap (λ (x : List Run). x ++ t.runs) f.added ∙ append_assoc old f.runs t.runs);
    in_range = All-append IsRunInRange f.runs t.runs f.in_range t.in_range;
    read = λ b h. sym (ap runs_in (append_assoc b f.done t.part)) ∙ (t.read (b ++ f.done) (f.reader b h)
        ∙ (ap (λ (x : List Run). x ++ t.runs) (f.read b h) ∙ append_assoc (runs_in b) f.runs t.runs));
    none_yet = λ none. absurd (omega (arith, none, t.some, length-append f.done t.part));
    not_before = λ b sooner h few. either b sooner h few (cases_lt sooner (length f.done));
  }
    where
      inside : (b : List ℕ) (sooner : ℕ) → HasTaken first b → length f.done ≤ sooner
          → sooner < length (f.done ++ t.part) → length (old ++ runs_after b (take sooner (f.done ++ t.part))) < 64
      inside b sooner h much few =
          let count = sooner - length f.done in
          let front : take sooner (f.done ++ t.part) ≡ f.done ++ take count t.part =
          take_past sooner f.done t.part much in
          let same : runs_in (b ++ (f.done ++ take count t.part)) ≡ runs_in b ++ f.runs =
          ap runs_in (sym (append_assoc b f.done (take count t.part)))
          ∙ (t.quiet (b ++ f.done) count (omega (arith, length-append f.done t.part)) ∙ f.read b h) in
          let runs : runs_after b (take sooner (f.done ++ t.part)) ≡ f.runs =
          ap (runs_after b) front ∙ added_runs b (f.done ++ take count t.part) f.runs same in
          rw (runs, ← f.added) room

      either : (b : List ℕ) (sooner : ℕ) → HasTaken first b → sooner < length (f.done ++ t.part)
          → (sooner < length f.done) ⊎ (length f.done ≤ sooner)
          → length (old ++ runs_after b (take sooner (f.done ++ t.part))) < 64
      either b sooner h few (inl less) =
          rw (take-append-le sooner f.done t.part (omega arith)) (f.not_before b sooner h less)
      either b sooner h few (inr much) = inside b sooner h much few

  front_of : (place : ℕ) → place + length rest ≡ length piece → take place piece ≡ f.done
  front_of place count =
      let is : place ≡ length f.done = omega (arith, ap length f.split, length-append f.done rest, count) in
      ap (take place) f.split ∙ (ap (λ (n : ℕ). take n (f.done ++ rest)) is ∙ take-append_seam f.done rest)

  -- up to where it stopped
  pub takes_to : (place : ℕ) → place + length rest ≡ length piece → (length rest ≡ 0) ⊎ (length mid ≡ 64)
      → (b : List ℕ) → HasTaken first b → TakesTo b piece old mid place
  takes_to place count ends b h =
      let front = front_of place count in
      record {
        within = omega arith;
        good = ap (λ (x : List ℕ). first_bad (b ++ x)) front ∙ goes_on now (b ++ f.done) (f.reader b h) f.going;
        runs = f.added
            ∙ ap (λ (x : List Run). old ++ x) (sym (ap (runs_after b) front ∙ added_runs b f.done f.runs (f.read b h)));
        ends = last ends;
        not_before = λ sooner less.
            let few : sooner < length f.done =
            omega (arith, ap length f.split, length-append f.done rest, count) in
            let front_is : take sooner piece ≡ take sooner f.done =
            ap (take sooner) f.split ∙ take-append-le sooner f.done rest (omega arith) in
            rw front_is (f.not_before b sooner h few);
      }
    where
      last : (length rest ≡ 0) ⊎ (length mid ≡ 64) → (place ≡ length piece) ⊎ (length mid ≡ 64)
      last (inl none) = inl (omega arith)
      last (inr full) = inr full

  pub feeds_reader : (place : ℕ) → place + length rest ≡ length piece → (b : List ℕ) → HasTaken first b
      → HasTaken now (b ++ take place piece)
  feeds_reader place count b h =
      subst (λ (x : List ℕ). HasTaken now (b ++ x)) (sym (front_of place count)) (f.reader b h)

  -- runs in their ranges stay so
  pub feeds_range : All IsRunInRange old → All IsRunInRange mid
  feeds_range before = subst (All IsRunInRange) (sym f.added) (All-append IsRunInRange old f.runs before f.in_range)

  -- if the list is full and wasn't at first, some of the piece was taken
  pub some_taken : length mid ≡ 64 → length old < 64 → 0 < length piece - length rest
  some_taken full room = either (cases_lt 0 (length piece - length rest))
    where
      either : (0 < length piece - length rest) ⊎ (length piece - length rest ≤ 0) → 0 < length piece - length rest
      either (inl some) = some
      either (inr none) = absurd
          (omega (arith, ap length (f.none_yet (omega (arith, ap length f.split, length-append f.done rest, none)))))

-- or where it failed
module _ {first now after : Reading} {piece rest : List ℕ} {old new : List Run} {line : ℕ}
    (f : Feeds first now piece rest old new) (t : FailsIn now after rest line) where
  whole_piece : (b : List ℕ) → b ++ piece ≡ (b ++ f.done) ++ rest
  whole_piece b = ap (λ (x : List ℕ). b ++ x) f.split ∙ sym (append_assoc b f.done rest)

  pub breaks_reader : (b : List ℕ) → HasTaken first b → HasTaken after (b ++ piece)
  breaks_reader b h = subst (HasTaken after) (sym (whole_piece b)) (t.reader (b ++ f.done) (f.reader b h))

  pub breaks_in : length new < 64 → (b : List ℕ) → HasTaken first b → BreaksIn b piece old new line
  breaks_in room b h = record {
    bad = failed_at after (b ++ piece) (breaks_reader b h) t.failed ∙ ap Some t.number;
    runs = f.added ∙ ap (λ (x : List Run). old ++ x) (sym (added_runs b piece f.runs (ap runs_in (whole_piece b)
        ∙ (t.read (b ++ f.done) (f.reader b h) ∙ f.read b h))));
    room = room;
  }
