-- Parts of a drive, written one after another.
use Rattle.std.{specs.Prelude.{replicate}, proofs.lemmas.Grind.{flat_map-append}}
use Rattle.std.proofs.Common.{[], ℕ, ◌*◌, ◌++◌, ◌+◌, ◌∙◌, ◌∷◌, ◌≡◌, ◌≤◌, List, ap, append_assoc, arith, flat_map}
use Rattle.std.proofs.{Common.{length, length-append, refl, sym}, lemmas.List.{append-nil, replicate-append-replicate}}
use Rattle.{drive_text.proofs.Laws.{written_line_is_short}, verify_bench.specs.declared.writing.Writing.{Writing}}
use Rattle.verify_bench.specs.{AddedText.{Adds, lines_events, place_of}, Generated.{lines_text, next_state, nothing}}
use Rattle.verify_bench.specs.Common.{Event, IsInRange, Many, One, Run, event_text, run_events}
use Rattle.verify_bench.specs.Generated.{Place, Written, and_then, drawn, in_turn, intervals, line, line_text}
use Rattle.verify_bench.proofs.Lines.{event_line, intervals_are_short, intervals_line}

-- the texts and the events of lines behind others
pub lines_text-append : (first others : List Run) → lines_text (first ++ others) ≡ lines_text first ++ lines_text others
lines_text-append first others = flat_map-append line_text first others

pub lines_events-append : (first others : List Run)
    → lines_events (first ++ others) ≡ lines_events first + lines_events others
lines_events-append first others = ap length (flat_map-append run_events first others)
    ∙ length-append (flat_map run_events first) (flat_map run_events others)

-- nothing was written
pub adds_nothing : (writing : Writing) → Adds writing writing 0 0 0 (nothing (place_of writing))
adds_nothing writing = record {
  place = refl;
  text = sym (append-nil writing.text.items);
  counted = omega arith;
  few_bytes = omega arith;
  few_tenths = omega arith;
  few_events = omega arith;
}

-- no part was written yet
pub adds_none : (writing : Writing) → Adds writing writing 0 0 0 (in_turn [] (place_of writing))
unfolding in_turn
adds_none writing = adds_nothing writing

-- what is written behind a part
pub adds_then : (old mid new : Writing) (b t e b' t' e' : ℕ) (first : Written) (more : Place → Written)
    → Adds old mid b t e first → Adds mid new b' t' e' (more (place_of mid))
    → Adds old new (b + b') (t + t') (e + e') (and_then first more)
adds_then old mid new b t e b' t' e' first more one other =
    let next : place_of mid ≡ first.next = one.place in
    let place : place_of new ≡ (more first.next).next = rw next at other.place in
    let text : new.text.items ≡ mid.text.items ++ lines_text (more first.next).lines = rw next at other.text in
    let counted : new.events ≡ mid.events + lines_events (more first.next).lines = rw next at other.counted in
    record {
      place = place;
      text = rw (text, one.text, append_assoc, lines_text-append first.lines (more first.next).lines) refl;
      counted = omega (arith, counted, one.counted, lines_events-append first.lines (more first.next).lines);
      few_bytes = omega (arith, one.few_bytes, other.few_bytes);
      few_tenths = omega (arith, one.few_tenths, other.few_tenths);
      few_events = omega (arith, one.few_events, other.few_events);
    }

-- a part more is written last
in_turn-snoc : (parts : List (Place → Written)) (part : Place → Written) (place : Place)
    → in_turn (parts ++ part ∷ []) place ≡ and_then (in_turn parts place) part
unfolding in_turn
in_turn-snoc [] part place = rw (append-nil (part place).lines) refl
in_turn-snoc (first ∷ parts) part place =
    let next = (first place).next in
    rw (
      in_turn-snoc parts part next,
      append_assoc (first place).lines (in_turn parts next).lines (part (in_turn parts next).next).lines,
    ) refl

pub adds_more : (old mid new : Writing) (b t e b' t' e' : ℕ) (parts : List (Place → Written)) (part : Place → Written)
    → Adds old mid b t e (in_turn parts (place_of old)) → Adds mid new b' t' e' (part (place_of mid))
    → Adds old new (b + b') (t + t') (e + e') (in_turn (parts ++ part ∷ []) (place_of old))
adds_more old mid new b t e b' t' e' parts part one other =
    rw (in_turn-snoc parts part (place_of old))
    (adds_then old mid new b t e b' t' e' (in_turn parts (place_of old)) part one other)

-- a part is one part
pub adds_first : (old new : Writing) (b t e : ℕ) (part : Place → Written) → Adds old new b t e (part (place_of old))
    → Adds old new b t e (in_turn (part ∷ []) (place_of old))
adds_first old new b t e part one =
    let both = adds_more old old new 0 0 0 b t e [] part (adds_none old) one in
    record {
      place = both.place;
      text = both.text;
      counted = both.counted;
      few_bytes = one.few_bytes;
      few_tenths = one.few_tenths;
      few_events = one.few_events;
    }

-- greater bounds hold too
pub adds_within : (old new : Writing) (b t e b' t' e' : ℕ) (written : Written) → b ≤ b' → t ≤ t' → e ≤ e'
    → Adds old new b t e written → Adds old new b' t' e' written
adds_within old new b t e b' t' e' written bytes tenths events one = record {
  place = one.place;
  text = one.text;
  counted = one.counted;
  few_bytes = omega (arith, one.few_bytes);
  few_tenths = omega (arith, one.few_tenths);
  few_events = omega (arith, one.few_events);
}

-- what is written from a later place on, if nothing was written before
pub adds_moved : (old mid new : Writing) (moved b t e : ℕ) (written : Written) → mid.text ≡ old.text
    → mid.events ≡ old.events → mid.tenths ≤ old.tenths + moved → Adds mid new b t e written
    → Adds old new b (moved + t) e written
adds_moved old mid new moved b t e written text events tenths one = record {
  place = one.place;
  text = rw text at one.text;
  counted = rw events at one.counted;
  few_bytes = rw text at one.few_bytes;
  few_tenths = omega (arith, one.few_tenths);
  few_events = rw events at one.few_events;
}

-- after a draw the generator stands at the next state
pub drawn_place : (old mid : Writing) → mid ≡ record old { state = next_state old.state }
    → place_of mid ≡ drawn (place_of old)
drawn_place old mid same = rw same refl

-- what is written after a draw
pub adds_drawn : (old mid new : Writing) (b t e : ℕ) (part : Place → Written)
    → mid ≡ record old { state = next_state old.state } → Adds mid new b t e (part (place_of mid))
    → Adds old new b t e (part (drawn (place_of old)))
adds_drawn old mid new b t e part same one =
    let tenths : mid.tenths ≡ old.tenths = rw same refl in
    let moved = adds_moved old mid new 0 b t e (part (place_of mid)) (rw same refl) (rw same refl) (omega arith) one in
    rw (drawn_place old mid same) at
    (adds_within old new b (0 + t) e b t e (part (place_of mid)) (omega arith) (omega arith) (omega arith) moved)

-- one element more of the same
pub replicate-snoc : {A : Type 0} (count : ℕ) (element : A)
    → replicate (count + 1) element ≡ replicate count element ++ element ∷ []
replicate-snoc count element = sym (replicate-append-replicate count 1 element)

-- the line of an event was written
pub adds_event : (old new : Writing) (event : Event) → IsInRange event → new.state ≡ old.state → new.tenths ≡ old.tenths
    → new.events ≡ old.events + 1
    → new.text.items ≡ old.text.items ++ event_text event → Adds old new 13 0 1 (line (One event) (place_of old))
adds_event old new event range state tenths events text = record {
  place = rw (state, tenths) refl;
  text = rw (event_line event) text;
  counted = events;
  few_bytes =
      omega (arith, ap length text, length-append old.text.items (event_text event), written_line_is_short event range);
  few_tenths = omega arith;
  few_events = omega arith;
}

-- the line of intervals was written
pub adds_intervals : (old new : Writing) (pulses count : ℕ) → pulses ≤ 16 → count ≤ 1049 → new.state ≡ old.state
    → new.tenths ≡ old.tenths + count
    → new.events ≡ old.events + lines_events (Many pulses count ∷ [])
    → lines_events (Many pulses count ∷ []) ≤ 2 * count
    → new.text.items ≡ old.text.items ++ line_text (Many pulses count)
    → Adds old new 10 count (2 * count) (intervals pulses count (place_of old))
adds_intervals old new pulses count slow few state tenths events most text = record {
  place = rw (state, tenths) refl;
  text = rw (intervals_line pulses count) text;
  counted = events;
  few_bytes = omega (
    arith,
    ap length text,
    length-append old.text.items (line_text (Many pulses count)),
    intervals_are_short pulses count slow few,
  );
  few_tenths = omega arith;
  few_events = omega arith;
}
