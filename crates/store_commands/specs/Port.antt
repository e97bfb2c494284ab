-- Rules: the command `port REQUESTS`.
use Rattle.std.specs.Prelude.{[], ℕ, ◌+◌, ◌≡◌, Err, List, Ok, Result, Some}
use Rattle.data_port.specs.{Reading.{requests_in}, ServedStream.{requests_of, stream_end}}
use Rattle.data_port.specs.ServedStream.{BadAt, Endless, IsBoundedByRequests, IsGoing, StreamEnd, Whole, replies}
use Rattle.call_ends.specs.{LastLine.{bad_frame_line, endless_requests_line}, Stream.{Requests}}
use Rattle.store_commands.specs.Common.{Answer, Command, Durable, Ended, Seal, refused_as, shows}
use Rattle.store_commands.specs.Opening.{IsSealedIn, opening_in, store_of}

-- the answer to requests shows their replies. It has the status 16 and a last line if a byte of the requests is bad or
-- they have no end.
abbrev pub requests_answer : List ℕ → StreamEnd → Answer
requests_answer shown Whole = shows shown
requests_answer shown (BadAt place) = record { status = 16; shown = shown; line = bad_frame_line place }
requests_answer shown Endless = record { status = 16; shown = shown; line = endless_requests_line }

-- the answer to a stream is that of its replies over a sealed store, and else refuses the store
abbrev pub port_answer : Result (Durable × Seal) Ended → (stream : List ℕ) → Answer
port_answer (Err why) stream = refused_as why
port_answer (Ok store) stream = requests_answer (replies store.0 store.1 (requests_of stream)) (stream_end stream)

-- bytes that were taken show the replies to the requests in them if the store is sealed, and else nothing
abbrev pub replies_over : Result (Durable × Seal) Ended → (taken : List ℕ) → List ℕ
replies_over (Err why) taken = []
replies_over (Ok store) taken = replies store.0 store.1 (requests_in taken)

-- requests are being served if the store is sealed, and the bytes that were taken don't tell the requests' end
pub record IsServing (image taken : List ℕ) : Type 0 where
  pub sealed : IsSealedIn image
  pub going : IsGoing taken

-- the command `port` opens the store, and then reads its requests and serves them, in at most 64 steps for the opening
-- and the last line, and one for each request in the bytes that were taken. It takes no memory.
abbrev pub port_command : Command
port_command = record {
  answer = λ contents image. port_answer (store_of (opening_in image)) (contents 1);
  drive = Some (Requests 1);
  shown = λ contents image taken. replies_over (store_of (opening_in image)) taken;
  reads = λ word. word ≡ 1;
  turn = λ word. word;
  reads_all = λ status. status ≡ 0;
  comes_to = λ contents image word taken. (word ≡ 1) × IsServing image taken;
  may_lack = λ contents image taken. ⊥;
  told = λ files_tell image_told. files_tell × image_told;
  opens = Unit {0};
  writes = λ ended. ⊥;
  steps = λ files_tell image_told contents left image before now.
      files_tell → IsBoundedByRequests (contents 1) (left 1) (before + 64) now;
}
