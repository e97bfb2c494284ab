-- The replies to requests over a sealed store, and what is left of the store.
use Rattle.std.proofs.Common.{[], ℕ, ◌++◌, ◌∙◌, ◌≡◌, Err, List, Ok, Result, ap, inl, inr, refl, subst, sym}
use Rattle.{std.proofs.lemmas.List.{append-nil}, data_port.specs.ServedStream.{requests_of, stream_end}}
use Rattle.data_port.specs.{Reading.{requests_in}, declared.serving.PortFault.{PortFault}}
use Rattle.data_port.specs.ServedStream.{BadAt, Endless, Serves, ServesTo, ShowsEnd, StreamEnd, Whole, replies}
use Rattle.{call_ends.specs.Course.{BoardFailed, ReadFailed}, store_commands.specs.Common.{status_of}}
use Rattle.store_commands.specs.Common.{Answer, Answered, Begins, Durable, Ended, EndsByCourse, Seal, line_of}
use Rattle.store_commands.{specs.Opening.{opening_in, store_of}, proofs.StoreTexts.{LooksAtSealed}}
use Rattle.store_commands.specs.Port.{port_answer, port_command, replies_over, requests_answer}
use Rattle.store_commands.specs.StoreEnds.{ended_serving}
use Rattle.data_port.specs.declared.serving.PortFault.TheVariants as faults
use Rattle.call_ends.specs.declared.ending.Ended.TheVariants as ended

pub ports_look : LooksAtSealed port_command (λ contents store. port_answer store (contents 1))
ports_look = record {
  opens = tt;
  unwritten = λ status none. none;
  answers = λ contents image. refl;
  refuses = λ contents why. refl;
  untouched = λ contents. record { bytes = refl };
  all = λ status zero. zero;
  told = λ files_tell image_told told. told.1;
}

-- the status of requests that end so
status_end : (shown : List ℕ) (reached : StreamEnd) → (requests_answer shown reached).status ≡ 0 → reached ≡ Whole
status_end shown Whole is = refl
status_end shown (BadAt place) is = absurd cc
status_end shown Endless is = absurd cc

-- a stream that was served whole has nothing left
left_whole : (stream taken left : List ℕ) → ShowsEnd (stream_end stream) taken left
    → stream_end stream ≡ Whole → left ≡ []
left_whole stream taken left shows e = subst (λ (reached : StreamEnd). ShowsEnd reached taken left) e shows

module _ (contents left : ℕ → List ℕ) (image : List ℕ) (read_failed : ℕ → Type 0) (failed told : Type 0)
    (before now : List ℕ)
    (durable : Durable) (seal : Seal) (store : store_of (opening_in image) ≡ Ok (durable, seal)) where
  abbrev Here : Ended → Type 0
  Here end = EndsByCourse port_command contents left image read_failed failed (λ text. told → now ≡ before ++ text)
      (λ text. told → Begins before now text) end

  abbrev Shown : List ℕ
  Shown = replies durable seal (requests_of (contents 1))

  answer_is : port_answer (store_of (opening_in image)) (contents 1) ≡ requests_answer Shown (stream_end (contents 1))
  answer_is = ap (λ (r : Result (Durable × Seal) Ended). port_answer r (contents 1)) store

  shown_is : (taken : List ℕ)
      → replies_over (store_of (opening_in image)) taken ≡ replies durable seal (requests_in taken)
  shown_is taken = ap (λ (r : Result (Durable × Seal) Ended). replies_over r taken) store

  -- the requests were served to their end
  to_end : (end : Ended) (reached : StreamEnd) → ServesTo told durable seal (contents 1) (left 1) before now reached
      → (requests_answer Shown reached).status ≡ status_of end → (requests_answer Shown reached).line ≡ line_of end
      → (requests_answer Shown reached).shown ≡ Shown → Here end
  to_end end reached h status line shown =
      let e = answer_is ∙ ap (requests_answer Shown) h.ends.ends.end_is in
      let status_at : (port_answer (store_of (opening_in image)) (contents 1)).status
      ≡ (requests_answer Shown reached).status =
      ap (λ (a : Answer). a.status) e in
      record {
        course = Answered;
        may = record {
          whole = λ zero word reads. ap left reads ∙ left_whole (contents 1) h.taken (left 1) h.ends.ends.shows
              (h.ends.ends.end_is ∙ status_end Shown reached (sym status_at ∙ zero));
          bad = λ is. record { taken = h.taken; split = h.ends.ends.split; shows = h.ends.ends.shows };
        };
        stands = inl (record {
          status_is = sym (status_at ∙ status);
          line_is = sym (ap (λ (a : Answer). a.line) e ∙ line);
          shown = λ tells. h.printed tells
              ∙ ap (λ (x : List ℕ). before ++ x) (sym (ap (λ (a : Answer). a.shown) e ∙ shown));
        });
      }

  -- by how the serving ended
  pub course-served : (served : Result (Unit {0}) PortFault)
      → Serves told durable seal (contents 1) (left 1) before now served
      → (served ≡ Err faults.ReadFault → read_failed 1) → (served ≡ Err faults.BoardFault → failed)
      → Here (ended_serving served)
  course-served (Ok u) h read_cause board_cause = to_end ended.Done Whole h refl refl refl
  course-served (Err (faults.Frame place)) h read_cause board_cause =
      to_end (ended.BadFrame place) (BadAt place) h refl refl refl
  course-served (Err faults.TooLong) h read_cause board_cause = to_end ended.EndlessRequests Endless h refl refl refl
  course-served (Err faults.ReadFault) h read_cause board_cause = record {
    course = ReadFailed 1 h.taken;
    may = record {
      reads = refl;
      comes = (refl, record { sealed = record { store = (durable, seal); is = store }; going = h.stands });
      failed = read_cause refl;
      takes = h.split;
    };
    stands = inl (record {
      status_is = refl;
      line_is = refl;
      shown = λ tells. h.printed tells ∙ ap (λ (x : List ℕ). before ++ x) (sym (shown_is h.taken));
    });
  }
  course-served (Err faults.BoardFault) h read_cause board_cause = record {
    course = BoardFailed h.taken;
    may = record { failed = board_cause refl; takes = h.split };
    stands = inr (record {
      ended_is = refl;
      failed = board_cause refl;
      started = λ tells. subst (λ (x : List ℕ). Begins before now x)
          (sym (ap (λ (x : List ℕ). x ++ []) (shown_is h.taken)
          ∙ append-nil (replies durable seal (requests_in h.taken)))) (h.printed tells);
    });
  }

-- the same of serving that ended so
pub read_fault-served : (served : Result (Unit {0}) PortFault) → ended_serving served ≡ ended.ReadFault
    → served ≡ Err faults.ReadFault
read_fault-served (Ok u) e = absurd cc
read_fault-served (Err faults.ReadFault) e = refl
read_fault-served (Err faults.BoardFault) e = absurd cc
read_fault-served (Err (faults.Frame place)) e = absurd cc
read_fault-served (Err faults.TooLong) e = absurd cc

pub board_fault-served : (served : Result (Unit {0}) PortFault) → ended_serving served ≡ ended.BoardFault
    → served ≡ Err faults.BoardFault
board_fault-served (Ok u) e = absurd cc
board_fault-served (Err faults.ReadFault) e = absurd cc
board_fault-served (Err faults.BoardFault) e = refl
board_fault-served (Err (faults.Frame place)) e = absurd cc
board_fault-served (Err faults.TooLong) e = absurd cc
