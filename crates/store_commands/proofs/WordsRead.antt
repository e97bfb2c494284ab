-- What a part of a command read of a word, whatever it gives of it.
use Rattle.std.{specs.Prelude.{OnOk}, proofs.Common.{ℕ, ◌≢◌, Err, Ok, Result, ap, refl}}
use Rattle.{outside.specs.declared.files.Files.{Ghosts as FileGhosts}, call_ends.proofs.Laws.{no_fault, same_fault}}
use Rattle.store_commands.specs.{Common.{BoardFault, Ended, ReadFault, ReadsWord}, Opened.{also_told}}

-- its files may tell what they hold only if something else is told, too
pub reads-also : {E T : Type 0} {F : FileGhosts E} {word : ℕ} {files files' : E} {r : Result T Ended} (told : Type 0)
    → ReadsWord F word files files' r → ReadsWord (also_told F told) word files files' r
reads-also told h = record {
  ended = λ t. h.ended t.0;
  read_fault = h.read_fault;
  others = h.others;
  counts = h.counts;
  not_board = h.not_board;
}

module _ {E T U : Type 0} {F : FileGhosts E} {word : ℕ} {files files' : E} where
  -- it gives nothing
  pub reads-err : {why : Ended} → ReadsWord F {T = T} word files files' (Err why)
      → ReadsWord F {T = U} word files files' (Err why)
  reads-err h = record {
    ended = λ tells. tt;
    read_fault = λ e. h.read_fault (ap Err (same_fault _ _ _ refl e));
    others = h.others;
    counts = λ not. h.counts (λ e. not (ap Err (same_fault _ _ _ refl e)));
    not_board = λ e. h.not_board (ap Err (same_fault _ _ _ refl e));
  }

  -- it goes on with what it read
  pub reads-behind : {x : T} → ReadsWord F {T = T} word files files' (Ok x) → (r : Result U Ended)
      → r ≢ Err ReadFault → r ≢ Err BoardFault → ReadsWord F {T = U} word files files' r
  reads-behind h r not_read not_board = record {
    ended = λ tells. on r (h.ended tells);
    read_fault = λ e. absurd (not_read e);
    others = h.others;
    counts = λ not. h.counts (no_fault _ _ _ refl);
    not_board = not_board;
  }
    where
      on : {P : Type 0} (r : Result U Ended) → P → OnOk r P
      on (Ok y) p = p
      on (Err why) p = tt
