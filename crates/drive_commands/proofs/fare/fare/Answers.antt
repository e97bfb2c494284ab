use Rattle.std.proofs.Common.{[], ℕ, ◌∙◌, ◌≡◌, ◌≢◌, Err, List, ap, arith, inl, inr, refl, rules, sym, ⊎_elim}
use Rattle.{outside.proofs.Laws.{keeps_none}, drive_text.specs.Ending.{IsSplit}, meter_model.specs.Setting.{IsSealOf}}
use Rattle.{drive_source.proofs.Laws.{begins_going}, meter_states.specs.Setting.{IsTariffOf}}
use Rattle.{call_ends.{specs.Ending.{ended_for}, proofs.Laws.{unless_read}}, drive_commands.specs.DriveEnds.{ended_by}}
use Rattle.call_ends.proofs.Laws.{carries-kept, course-refused, course-unprinted, no_fault, read_fault-text, stops_by}
use Rattle.drive_commands.specs.{Common.{IsSettingOf, TableParts, tariff_in}, Fare.{fare_command, setting_of}}
use Rattle.drive_commands.proofs.TariffDrives.{board_fault-ran, course-ran, read_fault-ran, refused-fare, shows_nothing}
use Rattle.call_ends.specs.declared.tariff.TextFault.TheVariants as texts
use Rattle.drive_commands.proofs.fare.fare.Goals as goal

two-one : (n : ℕ) → n ≡ 2 → n ≢ 1
two-one n e = λ f. omega arith

one-two : (n : ℕ) → n ≡ 1 → n ≢ 2
one-two n e = λ f. omega arith

-- nothing of the drive was taken
untouched : (drive left : List ℕ) → left ≡ drive → IsSplit drive [] left
untouched drive left e = record { bytes = sym e }

pub returns-in-Err : goal.returns-in-Err
returns-in-Err g c =
    carries-kept g.F.Files g.B.Printer (fare_command c.args.constant) c.args.files.now c.tables_of_word.new.files
    c.args.board.now c.args.board.now c.args.steps.now c.args.steps.now _ (λ none. none) (λ status w. w)
    (λ tells.
    let rest = g.F.Files.rest in
    let k = c.args.constant in
    let image = g.B.Printer.image c.args.board.now in
    let found = tariff_in (rest c.args.files.now 1) in
    rw c.refused_by.ensures
    (course-unprinted (fare_command k) (rest c.args.files.now) (rest c.tables_of_word.new.files) image _ _ _
    (g.B.Printer.printed c.args.board.now) _
    (course-refused (fare_command k) (rest c.args.files.now) (rest c.tables_of_word.new.files) image _
    (untouched (rest c.args.files.now 2) (rest c.tables_of_word.new.files 2)
    (c.tables_of_word.ensures.others 2 (two-one 2 refl))) refl (λ e. absurd cc) c.in-Err.fault
    (inl refl) (inl (refl, refl)) (shows_nothing k found)
    (λ e. c.tables_of_word.ensures.read_fault (c.in-Err.is ∙ ap Err e))
    (λ why e. refused-fare k found (rest c.args.files.now 2) why
    (c.tables_of_word.ensures.refused why tells (c.in-Err.is ∙ ap Err e))))))
    (λ later le. record {
      taken = [];
      few = omega arith;
      split = λ tells. untouched (g.F.Files.rest c.args.files.now 2) (g.F.Files.rest c.tables_of_word.new.files 2)
          (c.tables_of_word.ensures.others 2 (two-one 2 refl));
      bound = omega (arith, le);
    })
    (stops_by 1 c.tables_of_word.result c.in-Err.fault texts.ReadFault ended_for c.in-Err.is c.refused_by.ensures
    (read_fault-text c.in-Err.fault) (inl refl) c.tables_of_word.ensures.read_fault c.tables_of_word.ensures.others)
    (search rules)
    (λ word not. c.tables_of_word.ensures.others word (λ e. not (inl e)))
    (λ tells word never. c.tables_of_word.ensures.others word (λ e. never [] (inl (e, refl))))
    (unless_read c.tables_of_word.result c.in-Err.fault texts.ReadFault ended_for c.in-Err.is c.refused_by.ensures
    refl c.tables_of_word.ensures.counts) (keeps_none g.B.Printer c.args.board.now)

pub returns : goal.returns
returns g c =
    carries-kept g.F.Files g.B.Printer (fare_command c.args.constant) c.args.files.now c.print_drive-ran.new.files
    c.args.board.now c.print_drive-ran.new.board c.args.steps.now c.print_drive-ran.new.steps _ (λ none. none)
    (λ status w. w)
    (λ tells.
    let rest = g.F.Files.rest in
    let k = c.args.constant in
    let made = c.in-Ok.ensures.found tells in
    let t = made.tree in
    let tables = c.in-Ok.tables in
    let same = c.tables_of_word.ensures.others 2 (two-one 2 refl) in
    let runs = rw same at (c.print_drive-ran.ensures.ends tells) in
    let seal = c.fare_seal-seal.result in
    let of_tariff : IsTariffOf (setting_of k t) tables =
    record {
      tree = t;
      compiled = made.compiled;
      parts = refl;
      constant = ap (λ (p : TableParts). p.constant) made.value;
    } in
    let of_seal : IsSealOf (setting_of k t) seal = record {
      constant = c.fare_seal-seal.ensures.constant;
      mode = c.fare_seal-seal.ensures.mode;
      hold_time = c.fare_seal-seal.ensures.hold;
      offsets = c.fare_seal-seal.ensures.offsets;
    } in
    let is : IsSettingOf (setting_of k t) tables seal = record { tariff = of_tariff; secured = of_seal } in
    let read : rest c.print_drive-ran.new.files 1 ≡ [] =
    c.print_drive-ran.ensures.others 1 (one-two 1 refl) ∙ c.in-Ok.ensures.ended tells in
    rw c.ended_of.ensures
    (course-ran k (rest c.args.files.now) (rest c.print_drive-ran.new.files) (g.B.Printer.image c.args.board.now) _ _ _
    (g.B.Printer.printed c.args.board.now) (g.B.Printer.printed c.print_drive-ran.new.board) tables seal t made.sound
    is read
    c.print_drive-ran.result runs
    (λ e. omega (
      arith,
      c.print_drive-ran.ensures.read_fault e,
      c.tables_of_word.ensures.counts
          (no_fault c.tables_of_word.result c.in-Ok.tables texts.ReadFault c.in-Ok.is) 2,
    ))
    c.print_drive-ran.ensures.board_fault.rose))
    (λ later le.
    let h = c.print_drive-ran.ensures.steps in
    record {
      taken = h.taken;
      few = h.few;
      split =
          λ tells. record { bytes = sym (c.tables_of_word.ensures.others 2 (two-one 2 refl)) ∙ (h.split tells).bytes };
      bound = omega (arith, le, h.bound);
    })
    (λ e.
    let failed = c.print_drive-ran.ensures.read_fault (read_fault-ran c.print_drive-ran.result
    (sym c.ended_of.ensures ∙ e)) in
    record {
      word = 2;
      reads = inr refl;
      rose = omega (
        arith,
        failed,
        c.tables_of_word.ensures.counts
            (no_fault c.tables_of_word.result c.in-Ok.tables texts.ReadFault c.in-Ok.is) 2,
      );
      behind = λ other lt. c.print_drive-ran.ensures.others other (λ e. absurd (omega (arith, lt, e)))
          ∙ c.tables_of_word.ensures.others other (λ e. absurd (omega (arith, lt, e)));
    })
    (record {
      count = λ good. c.print_drive-ran.ensures.board_fault.kept (λ f. good (c.ended_of.ensures ∙ ap ended_by f));
      failed = λ e. c.print_drive-ran.ensures.board_fault.rose (board_fault-ran c.print_drive-ran.result
          (sym c.ended_of.ensures ∙ e));
    })
    (λ word not. c.print_drive-ran.ensures.others word (λ e. not (inr e))
    ∙ c.tables_of_word.ensures.others word (λ e. not (inl e)))
    (λ tells word never.
    let made = c.in-Ok.ensures.found tells in
    c.print_drive-ran.ensures.others word (λ e. never [] (inr (
      e,
      record { tree = made.tree; sound = made.sound; going = begins_going },
    )))
    ∙ c.tables_of_word.ensures.others word (λ e. never [] (inl (e, refl))))
    (λ read good word.
    (c.print_drive-ran.ensures.counts word).kept (λ failed. ⊎_elim (λ f. read (c.ended_of.ensures ∙ ap ended_by f))
    (λ f. good (c.ended_of.ensures ∙ ap ended_by f)) failed)
    ∙ c.tables_of_word.ensures.counts (no_fault c.tables_of_word.result c.in-Ok.tables texts.ReadFault c.in-Ok.is)
    word) (c.print_drive-ran.ensures.store)
