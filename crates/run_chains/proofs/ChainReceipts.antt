-- Receipts of a chain: if a byte of one stands in a text, its entry is in the prefix.
use Rattle.std.proofs.Common.{[], ℕ, ◌++◌, ◌+◌, ◌-◌, ◌<◌, ◌∙◌, ◌∷◌, ◌≡◌, ◌≤◌, ◌⊎◌, List, Ok, Result, ap, append_assoc}
use Rattle.std.proofs.Common.{arith, inl, inr, length, length-append, length-take, subst, sym, take}
use Rattle.{std.proofs.{Math.Seq.{take-append_seam}, lemmas.Bool.{cases_lt}}, outside.specs.PrintedText.{Begins}}
use Rattle.{meter_run.specs.Points.{HasEntryOf, IsNumberedWithin}, drive_commands.specs.Run.{IsCutOfStart, tables_in}}
use Rattle.meter_run.proofs.Laws.{begins_in, changes_joined, receipts_are_numbered_in_order-cut}
use Rattle.meter_run.proofs.Laws.{receipts_have_their_entries-cut, texts_joined, the_number_tells_the_commits-beginning}
use Rattle.run_chains.specs.Chain.{HasByteOf, IsChain, last_image, last_state}
use Rattle.run_chains.specs.Common.{Change, Deed, Does, Durable, Ended, HasState, IsCutOfRun, Prints, Receipt, Seal}
use Rattle.run_chains.specs.Common.{Start, changes_of, deeds_in, entries_of, texts}
use Rattle.run_chains.specs.Link.{IsLink, Link, begun_with, bytes_done, commits_done, deeds_from, last_line, prefix_of}
use Rattle.run_chains.proofs.ChainLinks.{begins_with, line_commits, one_state}
use Rattle.taxi_units.specs.declared.receipt.Receipt as receipts

-- ---- texts

-- the text of a beginning isn't longer
text_begins : (seal : Seal) (xs zs more : List Deed) → xs ≡ zs ++ more → length (texts seal zs) ≤ length (texts seal xs)
text_begins seal xs zs more e =
    omega (
      arith,
      ap (λ (l : List Deed). length (texts seal l)) e,
      ap length (texts_joined seal zs more),
      length-append (texts seal zs) (texts seal more),
    )

-- a deed whose text begins before the text's end is among those that were done or begun
reached_in : (seal : Seal) (done left earlier later : List Deed) (deed : Deed) → done ++ left ≡ earlier ++ deed ∷ later
    → length (texts seal earlier) < length (texts seal done)
    → (more : List Deed) × (done ≡ earlier ++ deed ∷ more)
reached_in seal done left earlier later deed e shorter = by (cases_lt (length earlier) (length done))
  where
    by : (length earlier < length done) ⊎ (length done ≤ length earlier)
        → (more : List Deed) × (done ≡ earlier ++ deed ∷ more)
    by (inr short) =
        let begins = begins_in earlier (deed ∷ later) done left (sym e) short in
        absurd (omega (arith, text_begins seal earlier done begins.0 begins.1))
    by (inl long) =
        let regrouped : done ++ left ≡ (earlier ++ deed ∷ []) ++ later =
        e ∙ sym (append_assoc earlier (deed ∷ []) later) in
        let begins =
        begins_in done left (earlier ++ deed ∷ []) later regrouped (omega (arith, length-append earlier (deed ∷ []))) in
        (begins.0, begins.1 ∙ append_assoc earlier (deed ∷ []) begins.0)

-- ---- one run

text_end : (printed text more : List ℕ) → Begins printed text more → length text ≤ length printed + length more
text_end printed text more h =
    omega (arith, h.within, ap length h.printed, length-append printed (take h.count more), length-take h.count more)

-- what is said of a receipt of a run
pub record IsPrinted (d : Durable) (image : List ℕ) (link : Link) (receipt : receipts.Receipt) : Type 0 where
  pub entry : HasEntryOf receipt (entries_of (prefix_of d image link))
  pub number : IsNumberedWithin d.number link.number receipt

module _ (d : Durable) (image : List ℕ) (link : Link) (has : HasState image d) (is : IsLink d image link) where
  -- what the next image has of the run's commits is the prefix
  by_start : (s : Start) → begun_with image link ≡ Ok s → (receipt : receipts.Receipt) (earlier later : List Deed)
      → deeds_in s (bytes_done image link) ≡ earlier ++ Does (Receipt receipt) ∷ later
      → length (texts s.seal earlier) < length link.text
      → IsCutOfStart (Unit {0}) image [] s (bytes_done image link) (last_line image link) link.image link.text
      → IsPrinted d image link receipt
  by_start s begins receipt earlier later among reached pair =
      let cut = pair.cut in
      let deeds = deeds_in s (bytes_done image link) in
      let line = last_line image link in
      let deed = Does (Receipt receipt) in
      let all : (cut.done ++ cut.next) ++ cut.left ≡ earlier ++ deed ∷ (later ++ Prints line ∷ []) =
      append_assoc cut.done cut.next cut.left ∙ sym cut.split ∙ ap (λ (l : List Deed). l ++ Prints line ∷ []) among
      ∙ append_assoc earlier (deed ∷ later) (Prints line ∷ []) in
      let ends : length link.text ≤ length (texts s.seal (cut.done ++ cut.next)) =
      omega (
        arith,
        text_end (texts s.seal cut.done) link.text (texts s.seal cut.next) (cut.begun tt),
        ap length (texts_joined s.seal cut.done cut.next),
        length-append (texts s.seal cut.done) (texts s.seal cut.next),
      ) in
      let within =
      reached_in s.seal (cut.done ++ cut.next) cut.left earlier (later ++ Prints line ∷ []) deed all (omega arith) in
      let entered : HasEntryOf receipt (entries_of (changes_of cut.kept)) =
      receipts_have_their_entries-cut (tables_in s) s.seal (Unit {0}) s.durable []
      (deeds ++ Prints line ∷ []) link.image link.text cut earlier within.0 receipt within.1 in
      let beginning = the_number_tells_the_commits-beginning (tables_in s) s.seal (Unit {0}) s.durable []
      (deeds ++ Prints line ∷ []) link.image link.text cut in
      let commits : commits_done image link ≡ changes_of deeds =
      ap (λ (r : Result Start Ended). changes_of (deeds_from r (bytes_done image link))) begins in
      let split : commits_done image link ≡ changes_of cut.kept ++ changes_of beginning.0 =
      commits ∙ sym (line_commits deeds line) ∙ ap changes_of beginning.1 ∙ changes_joined cut.kept beginning.0 in
      let found : cut.found ≡ link.found = one_state link.image cut.found link.found cut.stands is.stands in
      let opening : s.durable ≡ d = begins_with image _ d has s begins in
      let counted : link.number - d.number ≡ length (changes_of cut.kept) =
      omega (
        arith,
        is.number,
        cut.follows.number,
        ap (λ (x : Durable). x.number) found,
        ap (λ (x : Durable). x.number) opening,
      ) in
      let prefix : prefix_of d image link ≡ changes_of cut.kept =
      ap (λ (n : ℕ). take n (commits_done image link)) counted ∙ ap (take (length (changes_of cut.kept))) split
      ∙ take-append_seam (changes_of cut.kept) (changes_of beginning.0) in
      let numbered : IsNumberedWithin s.durable.number cut.found.number receipt =
      receipts_are_numbered_in_order-cut (tables_in s) s.seal (Unit {0}) s.durable []
      (deeds ++ Prints line ∷ []) link.image link.text cut earlier within.0 receipt within.1 in
      record {
        entry = subst (λ (l : List Change). HasEntryOf receipt (entries_of l)) (sym prefix) entered;
        number = (
          omega (arith, numbered.0, ap (λ (x : Durable). x.number) opening),
          omega (arith, numbered.1, is.number, ap (λ (x : Durable). x.number) found),
        );
      }

  pub link-receipt : (receipt : receipts.Receipt) → HasByteOf image link receipt → IsPrinted d image link receipt
  link-receipt receipt h =
      let e = h.begins in
      by_start h.start e receipt h.earlier h.later
      (sym (ap (λ (r : Result Start Ended). deeds_from r (bytes_done image link)) e) ∙ h.among) h.reached
      (subst (λ (r : Result Start Ended). IsCutOfRun (Unit {0}) image [] r (bytes_done image link)
      (last_line image link) link.image link.text) e is.pair)

-- ---- each run of a chain

pub chain-receipts : (d : Durable) (image : List ℕ) (runs : List Link) (link : Link) (others : List Link)
    → HasState image d → IsChain d image (runs ++ link ∷ others)
    → (receipt : receipts.Receipt) → HasByteOf (last_image image runs) link receipt
    → IsPrinted (last_state d runs) (last_image image runs) link receipt
chain-receipts d image [] link others has chain receipt h = link-receipt d image link has chain.0 receipt h
chain-receipts d image (first ∷ runs) link others has chain receipt h =
    chain-receipts first.found first.image runs link others chain.0.stands chain.1 receipt h
