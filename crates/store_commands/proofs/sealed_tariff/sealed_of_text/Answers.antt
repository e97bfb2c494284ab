use Rattle.std.{specs.Cmp.Lexicographic.{pointwise}, proofs.Common.{◌∙◌, ◌≡◌, Ok, ap, false, refl, subst, sym, true}}
use Rattle.{std.{specs.Prelude.{nat_eq}, proofs.lemmas.Result.{IfOk-weaker}}, sha2.specs.Sha256.{sha256}}
use Rattle.{call_ends.proofs.Laws.{same_fault}, store_commands.specs.SealedTariff.{accepted, sealed_tariff}}
use Rattle.store_commands.specs.{Common.{Ended, tariff_in, tree_of}, TariffSteps.{AreNoTables}}
use Rattle.store_commands.proofs.SealedTariffs.{no_tables-made, tariff-accepted, tariff-wrong}
use Rattle.store_commands.proofs.sealed_tariff.sealed_of_text.Goals as goal

pub returns-then-is_sealed-clause-found : goal.returns-then-is_sealed-clause-found
returns-then-is_sealed-clause-found c =
    let digest = c.args.digest.now in
    let text = c.args.text.now in
    let is : c.is_sealed.result ≡ true = search in
    let same : pointwise nat_eq digest (sha256 text) ≡ true =
    ap (pointwise nat_eq digest) (sym c.digest-own.ensures) ∙ sym c.is_sealed.ensures ∙ is in
    IfOk-weaker c.tariff_of.result (λ checked. tariff_in text ≡ Ok (tree_of checked))
    (λ checked. sealed_tariff digest text ≡ Ok (tree_of checked))
    (λ checked sound. tariff-accepted digest text c.requires same ∙ ap accepted sound)
    c.tariff_of.ensures.found

pub returns-then-is_sealed-clause-refused : goal.returns-then-is_sealed-clause-refused
returns-then-is_sealed-clause-refused c = λ why e.
    let digest = c.args.digest.now in
    let text = c.args.text.now in
    let is : c.is_sealed.result ≡ true = search in
    let same : pointwise nat_eq digest (sha256 text) ≡ true =
    ap (pointwise nat_eq digest) (sym c.digest-own.ensures) ∙ sym c.is_sealed.ensures ∙ is in
    no_tables-made digest text ⊥ why (tariff-accepted digest text c.requires same) (c.tariff_of.ensures.refused why e)

pub returns-clause-refused : goal.returns-clause-refused
returns-clause-refused c = λ why e.
    let digest = c.args.digest.now in
    let text = c.args.text.now in
    let is : c.is_sealed.result ≡ false = search in
    let other : pointwise nat_eq digest (sha256 text) ≡ false =
    ap (pointwise nat_eq digest) (sym c.digest-own.ensures) ∙ sym c.is_sealed.ensures ∙ is in
    subst (λ (w : Ended). AreNoTables digest text ⊥ w) (same_fault _ _ _ refl e)
    (rw c.digest-own.ensures (tariff-wrong digest text c.requires other))

pub returns-then-is_sealed-clause-memory : goal.returns-then-is_sealed-clause-memory
returns-then-is_sealed-clause-memory c = λ e.
    let is : c.is_sealed.result ≡ true = search in
    record {
      sealed = ap (pointwise nat_eq c.args.digest.now) (sym c.digest-own.ensures) ∙ sym c.is_sealed.ensures ∙ is;
      lines = c.tariff_of.ensures.memory e;
    }
