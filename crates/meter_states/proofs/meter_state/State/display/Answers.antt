use Rattle.std.proofs.Common.{ℕ, ◌∙◌, ◌≡◌}
use Rattle.meter_states.{specs.{Common.{Display}, Core.{CoreData}}, proofs.Settings.{decimals-is}}
use Rattle.meter_states.proofs.meter_state.State.display.Goals as goal

-- displays whose parts are equal are equal
abbrev display_with : CoreData → (fare supplements decimals : ℕ) → Display
display_with c fare supplements decimals = record {
  operating = c.operating;
  position = c.position;
  zone = c.zone;
  fare = fare;
  supplements = supplements;
  decimals = decimals;
}

display-same : {c d : CoreData} {f g x y m n : ℕ} → c ≡ d → f ≡ g → x ≡ y → m ≡ n
    → display_with c f x m ≡ display_with d g y n
display-same of_core fare supplements decimals = cc

pub fare-requires : goal.fare-requires
fare-requires c = record { lawful = c.requires.lawful }

pub returns-clause-value : goal.returns-clause-value
returns-clause-value c = λ s m is e.
    display-same (c.self.view_is ∙ e) (c.fare.ensures.value s m is e) (c.supplements.ensures.value s m e)
    (c.decimals.ensures.value ∙ decimals-is s c.args.tables.now is)

pub returns-clause-exact : goal.returns-clause-exact
returns-clause-exact c =
    display-same c.self.view_is c.fare.ensures.exact c.supplements.ensures.exact c.decimals.ensures.value
