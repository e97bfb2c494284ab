-- Rules: tests, each with the fact that it decides, and how longer tests are made of shorter ones. So a list of
-- comparisons passes exactly if each of them holds.
use Rattle.std.{specs.{Int.Signed.{le_z_yes}, List.{All, list_all}}, proofs.Common.{refl, subst, sym}}
use Rattle.std.specs.Prelude.{ℕ, ℤ, ⊤, ◌&&◌, ◌<◌, ◌==◌, ◌||◌, ◌≡◌, ◌≤ℤ◌, ◌≤◌, ◌⊎◌, Bool, Decides, IfSome, List, None}
use Rattle.std.specs.Prelude.{Option, Some, T, false, if◌then◌else◌, int_le, nat_le, nat_lt, suc, true, zero}
use Rattle.std.proofs.lemmas.Bool.{false≢true, le-leb, leb-true, Decides.{Decides-ltb, Decides-or}}
use Rattle.std.proofs.lemmas.Bool.Decides.{Decides-and, Decides-below_and, Decides-by_and, Decides-eqb, Decides-like}

-- a test passes exactly if its fact holds
pub record Test : Type 1 where
  pub passes : Bool
  pub Fact : Type 0
  pub decides : Decides passes Fact

-- this test always passes
abbrev pub no_test : Test
no_test = record { passes = true; Fact = ⊤; decides = (λ _. tt, λ _. refl) }

-- the test passes if a number is at most another
abbrev pub at_most : ℕ → ℕ → Test
at_most a b = record { passes = nat_le a b; Fact = a ≤ b; decides = (leb-true a b, le-leb a b) }

-- the test passes if a number is less than another
abbrev pub less : ℕ → ℕ → Test
less a b = record { passes = nat_lt a b; Fact = a < b; decides = Decides-ltb a b }

-- the test passes if two numbers are the same
abbrev pub same : ℕ → ℕ → Test
same a b = record { passes = a == b; Fact = a ≡ b; decides = Decides-eqb a b }

-- a test that holds is true
pub is_true : (b : Bool) → T b → b ≡ true
is_true true holds = refl
is_true false holds = absurd holds

-- the test passes if a signed number is at most another
abbrev pub at_most_signed : ℤ → ℤ → Test
at_most_signed a b = record {
  passes = int_le a b;
  Fact = a ≤ℤ b;
  decides = (λ is. le_z_yes (subst T (sym is) tt), λ most. is_true (int_le a b) most.le);
}

infixl 20 ◌&◌
-- the test passes if both of two tests pass; the second is asked only if the first passes
abbrev pub ◌&◌ : Test → Test → Test
one & two = record {
  passes = one.passes && two.passes;
  Fact = one.Fact × two.Fact;
  decides = Decides-and one.passes two.passes one.decides two.decides;
}

infixl 20 ◌⊕◌
-- two facts, as the fact of both tests
abbrev pub ◌⊕◌ : {P Q : Type 0} → P → Q → P × Q
one ⊕ two = (one, two)

-- the test passes if one of two tests passes, or both do
abbrev pub either : Test → Test → Test
either one two = record {
  passes = one.passes || two.passes;
  Fact = one.Fact ⊎ two.Fact;
  decides = Decides-or one.passes two.passes one.decides two.decides;
}

-- the test passes if a number is from a first one to a last one
abbrev pub within : ℕ → ℕ → ℕ → Test
within first n last = at_most first n & at_most n last

-- a second test that is asked only if a first one passes decides that the second's fact follows from the first's
pub decides_if_passes : {P Q : Type 0} (one two : Bool) → Decides one P → Decides two Q
    → Decides (if one then two else true) (P → Q)
decides_if_passes true two p q = (λ passes holds. q.0 passes, λ fact. q.1 (fact (p.0 refl)))
decides_if_passes false two p q = (λ passes holds. absurd (false≢true (p.1 holds)), λ fact. refl)

-- the test passes if a second test passes, or if a first one doesn't
abbrev pub if_passes : Test → Test → Test
if_passes one two = record {
  passes = if one.passes then two.passes else true;
  Fact = one.Fact → two.Fact;
  decides = decides_if_passes one.passes two.passes one.decides two.decides;
}

-- the test passes if a test passes of each element of a list
abbrev pub each : {A : Type 0} → (A → Test) → List A → Test
each test xs = record {
  passes = list_all (λ x. (test x).passes) xs;
  Fact = All (λ x. (test x).Fact) xs;
  decides = Decides-by_and (λ x. (test x).passes) (λ x. (test x).Fact) (list_all (λ x. (test x).passes))
      (λ x. (test x).decides) refl (λ _ _. refl) xs;
}

-- the answer is true if a test passes of each number below another
abbrev pub passes_below : (ℕ → Bool) → ℕ → Bool
passes_below passes zero = true
passes_below passes (suc n) = passes n && passes_below passes n

-- the test passes if a test passes of each number below another
abbrev pub below : (ℕ → Test) → ℕ → Test
below test n = record {
  passes = passes_below (λ k. (test k).passes) n;
  Fact = (k : ℕ) → k < n → (test k).Fact;
  decides = Decides-below_and (λ k. (test k).passes) (λ k. (test k).Fact) (passes_below (λ k. (test k).passes))
      (λ k. (test k).decides) refl (λ _. refl) n;
}

-- the answer is true if a test passes of what is there, or if nothing is there
abbrev pub passes_if_some : {A : Type 0} → (A → Test) → Option A → Bool
passes_if_some test None = true
passes_if_some test (Some x) = (test x).passes

-- that test decides its fact
pub decides_if_some : {A : Type 0} (test : A → Test) (found : Option A)
    → Decides (passes_if_some test found) (IfSome found (λ x. (test x).Fact))
decides_if_some test None = (λ passes. tt, λ fact. refl)
decides_if_some test (Some x) = (test x).decides

-- the test passes if a test passes of what is there, or if nothing is there
abbrev pub if_some : {A : Type 0} → (A → Test) → Option A → Test
if_some test found = record {
  passes = passes_if_some test found;
  Fact = IfSome found (λ x. (test x).Fact);
  decides = decides_if_some test found;
}

-- the same test, with its fact in other words
abbrev pub stated : (P : Type 0) → (test : Test) → (test.Fact → P) → (P → test.Fact) → Test
stated P test there back = record {
  passes = test.passes;
  Fact = P;
  decides = Decides-like test.passes there back test.decides;
}
