-- The theorems, gathered.
use Rattle.std.proofs.Common.{◌≡◌, ℕ, true, List, sym, refl, ◌∙◌, arith}
use Rattle.std.specs.List.{AllByRecursion}
use Rattle.std.proofs.lemmas.Int.{ints}
use Rattle.std.proofs.lemmas.Bool.{and_parts, false≢true}
use Rattle.network.specs.declared.valve.Valve.{Valve}
use Rattle.network.specs.declared.valve.Valve.TheVariants.{Open, Closed}
use Rattle.network.specs.Cases.{Holds, marked}
use Rattle.network.specs.Changes.{raised}
use Rattle.network.specs.Flows.{Greatest}
use Rattle.network.specs.Governing.{is_open, governing}
use Rattle.network.specs.Network.{Network, Wired}
use Rattle.network.specs.Reports.{least_capacity, report_of}
use Rattle.network.specs.Residual.{pipe}
use Rattle.network.specs.Theorems.{WeakDuality, SealedCuts, GreatestFlows, ByCuts, ByFlow, GoverningPipe}
use Rattle.network.proofs.Balance.{weak_duality_lem, sealed_tight, tight_greatest, tight_minimum}
use Rattle.network.proofs.Enumerated.{least_is, value_is, near_bits, far_bits}
use Rattle.network.proofs.Raising.{governs_raises, governs_least}
use Rattle.network.proofs.Greatest.{no_path, path_greatest, some_greatest, greatest_value, greatest_near, greatest_far, near_minimum, far_minimum, greatest_apart}

pub sealed_cuts_lem : (w : Network) → Wired w → SealedCuts w
sealed_cuts_lem w wired f s h c cl =
    let tight = sealed_tight w wired f h s c cl in
    record { even = tight; greatest = tight_greatest w wired f h s c tight; minimum = tight_minimum w wired f h s c tight }

pub weak : (w : Network) → Wired w → WeakDuality w
weak w wired f s h c = weak_duality_lem w wired f h s c

pub greatest_flows_lem : (w : Network) → Wired w → GreatestFlows w
greatest_flows_lem w wired = record {
  some = some_greatest w wired;
  augmenting = λ f h. (no_path w wired f, path_greatest w wired f h);
  bring = λ f s g m. omega (arith, ints, greatest_value w wired f g, least_is w wired s m);
}

pub by_cuts : (w : Network) → Wired w → ByCuts w
by_cuts w wired =
    let f = some_greatest w wired in
    let apart = greatest_apart w wired f.0 f.1 in
    let near = greatest_near w wired f.0 f.1 in
    let far = greatest_far w wired f.0 f.1 in
    record {
      least = λ s h. least_is w wired s h ∙ sym (value_is w);
      every = near_bits w wired;
      some = far_bits w wired;
      smallest = near_minimum w wired f.0 f.1.flow apart _ _ near far;
      largest = far_minimum w wired f.0 f.1.flow apart _ _ near far;
    }

pub by_flow : (w : Network) → Wired w → (f : List ℕ) → Greatest w f → ByFlow w f
by_flow w wired f g = record {
  value_is = omega (arith, ints, greatest_value w wired f g, value_is w);
  reached = greatest_near w wired f g;
  apart = greatest_far w wired f g;
}

open_is : (v : Valve) → is_open v ≡ true → v ≡ Open
open_is Open e = refl
open_is Closed e = absurd (false≢true e)

pub governing_pipes_of : (w : Network) → Wired w → (k : ℕ) → GoverningPipe w k
governing_pipes_of w wired k = record {
  flows = (λ e. (valve e, (governs_raises w wired k).0 e), λ h. (governs_raises w wired k).1 h.1);
  reports = (
    λ e. (valve e, omega (arith, (governs_least w wired k).0 e, value_is w, value_is (raised w k))),
    λ h. (governs_least w wired k).1 (omega (arith, h.1, value_is w, value_is (raised w k))),
  );
}
  where
    valve : governing w (report_of w) k ≡ true → (pipe w k).valve ≡ Open
    valve e = open_is (pipe w k).valve (and_parts (is_open (pipe w k).valve) _ e).0

pub marked_cases_lem : AllByRecursion Holds marked
unfolding least_capacity report_of
marked_cases_lem = (
  (refl, refl, refl),
  ((refl, refl, refl), ((refl, refl, refl), (refl, ((refl, refl, refl), ((refl, refl, refl), ((refl, refl, refl), ((refl, refl, refl), ((refl, refl, refl), ((refl, refl, refl), tt))))))))),
)
