-- A table that was lent, once it is taken back.
use Rattle.std.proofs.Common.{◌≡◌, List, ℕ, sym, ap, ◌∙◌, subst}
use Rattle.network.specs.Network.{Network}
use Rattle.network.specs.Flows.{Greatest}
use Rattle.network.specs.Residual.{carried}
use Rattle.interface.specs.Verdicts.{patterned}

pub greatest_back : (w : Network) (f : List ℕ) (u : Network) (g : List ℕ) → w ≡ u → f ≡ g → Greatest u g → Greatest w f
greatest_back w f u g e q h = subst (λ (x : Network). Greatest x f) (sym e) (subst (λ (x : List ℕ). Greatest u x) (sym q) h)

pub dry_back : (f g : List ℕ) (k : ℕ) → f ≡ g → carried g k ≡ 0 → carried f k ≡ 0
dry_back f g k q h = ap (λ (x : List ℕ). carried x k) q ∙ h

pub set_back : (v w u : Network) (bs : List ℕ) → v ≡ patterned w bs → w ≡ u → v ≡ patterned u bs
set_back v w u bs e q = e ∙ ap (λ (x : Network). patterned x bs) q
