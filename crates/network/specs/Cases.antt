-- Small networks with their reports: a table that a reader can work out by hand.
use Rattle.std.specs.Prelude.{◌≡◌, ℕ, ◌*◌, ◌^◌, List, [], ◌∷◌, reverse, length, sum_by, filter}
use Rattle.network.specs.declared.valve.Valve.{Valve}
use Rattle.network.specs.declared.valve.Valve.TheVariants.{Open, Closed}
use Rattle.network.specs.Governing.{governing}
use Rattle.network.specs.Network.{Pipe, Network, bare}
use Rattle.network.specs.Reports.{below, minimum_cuts, report_of}
use Rattle.network.specs.Residual.{size}

-- the word of a set of junctions
abbrev pub set_of : List ℕ → ℕ
set_of ks = sum_by (λ k. 2 ^ k) ks

-- the numbers of the governing pipes
abbrev pub governing_pipes_of : Network → List ℕ
governing_pipes_of w = filter (governing w (report_of w)) (reverse (below (size w)))

-- so many minutes at the value of a network
pub record Timed : Type 0 where
  pub minutes : ℕ
  pub network : Network

-- a network with its value, the junctions near and far, the number of its minimum cuts and its governing pipes; or a schedule with its total
pub data Case : Type 0 where
  rated : (w : Network) (value : ℕ) (near far : List ℕ) (cuts : ℕ) (govern : List ℕ) → Case
  totalled : (steps : List Timed) (total : ℕ) → Case

-- what a case says of the definitions
abbrev pub Holds : Case → Type 0
Holds (rated w value near far cuts govern) =
    (report_of w ≡ record { value = value; near = set_of near; far = set_of far }) × (length (minimum_cuts w) ≡ cuts) × (governing_pipes_of w ≡ govern)
Holds (totalled steps total) = sum_by (λ t. t.minutes * (report_of t.network).value) steps ≡ total

-- a pipe; and a network with pump 0
abbrev pub leading : ℕ → ℕ → ℕ → Valve → Pipe
leading a b l v = record { from = a; to = b; limit = l; valve = v }

abbrev pub joined : ℕ → ℕ → List Pipe → Network
joined n out ps = record { junctions = n; pump = 0; outlet = out; pipes = ps }

-- four junctions, five pipes, of which two have valves that a schedule turns
abbrev pub example : Valve → Valve → Network
example a b = joined 4 3 (leading 0 1 30 Open ∷ leading 0 2 20 a ∷ leading 1 2 10 Open ∷ leading 1 3 25 b ∷ leading 2 3 25 Open ∷ [])

-- the example at its three steps, its total, and six networks at the edges
abbrev pub marked : List Case
marked =
    rated (example Open Open) 50 (0 ∷ []) (0 ∷ 1 ∷ 2 ∷ []) 2 []
    ∷ rated (example Open Closed) 25 (0 ∷ 1 ∷ 2 ∷ []) (0 ∷ 1 ∷ 2 ∷ []) 1 (4 ∷ [])
    ∷ rated (example Closed Open) 30 (0 ∷ []) (0 ∷ []) 1 (0 ∷ [])
    ∷ totalled (record { minutes = 60; network = example Open Open } ∷ record { minutes = 30; network = example Open Closed } ∷ record { minutes = 45; network = example Closed Open } ∷ []) 5100
    ∷ rated bare 0 (0 ∷ []) (0 ∷ []) 1 []
    ∷ rated (joined 3 2 []) 0 (0 ∷ []) (0 ∷ 1 ∷ []) 2 []
    ∷ rated (joined 2 1 (leading 0 1 60000 Open ∷ [])) 60000 (0 ∷ []) (0 ∷ []) 1 (0 ∷ [])
    ∷ rated (joined 2 1 (leading 0 1 60000 Closed ∷ [])) 0 (0 ∷ []) (0 ∷ []) 1 []
    ∷ rated (joined 2 1 (leading 0 1 3 Open ∷ leading 0 1 4 Open ∷ leading 1 0 5 Open ∷ [])) 7 (0 ∷ []) (0 ∷ []) 1 (0 ∷ 1 ∷ [])
    ∷ rated (joined 3 2 (leading 0 1 8 Open ∷ leading 1 2 8 Open ∷ [])) 8 (0 ∷ []) (0 ∷ 1 ∷ []) 2 []
    ∷ []
