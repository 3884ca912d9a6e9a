-- What a search keeps of its labels, and what each part of it does to them.
use Rattle.std.specs.Prelude.{◌≡◌, ℕ, suc, ◌≤◌, Bool, false, ◌⊎◌, List, [], ◌∷◌, map, length, Some, None, MatchBool, Option, ◌≢◌, slice_index, slice_index_or, slice_set}
use Rattle.network.specs.declared.step.Step.{Step}
use Rattle.network.specs.Network.{Network}
use Rattle.network.specs.Residual.{tail, head, weight, Residual}
use Rattle.network.specs.Paths.{Path}
use Rattle.paths.specs.declared.label.Label.{Label}
use Rattle.paths.specs.BestPaths.{length_of, via_at, Chain}

-- the length that a junction is labelled with, and the steps of the path that it was measured on
abbrev pub length_at : {L Λ : Type 0} → (L → Λ) → Λ → List (Label L) → ℕ → Λ
length_at means none ls b = slice_index_or (map (λ l. means l.length) ls) b none

abbrev pub steps_at : {L : Type 0} → List (Label L) → ℕ → ℕ
steps_at ls b = slice_index (map (λ l. l.steps) ls) b

-- at the end of each part of the path the label is at least as good as the part
abbrev pub Over : {Λ : Type 0} → Network → List ℕ → ℕ → (Λ → Λ → Type 0) → Λ → (Λ → ℕ → Λ) → (ℕ → Λ) → List Step → Type 0
Over w f a good start extended at [] = good (at a) start
Over w f a good start extended at (s ∷ ss) = good (at (head w s)) (length_of w f start extended (s ∷ ss)) × Over w f a good start extended at ss

-- the path that the label at b was measured on
pub record Witness {Λ : Type 0} (w : Network) (f : List ℕ) (a : ℕ) (good : Λ → Λ → Type 0) (start : Λ) (extended : Λ → ℕ → Λ) (at : ℕ → Λ) (count : ℕ → ℕ) (b : ℕ) : Type 0 where
  pub steps : List Step
  pub leads : Path w f a steps b
  pub is : at b ≡ length_of w f start extended steps
  pub counted : count b ≡ length steps
  pub over : Over w f a good start extended at steps

pub record Rooted (w : Network) (a : ℕ) (via : ℕ → Option Step) (b : ℕ) : Type 0 where
  pub steps : List Step
  pub chain : Chain w a via steps b

-- at, count and via give the length, the number of steps and the step into each junction
pub record Inv {Λ : Type 0} (w : Network) (f : List ℕ) (a : ℕ) (good : Λ → Λ → Type 0) (start none : Λ) (extended : Λ → ℕ → Λ) (at : ℕ → Λ) (count : ℕ → ℕ) (via : ℕ → Option Step) : Type 0 where
  pub source : at a ≡ start
  pub root : via a ≡ None
  pub reached : (b : ℕ) → (at b ≡ none) ⊎ (Witness w f a good start extended at count b × Rooted w a via b)
  pub came : (b : ℕ) (s : Step) → via b ≡ Some s → (head w s ≡ b) × Residual w f s × good (extended (at (tail w s)) (weight w f s)) (at b)

abbrev pub Kept : {L Λ : Type 0} → Network → List ℕ → ℕ → (L → Λ) → (Λ → Λ → Type 0) → Λ → Λ → (Λ → ℕ → Λ) → List (Label L) → Type 0
Kept w f a means good start none extended ls = Inv w f a good start none extended (length_at means none ls) (steps_at ls) (via_at ls)

-- a label for each junction, and kept
pub record Labelled {L Λ : Type 0} (w : Network) (f : List ℕ) (a : ℕ) (means : L → Λ) (good : Λ → Λ → Type 0) (start none : Λ) (extended : Λ → ℕ → Λ) (ls : List (Label L)) : Type 0 where
  pub wide : length ls ≡ w.junctions
  pub kept : Kept w f a means good start none extended ls

-- the label at the step's end, in ls', is at least as good as the extension of the label at its start, in ls
abbrev pub Relaxed : {L Λ : Type 0} → Network → List ℕ → (L → Λ) → (Λ → Λ → Type 0) → Λ → (Λ → ℕ → Λ) → List (Label L) → List (Label L) → Step → Type 0
Relaxed w f means good none extended ls ls' s = good (length_at means none ls' (head w s)) (extended (length_at means none ls (tail w s)) (weight w f s))

-- what an attempt to improve the label at v by a step from u, of weight c, does:
-- it does nothing where the path to u has every junction, or where the label at v is as good already
abbrev pub Improves : {L Λ : Type 0} → (L → Λ) → (Λ → Λ → Type 0) → Λ → (Λ → ℕ → Λ) → List (Label L) → ℕ → ℕ → ℕ → Step → List (Label L) → Bool → Type 0
Improves {L} means good none extended ls u v c s ls' r =
    MatchBool r
    ((good (length_at means none ls v) (extended (length_at means none ls u) c) → ⊥) × ((x : L) × (means x ≡ extended (length_at means none ls u) c) × (ls' ≡ slice_set ls v (record { length = x; steps = suc (steps_at ls u); via = Some s }))))
    (((length ls ≤ suc (steps_at ls u)) ⊎ good (length_at means none ls v) (extended (length_at means none ls u) c)) × (ls' ≡ ls))

-- labels that follow others: kept, nowhere worse, and unchanged where r is false
pub record Follows {L Λ : Type 0} (w : Network) (f : List ℕ) (a : ℕ) (means : L → Λ) (good : Λ → Λ → Type 0) (start none : Λ) (extended : Λ → ℕ → Λ) (ls ls' : List (Label L)) (r : Bool) : Type 0 where
  pub kept : Kept w f a means good start none extended ls'
  pub better : (b : ℕ) → good (length_at means none ls' b) (length_at means none ls b)
  pub still : r ≡ false → ls' ≡ ls

-- the steps over these pipes have all been relaxed, from the labels ls to ls'
abbrev pub Done : {L Λ : Type 0} → Network → List ℕ → (L → Λ) → (Λ → Λ → Type 0) → Λ → (Λ → ℕ → Λ) → List (Label L) → List (Label L) → (ℕ → Type 0) → Type 0
Done w f means good none extended ls ls' Which = (s : Step) → Which s.pipe → Residual w f s → Relaxed w f means good none extended ls ls' s

-- the labels that a search begins with
pub record Blank {L Λ : Type 0} (means : L → Λ) (start none : Λ) (a : ℕ) (ls : List (Label L)) : Type 0 where
  pub source : length_at means none ls a ≡ start
  pub others : (b : ℕ) → (b ≢ a) → length_at means none ls b ≡ none
  pub uncounted : (b : ℕ) → steps_at ls b ≡ 0
  pub unset : (b : ℕ) → via_at ls b ≡ None

-- no path is better than the label at its end
abbrev pub Best : {L Λ : Type 0} → Network → List ℕ → ℕ → (L → Λ) → (Λ → Λ → Type 0) → Λ → Λ → (Λ → ℕ → Λ) → List (Label L) → Type 0
Best w f a means good start none extended ls = (qs : List Step) (b : ℕ) → Path w f a qs b → good (length_at means none ls b) (length_of w f start extended qs)

-- the same of the paths of at most m steps
abbrev pub Within : {L Λ : Type 0} → Network → List ℕ → ℕ → (L → Λ) → (Λ → Λ → Type 0) → Λ → Λ → (Λ → ℕ → Λ) → ℕ → List (Label L) → Type 0
Within w f a means good start none extended m ls = (qs : List Step) (b : ℕ) → Path w f a qs b → length qs ≤ m → good (length_at means none ls b) (length_of w f start extended qs)
