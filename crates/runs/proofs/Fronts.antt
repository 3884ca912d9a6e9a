-- What was written over the front of a space.
use Rattle.std.proofs.Common.{◌≡◌, ℕ, ◌+◌, ◌≤◌, List, ◌++◌, length, take, drop, sym, ap, ◌∙◌, arith, length-append}
use Rattle.std.proofs.lemmas.List.{take_at, drop_at, length-drop}
use Rattle.formats.specs.Spaces.{put_at}

module _ (bs space after : List ℕ) (e : after ≡ put_at 0 bs space) where
  front : after ≡ bs ++ drop (length bs) space
  unfolding put_at
  front = e ∙ ap (λ (n : ℕ). bs ++ drop n space) (let z : 0 + length bs ≡ length bs = omega arith in z)

  module _ (n : ℕ) (long : n ≡ length bs) where
    pub front_taken : take n after ≡ bs
    front_taken = ap (take n) front ∙ take_at bs (drop (length bs) space) n (sym long)

    pub front_dropped : drop n after ≡ drop n space
    front_dropped = ap (drop n) front ∙ drop_at bs (drop (length bs) space) n (sym long) ∙ ap (λ (m : ℕ). drop m space) (sym long)

    pub front_long : n ≤ length space → length after ≡ length space
    front_long h = omega (arith, ap length front, length-append bs (drop (length bs) space), length-drop (length bs) space)
