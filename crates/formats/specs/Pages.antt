-- The lines of a rating page. Every line ends in a line feed, the byte 10.
use Rattle.std.specs.Prelude.{ℕ, zero, suc, Bool, cond, List, [], ◌∷◌, ◌++◌, map, codes}
use Rattle.network.specs.declared.report.Report.{Report}
use Rattle.network.specs.Cuts.{has}
use Rattle.formats.specs.declared.refusal.Refusal.{Refusal}
use Rattle.formats.specs.Fields.{written}
use Rattle.formats.specs.Refusals as refusals

-- N (78) for the near side, B (66) for the far side without the near, D (68) for the rest
abbrev pub side_letter : Report → ℕ → ℕ
side_letter r k = cond (has r.near k) 78 (cond (has r.far k) 66 68)

-- a letter for each junction
unfoldable pub sides : Report → ℕ → List ℕ
sides r zero = []
sides r (suc n) = sides r n ++ side_letter r n ∷ []

-- G (71) for a governing pipe, a point (46) for another
abbrev pub mark : Bool → ℕ
mark b = cond b 71 46

-- step number, value, and the sides
unfoldable pub rate_line : ℕ → Report → ℕ → List ℕ
rate_line step r junctions = ((codes "RATE" ++ written 5 step) ++ written 9 r.value) ++ sides r junctions ++ 10 ∷ []

-- step number, and a mark for each pipe
unfoldable pub governing_line : ℕ → List Bool → List ℕ
governing_line step bs = (codes "GOVN" ++ written 5 step) ++ map mark bs ++ 10 ∷ []

-- the litres of the whole schedule
unfoldable pub total_line : ℕ → List ℕ
total_line total = codes "TOTL" ++ written 14 total ++ 10 ∷ []

-- a refusal's number and line
unfoldable pub fail_line : Refusal → List ℕ
fail_line e = (codes "FAIL" ++ written 5 (refusals.number e)) ++ written 5 (refusals.line e) ++ 10 ∷ []
