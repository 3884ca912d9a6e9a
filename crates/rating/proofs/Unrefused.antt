-- What an engine does where nothing is missed.
use Rattle.std.proofs.Common.{◌≡◌, ℕ, ◌<◌, ◌≤◌, Bool, cond, eqb, ltb, List, length, Ok, Err, Result, ap, ◌∙◌}
use Rattle.std.proofs.lemmas.Bool.{cond_both, lt-ltb, le-ltb}
use Rattle.network.specs.declared.report.Report.{Report}
use Rattle.network.specs.Governing.{governing}
use Rattle.network.specs.Network.{Network}
use Rattle.network.specs.Reports.{report_of}
use Rattle.network.specs.Residual.{size}
use Rattle.formats.specs.declared.refusal.Refusal.{Refusal}
use Rattle.formats.specs.declared.refusal.Refusal.TheVariants.{FewPlaces, NoSuchPipe, BadLine, WrongLetter}
use Rattle.formats.specs.Letters.{is_pattern}
use Rattle.interface.specs.Verdicts.{with_places, patterned, patterning, reporting, asking}

-- a call has one answer
pub one_answer : {A : Type 0} (r : Result A Refusal) (x y : A) → r ≡ Ok x → r ≡ Ok y → x ≡ y
one_answer r x y p q = cc

-- enough places
pub placed : {A : Type 0} (most places : ℕ) (r : Result A Refusal) → most ≤ places → with_places most places r ≡ r
placed {A} most places r h = ap (λ (b : Bool). cond {A = Result A Refusal} b (Err FewPlaces) r) (le-ltb places most h)

pub asking_is : (most places : ℕ) (w : Network) (k : ℕ) → most ≤ places → k < size w → asking most places w k ≡ Ok (governing w (report_of w) k)
asking_is most places w k h l =
    placed most places (cond (ltb k (size w)) (Ok (governing w (report_of w) k)) (Err NoSuchPipe)) h
    ∙ ap (λ (b : Bool). cond {A = Result Bool Refusal} b (Ok (governing w (report_of w) k)) (Err NoSuchPipe)) (lt-ltb k (size w) l)

pub asked : (most places : ℕ) (u w : Network) (k : ℕ) (r : Result Bool Refusal) (b : Bool) → u ≡ w → most ≤ places → k < size w → r ≡ asking most places u k → r ≡ Ok b → b ≡ governing w (report_of w) k
asked most places u w k r b same h l d e = one_answer r b (governing w (report_of w) k) e (d ∙ ap (λ (v : Network). asking most places v k) same ∙ asking_is most places w k h l)

pub reporting_is : (most places : ℕ) (w : Network) → most ≤ places → reporting most places w ≡ Ok (report_of w)
reporting_is most places w h = placed most places (Ok (report_of w)) h

pub reported : (most places : ℕ) (w : Network) (r : Result Report Refusal) (x : Report) → most ≤ places → r ≡ reporting most places w → r ≡ Ok x → x ≡ report_of w
reported most places w r x h d e = one_answer r x (report_of w) e (d ∙ reporting_is most places w h)

pub pattern_ok : (most places : ℕ) (w u : Network) (bs : List ℕ) → patterning most places w bs ≡ Ok u → u ≡ patterned w bs
pattern_ok most places w u bs =
    let P = (λ (r : Result Network Refusal). r ≡ Ok u → u ≡ patterned w bs) in
    cond_both (ltb places most) (Err FewPlaces) _ P (λ _ h. cc)
    (λ _. cond_both (eqb (length bs) (size w)) _ (Err (BadLine 0)) P
    (λ _. cond_both (is_pattern bs) (Ok (patterned w bs)) (Err (WrongLetter 0)) P (λ _ h. cc) (λ _ h. cc))
    (λ _ h. cc))
