use Rattle.std.proofs.Common.{arith}
use Rattle.rate_page.proofs.Longest.{by_text, in_either}
use Rattle.rate_page.proofs.rated.rate_text.Goals as goal

pub returns : goal.returns
returns c =
    in_either _ _ _ _ c.rate.result
    (λ n h. (h.0, h.1, by_text _ _ _ _ (omega arith) (omega (arith, c.requires)) h.2, h.3, h.5))
    (λ e h. (by_text _ _ _ _ (omega arith) (omega (arith, c.requires)) h.0, h.4))
    c.rate.ensures
