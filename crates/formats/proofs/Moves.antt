-- A reader that moves on, line by line.
use Rattle.std.proofs.Common.{◌≡◌, ℕ, ◌+◌, ◌∙◌, arith}
use Rattle.formats.specs.declared.reader.Reader.{Reader}
use Rattle.formats.specs.Readers.{Advanced, LinesRead}

pub went_more : (k : ℕ) (a b c : Reader) → LinesRead k a b → Advanced b c → LinesRead (k + 1) a c
went_more k a b c w s = record { counted = (let p = w.counted in let q = s.counted in omega arith); same_text = s.same_text ∙ w.same_text }

pub went_past : (k n : ℕ) (a b c : Reader) → k ≡ n → Advanced a b → LinesRead k b c → LinesRead (1 + n) a c
went_past k n a b c e s w = record { counted = (let p = w.counted in let q = s.counted in omega arith); same_text = w.same_text ∙ s.same_text }
