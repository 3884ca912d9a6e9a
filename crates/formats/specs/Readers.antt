-- What a reader has before it, and how it moves on.
use Rattle.std.specs.Prelude.{◌≡◌, ℕ, ◌+◌, List, drop}
use Rattle.formats.specs.declared.reader.Reader.{Reader}
use Rattle.formats.specs.Lines.{after_line}

-- what a reader has not read yet
abbrev pub rest : Reader → List ℕ
rest r = drop r.at r.text.now

-- a reader that has read one line more
pub record Advanced (before after : Reader) : Type 0 where
  pub left : rest after ≡ after_line (rest before)
  pub counted : after.lines ≡ before.lines + 1
  pub same_text : after.text.now ≡ before.text.now

-- a reader that has read n lines more
pub record LinesRead (n : ℕ) (before after : Reader) : Type 0 where
  pub counted : after.lines ≡ before.lines + n
  pub same_text : after.text.now ≡ before.text.now
